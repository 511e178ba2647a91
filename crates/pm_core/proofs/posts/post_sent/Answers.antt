use Rattle.std.proofs.Common.{◌∙◌, ap}
use Rattle.pm_mail.specs.Links.{posted}
use Rattle.pm_core.proofs.Posting.{posted_more}
use Rattle.pm_core.proofs.posts.post_sent.Goals as goal

pub loop-one-preserved : goal.loop-one-preserved
loop-one-preserved c =
    c.in_ok-post.ensures.ok
    ∙ (ap (posted c.in-Some.one.to c.args.from c.in-Some.one.message) c.loop-one.invariant
    ∙ posted_more c.args.from c.loop-one.yielded c.in-Some.one c.args.mail.now)
