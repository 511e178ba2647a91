use Rattle.std.proofs.Common.{◌∙◌, ap}
use Rattle.pm_mail.specs.Links.{posted}
use Rattle.pm_core.specs.Mails.{receiver}
use Rattle.pm_core.proofs.Posting.{told_more}
use Rattle.pm_core.proofs.posts.post_told.Goals as goal

pub loop-message-preserved : goal.loop-message-preserved
loop-message-preserved c =
    let m = c.in-Some.message in
    c.in_ok-post.ensures.ok
    ∙ (ap (λ z. posted z c.args.own m c.loop-message.mail) c.receiver-to.ensures
    ∙ (ap (posted (receiver c.args.own c.args.home m) c.args.own m) c.loop-message.invariant
    ∙ told_more c.args.own c.args.home c.loop-message.yielded m c.args.mail.now))
