use Rattle.pm_ends.proofs.Held.{handed_more}
use Rattle.pm_ends.proofs.in_ends.take_next.Goals as goal

pub returns-clause-item : goal.returns-clause-item
returns-clause-item c = handed_more c.next-post.result c.args.side.now c.next-post.new.self
    c.first.follows.lender-at-none c.next-post.ensures.link c.next-post.ensures.item c.first.follows.holds-at-none.0
