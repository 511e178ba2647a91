use Rattle.std.proofs.Common.{◌∙◌, ap, sym}
use Rattle.pm_mail.specs.Links.{first_of}
use Rattle.pm_mail.proofs.Places.{lanes-taken, lane-messages, popped-first, with_messages}
use Rattle.pm_mail.proofs.lane.take_at.Goals as goal

pub returns-clause-message : goal.returns-clause-message
returns-clause-message c =
    let x = c.index_mut.result.now in
    let e = c.pop_front.ensures in
    popped-first c.pop_front.result x.waiting.items _ _ _ x.waiting.ok.0 e.cases e.items
    ∙ ap first_of (sym (lane-messages c.args.at c.args.lanes.now.items x c.requires c.index_mut.ensures.value))

pub returns-clause-links : goal.returns-clause-links
returns-clause-links c =
    let x = c.index_mut.result.now in
    lanes-taken c.args.at c.args.lanes.now.items x _ c.requires c.index_mut.ensures.value
    (ap (with_messages x.ends) c.pop_front.ensures.rest)
