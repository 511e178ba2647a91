use Rattle.std.proofs.Common.{◌∙◌, ap, map}
use Rattle.pm_message.specs.Messages.{stamp_of}
use Rattle.pm_mail.specs.Inner.{lowered}
use Rattle.pm_mail.proofs.Places.{least-more}
use Rattle.pm_mail.proofs.lanes.Lanes.least.Goals as goal

pub loop-lane-preserved : goal.loop-lane-preserved
loop-lane-preserved c =
    let x = c.lane-item.result in
    c.lower_by-least.ensures ∙ (ap (λ l. lowered l (map stamp_of x.waiting.items)) c.loop-lane.invariant
    ∙ least-more c.as_slice-lane-items.result.now c.loop-lane.lane-index x c.loop-lane-test.true c.lane-item.is)
