use Rattle.std.proofs.Common.{◌∙◌, ap}
use Rattle.pm_base.specs.Stamps.{or_lower}
use Rattle.pm_message.specs.Messages.{stamp_of}
use Rattle.pm_mail.proofs.Places.{lowered-more}
use Rattle.pm_mail.proofs.lane.lower_all.Goals as goal

pub loop-message-preserved : goal.loop-message-preserved
loop-message-preserved c =
    let x = c.message-item.result in
    c.lower-least.ensures ∙ (ap (λ s. or_lower s c.loop-message.least) c.stamp.ensures
    ∙ (ap (or_lower (stamp_of x)) c.loop-message.invariant
    ∙ lowered-more
    c.args.line c.args.messages.now c.loop-message.message-index x c.loop-message-test.true c.message-item.is))
