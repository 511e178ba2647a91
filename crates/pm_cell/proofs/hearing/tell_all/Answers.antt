use Rattle.std.proofs.Common.{◌∙◌, ap, map}
use Rattle.pm_core.specs.Mails.{receiver}
use Rattle.pm_ends.specs.Ends.{sent_to}
use Rattle.pm_cell.specs.Helds.{out_wire}
use Rattle.pm_cell.specs.Sides.{stamped}
use Rattle.pm_cell.proofs.Heard.{told_more, wires_told}
use Rattle.pm_cell.proofs.hearing.tell_all.Goals as goal

pub loop-message-preserved : goal.loop-message-preserved
loop-message-preserved c =
    let m = c.in-Some.message in
    c.in_ok-send.ensures.ok
    ∙ (ap (λ t. sent_to t (stamped c.args.clock m) c.loop-message.outs) c.receiver-to.ensures
    ∙ (ap (sent_to (receiver c.args.own c.args.home m) (stamped c.args.clock m)) c.loop-message.invariant
    ∙ told_more c.args.clock c.args.own c.args.home c.loop-message.yielded m c.args.outs.now))

pub returns-in_err-send-clause-wires : goal.returns-in_err-send-clause-wires
returns-in_err-send-clause-wires c =
    ap (map out_wire) (c.in_err-send.ensures.err ∙ c.loop-message.invariant)
    ∙ wires_told c.args.clock c.args.own c.args.home c.loop-message.yielded c.args.outs.now

pub returns-clause-wires : goal.returns-clause-wires
returns-clause-wires c =
    ap (map out_wire) c.loop-message.invariant
    ∙ wires_told c.args.clock c.args.own c.args.home c.loop-message.yielded c.args.outs.now
