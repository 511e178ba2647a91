use Rattle.std.proofs.Common.{◌∙◌, ap, map}
use Rattle.pm_ends.specs.Ends.{sent_to}
use Rattle.pm_cell.specs.Helds.{out_wire}
use Rattle.pm_cell.proofs.Heard.{sent_more, wires_all}
use Rattle.pm_cell.proofs.hearing.send_all.Goals as goal

pub loop-to-preserved : goal.loop-to-preserved
loop-to-preserved c =
    c.in_ok-send.ensures.ok
    ∙ (ap (sent_to _ _) c.loop-to.invariant ∙ sent_more c.args.clock c.loop-to.yielded _ c.args.outs.now)

pub returns-in_err-send-clause-wires : goal.returns-in_err-send-clause-wires
returns-in_err-send-clause-wires c =
    ap (map out_wire) (c.in_err-send.ensures.err ∙ c.loop-to.invariant)
    ∙ wires_all c.args.clock c.loop-to.yielded c.args.outs.now

pub returns-clause-wires : goal.returns-clause-wires
returns-clause-wires c = ap (map out_wire) c.loop-to.invariant
    ∙ wires_all c.args.clock c.loop-to.yielded c.args.outs.now
