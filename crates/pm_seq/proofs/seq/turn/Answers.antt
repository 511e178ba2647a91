use Rattle.std.proofs.Common.{◌∙◌, sym, ap, arith}
use Rattle.pm_model.specs.Runs.{due, least_stamp}
use Rattle.pm_model.proofs.Turns.{least-due}
use Rattle.pm_seq.proofs.Running.{running-moves}
use Rattle.pm_seq.proofs.seq.turn.Goals as goal

pub deed-requires-clause-time : goal.deed-requires-clause-time
deed-requires-clause-time c =
    let least = ap (least_stamp 0) (sym c.as_slice.ensures) ∙ sym c.in-Some.ensures in
    let by = least-due c.args.plan.now c.args.state.now c.in-Some.stamp c.requires.timely least in
    omega (arith, by, c.requires.limits.horizon)

pub returns-clause-running : goal.returns-clause-running
returns-clause-running c =
    let least = ap (least_stamp 0) (sym c.as_slice.ensures) ∙ sym c.in-Some.ensures in
    running-moves c.args.plan.now c.args.state.now _ c.args.queue.now c.advance.new.due c.in-Some.stamp c.in-Some-get.row.now c.in-Some-get-2.agent.now
    c.in_ok-done.done c.due-next.result c.requires least (sym c.in-Some-get.ensures.value) (sym c.in-Some-get-2.ensures.value)
    (rw c.as_slice-2.ensures at c.in_ok-done.ensures) (c.due-next.ensures ∙ ap (due c.args.plan.now) c.later.ensures) c.set.ensures c.in_ok-advance.ensures.ok
