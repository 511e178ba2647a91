use Rattle.std.proofs.Common.{◌∙◌, ap, arith, length, ◌<◌}
use Rattle.pm_top.proofs.Speaking.{key-failed}
use Rattle.pm_top.proofs.refusals.say_key.Goals as goal

pub returns-in_err-say_byte : goal.returns-in_err-say_byte
returns-in_err-say_byte g c =
    let items = c.as_bytes-b-items.ensures.value ∙ c.as_str.ensures in
    let here : c.loop-b.b-index < length c.args.key.now = omega (arith, c.loop-b-test.true, ap length items) in
    key-failed _ c.from_residual.result _ _ _ c.args.key.now c.loop-b.b-index 0 here c.from_residual.ensures.0
    c.loop-b.invariant.so_far c.loop-b.invariant.faults c.loop-b.invariant.stalls (rw items at c.in_err-say_byte.ensures)
