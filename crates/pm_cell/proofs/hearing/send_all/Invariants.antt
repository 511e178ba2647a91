use Rattle.std.proofs.Common.{◌≡◌}
use Rattle.pm_cell.specs.Turns.{sent_all}
use Rattle.pm_cell.proofs.hearing.send_all.Given as goal

abbrev pub invariant-loop-to : goal.invariant-loop-to
invariant-loop-to l = l.outs ≡ sent_all l.clock l.yielded l.fn.outs
