use Rattle.std.proofs.Common.{◌≡◌}
use Rattle.pm_cell.specs.Turns.{told_all}
use Rattle.pm_cell.proofs.hearing.tell_all.Given as goal

abbrev pub invariant-loop-message : goal.invariant-loop-message
invariant-loop-message l = l.outs ≡ told_all l.clock l.own l.home l.yielded l.fn.outs
