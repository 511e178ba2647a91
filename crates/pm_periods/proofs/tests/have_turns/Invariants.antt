use Rattle.std.proofs.Common.{take}
use Rattle.pm_periods.specs.Records.{HaveTurns}
use Rattle.pm_periods.proofs.tests.have_turns.Given as goal

abbrev pub invariant-loop-q : goal.invariant-loop-q
invariant-loop-q l = HaveTurns (take l.q-index l.reads)
