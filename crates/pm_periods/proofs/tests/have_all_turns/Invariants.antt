use Rattle.std.proofs.Common.{drop}
use Rattle.pm_periods.specs.Laid.{reads_of}
use Rattle.pm_periods.specs.Records.{HaveTurns}
use Rattle.pm_periods.proofs.tests.have_all_turns.Given as goal

abbrev pub invariant-loop-h : goal.invariant-loop-h
invariant-loop-h l = HaveTurns (reads_of (drop l.h-index l.periods)) → HaveTurns (reads_of l.periods)
