use Rattle.std.proofs.Common.{◌≡◌, ◌++◌, List, drop, length}
use Rattle.pm_periods.specs.Laid.{AreLinked, reads_of, renewed}
use Rattle.pm_periods.specs.Records.{HaveTurns}
use Rattle.pm_periods.specs.declared.held.Held.{Held}
use Rattle.pm_periods.proofs.held.renew.Given as goal

abbrev pub invariant-loop-h : goal.invariant-loop-h
invariant-loop-h l = record {
  done : (pre : List Held) × (l.periods ≡ pre ++ drop l.h-index l.fn.periods) × (length pre ≡ l.h-index)
      × (renewed l.fn.before l.fn.periods ≡ pre ++ renewed l.value (drop l.h-index l.fn.periods));
  linked : AreLinked (drop l.h-index l.fn.periods);
  turns : HaveTurns (reads_of (drop l.h-index l.fn.periods));
}
