use Rattle.std.proofs.Common.{◌≡◌, ◌++◌, drop}
use Rattle.pm_periods.specs.Laid.{AreLinked, reads_of, told}
use Rattle.pm_periods.specs.Records.{HaveTurns}
use Rattle.pm_periods.proofs.held.tell.Given as goal

abbrev pub invariant-loop-h : goal.invariant-loop-h
invariant-loop-h l = record {
  told : l.fn.gives.items ++ told l.var l.fn.before l.periods ≡ l.gives.items ++ told l.var l.value (drop l.h-index l.periods);
  linked : AreLinked (drop l.h-index l.periods);
  turns : HaveTurns (reads_of (drop l.h-index l.periods));
}
