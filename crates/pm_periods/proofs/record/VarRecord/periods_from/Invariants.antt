use Rattle.std.proofs.Common.{◌≡◌, ◌++◌, drop, map}
use Rattle.pm_periods.specs.Laid.{AreLaid, puts_of}
use Rattle.pm_periods.specs.Walks.{alive, spans}
use Rattle.pm_periods.proofs.record.VarRecord.periods_from.Given as goal

abbrev pub invariant-loop-h : goal.invariant-loop-h
invariant-loop-h l = record {
  so_far : spans l.fn.from l.self.parts.base (map alive (puts_of l.h-items)) ≡ l.periods ++ spans l.reached.from l.reached.value (map alive (puts_of (drop l.h-index l.h-items)));
  laid : AreLaid l.reached.value (drop l.h-index l.h-items);
}
