use Rattle.std.proofs.Common.{◌≡◌, ◌+◌, ◌-◌, ◌≤◌, length}
use Rattle.pm_clp.specs.Laid.{in_set}
use Rattle.pm_clp.proofs.Slots.{Trimming}
use Rattle.pm_clp.proofs.records.Records.trim.Given as goal

abbrev pub invariant-loop-at : goal.invariant-loop-at
invariant-loop-at l = record {
  trimming : Trimming l.line l.initial.self-inside.each.items l.self-inside.each.items (in_set l.initial.self-inside.busy) (in_set l.self-inside.busy) l.at;
  within : l.at ≤ l.end;
  limit : l.self-inside.limit ≡ l.initial.self-inside.limit;
  here : l.self-inside.here ≡ l.initial.self-inside.here;
}

abbrev pub decreases-loop-at : goal.decreases-loop-at
decreases-loop-at l = l.end - l.at
