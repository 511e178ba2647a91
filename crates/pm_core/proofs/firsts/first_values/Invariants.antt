use Rattle.std.proofs.Common.{◌≡◌, map, take}
use Rattle.pm_plan.specs.declared.plan.VarRow.{VarRow}
use Rattle.pm_core.proofs.firsts.first_values.Given as goal

abbrev pub invariant-loop-row : goal.invariant-loop-row
invariant-loop-row l = l.values ≡ map (λ (v : VarRow). v.value) (take l.row-index l.row-items)
