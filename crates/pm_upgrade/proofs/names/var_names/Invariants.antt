use Rattle.std.proofs.Common.{◌≡◌, map, take}
use Rattle.pm_plan.specs.declared.plan.VarRow.{VarRow}
use Rattle.pm_upgrade.proofs.names.var_names.Given as goal

abbrev pub invariant-loop-row : goal.invariant-loop-row
invariant-loop-row l = l.names ≡ map (λ (v : VarRow). v.name) (take l.row-index l.plan.vars)
