use Rattle.std.proofs.Common.{map, length, get_or}
use Rattle.std.specs.Prelude.{nat_le}
use Rattle.pm_plan.proofs.Leasts.{LeastFrom}
use Rattle.pm_plan.proofs.check.first_var_nowhere.Given as goal

abbrev pub invariant-loop-i : goal.invariant-loop-i
invariant-loop-i l = LeastFrom (λ i. nat_le l.clps (get_or (map (λ v. v.at) l.vars) i 0)) (length (map (λ v. v.at) l.vars)) l.i
