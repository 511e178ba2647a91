use Rattle.std.proofs.Common.{◌≡◌, ◌++◌, take, map}
use Rattle.pm_scenario.proofs.rules.push_names.Given as goal

abbrev pub invariant-loop-var : goal.invariant-loop-var
invariant-loop-var l = l.names ≡ l.fn.names ++ map (λ v. v.name) (take l.var-index l.vars)
