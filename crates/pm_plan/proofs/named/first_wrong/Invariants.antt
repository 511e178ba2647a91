use Rattle.std.proofs.Common.{map, length}
use Rattle.pm_base.specs.Names.{is_name}
use Rattle.pm_plan.specs.Numbers.{name_at}
use Rattle.pm_plan.proofs.Leasts.{LeastFrom}
use Rattle.pm_plan.proofs.named.first_wrong.Given as goal
use Rattle.std.specs.Prelude.{not}

abbrev pub invariant-loop-i : goal.invariant-loop-i
invariant-loop-i g l = LeastFrom (λ i. not (is_name (name_at (map g.T.Named.text l.rows) i))) (length (map g.T.Named.text l.rows)) l.i
