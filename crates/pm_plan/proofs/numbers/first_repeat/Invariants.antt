use Rattle.std.proofs.Common.{◌≡◌, ℕ, List, length, take, map}
use Rattle.std.specs.Prelude.{is_some}
use Rattle.indexmap.specs.IndexMap.{get_by_text}
use Rattle.pm_plan.specs.Numbers.{number_of, name_at}
use Rattle.pm_plan.proofs.Leasts.{LeastFrom}
use Rattle.pm_plan.proofs.numbers.first_repeat.Given as goal

abbrev pub invariant-loop-i : goal.invariant-loop-i
invariant-loop-i g l = record {
  none_below : LeastFrom (λ i. is_some (number_of (take i (map g.T.Named.text l.rows)) (name_at (map g.T.Named.text l.rows) i))) (length (map g.T.Named.text l.rows)) l.i;
  known : (n : List ℕ) → get_by_text l.numbers n ≡ number_of (take l.i (map g.T.Named.text l.rows)) n;
}
