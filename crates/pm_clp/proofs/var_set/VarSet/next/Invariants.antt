use Rattle.std.proofs.Common.{◌≡◌, ◌<◌, ◌≤◌, ◌-◌, ℕ, List, false}
use Rattle.pm_clp.specs.Laid.{in_set}
use Rattle.pm_clp.proofs.var_set.VarSet.next.Given as goal

pub record Skipped (words : List ℕ) (from at : ℕ) : Type 0 where
  pub low : from ≤ at
  pub none : (v : ℕ) → from ≤ v → v < at → in_set words v ≡ false

abbrev pub invariant-loop-at : goal.invariant-loop-at
invariant-loop-at l = Skipped l.self-inside.words.items l.from l.at

abbrev pub decreases-loop-at : goal.decreases-loop-at
decreases-loop-at l = l.end - l.at
