use Rattle.std.proofs.Common.{◌≡◌, ℕ, ◌+◌, ◌-◌, length}
use Rattle.pm_clp.specs.Laid.{in_set}
use Rattle.pm_clp.proofs.var_set.VarSet.reach.Given as goal

abbrev pub invariant-loop-self : goal.invariant-loop-self
invariant-loop-self l = (v : ℕ) → in_set l.self-inside.words.items v ≡ in_set l.initial.self-inside.words.items v

abbrev pub decreases-loop-self : goal.decreases-loop-self
decreases-loop-self l = l.at + 1 - length l.self-inside.words.items
