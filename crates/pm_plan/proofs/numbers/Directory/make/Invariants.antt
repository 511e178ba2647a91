use Rattle.std.proofs.Common.{◌≡◌, ℕ, List, take, map}
use Rattle.indexmap.specs.IndexMap.{get_by_text}
use Rattle.pm_plan.specs.Numbers.{number_of}
use Rattle.pm_plan.proofs.numbers.Directory.make.Given as goal

abbrev pub invariant-loop-i : goal.invariant-loop-i
invariant-loop-i g l = (n : List ℕ) → get_by_text l.numbers n ≡ number_of (take l.i (map g.T.Named.text l.rows)) n
