-- What a directory of communication processes knows.
use Rattle.std.specs.Prelude.{◌≡◌, ℕ, List, length}
use Rattle.indexmap.specs.IndexMap.{get_by_text}
use Rattle.pm_plan.specs.Numbers.{number_of}
use Rattle.pm_plan.specs.declared.numbers.Directory.{Directory}

-- a directory gives each name the number where it stands first among these, and counts them all
pub record KnowsNames (d : Directory) (names : List (List ℕ)) : Type 0 where
  pub numbers : (name : List ℕ) → get_by_text d.numbers name ≡ number_of names name
  pub count : d.count ≡ length names
