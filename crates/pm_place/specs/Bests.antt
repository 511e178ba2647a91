-- The best process of each variable.
use Rattle.std.specs.Prelude.{◌≡◌, ℕ, ◌+◌, ◌<◌, ◌^◌, List, [], ◌∷◌, ◌++◌, length, get_or, sum}
use Rattle.pm_place.specs.Tallies.{IsBest, cost_at}
use Rattle.pm_place.specs.declared.placing.Placing.{Placing}

-- at each process these accesses cost less than 2 ^ 40
abbrev pub IsCheap : List (List ℕ) → List ℕ → Type 0
IsCheap distances counts = (clp : ℕ) → clp < length distances → cost_at counts distances clp < 2 ^ 40

-- a placing has the best process for one more variable
pub record HasGrown (counts : List ℕ) (distances : List (List ℕ)) (old new : Placing) : Type 0 where
  pub clp : ℕ
  pub part : ℕ
  pub best : IsBest counts distances clp part
  pub at : new.at ≡ old.at ++ clp ∷ []
  pub costs : new.costs ≡ old.costs ++ part ∷ []
  pub total : new.total ≡ old.total + part

-- a placing has the best process for each of these variables
pub record HasBestOfEach (distances : List (List ℕ)) (rows : List (List ℕ)) (p : Placing) : Type 0 where
  pub at : length p.at ≡ length rows
  pub costs : length p.costs ≡ length rows
  pub total : p.total ≡ sum p.costs
  pub best : (var : ℕ) → var < length rows →
      IsBest (get_or rows var []) distances (get_or p.at var 0) (get_or p.costs var 0)
