-- Keys that a table has and may not have.
use Rattle.std.specs.Prelude.{◌≡◌, ◌⊎◌, ℕ, true, List, [], ◌∷◌}
use Rattle.std.specs.Ordering.{nat_cmp, is_lt}
use Rattle.std.specs.Cmp.Lexicographic.{slice_cmp}
use Rattle.toml.specs.Data.{Members, no_members, member}
use Rattle.pm_scenario.specs.Forms.{is_listed}

-- the keys of a table in its order
abbrev pub keys_of : Members → List (List ℕ)
keys_of no_members = []
keys_of (member k d ms) = k ∷ keys_of ms

-- the key l is listed, or it is k, or it comes after k by its bytes: l is no lesser key that isn't listed
abbrev pub IsListedOrAfter : List (List ℕ) → List ℕ → List ℕ → Type 0
IsListedOrAfter keys k l = (is_listed keys l ≡ true) ⊎ ((l ≡ k) ⊎ (is_lt (slice_cmp nat_cmp k l) ≡ true))
