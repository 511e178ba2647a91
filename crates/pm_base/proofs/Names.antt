-- Names among others.
use Rattle.std.proofs.Common.{◌≡◌, refl, Bool, true, false, ◌||◌, ℕ, List, [], ◌∷◌, ◌++◌}
use Rattle.std.specs.Str.{bytes_eq}
use Rattle.pm_base.specs.Fits.{has_name}

either : (a b c d : Bool) → b ≡ (c || d) → (a || b) ≡ ((a || c) || d)
either true b c d h = refl
either false b c d h = h

pub has_name-append : (name : List ℕ) (xs ys : List (List ℕ)) → has_name name (xs ++ ys) ≡ (has_name name xs || has_name name ys)
has_name-append name [] ys = refl
has_name-append name (x ∷ xs) ys = either (bytes_eq x name) _ _ _ (has_name-append name xs ys)

pub ruleset name_steps = (has_name-append)
