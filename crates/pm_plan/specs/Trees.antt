-- The tree of communication processes (CLPs), by the list of their parents.
use Rattle.std.specs.Prelude.{◌≡◌, ℕ, zero, suc, ◌+◌, ◌==◌, Bool, true, false, ◌||◌}
use Rattle.std.specs.Prelude.{if◌then◌else◌, List, [], ◌∷◌, length, get_or, Option, Some, None}

-- the parent is that one
abbrev pub is_this : ℕ → Option ℕ → Bool
is_this d None = false
is_this d (Some e) = d == e

-- the parent of c; none where c is a root, or is not there
abbrev pub parent : List (Option ℕ) → ℕ → Option ℕ
parent ps c = get_or ps c None

-- c and the CLPs above it; the first argument is how many there may be
abbrev pub ups : ℕ → List (Option ℕ) → Option ℕ → List ℕ
ups fuel ps None = []
ups zero ps (Some c) = []
ups (suc fuel) ps (Some c) = c ∷ ups fuel ps (parent ps c)

-- the one before c on a way up
abbrev pub below_on : ℕ → List ℕ → Option ℕ
below_on c [] = None
below_on c (x ∷ []) = None
below_on c (x ∷ (y ∷ ys)) = if y == c then Some x else below_on c (y ∷ ys)

-- the next one from c on the way to d: the one below c where d is below c, else the parent; c where there is neither
abbrev pub hop_of : List (Option ℕ) → ℕ → Option ℕ → Option ℕ → ℕ
hop_of ps c (Some d) up = d
hop_of ps c None (Some d) = d
hop_of ps c None None = c

-- the neighbour of c towards d
abbrev pub hop : List (Option ℕ) → ℕ → ℕ → ℕ
hop ps c d = hop_of ps c (below_on c (ups (length ps) ps (Some d))) (parent ps c)

-- whether two CLPs are neighbours
abbrev pub edge : List (Option ℕ) → ℕ → ℕ → Bool
edge ps c d = is_this d (parent ps c) || is_this c (parent ps d)

-- the CLPs after c, hop by hop, up to d; the first argument is how many there may be
abbrev pub hops : ℕ → List (Option ℕ) → ℕ → ℕ → List ℕ
hops zero ps c d = []
hops (suc fuel) ps c d = if c == d then [] else (hop ps c d) ∷ hops fuel ps (hop ps c d) d

-- the CLPs after c on the path to d: at most all above c and all above d
abbrev pub path : List (Option ℕ) → ℕ → ℕ → List ℕ
path ps c d = hops (length ps + length ps) ps c d

-- how many edges are between c and d
abbrev pub path_len : List (Option ℕ) → ℕ → ℕ → ℕ
path_len ps c d = length (path ps c d)

-- d is among these
abbrev pub has : ℕ → List ℕ → Bool
has d [] = false
has d (x ∷ xs) = d == x || has d xs

-- from c along edges through these CLPs, of which d is the last
abbrev pub Linked : List (Option ℕ) → ℕ → ℕ → List ℕ → Type 0
Linked ps c d [] = c ≡ d
Linked ps c d (x ∷ xs) = (edge ps c x ≡ true) × Linked ps x d xs

-- none stands twice
abbrev pub Once : List ℕ → Type 0
Once [] = Unit {0}
Once (x ∷ xs) = (has x xs ≡ false) × Once xs

-- these are the CLPs after c on a path to d
pub record IsPath (ps : List (Option ℕ)) (c d : ℕ) (xs : List ℕ) : Type 0 where
  pub linked : Linked ps c d xs
  pub once : Once (c ∷ xs)
