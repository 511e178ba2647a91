-- Lists of numbers, and of links between numbers.
use Rattle.std.specs.Prelude.{ℕ, ◌<◌, ◌≡◌, ◌⊎◌, ◌==◌, ◌||◌, Bool, false, if◌then◌else◌, List, [], ◌∷◌, ◌++◌, Option}
use Rattle.std.specs.Prelude.{slice_get}
use Rattle.std.specs.List.{AllByRecursion}

-- the number stands in the list
abbrev pub has_number : ℕ → List ℕ → Bool
has_number n [] = false
has_number n (k ∷ ks) = n == k || has_number n ks

-- each number is above all before it
abbrev pub AreRising : List ℕ → Type 0
AreRising [] = Unit {0}
AreRising (n ∷ ns) = AllByRecursion (λ (k : ℕ). n < k) ns × AreRising ns

-- the element at a place
abbrev pub nth : {X : Type 0} → List X → ℕ → Option X
nth xs i = slice_get xs i

-- xs goes on as ys
abbrev pub Begins : {X : Type 0} → List X → List X → Type 0
Begins {X} xs ys = (more : List X) × (ys ≡ xs ++ more)

-- two lists of one length, related place by place
abbrev pub Pairs : {X : Type 0} → (X → X → Type 0) → List X → List X → Type 0
Pairs R [] [] = Unit {0}
Pairs R [] (y ∷ ys) = ⊥
Pairs R (x ∷ xs) [] = ⊥
Pairs R (x ∷ xs) (y ∷ ys) = R x y × Pairs R xs ys

-- of these links, each by receiver and sender, who sends to process k
abbrev pub froms_to : ℕ → List (ℕ × ℕ) → List ℕ
froms_to k [] = []
froms_to k (l ∷ ls) = if l.0 == k then l.1 ∷ froms_to k ls else froms_to k ls

-- and to whom process k sends
abbrev pub tos_from : ℕ → List (ℕ × ℕ) → List ℕ
tos_from k [] = []
tos_from k (l ∷ ls) = if l.1 == k then l.0 ∷ tos_from k ls else tos_from k ls

-- a link comes before another: its receiver does, or it is the same and its sender does
abbrev pub IsLinkBefore : ℕ × ℕ → ℕ × ℕ → Type 0
IsLinkBefore a b = (a.0 < b.0) ⊎ ((a.0 ≡ b.0) × (a.1 < b.1))

-- each link comes before all later ones
abbrev pub LinksRise : List (ℕ × ℕ) → Type 0
LinksRise [] = Unit {0}
LinksRise (l ∷ ls) = AllByRecursion (IsLinkBefore l) ls × LinksRise ls

-- both numbers of each link are below n
abbrev pub LinksBelow : ℕ → List (ℕ × ℕ) → Type 0
LinksBelow n ls = AllByRecursion (λ (l : ℕ × ℕ). (l.0 < n) × (l.1 < n)) ls
