-- The path back.
use Rattle.std.proofs.Common.{◌≡◌, ℕ, ◌<◌, ◌==◌, Bool, true, false, ◌||◌, List, [], ◌∷◌, ◌++◌, length, reverse, refl, arith, ap, sym, ◌∙◌, subst, Option}
use Rattle.std.proofs.lemmas.Bool.Decides.{nat_tests}
use Rattle.std.proofs.lemmas.List.{reverse-append}
use Rattle.pm_plan.specs.Trees.{edge, has, is_this, parent, path, Linked, Once}
use Rattle.pm_plan.proofs.Paths.{path_is, path_only}
use Rattle.pm_plan.proofs.Rooted.{Rooted}

or_swap : (a b : Bool) → (a || b) ≡ (b || a)
or_swap true true = refl
or_swap true false = refl
or_swap false true = refl
or_swap false false = refl

or_turn : (a b c : Bool) → (a || (b || c)) ≡ (b || (a || c))
or_turn true true c = refl
or_turn true false c = refl
or_turn false b c = refl

eq_swap : (a b : ℕ) → (a == b) ≡ false → (b == a) ≡ false
eq_swap a b e = grind (arith, nat_tests, e)

or_false : (a b : Bool) → (a || b) ≡ false → (a ≡ false) × (b ≡ false)
or_false true b e = absurd (cc)
or_false false b e = (refl, e)

reverse_one : (x : ℕ) (xs : List ℕ) → reverse (x ∷ xs) ≡ reverse xs ++ x ∷ []
reverse_one x xs = reverse-append (x ∷ []) xs

has_last : (d x : ℕ) (xs : List ℕ) → has d (xs ++ x ∷ []) ≡ ((d == x) || has d xs)
has_last d x [] = refl
has_last d x (y ∷ ys) = ap (λ b. (d == y) || b) (has_last d x ys) ∙ or_turn (d == y) (d == x) (has d ys)

has_reverse : (d : ℕ) (xs : List ℕ) → has d (reverse xs) ≡ has d xs
has_reverse d [] = refl
has_reverse d (x ∷ xs) = ap (has d) (reverse_one x xs) ∙ (has_last d x (reverse xs) ∙ ap (λ b. (d == x) || b) (has_reverse d xs))

once_last : (x : ℕ) (xs : List ℕ) → Once xs → has x xs ≡ false → Once (xs ++ x ∷ [])
once_last x [] once new = (refl, tt)
once_last x (y ∷ ys) once new =
    let n = or_false (x == y) (has x ys) new in
    (has_last y x ys ∙ (ap (λ b. b || has y ys) (eq_swap x y n.0) ∙ once.0), once_last x ys once.1 n.1)

once_reverse : (xs : List ℕ) → Once xs → Once (reverse xs)
once_reverse [] once = tt
once_reverse (x ∷ xs) once = subst Once (sym (reverse_one x xs)) (once_last x (reverse xs) (once_reverse xs once.1) (has_reverse x xs ∙ once.0))

edge_swap : (ps : List (Option ℕ)) (c d : ℕ) → edge ps c d ≡ true → edge ps d c ≡ true
edge_swap ps c d e = or_swap (is_this c (parent ps d)) (is_this d (parent ps c)) ∙ e

linked_last : (ps : List (Option ℕ)) (d x c : ℕ) (ys : List ℕ) → Linked ps d x ys → edge ps x c ≡ true → Linked ps d c (ys ++ c ∷ [])
linked_last ps d x c [] l e = (ap (λ y. edge ps y c) l ∙ e, refl)
linked_last ps d x c (y ∷ ys) l e = (l.0, linked_last ps y x c ys l.1 e)

-- a way from d back to c by these
record Back (ps : List (Option ℕ)) (c d : ℕ) (xs : List ℕ) : Type 0 where
  ys : List ℕ
  same : reverse (c ∷ xs) ≡ d ∷ ys
  linked : Linked ps d c ys

back : (ps : List (Option ℕ)) (c d : ℕ) (xs : List ℕ) → Linked ps c d xs → Back ps c d xs
back ps c d [] l = record { ys = []; same = ap (λ z. z ∷ []) l; linked = sym l }
back ps c d (x ∷ xs) l =
    let b = back ps x d xs l.1 in
    record {
      ys = b.ys ++ c ∷ [];
      same = reverse_one c (x ∷ xs) ∙ ap (λ z. z ++ c ∷ []) b.same;
      linked = linked_last ps d x c b.ys b.linked (edge_swap ps c x l.0);
    }

-- the path back has the same CLPs in reverse
pub path_back : (ps : List (Option ℕ)) (ok : Rooted ps) (c d : ℕ) → c < length ps → d < length ps → reverse (c ∷ path ps c d) ≡ d ∷ path ps d c
path_back ps ok c d lc ld =
    let p = path_is ps ok c d lc ld in
    let b = back ps c d (path ps c d) p.linked in
    let once : Once (d ∷ b.ys) = subst Once b.same (once_reverse (c ∷ path ps c d) p.once) in
    b.same ∙ ap (λ z. d ∷ z) (path_only ps ok d c b.ys ld lc (record { linked = b.linked; once = once }))
