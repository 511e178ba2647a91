-- Lists that are walked through item by item, and counts that stop at their type's end.
use Rattle.std.proofs.Common.{◌≡◌, ◌∙◌, ℕ, ◌+◌, ◌-◌, ◌<◌, List, [], ◌∷◌, ◌++◌, length, length-append, take, drop, get_or, ap, sym, arith, append-nil, append_assoc}
use Rattle.std.proofs.lemmas.Grind.{flat_map-append}
use Rattle.std.proofs.lemmas.List.{take_more, take-append-drop}
use Rattle.std.specs.List.{flat_map}
use Rattle.pm_kernel.specs.Counts.{counted}

pub counted-more : (a b : ℕ) → counted (counted a + b) ≡ counted (a + b)
counted-more a b = omega arith

-- one item more
pub flat-more : {A B : Type 0} (f : A → List B) (xs : List A) (i : ℕ) (x : A) → i < length xs → x ≡ get_or xs i x
    → flat_map f (take (i + 1) xs) ≡ flat_map f (take i xs) ++ f x
flat-more f xs i x lt is =
    ap (flat_map f) (take_more xs i x lt)
    ∙ (ap (λ y. flat_map f (take i xs ++ y ∷ [])) (sym is)
    ∙ (flat_map-append f (take i xs) (x ∷ []) ∙ ap (λ v. flat_map f (take i xs) ++ v) (append-nil (f x))))

pub length-more : {A B : Type 0} (f : A → List B) (xs : List A) (i : ℕ) (x : A) → i < length xs → x ≡ get_or xs i x
    → length (flat_map f (take (i + 1) xs)) ≡ length (flat_map f (take i xs)) + length (f x)
length-more f xs i x lt is =
    ap length (flat-more f xs i x lt is) ∙ length-append (flat_map f (take i xs)) (f x)

-- what stands before an item, at it and behind it
pub flat-parts : {A B : Type 0} (f : A → List B) (xs : List A) (i : ℕ) (x : A) → i < length xs → x ≡ get_or xs i x
    → flat_map f xs ≡ flat_map f (take i xs) ++ (f x ++ flat_map f (drop (i + 1) xs))
flat-parts f xs i x lt is =
    ap (flat_map f) (sym (take-append-drop (i + 1) xs))
    ∙ (flat_map-append f (take (i + 1) xs) (drop (i + 1) xs)
    ∙ (ap (λ v. v ++ flat_map f (drop (i + 1) xs)) (flat-more f xs i x lt is)
    ∙ append_assoc (flat_map f (take i xs)) (f x) (flat_map f (drop (i + 1) xs))))
