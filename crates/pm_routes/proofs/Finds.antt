-- The place of a port among the ports.
use Rattle.std.proofs.Common.{rules, ◌≡◌, inl, inr, ℕ, zero, suc, ◌+◌, ◌<◌, ◌≤◌, ◌==◌, cond, List, [], ◌∷◌, length, get_or, drop, arith, sym, ◌∙◌, subst, Option, Some}
use Rattle.std.specs.Option.{unwrap_or}
use Rattle.std.specs.Ordering.{nat_cmp, is_eq}
use Rattle.std.proofs.Math.Seq.{drop-cons}
use Rattle.std.proofs.lemmas.Bool.{cases_Bool}
use Rattle.std.proofs.lemmas.Bool.Decides.{nat_tests}
use Rattle.pm_routes.specs.Routings.{place_of}

pub place_of-most : (ps : List ℕ) (port : ℕ) → place_of ps port ≤ length ps
place_of-most [] port = omega arith
place_of-most (p ∷ ps) port = grind (arith, nat_tests, place_of-most ps port)

-- the port stands at its place
pub place_of-at : (ps : List ℕ) (port : ℕ) → place_of ps port < length ps → get_or ps (place_of ps port) port ≡ port
place_of-at [] port h = absurd (omega (arith, h))
place_of-at (p ∷ ps) port h = grind (arith, nat_tests, place_of-at ps port)

-- and no later than at any of its places
pub place_of-first : (ps : List ℕ) (port k : ℕ) → k < length ps → get_or ps k port ≡ port → place_of ps port ≤ k
place_of-first [] port k h e = absurd (omega (arith, h))
place_of-first (p ∷ ps) port zero h e = grind (arith, nat_tests)
place_of-first (p ∷ ps) port (suc k) h e = grind (arith, nat_tests, place_of-first ps port k)

at-is : (a b : ℕ) → is_eq (nat_cmp a b) ≡ (a == b)
at-is a b = grind (arith, nat_tests, rules)

-- a port put before the others takes its place from a later one
pub first-more : (p : ℕ) (rest : List ℕ) (k n port : ℕ) (new old : Option ℕ)
    → new ≡ cond (is_eq (nat_cmp p port)) (Some k) old → unwrap_or old n ≡ k + 1 + place_of rest port
    → unwrap_or new n ≡ k + place_of (p ∷ rest) port
first-more p rest k n port new old is h = elim (cases_Bool (p == port)) [
  | inl e ↦ (let w = at-is p port ∙ e in rw (is, w, e) (omega arith))
  | inr e ↦ (let w = at-is p port ∙ e in rw (is, w, e) (omega (arith, h)))
]

-- the same of a list from that place on
pub first-at : (ps : List ℕ) (k n port : ℕ) (new old : Option ℕ) (d : ℕ) → k < length ps
    → new ≡ cond (is_eq (nat_cmp (get_or ps k d) port)) (Some k) old
    → unwrap_or old n ≡ k + 1 + place_of (drop (k + 1) ps) port → unwrap_or new n ≡ k + place_of (drop k ps) port
first-at ps k n port new old d low is h =
    let more : suc k ≡ k + 1 = omega arith in
    subst (λ xs. unwrap_or new n ≡ k + place_of xs port) (sym (drop-cons ps k d low))
    (first-more (get_or ps k d) (drop (suc k) ps) k n port new old is (subst (λ m. unwrap_or old n ≡ k + 1 + place_of (drop m ps) port) (sym more) h))
