-- Where a variable is drawn to.
use Rattle.std.proofs.Common.{◌≡◌, refl, ℕ, ◌<◌, ◌≤◌, true, IsTrue, ◌↔◌, length, nat_lt, nat_le, arith, inl, inr, if◌then◌else◌, Option, Some, None, subst, sym, ◌∙◌}
use Rattle.std.proofs.lemmas.Bool.{and_parts, and_from, cases_Bool, false≢true}
use Rattle.std.proofs.lemmas.Bool.Decides.{nat_tests}
use Rattle.pm_routes.specs.Routings.{Routing, IsDrawn, place_of, count_at, others_at, is_drawn}
use Rattle.pm_routes.proofs.Finds.{place_of-at, place_of-first}

lt-true : (a b : ℕ) → a < b → nat_lt a b ≡ true
lt-true a b h = grind (arith, nat_tests)

true-lt : (a b : ℕ) → nat_lt a b ≡ true → a < b
true-lt a b h = grind (arith, nat_tests)

le-true : (a b : ℕ) → a ≤ b → nat_le a b ≡ true
le-true a b h = grind (arith, nat_tests)

true-le : (a b : ℕ) → nat_le a b ≡ true → a ≤ b
true-le a b h = grind (arith, nat_tests)

pub is_drawn-told : (r : Routing) (var from : ℕ) → is_drawn r var from ≡ true → IsDrawn r var from
is_drawn-told r var from h =
    let a = and_parts (nat_lt (place_of r.ports from) (length r.ports)) _ h in
    let b = and_parts (nat_lt 0 r.move_after) _ a.1 in
    let c = and_parts (nat_le r.move_after (count_at r var from)) _ b.1 in
    let within = true-lt (place_of r.ports from) (length r.ports) a.0 in
    record {
      port = (place_of r.ports from, within, place_of-at r.ports from within);
      moving = true-lt 0 r.move_after b.0;
      often = true-le r.move_after (count_at r var from) c.0;
      most = true-lt (others_at r var from) (count_at r var from) c.1;
    }

pub is_drawn-from : (r : Routing) (var from : ℕ) → IsDrawn r var from → is_drawn r var from ≡ true
is_drawn-from r var from d =
    let first = place_of-first r.ports from d.port.0 d.port.1 d.port.2 in
    let low = d.port.1 in
    let within : place_of r.ports from < length r.ports = omega (arith, first, low) in
    and_from (nat_lt (place_of r.ports from) (length r.ports)) _ (lt-true (place_of r.ports from) (length r.ports) within)
    (and_from (nat_lt 0 r.move_after) _ (lt-true 0 r.move_after d.moving)
    (and_from (nat_le r.move_after (count_at r var from)) _ (le-true r.move_after (count_at r var from) d.often) (lt-true (others_at r var from) (count_at r var from) d.most)))

pub is_drawn-is : (r : Routing) (var from : ℕ) → IsTrue (is_drawn r var from) ↔ IsDrawn r var from
is_drawn-is r var from = (is_drawn-told r var from, is_drawn-from r var from)

pub exactly : (r : Routing) (var from : ℕ) (o : Option ℕ) → o ≡ (if is_drawn r var from then Some from else None)
    → (o ≡ Some from) ↔ IsDrawn r var from
exactly r var from o is = elim (cases_Bool (is_drawn r var from)) [
  | inl h ↦ (λ _. is_drawn-told r var from h, λ _. rw (is, h) refl)
  | inr h ↦ (
    λ e. absurd (let none : o ≡ None = subst (λ b. o ≡ (if b then Some from else None)) h is in cc),
    λ d. absurd (false≢true (sym h ∙ is_drawn-from r var from d)),
  )
]
