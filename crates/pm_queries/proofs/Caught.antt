-- Queries that are caught up, one after another.
use Rattle.std.proofs.Common.{◌≡◌, ℕ, suc, ◌+◌, ◌<◌, inl, inr, Bool, true, false, cond, ◌&&◌, ◌==◌, List, [], ◌∷◌, ◌++◌, length, get_or, set, take, drop, map, filter, refl, arith, ap, ap₂, sym, ◌∙◌, subst, append_assoc}
use Rattle.std.proofs.lemmas.Bool.{cases_Bool}
use Rattle.std.proofs.lemmas.Bool.Decides.{nat_tests}
use Rattle.std.proofs.lemmas.List.{map-append, set-get_or, take_more}
use Rattle.std.proofs.lemmas.List.Elements.{filter-append}
use Rattle.pm_ranges.specs.Known.{Known}
use Rattle.pm_queries.specs.Queries.{ask_of, asks_at, catches_by, caught_by, class_queries}
use Rattle.pm_queries.specs.Laid.{IsSame, SameRows}
use Rattle.pm_queries.specs.declared.registered.Registered.{Registered}
use Rattle.pm_queries.specs.declared.registered.Sent.{Sent}
use Rattle.pm_queries.proofs.Spots.{same-written}

pub caught-same : (b : Known) (d k : ℕ) (r : Registered) → IsSame r (caught_by b d k r)
caught-same b d k r = by (catches_by b d k r)
  where
    by : (c : Bool) → IsSame r (cond c (record r { sent = r.sent ++ d ∷ [] }) r)
    by true = record { key = refl; class = refl }
    by false = record { key = refl; class = refl }

pub caught-other : (b : Known) (d k : ℕ) (r : Registered) → (r.class ≡ k → ⊥) → caught_by b d k r ≡ r
caught-other b d k r h = (let g : (k == r.class) ≡ false = grind (arith, nat_tests, h) in rw g refl)

-- what is sent of all is what is sent of the class
pub catches-class : (b : Known) (d k : ℕ) (xs : List Registered)
    → filter (catches_by b d k) (class_queries k xs) ≡ filter (catches_by b d k) xs
catches-class b d k [] = refl
catches-class b d k (x ∷ xs) = (let again = catches-class b d k xs in elim (cases_Bool (k == x.class)) [
  | inl e ↦
      ap (λ c. filter (catches_by b d k) (cond c (x ∷ class_queries k xs) (class_queries k xs))) e
      ∙ ap (λ z. cond (catches_by b d k x) (x ∷ z) z) again
  | inr e ↦
      let h : catches_by b d k x ≡ false = rw e refl in
      ap (λ c. filter (catches_by b d k) (cond c (x ∷ class_queries k xs) (class_queries k xs))) e
      ∙ (again ∙ sym (ap (λ c. cond c (x ∷ filter (catches_by b d k) xs) (filter (catches_by b d k) xs)) h))
])

-- one more is caught up
pub asks-more : (p : Registered → Bool) (d : ℕ)
    (xs : List Registered) (i : ℕ) (x : Registered) (before now next : List Sent) → i < length xs → x ≡ get_or xs i x
    → now ≡ before ++ asks_at d (filter p (take i xs))
    → next ≡ now ++ cond (p x) (asks_at d (x ∷ [])) [] → next ≡ before ++ asks_at d (filter p (take (i + 1) xs))
asks-more p d xs i x before now next low at so_far is =
    let ask : Registered → Sent = λ r. record { to = d; message = ask_of r } in
    let more : filter p (take (i + 1) xs) ≡ filter p (take i xs) ++ filter p (x ∷ []) =
    ap (filter p) (take_more xs i x low ∙ ap (λ z. take i xs ++ z ∷ []) (sym at))
    ∙ filter-append p (take i xs) (x ∷ []) in
    is ∙ (ap₂ (λ a b. a ++ b) so_far (by (p x))
    ∙ (append_assoc before (asks_at d (filter p (take i xs))) (asks_at d (filter p (x ∷ [])))
    ∙ ap (λ z. before ++ z) (sym (ap (asks_at d) more ∙ map-append ask (filter p (take i xs)) (filter p (x ∷ []))))))
  where
    by : (c : Bool) → cond c (asks_at d (x ∷ [])) [] ≡ asks_at d (cond c (x ∷ []) [])
    by true = refl
    by false = refl

-- where one couldn't be caught up, those before it were
pub caught-err : (g : Registered → Registered)
    → ((r : Registered) → IsSame r (g r)) → (xs ys : List Registered) (i : ℕ) (x new : Registered)
    → ys ≡ map g (take i xs) ++ drop i xs → x ≡ get_or ys i x → new ≡ x → SameRows xs (set ys i new)
caught-err g kept xs ys i x new so_far at is =
    subst (SameRows xs) (sym (ap (set ys i) (is ∙ at) ∙ (set-get_or ys i x ∙ so_far))) (same-written g kept xs i)
