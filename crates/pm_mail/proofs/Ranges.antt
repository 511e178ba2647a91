-- The least receiver from a number on.
use Rattle.std.proofs.Common.{◌≡◌, ℕ, ◌<◌, ◌≤◌, false, List, [], ◌∷◌, Option, Some, None, is_some, refl, ap, arith, subst}
use Rattle.std.specs.Prelude.{IfSome, slice_get}
use Rattle.std.specs.BTreeMap.{BTreeMap, get}
use Rattle.std.specs.BTreeMap.Range.{IsEntryInRange, IsLeBy, IsRangeOf}
use Rattle.std.specs.Ordering.{is_gt, nat_cmp}
use Rattle.std.specs.declared.ops.Bound.TheVariants.{Included, Unbounded}
use Rattle.std.proofs.lemmas.Bool.Decides.{nat_tests}
use Rattle.pm_mail.specs.Heads.{heads_at, or_none}
use Rattle.pm_mail.specs.declared.heads.Head.{Head}

up-to : (a b : ℕ) → a ≤ b → is_gt (nat_cmp a b) ≡ false
up-to a b h = grind (arith, nat_tests, h)

at-most : (a b : ℕ) → is_gt (nat_cmp a b) ≡ false → a ≤ b
at-most a b e = grind (arith, nat_tests, e)

module _ (m : BTreeMap ℕ (List Head)) (start : ℕ) (r : List (ℕ × List Head))
    (range : IsRangeOf nat_cmp (Included start) Unbounded m r) where
  module _ (to : ℕ) (hs : List Head) (rest : List (ℕ × List Head)) (is : r ≡ (to, hs) ∷ rest) where
    found : IsEntryInRange nat_cmp (Included start) Unbounded m (to, hs)
    found = subst (λ z. IfSome (slice_get z 0) (IsEntryInRange nat_cmp (Included start) Unbounded m)) is range.1

    pub found-from : start ≤ to
    found-from = at-most start to found.0.0

    pub found-heads : heads_at to m ≡ hs
    found-heads = ap or_none found.1

    pub found-least : (t : ℕ) → start ≤ t → t < to → heads_at t m ≡ []
    found-least t from below = by (get nat_cmp m t) refl
      where
        by : (o : Option (List Head)) → get nat_cmp m t ≡ o → or_none o ≡ []
        by None e = refl
        by (Some v) e =
            let le = subst (λ z. IfSome (slice_get z 0) (λ (f : ℕ × List Head). IsLeBy nat_cmp f.0 t)) is
            (range.2 t (up-to start t from, tt) (ap is_some e)) in
            let low = at-most to t le in
            absurd (omega (arith, low, below))

  pub found-none : r ≡ [] → (t : ℕ) → start ≤ t → heads_at t m ≡ []
  found-none is t from = ap or_none (range.5 is t (up-to start t from, tt))
