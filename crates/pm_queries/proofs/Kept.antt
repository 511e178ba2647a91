-- What the registered queries keep.
use Rattle.std.proofs.Common.{◌≡◌, ℕ, inl, inr, Bool, true, false, not, cond, List, [], ◌∷◌, filter, refl, ap, sym, ◌∙◌, subst}
use Rattle.std.proofs.lemmas.Bool.{cases_Bool}
use Rattle.std.specs.List.{AllByRecursion}
use Rattle.pm_base.specs.Stamps.{is_below, num_eq}
use Rattle.pm_base.specs.declared.stamp.Line.{Line}
use Rattle.pm_base.specs.declared.stamp.Num.{Num}
use Rattle.pm_periods.specs.Rows.{AreDistinct, IsInOrder, key_lt}
use Rattle.pm_periods.proofs.Ordered.{filter_distinct, filter_in_order}
use Rattle.pm_queries.specs.Queries.{add_reg, finish_in, finish_one, has, has_reg, not_below, registered_key}
use Rattle.pm_queries.specs.Laid.{IsSame, SameRows}
use Rattle.pm_queries.specs.Registering.{IsRegister, RegisterIsKept, others}
use Rattle.pm_queries.specs.declared.registered.Registered.{Registered}
use Rattle.pm_queries.proofs.Rows.{add_reg-distinct, add_reg-in_order, lt}
use Rattle.pm_queries.proofs.Spots.{same-distinct, same-in_order, same-self}

finish_same : (n : Num) (d : ℕ) (xs : List Registered) → SameRows xs (finish_in n d xs).queries
finish_same n d [] = tt
finish_same n d (x ∷ xs) = elim (cases_Bool (num_eq n x.num)) [
  | inl e ↦ rw e (by (has d x.waits))
  | inr e ↦ rw e (record { key = refl; class = refl }, finish_same n d xs)
]
  where
    by : (b : Bool) → SameRows (x ∷ xs) (finish_one d x xs b).queries
    by true = (record { key = refl; class = refl }, same-self xs)
    by false = same-self (x ∷ xs)

others_stay : (n : Num) (d : ℕ) (xs : List Registered) → others n (finish_in n d xs).queries ≡ others n xs
others_stay n d [] = refl
others_stay n d (x ∷ xs) = elim (cases_Bool (num_eq n x.num)) [
  | inl e ↦ rw e (by (has d x.waits) e)
  | inr e ↦ rw e (rw e (ap (λ z. x ∷ z) (others_stay n d xs)))
]
  where
    by : (b : Bool) → num_eq n x.num ≡ true → others n (finish_one d x xs b).queries ≡ others n xs
    by true e = rw e refl
    by false e = rw e refl

pub register-kept : (qs : List Registered) → IsRegister qs → RegisterIsKept qs
register-kept qs r = record {
  new = λ q f. record { order = add_reg-in_order q qs r.order; once = add_reg-distinct q qs f r.once };
  finished = λ n d. record {
    order = same-in_order qs (finish_in n d qs).queries (finish_same n d qs) r.order;
    once = same-distinct qs (finish_in n d qs).queries (finish_same n d qs) r.once;
  };
  trimmed = λ l. record {
    order = filter_in_order registered_key (λ (q : Registered). not (is_below q.stamp l)) qs r.order;
    once = filter_distinct registered_key (λ (q : Registered). not (is_below q.stamp l)) qs r.once;
  };
  others_stay = λ n d. others_stay n d qs;
}
