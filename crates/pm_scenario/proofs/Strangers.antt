-- The key that a walk tells is the least of those that aren't listed.
use Rattle.std.proofs.Common.{◌≡◌, refl, sym, ap, subst, ◌∙◌, ℕ, ◌⊎◌, Bool, true, false, List, [], ◌∷◌, Option, Some, None, Ordering, Less, Equal, Greater, nat_cmp, is_lt, inl, inr, ⊎_elim}
use Rattle.std.proofs.lemmas.Bool.{false≢true}
use Rattle.std.proofs.lemmas.Cmp.{nat_list_cmp_total}
use Rattle.std.proofs.lemmas.List.Elements.{Contains-append_left, Contains-append_right, Contains-push}
use Rattle.std.specs.Cmp.Lexicographic.{texts_ties, same_text}
use Rattle.std.specs.Cmp.Lexicographic.{slice_cmp}
use Rattle.std.specs.Prelude.{if◌then◌else◌}
use Rattle.std.specs.List.{AllByRecursion, Contains}
use Rattle.std.specs.Ordering.{is_eq, ordering_reverse}
use Rattle.toml.specs.Data.{Members, no_members, member}
use Rattle.pm_scenario.specs.Forms.{is_listed, lesser, least_of, strange}
use Rattle.pm_scenario.specs.Strangers.{keys_of, IsListedOrAfter}

-- l is k, or comes after it
abbrev IsFrom : List ℕ → List ℕ → Type 0
IsFrom k l = (l ≡ k) ⊎ (is_lt (slice_cmp nat_cmp k l) ≡ true)

less : (o : Ordering) → is_lt o ≡ true → o ≡ Less
less Less h = refl
less Equal h = absurd (false≢true h)
less Greater h = absurd (false≢true h)

same : (k l : List ℕ) → slice_cmp nat_cmp k l ≡ Equal → k ≡ l
same k l e = same_text k l (sym (texts_ties k l ∙ ap is_eq e))

-- what isn't less is the same or after
from_rest : (k l : List ℕ) (o : Ordering) → slice_cmp nat_cmp k l ≡ o → is_lt o ≡ false → IsFrom l k
from_rest k l Less e h = absurd (false≢true (sym h))
from_rest k l Equal e h = inl (same k l e)
from_rest k l Greater e h = inr (ap is_lt (nat_list_cmp_total.antisymm l k ∙ ap ordering_reverse e))

IsFrom-trans : (j k l : List ℕ) → IsFrom j k → IsFrom k l → IsFrom j l
IsFrom-trans j k l (inl e) h = subst (λ (m : List ℕ). IsFrom m l) e h
IsFrom-trans j k l (inr g) (inl e) = inr (subst (λ (m : List ℕ). is_lt (slice_cmp nat_cmp j m) ≡ true) (sym e) g)
IsFrom-trans j k l (inr g) (inr h) = inr (ap is_lt (nat_list_cmp_total.trans j k l (less (slice_cmp nat_cmp j k) g) (less (slice_cmp nat_cmp k l) h)))

module _ (k l : List ℕ) where
  chosen : (b : Bool) → is_lt (slice_cmp nat_cmp k l) ≡ b → IsFrom (if b then k else l) k × IsFrom (if b then k else l) l
  chosen true h = (inl refl, inr h)
  chosen false h = (from_rest k l (slice_cmp nat_cmp k l) refl h, inl refl)

-- the lesser comes from neither's back
lesser_first : (other : Option (List ℕ)) (k : List ℕ) → IsFrom (lesser other k) k
lesser_first None k = inl refl
lesser_first (Some l) k = (chosen k l (is_lt (slice_cmp nat_cmp k l)) refl).0

lesser_second : (other : Option (List ℕ)) (k l : List ℕ) → other ≡ Some l → IsFrom (lesser other k) l
lesser_second None k l e = absurd (cc)
lesser_second (Some m) k l e = let there : m ≡ l = cc in
    subst (λ (j : List ℕ). IsFrom (lesser (Some m) k) j) there (chosen k m (is_lt (slice_cmp nat_cmp k m)) refl).1

abbrev Bound : List (List ℕ) → Option (List ℕ) → Members → List ℕ → Type 0
Bound keys other ms k = AllByRecursion (IsListedOrAfter keys k) (keys_of ms) × ((l : List ℕ) → other ≡ Some l → IsFrom k l)

bound_at : (keys : List (List ℕ)) (b : Bool) (other : Option (List ℕ)) (m k : List ℕ) (ms : Members) → is_listed keys m ≡ b →
    Bound keys (if b then other else Some (lesser other m)) ms k → AllByRecursion (IsListedOrAfter keys k) (m ∷ keys_of ms) × ((l : List ℕ) → other ≡ Some l → IsFrom k l)
bound_at keys true other m k ms listed h = ((inl listed, h.0), h.1)
bound_at keys false other m k ms listed h =
    let near = h.1 (lesser other m) refl in
    ((inr (IsFrom-trans k (lesser other m) m near (lesser_first other m)), h.0), λ l e. IsFrom-trans k (lesser other m) l near (lesser_second other m l e))

bound : (keys : List (List ℕ)) (other : Option (List ℕ)) (ms : Members) (k : List ℕ) → least_of keys other ms ≡ Some k → Bound keys other ms k
bound keys other no_members k e = (tt, λ l h. let there : l ≡ k = cc in inl there)
bound keys other (member m d ms) k e =
    bound_at keys (is_listed keys m) other m k ms refl (bound keys (if is_listed keys m then other else Some (lesser other m)) ms k e)

pub strange_least : (keys : List (List ℕ)) (ms : Members) (k : List ℕ) → strange keys ms ≡ Some k → AllByRecursion (IsListedOrAfter keys k) (keys_of ms)
strange_least keys ms k e = (bound keys None ms k e).0

picked : (l m k : List ℕ) (b : Bool) → (if b then m else l) ≡ k → (Some l ≡ Some k) ⊎ (m ≡ k)
picked l m k true e = inr e
picked l m k false e = inl (ap Some e)

picks : (other : Option (List ℕ)) (m k : List ℕ) → lesser other m ≡ k → (other ≡ Some k) ⊎ (m ≡ k)
picks None m k e = inr e
picks (Some l) m k e = picked l m k (is_lt (slice_cmp nat_cmp m l)) e

-- k is one of these keys, and isn't listed
abbrev IsStranger : List (List ℕ) → List (List ℕ) → List ℕ → Type 0
IsStranger keys ks k = Contains ks k × (is_listed keys k ≡ false)

later : (keys : List (List ℕ)) (m : List ℕ) (ks : List (List ℕ)) (k : List ℕ) → IsStranger keys ks k → IsStranger keys (m ∷ ks) k
later keys m ks k h = (Contains-append_right (m ∷ []) ks k h.0, h.1)

at_front : (keys : List (List ℕ)) (m : List ℕ) (ks : List (List ℕ)) (k : List ℕ) → is_listed keys m ≡ false → m ≡ k → IsStranger keys (m ∷ ks) k
at_front keys m ks k listed e =
    subst (λ (j : List ℕ). IsStranger keys (m ∷ ks) j) e (Contains-append_left (m ∷ []) ks m (Contains-push [] m), listed)

stranger_at : (keys : List (List ℕ)) (b : Bool) (other : Option (List ℕ)) (m k : List ℕ) (ks : List (List ℕ)) → is_listed keys m ≡ b →
    ((if b then other else Some (lesser other m)) ≡ Some k) ⊎ IsStranger keys ks k → (other ≡ Some k) ⊎ IsStranger keys (m ∷ ks) k
stranger_at keys true other m k ks listed (inl e) = inl e
stranger_at keys true other m k ks listed (inr h) = inr (later keys m ks k h)
stranger_at keys false other m k ks listed (inl e) =
    let told : lesser other m ≡ k = cc in
    ⊎_elim (λ here. inl here) (λ here. inr (at_front keys m ks k listed here)) (picks other m k told)
stranger_at keys false other m k ks listed (inr h) = inr (later keys m ks k h)

stranger : (keys : List (List ℕ)) (other : Option (List ℕ)) (ms : Members) (k : List ℕ) → least_of keys other ms ≡ Some k → (other ≡ Some k) ⊎ IsStranger keys (keys_of ms) k
stranger keys other no_members k e = inl e
stranger keys other (member m d ms) k e =
    stranger_at keys (is_listed keys m) other m k (keys_of ms) refl (stranger keys (if is_listed keys m then other else Some (lesser other m)) ms k e)

only_stranger : (keys ks : List (List ℕ)) (k : List ℕ) → (None ≡ Some k) ⊎ IsStranger keys ks k → IsStranger keys ks k
only_stranger keys ks k (inl e) = absurd (cc)
only_stranger keys ks k (inr h) = h

pub strange_stranger : (keys : List (List ℕ)) (ms : Members) (k : List ℕ) → strange keys ms ≡ Some k → IsStranger keys (keys_of ms) k
strange_stranger keys ms k e = only_stranger keys (keys_of ms) k (stranger keys None ms k e)

-- all of these keys are listed
abbrev AreListed : List (List ℕ) → List (List ℕ) → Type 0
AreListed keys ks = AllByRecursion (λ l. is_listed keys l ≡ true) ks

listed_at : (keys : List (List ℕ)) (b : Bool) (other : Option (List ℕ)) (m : List ℕ) (ks : List (List ℕ)) → is_listed keys m ≡ b →
    ((if b then other else Some (lesser other m)) ≡ None) × AreListed keys ks → (other ≡ None) × AreListed keys (m ∷ ks)
listed_at keys true other m ks listed h = (h.0, (listed, h.1))
listed_at keys false other m ks listed h = let e = h.0 in absurd (cc)

all_listed : (keys : List (List ℕ)) (other : Option (List ℕ)) (ms : Members) → least_of keys other ms ≡ None → (other ≡ None) × AreListed keys (keys_of ms)
all_listed keys other no_members e = (e, tt)
all_listed keys other (member m d ms) e =
    listed_at keys (is_listed keys m) other m (keys_of ms) refl (all_listed keys (if is_listed keys m then other else Some (lesser other m)) ms e)

pub strange_none : (keys : List (List ℕ)) (ms : Members) → strange keys ms ≡ None → AreListed keys (keys_of ms)
strange_none keys ms e = (all_listed keys None ms e).1
