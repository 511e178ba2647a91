-- The ends as they are held, and as contracts see them.
use Rattle.std.proofs.Common.{ℕ, zero, suc, ◌≡◌, ◌<◌, ◌≤◌, ◌≢◌, Bool, true, false, cond, List, [], ◌∷◌, ◌++◌, length}
use Rattle.std.proofs.Common.{get_or, set, map, slice_get, refl, sym, ap, ◌∙◌, subst, arith, append_assoc, ◌+◌, take}
use Rattle.std.proofs.Common.{Option, Some, None, MatchOption, Result, Ok, Err, OnOk, OnErr, inl, inr}
use Rattle.std.specs.Prelude.{nat_lt}
use Rattle.std.specs.List.{AllByRecursion}
use Rattle.std.proofs.Math.Seq.{map-set_same}
use Rattle.std.proofs.lemmas.List.{map-append, map-set, take_more}
use Rattle.std.proofs.lemmas.Option.{get_or_from_slice_get, slice_get_within}
use Rattle.pm_base.specs.declared.stamp.Stamp.{Stamp}
use Rattle.pm_base.specs.Stamps.{least_line_of, or_lower}
use Rattle.pm_base.proofs.Orders.{least_line_of-snoc}
use Rattle.std.proofs.lemmas.Bool.Decides.{nat_tests}
use mathlib.Core.List.{IsPrefix}
use Rattle.pm_links.specs.Links.{Handed, NothingWaits, in_link, out_link, sent, waiting}
use Rattle.pm_links.specs.Links.{Grew as LinkGrew}
use Rattle.pm_links.specs.declared.in_end.InEnd.{InEnd}
use Rattle.pm_ends.specs.declared.post.Post.{Post}
use Rattle.pm_ends.specs.declared.in_ends.InSide.{InSide}
use Rattle.pm_ends.specs.declared.out_ends.OutSide.{OutSide}
use Rattle.pm_ends.specs.Numbers.{AreRising, Begins, nth}
use Rattle.pm_ends.specs.Ends.{AllGrew, Grew, Inn, Out, Took, first_at, first_of, froms, post_stamp, sent_to, tos}
use Rattle.pm_ends.specs.Sides.{HandedAt, IsPlaceOf, inn_of, out_of}
use Rattle.pm_ends.proofs.Lists.{any_same, begins_on, get_map, nth_map}
use Rattle.pm_ends.proofs.Laws.{grew_set, same_or}

-- what is there at a call goes on as what is there after it
pub begins_prefix : {X : Type 0} (xs ys : List X) → IsPrefix xs ys → Begins xs ys
begins_prefix xs ys p = (p.0, sym p.1)

-- the first that waits
pub first_is : (xs : List Post) → slice_get xs 0 ≡ first_of xs
first_is [] = refl
first_is (x ∷ xs) = refl

module _ (xs : List InSide) (now : List Inn) (is : map inn_of xs ≡ now) (i : ℕ) (d y : InSide)
    (here : d ≡ get_or xs i d) where
  -- the end there, as contracts see it
  pub held_now : get_or now i (inn_of d) ≡ inn_of d
  held_now = ap (λ (l : List Inn). get_or l i (inn_of d)) (sym is) ∙ get_map inn_of xs i d ∙ ap inn_of (sym here)

  pub held_nth : i < length xs → nth now i ≡ Some (inn_of d)
  held_nth lt = ap (λ (l : List Inn). nth l i) (sym is) ∙ nth_map inn_of xs i d lt
      ∙ ap (λ (z : InSide). Some (inn_of z)) (sym here)

  -- the ends after it was written
  pub held_set : map inn_of (set xs i y) ≡ set now i (inn_of y)
  held_set = map-set inn_of xs i y ∙ ap (λ (l : List Inn). set l i (inn_of y)) is

  pub held_grew : Grew (inn_of d) (inn_of y) → AllGrew now (map inn_of (set xs i y))
  held_grew g = subst (AllGrew now) (sym held_set) (grew_set now i (inn_of d) (inn_of y)
      (subst (λ (z : Inn). Grew z (inn_of y)) (sym held_now) g))

  -- its sender's number stays
  pub held_rising : AreRising (froms (map inn_of xs)) → y.from ≡ d.from → AreRising (froms (map inn_of (set xs i y)))
  held_rising up e = subst AreRising
      (sym (ap froms (map-set inn_of xs i y) ∙ map-set_same (λ (x : Inn). x.from) (map inn_of xs) i (inn_of y)
      (inn_of d)
      (e ∙ ap (λ (x : Inn). x.from) (sym (get_map inn_of xs i d ∙ ap inn_of (sym here)))))) up

  pub held_took : (o : Option Post) → i < length xs → MatchOption o (waiting d.end ≡ [])
      (λ x. HandedAt x (inn_of d) (inn_of y))
      → MatchOption o (first_at (nth now i) ≡ None) (λ x. Took i x now (map inn_of (set xs i y)))
  held_took None lt h = ap first_at (held_nth lt) ∙ ap first_of h
  held_took (Some x) lt h = record {
    was = inn_of d;
    at = held_nth lt;
    now = inn_of y;
    from = h.from;
    slot = h.slot;
    link = h.link;
    received = h.received;
    first = h.first;
    list = held_set;
  }

-- an end that handed out an item is the same end
pub handed_from : (o : Option Post) (a b : Inn) (W : Type 0) → MatchOption o W (λ x. HandedAt x a b)
    → (o ≡ None → Grew a b) → b.from ≡ a.from
handed_from None a b W h g = (g refl).from
handed_from (Some x) a b W h g = h.from

-- an end that handed out an item, and to which more may have come
pub handed_more : (o : Option Post) (d : InSide) (m e : InEnd Post) → in_link m ≡ in_link d.end
    → MatchOption o (NothingWaits d.end m) (λ x. Handed x d.end m) → LinkGrew m e
    → MatchOption o (waiting d.end ≡ [])
    (λ x. HandedAt x (inn_of d) (inn_of (record { from = d.from; slot = d.slot; end = e })))
handed_more None d m e link h g = h.1
handed_more (Some x) d m e link h g = record {
  from = refl;
  slot = refl;
  link = g.0 ∙ link;
  received = g.1 ∙ h.0;
  first = begins_on (waiting d.end) (x ∷ waiting m) (x ∷ waiting e)
      (begins_prefix (waiting d.end) (x ∷ waiting m) h.1)
      (g.2.0, ap (λ (l : List Post). x ∷ l) (sym g.2.1));
}

-- the tests of numbers
lt_true : (a b : ℕ) → nat_lt a b ≡ true → a < b
lt_true a b e = grind (arith, nat_tests)

lt_false : (a b : ℕ) → nat_lt a b ≡ false → b ≤ a
lt_false a b e = grind (arith, nat_tests)

true_lt : (a b : ℕ) → a < b → nat_lt a b ≡ true
true_lt a b e = grind (arith, nat_tests)

-- what holds of all receivers holds of the one at a place
to_at : (P : ℕ → Type 0) (xs : List OutSide) (j : ℕ) (d : OutSide) → AllByRecursion P (tos (map out_of xs))
    → j < length xs → P (get_or xs j d).to
to_at P [] j d p lt = absurd (omega arith)
to_at P (x ∷ xs) zero d p lt = p.0
to_at P (x ∷ xs) (suc j) d p lt = to_at P xs j d p.1 (omega arith)

-- below that number come first
pub tos_parted : (t : ℕ) (xs : List OutSide) → AreRising (tos (map out_of xs)) → (i j : ℕ) (d : OutSide) → i ≤ j
    → j < length xs
    → nat_lt (get_or xs j d).to t ≡ true → nat_lt (get_or xs i d).to t ≡ true
tos_parted t [] up i j d le lt e = absurd (omega (arith, lt))
tos_parted t (x ∷ xs) up zero zero d le lt e = e
tos_parted t (x ∷ xs) up zero (suc j) d le lt e =
    let one : x.to < (get_or xs j d).to = to_at (λ (k : ℕ). x.to < k) xs j d up.0 (omega (arith, lt)) in
    let two : (get_or xs j d).to < t = lt_true (get_or xs j d).to t e in
    true_lt x.to t (omega (arith, one, two))
tos_parted t (x ∷ xs) up (suc i) zero d le lt e = absurd (omega (arith, le))
tos_parted t (x ∷ xs) up (suc i) (suc j) d le lt e = tos_parted t xs up.1 i j d (omega (arith, le))
    (omega (arith, lt)) e

-- from the point on the numbers are no lower
pub place_is : (t : ℕ) (xs : List OutSide) (r : ℕ) → ((k : ℕ) (d : OutSide) → 0 ≤ k → k < r
    → nat_lt (get_or xs k d).to t ≡ true)
    → ((k : ℕ) (d : OutSide) → r ≤ k → k < length xs → nat_lt (get_or xs k d).to t ≡ false) → IsPlaceOf t xs r
place_is t xs r low high = record {
  below = λ k d lt. lt_true (get_or xs k d).to t (low k d (omega arith) lt);
  rest = λ k d le lt. lt_false (get_or xs k d).to t (high k d le lt);
}

-- where all receivers are above, none gets it
all_above : (t : ℕ) (x : Post) (os : List Out) → AllByRecursion (λ (k : ℕ). t < k) (tos os) → sent_to t x os ≡ os
all_above t x [] p = refl
all_above t x (o ∷ os) p = elim (same_or t o.to) [
  | inl is ↦ (let lt : t < o.to = p.0 in absurd (omega (arith, lt, is.0)))
  | inr ne ↦ ap (λ (c : Bool). cond c (record o { sent = o.sent ++ x ∷ [] } ∷ os) (o ∷ sent_to t x os)) ne.1
      ∙ ap (λ (l : List Out). o ∷ l) (all_above t x os p.1)
]

above_more : (t n : ℕ) (ks : List ℕ) → t ≤ n → AllByRecursion (λ (k : ℕ). n < k) ks
    → AllByRecursion (λ (k : ℕ). t < k) ks
above_more t n [] le p = tt
above_more t n (k ∷ ks) le p = ((let lt : n < k = p.0 in omega (arith, lt, le)), above_more t n ks le p.1)

-- the end at the place goes elsewhere, or there is none
pub sent_none : (t : ℕ) (x : Post) (xs : List OutSide) (r : ℕ) → AreRising (tos (map out_of xs)) → IsPlaceOf t xs r
    → ((d : OutSide) → r < length xs → (get_or xs r d).to ≢ t) → sent_to t x (map out_of xs) ≡ map out_of xs
sent_none t x [] r up at ne = refl
sent_none t x (s ∷ xs) zero up at ne =
    let other : s.to ≢ t = ne s (omega arith) in
    let le : t ≤ s.to = at.rest 0 s (omega arith) (omega arith) in
    all_above t x (out_of s ∷ map out_of xs) (
      (omega (arith, le, other)),
      above_more t s.to
          (tos (map out_of xs)) le up.0,
    )
sent_none t x (s ∷ xs) (suc r) up at ne =
    let lt : s.to < t = at.below 0 s (omega arith) in
    let rest : IsPlaceOf t xs r = record {
      below = λ k d l. at.below (suc k) d (omega arith);
      rest =
          λ k d l h. at.rest (suc k) d (omega arith) (omega arith);
    } in
    elim (same_or t s.to) [
      | inl is ↦ absurd (omega (arith, lt, is.0))
      | inr other ↦ ap (λ (c : Bool). cond c (record (out_of s) { sent = sent s.end ++ x ∷ [] } ∷ map out_of xs)
          (out_of s ∷ sent_to t x (map out_of xs))) other.1
          ∙ ap (λ (l : List Out). out_of s ∷ l) (sent_none t x xs r up.1 rest (λ d l. ne d (omega arith)))
    ]

-- the end at the place goes there
pub sent_one : (t : ℕ) (x : Post) (xs : List OutSide) (r : ℕ) (d y : OutSide) → IsPlaceOf t xs r → r < length xs
    → (get_or xs r d).to ≡ t
    → out_of y ≡ record (out_of (get_or xs r d)) { sent = sent (get_or xs r d).end ++ x ∷ [] }
    → map out_of (set xs r y) ≡ sent_to t x (map out_of xs)
sent_one t x [] r d y at lt is new = absurd (omega (arith, lt))
sent_one t x (s ∷ xs) zero d y at lt is new = elim (same_or t s.to) [
  | inl same ↦ ap (λ (o : Out). o ∷ map out_of xs) new
      ∙ ap (λ (c : Bool). cond c (record (out_of s) { sent = sent s.end ++ x ∷ [] } ∷ map out_of xs)
      (out_of s ∷ sent_to t x (map out_of xs))) (sym same.1)
  | inr other ↦ absurd (other.0 (sym is))
]
sent_one t x (s ∷ xs) (suc r) d y at lt is new =
    let low : s.to < t = at.below 0 s (omega arith) in
    let rest : IsPlaceOf t xs r = record {
      below = λ k e l. at.below (suc k) e (omega arith);
      rest =
          λ k e l h. at.rest (suc k) e (omega arith) (omega arith);
    } in
    elim (same_or t s.to) [
      | inl same ↦ absurd (omega (arith, low, same.0))
      | inr other ↦ ap (λ (l : List Out). out_of s ∷ l) (sent_one t x xs r d y rest (omega arith) is new)
          ∙ ap (λ (c : Bool). cond c (record (out_of s) { sent = sent s.end ++ x ∷ [] } ∷ map out_of xs)
          (out_of s ∷ sent_to t x (map out_of xs))) (sym other.1)
    ]

-- an out-end's number stays
pub outs_rising : (xs : List OutSide) (i : ℕ) (d y : OutSide) → d ≡ get_or xs i d → y.to ≡ d.to
    → AreRising (tos (map out_of xs)) → AreRising (tos (map out_of (set xs i y)))
outs_rising xs i d y here e up = subst AreRising
    (sym (ap tos (map-set out_of xs i y) ∙ map-set_same (λ (x : Out). x.to) (map out_of xs) i (out_of y) (out_of d)
    (e ∙ ap (λ (x : Out). x.to) (sym (get_map out_of xs i d ∙ ap out_of (sym here)))))) up

-- an out-end that contracts see as it was
pub outs_same : (xs : List OutSide) (i : ℕ) (d y : OutSide) → d ≡ get_or xs i d → out_of y ≡ out_of d
    → map out_of (set xs i y) ≡ map out_of xs
outs_same xs i d y here e = map-set_same out_of xs i y d (e ∙ ap out_of here)

-- the numbers rise to one above all
pub rising_append : (ns : List ℕ) (n : ℕ) → AreRising ns → AllByRecursion (λ (k : ℕ). k < n) ns
    → AreRising (ns ++ n ∷ [])
rising_append [] n up p = (tt, tt)
rising_append (m ∷ ns) n up p = (above_last m ns n up.0 p.0, rising_append ns n up.1 p.1)
  where
    above_last : (m : ℕ) (ns : List ℕ) (n : ℕ) → AllByRecursion (λ (k : ℕ). m < k) ns → m < n
        → AllByRecursion (λ (k : ℕ). m < k) (ns ++ n ∷ [])
    above_last m [] n q lt = (lt, tt)
    above_last m (k ∷ ns) n q lt = (q.0, above_last m ns n q.1 lt)

-- of what holds where a call was well
pub on_ok : {T E : Type 0} (r : Result T E) (P Q : Type 0) → (P → Q) → OnOk r P → OnOk r Q
on_ok (Ok x) P Q f h = f h
on_ok (Err e) P Q f h = h

-- of what holds where a call was refused
pub on_err : {T E : Type 0} (r : Result T E) (P Q : Type 0) → (P → Q) → OnErr r P → OnErr r Q
on_err (Ok x) P Q f h = h
on_err (Err e) P Q f h = f h

-- an out-end after a call
pub out_then : (d y : OutSide) (l : List Post) → y.to ≡ d.to → out_link y.end ≡ out_link d.end → sent y.end ≡ l
    → out_of y ≡ record (out_of d) { sent = l }
out_then d y l e f g i = record { to = e i; link = f i; sent = g i }

-- the end at the place goes there, and sent the item
pub sent_there : (t : ℕ) (x : Post) (xs : List OutSide) (r : ℕ) (d y : OutSide) → d ≡ get_or xs r d → IsPlaceOf t xs r
    → r < length xs → d.to ≡ t
    → out_of y ≡ record (out_of d) { sent = sent d.end ++ x ∷ [] }
    → map out_of (set xs r y) ≡ sent_to t x (map out_of xs)
sent_there t x xs r d y here at lt is new = sent_one t x xs r d y at lt (ap (λ (z : OutSide). z.to) (sym here) ∙ is)
    (subst (λ (z : OutSide). out_of y ≡ record (out_of z) { sent = sent z.end ++ x ∷ [] }) here new)

-- the end at the place goes elsewhere
pub sent_else : (t : ℕ) (x : Post) (xs : List OutSide) (r : ℕ) (d : OutSide) → d ≡ get_or xs r d
    → AreRising (tos (map out_of xs)) → IsPlaceOf t xs r
    → d.to ≢ t → sent_to t x (map out_of xs) ≡ map out_of xs
sent_else t x xs r d here up at ne = sent_none t x xs r up at
    (λ e lt s. ne (ap (λ (z : OutSide). z.to) (here ∙ any_same xs r d e lt) ∙ s))

-- nothing stands there
pub none_past : {X : Type 0} (xs : List X) (i : ℕ) → slice_get xs i ≡ None → length xs ≤ i
none_past [] i e = omega arith
none_past (x ∷ xs) zero e = absurd (cc)
none_past (x ∷ xs) (suc i) e = (let le = none_past xs i e in omega (arith, le))

-- one moment more
pub stamps_more : (ss : List Stamp) (w : List Post) (i : ℕ) (p : Post) → slice_get w i ≡ Some p
    → least_line_of (ss ++ map post_stamp (take (i + 1) w)) ≡ or_lower (post_stamp p)
    (least_line_of (ss ++ map post_stamp (take i w)))
stamps_more ss w i p e =
    let more : take (i + 1) w ≡ take i w ++ p ∷ [] = take_more w i p (slice_get_within w i p e)
    ∙ ap (λ (z : Post). take i w ++ z ∷ []) (get_or_from_slice_get w i p p e) in
    ap (λ (l : List Post). least_line_of (ss ++ map post_stamp l)) more
    ∙ ap (λ (l : List Stamp). least_line_of (ss ++ l)) (map-append post_stamp (take i w) (p ∷ []))
    ∙ ap least_line_of (sym (append_assoc ss (map post_stamp (take i w)) (post_stamp p ∷ [])))
    ∙ least_line_of-snoc (ss ++ map post_stamp (take i w)) (post_stamp p)
