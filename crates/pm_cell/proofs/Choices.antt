-- Which item is heard next.
use Rattle.std.proofs.Common.{◌≡◌, ℕ, ◌+◌, ◌<◌, ◌≤◌, ◌⊎◌, inl, inr, Bool, true, false, cond, List, [], ◌∷◌, ◌++◌}
use Rattle.std.proofs.Common.{length, map, refl, arith, ap, sym, ◌∙◌, subst}
use Rattle.std.proofs.Common.{Option, Some, None, MatchOption, IfSome}
use Rattle.std.specs.Option.{option_map}
use Rattle.std.proofs.Math.Seq.{map-set_same}
use Rattle.std.proofs.lemmas.Option.{slice_get_past}
use Rattle.pm_base.specs.declared.stamp.Stamp.{Stamp}
use Rattle.pm_ends.proofs.Laws.{took_first, took_others, took_received}
use Rattle.pm_ends.proofs.Lists.{nth_is, some_same}
use Rattle.pm_ends.specs.Ends.{AllGrew, Inn, Took, first_at, first_of, froms, post_stamp}
use Rattle.pm_ends.specs.Numbers.{AreRising, Begins, nth}
use Rattle.pm_ends.specs.Trees.{IsSoonest, moment_at}
use Rattle.pm_ends.specs.declared.post.Post.{Post}
use Rattle.pm_cell.specs.Helds.{Held, in_wire, view_of}
use Rattle.pm_cell.specs.Stands.{CellView}
use Rattle.pm_cell.specs.Turns.{ChoseNext, IsNext, IsSooner, TookFrom, TookNext, is_ready, stamp_at, stamp_end, stamp_first}
use Rattle.pm_base.specs.Stamps.{stamp_lt}
use Rattle.std.proofs.lemmas.Bool.Decides.{nat_tests}
use Rattle.pm_cell.specs.declared.choosing.Front.{Front}
use Rattle.pm_cell.proofs.Lists.{same_or}

-- of the places below n, the front is the one that is heard next, and where there is none nothing may be heard
pub record IsFront (h : Held) (n : ℕ) (f : Front) : Type 0 where
  pub inside : f.at < n
  pub ready : stamp_at f.at h ≡ Some f.stamp
  pub least : (i : ℕ) (t : Stamp) → i < n → stamp_at i h ≡ Some t → stamp_lt t f.stamp ≡ false
  pub first : (i : ℕ) (t : Stamp) → i < f.at → stamp_at i h ≡ Some t → stamp_lt f.stamp t ≡ true

abbrev pub IsChosen : Held → ℕ → Option Front → Type 0
IsChosen h n next = MatchOption next ((i : ℕ) → i < n → stamp_at i h ≡ None) (IsFront h n)

none_some : (s : Stamp) → None ≡ Some s → ⊥
none_some s e = (cc)

less_less : (s t u : Stamp) → stamp_lt s u ≡ true → stamp_lt t u ≡ false → stamp_lt s t ≡ true
less_less s t u a b = grind (arith, nat_tests)

less_more : (s t u : Stamp) → stamp_lt s u ≡ true → stamp_lt t u ≡ false → stamp_lt t s ≡ false
less_more s t u a b = grind (arith, nat_tests)

never : (s : Stamp) → stamp_lt s s ≡ false
never s = grind (arith, nat_tests)

-- one place more
pub chosen_more : (h : Held) (n : ℕ) (next then : Option Front) (stamp : Option Stamp) → IsChosen h n next
    → IfSome then (IsSooner next n stamp) → (then ≡ None → (next ≡ None) × (stamp ≡ None)) → stamp ≡ stamp_at n h
    → IsChosen h (n + 1) then
chosen_more h n next None stamp was some none is =
    let both = none refl in
    λ i lt. elim (same_or i n) [
      | inl here ↦ ap (λ (k : ℕ). stamp_at k h) here.0 ∙ sym is ∙ both.1
      | inr other ↦ subst (IsChosen h n) both.0 was i (omega (arith, lt, other.0))
    ]
chosen_more h n next (Some f) stamp was some none is = elim some [
  | inl before ↦
      let old : IsFront h n f = subst (IsChosen h n) before.0 was in
      let low = old.inside in
      record {
        inside = omega (arith, low);
        ready = old.ready;
        least = λ i t lt e. elim (same_or i n) [
          | inl here ↦ subst (λ (o : Option Stamp). IfSome o (λ s. stamp_lt s f.stamp ≡ false))
              (is ∙ ap (λ (k : ℕ). stamp_at k h) (sym here.0) ∙ e) before.1
          | inr other ↦ old.least i t (omega (arith, lt, other.0)) e
        ];
        first = old.first;
      }
  | inr now ↦ record {
    inside = omega (arith, now.0);
    ready = ap (λ (k : ℕ). stamp_at k h) now.0 ∙ sym is ∙ now.1;
    least = λ i t lt e. elim (same_or i n) [
      | inl here ↦ (let same : f.stamp ≡ t = some_same f.stamp t
          (sym now.1 ∙ is ∙ ap (λ (k : ℕ). stamp_at k h) (sym here.0) ∙ e) in
          subst (λ (u : Stamp). stamp_lt u f.stamp ≡ false) same (never f.stamp))
      | inr other ↦ low next was now.2 i t (omega (arith, lt, other.0)) e
    ];
    first = λ i t lt e. high next was now.2 i t (omega (arith, lt, now.0)) e;
  }
]
  where
    low : (o : Option Front) → IsChosen h n o → IfSome o (λ g. stamp_lt f.stamp g.stamp ≡ true) → (i : ℕ) (t : Stamp)
        → i < n → stamp_at i h ≡ Some t → stamp_lt t f.stamp ≡ false
    low None all lt i t inside e = absurd (none_some t (sym (all i inside) ∙ e))
    low (Some g) front lt i t inside e = less_more f.stamp t g.stamp lt (front.least i t inside e)

    high : (o : Option Front) → IsChosen h n o → IfSome o (λ g. stamp_lt f.stamp g.stamp ≡ true) → (i : ℕ) (t : Stamp)
        → i < n → stamp_at i h ≡ Some t → stamp_lt f.stamp t ≡ true
    high None all lt i t inside e = absurd (none_some t (sym (all i inside) ∙ e))
    high (Some g) front lt i t inside e = less_less f.stamp t g.stamp lt (front.least i t inside e)

-- behind the last place nothing stands
past : (h : Held) (i : ℕ) → length h.inns ≤ i → stamp_at i h ≡ None
past h i le = ap (stamp_end (view_of h)) (slice_get_past h.inns i le)

lt_or : (i n : ℕ) → (i < n) ⊎ (n ≤ i)
lt_or i n = grind arith

-- so the front of all places is the one that is heard next
pub front_next : (h : Held) (n : ℕ) (f : Front) → length h.inns ≤ n → IsFront h n f → IsNext h f.at
front_next h n f le front = record {
  stamp = f.stamp;
  ready = front.ready;
  least = λ i t e. elim (lt_or i n) [
    | inl lt ↦ front.least i t lt e
    | inr ge ↦ absurd (none_some t (sym (past h i (omega (arith, le, ge))) ∙ e))
  ];
  first = front.first;
}

-- and where there is none nothing may be heard
pub none_next : (h : Held) (n : ℕ) → length h.inns ≤ n → ((i : ℕ) → i < n → stamp_at i h ≡ None) → (i : ℕ)
    → stamp_at i h ≡ None
none_next h n le all i = elim (lt_or i n) [ inl lt ↦ all i lt | inr ge ↦ past h i (omega (arith, le, ge)) ]

-- an item that has a moment may be delivered, and no other
stamped : (b : Bool) (s t : Stamp) → cond b (Some s) None ≡ Some t → b ≡ true
stamped true s t e = refl
stamped false s t e = absurd (none_some t e)

pub not_stamped : (b : Bool) (s : Stamp) → cond b (Some s) None ≡ None → b ≡ false
not_stamped true s e = absurd (none_some s (sym e))
not_stamped false s e = refl

-- what may be heard at a place
pub ready_first : (v : CellView) (from : ℕ) (x : Post) (s : Stamp) (was now : List Post)
    → stamp_first v from (first_of was) ≡ Some s → Begins was (x ∷ now) → is_ready v from x ≡ true
ready_first v from x s [] now e b = absurd (none_some s e)
ready_first v from x s (y ∷ was) now e b = ap (is_ready v from) (heads x y now (was ++ b.0) b.1)
    ∙ stamped (is_ready v from y) (post_stamp y) s e
  where
    heads : (x y : Post) (xs ys : List Post) → x ∷ xs ≡ y ∷ ys → x ≡ y
    heads x y xs ys e = cc

-- the first item at a place was taken
module _ (h : Held) (at : ℕ) (x : Post) (ys : List Inn) (t : Took at x h.inns ys) (next : IsNext h at) (from : ℕ)
    (from_is : Some from ≡ option_map (λ (i : Inn). i.from) (nth h.inns at)) where
  sender : from ≡ t.was.from
  sender = some_same from t.was.from (from_is ∙ ap (option_map (λ (i : Inn). i.from)) t.at)

  took_ready : is_ready (view_of h) from x ≡ true
  took_ready =
      let first : stamp_first (view_of h) t.was.from (first_of t.was.waiting) ≡ Some next.stamp =
      sym (ap (stamp_end (view_of h)) t.at) ∙ next.ready in
      subst (λ (n : ℕ). is_ready (view_of h) n x ≡ true) (sym sender)
      (ready_first (view_of h) t.was.from x next.stamp t.was.waiting t.now.waiting first t.first)

  wires : map in_wire ys ≡ map in_wire h.inns
  wires = ap (map in_wire) t.list ∙ map-set_same in_wire h.inns at t.now t.was
      ((λ i. record { from = t.from i; slot = t.slot i; link = t.link i })
      ∙ ap in_wire (sym (nth_is h.inns at t.was t.was t.at).1))

  took_from : AreRising (froms h.inns) → TookFrom from x h.inns ys
  took_from up = subst (λ (n : ℕ). TookFrom n x h.inns ys) (sym sender) (record {
    received = took_received at x h.inns ys t up;
    first = took_first at x h.inns ys t up;
    others = took_others at x h.inns ys t;
    wires = wires;
  })

  pub took_next : AreRising (froms h.inns) → TookNext at from x h ys
  took_next up = record { took = t; sender = sym sender; item = took_from up; ready = took_ready }

-- ---- the soonest of all first items

first_none : (v : CellView) (from : ℕ) (l : List Post) → option_map post_stamp (first_of l) ≡ None
    → stamp_first v from (first_of l) ≡ None
first_none v from [] e = refl
first_none v from (x ∷ l) e = absurd (none_some (post_stamp x) (sym e))

end_none : (v : CellView) (i : Option Inn) → option_map post_stamp (first_at i) ≡ None → stamp_end v i ≡ None
end_none v None e = refl
end_none v (Some i) e = first_none v i.from i.waiting e

-- where nothing waits nothing may be heard
pub none_ready : (h : Held) → ((i : ℕ) → moment_at h.inns i ≡ None) → (i : ℕ) → stamp_at i h ≡ None
none_ready h none i = end_none (view_of h) (nth h.inns i) (none i)

ready_moment : (b : Bool) (s t : Stamp) → cond b (Some s) None ≡ Some t → Some s ≡ Some t
ready_moment true s t e = e
ready_moment false s t e = absurd (none_some t e)

first_moment : (v : CellView) (from : ℕ) (l : List Post) (t : Stamp) → stamp_first v from (first_of l) ≡ Some t
    → option_map post_stamp (first_of l) ≡ Some t
first_moment v from [] t e = absurd (none_some t e)
first_moment v from (x ∷ l) t e = ready_moment (is_ready v from x) (post_stamp x) t e

end_moment : (v : CellView) (i : Option Inn) (t : Stamp) → stamp_end v i ≡ Some t
    → option_map post_stamp (first_at i) ≡ Some t
end_moment v None t e = absurd (none_some t e)
end_moment v (Some i) t e = first_moment v i.from i.waiting t e

-- the moment of an item that may be heard is that of the item
pub moment_of : (h : Held) (i : ℕ) (t : Stamp) → stamp_at i h ≡ Some t → moment_at h.inns i ≡ Some t
moment_of h i t e = end_moment (view_of h) (nth h.inns i) t e

-- the soonest of all first items is the one that is heard next, where it may be delivered
pub soonest_next : (h : Held) (at : ℕ) (s : Stamp) → IsSoonest h.inns at → stamp_at at h ≡ Some s → IsNext h at
soonest_next h at s soon ready =
    let same : soon.stamp ≡ s = some_same soon.stamp s (sym soon.here ∙ moment_of h at s ready) in
    record {
      stamp = s;
      ready = ready;
      least = λ i t e. subst (λ (u : Stamp). stamp_lt t u ≡ false) same (soon.least i t (moment_of h i t e));
      first = λ i t lt e. subst (λ (u : Stamp). stamp_lt u t ≡ true) same (soon.first i t lt (moment_of h i t e));
    }

-- ---- what is taken is what was chosen

end_sender : (v : CellView) (o : Option Inn) (s : Stamp) → stamp_end v o ≡ Some s
    → None ≡ option_map (λ (i : Inn). i.from) o → ⊥
end_sender v None s e f = none_some s e
end_sender v (Some i) s e f = absurd (cc)

-- an end that is heard next has a sender
pub no_sender : (h : Held) (at : ℕ) → IsNext h at → None ≡ option_map (λ (i : Inn). i.from) (nth h.inns at) → ⊥
no_sender h at next e = end_sender (view_of h) (nth h.inns at) next.stamp next.ready e

first_item : (v : CellView) (from : ℕ) (o : Option Post) (s : Stamp) → stamp_first v from o ≡ Some s → o ≡ None → ⊥
first_item v from None s e f = none_some s e
first_item v from (Some x) s e f = absurd (cc)

end_item : (v : CellView) (o : Option Inn) (s : Stamp) → stamp_end v o ≡ Some s → first_at o ≡ None → ⊥
end_item v None s e f = none_some s e
end_item v (Some i) s e f = first_item v i.from (first_of i.waiting) s e f

-- and an item
pub no_item : (h : Held) (at : ℕ) → IsNext h at → first_at (nth h.inns at) ≡ None → ⊥
no_item h at next e = end_item (view_of h) (nth h.inns at) next.stamp next.ready e

-- where none can't be answered
pub some_weaker : {T : Type 0} (o : Option T) (A : Type 0) (P Q : T → Type 0) → MatchOption o ⊥ P
    → ((y : T) → P y → Q y) → MatchOption o A Q
some_weaker None A P Q m f = absurd m
some_weaker (Some y) A P Q m f = f y m

-- the cell that took the item is the one before with other in-ends
pub inns_twice : (a b m : Held) → b ≡ record a { inns = b.inns } → m ≡ record b { inns = m.inns }
    → m ≡ record a { inns = m.inns }
inns_twice a b m one two = two ∙ ap (λ (z : Held). record z { inns = m.inns }) one

-- the cell b, which looked, took what is next there
pub chose : (a b : Held) (at from : ℕ) (x : Post) (ys : List Inn) → b ≡ record a { inns = b.inns }
    → AllGrew a.inns b.inns → IsNext b at → TookNext at from x b ys → ChoseNext from x a ys
chose a b at from x ys same grew next took = record {
  known = b.inns;
  grew = grew;
  at = at;
  next = subst (λ (z : Held). IsNext z at) same next;
  took = subst (λ (z : Held). TookNext at from x z ys) same took;
}
