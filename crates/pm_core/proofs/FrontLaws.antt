-- The order of first messages, and which of them comes first of all.
use Rattle.std.proofs.Common.{ℕ, ◌+◌, ◌<◌, ◌≤◌, ◌≡◌, ◌⊎◌, ◌∙◌, Bool, true, false, not, cond, List, Option, Some, None, ap, sym, subst, refl, inl, inr, arith}
use Rattle.std.specs.Prelude.{◌==◌, ◌&&◌, ◌||◌, nat_lt, option_map}
use Rattle.std.proofs.lemmas.Bool.{and_parts, cases_Bool}
use Rattle.std.proofs.lemmas.Bool.Decides.{nat_tests}
use Rattle.pm_base.proofs.Orders.{stamp_lt-never_itself, stamp_lt-same, stamp_lt-trans}
use Rattle.pm_base.specs.Stamps.{stamp_lt}
use Rattle.pm_base.specs.declared.stamp.Stamp.{Stamp}
use Rattle.pm_mail.specs.Links.{IsIdle, Link, comes_before, first_moment, first_of, is_before, is_before_at, waiting}
use Rattle.pm_message.specs.Messages.{stamp_of}
use Rattle.pm_message.specs.declared.Message.{Message}
use Rattle.pm_core.specs.Leasts.{IsBest, IsFront, IsNextTo, IsNotBefore, LeadsBelow, LeadsTo, MovesWithin, front_lt, front_of, is_moving, link_lt, move_at, move_lt, move_of}
use Rattle.pm_core.specs.declared.fronts.Front.{Front}

-- ---- the order by its cases

abbrev LinkBefore : Front → Front → Type 0
LinkBefore a b = (a.to < b.to) ⊎ ((a.to ≡ b.to) × (a.from < b.from))

abbrev MoveBefore : Front → Front → Type 0
MoveBefore a b = ((a.moves ≡ true) × (b.moves ≡ false)) ⊎ ((a.moves ≡ b.moves) × LinkBefore a b)

abbrev IsBefore : Front → Front → Type 0
IsBefore a b = (stamp_lt a.stamp b.stamp ≡ true) ⊎ ((a.stamp ≡ b.stamp) × MoveBefore a b)

-- by the first test, or else by the second
either : (x y r : Bool) → (x || (not y && r)) ≡ true → (x ≡ true) ⊎ ((x ≡ false) × (y ≡ false) × (r ≡ true))
either true y r h = inl refl
either false true r h = absurd (cc)
either false false r h = inr (refl, refl, h)

later : (x y r : Bool) → y ≡ false → r ≡ true → (x || (not y && r)) ≡ true
later true y r e f = refl
later false y r e f = rw (e, f) refl

neither : (x y r : Bool) → (x || (not y && r)) ≡ false → (x ≡ false) × ((y ≡ false) → r ≡ false)
neither true y r h = absurd (cc)
neither false true r h = (refl, λ e. absurd (cc))
neither false false r h = (refl, λ e. h)

link_before : (a b : Front) → link_lt a b ≡ true → LinkBefore a b
link_before a b h = elim (cases_Bool (nat_lt a.to b.to)) [
  | inl e ↦ inl (grind (arith, nat_tests, e))
  | inr e ↦ (let g : (a.to == b.to && nat_lt a.from b.from) ≡ true =
      subst (λ z. (z || (a.to == b.to && nat_lt a.from b.from)) ≡ true) e h in
      let q = and_parts (a.to == b.to) (nat_lt a.from b.from) g in
      let f = q.0 in let k = q.1 in
      inr (grind (arith, nat_tests, f), grind (arith, nat_tests, k)))
]

link_after : (a b : Front) → LinkBefore a b → link_lt a b ≡ true
link_after a b (inl l) = (let e : nat_lt a.to b.to ≡ true = grind (arith, nat_tests, l) in rw e refl)
link_after a b (inr l) =
    let x = l.0 in let y = l.1 in
    let e : nat_lt a.to b.to ≡ false = grind (arith, nat_tests, x) in
    let f : (a.to == b.to) ≡ true = grind (arith, nat_tests, x) in
    let g : nat_lt a.from b.from ≡ true = grind (arith, nat_tests, y) in
    rw (e, f, g) refl

links_trans : (a b c : Front) → LinkBefore a b → LinkBefore b c → LinkBefore a c
links_trans a b c (inl l) (inl m) = inl (omega arith)
links_trans a b c (inl l) (inr m) = inl (let x = m.0 in omega arith)
links_trans a b c (inr l) (inl m) = inl (let x = l.0 in omega arith)
links_trans a b c (inr l) (inr m) =
    let x = l.0 in let y = l.1 in let z = m.0 in let w = m.1 in
    inr (omega arith, omega arith)

by_moves : (x y r : Bool) → ((x && not y) || (not (y && not x) && r)) ≡ true
    → ((x ≡ true) × (y ≡ false)) ⊎ ((x ≡ y) × (r ≡ true))
by_moves true true r h = inr (refl, h)
by_moves true false r h = inl (refl, refl)
by_moves false true r h = absurd (cc)
by_moves false false r h = inr (refl, h)

moves_back : (x y r : Bool) → ((x ≡ true) × (y ≡ false)) ⊎ ((x ≡ y) × (r ≡ true))
    → ((x && not y) || (not (y && not x) && r)) ≡ true
moves_back true true r (inl h) = absurd (let e = h.1 in cc)
moves_back true true r (inr h) = h.1
moves_back true false r h = refl
moves_back false y r (inl h) = absurd (let e = h.0 in cc)
moves_back false true r (inr h) = absurd (let e = h.0 in cc)
moves_back false false r (inr h) = h.1

move_before : (a b : Front) → move_lt a b ≡ true → MoveBefore a b
move_before a b h = elim (by_moves a.moves b.moves (link_lt a b) h) [
  | inl e ↦ inl e
  | inr e ↦ inr (e.0, link_before a b e.1)
]

move_after : (a b : Front) → MoveBefore a b → move_lt a b ≡ true
move_after a b (inl e) = moves_back a.moves b.moves (link_lt a b) (inl e)
move_after a b (inr e) = moves_back a.moves b.moves (link_lt a b) (inr (e.0, link_after a b e.1))

moves_trans : (a b c : Front) → MoveBefore a b → MoveBefore b c → MoveBefore a c
moves_trans a b c (inl l) (inl m) = absurd (let e = l.1 in let f = m.0 in let g : false ≡ true = sym e ∙ f in cc)
moves_trans a b c (inl l) (inr m) = inl (l.0, sym m.0 ∙ l.1)
moves_trans a b c (inr l) (inl m) = inl (l.0 ∙ m.0, m.1)
moves_trans a b c (inr l) (inr m) = inr (l.0 ∙ m.0, links_trans a b c l.1 m.1)

pub before : (a b : Front) → front_lt a b ≡ true → IsBefore a b
before a b h = elim (either (stamp_lt a.stamp b.stamp) (stamp_lt b.stamp a.stamp) (move_lt a b) h) [
  | inl e ↦ inl e
  | inr e ↦ inr (stamp_lt-same a.stamp b.stamp e.0 e.1, move_before a b e.2)
]

after : (a b : Front) → IsBefore a b → front_lt a b ≡ true
after a b (inl e) = rw e refl
after a b (inr e) = later (stamp_lt a.stamp b.stamp) (stamp_lt b.stamp a.stamp) (move_lt a b)
    (subst (λ z. stamp_lt z a.stamp ≡ false) e.0 (stamp_lt-never_itself a.stamp)) (move_after a b e.1)

trans : (a b c : Front) → IsBefore a b → IsBefore b c → IsBefore a c
trans a b c (inl e) (inl f) = inl (stamp_lt-trans a.stamp b.stamp c.stamp e f)
trans a b c (inl e) (inr f) = inl (subst (λ z. stamp_lt a.stamp z ≡ true) f.0 e)
trans a b c (inr e) (inl f) = inl (subst (λ z. stamp_lt z c.stamp ≡ true) (sym e.0) f)
trans a b c (inr e) (inr f) = inr (e.0 ∙ f.0, moves_trans a b c e.1 f.1)

pub front_trans : (a b c : Front) → front_lt a b ≡ true → front_lt b c ≡ true → front_lt a c ≡ true
front_trans a b c e f = after a c (trans a b c (before a b e) (before b c f))

-- two of which neither comes first are one
same_moves : (x y r s : Bool) → ((x && not y) || (not (y && not x) && r)) ≡ false
    → ((y && not x) || (not (x && not y) && s)) ≡ false → (x ≡ y) × (r ≡ false) × (s ≡ false)
same_moves true true r s h k = (refl, h, k)
same_moves true false r s h k = absurd (cc)
same_moves false true r s h k = absurd (cc)
same_moves false false r s h k = (refl, h, k)

same_link : (a b : Front) → link_lt a b ≡ false → link_lt b a ≡ false → (a.to ≡ b.to) × (a.from ≡ b.from)
same_link a b h k = elim (cases_Bool (nat_lt a.to b.to)) [
  | inl e ↦ absurd (let g : link_lt a b ≡ true = rw e refl in let l : true ≡ false = sym g ∙ h in cc)
  | inr e ↦ elim (cases_Bool (nat_lt b.to a.to)) [
    | inl f ↦ absurd (let g : link_lt b a ≡ true = rw f refl in let l : true ≡ false = sym g ∙ k in cc)
    | inr f ↦ elim (cases_Bool (nat_lt a.from b.from)) [
      | inl g ↦ absurd (let t : a.to ≡ b.to = grind (arith, nat_tests, e, f) in
          let l : link_lt a b ≡ true = link_after a b (inr (t, grind (arith, nat_tests, g))) in
          let n : true ≡ false = sym l ∙ h in cc)
      | inr g ↦ elim (cases_Bool (nat_lt b.from a.from)) [
        | inl i ↦ absurd (let t : b.to ≡ a.to = grind (arith, nat_tests, e, f) in
            let l : link_lt b a ≡ true = link_after b a (inr (t, grind (arith, nat_tests, i))) in
            let n : true ≡ false = sym l ∙ k in cc)
        | inr i ↦ (grind (arith, nat_tests, e, f), grind (arith, nat_tests, g, i))
      ]
    ]
  ]
]

one_front : (a b : Front) → a.stamp ≡ b.stamp → a.moves ≡ b.moves → a.to ≡ b.to → a.from ≡ b.from → a ≡ b
one_front a b e f g h = λ i. record { stamp = e i; moves = f i; to = g i; from = h i }

pub front_same : (a b : Front) → front_lt a b ≡ false → front_lt b a ≡ false → a ≡ b
front_same a b h k =
    let x = neither (stamp_lt a.stamp b.stamp) (stamp_lt b.stamp a.stamp) (move_lt a b) h in
    let y = neither (stamp_lt b.stamp a.stamp) (stamp_lt a.stamp b.stamp) (move_lt b a) k in
    let m = same_moves a.moves b.moves (link_lt a b) (link_lt b a) (x.1 y.0) (y.1 x.0) in
    let l = same_link a b m.1 m.2 in
    one_front a b (stamp_lt-same a.stamp b.stamp x.0 y.0) m.0 l.0 l.1

-- what doesn't come before the one doesn't come before what comes before that
not_before_lesser : (x best found : Front) → front_lt x best ≡ false → front_lt found best ≡ true
    → front_lt x found ≡ false
not_before_lesser x best found h k = elim (cases_Bool (front_lt x found)) [
  | inl e ↦ absurd (let g = front_trans x found best e k in let l : true ≡ false = sym g ∙ h in cc)
  | inr e ↦ e
]

-- what doesn't come before the one doesn't come before another that the one doesn't come before
not_before_either : (x found best : Front) → front_lt x found ≡ false → front_lt found best ≡ false
    → front_lt x best ≡ false
not_before_either x found best h k = elim (cases_Bool (front_lt x best)) [
  | inr e ↦ e
  | inl e ↦ absurd (elim (cases_Bool (front_lt best found)) [
    | inl f ↦ (let g = front_trans x best found e f in let l : true ≡ false = sym g ∙ h in cc)
    | inr f ↦ (let s = front_same found best k f in
        let l : true ≡ false = sym (subst (λ z. front_lt x z ≡ true) (sym s) e) ∙ h in cc)
  ])
]

-- ---- the first to one receiver

left_false : (x r : Bool) → (x || r) ≡ false → x ≡ false
left_false true r e = absurd (cc)
left_false false r e = refl

no_lesser_sender : (s t : Stamp) (g f : ℕ) → comes_before s g t f ≡ false → s ≡ t → g < f → ⊥
no_lesser_sender s t g f h e lt =
    let n = neither (stamp_lt s t) (stamp_lt t s) (nat_lt g f) h in
    let k = n.1 (subst (λ z. stamp_lt z s ≡ false) e (stamp_lt-never_itself s)) in
    grind (arith, nat_tests, k)

-- by moments and senders, as the messages have them
pub next_not : (to g f : ℕ) (ls : List Link) (y m : Message) → first_of (waiting to g ls) ≡ Some y
    → first_of (waiting to f ls) ≡ Some m → is_before to g f ls ≡ false
    → comes_before (stamp_of y) g (stamp_of m) f ≡ false
next_not to g f ls y m eg ef e =
    sym (ap (λ z. is_before_at (option_map stamp_of z) g (first_moment to f ls) f) eg
    ∙ ap (λ z. is_before_at (Some (stamp_of y)) g (option_map stamp_of z) f) ef) ∙ e

module _ (ls : List Link) (clps : ℕ) where
  -- the next by sender comes first, but for Moves of its moment
  leads : (to : ℕ) (a : Front) → IsNextTo ls to a
      → ((f : ℕ) (m : Message) → first_of (waiting to f ls) ≡ Some m → MovesWithin clps to f m
      → stamp_of m ≡ a.stamp → is_moving m ≡ true → ⊥)
      → LeadsTo ls clps to a
  leads to a next none = record {
    here = next.here;
    front = next.front;
    least = λ f m first within. elim (cases_Bool (front_lt (front_of to f m) a)) [
      | inr e ↦ e
      | inl e ↦ absurd (by f m first within (before (front_of to f m) a e))
    ];
  }
    where
      by : (f : ℕ) (m : Message) → first_of (waiting to f ls) ≡ Some m → MovesWithin clps to f m
          → IsBefore (front_of to f m) a → ⊥
      by f m first within (inl e) =
          let h = left_false (stamp_lt (stamp_of m) a.stamp) _ (next.next f m first) in
          let g : true ≡ false = sym e ∙ h in cc
      by f m first within (inr (e, inl g)) = none f m first within e g.0
      by f m first within (inr (e, inr (g, inl l))) = let h = next.here in omega arith
      by f m first within (inr (e, inr (g, inr l))) =
          no_lesser_sender (stamp_of m) a.stamp f a.from (next.next f m first) e l.1

  -- at an agent there is no Move
  pub leads_high : (to : ℕ) (a : Front) → IsNextTo ls to a → clps ≤ a.to → LeadsTo ls clps to a
  leads_high to a next high = leads to a next
      (λ f m first within e g. let w = (within g).0 in let h = next.here in omega arith)

  found_move : (to f : ℕ) (s : Stamp) (m : Message) → first_of (waiting to f ls) ≡ Some m → stamp_lt s (stamp_of m) ≡ false
      → is_moving m ≡ true → move_at ls to s f ≡ Some (front_of to f m)
  found_move to f s m first e g = ap (move_of to f s) first ∙ rw (g, e) refl

  none_some : {A : Type 0} (o : Option A) (a : A) → o ≡ None → o ≡ Some a → ⊥
  none_some o a e f = (let g : None ≡ Some a = sym e ∙ f in cc)

  pub leads_without : (to : ℕ) (a : Front) → IsNextTo ls to a
      → ((g : ℕ) → g < clps → move_at ls a.to a.stamp g ≡ None) → LeadsTo ls clps to a
  leads_without to a next none = leads to a next
      (λ f m first within e g. none_some (move_at ls to a.stamp f) (front_of to f m)
      (subst (λ z. move_at ls z a.stamp f ≡ None) next.here (none f (within g).1))
      (found_move to f a.stamp m first
      (subst (λ z. stamp_lt a.stamp z ≡ false) (sym e) (stamp_lt-never_itself a.stamp)) g))

  -- a Move that was found
  record IsMoveAt (to : ℕ) (s : Stamp) (f : ℕ) (b : Front) : Type 0 where
    message : Message
    first : first_of (waiting to f ls) ≡ Some message
    moving : is_moving message ≡ true
    soon : stamp_lt s (stamp_of message) ≡ false
    is : front_of to f message ≡ b

  move_found : (to : ℕ) (s : Stamp) (f : ℕ) (b : Front) → move_at ls to s f ≡ Some b → IsMoveAt to s f b
  move_found to s f b h = by (first_of (waiting to f ls)) refl h
    where
      go : (m : Message) (x y : Bool) → first_of (waiting to f ls) ≡ Some m → is_moving m ≡ x
          → stamp_lt s (stamp_of m) ≡ y → cond (x && not y) (Some (front_of to f m)) None ≡ Some b → IsMoveAt to s f b
      go m true true e i j g = absurd (cc)
      go m false y e i j g = absurd (cc)
      go m true false e i j g = record { message = m; first = e; moving = i; soon = j; is = cc }

      by : (o : Option Message) → first_of (waiting to f ls) ≡ o → move_of to f s o ≡ Some b → IsMoveAt to s f b
      by None e g = absurd (cc)
      by (Some m) e g = go m (is_moving m) (stamp_lt s (stamp_of m)) e refl refl g

  pub leads_moving : (to : ℕ) (a b : Front) → IsNextTo ls to a → move_at ls a.to a.stamp b.from ≡ Some b
      → ((g : ℕ) → g < b.from → move_at ls a.to a.stamp g ≡ None) → LeadsTo ls clps to b
  leads_moving to a b next found fewer = (let x = move_found a.to a.stamp b.from b found in by x)
    where
      by : IsMoveAt a.to a.stamp b.from b → LeadsTo ls clps to b
      by x = record {
        here = here;
        front = record {
          message = m;
          first = subst (λ z. first_of (waiting z b.from ls) ≡ Some m) (ap (λ (z : Front). z.to) x.is) x.first;
          is = sym x.is ∙ ap (λ z. front_of z b.from m) (ap (λ (z : Front). z.to) x.is);
        };
        least = λ f y first within. elim (cases_Bool (front_lt (front_of to f y) b)) [
          | inr e ↦ e
          | inl e ↦ absurd (never f y first (before (front_of to f y) b e))
        ];
      }
        where
          m : Message
          m = x.message

          here : b.to ≡ to
          here = sym (ap (λ (z : Front). z.to) x.is) ∙ next.here

          moves_b : b.moves ≡ true
          moves_b = sym (ap (λ (z : Front). z.moves) x.is) ∙ x.moving

          at : first_of (waiting to b.from ls) ≡ Some m
          at = subst (λ z. first_of (waiting z b.from ls) ≡ Some m) next.here x.first

          -- it is of the moment of the next by sender
          moment : b.stamp ≡ a.stamp
          moment = sym (ap (λ (z : Front). z.stamp) x.is) ∙ stamp_lt-same (stamp_of m) a.stamp
              (left_false (stamp_lt (stamp_of m) a.stamp) _ (next.next b.from m at)) x.soon

          never : (f : ℕ) (y : Message) → first_of (waiting to f ls) ≡ Some y → IsBefore (front_of to f y) b → ⊥
          never f y first (inl e) =
              let h = left_false (stamp_lt (stamp_of y) a.stamp) _ (next.next f y first) in
              let g : true ≡ false = sym (subst (λ z. stamp_lt (stamp_of y) z ≡ true) moment e) ∙ h in cc
          never f y first (inr (e, inl g)) = (let h : true ≡ false = sym moves_b ∙ g.1 in cc)
          never f y first (inr (e, inr (g, inl l))) = let h = here in omega arith
          never f y first (inr (e, inr (g, inr l))) =
              none_some (move_at ls to a.stamp f) (front_of to f y)
              (subst (λ z. move_at ls z a.stamp f ≡ None) next.here (fewer f l.1))
              (found_move to f a.stamp y first
              (subst (λ z. stamp_lt a.stamp z ≡ false) (sym (e ∙ moment)) (stamp_lt-never_itself a.stamp)) (g ∙ moves_b))

  -- ---- the first of all

  -- one receiver more, at which nothing comes before the first so far
  step : (k : ℕ) (a : Front) → IsFront ls a → ((t f : ℕ) → t < k → IsNotBefore ls clps a t f)
      → ((f : ℕ) → IsNotBefore ls clps a k f) → LeadsBelow ls clps (k + 1) a
  step k a front low here = record {
    front = front;
    least = λ t f lt. elim (cases_Bool (nat_lt t k)) [
      | inl e ↦ low t f (grind (arith, nat_tests, e))
      | inr e ↦ (let s : k ≡ t = grind (arith, nat_tests, e, lt) in subst (λ z. IsNotBefore ls clps a z f) s (here f))
    ];
  }

  pub best_stays : (k : ℕ) (best found : Front) → LeadsBelow ls clps k best → IsNextTo ls k found
      → stamp_lt best.stamp found.stamp ≡ true → LeadsBelow ls clps (k + 1) best
  best_stays k best found b next lt = step k best b.front b.least
      (λ f m first within. elim (cases_Bool (front_lt (front_of k f m) best)) [
        | inr e ↦ e
        | inl e ↦ absurd (by f m first (before (front_of k f m) best e))
      ])
    where
      by : (f : ℕ) (m : Message) → first_of (waiting k f ls) ≡ Some m → IsBefore (front_of k f m) best → ⊥
      by f m first (inl e) =
          let h = left_false (stamp_lt (stamp_of m) found.stamp) _ (next.next f m first) in
          let g : true ≡ false = sym (stamp_lt-trans (stamp_of m) best.stamp found.stamp e lt) ∙ h in cc
      by f m first (inr e) =
          let h = left_false (stamp_lt (stamp_of m) found.stamp) _ (next.next f m first) in
          let g : true ≡ false = sym (subst (λ z. stamp_lt z found.stamp ≡ true) (sym e.0) lt) ∙ h in cc

  pub found_leads : (k : ℕ) (best found : Front) → LeadsBelow ls clps k best → LeadsTo ls clps k found
      → front_lt found best ≡ true → LeadsBelow ls clps (k + 1) found
  found_leads k best found b l lt = step k found l.front
      (λ t f low m first within. not_before_lesser (front_of t f m) best found (b.least t f low m first within) lt)
      l.least

  pub best_leads : (k : ℕ) (best found : Front) → LeadsBelow ls clps k best → LeadsTo ls clps k found
      → front_lt found best ≡ false → LeadsBelow ls clps (k + 1) best
  best_leads k best found b l lt = step k best b.front b.least
      (λ f m first within. not_before_either (front_of k f m) found best (l.least f m first within) lt)

  nothing : (t f : ℕ) (m : Message) → IsIdle t ls → first_of (waiting t f ls) ≡ Some m → ⊥
  nothing t f m idle e = (let g : None ≡ Some m = sym (ap first_of (idle f)) ∙ e in cc)

  below : (k : ℕ) → ((t : ℕ) → t < k → IsIdle t ls) → IsIdle k ls → (t : ℕ) → t < k + 1 → IsIdle t ls
  below k low here t lt = elim (cases_Bool (nat_lt t k)) [
    | inl e ↦ low t (grind (arith, nat_tests, e))
    | inr e ↦ (let s : k ≡ t = grind (arith, nat_tests, e, lt) in subst (λ z. IsIdle z ls) s here)
  ]

  pub best_idle : (k : ℕ) (best : Option Front) → IsBest ls clps k best → IsIdle k ls → IsBest ls clps (k + 1) best
  best_idle k best b idle = record {
    some = λ a e. (let x = b.some a e in step k a x.front x.least (λ f m first within. absurd (nothing k f m idle first)));
    none = λ e. below k (b.none e) idle;
  }

  pub best_both : (k : ℕ) (best : Option Front) (a b : Front) → best ≡ Some a → IsBest ls clps k best
      → (LeadsBelow ls clps k a → LeadsBelow ls clps (k + 1) b) → IsBest ls clps (k + 1) (Some b)
  best_both k best a b is x more = record {
    some = λ c e. (let s : b ≡ c = cc in subst (LeadsBelow ls clps (k + 1)) s (more (x.some a is)));
    none = λ e. absurd (cc);
  }

  pub best_first : (k : ℕ) (best : Option Front) (b : Front) → best ≡ None → IsBest ls clps k best
      → LeadsTo ls clps k b → IsBest ls clps (k + 1) (Some b)
  best_first k best b is x l = record {
    some = λ c e. (let s : b ≡ c = cc in subst (LeadsBelow ls clps (k + 1)) s
        (step k b l.front (λ t f low m first within. absurd (nothing t f m (x.none is t low) first)) l.least));
    none = λ e. absurd (cc);
  }

  pub best_none : IsBest ls clps 0 None
  best_none = record { some = λ a e. absurd (cc); none = λ e t lt. absurd (omega arith) }
