-- Places in full, against places by index.
use Rattle.std.proofs.Common.{◌≡◌, refl, sym, ◌∙◌, ap, subst, ℕ, zero, suc, ◌+◌, ◌-◌, ◌<◌, false, true, List, [], ◌∷◌}
use Rattle.std.proofs.Common.{◌++◌, map, length, get_or, set, take, drop, slice_get, arith, Option, Some, None}
use Rattle.std.proofs.lemmas.Bool.{false≢true}
use Rattle.std.proofs.lemmas.List.{map-append, map-set, set-get_or, set_split, drop_more}
use Rattle.std.proofs.lemmas.Option.{get_or_from_slice_get, none-some, same_Some, slice_get_within}
use Rattle.pm_base.specs.declared.stamp.Stamp.{Stamp}
use Rattle.pm_saved.specs.Inner.{step_of, steps_of}
use Rattle.pm_saved.specs.Spots.{InStep, Spot, in_front, sense_at, spot_in, step_at, step_in_front}
use Rattle.pm_saved.specs.declared.held.Held.{Held}
use Rattle.pm_saved.specs.declared.kept.KeptAct.{KeptAct}
use Rattle.pm_saved.specs.declared.kept.KeptSense.{KeptSense}
use Rattle.pm_saved.specs.declared.kept.KeptStep.{KeptStep}

-- the sense at a place in its step, by its index
pub record IsIn (xs : List KeptSense) (j : ℕ) (i : InStep) : Type 0 where
  pub there : slice_get xs j ≡ Some i.sense
  pub written : (y : KeptSense) → set xs j y ≡ i.before ++ y ∷ i.later
  pub cut : take (j + 1) xs ≡ i.before ++ i.sense ∷ []

take_next : {X : Type 0} (x : X) (xs : List X) (j : ℕ) → take (suc j + 1) (x ∷ xs) ≡ x ∷ take (j + 1) xs
take_next x xs j = let e : suc j + 1 ≡ suc (j + 1) = omega arith in ap (λ (k : ℕ). take k (x ∷ xs)) e

drop_next : {X : Type 0} (x : X) (xs : List X) (j : ℕ) → drop (suc j + 1) (x ∷ xs) ≡ drop (j + 1) xs
drop_next x xs j = let e : suc j + 1 ≡ suc (j + 1) = omega arith in ap (λ (k : ℕ). drop k (x ∷ xs)) e

pub sense_at-in : (j : ℕ) (xs : List KeptSense) (i : InStep) → sense_at j xs ≡ Some i → IsIn xs j i
sense_at-in j [] i e = absurd (none-some i e)
sense_at-in zero (x ∷ xs) i e =
    let s : record { before = []; sense = x; later = xs } ≡ i = same_Some _ i e in
    subst (IsIn (x ∷ xs) 0) s (record { there = refl; written = λ y. refl; cut = refl })
sense_at-in (suc j) (x ∷ xs) i e = by (sense_at j xs) (λ k f. sense_at-in j xs k f) e
  where
    by : (o : Option InStep) → ((k : InStep) → o ≡ Some k → IsIn xs j k) → in_front x o ≡ Some i
        → IsIn (x ∷ xs) (suc j) i
    by None f g = absurd (none-some i g)
    by (Some k) f g =
        let h : IsIn xs j k = f k refl in
        let s : ◌≡◌ {A = InStep} (record k { before = x ∷ k.before }) i = same_Some
        (record k { before = x ∷ k.before }) i g in
        let one_more : take (suc j + 1) (x ∷ xs) ≡ x ∷ take (j + 1) xs = take_next x xs j in
        subst (IsIn (x ∷ xs) (suc j)) s (record {
          there = h.there;
          written = λ y. ap (λ z. x ∷ z)
              (h.written y);
          cut = one_more ∙ ap (λ z. x ∷ z) h.cut;
        })

-- the step and the sense at a place, by their indices
pub record IsAt (hs : List Held) (i j : ℕ) (s : Spot) : Type 0 where
  pub held : Held
  pub there : slice_get hs i ≡ Some held
  pub here : s.here ≡ step_of held
  pub place : InStep
  pub found : sense_at j held.senses.items ≡ Some place
  pub before : s.before ≡ place.before
  pub sense : s.sense ≡ place.sense
  pub later : s.later ≡ place.later
  pub front : s.front ≡ steps_of (take i hs)
  pub rest : s.rest ≡ steps_of (drop (i + 1) hs)

pub step_at-is : (i j : ℕ) (hs : List Held) (s : Spot) → step_at i j (steps_of hs) ≡ Some s → IsAt hs i j s
step_at-is i j [] s e = absurd (none-some s e)
step_at-is zero j (h ∷ hs) s e = by (sense_at j h.senses.items) refl e
  where
    by : (o : Option InStep) → sense_at j h.senses.items ≡ o → spot_in (step_of h) (steps_of hs) o None ≡ Some s
        → IsAt (h ∷ hs) 0 j s
    by None f g = absurd (none-some s g)
    by (Some k) f g =
        let t : Spot = record {
          front = [];
          here = step_of h;
          before = k.before;
          sense = k.sense;
          later = k.later;
          rest = steps_of hs;
        } in
        let same : t ≡ s = same_Some t s g in
        subst (IsAt (h ∷ hs) 0 j) same (record {
          held = h;
          there = refl;
          here = refl;
          place = k;
          found = f;
          before =
              refl;
          sense = refl;
          later = refl;
          front = refl;
          rest = refl;
        })
step_at-is (suc i) j (h ∷ hs) s e = by (step_at i j (steps_of hs)) (λ t f. step_at-is i j hs t f) e
  where
    by : (o : Option Spot) → ((t : Spot) → o ≡ Some t → IsAt hs i j t) → step_in_front (step_of h) o ≡ Some s
        → IsAt (h ∷ hs) (suc i) j s
    by None f g = absurd (none-some s g)
    by (Some t) f g =
        let a : IsAt hs i j t = f t refl in
        let same : ◌≡◌ {A = Spot} (record t { front = step_of h ∷ t.front }) s = same_Some
        (record t { front = step_of h ∷ t.front }) s g in
        subst (IsAt (h ∷ hs) (suc i) j) same
        (record {
          held = a.held;
          there = a.there;
          here = a.here;
          place = a.place;
          found = a.found;
          before =
              a.before;
          sense = a.sense;
          later = a.later;
          front = ap (λ z. step_of h ∷ z) a.front;
          rest = a.rest
              ∙ ap steps_of (sym (drop_next h hs i));
        })

-- a step in the place of the one there
pub at_written : (hs : List Held) (i j : ℕ) (s : Spot) → IsAt hs i j s → (h : Held) (y : KeptStep) → step_of h ≡ y
    → steps_of (set hs i h) ≡ s.front ++ y ∷ s.rest
at_written hs i j s a h y e =
    let split : steps_of (set hs i h)
    ≡ steps_of (take i hs ++ h ∷ drop (suc i) hs) = ap steps_of (set_split hs i h
    (slice_get_within hs i a.held a.there)) in
    let apart : steps_of (take i hs ++ h ∷ drop (suc i) hs)
    ≡ steps_of (take i hs) ++ step_of h ∷ steps_of (drop (suc i) hs) = map-append step_of (take i hs)
    (h ∷ drop (suc i) hs) in
    let next : suc i ≡ i + 1 = omega arith in
    let after : steps_of (drop (suc i) hs) ≡ s.rest = ap (λ (k : ℕ). steps_of (drop k hs)) next ∙ sym a.rest in
    split ∙ (apart ∙ (ap (λ z. z ++ step_of h ∷ steps_of (drop (suc i) hs)) (sym a.front)
    ∙ (ap (λ z. s.front ++ z ∷ steps_of (drop (suc i) hs)) e ∙ ap (λ z. s.front ++ y ∷ z) after)))

-- the step at a place, cut back to it
pub at_cut : (hs : List Held) (i j : ℕ) (s : Spot) → IsAt hs i j s → (h : Held) (y : KeptStep) → step_of h ≡ y
    → steps_of (set (take (i + 1) hs) i h) ≡ s.front ++ y ∷ []
at_cut hs i j s a h y e = cut i hs (slice_get_within hs i a.held a.there) s.front a.front
  where
    cut : (k : ℕ) (gs : List Held) → k < length gs → (f : List KeptStep) → f ≡ steps_of (take k gs)
        → steps_of (set (take (k + 1) gs) k h) ≡ f ++ y ∷ []
    cut k [] lt f q = absurd (omega arith)
    cut zero (g ∷ gs) lt f q = ap (λ z. z ∷ []) e ∙ ap (λ z. z ++ y ∷ []) (sym q)
    cut (suc k) (g ∷ gs) lt f q =
        ap (λ z. steps_of (set z (suc k) h)) (take_next g gs k)
        ∙ (ap (λ z. step_of g ∷ z) (cut k gs (omega arith) (steps_of (take k gs)) refl)
        ∙ ap (λ z. z ++ y ∷ []) (sym q))

-- the last step, by its index
pub record IsLast (hs : List Held) (k : ℕ) (front : List KeptStep) (last : KeptStep) : Type 0 where
  pub held : Held
  pub there : slice_get hs k ≡ Some held
  pub step : step_of held ≡ last
  pub before : front ≡ steps_of (take k hs)
  pub written : (h : Held) → steps_of (set hs k h) ≡ front ++ step_of h ∷ []

head_same : (a b : KeptStep) (xs ys : List KeptStep) → a ∷ xs ≡ b ∷ ys → a ≡ b
head_same a b xs ys e = cc

tail_same : (a b : KeptStep) (xs ys : List KeptStep) → a ∷ xs ≡ b ∷ ys → xs ≡ ys
tail_same a b xs ys e = cc

length_one : (front : List KeptStep) (last : KeptStep) → length (front ++ last ∷ []) ≡ suc (length front)
length_one [] last = refl
length_one (f ∷ fs) last = ap suc (length_one fs last)

steps_length : (hs : List Held) → length (steps_of hs) ≡ length hs
steps_length [] = refl
steps_length (h ∷ hs) = ap suc (steps_length hs)

some_last : (hs : List Held) (front : List KeptStep) (last : KeptStep) → steps_of hs ≡ front ++ last ∷ []
    → 0 < length hs
some_last hs front last e = omega (arith, ap length e, steps_length hs, length_one front last)

pub last-is : (hs : List Held) (k : ℕ) → length hs ≡ suc k → (front : List KeptStep) (last : KeptStep)
    → steps_of hs ≡ front ++ last ∷ [] → IsLast hs k front last
last-is [] k l front last e = absurd (omega (arith, l))
last-is (h ∷ []) zero l [] last e = record {
  held = h;
  there = refl;
  step = head_same
      (step_of h) last [] [] e;
  before = refl;
  written = λ g. refl;
}
last-is (h ∷ hs) zero l (f ∷ fs) last e = absurd (omega (
  arith,
  l,
  steps_length hs,
  length_one fs last,
  ap length
      (tail_same (step_of h) f (steps_of hs) (fs ++ last ∷ []) e),
))
last-is (h ∷ g ∷ hs) zero l [] last e = absurd (omega (arith, l))
last-is (h ∷ hs) (suc k) l [] last e = absurd (omega (
  arith,
  l,
  steps_length hs,
  ap length (tail_same
      (step_of h) last (steps_of hs) [] e),
))
last-is (h ∷ hs) (suc k) l (f ∷ fs) last e =
    let rest : steps_of hs ≡ fs ++ last ∷ [] = tail_same (step_of h) f (steps_of hs) (fs ++ last ∷ []) e in
    let first : step_of h ≡ f = head_same (step_of h) f (steps_of hs) (fs ++ last ∷ []) e in
    let at : IsLast hs k fs last = last-is hs k (omega (arith, l)) fs last rest in
    record {
      held = at.held;
      there = at.there;
      step = at.step;
      before = ap (λ z. z ∷ fs) (sym first) ∙ ap (λ z. step_of h ∷ z) at.before;
      written = λ y. ap (λ z. z ∷ steps_of (set hs k y)) first ∙ ap (λ z. f ∷ z) (at.written y);
    }

-- a step with one sense changed
pub sense-written : (s : Stamp) (a : Option KeptAct) (xs : List KeptSense) (j : ℕ) (f : KeptSense
    → KeptSense) (x y : KeptSense) → x ≡ get_or xs j x → y ≡ f x → (i : InStep) → sense_at j xs ≡ Some i
    → ◌≡◌ {A = KeptStep} (record { stamp = s; senses = set xs j y; act = a })
    (record { stamp = s; senses = i.before ++ f i.sense ∷ i.later; act = a })
sense-written s a xs j f x y e g i h =
    let at = sense_at-in j xs i h in
    let same : x ≡ i.sense = e ∙ get_or_from_slice_get xs j i.sense x at.there in
    ap (λ (z : List KeptSense). record { stamp = s; senses = z; act = a }) (at.written y
    ∙ (ap (λ z. i.before ++ z ∷ i.later) g ∙ ap (λ z. i.before ++ f z ∷ i.later) same))

pub sense-within : (xs : List KeptSense) (j : ℕ) (i : InStep) → sense_at j xs ≡ Some i → j < length xs
sense-within xs j i e = slice_get_within xs j i.sense (sense_at-in j xs i e).there

-- the place's step with one sense changed
pub at_changed : (hs : List Held) (i j : ℕ) (f : KeptSense → KeptSense) (x g : Held) → x ≡ get_or hs i x
    → ((k : InStep) → sense_at j x.senses.items ≡ Some k
    → step_of g ≡ record (step_of x) { senses = k.before ++ f k.sense ∷ k.later })
    → (s : Spot) → step_at i j (steps_of hs) ≡ Some s
    → steps_of (set hs i g) ≡ s.front ++ record s.here { senses = s.before ++ f s.sense ∷ s.later } ∷ s.rest
at_changed hs i j f x g e changed s h =
    let a = step_at-is i j hs s h in
    let same : x ≡ a.held = e ∙ get_or_from_slice_get hs i a.held x a.there in
    let one : step_of g ≡ record (step_of x) { senses = a.place.before ++ f a.place.sense ∷ a.place.later } =
    changed a.place (subst (λ (z : Held). sense_at j z.senses.items ≡ Some a.place) (sym same) a.found) in
    let two : step_of g ≡ record s.here { senses = s.before ++ f s.sense ∷ s.later } =
    one ∙ (ap (λ (z : Held). record (step_of z) { senses = a.place.before ++ f a.place.sense ∷ a.place.later }) same
    ∙ (ap (λ (z : KeptStep). record z { senses = a.place.before ++ f a.place.sense ∷ a.place.later }) (sym a.here)
    ∙ (ap (λ (z : List KeptSense). record s.here { senses = z ++ f a.place.sense ∷ a.place.later }) (sym a.before)
    ∙ (ap (λ (z : KeptSense). record s.here { senses = s.before ++ f z ∷ a.place.later }) (sym a.sense)
    ∙ ap (λ (z : List KeptSense). record s.here { senses = s.before ++ f s.sense ∷ z }) (sym a.later))))) in
    at_written hs i j s a g (record s.here { senses = s.before ++ f s.sense ∷ s.later }) two

-- the place's step, cut back to its sense
pub at_ended : (hs : List Held) (i j : ℕ) (x g : Held) → x ≡ get_or hs i x
    → ((k : InStep) → sense_at j x.senses.items ≡ Some k
    → step_of g ≡ record (step_of x) { senses = k.before ++ k.sense ∷ []; act = None })
    → (s : Spot) → step_at i j (steps_of hs) ≡ Some s
    → steps_of (set hs i g) ≡ s.front ++ record s.here { senses = s.before ++ s.sense ∷ []; act = None } ∷ s.rest
at_ended hs i j x g e changed s h =
    let a = step_at-is i j hs s h in
    let same : x ≡ a.held = e ∙ get_or_from_slice_get hs i a.held x a.there in
    let one : step_of g ≡ record (step_of x) { senses = a.place.before ++ a.place.sense ∷ []; act = None } =
    changed a.place (subst (λ (z : Held). sense_at j z.senses.items ≡ Some a.place) (sym same) a.found) in
    let two : step_of g ≡ record s.here { senses = s.before ++ s.sense ∷ []; act = None } =
    one ∙ (ap (λ (z : Held). record (step_of z) { senses = a.place.before ++ a.place.sense ∷ []; act = None }) same
    ∙ (ap (λ (z : KeptStep). record z { senses = a.place.before ++ a.place.sense ∷ []; act = None }) (sym a.here)
    ∙ (ap (λ (z : List KeptSense). record s.here { senses = z ++ a.place.sense ∷ []; act = None }) (sym a.before)
    ∙ ap (λ (z : KeptSense). record s.here { senses = s.before ++ z ∷ []; act = None }) (sym a.sense)))) in
    at_written hs i j s a g (record s.here { senses = s.before ++ s.sense ∷ []; act = None }) two

pub at_within : (hs : List Held) (i j : ℕ) (s : Spot) → step_at i j (steps_of hs) ≡ Some s → i < length hs
at_within hs i j s e = let a = step_at-is i j hs s e in slice_get_within hs i a.held a.there

-- without the later steps the place is the same, but for them
pub step_at-take : (i j : ℕ) (ss : List KeptStep) (s : Spot) → step_at i j ss ≡ Some s
    → step_at i j (take (i + 1) ss) ≡ Some (record s { rest = [] })
step_at-take i j [] s e = absurd (none-some s e)
step_at-take zero j (x ∷ xs) s e = by (sense_at j x.senses) e
  where
    by : (o : Option InStep) → spot_in x xs o None ≡ Some s → spot_in x [] o None ≡ Some (record s { rest = [] })
    by None g = absurd (none-some s g)
    by (Some k) g =
        let t : Spot = record {
          front = [];
          here = x;
          before = k.before;
          sense = k.sense;
          later = k.later;
          rest = xs;
        } in
        ap (λ (z : Spot). Some (record z { rest = [] })) (same_Some t s g)
step_at-take (suc i) j (x ∷ xs) s e =
    ap (step_at (suc i) j) (take_next x xs i)
    ∙ by (step_at i j xs) (step_at i j (take (i + 1) xs)) (λ t f. step_at-take i j xs t f) e
  where
    by : (o p : Option Spot) → ((t : Spot) → o ≡ Some t → p ≡ Some (record t { rest = [] }))
        → step_in_front x o ≡ Some s → step_in_front x p ≡ Some (record s { rest = [] })
    by None p f g = absurd (none-some s g)
    by (Some t) p f g =
        ap (step_in_front x) (f t refl)
        ∙ ap (λ (z : Spot). Some (record z { rest = [] })) (same_Some (record t { front = x ∷ t.front }) s g)

-- the last step changed
pub last_changed : (hs : List Held) (n : ℕ) → n ≡ length hs → (x g : Held) → x ≡ get_or hs (n - 1) x
    → (front : List KeptStep) (last : KeptStep) → steps_of hs ≡ front ++ last ∷ []
    → (y : KeptStep → KeptStep) → step_of g ≡ y (step_of x) → steps_of (set hs (n - 1) g) ≡ front ++ y last ∷ []
last_changed hs n e x g q front last h y c =
    let some : 0 < length hs = some_last hs front last h in
    let l : IsLast hs (n - 1) front last = last-is hs (n - 1) (omega (arith, e)) front last h in
    let same : x ≡ l.held = q ∙ get_or_from_slice_get hs (n - 1) l.held x l.there in
    l.written g ∙ ap (λ z. front ++ z ∷ []) (c ∙ ap y (ap step_of same ∙ l.step))

-- the steps before the last one
pub last_front : (hs : List Held) (n k : ℕ) → n ≡ length hs → k ≡ n - 1
    → (front : List KeptStep) (last : KeptStep) → steps_of hs ≡ front ++ last ∷ [] → steps_of (take k hs) ≡ front
last_front hs n k l e front last h =
    let some : 0 < length hs = some_last hs front last h in
    sym (last-is hs k (omega (arith, l, e)) front last h).before

-- the steps from a place's step on
pub at_rest : (hs : List Held) (i j : ℕ) (s : Spot) → step_at i j (steps_of hs) ≡ Some s
    → steps_of (drop i hs) ≡ s.here ∷ s.rest
at_rest hs i j s e =
    let a : IsAt hs i j s = step_at-is i j hs s e in
    ap steps_of (drop_more hs i a.held (slice_get_within hs i a.held a.there))
    ∙ (ap (λ (z : Held). step_of z ∷ steps_of (drop (i + 1) hs)) (get_or_from_slice_get hs i a.held a.held a.there)
    ∙ (ap (λ z. z ∷ steps_of (drop (i + 1) hs)) (sym a.here) ∙ ap (λ z. s.here ∷ z) (sym a.rest)))

pub cut_step_is : (s : Stamp) (xs ys : List KeptSense) → xs ≡ ys
    → ◌≡◌ {A = KeptStep} (record { stamp = s; senses = xs; act = None }) (record { stamp = s; senses = ys; act = None })
cut_step_is s xs ys e = ap (λ (z : List KeptSense). record { stamp = s; senses = z; act = None }) e

-- the same step in its place
pub at_same : (hs : List Held) (i : ℕ) (x g : Held) → x ≡ get_or hs i x → step_of g ≡ step_of x
    → steps_of (set hs i g) ≡ steps_of hs
at_same hs i x g e s =
    map-set step_of hs i g ∙ (ap (set (steps_of hs) i) (s ∙ ap step_of e)
    ∙ (sym (map-set step_of hs i (get_or hs i x)) ∙ ap steps_of (set-get_or hs i x)))

-- no step, no last one
pub nothing_last : (hs : List Held) (n : ℕ) → n ≡ length hs → (0 < n → false ≡ true)
    → (front : List KeptStep) (last : KeptStep) → steps_of hs ≡ front ++ last ∷ [] → ⊥
nothing_last [] n e h [] last f = cc
nothing_last [] n e h (x ∷ xs) last f = cc
nothing_last (y ∷ ys) n e h front last f = false≢true (h (omega (arith, e)))

-- the sense at a place
pub at_sense : (hs : List Held) (i j : ℕ) (x : Held) → x ≡ get_or hs i x → (s : Spot)
    → step_at i j (steps_of hs) ≡ Some s → slice_get x.senses.items j ≡ Some s.sense
at_sense hs i j x e s h =
    let a = step_at-is i j hs s h in
    let same : x ≡ a.held = e ∙ get_or_from_slice_get hs i a.held x a.there in
    ap (λ (z : Held). slice_get z.senses.items j) same
    ∙ ((sense_at-in j a.held.senses.items a.place a.found).there ∙ ap (λ z. Some z) (sym a.sense))
