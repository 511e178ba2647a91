-- Where a change of a sense leaves the places of kept steps, and their moments.
use Rattle.std.proofs.Common.{◌≡◌, refl, sym, ap, ◌∙◌, subst, ℕ, zero, suc, ◌<◌, ◌^◌, true, is_some, List, [], ◌∷◌}
use Rattle.std.proofs.Common.{◌++◌, Option, Some, None}
use Rattle.std.proofs.lemmas.Bool.{false≢true}
use Rattle.std.proofs.lemmas.Option.{none-some, same_Some}
use Rattle.pm_base.specs.declared.stamp.Num.{Num}
use Rattle.pm_base.specs.declared.stamp.Stamp.{Stamp}
use Rattle.pm_saved.specs.Spots.{InStep, Spot, find, in_front, sense_at, spot_at, spot_in, step_at, step_in_front}
use Rattle.pm_saved.specs.Steps.{AtLast}
use Rattle.pm_saved.specs.declared.kept.KeptSense.{KeptSense}
use Rattle.pm_saved.specs.declared.kept.KeptStep.{KeptStep}
use Rattle.pm_saved.specs.declared.spot.Spot.{Spot as Place}
use Rattle.pm_alp.specs.States.{AreTimely, IsThere, sensed, written_at}

sense_written : (j : ℕ) (xs : List KeptSense) (i : InStep) (y : KeptSense) → sense_at j xs ≡ Some i
    → sense_at j (i.before ++ y ∷ i.later) ≡ Some (record i { sense = y })
sense_written j [] i y e = absurd (none-some i e)
sense_written zero (x ∷ xs) i y e =
    let same : record { before = []; sense = x; later = xs } ≡ i = same_Some _ i e in
    subst (λ (z : InStep). sense_at 0 (z.before ++ y ∷ z.later) ≡ Some (record z { sense = y })) same refl
sense_written (suc j) (x ∷ xs) i y e = by (sense_at j xs) (λ k f. sense_written j xs k y f) e
  where
    by : (o : Option InStep) → ((k : InStep) → o ≡ Some k
        → sense_at j (k.before ++ y ∷ k.later) ≡ Some (record k { sense = y })) → in_front x o ≡ Some i
        → sense_at (suc j) (i.before ++ y ∷ i.later) ≡ Some (record i { sense = y })
    by None f g = absurd (none-some i g)
    by (Some k) f g =
        let same : ◌≡◌ {A = InStep} (record k { before = x ∷ k.before }) i = same_Some
        (record k { before = x ∷ k.before }) i g in
        subst (λ (z : InStep). sense_at (suc j) (z.before ++ y ∷ z.later)
        ≡ Some (record z { sense = y })) same (ap (in_front x) (f k refl))

step_written : (i j : ℕ) (ss : List KeptStep) (s : Spot) (y : KeptSense) → step_at i j ss ≡ Some s
    → step_at i j (s.front ++ sensed s y ∷ s.rest) ≡ Some (written_at s y)
step_written i j [] s y e = absurd (none-some s e)
step_written zero j (x ∷ xs) s y e = by (sense_at j x.senses) refl e
  where
    by : (o : Option InStep) → sense_at j x.senses ≡ o → spot_in x xs o None ≡ Some s
        → step_at 0 j (s.front ++ sensed s y ∷ s.rest) ≡ Some (written_at s y)
    by None f g = absurd (none-some s g)
    by (Some k) f g =
        let t : Spot = record {
          front = [];
          here = x;
          before = k.before;
          sense = k.sense;
          later = k.later;
          rest = xs;
        } in
        let same : t ≡ s = same_Some t s g in
        subst (λ (z : Spot). step_at 0 j (z.front ++ sensed z y ∷ z.rest) ≡ Some (written_at z y)) same
        (ap (λ (o : Option InStep). spot_in (sensed t y) xs o None) (sense_written j x.senses k y f))
step_written (suc i) j (x ∷ xs) s y e = by (step_at i j xs) (λ t f. step_written i j xs t y f) e
  where
    by : (o : Option Spot) → ((t : Spot) → o ≡ Some t
        → step_at i j (t.front ++ sensed t y ∷ t.rest) ≡ Some (written_at t y)) → step_in_front x o ≡ Some s
        → step_at (suc i) j (s.front ++ sensed s y ∷ s.rest) ≡ Some (written_at s y)
    by None f g = absurd (none-some s g)
    by (Some t) f g =
        let same : ◌≡◌ {A = Spot} (record t { front = x ∷ t.front }) s = same_Some
        (record t { front = x ∷ t.front }) s g in
        subst (λ (z : Spot). step_at (suc i) j (z.front ++ sensed z y ∷ z.rest)
        ≡ Some (written_at z y)) same (ap (step_in_front x) (f t refl))

-- the place after its sense changed
pub spot-written : (at : Place) (ss : List KeptStep) (s : Spot) (y : KeptSense) → spot_at at ss ≡ Some s
    → spot_at at (s.front ++ sensed s y ∷ s.rest) ≡ Some (written_at s y)
spot-written at ss s y e = step_written at.step at.sense ss s y e

step_parts : (i j : ℕ) (ss : List KeptStep) (s : Spot) → step_at i j ss ≡ Some s → ss ≡ s.front ++ s.here ∷ s.rest
step_parts i j [] s e = absurd (none-some s e)
step_parts zero j (x ∷ xs) s e = by (sense_at j x.senses) e
  where
    by : (o : Option InStep) → spot_in x xs o None ≡ Some s → x ∷ xs ≡ s.front ++ s.here ∷ s.rest
    by None g = absurd (none-some s g)
    by (Some k) g =
        let t : Spot = record {
          front = [];
          here = x;
          before = k.before;
          sense = k.sense;
          later = k.later;
          rest = xs;
        } in
        subst (λ (z : Spot). x ∷ xs ≡ z.front ++ z.here ∷ z.rest) (same_Some t s g) refl
step_parts (suc i) j (x ∷ xs) s e = by (step_at i j xs) (λ t f. step_parts i j xs t f) e
  where
    by : (o : Option Spot) → ((t : Spot) → o ≡ Some t → xs ≡ t.front ++ t.here ∷ t.rest)
        → step_in_front x o ≡ Some s → x ∷ xs ≡ s.front ++ s.here ∷ s.rest
    by None f g = absurd (none-some s g)
    by (Some t) f g =
        subst (λ (z : Spot). x ∷ xs ≡ z.front ++ z.here ∷ z.rest)
        (same_Some (record t { front = x ∷ t.front }) s g) (ap (λ z. x ∷ z) (f t refl))

-- the parts of a place are the kept steps
pub spot-steps : (at : Place) (ss : List KeptStep) (s : Spot) → spot_at at ss ≡ Some s → ss ≡ s.front ++ s.here ∷ s.rest
spot-steps at ss s e = step_parts at.step at.sense ss s e

-- moments of steps in a row
pub timely-front : (xs ys : List KeptStep) → AreTimely (xs ++ ys) → AreTimely xs
timely-front [] ys h = tt
timely-front (x ∷ xs) ys h = (h.0, timely-front xs ys h.1)

pub timely-back : (xs ys : List KeptStep) → AreTimely (xs ++ ys) → AreTimely ys
timely-back [] ys h = h
timely-back (x ∷ xs) ys h = timely-back xs ys h.1

pub timely-append : (xs ys : List KeptStep) → AreTimely xs → AreTimely ys → AreTimely (xs ++ ys)
timely-append [] ys h k = k
timely-append (x ∷ xs) ys h k = (h.0, timely-append xs ys h.1 k)

-- a step with another of the same moment in its place
pub timely-as : (xs ys : List KeptStep) (x y : KeptStep) → y.stamp ≡ x.stamp → AreTimely (xs ++ x ∷ ys)
    → AreTimely (xs ++ y ∷ ys)
timely-as xs ys x y e h =
    timely-append xs (y ∷ ys) (timely-front xs (x ∷ ys) h)
    (subst (λ (s : Stamp). s.time < 2 ^ 63) (sym e) (timely-back xs (x ∷ ys) h).0, (timely-back xs (x ∷ ys) h).1)

-- the same as the last one
pub timely-last-as : (xs ys : List KeptStep) (x y : KeptStep) → y.stamp ≡ x.stamp → AreTimely (xs ++ x ∷ ys)
    → AreTimely (xs ++ y ∷ [])
timely-last-as xs ys x y e h =
    timely-append xs (y ∷ []) (timely-front xs (x ∷ ys) h)
    (subst (λ (s : Stamp). s.time < 2 ^ 63) (sym e) (timely-back xs (x ∷ ys) h).0, tt)

some_steps : (y : KeptStep) (ys : List KeptStep) → y ∷ ys ≡ [] → ⊥
some_steps y ys e = cc

-- the moment of the last step
pub last-time : (steps : List KeptStep) (r : Option Stamp) → AreTimely steps
    → AtLast steps (λ front last. r ≡ Some last.stamp) → (steps ≡ [] → r ≡ None) → (s : Stamp) → r ≡ Some s
    → s.time < 2 ^ 63
last-time [] r h at none s e = absurd (none-some s (sym (none refl) ∙ e))
last-time (x ∷ []) r h at none s e =
    let same : x.stamp ≡ s = same_Some x.stamp s (sym (at [] x refl) ∙ e) in
    subst (λ (z : Stamp). z.time < 2 ^ 63) same h.0
last-time (x ∷ (y ∷ ys)) r h at none s e =
    last-time (y ∷ ys) r h.1 (λ front last q. at (x ∷ front) last (ap (λ z. x ∷ z) q))
    (λ q. absurd (some_steps y ys q)) s e

-- no last step, where there is none
pub last-missing : (steps : List KeptStep) (r : Option Stamp) → AtLast steps (λ front last. r ≡ Some last.stamp)
    → r ≡ None → AtLast steps (λ front last. ⊥)
last-missing steps r at e = λ front last q. none-some last.stamp (sym e ∙ at front last q)

-- a place that was found is there
pub found-there : (num : Num) (steps : List KeptStep) (at : Place) → find num steps ≡ spot_at at steps
    → is_some (find num steps) ≡ true → IsThere steps at
found-there num steps at e f = by (spot_at at steps) refl (sym (ap is_some e) ∙ f)
  where
    by : (o : Option Spot) → spot_at at steps ≡ o → is_some o ≡ true → IsThere steps at
    by None q h = absurd (false≢true h)
    by (Some s) q h = (s, q)
