-- The answers that stand beside the kept steps, through all that happens to the steps.
use Rattle.std.proofs.Common.{◌≡◌, refl, sym, ap, ap₂, ◌∙◌, subst, ℕ, zero, suc, ◌+◌, ◌-◌, ◌==◌, ◌&&◌, Bool, true, false}
use Rattle.std.proofs.Common.{List, [], ◌∷◌, ◌++◌, take, drop, length, map, Option, Some, None, arith, append-nil}
use Rattle.std.proofs.Common.{append_assoc}
use Rattle.std.proofs.Math.Seq.{drop-append_seam, take-append_seam}
use Rattle.std.proofs.lemmas.Bool.{and_parts, cases_Bool}
use Rattle.std.proofs.lemmas.Bool.Decides.{nat_tests, Decides-int_eq}
use Rattle.std.proofs.lemmas.List.{length-append, map-append}
use Rattle.std.proofs.lemmas.Option.{none-some, same_Some}
use Rattle.std.specs.Ordering.{int_eq}
use Rattle.pm_base.specs.Changes.{value_eq}
use Rattle.pm_base.specs.declared.value.Hit.{Hit}
use Rattle.pm_base.specs.declared.value.Value.{Value}
use Rattle.pm_saved.specs.Senses.{answer, answers, hits_eq}
use Rattle.pm_saved.specs.Spots.{InStep, Spot, in_front, sense_at, spot_at, spot_in, step_at, step_in_front}
use Rattle.pm_saved.specs.Steps.{AtLast}
use Rattle.pm_saved.specs.declared.kept.KeptSense.{KeptSense}
use Rattle.pm_saved.specs.declared.kept.KeptStep.{KeptStep}
use Rattle.pm_saved.specs.declared.spot.Spot.{Spot as Place}
use Rattle.pm_alp.specs.States.{AreTold, last_senses, sensed, told_before}
use Rattle.pm_alp.proofs.Places.{spot-steps}

-- these are the first of all
abbrev pub Starts : List (List Hit) → List (List Hit) → Type 0
Starts told all = (rest : List (List Hit)) × (all ≡ told ++ rest)

-- no answers are some
pub told-none : (steps : List KeptStep) → AreTold steps []
told-none [] = tt
told-none (s ∷ ss) = (answers (last_senses s.senses ss), refl)

last-of : (xs : List KeptSense) (front : List KeptStep) (s : KeptStep) (rest : List KeptStep)
    → last_senses xs (front ++ s ∷ rest) ≡ last_senses s.senses rest
last-of xs [] s rest = refl
last-of xs (f ∷ front) s rest = last-of f.senses front s rest

-- the answers beside steps, by the steps from one of them on
pub told-at : (front : List KeptStep) (s : KeptStep) (rest : List KeptStep) (told : List (List Hit))
    → Starts told (answers (last_senses s.senses rest)) → AreTold (front ++ s ∷ rest) told
told-at [] s rest told h = h
told-at (f ∷ front) s rest told h =
    subst (λ (z : List KeptSense). Starts told (answers z)) (sym (last-of f.senses front s rest)) h

pub at-told : (front : List KeptStep) (s : KeptStep) (rest : List KeptStep) (told : List (List Hit))
    → AreTold (front ++ s ∷ rest) told → Starts told (answers (last_senses s.senses rest))
at-told [] s rest told h = h
at-told (f ∷ front) s rest told h =
    subst (λ (z : List KeptSense). Starts told (answers z)) (last-of f.senses front s rest) h

senses-same : (xs ys : List KeptSense) (ss : List KeptStep) → answers xs ≡ answers ys
    → answers (last_senses xs ss) ≡ answers (last_senses ys ss)
senses-same xs ys [] e = e
senses-same xs ys (s ∷ ss) e = refl

-- a step with the same answers in the place of the one there
pub told-same : (front : List KeptStep) (s t : KeptStep) (rest : List KeptStep) (told : List (List Hit))
    → answers s.senses ≡ answers t.senses → AreTold (front ++ s ∷ rest) told → AreTold (front ++ t ∷ rest) told
told-same front s t rest told e h =
    let k = at-told front s rest told h in
    told-at front t rest told (k.0, sym (senses-same s.senses t.senses rest e) ∙ k.1)

-- the last step with more senses
pub told-more : (front : List KeptStep) (s t : KeptStep) (more : List KeptSense) (told : List (List Hit))
    → t.senses ≡ s.senses ++ more → AreTold (front ++ s ∷ []) told → AreTold (front ++ t ∷ []) told
told-more front s t more told e h =
    let k = at-told front s [] told h in
    let f : KeptSense → List Hit = λ x. answer x.hits in
    told-at front t [] told (
      k.0 ++ answers more,
      ap answers e ∙ (map-append f s.senses more ∙ (ap (λ z. z ++ answers more) k.1
          ∙ append_assoc told k.0 (answers more))),
    )

-- a step among others, as the last one
record IsEnd (ss : List KeptStep) : Type 0 where
  front : List KeptStep
  last : KeptStep
  steps : ss ≡ front ++ last ∷ []

end-of : (s : KeptStep) (ss : List KeptStep) → IsEnd (s ∷ ss)
end-of s [] = record { front = []; last = s; steps = refl }
end-of s (t ∷ ts) =
    let r = end-of t ts in
    record { front = s ∷ r.front; last = r.last; steps = ap (λ z. s ∷ z) r.steps }

-- all answers of the last step, once those that lacked were added
pub told-filled : (steps : List KeptStep) (told new : List (List Hit)) → AreTold steps told
    → AtLast steps (λ front last. new ≡ told ++ drop (length told) (answers last.senses))
    → AtLast steps (λ front last. new ≡ answers last.senses)
told-filled steps told new h f = λ front last e.
    let k = at-told front last [] told (subst (λ (z : List KeptStep). AreTold z told) e h) in
    f front last e ∙ (ap (λ z. told ++ drop (length told) z) k.1
    ∙ (ap (λ z. told ++ z) (drop-append_seam told k.0) ∙ sym k.1))

-- which are answers of its first senses
pub filled-told : (steps : List KeptStep) (new : List (List Hit))
    → AtLast steps (λ front last. new ≡ answers last.senses) → AreTold steps new
filled-told [] new f = tt
filled-told (s ∷ ss) new f =
    let r = end-of s ss in
    let e : new ≡ answers r.last.senses = f r.front r.last r.steps in
    subst (λ (z : List KeptStep). AreTold z new) (sym r.steps)
    (told-at r.front r.last [] new ([], sym e ∙ sym (append-nil new)))

-- without the first step
pub told-rest : (steps : List KeptStep) (told : List (List Hit)) → AreTold steps told → AreTold (drop 1 steps) told
told-rest [] told h = tt
told-rest (s ∷ []) told h = tt
told-rest (s ∷ (t ∷ ts)) told h = h

-- two answers that are tested the same are one
value-one : (v w : Value) → value_eq v w ≡ true → v ≡ w
value-one v w e =
    let a = and_parts (int_eq v.x w.x) (int_eq v.y w.y) e in
    let x : v.x ≡ w.x = (Decides-int_eq v.x w.x).0 a.0 in
    let y : v.y ≡ w.y = (Decides-int_eq v.y w.y).0 a.1 in
    λ i. record { x = x i; y = y i }

pub hits-one : (xs ys : List Hit) → hits_eq xs ys ≡ true → xs ≡ ys
hits-one [] [] e = refl
hits-one [] (y ∷ ys) e = absurd (cc)
hits-one (x ∷ xs) [] e = absurd (cc)
hits-one (x ∷ xs) (y ∷ ys) e =
    let a = and_parts (x.var == y.var && value_eq x.value y.value) (hits_eq xs ys) e in
    let b = and_parts (x.var == y.var) (value_eq x.value y.value) a.0 in
    let v : x.var ≡ y.var = (let f = b.0 in grind (arith, nat_tests, f)) in
    let w = value-one x.value y.value b.1 in
    ap₂ (λ z zs. z ∷ zs) (λ i. record { var = v i; value = w i }) (hits-one xs ys a.1)

-- how many senses and steps are before a place
record IsInStep (j : ℕ) (xs : List KeptSense) (i : InStep) : Type 0 where
  senses : xs ≡ i.before ++ i.sense ∷ i.later
  before : j ≡ length i.before

in-step : (j : ℕ) (xs : List KeptSense) (i : InStep) → sense_at j xs ≡ Some i → IsInStep j xs i
in-step j [] i e = absurd (none-some i e)
in-step zero (x ∷ xs) i e =
    let s : record { before = []; sense = x; later = xs } ≡ i = same_Some _ i e in
    subst (IsInStep 0 (x ∷ xs)) s (record { senses = refl; before = refl })
in-step (suc j) (x ∷ xs) i e = by (sense_at j xs) (λ k f. in-step j xs k f) e
  where
    by : (o : Option InStep) → ((k : InStep) → o ≡ Some k → IsInStep j xs k) → in_front x o ≡ Some i
        → IsInStep (suc j) (x ∷ xs) i
    by None f g = absurd (none-some i g)
    by (Some k) f g =
        let h : IsInStep j xs k = f k refl in
        let s : ◌≡◌ {A = InStep} (record k { before = x ∷ k.before }) i = same_Some
        (record k { before = x ∷ k.before }) i g in
        subst (IsInStep (suc j) (x ∷ xs)) s (record {
          senses = ap (λ z. x ∷ z) h.senses;
          before = ap suc h.before;
        })

pub record Counts (i j : ℕ) (s : Spot) : Type 0 where
  pub front : i ≡ length s.front
  pub senses : s.here.senses ≡ s.before ++ s.sense ∷ s.later
  pub before : j ≡ length s.before

counts : (i j : ℕ) (ss : List KeptStep) (s : Spot) → step_at i j ss ≡ Some s → Counts i j s
counts i j [] s e = absurd (none-some s e)
counts zero j (x ∷ xs) s e = by (sense_at j x.senses) (λ k f. in-step j x.senses k f) e
  where
    by : (o : Option InStep) → ((k : InStep) → o ≡ Some k → IsInStep j x.senses k) → spot_in x xs o None ≡ Some s
        → Counts 0 j s
    by None f g = absurd (none-some s g)
    by (Some k) f g =
        let h : IsInStep j x.senses k = f k refl in
        let t : Spot = record {
          front = [];
          here = x;
          before = k.before;
          sense = k.sense;
          later = k.later;
          rest = xs;
        } in
        subst (Counts 0 j) (same_Some t s g) (record { front = refl; senses = h.senses; before = h.before })
counts (suc i) j (x ∷ xs) s e = by (step_at i j xs) (λ t f. counts i j xs t f) e
  where
    by : (o : Option Spot) → ((t : Spot) → o ≡ Some t → Counts i j t) → step_in_front x o ≡ Some s
        → Counts (suc i) j s
    by None f g = absurd (none-some s g)
    by (Some t) f g =
        let h : Counts i j t = f t refl in
        subst (Counts (suc i) j) (same_Some (record t { front = x ∷ t.front }) s g) (record {
          front = ap suc h.front;
          senses = h.senses;
          before = h.before;
        })

pub spot-counts : (at : Place) (ss : List KeptStep) (s : Spot) → spot_at at ss ≡ Some s → Counts at.step at.sense s
spot-counts at ss s e = counts at.step at.sense ss s e

-- the place is in the last step
no-rest : (i n : ℕ) (front : List KeptStep) (x : KeptStep) (rest : List KeptStep) → i ≡ length front
    → n ≡ length (front ++ x ∷ rest) → (i == n - 1) ≡ true → rest ≡ []
no-rest i n front x [] e f g = refl
no-rest i n front x (y ∷ ys) e f g =
    let whole : n ≡ length front + suc (suc (length ys)) = f ∙ length-append front (x ∷ (y ∷ ys)) in
    let last : i ≡ n - 1 = grind (arith, nat_tests, g) in
    absurd (omega (arith, whole, last, e))

take-split : (n : ℕ) (xs ys : List (List Hit)) → Starts (take n xs) (take n (xs ++ ys))
take-split zero xs ys = ([], refl)
take-split (suc n) [] ys = (take (suc n) ys, refl)
take-split (suc n) (x ∷ xs) ys = let r = take-split n xs ys in (r.0, ap (λ z. x ∷ z) r.1)

-- of answers that begin these, so many as the first of these are begin them
starts-first : (n : ℕ) (told xs bs : List (List Hit)) → n ≡ length xs → Starts told (xs ++ bs) → Starts (take n told) xs
starts-first n told xs bs e h =
    let r = take-split n told h.0 in (
      r.0,
      sym (take-append_seam xs bs) ∙ (ap (λ k. take k (xs ++ bs)) (sym e) ∙ (ap (take n) h.1 ∙ r.1)),
    )

answers-length : (xs : List KeptSense) → length (answers xs) ≡ length xs
answers-length [] = refl
answers-length (x ∷ xs) = ap suc (answers-length xs)

-- what is left of the answers at a place answers the senses before it
pub told-first : (steps : List KeptStep) (at : Place) (s : Spot) (told t : List (List Hit)) → AreTold steps told
    → spot_at at steps ≡ Some s → t ≡ told_before (at.step == length steps - 1) at.sense told
    → Starts t (answers s.before)
told-first steps at s told t h e f = by (at.step == length steps - 1) refl f
  where
    c : Counts at.step at.sense s
    c = spot-counts at steps s e

    parts : steps ≡ s.front ++ s.here ∷ s.rest
    parts = spot-steps at steps s e

    by : (b : Bool) → (at.step == length steps - 1) ≡ b → t ≡ told_before b at.sense told → Starts t (answers s.before)
    by false g k = (answers s.before, ap (λ z. z ++ answers s.before) (sym k))
    by true g k =
        let none : s.rest ≡ [] = no-rest at.step (length steps) s.front s.here s.rest c.front (ap length parts) g in
        let here = at-told s.front s.here s.rest told (subst (λ (z : List KeptStep). AreTold z told) parts h) in
        let all : answers s.here.senses ≡ answers s.before ++ answers (s.sense ∷ s.later) =
        ap answers c.senses ∙ map-append (λ (x : KeptSense). answer x.hits) s.before (s.sense ∷ s.later) in
        let starts : Starts told (answers s.before ++ answers (s.sense ∷ s.later)) = (
          here.0,
          sym all ∙ (ap (λ (z : List KeptStep). answers (last_senses s.here.senses z)) (sym none) ∙ here.1),
        ) in
        subst (λ z. Starts z (answers s.before)) (sym k)
        (starts-first at.sense told (answers s.before) _ (c.before ∙ sym (answers-length s.before)) starts)

starts-more : (t : List (List Hit)) (xs ys : List KeptSense) → Starts t (answers xs) → Starts t (answers (xs ++ ys))
starts-more t xs ys h = (
  h.0 ++ answers ys,
  map-append (λ (z : KeptSense). answer z.hits) xs ys ∙ (ap (λ z. z ++ answers ys) h.1
      ∙ append_assoc t h.0 (answers ys)),
)

-- with another sense there
pub told-written : (steps : List KeptStep) (at : Place) (s : Spot) (x : KeptSense) (told t : List (List Hit))
    → AreTold steps told → spot_at at steps ≡ Some s
    → t ≡ told_before (at.step == length steps - 1) at.sense told → AreTold (s.front ++ sensed s x ∷ s.rest) t
told-written steps at s x told t h e f = by (at.step == length steps - 1) refl f
  where
    c : Counts at.step at.sense s
    c = spot-counts at steps s e

    first : Starts t (answers s.before)
    first = told-first steps at s told t h e f

    by : (b : Bool) → (at.step == length steps - 1) ≡ b → t ≡ told_before b at.sense told
        → AreTold (s.front ++ sensed s x ∷ s.rest) t
    by false g k = subst (AreTold (s.front ++ sensed s x ∷ s.rest)) (sym k) (told-none _)
    by true g k =
        let none : s.rest ≡ [] = no-rest at.step (length steps) s.front s.here s.rest c.front
        (ap length (spot-steps at steps s e)) g in
        subst (λ (z : List KeptStep). AreTold (s.front ++ sensed s x ∷ z) t) (sym none)
        (told-at s.front (sensed s x) [] t (starts-more t s.before (x ∷ s.later) first))

-- with all dropped that came after the place
pub told-back : (s : Spot) (x : KeptSense) (t : List (List Hit)) → Starts t (answers s.before)
    → AreTold (s.front ++ record s.here { senses = s.before ++ x ∷ []; act = None } ∷ []) t
told-back s x t h = told-at s.front (record s.here { senses = s.before ++ x ∷ []; act = None }) [] t (
  h.0 ++ answers (x ∷ []),
  map-append (λ (z : KeptSense). answer z.hits) s.before (x ∷ []) ∙ (ap (λ z. z ++ answers (x ∷ [])) h.1
      ∙ append_assoc t h.0 (answers (x ∷ []))),
)

-- with a sense there that answers the same
pub told-kept : (steps : List KeptStep) (at : Place) (s : Spot) (x : KeptSense) (told : List (List Hit))
    → AreTold steps told → spot_at at steps ≡ Some s → hits_eq (answer x.hits) (answer s.sense.hits) ≡ true
    → AreTold (s.front ++ sensed s x ∷ s.rest) told
told-kept steps at s x told h e f =
    let c = spot-counts at steps s e in
    let g : KeptSense → List Hit = λ z. answer z.hits in
    let same : answers s.here.senses ≡ answers (s.before ++ x ∷ s.later) =
    ap answers c.senses ∙ (map-append g s.before (s.sense ∷ s.later)
    ∙ (ap (λ z. answers s.before ++ (z ∷ answers s.later)) (sym (hits-one _ _ f))
    ∙ sym (map-append g s.before (x ∷ s.later)))) in
    told-same s.front s.here (sensed s x) s.rest told same
    (subst (λ (z : List KeptStep). AreTold z told) (spot-steps at steps s e) h)
