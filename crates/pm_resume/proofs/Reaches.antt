-- How a run comes to a time.
use Rattle.std.proofs.Common.{◌≡◌, ℕ, suc, inl, inr, ◌+◌, ◌<◌, ◌≤◌, List, [], ◌∷◌, ◌++◌, length, length-append, Bool, true, false, Option, Some, None, nat_le, nat_lt, cond, refl, sym, ap, ◌∙◌, subst, arith}
use Rattle.std.specs.Prelude.{not, MatchOption}
use Rattle.std.specs.List.{AllByRecursion, filter}
use Rattle.std.proofs.lemmas.Bool.{false≢true}
use Rattle.std.proofs.lemmas.Bool.Decides.{nat_tests}
use Rattle.std.proofs.lemmas.List.{append-nil}
use Rattle.std.proofs.lemmas.List.Elements.{filter-append}
use Rattle.pm_base.specs.Stamps.{is_below, stamp_lt, IsBefore}
use Rattle.pm_base.specs.declared.rows.Entry.{Entry}
use Rattle.pm_base.specs.declared.stamp.Stamp.{Stamp}
use Rattle.pm_plan.specs.Limits.{IsWithinLimits}
use Rattle.pm_plan.specs.declared.plan.Plan.{Plan}
use Rattle.pm_model.proofs.Choices.{option-cases}
use Rattle.pm_model.proofs.Retired.{turn-none}
use Rattle.pm_model.proofs.Rises.{before-test, due-there, turns-rise}
use Rattle.pm_model.proofs.Starts.{starts-timely}
use Rattle.pm_model.proofs.Turns.{least-found, rest-done, rest-step, took, turn-falls}
use Rattle.pm_model.specs.Entries.{IsInOrder, run_below}
use Rattle.pm_model.specs.Runs.{IsTimely, Moved, least_stamp, rest, sequential_start, sequential_turn, work}
use Rattle.pm_model.specs.declared.State.{State}
use Rattle.pm_resume.proofs.Shapes.{start_shape, turn_shape}
use Rattle.pm_resume.specs.Cuts.{after_turn, before, run_from, state_after, state_below}
use Rattle.pm_resume.specs.Reached.{HasDone, HasReached, acts_before}

-- before its first step
pub none_done : (plan : Plan) (from : ℕ) → IsWithinLimits plan → HasDone plan from 0 (sequential_start plan)
none_done plan from limits = record {
  state = refl;
  timely = starts-timely plan limits;
  shape = start_shape plan;
  taken = [];
  count = refl;
  parts = refl;
  early = tt;
}

-- an agent that is due has a turn
turn_there : (plan : Plan) (s : State) (stamp : Stamp) → IsTimely plan s → least_stamp 0 s.agents ≡ Some stamp → (m : Moved) × (sequential_turn plan s ≡ Some m)
turn_there plan s stamp ok least = elim (option-cases (sequential_turn plan s)) [
  | inl none ↦
      let (i, a, n, g, t) = least-found 0 s.agents stamp least in
      absurd (due-there s.agents i a stamp.time g t (turn-none plan s none ok))
  | inr q ↦ q
]

-- the step that an agent makes before that time
record NextStep (plan : Plan) (from : ℕ) (s : State) : Type 0 where
  turn : Moved
  is : sequential_turn plan s ≡ Some turn
  early : nat_lt turn.entry.stamp.time from ≡ true

stamped : (plan : Plan) (s : State) (m : Moved) (stamp : Stamp) → sequential_turn plan s ≡ Some m → least_stamp 0 s.agents ≡ Some stamp → m.entry.stamp ≡ stamp
stamped plan s m stamp turn least =
    let k = took plan s m turn in
    let own : k.stamp ≡ m.entry.stamp = ap (λ (x : Moved). x.entry.stamp) k.gives in
    let same : Some k.stamp ≡ Some stamp = sym k.least ∙ least in
    sym own ∙ (cc same)

next_by : (plan : Plan) (from : ℕ) (s : State) (o : Option Stamp) → IsTimely plan s → least_stamp 0 s.agents ≡ o
    → elim o as (λ _. Bool) [ None ↦ false | Some stamp ↦ nat_lt stamp.time from ] ≡ true → NextStep plan from s
next_by plan from s None ok least early = absurd (false≢true early)
next_by plan from s (Some stamp) ok least early =
    let q = turn_there plan s stamp ok least in
    let st : q.0.entry.stamp ≡ stamp = stamped plan s q.0 stamp q.1 least in
    record { turn = q.0; is = q.1; early = ap (λ (x : Stamp). nat_lt x.time from) st ∙ early }

next_step : (plan : Plan) (from : ℕ) (s : State) → IsTimely plan s → acts_before from s ≡ true → NextStep plan from s
next_step plan from s ok early = next_by plan from s (least_stamp 0 s.agents) ok refl early

all_early_more : (from : ℕ) (es : List Entry) (e : Entry) → AllByRecursion (λ (e : Entry). nat_lt e.stamp.time from ≡ true) es → nat_lt e.stamp.time from ≡ true
    → AllByRecursion (λ (e : Entry). nat_lt e.stamp.time from ≡ true) (es ++ e ∷ [])
all_early_more from [] e all early = (early, tt)
all_early_more from (x ∷ es) e all early = (all.0, all_early_more from es e all.1 early)

regroup : (es rest : List Entry) (e : Entry) → es ++ e ∷ rest ≡ (es ++ e ∷ []) ++ rest
regroup [] rest e = refl
regroup (x ∷ es) rest e = ap (λ xs. x ∷ xs) (regroup es rest e)

turned : (plan : Plan) (s : State) (m : Moved) → sequential_turn plan s ≡ Some m → after_turn plan s ≡ m.state
turned plan s m h = ap (λ (o : Option Moved). elim o as (λ _. State) [ None ↦ s | Some n ↦ n.state ]) h

-- one step more
done_more : (plan : Plan) (from n : ℕ) (s : State) (m : Moved) → HasDone plan from n s → sequential_turn plan s ≡ Some m → nat_lt m.entry.stamp.time from ≡ true
    → HasDone plan from (n + 1) m.state
done_more plan from n s m had turn early =
    let e : suc n ≡ n + 1 = omega arith in
    record {
      state = ap (state_after plan) (sym e) ∙ ap (after_turn plan) had.state ∙ turned plan s m turn;
      timely = (turn-falls plan s m turn had.timely).1;
      shape = turn_shape plan s m turn had.shape;
      taken = had.taken ++ m.entry ∷ [];
      count = (let l = length-append had.taken (m.entry ∷ []) in omega (arith, l, had.count));
      parts = had.parts ∙ ap (λ es. had.taken ++ es) (rest-step plan s m turn had.timely) ∙ regroup had.taken (rest plan m.state) m.entry;
      early = all_early_more from had.taken m.entry had.early early;
    }

-- the step that was done, where the next one was before that time
pub done_step : (plan : Plan) (from n : ℕ) (s r : State) (Q : Type 0) (o : Option Entry) → HasDone plan from n s → acts_before from s ≡ true
    → MatchOption o ((sequential_turn plan s ≡ None) × Q) (λ e. sequential_turn plan s ≡ Some (record { entry = e; state = r }))
    → HasDone plan from (n + 1) r
done_step plan from n s r Q None had early moved =
    let q = next_step plan from s had.timely early in absurd (cc (q.is, moved.0))
done_step plan from n s r Q (Some e) had early moved =
    let q = next_step plan from s had.timely early in
    let same : q.turn ≡ record { entry = e; state = r } = cc (q.is, moved) in
    done_more plan from n s (record { entry = e; state = r }) had moved (ap (λ (m : Moved). nat_lt m.entry.stamp.time from) (sym same) ∙ q.early)

-- a step is below the line of a time exactly where it is before that time
below_is : (from : ℕ) (s : Stamp) → is_below s (before from) ≡ nat_lt s.time from
below_is from s = grind (arith, nat_tests)

early_below : (from : ℕ) (es : List Entry) → AllByRecursion (λ (e : Entry). nat_lt e.stamp.time from ≡ true) es → filter (λ (e : Entry). is_below e.stamp (before from)) es ≡ es
early_below from [] all = refl
early_below from (e ∷ es) all =
    ap (λ b. cond b (e ∷ filter (λ (e : Entry). is_below e.stamp (before from)) es) (filter (λ (e : Entry). is_below e.stamp (before from)) es)) (below_is from e.stamp ∙ all.0)
    ∙ ap (λ xs. e ∷ xs) (early_below from es all.1)

early_not : (from t : ℕ) → nat_lt t from ≡ true → nat_le from t ≡ false
early_not from t h = grind (arith, nat_tests, h)

late_is : (from t : ℕ) → nat_lt t from ≡ false → nat_le from t ≡ true
late_is from t h = grind (arith, nat_tests, h)

early_left : (from : ℕ) (es : List Entry) → AllByRecursion (λ (e : Entry). nat_lt e.stamp.time from ≡ true) es → filter (λ (e : Entry). nat_le from e.stamp.time) es ≡ []
early_left from [] all = refl
early_left from (e ∷ es) all =
    ap (λ b. cond b (e ∷ filter (λ (e : Entry). nat_le from e.stamp.time) es) (filter (λ (e : Entry). nat_le from e.stamp.time) es)) (early_not from e.stamp.time all.0)
    ∙ early_left from es all.1

late_below : (from : ℕ) (es : List Entry) → AllByRecursion (λ (e : Entry). nat_lt e.stamp.time from ≡ false) es → filter (λ (e : Entry). is_below e.stamp (before from)) es ≡ []
late_below from [] all = refl
late_below from (e ∷ es) all =
    ap (λ b. cond b (e ∷ filter (λ (e : Entry). is_below e.stamp (before from)) es) (filter (λ (e : Entry). is_below e.stamp (before from)) es)) (below_is from e.stamp ∙ all.0)
    ∙ late_below from es all.1

late_left : (from : ℕ) (es : List Entry) → AllByRecursion (λ (e : Entry). nat_lt e.stamp.time from ≡ false) es → filter (λ (e : Entry). nat_le from e.stamp.time) es ≡ es
late_left from [] all = refl
late_left from (e ∷ es) all =
    ap (λ b. cond b (e ∷ filter (λ (e : Entry). nat_le from e.stamp.time) es) (filter (λ (e : Entry). nat_le from e.stamp.time) es)) (late_is from e.stamp.time all.0)
    ∙ ap (λ xs. e ∷ xs) (late_left from es all.1)

-- what comes after a step of that time or later is of that time or later
later_late : (from : ℕ) (a b : Stamp) → stamp_lt a b ≡ true → nat_lt a.time from ≡ false → nat_lt b.time from ≡ false
later_late from a b h l = grind (arith, nat_tests, h, l)

after_late : (from : ℕ) (a : Stamp) (es : List Entry) → nat_lt a.time from ≡ false → AllByRecursion (λ (e : Entry). IsBefore a e.stamp) es
    → AllByRecursion (λ (e : Entry). nat_lt e.stamp.time from ≡ false) es
after_late from a [] l all = tt
after_late from a (e ∷ es) l all = (later_late from a e.stamp (before-test a e.stamp all.0) l, after_late from a es l all.1)

rest_rises : (plan : Plan) (s : State) → IsTimely plan s → IsInOrder (rest plan s)
unfolding rest
rest_rises plan s ok = turns-rise (work plan s) plan s ok

order_late : (from : ℕ) (e : Entry) (es : List Entry) → IsInOrder (e ∷ es) → nat_lt e.stamp.time from ≡ false → AllByRecursion (λ (e : Entry). nat_lt e.stamp.time from ≡ false) (e ∷ es)
order_late from e es up l = (l, after_late from e.stamp es l up.0)

-- the rest of a run whose next step isn't before that time
rest_late_at : (plan : Plan) (from : ℕ) (s : State) (o : Option Stamp) → IsTimely plan s → least_stamp 0 s.agents ≡ o
    → elim o as (λ _. Bool) [ None ↦ false | Some stamp ↦ nat_lt stamp.time from ] ≡ false → AllByRecursion (λ (e : Entry). nat_lt e.stamp.time from ≡ false) (rest plan s)
rest_late_at plan from s None ok least late = elim (option-cases (sequential_turn plan s)) [
  | inl none ↦ rw (rest-done plan s none) tt
  | inr q ↦ absurd (let k = took plan s q.0 q.1 in cc (k.least, least))
]
rest_late_at plan from s (Some stamp) ok least late = elim (option-cases (sequential_turn plan s)) [
  | inl none ↦ rw (rest-done plan s none) tt
  | inr q ↦
      let step = rest-step plan s q.0 q.1 ok in
      let st : q.0.entry.stamp ≡ stamp = stamped plan s q.0 stamp q.1 least in
      let l : nat_lt q.0.entry.stamp.time from ≡ false = ap (λ (x : Stamp). nat_lt x.time from) st ∙ late in
      subst (λ (es : List Entry). AllByRecursion (λ (e : Entry). nat_lt e.stamp.time from ≡ false) es) (sym step)
      (order_late from q.0.entry (rest plan q.0.state) (subst IsInOrder step (rest_rises plan s ok)) l)
]

rest_late : (plan : Plan) (from : ℕ) (s : State) → IsTimely plan s → acts_before from s ≡ false → AllByRecursion (λ (e : Entry). nat_lt e.stamp.time from ≡ false) (rest plan s)
rest_late plan from s ok late = rest_late_at plan from s (least_stamp 0 s.agents) ok refl late

below_parts : (plan : Plan) (from n : ℕ) (s : State) (had : HasDone plan from n s)
    → run_below plan (before from) ≡ had.taken ++ filter (λ (e : Entry). is_below e.stamp (before from)) (rest plan s)
unfolding run_below
below_parts plan from n s had =
    ap (filter (λ (e : Entry). is_below e.stamp (before from))) had.parts
    ∙ filter-append (λ (e : Entry). is_below e.stamp (before from)) had.taken (rest plan s)
    ∙ ap (λ es. es ++ filter (λ (e : Entry). is_below e.stamp (before from)) (rest plan s)) (early_below from had.taken had.early)

from_parts : (plan : Plan) (from n : ℕ) (s : State) (had : HasDone plan from n s) → run_from plan from ≡ filter (λ (e : Entry). nat_le from e.stamp.time) (rest plan s)
unfolding run_from
from_parts plan from n s had =
    ap (filter (λ (e : Entry). nat_le from e.stamp.time)) had.parts
    ∙ filter-append (λ (e : Entry). nat_le from e.stamp.time) had.taken (rest plan s)
    ∙ ap (λ es. es ++ filter (λ (e : Entry). nat_le from e.stamp.time) (rest plan s)) (early_left from had.taken had.early)

-- where no step is left before that time, the run has come to it
pub reached : (plan : Plan) (from n most : ℕ) (s : State) → HasDone plan from n s → acts_before from s ≡ false → n ≤ most → HasReached plan from most s
unfolding state_below
reached plan from n most s had late few =
    let all = rest_late plan from s had.timely late in
    let below : run_below plan (before from) ≡ had.taken =
    below_parts plan from n s had ∙ ap (λ es. had.taken ++ es) (late_below from (rest plan s) all) ∙ append-nil had.taken in
    let count : length (run_below plan (before from)) ≡ n = ap length below ∙ had.count in
    record {
      state = ap (state_after plan) count ∙ had.state;
      timely = had.timely;
      shape = had.shape;
      few = omega (arith, count, few);
      left = sym (from_parts plan from n s had ∙ late_left from (rest plan s) all);
    }

more_than : (xs : List Entry) (ys : List Entry) (n : ℕ) → length xs ≡ n → 0 < length ys → n < length (xs ++ ys)
more_than xs ys n e some = omega (arith, length-append xs ys, e, some)

below_first : (from : ℕ) (e : Entry) (es : List Entry) → nat_lt e.stamp.time from ≡ true → 0 < length (filter (λ (e : Entry). is_below e.stamp (before from)) (e ∷ es))
below_first from e es early =
    let first = ap (λ b. length (cond b (e ∷ filter (λ (e : Entry). is_below e.stamp (before from)) es) (filter (λ (e : Entry). is_below e.stamp (before from)) es))) (below_is from e.stamp ∙ early) in
    subst (λ n. 0 < n) (sym first) (omega arith)

-- where a step is left before that time, more steps lie before it than were done
pub not_reached : (plan : Plan) (from n : ℕ) (s : State) → HasDone plan from n s → acts_before from s ≡ true → n < length (run_below plan (before from))
not_reached plan from n s had early =
    let q = next_step plan from s had.timely early in
    let step = rest-step plan s q.turn q.is had.timely in
    let some : 0 < length (filter (λ (e : Entry). is_below e.stamp (before from)) (rest plan s)) =
    subst (λ (es : List Entry). 0 < length (filter (λ (e : Entry). is_below e.stamp (before from)) es)) (sym step) (below_first from q.turn.entry (rest plan q.turn.state) q.early) in
    subst (λ (es : List Entry). n < length es) (sym (below_parts plan from n s had)) (more_than had.taken _ n had.count some)

pub reached_more : (plan : Plan) (from n most : ℕ) (s : State) → HasReached plan from n s → n ≤ most → HasReached plan from most s
reached_more plan from n most s r le = record {
  state = r.state;
  timely = r.timely;
  shape = r.shape;
  few = (let f = r.few in omega (arith, f, le));
  left = r.left;
}

-- so many steps were done, and the budget has no more
pub there_at_end : (plan : Plan) (from budget n : ℕ) (s : State) (b : Bool) → HasDone plan from n s → b ≡ acts_before from s → n ≡ budget → not b ≡ true
    → HasReached plan from budget s
there_at_end plan from budget n s true had is all end = absurd (false≢true end)
there_at_end plan from budget n s false had is all end = reached plan from n budget s had (sym is) (omega (arith, all))

pub spent_at_end : (plan : Plan) (from budget n : ℕ) (s : State) (b : Bool) → HasDone plan from n s → b ≡ acts_before from s → n ≡ budget → not b ≡ false
    → budget < length (run_below plan (before from))
spent_at_end plan from budget n s true had is all end = subst (λ m. m < length (run_below plan (before from))) all (not_reached plan from n s had (sym is))
spent_at_end plan from budget n s false had is all end = absurd (false≢true (sym end))

-- a run that starts
pub begun : (p q : Plan) (from : ℕ) (s : State) → q ≡ p → s ≡ sequential_start p → IsWithinLimits p → HasDone q from 0 s
begun p q from s same is limits =
    subst (λ (r : State). HasDone q from 0 r) (sym is) (subst (λ (r : Plan). HasDone r from 0 (sequential_start p)) (sym same) (none_done p from limits))
