-- What was reached below a line, with nothing left below it, is the sequential run below the line.
use Rattle.std.proofs.Common.{◌≡◌, ℕ, zero, suc, List, [], ◌∷◌, ◌++◌, get_or, slice_get, refl, arith, ap, ◌∙◌, subst, Option, Some, None}
use Rattle.std.specs.Prelude.{filter}
use Rattle.pm_base.specs.Stamps.{IsBefore}
use Rattle.pm_base.specs.declared.rows.Entry.{Entry}
use Rattle.pm_base.specs.declared.stamp.Line.{Line}
use Rattle.pm_base.specs.declared.stamp.Stamp.{Stamp}
use Rattle.pm_model.proofs.Rises.{own-time, turns-rise}
use Rattle.pm_model.proofs.Turns.{rest-step, turn-falls}
use Rattle.pm_model.specs.Entries.{IsInOrder, run_below}
use Rattle.pm_model.specs.Runs.{IsTimely, Moved, and_then_on, rest, sequential_start, sequential_turn, turns, work}
use Rattle.pm_model.specs.declared.AgentState.{AgentState}
use Rattle.pm_model.specs.declared.State.{State}
use Rattle.pm_plan.specs.declared.plan.Plan.{Plan}
use Rattle.pm_sim.specs.Sims.{Each, NotPast, Past, is_past, no_turn, st}
use Rattle.pm_sim.proofs.Commits.{Reaches}
use Rattle.pm_sim.proofs.Lists.{each_from, each_in}
use Rattle.pm_sim.proofs.Stamps.{past_true, past_false, not_past_up}

-- turns that were made come first in the rest of the run
pub reaches_rest : (p : Plan) (es : List Entry) (q r : State)
    → IsTimely p q → Reaches p q es r → (rest p q ≡ es ++ rest p r) × IsTimely p r
reaches_rest p [] q r ok e = (ap (rest p) e, subst (IsTimely p) e ok)
reaches_rest p (e ∷ es) q r ok (mid, t, more) =
    let m : Moved = record { entry = e; state = mid } in
    let o = reaches_rest p es mid r (turn-falls p q m t ok).1 more in
    (rest-step p q m t ok ∙ ap (λ z. e ∷ z) o.0, o.1)

-- where no next time is below the line, no later entry is
abbrev pub StopsAt : Line → State → Type 0
StopsAt l r = (i t : ℕ) → (get_or r.agents i no_turn).next ≡ Some t → NotPast l (st t i)

found : (ts : List AgentState) (i : ℕ) (a : AgentState) → slice_get ts i ≡ Some a → get_or ts i no_turn ≡ a
found [] i a e = absurd (cc)
found (t ∷ ts) zero a e = cc
found (t ∷ ts) (suc i) a e = found ts i a e

pub not_below : (l : Line) (a b : Stamp) → IsBefore a b → NotPast l a → NotPast l b
not_below l a b h np = not_past_up l a b (grind (arith, h)) np

pub late : (p : Plan) (l : Line) (n : ℕ) (r : State)
    → IsTimely p r → StopsAt l r → Each (λ (e : Entry). NotPast l e.stamp) (turns n p r)
late p l zero r ok stops = tt
late p l (suc n) r ok stops = by (sequential_turn p r) refl (turns-rise (suc n) p r ok)
  where
    by : (o : Option Moved) → sequential_turn p r ≡ o
        → IsInOrder (and_then_on (turns n p) o) → Each (λ (e : Entry). NotPast l e.stamp) (and_then_on (turns n p) o)
    by None e rise = tt
    by (Some m) e rise =
        let own = own-time p r m e in
        let np : NotPast l m.entry.stamp = stops m.entry.stamp.agent m.entry.stamp.time
        (ap (λ (a : AgentState). a.next) (found r.agents m.entry.stamp.agent own.agent own.was) ∙ own.at) in (
          np,
          each_from (λ (e : Entry). NotPast l e.stamp) (turns n p m.state) (λ x i. not_below l m.entry.stamp
              x.stamp (each_in (λ (y : Entry). IsBefore m.entry.stamp y.stamp) (turns n p m.state) x rise.0 i) np),
        )

filter_all : (l : Line) (es fs : List Entry) → Each (λ (e : Entry). Past l e.stamp) es
    → Each (λ (e : Entry). NotPast l e.stamp) fs → filter (λ (e : Entry). is_past l e.stamp) (es ++ fs) ≡ es
filter_all l [] [] a b = refl
filter_all l [] (f ∷ fs) a b = rw (past_false l f.stamp b.0) (filter_all l [] fs a b.1)
filter_all l (e ∷ es) fs a b = rw (past_true l e.stamp a.0) (ap (λ z. e ∷ z) (filter_all l es fs a.1 b))

pub below_is : (p : Plan) (l : Line) (es : List Entry) (r : State)
    → IsTimely p (sequential_start p) → Reaches p (sequential_start p) es r → Each (λ (e : Entry). Past l e.stamp) es
    → StopsAt l r → run_below p l ≡ es
unfolding run_below rest
below_is p l es r ok h past stops =
    let o = reaches_rest p es (sequential_start p) r ok h in
    ap (filter (λ (e : Entry). is_past l e.stamp)) o.0
    ∙ filter_all l es (turns (work p r) p r) past (late p l (work p r) r o.1 stops)
