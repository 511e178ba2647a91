-- A step accesses a variable at most 17 times: once by each sense, and once by a write.
use Rattle.std.proofs.Common.{◌≡◌, ◌≢◌, refl, ap, sym, subst, ◌∙◌, arith, ℕ, zero, suc, ◌+◌, ◌*◌, ◌<◌, ◌≤◌, Bool, true, false, cond, List, [], ◌∷◌, ◌++◌, length, length-append, map, Option, Some, None, get_or}
use Rattle.std.specs.Prelude.{◌==◌, ◌&&◌, nat_le, slice_get, option_map, option_and_then, ◌^◌}
use Rattle.std.specs.List.{AllByRecursion, filter, flat_map, list_all, All}
use Rattle.std.proofs.lemmas.Bool.{and_parts}
use Rattle.std.proofs.lemmas.Bool.Decides.{nat_tests}
use Rattle.std.proofs.lemmas.List.{map-append, length-map}
use Rattle.std.proofs.lemmas.List.Elements.{filter-append}
use Rattle.std.proofs.lemmas.Option.{same_Some, get_or_from_slice_get}
use Rattle.pm_base.specs.Fits.{fits, are_few, names_fit, reg_names, sense_names, tree_fits}
use Rattle.pm_base.specs.declared.layout.Layout.{Layout}
use Rattle.pm_base.specs.declared.program.Program.{Program}
use Rattle.pm_base.specs.declared.program.Sense.{Sense}
use Rattle.pm_base.specs.declared.program.Sense.TheVariants.{Read, Scan}
use Rattle.pm_base.specs.declared.program.SenseRow.{SenseRow}
use Rattle.pm_base.specs.declared.rows.Act.{Act}
use Rattle.pm_base.specs.declared.rows.Entry.{Entry}
use Rattle.pm_base.specs.declared.stamp.Stamp.{Stamp}
use Rattle.pm_base.specs.declared.value.Hit.{Hit}
use Rattle.pm_base.specs.declared.value.Query.{Query}
use Rattle.pm_base.specs.declared.value.Write.{Write}
use Rattle.pm_plan.proofs.Valid.{valid_agent, valid_rules}
use Rattle.pm_plan.specs.Plans.{IsValid}
use Rattle.pm_plan.specs.declared.plan.AgentRow.{AgentRow}
use Rattle.pm_plan.specs.declared.plan.Plan.{Plan}
use Rattle.pm_step.proofs.StepLaws.{step-rises}
use Rattle.pm_step.specs.Expressions.{sight}
use Rattle.pm_step.specs.Steps.{ForAct, IsRising}
use Rattle.pm_step.specs.declared.Next.{Next}
use Rattle.pm_step.specs.declared.Next.TheVariants as next
use Rattle.pm_model.specs.Hits.{hits}
use Rattle.pm_model.specs.Runs.{Scene, Moved, and_then_on, deed, deed_from, least_stamp, moved, rest, scene_of, sequential_run, sequential_start, sequential_turn, step_at, turn_at, turns, work}
use Rattle.pm_model.specs.declared.AgentState.{AgentState}
use Rattle.pm_model.specs.declared.Deed.{Deed}
use Rattle.pm_model.specs.declared.State.{State}
use Rattle.pm_place.specs.Accesses.{Access, accesses, accesses_in, accesses_of, from, read_of, reads, targets}
use Rattle.pm_place.proofs.Told.{of_var}

-- what is kept is no more than what there was
pub kept-le : (v : ℕ) (xs : List Access) → length (of_var v xs) ≤ length xs
kept-le v [] = omega arith
kept-le v (a ∷ xs) = kept (a.var == v) (kept-le v xs)
  where
    kept : (b : Bool) → length (of_var v xs) ≤ length xs → length (cond b (a ∷ of_var v xs) (of_var v xs)) ≤ suc (length xs)
    kept true le = omega arith
    kept false le = omega arith

read-once : (s : Sense) (hits : List Hit) → length (read_of s hits) ≤ 1
read-once (Read place) [] = omega arith
read-once (Read place) (h ∷ hs) = omega arith
read-once (Scan class x0 x1 y0 y1) hits = omega arith

reads-le : (rows : List SenseRow) (answers : List (List Hit)) → length (reads rows answers) ≤ length rows
reads-le [] answers = omega arith
reads-le (row ∷ rows) [] = omega arith
reads-le (row ∷ rows) (hits ∷ answers) = let one = read-once row.sense hits in omega (arith, length-append (read_of row.sense hits) (reads rows answers), one, reads-le rows answers)

-- the first of rising writes is to a lesser variable than the others, which rise
first-least : (w : Write) (ws : List Write) → IsRising (w ∷ ws) → All (λ u. w.var < u.var) ws
first-least w ws up k d lt = up 0 (suc k) d (omega arith) (omega arith)

others-rise : (w : Write) (ws : List Write) → IsRising (w ∷ ws) → IsRising ws
others-rise w ws up i j d le lt = up (suc i) (suc j) d (omega arith) (omega arith)

none-above : (home v : ℕ) (ws : List Write) → All (λ u. v < u.var) ws → length (of_var v (from home (targets ws))) ≡ 0
none-above home v [] all = refl
none-above home v (w ∷ ws) all =
    let above : v < w.var = all 0 w (omega arith) in
    let other : (w.var == v) ≡ false = grind (arith, nat_tests) in
    let more : All (λ u. v < u.var) ws = λ k d lt. all (suc k) d (omega arith) in
    ap (λ b. length (cond b (record { var = w.var; home = home } ∷ of_var v (from home (targets ws))) (of_var v (from home (targets ws))))) other ∙ none-above home v ws more

written-once : (home v : ℕ) (ws : List Write) → IsRising ws → length (of_var v (from home (targets ws))) ≤ 1
written-once home v [] up = omega arith
written-once home v (w ∷ ws) up = once (w.var == v) refl (written-once home v ws (others-rise w ws up))
  where
    once : (b : Bool) → (w.var == v) ≡ b → length (of_var v (from home (targets ws))) ≤ 1 → length (cond b (record { var = w.var; home = home } ∷ of_var v (from home (targets ws))) (of_var v (from home (targets ws)))) ≤ 1
    once true e more =
        let same : w.var ≡ v = grind (arith, nat_tests, e) in
        let above : All (λ u. v < u.var) ws = λ k d lt. let less = first-least w ws up k d lt in omega (arith, same, less) in
        let none = none-above home v ws above in
        omega (arith, none)
    once false e more = more

-- the agent's rule has few senses, and its step writes a variable once
pub entry-lean : (v : ℕ) (row : AgentRow) (e : Entry) → length row.program.senses ≤ 16 → IsRising e.writes → length (of_var v (accesses_of (Some row) e)) ≤ 17
entry-lean v row e few up =
    let rs = reads row.program.senses e.answers in
    let split = ap (λ xs. of_var v xs) (map-append (λ w. record { var = w; home = row.home }) rs (targets e.writes)) ∙ filter-append (λ (a : Access). a.var == v) (from row.home rs) (from row.home (targets e.writes)) in
    let long = ap (λ (xs : List Access). length xs) split ∙ length-append (of_var v (from row.home rs)) (of_var v (from row.home (targets e.writes))) in
    let read = kept-le v (from row.home rs) in
    let many : length (from row.home rs) ≡ length rs = length-map rs (λ w. record { var = w; home = row.home }) in
    let most = reads-le row.program.senses e.answers in
    let once = written-once row.home v e.writes up in
    omega (arith, long, read, many, most, once, few)

-- each agent's rule has few senses
few-all : (layout : Layout) (rows : List AgentRow) (i : ℕ) (row : AgentRow) → list_all (λ (r : AgentRow). fits r.program layout) rows ≡ true
    → slice_get rows i ≡ Some row → length row.program.senses ≤ 16
unfolding fits
few-all layout [] i row all e = absurd (cc)
few-all layout (r ∷ rows) zero row all e =
    let is : r ≡ row = same_Some _ _ e in
    let fit = (and_parts (fits r.program layout) (list_all (λ (r : AgentRow). fits r.program layout) rows) all).0 in
    let few = (and_parts (are_few r.program) (names_fit (reg_names r.program.regs ++ sense_names r.program.senses) && tree_fits r.program layout) fit).0 in
    let senses = (and_parts (nat_le (length r.program.regs) 16) (nat_le (length r.program.senses) 16) few).1 in
    subst (λ (r : AgentRow). length r.program.senses ≤ 16) is (grind (arith, nat_tests, senses))
few-all layout (r ∷ rows) (suc i) row all e =
    few-all layout rows i row (and_parts (fits r.program layout) (list_all (λ (r : AgentRow). fits r.program layout) rows) all).1 e

pub agent-lean : (plan : Plan) → IsValid plan → (v : ℕ) (e : Entry) (found : Option AgentRow) → slice_get plan.agents e.stamp.agent ≡ found
    → IsRising e.writes → length (of_var v (accesses_of found e)) ≤ 17
agent-lean plan valid v e None is up = omega arith
agent-lean plan valid v e (Some row) is up = entry-lean v row e (few-all plan.layout plan.agents e.stamp.agent row (valid_rules plan valid) is) up

-- so many steps access a variable at most 17 times each
pub run-lean : (plan : Plan) → IsValid plan → (v : ℕ) (es : List Entry) → AllByRecursion (λ (e : Entry). IsRising e.writes) es
    → length (of_var v (accesses_in plan es)) ≤ 17 * length es
run-lean plan valid v [] all = omega arith
run-lean plan valid v (e ∷ es) all =
    let split = ap (λ (xs : List Access). length xs) (filter-append (λ (a : Access). a.var == v) (accesses plan e) (accesses_in plan es)) in
    let long = length-append (of_var v (accesses plan e)) (of_var v (accesses_in plan es)) in
    let one = agent-lean plan valid v e (slice_get plan.agents e.stamp.agent) refl all.0 in
    let more = run-lean plan valid v es all.1 in
    omega (arith, split, long, one, more)

-- a step's writes rise
deed-rises : (left : ℕ) (scene : Scene) (answers : List (List Hit)) (n : Next) (d : Deed) → step_at scene answers ≡ n
    → deed_from left scene answers n ≡ Some d → IsRising d.act.writes
deed-rises left scene answers (next.Act act) d e h =
    let same : act ≡ d.act = ap (λ (x : Deed). x.act) (same_Some _ _ h) in
    let up : IsRising act.writes = subst (ForAct (λ (a : Act). IsRising a.writes)) e (step-rises scene.program (sight scene.classes scene.stamp scene.regs answers)) in
    subst (λ (a : Act). IsRising a.writes) same up
deed-rises zero scene answers (next.Ask q) d e h = absurd (cc h)
deed-rises (suc left) scene answers (next.Ask q) d e h =
    deed-rises left scene (answers ++ hits scene.classes scene.values q ∷ []) _ d refl h

moved-rises : (plan : Plan) (s : State) (st : Stamp) (scene : Scene) (found : Option Deed) (m : Moved) → deed scene ≡ found
    → option_map (moved plan s st) found ≡ Some m → IsRising m.entry.writes
moved-rises plan s st scene None m e h = absurd (cc h)
moved-rises plan s st scene (Some d) m e h =
    let same : d.act.writes ≡ m.entry.writes = ap (λ (x : Moved). x.entry.writes) (same_Some _ _ h) in
    subst IsRising same (deed-rises (length scene.program.senses) scene [] _ d refl e)

agent-rises : (plan : Plan) (s : State) (st : Stamp) (row : AgentRow) (found : Option AgentState) (m : Moved)
    → option_and_then (λ agent. option_map (moved plan s st) (deed (scene_of plan s st row agent))) found ≡ Some m → IsRising m.entry.writes
agent-rises plan s st row None m h = absurd (cc h)
agent-rises plan s st row (Some agent) m h = moved-rises plan s st (scene_of plan s st row agent) _ m refl h

row-rises : (plan : Plan) (s : State) (st : Stamp) (found : Option AgentRow) (m : Moved)
    → option_and_then (λ row. option_and_then (λ agent. option_map (moved plan s st) (deed (scene_of plan s st row agent))) (slice_get s.agents st.agent)) found ≡ Some m
    → IsRising m.entry.writes
row-rises plan s st None m h = absurd (cc h)
row-rises plan s st (Some row) m h = agent-rises plan s st row (slice_get s.agents st.agent) m h

stamp-rises : (plan : Plan) (s : State) (found : Option Stamp) (m : Moved) → option_and_then (turn_at plan s) found ≡ Some m → IsRising m.entry.writes
stamp-rises plan s None m h = absurd (cc h)
stamp-rises plan s (Some st) m h = row-rises plan s st (slice_get plan.agents st.agent) m h

turns-rise : (n : ℕ) (plan : Plan) (s : State) → AllByRecursion (λ (e : Entry). IsRising e.writes) (turns n plan s)
turns-rise zero plan s = tt
turns-rise (suc n) plan s = onward (sequential_turn plan s) refl (λ next. turns-rise n plan next)
  where
    onward : (found : Option Moved) → sequential_turn plan s ≡ found → ((next : State) → AllByRecursion (λ (e : Entry). IsRising e.writes) (turns n plan next)) → AllByRecursion (λ (e : Entry). IsRising e.writes) (and_then_on (turns n plan) found)
    onward None e more = tt
    onward (Some m) e more = (stamp-rises plan s (least_stamp 0 s.agents) m e, more m.state)

-- the writes of each step of a run rise
pub run-rises : (plan : Plan) → AllByRecursion (λ (e : Entry). IsRising e.writes) (sequential_run plan)
unfolding rest
run-rises plan = turns-rise (work plan (sequential_start plan)) plan (sequential_start plan)

-- all accesses come from processes that are there
from-home : (n home : ℕ) (vars : List ℕ) → home < n → AllByRecursion (λ (a : Access). a.home < n) (from home vars)
from-home n home [] lt = tt
from-home n home (v ∷ vars) lt = (lt, from-home n home vars lt)

home-of : (rows : List AgentRow) (i : ℕ) (row : AgentRow) → slice_get rows i ≡ Some row → (i < length rows) × (get_or (map (λ (a : AgentRow). a.home) rows) i 0 ≡ row.home)
home-of [] i row e = absurd (cc)
home-of (r ∷ rows) zero row e = (omega arith, ap (λ (a : AgentRow). a.home) (same_Some _ _ e))
home-of (r ∷ rows) (suc i) row e = let more = home-of rows i row e in (omega (arith, more.0), more.1)

entry-home : (plan : Plan) → IsValid plan → (e : Entry) (found : Option AgentRow) → slice_get plan.agents e.stamp.agent ≡ found
    → AllByRecursion (λ (a : Access). a.home < length plan.clps) (accesses_of found e)
entry-home plan valid e None is = tt
entry-home plan valid e (Some row) is =
    let at = home-of plan.agents e.stamp.agent row is in
    let there = valid_agent plan valid e.stamp.agent at.0 in
    let home = at.1 in
    from-home (length plan.clps) row.home _ (omega (arith, there, home))

both : (P : Access → Type 0) (xs bs : List Access) → AllByRecursion P xs → AllByRecursion P bs → AllByRecursion P (xs ++ bs)
both P [] bs h g = g
both P (a ∷ xs) bs h g = (h.0, both P xs bs h.1 g)

pub run-homes : (plan : Plan) → IsValid plan → (es : List Entry) → AllByRecursion (λ (a : Access). a.home < length plan.clps) (accesses_in plan es)
run-homes plan valid [] = tt
run-homes plan valid (e ∷ es) =
    both (λ (a : Access). a.home < length plan.clps) (accesses plan e) (accesses_in plan es)
    (entry-home plan valid e (slice_get plan.agents e.stamp.agent) refl) (run-homes plan valid es)
