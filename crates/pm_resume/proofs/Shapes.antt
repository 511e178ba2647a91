-- The states of a run keep the number of values and of each agent's registers.
use Rattle.std.proofs.Common.{◌≡◌, ℕ, zero, suc, ◌⊎◌, inl, inr, List, [], ◌∷◌, ◌++◌, length, length-set, set, map, Bool, true, false, Option, Some, None, refl, sym, ap, ◌∙◌, subst, arith}
use Rattle.std.specs.Prelude.{if◌then◌else◌, slice_get, ◌==◌}
use Rattle.std.proofs.lemmas.Option.{same_Some}
use Rattle.std.proofs.lemmas.List.{length-map}
use Rattle.std.proofs.lemmas.Bool.Decides.{nat_tests}
use Rattle.pm_base.specs.declared.program.Program.{Program}
use Rattle.pm_base.specs.declared.program.RegRow.{RegRow}
use Rattle.pm_base.specs.declared.program.SenseRow.{SenseRow}
use Rattle.pm_base.specs.declared.program.Stmt.{Stmt}
use Rattle.pm_base.specs.declared.program.Stmt.TheFolds.{fold-roll-Stmt, ind-Stmt, map-Stmt}
use Rattle.pm_base.specs.declared.program.Stmt.TheOpen.{Stmt-F}
use Rattle.pm_base.specs.declared.program.Stmt.TheViews.{roll-Stmt}
use Rattle.pm_base.specs.declared.rows.Act.{Act}
use Rattle.pm_base.specs.declared.stamp.Stamp.{Stamp}
use Rattle.pm_base.specs.declared.value.Hit.{Hit}
use Rattle.pm_base.specs.declared.value.Value.{Value}
use Rattle.pm_base.specs.declared.value.Write.{Write}
use Rattle.pm_plan.specs.declared.plan.AgentRow.{AgentRow}
use Rattle.pm_plan.specs.declared.plan.Plan.{Plan}
use Rattle.pm_plan.specs.declared.plan.VarRow.{VarRow}
use Rattle.pm_step.specs.Arithmetic.{is_zero}
use Rattle.pm_step.specs.Expressions.{Sight, sight, value}
use Rattle.pm_step.specs.Steps.{act_of, ask_or_act, does, does_all, does_step, no_deeds, sight_at, step}
use Rattle.pm_step.specs.declared.Deeds.{Deeds}
use Rattle.pm_step.specs.declared.Next.{Next}
use Rattle.pm_step.specs.declared.Next.TheVariants as next
use Rattle.pm_model.proofs.Rises.{get-set-other}
use Rattle.pm_model.proofs.Turns.{took}
use Rattle.pm_model.specs.Hits.{hits}
use Rattle.pm_model.specs.Runs.{Moved, Scene, changed, deed, deed_from, due, first_agent, later, moved, scene_of, sequential_start, sequential_turn, step_at}
use Rattle.pm_model.specs.declared.AgentState.{AgentState}
use Rattle.pm_model.specs.declared.Deed.{Deed}
use Rattle.pm_model.specs.declared.State.{State}
use Rattle.pm_resume.specs.Reached.{HasShape}

-- a statement keeps the number of registers
abbrev KeepsCount : Sight → Stmt → Type 0
KeepsCount s c = (d : Deeds) → length (does s c d).regs ≡ length d.regs

level : (s : Sight) (x : Stmt-F Stmt) (d e : Deeds) → does s (roll-Stmt x) d ≡ e → length e.regs ≡ length d.regs → length (does s (roll-Stmt x) d).regs ≡ length d.regs
level s x d e same h = ap (λ (r : Deeds). length r.regs) same ∙ h

list_keeps : (s : Sight) (cs : List ((c : Stmt) × KeepsCount s c)) (d : Deeds) → length (does_all s (map (λ c. c.0) cs) d).regs ≡ length d.regs
list_keeps s [] d = refl
list_keeps s (c ∷ cs) d = list_keeps s cs (does s c.0 d) ∙ c.1 d

either : (n : ℕ) (b : Bool) (d e : Deeds) → length d.regs ≡ n → length e.regs ≡ n → length (if b then d else e).regs ≡ n
either n true d e h k = h
either n false d e h k = k

keeps : (s : Sight) (y : Stmt-F ((c : Stmt) × KeepsCount s c)) → KeepsCount s (roll-Stmt (map-Stmt ((c : Stmt) × KeepsCount s c) Stmt (λ c. c.0) y))
keeps s (Stmt-F.Let reg e) d = level s (Stmt-F.Let reg e) d _ (ap (λ (f : Deeds → Deeds). f d) (fold-roll-Stmt (Deeds → Deeds) (does_step s) (Stmt-F.Let reg e))) (length-set d.regs reg (value (sight_at s d) e))
keeps s (Stmt-F.If test first second) d =
    level s (Stmt-F.If test (map (λ c. c.0) first) (map (λ c. c.0) second)) d _ (ap (λ (f : Deeds → Deeds). f d) (fold-roll-Stmt (Deeds → Deeds) (does_step s) (Stmt-F.If test (map (λ c. c.0) first) (map (λ c. c.0) second))))
    (either (length d.regs) (is_zero (value (sight_at s d) test)) _ _ (list_keeps s second d) (list_keeps s first d))
keeps s (Stmt-F.Set place x y) d = level s (Stmt-F.Set place x y) d _ (ap (λ (f : Deeds → Deeds). f d) (fold-roll-Stmt (Deeds → Deeds) (does_step s) (Stmt-F.Set place x y))) refl
keeps s (Stmt-F.Add place x y) d = level s (Stmt-F.Add place x y) d _ (ap (λ (f : Deeds → Deeds). f d) (fold-roll-Stmt (Deeds → Deeds) (does_step s) (Stmt-F.Add place x y))) refl
keeps s (Stmt-F.Wait e) d = level s (Stmt-F.Wait e) d _ (ap (λ (f : Deeds → Deeds). f d) (fold-roll-Stmt (Deeds → Deeds) (does_step s) (Stmt-F.Wait e))) refl

does_keeps : (s : Sight) (c : Stmt) (d : Deeds) → length (does s c d).regs ≡ length d.regs
does_keeps s = ind-Stmt (KeepsCount s) (λ x y is. subst (λ (z : Stmt-F Stmt). KeepsCount s (roll-Stmt z)) is (keeps s y))

all_keep : (s : Sight) (cs : List Stmt) (d : Deeds) → length (does_all s cs d).regs ≡ length d.regs
all_keep s [] d = refl
all_keep s (c ∷ cs) d = all_keep s cs (does s c d) ∙ does_keeps s c d

found_keeps : (program : Program) (s : Sight) (found : Option SenseRow) (act : Act) → ask_or_act s program found ≡ next.Act act → length act.regs ≡ length s.regs
found_keeps program s (Some row) act h = absurd (cc h)
found_keeps program s None act h =
    let same : act_of (does_all s program.body (no_deeds s.regs)) ≡ act = cc h in
    ap (λ (a : Act). length a.regs) (sym same) ∙ all_keep s program.body (no_deeds s.regs)

step_keeps : (program : Program) (s : Sight) (act : Act) → step program s ≡ next.Act act → length act.regs ≡ length s.regs
unfolding step
step_keeps program s act h = found_keeps program s _ act h

-- a whole step keeps the number of registers
deed_from_keeps : (left : ℕ) (scene : Scene) (answers : List (List Hit)) (n : Next) (d : Deed) → step_at scene answers ≡ n
    → deed_from left scene answers n ≡ Some d → length d.act.regs ≡ length scene.regs
deed_from_keeps left scene answers (next.Act act) d e h =
    let same : act ≡ d.act = ap (λ (x : Deed). x.act) (same_Some _ _ h) in
    ap (λ (a : Act). length a.regs) (sym same) ∙ step_keeps scene.program (sight scene.classes scene.stamp scene.regs answers) act e
deed_from_keeps zero scene answers (next.Ask q) d e h = absurd (cc h)
deed_from_keeps (suc left) scene answers (next.Ask q) d e h =
    deed_from_keeps left scene (answers ++ hits scene.classes scene.values q ∷ []) _ d refl h

deed_keeps : (scene : Scene) (d : Deed) → deed scene ≡ Some d → length d.act.regs ≡ length scene.regs
deed_keeps scene d h = deed_from_keeps (length scene.program.senses) scene [] _ d refl h

changed_keeps : (ws : List Write) (values : List Value) → length (changed ws values) ≡ length values
changed_keeps [] values = refl
changed_keeps (w ∷ ws) values = changed_keeps ws (set values w.var _) ∙ length-set values w.var _

same_or_not : (a b : ℕ) (t : Bool) → (a == b) ≡ t → (a ≡ b) ⊎ (a ≡ b → ⊥)
same_or_not a b true e = inl (grind (arith, nat_tests, e))
same_or_not a b false e = inr (λ h. grind (arith, nat_tests, e, h))

set_there : {X : Type 0} (xs : List X) (i : ℕ) (x y : X) → slice_get (set xs i x) i ≡ Some y → x ≡ y
set_there [] i x y h = absurd (cc h)
set_there (z ∷ xs) zero x y h = same_Some _ _ h
set_there (z ∷ xs) (suc i) x y h = set_there xs i x y h

moves_shape : (plan : Plan) (s : State) (st : Stamp) (row : AgentRow) (agent : AgentState) (d : Deed) → HasShape plan s
    → slice_get plan.agents st.agent ≡ Some row → slice_get s.agents st.agent ≡ Some agent → deed (scene_of plan s st row agent) ≡ Some d → HasShape plan (moved plan s st d).state
moves_shape plan s st row agent d shape row_is agent_is done =
    let new : AgentState = record { regs = d.act.regs; next = due plan (later st.time d.act.wait) } in
    let count : length d.act.regs ≡ length row.program.regs = deed_keeps (scene_of plan s st row agent) d done ∙ shape.regs st.agent row agent row_is agent_is in
    record {
      values = changed_keeps d.act.writes s.values ∙ shape.values;
      agents = length-set s.agents st.agent new ∙ shape.agents;
      regs = λ k r a r_is a_is. elim (same_or_not st.agent k (st.agent == k) refl) [
        | inl e ↦
            let there : new ≡ a = set_there s.agents st.agent new a (ap (slice_get (set s.agents st.agent new)) e ∙ a_is) in
            let own : row ≡ r = same_Some _ _ (sym row_is ∙ ap (slice_get plan.agents) e ∙ r_is) in
            ap (λ (x : AgentState). length x.regs) (sym there) ∙ count ∙ ap (λ (x : AgentRow). length x.program.regs) own
        | inr ne ↦ shape.regs k r a r_is (sym (get-set-other s.agents st.agent k new ne) ∙ a_is)
      ];
    }

-- a turn keeps them
pub turn_shape : (plan : Plan) (s : State) (m : Moved) → sequential_turn plan s ≡ Some m → HasShape plan s → HasShape plan m.state
turn_shape plan s m h shape =
    let k = took plan s m h in
    subst (λ (x : Moved). HasShape plan x.state) k.gives (moves_shape plan s k.stamp k.row k.agent k.done shape k.row_is k.agent_is k.deed_is)

first_regs : (plan : Plan) (rows : List AgentRow) (k : ℕ) (row : AgentRow) (agent : AgentState) → slice_get rows k ≡ Some row
    → slice_get (map (first_agent plan) rows) k ≡ Some agent → length agent.regs ≡ length row.program.regs
first_regs plan [] k row agent r a = absurd (cc r)
first_regs plan (x ∷ rows) zero row agent r a =
    let row_is : x ≡ row = same_Some _ _ r in
    let agent_is : first_agent plan x ≡ agent = same_Some _ _ a in
    ap (λ (g : AgentState). length g.regs) (sym agent_is) ∙ length-map x.program.regs (λ (q : RegRow). q.start) ∙ ap (λ (y : AgentRow). length y.program.regs) row_is
first_regs plan (x ∷ rows) (suc k) row agent r a = first_regs plan rows k row agent r a

-- the start has them
pub start_shape : (plan : Plan) → HasShape plan (sequential_start plan)
start_shape plan = record {
  values = length-map plan.vars (λ (v : VarRow). v.value);
  agents = length-map plan.agents (first_agent plan);
  regs = first_regs plan plan.agents;
}
