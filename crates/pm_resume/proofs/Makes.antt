-- A plan that starts in a state of a valid plan's run is valid.
use Rattle.std.proofs.Common.{◌≡◌, ℕ, suc, ◌+◌, ◌<◌, ◌≤◌, List, [], ◌∷◌, ◌++◌, length, length-append, map, take, drop, Bool, true, false, Option, Some, None, IfSome, Ok, nat_le, ℤ, refl, sym, ap, ◌∙◌, subst, arith}
use Rattle.std.specs.Prelude.{slice_get, option_map, option_and_then, unwrap_or, is_none, ◌&&◌, ◌||◌, ◌==◌, if◌then◌else◌}
use Rattle.std.specs.List.{list_all, list_any}
use Rattle.std.proofs.lemmas.Bool.{false≢true}
use Rattle.std.proofs.lemmas.Bool.Decides.{nat_tests}
use Rattle.std.proofs.lemmas.List.{length-take-le, length-drop}
use Rattle.std.proofs.lemmas.Option.{slice_get-map, slice_get_within}
use Rattle.pm_base.specs.Fits.{depth_of_all, fits, lines_of_all, names_fit, reg_names, sense_names, senses_fit, stmts_fit, tree_fits}
use Rattle.pm_base.specs.declared.layout.ClassRow.{ClassRow}
use Rattle.pm_base.specs.declared.layout.Layout.{Layout}
use Rattle.pm_base.specs.Layouts.{var_count}
use Rattle.pm_base.specs.declared.program.Program.{Program}
use Rattle.pm_base.specs.declared.program.RegRow.{RegRow}
use Rattle.pm_base.specs.declared.value.Value.{Value}
use Rattle.pm_plan.proofs.Accepted.{none_passes}
use Rattle.pm_plan.proofs.Made.{lengths}
use Rattle.pm_plan.proofs.Valid.{accepted, plan_is, valid_horizon}
use Rattle.pm_plan.specs.Numbers.{first_repeat, first_wrong}
use Rattle.pm_plan.specs.Plans.{agent_row, all_vars, class_rows, count_refusal, first_nowhere, first_off_tree, is_late, is_past, later_refusal, numbered, of_names, or_else, parents, place_refusal, plan_of, refusal, refused_if, rules_fit, starts_late, unless_refused, var_row, HavePairs, IsValid}
use Rattle.pm_plan.specs.declared.fault.PlanFault.{PlanFault}
use Rattle.pm_plan.specs.declared.fault.PlanFault.TheVariants as fault
use Rattle.pm_plan.specs.declared.parts.AgentPart.{AgentPart}
use Rattle.pm_plan.specs.declared.parts.ClassPart.{ClassPart}
use Rattle.pm_plan.specs.declared.parts.PlanParts.{PlanParts}
use Rattle.pm_plan.specs.declared.parts.VarPart.{VarPart}
use Rattle.pm_plan.specs.declared.plan.AgentRow.{AgentRow}
use Rattle.pm_plan.specs.declared.plan.Kind.{Kind}
use Rattle.pm_plan.specs.declared.plan.Kind.TheVariants as kind
use Rattle.pm_plan.specs.declared.plan.Plan.{Plan}
use Rattle.pm_plan.specs.declared.plan.VarRow.{VarRow}
use Rattle.pm_model.proofs.Turns.{all-at}
use Rattle.pm_model.specs.Runs.{IsDue, IsTimely}
use Rattle.pm_model.specs.declared.AgentState.{AgentState}
use Rattle.pm_model.specs.declared.State.{State}
use Rattle.pm_resume.proofs.Pairs.{length_pairwise, map_firsts}
use Rattle.pm_resume.specs.Cuts.{first_retired, is_retired, pairwise, resumed, stuck, with_regs, with_start, with_state, with_value}
use Rattle.pm_resume.specs.Reached.{HasShape}

-- the parts of the new plan

abbrev part_value : VarPart → Value → VarPart
part_value part value = record { name = part.name; at = part.at; value = value }

abbrev part_state : ℕ → AgentPart → AgentState → AgentPart
part_state horizon part agent = record {
  name = part.name;
  home = part.home;
  start = unwrap_or agent.next (horizon + 1);
  program = with_regs part.program agent.regs;
}

-- the classes, whose variables begin with those values
abbrev revalued : List ClassPart → List Value → List ClassPart
revalued [] vs = []
revalued (c ∷ cs) vs =
    (record { name = c.name; vars = pairwise part_value c.vars (take (length c.vars) vs) }) ∷ revalued cs (drop (length c.vars) vs)

abbrev new_parts : PlanParts → State → PlanParts
new_parts parts s = record {
  horizon = parts.horizon;
  move_after = parts.move_after;
  clps = parts.clps;
  classes = revalued parts.classes s.values;
  agents = pairwise (part_state parts.horizon) parts.agents s.agents;
}

pairwise_append : {A B C : Type 0} (f : A → B → C) (xs ys : List A) (vs : List B) → length xs ≤ length vs
    → pairwise f xs (take (length xs) vs) ++ pairwise f ys (drop (length xs) vs) ≡ pairwise f (xs ++ ys) vs
pairwise_append f [] ys vs le = refl
pairwise_append f (x ∷ xs) ys [] le = absurd (omega (arith, le))
pairwise_append f (x ∷ xs) ys (v ∷ vs) le = ap (λ zs. f x v ∷ zs) (pairwise_append f xs ys vs (omega (arith, le)))

map_pairwise : {A A2 B C C2 : Type 0} (g : C → C2) (f : A → B → C) (h : A → A2) (k : A2 → B → C2) (xs : List A) (ys : List B) → ((x : A) (y : B) → g (f x y) ≡ k (h x) y)
    → map g (pairwise f xs ys) ≡ pairwise k (map h xs) ys
map_pairwise g f h k [] ys same = refl
map_pairwise g f h k (x ∷ xs) [] same = refl
map_pairwise g f h k (x ∷ xs) (y ∷ ys) same =
    ap (λ c. c ∷ map g (pairwise f xs ys)) (same x y) ∙ ap (λ cs. k (h x) y ∷ cs) (map_pairwise g f h k xs ys same)

enough : (c : ClassPart) (cs : List ClassPart) (vs : List Value) → length vs ≡ length (all_vars (c ∷ cs)) → length c.vars ≤ length vs
enough c cs vs e = omega (arith, length-append c.vars (all_vars cs), e)

enough_left : (c : ClassPart) (cs : List ClassPart) (vs : List Value) → length vs ≡ length (all_vars (c ∷ cs)) → length (drop (length c.vars) vs) ≡ length (all_vars cs)
enough_left c cs vs e = omega (arith, length-append c.vars (all_vars cs), length-drop (length c.vars) vs, e)

revalued_vars : (cs : List ClassPart) (vs : List Value) → length vs ≡ length (all_vars cs) → all_vars (revalued cs vs) ≡ pairwise part_value (all_vars cs) vs
revalued_vars [] vs e = refl
revalued_vars (c ∷ cs) vs e =
    ap (λ zs. pairwise part_value c.vars (take (length c.vars) vs) ++ zs) (revalued_vars cs (drop (length c.vars) vs) (enough_left c cs vs e))
    ∙ pairwise_append part_value c.vars (all_vars cs) vs (enough c cs vs e)

abbrev one_row : ℕ → ℕ → List ClassPart → List ClassRow
one_row n count cs = (record { first = n; count = count }) ∷ class_rows (n + count) cs

revalued_rows : (n : ℕ) (cs : List ClassPart) (vs : List Value) → length vs ≡ length (all_vars cs) → class_rows n (revalued cs vs) ≡ class_rows n cs
revalued_rows n [] vs e = refl
revalued_rows n (c ∷ cs) vs e =
    let count : length (pairwise part_value c.vars (take (length c.vars) vs)) ≡ length c.vars =
    length_pairwise part_value c.vars (take (length c.vars) vs) (length-take-le (length c.vars) vs (enough c cs vs e)) in
    ap (λ k. one_row n k (revalued cs (drop (length c.vars) vs))) count
    ∙ ap (λ rows. (record { first = n; count = length c.vars }) ∷ rows) (revalued_rows (n + length c.vars) cs (drop (length c.vars) vs) (enough_left c cs vs e))

revalued_names : (cs : List ClassPart) (vs : List Value) → map (λ c. c.name) (revalued cs vs) ≡ map (λ c. c.name) cs
revalued_names [] vs = refl
revalued_names (c ∷ cs) vs = ap (λ ns. c.name ∷ ns) (revalued_names cs (drop (length c.vars) vs))

abbrev with_rows : Plan → List ClassRow → List (List ℕ) → List VarRow → List AgentRow → Plan
with_rows plan rows classes vars agents = record {
  horizon = plan.horizon;
  move_after = plan.move_after;
  clps = plan.clps;
  layout = record { classes = rows };
  classes = classes;
  vars = vars;
  agents = agents;
}

same_rows : (plan : Plan) (rows rows2 : List ClassRow) (classes classes2 : List (List ℕ)) (vars vars2 : List VarRow) (agents agents2 : List AgentRow)
    → rows ≡ rows2 → classes ≡ classes2 → vars ≡ vars2 → agents ≡ agents2 → with_rows plan rows classes vars agents ≡ with_rows plan rows2 classes2 vars2 agents2
same_rows plan rows rows2 classes classes2 vars vars2 agents agents2 b c d e =
    ap (λ z. with_rows plan z classes vars agents) b
    ∙ ap (λ z. with_rows plan rows2 z vars agents) c
    ∙ ap (λ z. with_rows plan rows2 classes2 z agents) d
    ∙ ap (λ z. with_rows plan rows2 classes2 vars2 z) e

new_numbered : (parts : PlanParts) (s : State) → length s.values ≡ length (all_vars parts.classes) → numbered (new_parts parts s) ≡ resumed (numbered parts) s
unfolding numbered resumed
new_numbered parts s e =
    let names = map (λ c. c.name) parts.clps in
    same_rows (numbered parts) _ _ _ _ _ _ _ _
    (revalued_rows 0 parts.classes s.values e)
    (revalued_names parts.classes s.values)
    (ap (map (var_row names)) (revalued_vars parts.classes s.values e)
    ∙ map_pairwise (var_row names) part_value (var_row names) with_value (all_vars parts.classes) s.values (λ x y. refl))
    (map_pairwise (agent_row names) (part_state parts.horizon) (agent_row names) (with_state (numbered parts)) parts.agents s.agents (λ x y. refl))

-- the rules of the new plan

-- how a rule fits, by the number and the names of its registers
abbrev fits_by : ℕ → List (List ℕ) → Program → Layout → Bool
fits_by n names p layout =
    (nat_le n 16 && nat_le (length p.senses) 16) && (names_fit (names ++ sense_names p.senses) &&
    ((nat_le (n + length p.senses + lines_of_all p.body) 200 && nat_le (depth_of_all p.body) 8) &&
    (senses_fit layout.classes (record { vars = var_count layout.classes; regs = n; senses = 0 }) p.senses &&
    stmts_fit layout.classes (record { vars = var_count layout.classes; regs = n; senses = length p.senses }) p.body)))

fits_is : (p : Program) (layout : Layout) → fits p layout ≡ fits_by (length p.regs) (reg_names p.regs) p layout
unfolding fits tree_fits
fits_is p layout = refl

same_names : (rows : List RegRow) (regs : List ℤ) → length regs ≡ length rows → reg_names (pairwise with_start rows regs) ≡ reg_names rows
same_names [] regs e = refl
same_names (r ∷ rows) [] e = absurd (omega (arith, e))
same_names (r ∷ rows) (x ∷ regs) e = ap (λ ns. r.name ∷ ns) (same_names rows regs (omega (arith, e)))

fits_same : (p : Program) (regs : List ℤ) (layout : Layout) → length regs ≡ length p.regs → fits (with_regs p regs) layout ≡ fits p layout
fits_same p regs layout e =
    fits_is (with_regs p regs) layout
    ∙ ap (λ n. fits_by n (reg_names (pairwise with_start p.regs regs)) p layout) (length_pairwise with_start p.regs regs e)
    ∙ ap (λ ns. fits_by (length p.regs) ns p layout) (same_names p.regs regs e)
    ∙ sym (fits_is p layout)

rules_same : (horizon : ℕ) (layout : Layout) (parts : List AgentPart) (agents : List AgentState) → length agents ≡ length parts
    → ((k : ℕ) (part : AgentPart) (agent : AgentState) → slice_get parts k ≡ Some part → slice_get agents k ≡ Some agent → length agent.regs ≡ length part.program.regs)
    → list_all (λ (a : AgentPart). fits a.program layout) (pairwise (part_state horizon) parts agents) ≡ list_all (λ (a : AgentPart). fits a.program layout) parts
rules_same horizon layout [] agents e regs = refl
rules_same horizon layout (p ∷ parts) [] e regs = absurd (omega (arith, e))
rules_same horizon layout (p ∷ parts) (a ∷ agents) e regs =
    ap (λ b. b && list_all (λ (a : AgentPart). fits a.program layout) (pairwise (part_state horizon) parts agents)) (fits_same p.program a.regs layout (regs 0 p a refl refl))
    ∙ ap (λ b. fits p.program layout && b) (rules_same horizon layout parts agents (omega (arith, e)) (λ k part agent p_is a_is. regs (suc k) part agent p_is a_is))

-- the registers of the parts' rules
regs_of_parts : (parts : PlanParts) (s : State) → HasShape (numbered parts) s
    → (k : ℕ) (part : AgentPart) (agent : AgentState) → slice_get parts.agents k ≡ Some part → slice_get s.agents k ≡ Some agent → length agent.regs ≡ length part.program.regs
unfolding numbered
regs_of_parts parts s shape k part agent p_is a_is =
    let names = map (λ c. c.name) parts.clps in
    shape.regs k (agent_row names part) agent (slice_get-map (agent_row names) parts.agents k ∙ ap (option_map (agent_row names)) p_is) a_is

new_rules : (parts : PlanParts) (s : State) → HasShape (numbered parts) s → rules_fit parts.classes parts.agents ≡ true
    → rules_fit (new_parts parts s).classes (new_parts parts s).agents ≡ true
new_rules parts s shape rules =
    let l = lengths parts in
    ap (λ rows. list_all (λ (a : AgentPart). fits a.program (record { classes = rows })) (pairwise (part_state parts.horizon) parts.agents s.agents)) (revalued_rows 0 parts.classes s.values (shape.values ∙ l.vars))
    ∙ rules_same parts.horizon (record { classes = class_rows 0 parts.classes }) parts.agents s.agents (shape.agents ∙ l.agents) (regs_of_parts parts s shape)
    ∙ rules

-- the refusals of the new plan

or_none : (a b : Option PlanFault) → or_else a b ≡ None → (a ≡ None) × (b ≡ None)
or_none None b e = (refl, e)
or_none (Some f) b e = absurd (cc e)

last_none : (b : Bool) (f : PlanFault) → refused_if b f ≡ None → b ≡ false
last_none true f e = absurd (cc e)
last_none false f e = refl

abbrev names_by : (Kind → ℕ → PlanFault) → (List (List ℕ) → Option ℕ) → Plan → List (List ℕ) → List (List ℕ) → Option PlanFault
names_by refusal index p vars agents =
    or_else (option_map (refusal kind.Clp) (index (map (λ c. c.name) p.clps)))
    (or_else (option_map (refusal kind.Class) (index p.classes))
    (or_else (option_map (refusal kind.Var) (index vars))
    (option_map (refusal kind.Agent) (index agents))))

-- the first refusal, by what of the variables and agents it depends on
abbrev refusal_by : ℕ → ℕ → Bool → List (List ℕ) → List (List ℕ) → List ℕ → List ℕ → Plan → Option PlanFault
refusal_by vars agents late var_names agent_names places homes p =
    or_else (count_refusal (length p.clps) (length p.classes) vars agents)
    (or_else (refused_if late (fault.Limit kind.Time))
    (or_else (names_by fault.Name first_wrong p var_names agent_names)
    (or_else (names_by fault.Twice first_repeat p var_names agent_names)
    (or_else (option_map fault.Tree (first_off_tree (parents p.clps)))
    (or_else (option_map (fault.Place kind.Var) (first_nowhere (length p.clps) places))
    (option_map (fault.Place kind.Agent) (first_nowhere (length p.clps) homes)))))))

refusal_is : (p : Plan) → refusal p ≡ refusal_by (length p.vars) (length p.agents) (is_late p) (map (λ v. v.name) p.vars) (map (λ a. a.name) p.agents) (map (λ v. v.at) p.vars) (map (λ a. a.home) p.agents) p
unfolding refusal later_refusal
refusal_is p = refl

-- a plan that isn't refused is in time
in_time : (p : Plan) → refusal p ≡ None → is_late p ≡ false
unfolding refusal later_refusal
in_time p e =
    let counts = count_refusal (length p.clps) (length p.classes) (length p.vars) (length p.agents) in
    let time = refused_if (is_late p) (fault.Limit kind.Time) in
    let rest = or_else (of_names fault.Name first_wrong p) (or_else (of_names fault.Twice first_repeat p)
    (or_else (option_map fault.Tree (first_off_tree (parents p.clps))) (place_refusal p))) in
    let later = (or_none counts (later_refusal p) e).1 in
    last_none (is_late p) (fault.Limit kind.Time) (or_none time rest later).0

by_same : (p : Plan) (s : State) (v v2 a a2 : ℕ) (l l2 : Bool) (vn vn2 an an2 : List (List ℕ)) (at at2 home home2 : List ℕ) → v ≡ v2 → a ≡ a2 → l ≡ l2 → vn ≡ vn2 → an ≡ an2 → at ≡ at2 → home ≡ home2
    → refusal_by v a l vn an at home (resumed p s) ≡ refusal_by v2 a2 l2 vn2 an2 at2 home2 p
unfolding resumed
by_same p s v v2 a a2 l l2 vn vn2 an an2 at at2 home home2 e1 e2 e3 e4 e5 e6 e7 =
    ap (λ x. refusal_by x a l vn an at home p) e1
    ∙ ap (λ x. refusal_by v2 x l vn an at home p) e2
    ∙ ap (λ x. refusal_by v2 a2 x vn an at home p) e3
    ∙ ap (λ x. refusal_by v2 a2 l2 x an at home p) e4
    ∙ ap (λ x. refusal_by v2 a2 l2 vn2 x at home p) e5
    ∙ ap (λ x. refusal_by v2 a2 l2 vn2 an2 x home p) e6
    ∙ ap (λ x. refusal_by v2 a2 l2 vn2 an2 at2 x p) e7

resumed_by : (p : Plan) (s : State) → HasShape p s → is_late (resumed p s) ≡ is_late p → refusal (resumed p s) ≡ refusal p
unfolding resumed
resumed_by p s shape late =
    let vars = pairwise with_value p.vars s.values in
    let agents = pairwise (with_state p) p.agents s.agents in
    let n1 : map (λ v. v.name) vars ≡ map (λ v. v.name) p.vars = map_firsts (λ v. v.name) (λ v. v.name) with_value p.vars s.values (λ x y. refl) shape.values in
    let n2 : map (λ a. a.name) agents ≡ map (λ a. a.name) p.agents = map_firsts (λ a. a.name) (λ a. a.name) (with_state p) p.agents s.agents (λ x y. refl) shape.agents in
    let at : map (λ v. v.at) vars ≡ map (λ v. v.at) p.vars = map_firsts (λ v. v.at) (λ v. v.at) with_value p.vars s.values (λ x y. refl) shape.values in
    let home : map (λ a. a.home) agents ≡ map (λ a. a.home) p.agents = map_firsts (λ a. a.home) (λ a. a.home) (with_state p) p.agents s.agents (λ x y. refl) shape.agents in
    refusal_is (resumed p s) ∙ by_same p s _ _ _ _ _ _ _ _ _ _ _ _ _ _ (length_pairwise with_value p.vars s.values shape.values) (length_pairwise (with_state p) p.agents s.agents shape.agents) late n1 n2 at home ∙ sym (refusal_is p)

-- the starts of the new plan

not_past : (t : ℕ) → t ≤ 1000000000000 → is_past t ≡ false
not_past t le = grind (arith, nat_tests, le)

starts_in_time : (p : Plan) (rows : List AgentRow) (agents : List AgentState)
    → ((k : ℕ) (a : AgentState) → slice_get agents k ≡ Some a → is_past (unwrap_or a.next (p.horizon + 1)) ≡ false)
    → list_any starts_late (pairwise (with_state p) rows agents) ≡ false
starts_in_time p [] agents ok = refl
starts_in_time p (r ∷ rows) [] ok = refl
starts_in_time p (r ∷ rows) (a ∷ agents) ok =
    ap (λ b. b || list_any starts_late (pairwise (with_state p) rows agents)) (ok 0 a refl)
    ∙ starts_in_time p rows agents (λ k b e. ok (suc k) b e)

-- no agent is retired, or a later time than the horizon may be named
abbrev NoneStuck : Plan → State → Type 0
NoneStuck p s = (k : ℕ) (a : AgentState) → slice_get s.agents k ≡ Some a → a.next ≡ None → p.horizon < 1000000000000

none_stuck_by : (p : Plan) (s : State) (b : Bool) → (p.horizon == 1000000000000) ≡ b → p.horizon ≤ 1000000000000 → (if b then first_retired s else None) ≡ None → NoneStuck p s
unfolding first_retired
none_stuck_by p s true e le none k a at retired =
    let is : is_retired s k ≡ false = none_passes (is_retired s) (length s.agents) k none (slice_get_within s.agents k a at) in
    let held : is_retired s k ≡ true = ap (λ (o : Option AgentState). is_none (option_and_then (λ (a : AgentState). a.next) o)) at ∙ ap (λ (o : Option ℕ). is_none o) retired in
    absurd (false≢true (sym is ∙ held))
none_stuck_by p s false e le none k a at retired = grind (arith, nat_tests, e, le)

none_stuck : (p : Plan) (s : State) → p.horizon ≤ 1000000000000 → stuck p s ≡ None → NoneStuck p s
none_stuck p s le none = none_stuck_by p s (p.horizon == 1000000000000) refl le none

start_in_time : (p : Plan) (a : AgentState) (next : Option ℕ) → a.next ≡ next → p.horizon ≤ 1000000000000 → IfSome next (λ t. t ≤ p.horizon)
    → (next ≡ None → p.horizon < 1000000000000) → is_past (unwrap_or next (p.horizon + 1)) ≡ false
start_in_time p a None is le by low = not_past (p.horizon + 1) (let l = low refl in omega (arith, l))
start_in_time p a (Some t) is le by low = not_past t (omega (arith, le, by))

new_in_time : (p : Plan) (s : State) → p.horizon ≤ 1000000000000 → IsTimely p s → stuck p s ≡ None → is_late (resumed p s) ≡ false
unfolding resumed
new_in_time p s le ok none =
    ap (λ b. b || list_any starts_late (pairwise (with_state p) p.agents s.agents)) (not_past p.horizon le)
    ∙ starts_in_time p p.agents s.agents (λ k a at. start_in_time p a a.next refl le (all-at (IsDue p) s.agents k a at ok.agents) (λ e. none_stuck p s le none k a at e))

unless_none : (o : Option PlanFault) (p : Plan) → o ≡ None → unless_refused o p ≡ Ok p
unless_none o p e = ap (λ o. unless_refused o p) e

-- a plan that starts in a state of a valid plan's run is valid
pub resumed_valid : (plan : Plan) (s : State) → IsValid plan → IsTimely plan s → HasShape plan s → stuck plan s ≡ None → HavePairs (resumed plan s).vars → IsValid (resumed plan s)
unfolding plan_of
resumed_valid plan s valid ok shape none pairs =
    let is : numbered valid.parts ≡ plan = plan_is plan valid in
    let own : HasShape (numbered valid.parts) s = subst (λ (p : Plan). HasShape p s) (sym is) shape in
    let l = lengths valid.parts in
    let new : numbered (new_parts valid.parts s) ≡ resumed plan s = new_numbered valid.parts s (own.values ∙ l.vars) ∙ ap (λ (p : Plan). resumed p s) is in
    let old : refusal plan ≡ None = accepted plan valid in
    let late : is_late (resumed plan s) ≡ is_late plan = new_in_time plan s (valid_horizon plan valid) ok none ∙ sym (in_time plan old) in
    let fine : refusal (resumed plan s) ≡ None = resumed_by plan s shape late ∙ old in
    record {
      parts = new_parts valid.parts s;
      made = ap (λ (p : Plan). unless_refused (refusal p) p) new ∙ unless_none (refusal (resumed plan s)) (resumed plan s) fine;
      rules = new_rules valid.parts s own valid.rules;
      pairs = pairs;
    }
