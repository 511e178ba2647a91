-- What is known of a valid plan.
use Rattle.std.proofs.Common.{◌≡◌, ℕ, zero, suc, ◌+◌, ◌<◌, ◌≤◌, refl, arith, ap, sym, ◌∙◌, subst, List, length, length-append, get_or, map, false, Bool, true, Option, Some, None, Ok}
use Rattle.std.specs.Prelude.{option_map, nat_le, [], ◌∷◌, ◌^◌, ◌&&◌, ◌||◌}
use Rattle.std.specs.List.{list_all, list_any}
use Rattle.std.proofs.lemmas.List.{length-map}
use Rattle.std.proofs.lemmas.Bool.Decides.{nat_tests}
use Rattle.pm_base.specs.Fits.{fits}
use Rattle.pm_base.specs.Layouts.{Follow, IsLayout}
use Rattle.pm_base.specs.declared.layout.Layout.{Layout}
use Rattle.pm_plan.specs.Limits.{IsWithinLimits}
use Rattle.pm_plan.specs.declared.parts.AgentPart.{AgentPart}
use Rattle.pm_plan.specs.declared.parts.ClassPart.{ClassPart}
use Rattle.pm_plan.specs.declared.parts.PlanParts.{PlanParts}
use Rattle.pm_plan.specs.declared.plan.AgentRow.{AgentRow}
use Rattle.pm_plan.specs.Plans.{agent_row, all_vars, class_rows, is_past, starts_late, rules_fit, numbered, count_refusal, later_refusal, refusal, refused_if, is_late, of_names, first_off_tree, place_refusal, first_nowhere, parents, or_else, plan_of, unless_refused, IsValid}
use Rattle.pm_plan.specs.Numbers.{first_wrong, first_repeat}
use Rattle.pm_plan.specs.declared.fault.PlanFault.{PlanFault}
use Rattle.pm_plan.specs.declared.fault.PlanFault.TheVariants as fault
use Rattle.pm_plan.specs.declared.plan.Kind.TheVariants as kind
use Rattle.pm_plan.specs.declared.plan.Plan.{Plan}
use Rattle.pm_plan.proofs.Accepted.{rooted, none_passes}
use Rattle.pm_plan.proofs.Made.{Kept, kept, lengths}
use Rattle.pm_plan.proofs.Rooted.{Rooted}

unless_ok : (o : Option PlanFault) (p q : Plan) → unless_refused o p ≡ Ok q → (o ≡ None) × (p ≡ q)
unless_ok None p q e = (refl, cc)
unless_ok (Some f) p q e = absurd (cc)

or_none : (a b : Option PlanFault) → or_else a b ≡ None → (a ≡ None) × (b ≡ None)
or_none None b e = (refl, e)
or_none (Some f) b e = absurd (cc)

map_none : {X : Type 0} (f : X → PlanFault) (o : Option X) → option_map f o ≡ None → o ≡ None
map_none f None e = refl
map_none f (Some x) e = absurd (cc)

pub plan_is : (plan : Plan) (valid : IsValid plan) → numbered valid.parts ≡ plan
unfolding plan_of
plan_is plan valid = (unless_ok (refusal (numbered valid.parts)) (numbered valid.parts) plan valid.made).1

pub accepted : (plan : Plan) → IsValid plan → refusal plan ≡ None
unfolding plan_of
accepted plan valid = (let a = unless_ok (refusal (numbered valid.parts)) (numbered valid.parts) plan valid.made in ap refusal (sym a.1) ∙ a.0)

parts_none : (plan : Plan) → IsValid plan → (count_refusal (length plan.clps) (length plan.classes) (length plan.vars) (length plan.agents) ≡ None) × (later_refusal plan ≡ None)
unfolding refusal
parts_none plan valid = or_none (count_refusal (length plan.clps) (length plan.classes) (length plan.vars) (length plan.agents)) (later_refusal plan) (accepted plan valid)

pub valid_kept : (plan : Plan) → IsValid plan → Kept (length plan.clps) (length plan.classes) (length plan.vars) (length plan.agents)
valid_kept plan valid = kept _ _ _ _ (parts_none plan valid).0

-- what refuses none of a plan
record Passed (plan : Plan) : Type 0 where
  time : refused_if (is_late plan) (fault.Limit kind.Time) ≡ None
  twice : of_names fault.Twice first_repeat plan ≡ None
  tree : first_off_tree (parents plan.clps) ≡ None
  places : place_refusal plan ≡ None

valid_passed : (plan : Plan) → IsValid plan → Passed plan
unfolding later_refusal
valid_passed plan valid =
    let e : later_refusal plan ≡ None = (parts_none plan valid).1 in
    let tree = option_map fault.Tree (first_off_tree (parents plan.clps)) in
    let twice = of_names fault.Twice first_repeat plan in
    let name = of_names fault.Name first_wrong plan in
    let time = refused_if (is_late plan) (fault.Limit kind.Time) in
    let a = or_none time (or_else name (or_else twice (or_else tree (place_refusal plan)))) e in
    let b = or_none name (or_else twice (or_else tree (place_refusal plan))) a.1 in
    let d = or_none twice (or_else tree (place_refusal plan)) b.1 in
    let f = or_none tree (place_refusal plan) d.1 in
    record { time = a.0; twice = d.0; tree = map_none fault.Tree (first_off_tree (parents plan.clps)) f.0; places = f.1 }

-- no name of a CLP stands twice
pub valid_once : (plan : Plan) → IsValid plan → first_repeat (map (λ c. c.name) plan.clps) ≡ None
valid_once plan valid =
    let clps = first_repeat (map (λ c. c.name) plan.clps) in
    let classes = option_map (fault.Twice kind.Class) (first_repeat plan.classes) in
    let vars = option_map (fault.Twice kind.Var) (first_repeat (map (λ v. v.name) plan.vars)) in
    let agents = option_map (fault.Twice kind.Agent) (first_repeat (map (λ a. a.name) plan.agents)) in
    let e = or_none (option_map (fault.Twice kind.Clp) clps) (or_else classes (or_else vars agents)) (valid_passed plan valid).twice in
    map_none (fault.Twice kind.Clp) clps e.0

pub valid_rooted : (plan : Plan) → IsValid plan → Rooted (parents plan.clps)
valid_rooted plan valid =
    let k = valid_kept plan valid in
    let l = length-map plan.clps (λ r. r.parent) in
    rooted (parents plan.clps) (let s = k.some in omega (arith, l, s)) (valid_passed plan valid).tree

pub valid_inside : (plan : Plan) (c : ℕ) → c < length plan.clps → c < length (parents plan.clps)
valid_inside plan c lt = (let l = length-map plan.clps (λ r. r.parent) in omega (arith, l, lt))

placed : (clps : ℕ) (places : List ℕ) (i : ℕ) → first_nowhere clps places ≡ None → i < length places → get_or places i 0 < clps
unfolding first_nowhere
placed clps places i e lt = (let f = none_passes (λ k. nat_le clps (get_or places k 0)) (length places) i e lt in grind (arith, nat_tests, f))

places_none : (plan : Plan) → IsValid plan → (first_nowhere (length plan.clps) (map (λ v. v.at) plan.vars) ≡ None) × (first_nowhere (length plan.clps) (map (λ a. a.home) plan.agents) ≡ None)
places_none plan valid =
    let vars = first_nowhere (length plan.clps) (map (λ v. v.at) plan.vars) in
    let agents = first_nowhere (length plan.clps) (map (λ a. a.home) plan.agents) in
    let e = or_none (option_map (fault.Place kind.Var) vars) (option_map (fault.Place kind.Agent) agents) (valid_passed plan valid).places in
    (map_none (fault.Place kind.Var) vars e.0, map_none (fault.Place kind.Agent) agents e.1)

pub valid_var : (plan : Plan) → IsValid plan → (i : ℕ) → i < length plan.vars → get_or (map (λ v. v.at) plan.vars) i 0 < length plan.clps
valid_var plan valid i lt = placed (length plan.clps) (map (λ v. v.at) plan.vars) i (places_none plan valid).0 (let l = length-map plan.vars (λ v. v.at) in omega (arith, l, lt))

pub valid_agent : (plan : Plan) → IsValid plan → (i : ℕ) → i < length plan.agents → get_or (map (λ a. a.home) plan.agents) i 0 < length plan.clps
valid_agent plan valid i lt = placed (length plan.clps) (map (λ a. a.home) plan.agents) i (places_none plan valid).1 (let l = length-map plan.agents (λ a. a.home) in omega (arith, l, lt))

rules_as_rows : (layout : Layout) (names : List (List ℕ)) (xs : List AgentPart)
    → list_all (λ (r : AgentRow). fits r.program layout) (map (agent_row names) xs) ≡ list_all (λ (a : AgentPart). fits a.program layout) xs
rules_as_rows layout names [] = refl
rules_as_rows layout names (x ∷ xs) = ap (λ b. fits x.program layout && b) (rules_as_rows layout names xs)

numbered_rules : (parts : PlanParts) → rules_fit parts.classes parts.agents ≡ true
    → list_all (λ (r : AgentRow). fits r.program (numbered parts).layout) (numbered parts).agents ≡ true
unfolding numbered
numbered_rules parts e = rules_as_rows (record { classes = class_rows 0 parts.classes }) (map (λ c. c.name) parts.clps) parts.agents ∙ e

-- each rule fits the plan's classes
pub valid_rules : (plan : Plan) → IsValid plan → list_all (λ (r : AgentRow). fits r.program plan.layout) plan.agents ≡ true
valid_rules plan valid =
    subst (λ (p : Plan). list_all (λ (r : AgentRow). fits r.program p.layout) p.agents ≡ true) (plan_is plan valid) (numbered_rules valid.parts valid.rules)

rows_follow : (n : ℕ) (cs : List ClassPart) → n + length (all_vars cs) < 2 ^ 32 → Follow n (class_rows n cs)
rows_follow n [] lt = omega (arith, lt)
rows_follow n (c ∷ cs) lt = (refl, rows_follow (n + length c.vars) cs (let l = length-append c.vars (all_vars cs) in omega (arith, lt, l)))

rows_count : (n : ℕ) (cs : List ClassPart) → length (class_rows n cs) ≡ length cs
rows_count n [] = refl
rows_count n (c ∷ cs) = let e = rows_count (n + length c.vars) cs in omega (arith, e)

not_late_by : (time : ℕ) (more : Bool) (f : PlanFault) (b : Bool) → is_past time ≡ b → refused_if (b || more) f ≡ None → time ≤ 1000000000000
not_late_by time more f true h e = absurd (cc)
not_late_by time more f false h e = grind (arith, nat_tests, h)

not_late : (time : ℕ) (more : Bool) (f : PlanFault) → refused_if (is_past time || more) f ≡ None → time ≤ 1000000000000
not_late time more f e = not_late_by time more f (is_past time) refl e

-- a plan made of parts has classes that follow one another
numbered_layout : (parts : PlanParts) → length (all_vars parts.classes) < 2 ^ 32 → length parts.classes < 2 ^ 32 → IsLayout (numbered parts).layout
unfolding numbered
numbered_layout parts vars classes = record {
  few = let e = rows_count 0 parts.classes in omega (arith, classes, e);
  follow = rows_follow 0 parts.classes (omega (arith, vars));
}

-- the horizon of a valid plan is no later than a plan may name
pub valid_horizon : (plan : Plan) → IsValid plan → plan.horizon ≤ 1000000000000
valid_horizon plan valid = not_late plan.horizon (list_any starts_late plan.agents) (fault.Limit kind.Time) (valid_passed plan valid).time

not_the_second : (one other : Bool) (f : PlanFault) → refused_if (one || other) f ≡ None → refused_if other f ≡ None
not_the_second true other f e = absurd (cc)
not_the_second false other f e = e

none_late : (agents : List AgentRow) (f : PlanFault) → refused_if (list_any starts_late agents) f ≡ None
    → (i : ℕ) → i < length agents → get_or (map (λ a. a.start) agents) i 0 ≤ 1000000000000
none_late [] f e i lt = absurd (omega (arith, lt))
none_late (a ∷ rest) f e zero lt = not_late a.start (list_any starts_late rest) f e
none_late (a ∷ rest) f e (suc i) lt =
    none_late rest f (not_the_second (starts_late a) (list_any starts_late rest) f e) i (omega (arith, lt))

-- no agent of a valid plan starts later than a plan may name
pub valid_start : (plan : Plan) → IsValid plan → (i : ℕ) → i < length plan.agents
    → get_or (map (λ a. a.start) plan.agents) i 0 ≤ 1000000000000
valid_start plan valid =
    let late = fault.Limit kind.Time in
    let late_start = list_any starts_late plan.agents in
    none_late plan.agents late (not_the_second (is_past plan.horizon) late_start late (valid_passed plan valid).time)

row_count : (parts : PlanParts) → length (numbered parts).layout.classes ≡ length parts.classes
unfolding numbered
row_count parts = rows_count 0 parts.classes

-- a valid plan is within the limits
pub valid_limits : (plan : Plan) → IsValid plan → IsWithinLimits plan
valid_limits plan valid =
    let k = valid_kept plan valid in
    let l = lengths valid.parts in
    let is = plan_is plan valid in
    let vars : length (numbered valid.parts).vars ≡ length plan.vars = ap (λ (p : Plan). length p.vars) is in
    let classes : length (numbered valid.parts).classes ≡ length plan.classes = ap (λ (p : Plan). length p.classes) is in
    let rows : length (numbered valid.parts).layout.classes ≡ length plan.layout.classes = ap (λ (p : Plan). length p.layout.classes) is in
    let count = row_count valid.parts in
    record {
      horizon = valid_horizon plan valid;
      clps = k.clps;
      classes = omega (arith, k.classes, rows, count, classes, l.classes);
      vars = k.vars;
      agents = k.agents;
      layout = subst (λ (p : Plan). IsLayout p.layout) is
          (numbered_layout valid.parts (omega (arith, vars, l.vars, k.vars)) (omega (arith, classes, l.classes, k.classes)));
    }
