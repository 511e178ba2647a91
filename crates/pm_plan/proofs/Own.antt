-- A valid plan is the plan of its own parts.
use Rattle.std.proofs.Common.{◌≡◌, ℕ, zero, suc, ◌+◌, ◌<◌, inl, inr, refl, arith, ap, sym, ◌∙◌, subst, List, [], ◌∷◌, ◌++◌, length, length-append, take, drop, get_or, map, true, false, Option, Some, None, Ok}
use Rattle.std.specs.Prelude.{option_map, ◌^◌, ◌&&◌, is_some}
use Rattle.std.specs.List.{list_all}
use Rattle.std.specs.Str.{bytes_eq}
use Rattle.std.proofs.lemmas.Bool.{cases_Bool}
use Rattle.std.proofs.lemmas.Slice.Eq.{bytes_eq-Decides}
use Rattle.std.proofs.lemmas.List.{length-map, get_or-map, take-append-drop, length-take-le, length-drop, drop_all}
use Rattle.pm_base.specs.Fits.{fits}
use Rattle.pm_base.specs.declared.layout.ClassRow.{ClassRow}
use Rattle.pm_base.specs.declared.layout.Layout.{Layout}
use Rattle.pm_plan.specs.Numbers.{number_of, first_from, first_repeat, name_at, or_here}
use Rattle.pm_plan.specs.Plans.{clp_of, clp_row, var_row, agent_row, class_rows, all_vars, numbered, own_clp, own_var, own_agent, own_classes, own_parts, parents, plan_of, refusal, unless_refused, rules_fit, IsValid}
use Rattle.pm_plan.specs.declared.parts.AgentPart.{AgentPart}
use Rattle.pm_plan.specs.declared.parts.ClassPart.{ClassPart}
use Rattle.pm_plan.specs.declared.parts.ClpPart.{ClpPart}
use Rattle.pm_plan.specs.declared.parts.PlanParts.{PlanParts}
use Rattle.pm_plan.specs.declared.parts.VarPart.{VarPart}
use Rattle.pm_plan.specs.declared.plan.AgentRow.{AgentRow}
use Rattle.pm_plan.specs.declared.plan.ClpRow.{ClpRow}
use Rattle.pm_plan.specs.declared.plan.Plan.{Plan}
use Rattle.pm_plan.specs.declared.plan.VarRow.{VarRow}
use Rattle.pm_plan.proofs.Accepted.{none_passes}
use Rattle.pm_plan.proofs.Firsts.{number_of-more}
use Rattle.pm_plan.proofs.Valid.{accepted, plan_is, valid_agent, valid_kept, valid_once, valid_rooted, valid_rules, valid_var}

-- what is found among the first ones is found among all
found_in_all : (w : List ℕ) (j k i : ℕ) (ns : List (List ℕ)) → first_from j (take k ns) w ≡ Some i → first_from j ns w ≡ Some i
found_in_all w j zero i ns e = absurd (cc)
found_in_all w j (suc k) i [] e = absurd (cc)
found_in_all w j (suc k) i (n ∷ ns) e = elim (cases_Bool (bytes_eq w n)) [
  | inl f ↦ (let g : first_from j (take (suc k) (n ∷ ns)) w ≡ Some j = rw f in let h : first_from j (n ∷ ns) w ≡ Some j = rw f in h ∙ (sym g ∙ e))
  | inr f ↦ (let g : first_from j (take (suc k) (n ∷ ns)) w ≡ first_from (j + 1) (take k ns) w = rw f in
      let h : first_from j (n ∷ ns) w ≡ first_from (j + 1) ns w = rw f in h ∙ found_in_all w (j + 1) k i ns (sym g ∙ e))
]

not_some : (o : Option ℕ) → is_some o ≡ false → o ≡ None
not_some None e = refl
not_some (Some k) e = absurd (cc)

self_bytes : (w : List ℕ) → bytes_eq w w ≡ true
self_bytes w = grind (arith, bytes_eq-Decides)

-- where no name stands twice, the number of the i-th name is i
numbers_back : (names : List (List ℕ)) (i : ℕ) → first_repeat names ≡ None → i < length names → number_of names (name_at names i) ≡ Some i
unfolding first_repeat number_of
numbers_back names i once lt =
    let w = name_at names i in
    let a : number_of (take i names) w ≡ None = not_some (number_of (take i names) w) (none_passes (λ k. is_some (number_of (take k names) (name_at names k))) (length names) i once lt) in
    let b : or_here None (bytes_eq w w) i ≡ Some i = ap (λ t. or_here None t i) (self_bytes w) in
    found_in_all w 0 (i + 1) i names (number_of-more w names i lt ∙ (ap (λ o. or_here o (bytes_eq w w) i) a ∙ b))

clp_back : (names : List (List ℕ)) (i : ℕ) → first_repeat names ≡ None → i < length names → clp_of names (name_at names i) ≡ i
clp_back names i once lt = let e = numbers_back names i once lt in rw e

-- there and back again
map_back : {X Y : Type 0} (f : Y → X) (g : X → Y) (xs : List X) → ((i : ℕ) → i < length xs → (d : X) → f (g (get_or xs i d)) ≡ get_or xs i d) → map f (map g xs) ≡ xs
map_back f g [] h = refl
map_back f g (x ∷ xs) h =
    ap (λ z. z ∷ map f (map g xs)) (h 0 (omega arith) x)
    ∙ ap (λ z. x ∷ z) (map_back f g xs (λ i lt d. h (suc i) (omega (arith, lt)) d))

same_names : {X Y : Type 0} (f : Y → List ℕ) (h : X → List ℕ) (g : X → Y) (xs : List X) → ((x : X) → f (g x) ≡ h x) → map f (map g xs) ≡ map h xs
same_names f h g [] e = refl
same_names f h g (x ∷ xs) e = ap (λ z. z ∷ map f (map g xs)) (e x) ∙ ap (λ z. h x ∷ z) (same_names f h g xs e)

-- the variables of the classes stand from n on
record Shared (n : ℕ) (cs : List ClassPart) (all : List VarPart) : Type 0 where
  rows : class_rows n (own_classes (map (λ c. c.name) cs) (class_rows n cs) all) ≡ class_rows n cs
  names : map (λ c. c.name) (own_classes (map (λ c. c.name) cs) (class_rows n cs) all) ≡ map (λ c. c.name) cs
  vars : all_vars (own_classes (map (λ c. c.name) cs) (class_rows n cs) all) ≡ drop n all

drop_nil : {X : Type 0} (k : ℕ) → drop {A = X} k [] ≡ []
drop_nil k = drop_all k [] (omega arith)

drop_on : {X : Type 0} (n k : ℕ) (xs : List X) → drop k (drop n xs) ≡ drop (n + k) xs
drop_on n k [] = ap (drop k) (drop_nil n) ∙ (drop_nil k ∙ sym (drop_nil (n + k)))
drop_on zero k (x ∷ xs) = (let e : k ≡ zero + k = omega arith in ap (λ (m : ℕ). drop m (x ∷ xs)) e)
drop_on (suc n) k (x ∷ xs) = (let e : suc (n + k) ≡ suc n + k = omega arith in drop_on n k xs ∙ ap (λ (m : ℕ). drop m (x ∷ xs)) e)

shared : (n : ℕ) (cs : List ClassPart) (vars : List VarPart) → n + length (all_vars cs) ≡ length vars → Shared n cs vars
shared n [] vars e = record { rows = refl; names = refl; vars = sym (drop_all n vars (omega (arith, e))) }
shared n (c ∷ cs) vars e =
    let k = length c.vars in
    let l = length-append c.vars (all_vars cs) in
    let again = shared (n + k) cs vars (omega (arith, e, l)) in
    let d = length-drop n vars in
    let count : length (take k (drop n vars)) ≡ k = length-take-le k (drop n vars) (omega (arith, e, l, d)) in
    let rest = own_classes (map (λ p. p.name) cs) (class_rows (n + k) cs) vars in
    record {
      rows = ap (λ (m : ℕ). (record { first = n; count = m }) ∷ class_rows (n + m) rest) count
          ∙ ap (λ (z : List ClassRow). (record { first = n; count = k }) ∷ z) again.rows;
      names = ap (λ z. c.name ∷ z) again.names;
      vars = ap (λ z. take k (drop n vars) ++ z) (again.vars ∙ sym (drop_on n k vars)) ∙ take-append-drop k (drop n vars);
    }

abbrev clp_names : Plan → List (List ℕ)
clp_names plan = map (λ (c : ClpRow). c.name) plan.clps

abbrev own_vars : Plan → List VarPart
own_vars plan = map (own_var (clp_names plan)) plan.vars

abbrev classes_of : Plan → List ClassPart
classes_of plan = own_classes plan.classes plan.layout.classes (own_vars plan)

-- the classes of a plan's own parts
record OwnClasses (plan : Plan) : Type 0 where
  rows : class_rows 0 (classes_of plan) ≡ plan.layout.classes
  names : map (λ c. c.name) (classes_of plan) ≡ plan.classes
  vars : all_vars (classes_of plan) ≡ own_vars plan

numbered_classes : (parts : PlanParts) → OwnClasses (numbered parts)
unfolding numbered
numbered_classes parts =
    let p = numbered parts in
    let a = length-map (all_vars parts.classes) (var_row (map (λ c. c.name) parts.clps)) in
    let b = length-map p.vars (own_var (clp_names p)) in
    let s = shared 0 parts.classes (own_vars p) (omega (arith, a, b)) in
    record { rows = s.rows; names = s.names; vars = s.vars }

own_class : (plan : Plan) → IsValid plan → OwnClasses plan
own_class plan valid = subst OwnClasses (plan_is plan valid) (numbered_classes valid.parts)

own_names : (plan : Plan) → map (λ (c : ClpPart). c.name) (map (own_clp (clp_names plan)) plan.clps) ≡ clp_names plan
own_names plan = same_names (λ (c : ClpPart). c.name) (λ (c : ClpRow). c.name) (own_clp (clp_names plan)) plan.clps (λ x. refl)

inside_names : (plan : Plan) (i : ℕ) → i < length plan.clps → i < length (clp_names plan)
inside_names plan i lt = (let l = length-map plan.clps (λ (c : ClpRow). c.name) in omega (arith, l, lt))

parent_back : (names : List (List ℕ)) (o : Option ℕ) → ((d : ℕ) → o ≡ Some d → clp_of names (name_at names d) ≡ d) → option_map (clp_of names) (option_map (name_at names) o) ≡ o
parent_back names None h = refl
parent_back names (Some d) h = ap Some (h d refl)

abbrev the_clp : List ℕ → Option ℕ → ClpRow
the_clp name o = record { name = name; parent = o }

abbrev the_var : VarRow → ℕ → VarRow
the_var row at = record { name = row.name; at = at; value = row.value }

abbrev the_agent : AgentRow → ℕ → AgentRow
the_agent row home = record { name = row.name; home = home; start = row.start; program = row.program }

own_clps : (plan : Plan) → IsValid plan → map (clp_row (clp_names plan)) (map (own_clp (clp_names plan)) plan.clps) ≡ plan.clps
own_clps plan valid =
    let names = clp_names plan in
    let ok = valid_rooted plan valid in
    let l = length-map plan.clps (λ (r : ClpRow). r.parent) in
    map_back (clp_row names) (own_clp names) plan.clps (λ i lt d.
    let row = get_or plan.clps i d in
    let is : get_or (parents plan.clps) i None ≡ row.parent = get_or-map (λ (r : ClpRow). r.parent) plan.clps i d None lt in
    ap (λ (o : Option ℕ). the_clp row.name o) (parent_back names row.parent (λ k e.
    clp_back names k (valid_once plan valid) (inside_names plan k (let s = ok.inside i k (is ∙ e) in omega (arith, l, s))))))

own_var_rows : (plan : Plan) → IsValid plan → map (var_row (clp_names plan)) (own_vars plan) ≡ plan.vars
own_var_rows plan valid =
    let names = clp_names plan in
    map_back (var_row names) (own_var names) plan.vars (λ i lt d.
    let row = get_or plan.vars i d in
    let is : get_or (map (λ (v : VarRow). v.at) plan.vars) i 0 ≡ row.at = get_or-map (λ (v : VarRow). v.at) plan.vars i d 0 lt in
    let s = valid_var plan valid i lt in
    ap (the_var row) (clp_back names row.at (valid_once plan valid) (inside_names plan row.at (omega (arith, is, s)))))

own_agent_rows : (plan : Plan) → IsValid plan → map (agent_row (clp_names plan)) (map (own_agent (clp_names plan)) plan.agents) ≡ plan.agents
own_agent_rows plan valid =
    let names = clp_names plan in
    map_back (agent_row names) (own_agent names) plan.agents (λ i lt d.
    let row = get_or plan.agents i d in
    let is : get_or (map (λ (a : AgentRow). a.home) plan.agents) i 0 ≡ row.home = get_or-map (λ (a : AgentRow). a.home) plan.agents i d 0 lt in
    let s = valid_agent plan valid i lt in
    ap (the_agent row) (clp_back names row.home (valid_once plan valid) (inside_names plan row.home (omega (arith, is, s)))))

abbrev with_rows : Plan → List ClpRow → List ClassRow → List (List ℕ) → List VarRow → List AgentRow → Plan
with_rows plan clps rows classes vars agents = record {
  horizon = plan.horizon;
  move_after = plan.move_after;
  clps = clps;
  layout = record { classes = rows };
  classes = classes;
  vars = vars;
  agents = agents;
}

same_rows : (plan : Plan) (clps : List ClpRow) (rows : List ClassRow) (classes : List (List ℕ)) (vars : List VarRow) (agents : List AgentRow)
    → clps ≡ plan.clps → rows ≡ plan.layout.classes → classes ≡ plan.classes → vars ≡ plan.vars → agents ≡ plan.agents → with_rows plan clps rows classes vars agents ≡ plan
same_rows plan clps rows classes vars agents a b c d e =
    ap (λ z. with_rows plan z rows classes vars agents) a
    ∙ (ap (λ z. with_rows plan plan.clps z classes vars agents) b
    ∙ (ap (λ z. with_rows plan plan.clps plan.layout.classes z vars agents) c
    ∙ (ap (λ z. with_rows plan plan.clps plan.layout.classes plan.classes z agents) d
    ∙ ap (λ z. with_rows plan plan.clps plan.layout.classes plan.classes plan.vars z) e)))

-- the own parts with their names numbered again
own_numbered : (plan : Plan) → IsValid plan → numbered (own_parts plan) ≡ plan
unfolding numbered own_parts
own_numbered plan valid =
    let names = clp_names plan in
    let own = own_class plan valid in
    let again = own_names plan in
    same_rows plan _ _ _ _ _
    (ap (λ (ns : List (List ℕ)). map (clp_row ns) (map (own_clp names) plan.clps)) again ∙ own_clps plan valid)
    own.rows
    own.names
    (ap (λ (ns : List (List ℕ)). map (var_row ns) (all_vars (classes_of plan))) again ∙ (ap (map (var_row names)) own.vars ∙ own_var_rows plan valid))
    (ap (λ (ns : List (List ℕ)). map (agent_row ns) (map (own_agent names) plan.agents)) again ∙ own_agent_rows plan valid)

pub own_made : (plan : Plan) → IsValid plan → plan_of (own_parts plan) ≡ Ok plan
unfolding plan_of
own_made plan valid = ap (λ (p : Plan). unless_refused (refusal p) p) (own_numbered plan valid) ∙ ap (λ o. unless_refused o plan) (accepted plan valid)

rows_as_rules : (layout : Layout) (names : List (List ℕ)) (xs : List AgentRow)
    → list_all (λ (a : AgentPart). fits a.program layout) (map (own_agent names) xs) ≡ list_all (λ (r : AgentRow). fits r.program layout) xs
rows_as_rules layout names [] = refl
rows_as_rules layout names (x ∷ xs) = ap (λ b. fits x.program layout && b) (rows_as_rules layout names xs)

pub own_rules : (plan : Plan) → IsValid plan → rules_fit (own_parts plan).classes (own_parts plan).agents ≡ true
unfolding own_parts
own_rules plan valid =
    ap (λ (rows : List ClassRow). list_all (λ (a : AgentPart). fits a.program (record { classes = rows })) (map (own_agent (clp_names plan)) plan.agents)) (own_class plan valid).rows
    ∙ (rows_as_rules plan.layout (clp_names plan) plan.agents ∙ valid_rules plan valid)

pub own_few : (plan : Plan) → IsValid plan → length (all_vars (own_parts plan).classes) < 2 ^ 32
unfolding own_parts
own_few plan valid =
    let k = valid_kept plan valid in
    let e = ap length (own_class plan valid).vars in
    let l = length-map plan.vars (own_var (clp_names plan)) in
    omega (arith, k.vars, e, l)
