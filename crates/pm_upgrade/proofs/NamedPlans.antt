-- The names of a valid plan are names and distinct, and its rules fit them.
use Rattle.std.proofs.Common.{◌≡◌, refl, ap, ap₂, sym, subst, ◌∙◌, arith, ℕ, zero, suc, ◌+◌, ◌<◌, ◌≤◌, inl, inr, Bool, true, false, cond, List, [], ◌∷◌, length, map, take, get_or, Option, Some, None}
use Rattle.std.specs.Prelude.{◌^◌, ◌&&◌, is_some, nat_lt, not, option_map}
use Rattle.std.specs.List.{AllByRecursion, list_all, zip}
use Rattle.std.specs.Str.{bytes_eq}
use Rattle.std.proofs.lemmas.Bool.{cases_Bool, and_parts}
use Rattle.std.proofs.lemmas.Bool.Decides.{nat_tests}
use Rattle.std.proofs.lemmas.List.{length-map}
use Rattle.std.proofs.lemmas.Slice.Eq.{bytes_eq-Decides}
use Rattle.pm_base.specs.Fits.{fits}
use Rattle.pm_base.specs.Names.{is_name}
use Rattle.pm_base.specs.Layouts.{var_count}
use Rattle.pm_base.specs.declared.layout.Layout.{Layout}
use Rattle.pm_plan.proofs.Accepted.{none_passes}
use Rattle.pm_plan.proofs.Own.{own_made, own_rules}
use Rattle.pm_plan.proofs.Valid.{accepted, plan_is, valid_kept, valid_rules, valid_start}
use Rattle.pm_plan.specs.Numbers.{first_from, first_repeat, first_wrong, name_at}
use Rattle.pm_plan.specs.Numbers as numbers
use Rattle.pm_plan.specs.Plans.{IsValid, all_vars, class_rows, count_refusal, first_off_tree, is_late, later_refusal, numbered, of_names, or_else, own_parts, parents, place_refusal, refusal, refused_if, var_row}
use Rattle.pm_plan.specs.declared.fault.PlanFault.{PlanFault}
use Rattle.pm_plan.specs.declared.fault.PlanFault.TheVariants as fault
use Rattle.pm_plan.specs.declared.parts.ClassPart.{ClassPart}
use Rattle.pm_plan.specs.declared.parts.ClpPart.{ClpPart}
use Rattle.pm_plan.specs.declared.parts.PlanParts.{PlanParts}
use Rattle.pm_plan.specs.declared.parts.VarPart.{VarPart}
use Rattle.pm_plan.specs.declared.plan.AgentRow.{AgentRow}
use Rattle.pm_plan.specs.declared.plan.Kind.{Kind}
use Rattle.pm_plan.specs.declared.plan.Kind.TheVariants as kind
use Rattle.pm_plan.specs.declared.plan.Plan.{Plan}
use Rattle.pm_plan.specs.declared.plan.VarRow.{VarRow}
use Rattle.pm_print.specs.Printing.{AreNames, IsNamed}
use Rattle.pm_rules.specs.Grammar.{AreDistinct, IsTable}
use Rattle.pm_rules.specs.Reading.{Table, class_names, in_u32, number_from, number_of}
use Rattle.pm_rules.specs.Reading as reading
use Rattle.pm_scenario.proofs.NamedRows.{table_rows, table_vars}
use Rattle.pm_scenario.specs.Scenarios.{named_rows, table_of, var_names}
use Rattle.pm_upgrade.specs.Drafts.{names_of}
use Rattle.pm_upgrade.specs.Rows.{IsPrintable}

-- a valid plan is the plan of its own parts
own_valid : (plan : Plan) → IsValid plan → IsValid plan
own_valid plan valid = record { parts = own_parts plan; made = own_made plan valid; rules = own_rules plan valid; pairs = valid.pairs }

pub own_is : (plan : Plan) → IsValid plan → numbered (own_parts plan) ≡ plan
unfolding own_parts own_valid
own_is plan valid = plan_is plan (own_valid plan valid)

zip-rows : (n : ℕ) (cs : List ClassPart) → zip (map (λ (c : ClassPart). c.name) cs) (class_rows n cs) ≡ named_rows n cs
zip-rows n [] = refl
zip-rows n (c ∷ cs) = ap (λ rs. (c.name, (record { first = n; count = length c.vars })) ∷ rs) (zip-rows (n + length c.vars) cs)

row-names : (names : List (List ℕ)) (vs : List VarPart) → map (λ (v : VarRow). v.name) (map (var_row names) vs) ≡ map (λ (v : VarPart). v.name) vs
row-names names [] = refl
row-names names (v ∷ vs) = ap (λ ns. v.name ∷ ns) (row-names names vs)

numbered-names : (parts : PlanParts) → names_of (numbered parts) ≡ table_of parts.classes
unfolding numbered
numbered-names parts =
    ap₂ (λ a b. record { classes = a; vars = b }) (zip-rows 0 parts.classes) (row-names (map (λ (c : ClpPart). c.name) parts.clps) (all_vars parts.classes))

pub names-are : (plan : Plan) → IsValid plan → names_of plan ≡ table_of (own_parts plan).classes
names-are plan valid = ap names_of (sym (own_is plan valid)) ∙ numbered-names (own_parts plan)

rows-names : (n : ℕ) (cs : List ClassPart) → map (λ c. c.0) (named_rows n cs) ≡ map (λ (c : ClassPart). c.name) cs
rows-names n [] = refl
rows-names n (c ∷ cs) = ap (λ ns. c.name ∷ ns) (rows-names (n + length c.vars) cs)

numbered-classes : (parts : PlanParts) → class_names (table_of parts.classes) ≡ (numbered parts).classes
unfolding numbered
numbered-classes parts = rows-names 0 parts.classes

numbered-layout : (parts : PlanParts) → reading.class_rows (table_of parts.classes) ≡ (numbered parts).layout.classes
unfolding numbered
numbered-layout parts = table_rows parts.classes

names-classes : (plan : Plan) → IsValid plan → class_names (names_of plan) ≡ plan.classes
names-classes plan valid =
    ap class_names (names-are plan valid) ∙ numbered-classes (own_parts plan) ∙ ap (λ (p : Plan). p.classes) (own_is plan valid)

names-rows : (plan : Plan) → IsValid plan → reading.class_rows (names_of plan) ≡ plan.layout.classes
names-rows plan valid =
    ap reading.class_rows (names-are plan valid) ∙ numbered-layout (own_parts plan) ∙ ap (λ (p : Plan). p.layout.classes) (own_is plan valid)

-- the refusals that a valid plan has none of
or_none : (a b : Option PlanFault) → or_else a b ≡ None → (a ≡ None) × (b ≡ None)
or_none None b e = (refl, e)
or_none (Some f) b e = absurd (cc)

map_none : {X : Type 0} (f : X → PlanFault) (o : Option X) → option_map f o ≡ None → o ≡ None
map_none f None e = refl
map_none f (Some x) e = absurd (cc)

abbrev clps_of : Plan → List (List ℕ)
clps_of p = map (λ c. c.name) p.clps

abbrev vars_of : Plan → List (List ℕ)
vars_of p = map (λ v. v.name) p.vars

-- a test that fails at no class and no variable
record Passes (index : List (List ℕ) → Option ℕ) (p : Plan) : Type 0 where
  classes : index p.classes ≡ None
  vars : index (vars_of p) ≡ None

passes : (refusal : Kind → ℕ → PlanFault) (index : List (List ℕ) → Option ℕ) (p : Plan) → of_names refusal index p ≡ None → Passes index p
passes refusal index p e =
    let vars = option_map (refusal kind.Var) (index (vars_of p)) in
    let agents = option_map (refusal kind.Agent) (index (map (λ a. a.name) p.agents)) in
    let classes = option_map (refusal kind.Class) (index p.classes) in
    let a = or_none (option_map (refusal kind.Clp) (index (clps_of p))) (or_else classes (or_else vars agents)) e in
    let b = or_none classes (or_else vars agents) a.1 in
    let d = or_none vars agents b.1 in
    record { classes = map_none (refusal kind.Class) (index p.classes) b.0; vars = map_none (refusal kind.Var) (index (vars_of p)) d.0 }

record Proper (p : Plan) : Type 0 where
  wrong : Passes first_wrong p
  twice : Passes first_repeat p

proper : (plan : Plan) → IsValid plan → Proper plan
unfolding refusal later_refusal
proper plan valid =
    let tree = option_map fault.Tree (first_off_tree (parents plan.clps)) in
    let twice = of_names fault.Twice first_repeat plan in
    let name = of_names fault.Name first_wrong plan in
    let time = refused_if (is_late plan) (fault.Limit kind.Time) in
    let all = or_none (count_refusal (length plan.clps) (length plan.classes) (length plan.vars) (length plan.agents)) (later_refusal plan) (accepted plan valid) in
    let a = or_none time (or_else name (or_else twice (or_else tree (place_refusal plan)))) all.1 in
    let b = or_none name (or_else twice (or_else tree (place_refusal plan))) a.1 in
    let d = or_none twice (or_else tree (place_refusal plan)) b.1 in
    record { wrong = passes fault.Name first_wrong plan b.0; twice = passes fault.Twice first_repeat plan d.0 }

-- each is a name
named-all : (names : List (List ℕ)) → ((k : ℕ) → k < length names → is_name (get_or names k []) ≡ true) → AreNames names
named-all [] each = tt
named-all (n ∷ names) each = (each 0 (omega arith), named-all names (λ k lt. each (suc k) (omega (arith, lt))))

not-false : (b : Bool) → not b ≡ false → b ≡ true
not-false true e = refl
not-false false e = absurd (cc)

named : (names : List (List ℕ)) → first_wrong names ≡ None → AreNames names
unfolding first_wrong
named names e = named-all names (λ k lt. not-false _ (none_passes (λ i. not (is_name (name_at names i))) (length names) k e lt))

-- where no name stands twice, each stands at its own number
not-some : (o : Option ℕ) → is_some o ≡ false → o ≡ None
not-some None e = refl
not-some (Some k) e = absurd (cc)

same-bytes : (v w : List ℕ) → bytes_eq v w ≡ bytes_eq w v
same-bytes v w = grind (arith, bytes_eq-Decides)

its-own : (w : List ℕ) → bytes_eq w w ≡ true
its-own w = grind (arith, bytes_eq-Decides)

fits-u32 : (i : ℕ) → i < 2 ^ 32 → in_u32 i ≡ Some i
fits-u32 i lt = (let small : nat_lt i (2 ^ 32) ≡ true = grind (arith, nat_tests) in ap (λ b. cond b (Some i) None) small)

number-here : (w : List ℕ) (i k : ℕ) (ns : List (List ℕ)) → k < length ns → get_or ns k [] ≡ w → first_from i (take k ns) w ≡ None → i + k < 2 ^ 32
    → number_from w i ns ≡ Some (i + k)
number-here w i k [] lt is none small = absurd (omega (arith, lt))
number-here w i zero (n ∷ ns) lt is none small =
    let here : bytes_eq n w ≡ true = ap (bytes_eq n) (sym is) ∙ its-own n in
    let sum : i ≡ i + zero = omega arith in
    ap (λ b. cond b (in_u32 i) (number_from w (i + 1) ns)) here ∙ fits-u32 i (omega (arith, small)) ∙ ap Some sum
number-here w i (suc k) (n ∷ ns) lt is none small = elim (cases_Bool (bytes_eq w n)) [
  | inl e ↦ (let found : first_from i (take (suc k) (n ∷ ns)) w ≡ Some i = ap (λ b. cond b (Some i) (first_from (i + 1) (take k ns) w)) e in absurd (cc (found, none)))
  | inr e ↦ (let past : first_from i (take (suc k) (n ∷ ns)) w ≡ first_from (i + 1) (take k ns) w = ap (λ b. cond b (Some i) (first_from (i + 1) (take k ns) w)) e in
      let other : bytes_eq n w ≡ false = same-bytes n w ∙ e in
      let sum : i + 1 + k ≡ i + suc k = omega arith in
      ap (λ b. cond b (in_u32 i) (number_from w (i + 1) ns)) other
      ∙ number-here w (i + 1) k ns (omega (arith, lt)) is (sym past ∙ none) (omega (arith, small)) ∙ ap Some sum)
]

distinct : (names : List (List ℕ)) → first_repeat names ≡ None → length names < 2 ^ 32 → AreDistinct names
unfolding first_repeat numbers.number_of number_of
distinct names once few k lt =
    let zero : 0 + k ≡ k = omega arith in
    number-here (get_or names k []) 0 k names lt refl
    (not-some _ (none_passes (λ i. is_some (numbers.number_of (take i names) (name_at names i))) (length names) k once lt)) (omega (arith, lt, few))
    ∙ ap Some zero

pub names-table : (plan : Plan) → IsValid plan → IsTable (names_of plan)
names-table plan valid =
    let ok = proper plan valid in
    let few = valid_kept plan valid in
    let long = length-map plan.vars (λ (v : VarRow). v.name) in
    record {
      classes = subst AreDistinct (sym (names-classes plan valid)) (distinct plan.classes ok.twice.classes (omega (arith, few)));
      vars = distinct (vars_of plan) ok.twice.vars (omega (arith, few, long));
      count = subst (λ (t : Table). length t.vars ≡ var_count (reading.class_rows t)) (sym (names-are plan valid)) (table_vars (own_parts plan).classes);
    }

pub names-named : (plan : Plan) → IsValid plan → IsNamed (names_of plan)
names-named plan valid =
    let ok = proper plan valid in record {
      classes = subst AreNames (sym (names-classes plan valid)) (named plan.classes ok.wrong.classes);
      vars = named (vars_of plan) ok.wrong.vars;
    }

-- each agent can be printed
printable-all : (t : Table) (layout : Layout) (rows : List AgentRow) → reading.class_rows t ≡ layout.classes
    → list_all (λ (r : AgentRow). fits r.program layout) rows ≡ true
    → ((i : ℕ) → i < length rows → get_or (map (λ (a : AgentRow). a.start) rows) i 0 ≤ 1000000000000) → AllByRecursion (IsPrintable t) rows
printable-all t layout [] laid fit early = tt
printable-all t layout (r ∷ rows) laid fit early =
    let both = and_parts (fits r.program layout) (list_all (λ (r : AgentRow). fits r.program layout) rows) fit in
    let start = early 0 (omega arith) in (
      record {
        fit = ap (λ cs. fits r.program (record { classes = cs })) laid ∙ both.0;
        start = omega (arith, start);
      },
      printable-all t layout rows laid both.1 (λ i lt. early (suc i) (omega (arith, lt))),
    )

pub printable : (plan : Plan) → IsValid plan → AllByRecursion (IsPrintable (names_of plan)) plan.agents
printable plan valid = printable-all (names_of plan) plan.layout plan.agents (names-rows plan valid) (valid_rules plan valid) (valid_start plan valid)
