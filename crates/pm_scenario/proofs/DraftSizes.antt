-- A draft has no more classes, variables and agents than its document has elements.
use Rattle.std.proofs.Common.{◌≡◌, refl, ap, ◌∙◌, arith, ℕ, ◌+◌, ◌≤◌, List, [], ◌∷◌, ◌++◌, length, length-append, Option, Some, None, Result, Ok, Err, Ordering, Less, Equal, Greater, nat_cmp, codes}
use Rattle.std.specs.Cmp.Lexicographic.{slice_cmp}
use Rattle.std.specs.Ordering.{match_ordering}
use Rattle.toml.specs.Data.{Data, string, integer, float, boolean, datetime, array, table, Items, no_items, item, Members, no_members, member, get_member}
use Rattle.pm_plan.specs.Plans.{all_vars}
use Rattle.pm_plan.specs.declared.parts.ClassPart.{ClassPart}
use Rattle.pm_plan.specs.declared.parts.ClpPart.{ClpPart}
use Rattle.pm_plan.specs.declared.parts.VarPart.{VarPart}
use Rattle.pm_scenario.specs.Forms.{Path, Form, Field, ◌>>=◌, made_by, ◌◃◌, count, field_at, value_of, walk, inside, indexed, no_strange, all_tables, element, elements, tables, default, required, text}
use Rattle.pm_scenario.specs.Scenarios.{draft, class_part, version, clp_form, class_form, var_form, agent_form, root_form, draft_of_root}
use Rattle.pm_scenario.specs.declared.draft.AgentText.{AgentText}
use Rattle.pm_scenario.specs.declared.draft.Draft.{Draft}
use Rattle.pm_scenario.specs.declared.fault.ScenarioFault.{ScenarioFault}
use Rattle.pm_scenario.proofs.Sizes.{size, items_size, members_size}

-- what went on was there
bind_ok : {A B : Type 0} (r : Result A ScenarioFault) (k : A → Result B ScenarioFault) (y : B) → (r >>= k) ≡ Ok y → (x : A) × (r ≡ Ok x) × (k x ≡ Ok y)
bind_ok (Ok x) k y e = (x, refl, e)
bind_ok (Err f) k y e = absurd (cc)

abbrev good : {A : Type 0} → A → Result A ScenarioFault
good x = Ok x

same_ok : {A : Type 0} (x y : A) → good x ≡ Ok y → x ≡ y
same_ok x y e = cc

-- the value at a key is no larger than the table
at_most : (o : Ordering) (k : List ℕ) (d e : Data) (ms : Members) → (get_member k ms ≡ Some d → size d ≤ members_size ms) →
    match_ordering o (get_member k ms) (Some e) (get_member k ms) ≡ Some d → size d ≤ size e + members_size ms
at_most Less k d e ms ih h = omega (arith, ih h)
at_most Equal k d e ms ih h = let same : e ≡ d = cc in rw (← same) (omega arith)
at_most Greater k d e ms ih h = omega (arith, ih h)

member_size : (k : List ℕ) (d : Data) (ms : Members) → get_member k ms ≡ Some d → size d ≤ members_size ms
member_size k d no_members h = absurd (cc)
member_size k d (member l e ms) h = at_most (slice_cmp nat_cmp k l) k d e ms (member_size k d ms) h

-- a measure of what is read of a table, no greater than the table's size
abbrev pub IsMeasured : {A : Type 0} → Form A → (A → ℕ) → Type 0
IsMeasured {A} form m = (prefix : Path) (ms : Members) (x : A) → walk form prefix ms ≡ Ok x → m x ≤ members_size ms

abbrev pub total : {A : Type 0} → (A → ℕ) → List A → ℕ
total m [] = 0
total m (x ∷ xs) = 1 + m x + total m xs

element_size : {A : Type 0} (form : Form A) (m : A → ℕ) → IsMeasured form m → (path : Path) (d : Data) (x : A) → element form path d ≡ Ok x → m x ≤ size d
element_size form m h path (table ms) x e = h (inside path) ms x e
element_size form m h path (string s) x e = absurd (cc)
element_size form m h path (integer z) x e = absurd (cc)
element_size form m h path (float z) x e = absurd (cc)
element_size form m h path (boolean b) x e = absurd (cc)
element_size form m h path (datetime t) x e = absurd (cc)
element_size form m h path (array ds) x e = absurd (cc)

elements_size : {A : Type 0} (form : Form A) (m : A → ℕ) → IsMeasured form m → (path : Path) (i : ℕ) (ds : Items) (xs : List A) →
    elements form path i ds ≡ Ok xs → total m xs ≤ items_size ds
unfolding elements
elements_size form m h path i no_items xs e = let same = same_ok [] xs e in rw (← same) (omega arith)
elements_size form m h path i (item d ds) xs e =
    let (x, one, rest) = bind_ok (element form (indexed path i) d) _ xs e in
    let (ys, more, last) = bind_ok (elements form path (i + 1) ds) _ xs rest in
    let same = same_ok (x ∷ ys) xs last in
    let here = element_size form m h (indexed path i) d x one in
    let after = elements_size form m h path (i + 1) ds ys more in
    rw (← same) (omega (arith, here, after))

tables_size : {A : Type 0} (form : Form A) (m : A → ℕ) → IsMeasured form m → (path : Path) (d : Data) (xs : List A) →
    tables form path d ≡ Ok xs → total m xs ≤ size d
unfolding tables
tables_size form m h path (array ds) xs e =
    let (u, are, rest) = bind_ok (all_tables path 0 ds) _ xs e in
    elements_size form m h path 0 ds xs rest
tables_size form m h path (table ms) xs e = absurd (cc)
tables_size form m h path (string s) xs e = absurd (cc)
tables_size form m h path (integer z) xs e = absurd (cc)
tables_size form m h path (float z) xs e = absurd (cc)
tables_size form m h path (boolean b) xs e = absurd (cc)
tables_size form m h path (datetime t) xs e = absurd (cc)

value_size : {A : Type 0} (form : Form A) (m : A → ℕ) → IsMeasured form m → (key : List ℕ) (path : Path) (ms : Members) (o : Option Data) (xs : List A) →
    get_member key ms ≡ o → value_of (default key (tables form) []) path o ≡ Ok xs → total m xs ≤ members_size ms
value_size form m h key path ms None xs there e = let same = same_ok [] xs e in rw (← same) (omega arith)
value_size form m h key path ms (Some d) xs there e =
    let here = tables_size form m h path d xs e in
    let inner = member_size key d ms there in
    omega (arith, here, inner)

-- the tables at a key
field_size : {A : Type 0} (form : Form A) (m : A → ℕ) → IsMeasured form m → (key : List ℕ) (prefix : Path) (ms : Members) (xs : List A) →
    field_at (default key (tables form) []) prefix ms ≡ Ok xs → total m xs ≤ members_size ms
field_size form m h key prefix ms xs e = value_size form m h key (prefix ++ key) ms (get_member key ms) xs refl e

abbrev nothing : {A : Type 0} → A → ℕ
nothing x = 0

unmeasured : {A : Type 0} (form : Form A) → IsMeasured form nothing
unmeasured form prefix ms x e = omega arith

length-total : {A : Type 0} (m : A → ℕ) (xs : List A) → length xs ≤ total m xs
length-total m [] = omega arith
length-total m (x ∷ xs) = omega (arith, length-total m xs)

-- what a form with one more key made
step_ok : {A B : Type 0} (form : Form (A → B)) (field : Field A) (prefix : Path) (ms : Members) (y : B) → (form ◃ field).values prefix ms ≡ Ok y →
    (f : A → B) × (x : A) × (form.values prefix ms ≡ Ok f) × (field_at field prefix ms ≡ Ok x) × (f x ≡ y)
step_ok form field prefix ms y e =
    let (f, before, rest) = bind_ok (form.values prefix ms) (λ f. field_at field prefix ms >>= λ x. Ok (f x)) y e in
    let (x, there, last) = bind_ok (field_at field prefix ms) (λ x. Ok (f x)) y rest in
    (f, x, before, there, same_ok (f x) y last)

abbrev named_class : Form (List VarPart → ClassPart)
named_class = made_by class_part ◃ required (codes "name") text

class_vars : (prefix : Path) (ms : Members) (c : ClassPart) → walk class_form prefix ms ≡ Ok c → length c.vars ≤ members_size ms
unfolding class_form
class_vars prefix ms c e =
    let (u, known, rest) = bind_ok (no_strange prefix class_form.keys ms) (λ _. class_form.values prefix ms) c e in
    let (f, vars, before, there, made) = step_ok named_class (default (codes "var") (tables var_form) []) prefix ms c rest in
    let (g, name, empty, text_there, given) = step_ok (made_by class_part) (required (codes "name") text) prefix ms f before in
    let start = same_ok class_part g empty in
    let most = field_size var_form nothing (unmeasured var_form) (codes "var") prefix ms vars there in
    let count = length-total nothing vars in
    let whole : class_part name vars ≡ c = ap (λ h. h name vars) start ∙ (ap (λ h. h vars) given ∙ made) in
    let same : length vars ≡ length c.vars = ap (λ (k : ClassPart). length k.vars) whole in
    omega (arith, same, most, count)

vars_total : (cs : List ClassPart) → length (all_vars cs) + length cs ≤ total (λ c. length c.vars) cs
vars_total [] = omega arith
vars_total (c ∷ cs) =
    let l = length-append c.vars (all_vars cs) in
    let more = vars_total cs in
    omega (arith, l, more)

pub record HasSize (d : Draft) (n : ℕ) : Type 0 where
  pub classes : length d.classes ≤ n
  pub vars : length (all_vars d.classes) ≤ n
  pub agents : length d.agents ≤ n

abbrev form_1 : Form (ℕ → ℕ → List ClpPart → List ClassPart → List AgentText → Draft)
form_1 = made_by draft ◃ version

abbrev form_2 : Form (ℕ → List ClpPart → List ClassPart → List AgentText → Draft)
form_2 = form_1 ◃ required (codes "horizon") count

abbrev form_3 : Form (List ClpPart → List ClassPart → List AgentText → Draft)
form_3 = form_2 ◃ default (codes "move_after") count 0

abbrev form_4 : Form (List ClassPart → List AgentText → Draft)
form_4 = form_3 ◃ default (codes "clp") (tables clp_form) []

abbrev form_5 : Form (List AgentText → Draft)
form_5 = form_4 ◃ default (codes "class") (tables class_form) []

root_size : (prefix : Path) (root : Members) (d : Draft) → walk root_form prefix root ≡ Ok d → HasSize d (members_size root)
unfolding root_form
root_size prefix root d e =
    let (u, known, rest) = bind_ok (no_strange prefix root_form.keys root) (λ _. root_form.values prefix root) d e in
    let (f5, agents, before5, agents_there, made5) = step_ok form_5 (default (codes "agent") (tables agent_form) []) prefix root d rest in
    let (f4, classes, before4, classes_there, made4) = step_ok form_4 (default (codes "class") (tables class_form) []) prefix root f5 before5 in
    let (f3, clps, before3, clps_there, made3) = step_ok form_3 (default (codes "clp") (tables clp_form) []) prefix root f4 before4 in
    let (f2, move_after, before2, move_after_there, made2) = step_ok form_2 (default (codes "move_after") count 0) prefix root f3 before3 in
    let (f1, horizon, before1, horizon_there, made1) = step_ok form_1 (required (codes "horizon") count) prefix root f2 before2 in
    let (f0, v, before0, version_there, made0) = step_ok (made_by draft) version prefix root f1 before1 in
    let start = same_ok draft f0 before0 in
    let whole : draft v horizon move_after clps classes agents ≡ d =
    ap (λ h. h v horizon move_after clps classes agents) start ∙ (ap (λ h. h horizon move_after clps classes agents) made0
    ∙ (ap (λ h. h move_after clps classes agents) made1 ∙ (ap (λ h. h clps classes agents) made2
    ∙ (ap (λ h. h classes agents) made3 ∙ (ap (λ h. h agents) made4 ∙ made5))))) in
    let same_agents : agents ≡ d.agents = ap (λ (k : Draft). k.agents) whole in
    let same_classes : classes ≡ d.classes = ap (λ (k : Draft). k.classes) whole in
    let agents_size = field_size agent_form nothing (unmeasured agent_form) (codes "agent") prefix root agents agents_there in
    let classes_size = field_size class_form (λ c. length c.vars) class_vars (codes "class") prefix root classes classes_there in
    let agents_count = length-total nothing agents in
    let classes_count = vars_total classes in
    record {
      classes = rw (← same_classes) (omega (arith, classes_size, classes_count));
      vars = rw (← same_classes) (omega (arith, classes_size, classes_count));
      agents = rw (← same_agents) (omega (arith, agents_size, agents_count));
    }

pub draft_size : (root : Members) (d : Draft) → draft_of_root root ≡ Ok d → HasSize d (members_size root)
unfolding draft_of_root
draft_size root d e =
    let (v, there, rest) = bind_ok (field_at version [] root) _ d e in
    root_size [] root d rest
