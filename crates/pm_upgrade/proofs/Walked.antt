-- The document of a draft says what the draft says.
use Rattle.std.proofs.Common.{◌≡◌, refl, ap, sym, ◌∙◌, arith, ℕ, ◌+◌, ◌≤◌, max, List, [], ◌∷◌, Option, Some, None, Ok, codes, ℤ}
use Rattle.toml.specs.Data.{Data, Items, Members, member, no_members, string, array, depth, items_depth, members_depth}
use Rattle.pm_plan.specs.declared.parts.ClassPart.{ClassPart}
use Rattle.pm_plan.specs.declared.parts.ClpPart.{ClpPart}
use Rattle.pm_plan.specs.declared.parts.VarPart.{VarPart}
use Rattle.pm_scenario.specs.Forms.{Form, Path, all_tables, elements, no_strange, tables, walk}
use Rattle.pm_scenario.specs.Scenarios.{agent_form, class_form, clp_form, clp_part, draft, draft_of_root, root_form, var_form}
use Rattle.pm_scenario.specs.declared.draft.AgentText.{AgentText}
use Rattle.pm_scenario.specs.declared.draft.Version.TheVariants as versions
use Rattle.pm_upgrade.specs.Documents.{agent_members, class_members, clp_members, items_of, parent_member, root_members, var_members}

clp_reads_at : (prefix : Path) (name : List ℕ) (parent : Option (List ℕ)) → walk clp_form prefix (member (codes "name") (string name) (parent_member parent)) ≡ Ok (clp_part name parent)
unfolding clp_form no_strange
clp_reads_at prefix name None = refl
clp_reads_at prefix name (Some above) = refl

clp_reads : (prefix : Path) (c : ClpPart) → walk clp_form prefix (clp_members c) ≡ Ok c
clp_reads prefix c = clp_reads_at prefix c.name c.parent

var_reads : (prefix : Path) (v : VarPart) → walk var_form prefix (var_members v) ≡ Ok v
unfolding var_form no_strange
var_reads prefix v = refl

agent_reads : (prefix : Path) (a : AgentText) → walk agent_form prefix (agent_members a) ≡ Ok a
unfolding agent_form no_strange
agent_reads prefix a = refl

all-tables : {A : Type 0} (f : A → Members) (path : Path) (i : ℕ) (xs : List A) → all_tables path i (items_of f xs) ≡ Ok tt
unfolding all_tables
all-tables f path i [] = refl
all-tables f path i (x ∷ xs) = all-tables f path (i + 1) xs

all-read : {A : Type 0} (form : Form A) (f : A → Members) → ((prefix : Path) (x : A) → walk form prefix (f x) ≡ Ok x) → (path : Path) (i : ℕ) (xs : List A)
    → elements form path i (items_of f xs) ≡ Ok xs
unfolding elements
all-read form f each path i [] = refl
all-read form f each path i (x ∷ xs) = rw (each, all-read form f each path (i + 1) xs) refl

tables-read : {A : Type 0} (form : Form A) (f : A → Members) → ((prefix : Path) (x : A) → walk form prefix (f x) ≡ Ok x) → (path : Path) (xs : List A)
    → tables form path (array (items_of f xs)) ≡ Ok xs
unfolding tables
tables-read form f each path xs = rw (all-tables f path 0 xs) (all-read form f each path 0 xs)

class_reads : (prefix : Path) (c : ClassPart) → walk class_form prefix (class_members c) ≡ Ok c
unfolding class_form no_strange
class_reads prefix c = rw (tables-read var_form var_members var_reads) refl

pub root_reads : (horizon move_after : ℕ) (clps : List ClpPart) (classes : List ClassPart) (agents : List AgentText)
    → draft_of_root (root_members (draft versions.Two horizon move_after clps classes agents)) ≡ Ok (draft versions.Two horizon move_after clps classes agents)
unfolding draft_of_root root_form root_members no_strange
root_reads horizon move_after clps classes agents =
    rw (tables-read clp_form clp_members clp_reads, tables-read class_form class_members class_reads, tables-read agent_form agent_members agent_reads) refl

-- it has few levels
items-low : {A : Type 0} (f : A → Members) (m : ℕ) → ((x : A) → members_depth (f x) ≤ m) → (xs : List A) → items_depth (items_of f xs) ≤ m + 1
items-low f m each [] = omega arith
items-low f m each (x ∷ xs) = let one = each x in omega (arith, one, items-low f m each xs)

clp_low_at : (name : List ℕ) (parent : Option (List ℕ)) → members_depth (member (codes "name") (string name) (parent_member parent)) ≤ 1
clp_low_at name None = omega arith
clp_low_at name (Some above) = omega arith

clp_low : (c : ClpPart) → members_depth (clp_members c) ≤ 1
clp_low c = clp_low_at c.name c.parent

var_low : (v : VarPart) → members_depth (var_members v) ≤ 1
var_low v = omega arith

agent_low : (a : AgentText) → members_depth (agent_members a) ≤ 1
agent_low a = omega arith

class_low : (c : ClassPart) → members_depth (class_members c) ≤ 4
class_low c = let vars = items-low var_members 1 var_low c.vars in omega (arith, vars)

pub root_low : (horizon move_after : ℕ) (clps : List ClpPart) (classes : List ClassPart) (agents : List AgentText)
    → members_depth (root_members (draft versions.Two horizon move_after clps classes agents)) ≤ 80
unfolding root_members
root_low horizon move_after clps classes agents =
    let a = items-low clp_members 1 clp_low clps in
    let b = items-low class_members 4 class_low classes in
    let c = items-low agent_members 1 agent_low agents in
    omega (arith, a, b, c)
