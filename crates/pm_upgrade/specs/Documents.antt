-- The document that says what a draft says, with every key that a scenario may have.
use Rattle.std.specs.Prelude.{ℕ, List, [], ◌∷◌, Option, Some, None, pos, codes}
use Rattle.toml.specs.Data.{Data, string, integer, array, table, Items, no_items, item, Members, no_members, member}
use Rattle.pm_plan.specs.declared.parts.ClassPart.{ClassPart}
use Rattle.pm_plan.specs.declared.parts.ClpPart.{ClpPart}
use Rattle.pm_plan.specs.declared.parts.VarPart.{VarPart}
use Rattle.pm_scenario.specs.Scenarios.{version_number}
use Rattle.pm_scenario.specs.declared.draft.AgentText.{AgentText}
use Rattle.pm_scenario.specs.declared.draft.Draft.{Draft}

-- the key `parent`, where there is one
abbrev pub parent_member : Option (List ℕ) → Members
parent_member None = no_members
parent_member (Some name) = member (codes "parent") (string name) no_members

-- the table of a communication process
abbrev pub clp_members : ClpPart → Members
clp_members c = member (codes "name") (string c.name) (parent_member c.parent)

-- the table of a variable
abbrev pub var_members : VarPart → Members
var_members v =
    member (codes "at") (string v.at) (member (codes "name") (string v.name)
    (member (codes "x") (integer v.value.x) (member (codes "y") (integer v.value.y) no_members)))

-- an array of tables, each made of one of these
abbrev pub items_of : {A : Type 0} → (A → Members) → List A → Items
items_of members_of [] = no_items
items_of members_of (x ∷ xs) = item (table (members_of x)) (items_of members_of xs)

-- the table of a class
abbrev pub class_members : ClassPart → Members
class_members c =
    member (codes "name") (string c.name) (member (codes "var") (array (items_of var_members c.vars)) no_members)

-- the table of an agent
abbrev pub agent_members : AgentText → Members
agent_members a =
    member (codes "home") (string a.home) (member (codes "name") (string a.name)
    (member (codes "rule") (string a.rule) (member (codes "start") (integer (pos a.start)) no_members)))

-- the root of a document: every key, in the order of their bytes
unfoldable pub root_members : Draft → Members
root_members d =
    member (codes "agent") (array (items_of agent_members d.agents))
    (member (codes "class") (array (items_of class_members d.classes))
    (member (codes "clp") (array (items_of clp_members d.clps))
    (member (codes "horizon") (integer (pos d.horizon))
    (member (codes "move_after") (integer (pos d.move_after))
    (member (codes "version") (integer (pos (version_number d.version))) no_members)))))
