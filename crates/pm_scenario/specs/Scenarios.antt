-- Which keys a scenario's tables have, and the plan of a text.
use Rattle.std.specs.Prelude.{ℕ, ◌+◌, ◌==◌, length, map, List, [], ◌∷◌, Option, Some, None, Result, Ok, Err}
use Rattle.std.specs.Prelude.{ℤ, pos, negsuc, codes, if◌then◌else◌}
use Rattle.std.specs.Str.{is_utf8}
use Rattle.toml.specs.Data.{Members}
use Rattle.toml.specs.Parse.{parse_document}
use Rattle.pm_base.specs.declared.layout.ClassRow.{ClassRow}
use Rattle.pm_base.specs.declared.program.Program.{Program}
use Rattle.pm_plan.specs.Plans.{all_vars}
use Rattle.pm_plan.specs.Plans as plans
use Rattle.pm_plan.specs.declared.fault.PlanFault.{PlanFault}
use Rattle.pm_plan.specs.declared.parts.AgentPart.{AgentPart}
use Rattle.pm_plan.specs.declared.parts.ClassPart.{ClassPart}
use Rattle.pm_plan.specs.declared.parts.ClpPart.{ClpPart}
use Rattle.pm_plan.specs.declared.parts.PlanParts.{PlanParts}
use Rattle.pm_plan.specs.declared.parts.VarPart.{VarPart}
use Rattle.pm_plan.specs.declared.plan.Plan.{Plan}
use Rattle.pm_rules.specs.Reading.{Table}
use Rattle.pm_rules.specs.Rules.{parsed}
use Rattle.pm_rules.specs.declared.fault.RuleFault.{RuleFault}
use Rattle.pm_scenario.specs.Forms.{◌>>=◌, Kind, Field, Form, field_at, made_by, ◌◃◌, walk}
use Rattle.pm_scenario.specs.Forms.{text, number, count, optional, tables, required, default}
use Rattle.pm_scenario.specs.declared.draft.AgentText.{AgentText}
use Rattle.pm_scenario.specs.declared.draft.Draft.{Draft}
use Rattle.pm_scenario.specs.declared.draft.Version.{Version}
use Rattle.pm_scenario.specs.declared.draft.Version.TheVariants as versions
use Rattle.pm_scenario.specs.declared.fault.ScenarioFault.{ScenarioFault}
use Rattle.pm_scenario.specs.declared.fault.ScenarioFault.TheVariants as fault

-- a communication process by its name and its parent's, where it has one
abbrev pub clp_part : List ℕ → Option (List ℕ) → ClpPart
clp_part name parent = record { name = name; parent = parent }

-- a variable by its name, the process that it is at first at, and its first value's x and y
abbrev pub var_part : List ℕ → List ℕ → ℤ → ℤ → VarPart
var_part name at x y = record { name = name; at = at; value = record { x = x; y = y } }

-- a class by its name and its variables in order
abbrev pub class_part : List ℕ → List VarPart → ClassPart
class_part name vars = record { name = name; vars = vars }

-- an agent by its name, its home's, the time of its first step and the text of its rule
abbrev pub agent_text : List ℕ → List ℕ → ℕ → List ℕ → AgentText
agent_text name home start rule = record { name = name; home = home; start = start; rule = rule }

-- what a scenario says, by the values of the root's keys in order
abbrev pub draft : Version → ℕ → ℕ → List ClpPart → List ClassPart → List AgentText → Draft
draft v horizon move_after clps classes agents =
    record { version = v; horizon = horizon; move_after = move_after; clps = clps; classes = classes; agents = agents }

-- the number that a scenario names a version by
abbrev pub version_number : Version → ℕ
version_number versions.One = 1
version_number versions.Two = 2

-- the version that the number names, where it is one of those that there are
abbrev pub known : ℤ → Result Version ScenarioFault
known (pos n) = if n == 1 then Ok versions.One else if n == 2 then Ok versions.Two else Err fault.Version
known (negsuc n) = Err fault.Version

-- the kind of versions: an integer that names one
abbrev pub known_version : Kind Version
known_version path d = number path d >>= known

-- the key of the version, which must be there
abbrev pub version : Field Version
version = required (codes "version") known_version

-- a communication process: a name, and the name of its parent where it isn't the root
unfoldable pub clp_form : Form ClpPart
clp_form = made_by clp_part
    ◃ required (codes "name") text
    ◃ default (codes "parent") (optional text) None

-- a variable: a name, the name of a process, and two numbers that are 0 where they are absent
unfoldable pub var_form : Form VarPart
var_form = made_by var_part
    ◃ required (codes "name") text
    ◃ required (codes "at") text
    ◃ default (codes "x") number (pos 0)
    ◃ default (codes "y") number (pos 0)

-- a class: a name, and variables, none where they are absent
unfoldable pub class_form : Form ClassPart
class_form = made_by class_part
    ◃ required (codes "name") text
    ◃ default (codes "var") (tables var_form) []

-- an agent: a name, the name of its home, the time of its first step, which is 0 where it is absent, and a rule
unfoldable pub agent_form : Form AgentText
agent_form = made_by agent_text
    ◃ required (codes "name") text
    ◃ required (codes "home") text
    ◃ default (codes "start") count 0
    ◃ required (codes "rule") text

-- a scenario: the version, the horizon, after how many uses from one side a variable moves there, which is 0, for never,
-- where it is absent, and the processes, the classes and the agents, none where they are absent
unfoldable pub root_form : Form Draft
root_form = made_by draft
    ◃ version
    ◃ required (codes "horizon") count
    ◃ default (codes "move_after") count 0
    ◃ default (codes "clp") (tables clp_form) []
    ◃ default (codes "class") (tables class_form) []
    ◃ default (codes "agent") (tables agent_form) []

-- the version is looked at before the walk
unfoldable pub draft_of_root : Members → Result Draft ScenarioFault
draft_of_root root = field_at version [] root >>= λ _. walk root_form [] root

-- what a document's root says, and bytes without a document are no TOML
abbrev pub draft_of_document : Option Members → Result Draft ScenarioFault
draft_of_document None = Err fault.NotToml
draft_of_document (Some root) = draft_of_root root

-- what a text says, each rule still a text
unfoldable pub draft_of : List ℕ → Result Draft ScenarioFault
draft_of bytes = if is_utf8 bytes then draft_of_document (parse_document bytes) else Err fault.NotToml

-- the classes with their names, the first of them from that variable on
abbrev pub named_rows : ℕ → List ClassPart → List (List ℕ × ClassRow)
named_rows first [] = []
named_rows first (c ∷ cs) =
    (c.name, record { first = first; count = length c.vars }) ∷ named_rows (first + length c.vars) cs

-- the names of the variables, in order through all classes
abbrev pub var_names : List ClassPart → List (List ℕ)
var_names classes = map (λ (v : VarPart). v.name) (all_vars classes)

-- what the names in rules stand for: the classes in order, and the variables through all classes
abbrev pub table_of : List ClassPart → Table
table_of classes = record { classes = named_rows 0 classes; vars = var_names classes }

-- the agent of number i with what was read of its rule: the rule's program, or the rule's fault under that number
abbrev pub with_rule : ℕ → AgentText → Result Program RuleFault → Result AgentPart ScenarioFault
with_rule i agent (Ok program) =
    Ok (record { name = agent.name; home = agent.home; start = agent.start; program = program })
with_rule i agent (Err f) = Err (fault.Rule i f)

-- the agent of number i with its rule
abbrev pub agent_part : Table → ℕ → ℕ → AgentText → Result AgentPart ScenarioFault
agent_part names v i agent = with_rule i agent (parsed names v agent.rule)

-- the agents from number i on with their rules, or the first fault of a rule, in the order of the agents
unfoldable pub agent_parts : Table → ℕ → ℕ → List AgentText → Result (List AgentPart) ScenarioFault
agent_parts names v i [] = Ok []
agent_parts names v i (agent ∷ agents) = do
  part ← agent_part names v i agent
  parts ← agent_parts names v (i + 1) agents
  Ok (part ∷ parts)

-- the parts of a plan that a draft has, with these agents
abbrev pub with_agents : Draft → List AgentPart → PlanParts
with_agents d agents =
    record { horizon = d.horizon; move_after = d.move_after; clps = d.clps; classes = d.classes; agents = agents }

-- the parts of a plan that a draft has, each rule read in the draft's version
unfoldable pub parts_of : Draft → Result PlanParts ScenarioFault
parts_of d =
    agent_parts (table_of d.classes) (version_number d.version) 0 d.agents >>= λ agents. Ok (with_agents d agents)

-- the plan, or the plan's fault as the scenario's
abbrev pub plan_or : Result Plan PlanFault → Result Plan ScenarioFault
plan_or (Ok plan) = Ok plan
plan_or (Err f) = Err (fault.Plan f)

-- the plan of a text, or its first refusal: that of the document, of the rules in the order of the agents, of the plan
unfoldable pub plan_of : List ℕ → Result Plan ScenarioFault
plan_of bytes = do
  draft ← draft_of bytes
  parts ← parts_of draft
  plan_or (plans.plan_of parts)
