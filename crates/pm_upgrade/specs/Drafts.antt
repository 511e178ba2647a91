-- What the text of a plan says.
use Rattle.std.specs.Prelude.{ℕ, List, [], ◌∷◌, map}
use Rattle.std.specs.List.{zip}
use Rattle.pm_plan.specs.Plans.{own_agent, own_classes, own_clp, own_var}
use Rattle.pm_plan.specs.declared.parts.AgentPart.{AgentPart}
use Rattle.pm_plan.specs.declared.plan.AgentRow.{AgentRow}
use Rattle.pm_plan.specs.declared.plan.ClpRow.{ClpRow}
use Rattle.pm_plan.specs.declared.plan.Plan.{Plan}
use Rattle.pm_plan.specs.declared.plan.VarRow.{VarRow}
use Rattle.pm_print.specs.Printed.{printed}
use Rattle.pm_rules.specs.Reading.{Table}
use Rattle.pm_scenario.specs.Scenarios.{agent_text, draft}
use Rattle.pm_scenario.specs.declared.draft.AgentText.{AgentText}
use Rattle.pm_scenario.specs.declared.draft.Draft.{Draft}
use Rattle.pm_scenario.specs.declared.draft.Version.TheVariants as versions

-- the names of the communication processes
abbrev pub clp_names : Plan → List (List ℕ)
clp_names plan = map (λ (c : ClpRow). c.name) plan.clps

-- what the names in a plan's rules stand for
abbrev pub names_of : Plan → Table
names_of plan =
    record { classes = zip plan.classes plan.layout.classes; vars = map (λ (v : VarRow). v.name) plan.vars }

-- an agent with its rule in the printed form
abbrev pub with_text : Table → AgentPart → AgentText
with_text names a = agent_text a.name a.home a.start (printed names a.program)

-- what the text of a plan says, in version 2: each place by its process's name, and each rule in the printed form
abbrev pub draft_of_plan : Plan → Draft
draft_of_plan plan =
    draft versions.Two plan.horizon plan.move_after (map (own_clp (clp_names plan)) plan.clps)
    (own_classes plan.classes plan.layout.classes (map (own_var (clp_names plan)) plan.vars))
    (map (λ (a : AgentRow). with_text (names_of plan) (own_agent (clp_names plan) a)) plan.agents)
