-- Drafts that numbers of 32 bits can count.
use Rattle.std.specs.Prelude.{◌^◌, ◌<◌, length}
use Rattle.pm_plan.specs.Plans.{all_vars}
use Rattle.pm_scenario.specs.declared.draft.Draft.{Draft}

-- numbers of 32 bits can count the classes, the variables and the agents
pub record IsFew (d : Draft) : Type 0 where
  pub classes : length d.classes < 2 ^ 32
  pub vars : length (all_vars d.classes) < 2 ^ 32
  pub agents : length d.agents < 2 ^ 32
