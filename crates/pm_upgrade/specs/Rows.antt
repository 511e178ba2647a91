-- Which agents can be printed, and what reads back.
use Rattle.std.specs.Prelude.{◌≡◌, ◌^◌, ◌<◌, true, Ok}
use Rattle.pm_base.specs.Fits.{fits}
use Rattle.pm_plan.specs.declared.plan.AgentRow.{AgentRow}
use Rattle.pm_print.specs.Printed.{printed}
use Rattle.pm_rules.specs.Reading.{Table, class_rows}
use Rattle.pm_rules.specs.Rules.{parsed}

-- the agent's rule fits these classes, and its start fits an integer of a document
pub record IsPrintable (names : Table) (row : AgentRow) : Type 0 where
  pub fit : fits row.program (record { classes = class_rows names }) ≡ true
  pub start : row.start < 2 ^ 63

-- the printed form of the agent's rule is read as that rule
abbrev pub IsReadBack : Table → AgentRow → Type 0
IsReadBack names row = parsed names 2 (printed names row.program) ≡ Ok row.program
