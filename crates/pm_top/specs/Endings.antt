-- How a call of the program may end.
use Rattle.std.specs.Prelude.{ℕ, List, [], ◌++◌, codes, decimal}
use Rattle.pm_kernel.specs.declared.ran.Outcome.{Outcome}
use Rattle.pm_kernel.specs.declared.ran.Outcome.TheVariants as outcome
use Rattle.pm_top.specs.Refusals.{refusal}
use Rattle.pm_top.specs.declared.outcome.Ending.{Ending}
use Rattle.pm_top.specs.declared.outcome.Ending.TheVariants as ending

-- how a call ends whose run came to this
abbrev pub ending_of : Outcome → Ending
ending_of outcome.Done = ending.Done
ending_of outcome.BudgetSpent = ending.BudgetSpent
ending_of outcome.WriteFault = ending.WriteFault
ending_of outcome.Memory = ending.Memory

-- the status that the program ends with
abbrev pub status_of : Ending → ℕ
status_of ending.Done = 0
status_of ending.Words = 1
status_of (ending.Refused f) = 2
status_of ending.TooLong = 2
status_of ending.BudgetSpent = 3
status_of ending.ReadFault = 4
status_of ending.WriteFault = 5
status_of ending.Memory = 6
status_of (ending.Illegal line) = 7
status_of (ending.Retired agent) = 8
status_of ending.InputTooLong = 2

-- the line that is said of it
abbrev pub error_line : Ending → List ℕ
error_line ending.Done = []
error_line ending.Words = codes "pdesmas: the words are not understood\n"
error_line (ending.Refused f) = codes "pdesmas: scenario: " ++ refusal f
error_line ending.TooLong = codes "pdesmas: the scenario is longer than 4194304 bytes\n"
error_line ending.BudgetSpent = codes "pdesmas: the budget is spent\n"
error_line ending.ReadFault = codes "pdesmas: the input cannot be read\n"
error_line ending.WriteFault = codes "pdesmas: the output cannot be written\n"
error_line ending.Memory = codes "pdesmas: out of memory\n"
error_line (ending.Illegal line) = (codes "pdesmas: journal: line " ++ decimal line) ++ codes "\n"
error_line ending.InputTooLong = codes "pdesmas: the input is longer than 67108864 bytes\n"
error_line (ending.Retired agent) = (codes "pdesmas: cut: agent " ++ decimal agent) ++ codes " is retired\n"

-- the endings that a scenario alone can have
abbrev pub Accepts : Ending → Type 0
Accepts ending.Done = Unit {0}
Accepts ending.BudgetSpent = Unit {0}
Accepts ending.WriteFault = Unit {0}
Accepts (ending.Retired agent) = Unit {0}
Accepts (ending.Illegal line) = Unit {0}
Accepts _ = ⊥
