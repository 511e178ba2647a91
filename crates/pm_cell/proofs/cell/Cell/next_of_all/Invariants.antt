use Rattle.pm_cell.proofs.Choices.{IsChosen}
use Rattle.pm_cell.proofs.cell.Cell.next_of_all.Given as goal

abbrev pub invariant-loop-at : goal.invariant-loop-at
invariant-loop-at l = IsChosen l.self l.at l.next
