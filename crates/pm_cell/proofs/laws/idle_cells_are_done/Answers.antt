use Rattle.pm_cell.proofs.Idling.{idle_done}
use Rattle.pm_cell.proofs.laws.idle_cells_are_done.Goals as goal

pub returns : goal.returns
returns c = record { law = idle_done }
