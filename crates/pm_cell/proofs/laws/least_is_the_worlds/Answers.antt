use Rattle.pm_cell.proofs.Waiting.{least_is}
use Rattle.pm_cell.proofs.laws.least_is_the_worlds.Goals as goal

pub returns : goal.returns
returns c = record { law = least_is }
