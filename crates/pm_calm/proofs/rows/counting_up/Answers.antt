use Rattle.pm_calm.proofs.Computed.{counting_row}
use Rattle.pm_calm.proofs.rows.counting_up.Goals as goal

pub returns : goal.returns
returns c = record { run = counting_row }
