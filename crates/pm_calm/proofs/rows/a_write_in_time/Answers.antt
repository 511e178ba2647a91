use Rattle.pm_calm.proofs.Computed.{late_write_row}
use Rattle.pm_calm.proofs.rows.a_write_in_time.Goals as goal

pub returns : goal.returns
returns c = record { run = late_write_row }
