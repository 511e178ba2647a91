use Rattle.pm_periods.specs.Records.{record_value}
use Rattle.pm_periods.proofs.Hits.{is_stale-tells}
use Rattle.pm_periods.proofs.laws.stale_reads_are_told.Goals as goal

pub returns : goal.returns
returns c = is_stale-tells (record_value c.args.parts.now) c.args.read.now
