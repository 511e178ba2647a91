use Rattle.std.proofs.Common.{refl}
use Rattle.pm_periods.proofs.laws.sample_record.Goals as goal

pub returns : goal.returns
returns c = record { reads = refl; writes = refl; unseen = refl; withdraws = refl; known = refl; value = refl; periods = refl; tie = refl; trims = refl }
