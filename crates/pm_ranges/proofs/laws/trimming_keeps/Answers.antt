use Rattle.pm_ranges.proofs.Grows.{trimming-keeps}
use Rattle.pm_ranges.proofs.laws.trimming_keeps.Goals as goal

pub returns : goal.returns
returns c = trimming-keeps
