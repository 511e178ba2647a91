use Rattle.pm_calm.proofs.Goings.{least_link_is}
use Rattle.pm_calm.proofs.laws.the_least_link.Goals as goal

pub returns : goal.returns
returns c = record { least = least_link_is }
