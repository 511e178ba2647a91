use Rattle.pm_core.proofs.LinkLaws.{links_are}
use Rattle.pm_core.proofs.laws.links_are_the_worlds.Goals as goal

pub returns : goal.returns
returns c = record { law = links_are }
