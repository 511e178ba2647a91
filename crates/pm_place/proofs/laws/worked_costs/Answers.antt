use Rattle.std.proofs.Common.{refl}
use Rattle.std.specs.Fmt.{digits}
use Rattle.pm_place.proofs.Worked.{one_at_east, one_at_root, one_at_west, two_at_east, two_at_root, two_at_west}
use Rattle.pm_place.proofs.laws.worked_costs.Goals as goal

pub returns-clause-root : goal.returns-clause-root
returns-clause-root c = two_at_root

pub returns-clause-west : goal.returns-clause-west
returns-clause-west c = two_at_west

pub returns-clause-east : goal.returns-clause-east
returns-clause-east c = two_at_east

pub returns-clause-text : goal.returns-clause-text
unfolding digits
returns-clause-text c = refl

pub returns-clause-tie_at_root : goal.returns-clause-tie_at_root
returns-clause-tie_at_root c = one_at_root

pub returns-clause-tie_at_west : goal.returns-clause-tie_at_west
returns-clause-tie_at_west c = one_at_west

pub returns-clause-tie_at_east : goal.returns-clause-tie_at_east
returns-clause-tie_at_east c = one_at_east
