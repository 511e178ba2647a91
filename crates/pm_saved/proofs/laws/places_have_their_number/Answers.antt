use Rattle.pm_saved.proofs.KeptLaws.{find-stands}
use Rattle.pm_saved.proofs.laws.places_have_their_number.Goals as goal

pub returns : goal.returns
returns c = find-stands c.args.num
