use Rattle.std.proofs.Common.{refl}
use Rattle.pm_base.specs.Windows.{overlap}
use Rattle.pm_clp.proofs.laws.sample_moves.Goals as goal

pub returns : goal.returns
unfolding overlap
returns c = record {
  drawn = refl;
  stays = refl;
  goes_on = refl;
  cut_goes_on = refl;
  floor = refl;
  passes = refl;
  arrives = refl;
}
