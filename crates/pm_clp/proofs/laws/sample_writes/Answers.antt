use Rattle.std.proofs.Common.{refl}
use Rattle.pm_base.specs.Windows.{overlap}
use Rattle.pm_clp.proofs.laws.sample_writes.Goals as goal

pub returns : goal.returns
unfolding overlap
returns c = record {
  late = refl;
  withdrawn = refl;
  early = refl;
  put_first = refl;
  cut_first = refl;
  again = refl;
  asked = refl;
  below = refl;
  own = refl;
}
