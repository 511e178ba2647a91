use Rattle.std.proofs.Common.{refl}
use Rattle.pm_base.specs.Windows.{overlap}
use Rattle.pm_clp.proofs.laws.sample_commits.Goals as goal

pub returns : goal.returns
unfolding overlap
returns c = record {
  forgets = refl;
  keeps = refl;
  query_stays = refl;
  query_goes = refl;
}
