use Rattle.std.proofs.Common.{refl}
use Rattle.pm_base.specs.Windows.{overlap}
use Rattle.pm_clp.proofs.laws.sample_queries.Goals as goal

pub returns : goal.returns
unfolding overlap
returns c = record {
  goes_on = refl;
  pruned = refl;
  too_late = refl;
  caught_up = refl;
  once = refl;
  nothing_new = refl;
  known = refl;
  not_last = refl;
  last = refl;
  not_twice = refl;
  inverted = refl;
  empty = refl;
}
