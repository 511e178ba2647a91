use Rattle.std.proofs.Common.{refl}
use Rattle.std.specs.Fmt.{digits}
use Rattle.pm_gen.specs.Draws.{draw, next_state, state_after}
use Rattle.pm_gen.specs.Generated.{agents, cells, classes, clps, generated, marks, name_of}
use Rattle.pm_plan.specs.Numbers.{number_of}
use Rattle.pm_plan.specs.Plans.{numbered}
use Rattle.pm_gen.proofs.laws.scenario_of_one.Goals as goal

pub returns : goal.returns
unfolding draw next_state state_after agents cells clps generated classes marks name_of digits number_of numbered
returns c = record {
  first = refl;
  tree = refl;
  places = refl;
  xs = refl;
  ys = refl;
  homes = refl;
  starts = refl;
  rules = refl;
}
