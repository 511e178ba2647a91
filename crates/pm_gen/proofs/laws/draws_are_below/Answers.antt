use Rattle.pm_gen.proofs.States.{draw_below}
use Rattle.pm_gen.proofs.laws.draws_are_below.Goals as goal

pub returns : goal.returns
returns c = draw_below
