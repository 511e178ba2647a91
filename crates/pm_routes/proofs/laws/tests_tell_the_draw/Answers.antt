use Rattle.pm_routes.proofs.Draws.{is_drawn-is}
use Rattle.pm_routes.proofs.laws.tests_tell_the_draw.Goals as goal

pub returns : goal.returns
returns c = is_drawn-is
