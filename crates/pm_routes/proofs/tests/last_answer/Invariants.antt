use Rattle.std.proofs.Common.{◌≡◌, Some}
use Rattle.pm_routes.specs.declared.way.Way.TheVariants as way
use Rattle.pm_routes.specs.Routings.{way_at}
use Rattle.pm_routes.proofs.tests.last_answer.Given as goal

abbrev pub invariant-loop-from : goal.invariant-loop-from
invariant-loop-from l = way_at l.routes 0 ≡ Some way.Here
