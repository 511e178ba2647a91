use Rattle.pm_core.specs.Leasts.{IsBest}
use Rattle.pm_core.proofs.fronts.least_front.Given as goal

abbrev pub invariant-loop-to : goal.invariant-loop-to
invariant-loop-to l = IsBest l.mail l.clps l.to l.best
