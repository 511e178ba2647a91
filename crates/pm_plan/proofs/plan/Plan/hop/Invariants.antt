use Rattle.pm_plan.specs.Plans.{parents}
use Rattle.pm_plan.proofs.Walks.{Reaches, height}
use Rattle.pm_plan.proofs.plan.Plan.hop.Given as goal

abbrev pub invariant-loop-above : goal.invariant-loop-above
invariant-loop-above l = Reaches (parents l.clps) l.from l.to l.below

abbrev pub decreases-loop-above : goal.decreases-loop-above
decreases-loop-above l = height (parents l.clps) l.below
