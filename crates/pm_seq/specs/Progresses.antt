-- Where a sequential run stands.
use Rattle.pm_plan.specs.declared.plan.Plan.{Plan}
use Rattle.pm_model.specs.declared.State.{State}

-- the plan that is run, and the state that the run has come to
pub record Progress : Type 0 where
  pub plan : Plan
  pub state : State
