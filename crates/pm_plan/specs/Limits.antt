-- How large a plan may be.
use Rattle.std.specs.Prelude.{◌≤◌, length}
use Rattle.pm_base.specs.Layouts.{IsLayout}
use Rattle.pm_plan.specs.declared.plan.Plan.{Plan}

-- the numbers of a plan are within their limits, and its classes follow one another
pub record IsWithinLimits (plan : Plan) : Type 0 where
  pub horizon : plan.horizon ≤ 1000000000000
  pub clps : length plan.clps ≤ 64
  pub classes : length plan.layout.classes ≤ 64
  pub vars : length plan.vars ≤ 4096
  pub agents : length plan.agents ≤ 1024
  pub layout : IsLayout plan.layout
