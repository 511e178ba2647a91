-- What a lowest run comes to.
use Rattle.std.specs.Prelude.{ℕ, List, [], ◌≡◌}
use Rattle.pm_base.specs.declared.run.Event.{Event}
use Rattle.pm_kernel.specs.Runs.{left_by}
use Rattle.pm_plan.specs.declared.plan.Plan.{Plan}
use Rattle.pm_sim.specs.Journals.{made}
use Rattle.pm_sim.specs.Worlds.{mail}

-- as many deliveries were made as the budget has, and more is to be delivered
pub record IsBudgetSpent (budget : ℕ) (p : Plan) (j : List Event) : Type 0 where
  pub made_all : made j ≡ budget
  pub more : mail (left_by p j).links ≡ [] → ⊥
