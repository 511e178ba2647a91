-- Worked rows of playing from a plan's first world.
use Rattle.std.specs.Prelude.{◌≡◌, List, None}
use Rattle.pm_base.specs.declared.rows.Entry.{Entry}
use Rattle.pm_base.specs.declared.run.Event.{Event}
use Rattle.pm_plan.specs.declared.plan.Plan.{Plan}
use Rattle.pm_sim.specs.Played.{play}
use Rattle.pm_sim.specs.Worlds.{first_world}

-- these events are legal from the plan's first world, and hand out these entries
pub record PlaysTo (p : Plan) (es : List Event) (entries : List Entry) : Type 0 where
  pub whole : (play p (first_world p) es).stopped ≡ None
  pub handed : (play p (first_world p) es).entries ≡ entries
