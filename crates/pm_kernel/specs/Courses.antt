-- How a run on one thread goes on.
use Rattle.std.specs.Prelude.{Bool, List, Option, ℕ, ◌++◌, ◌+◌, ◌<◌, ◌≡◌, false, true, length}
use Rattle.pm_base.specs.declared.run.Event.{Event}
use Rattle.pm_base.specs.declared.stamp.Line.{Line}
use Rattle.pm_core.specs.Picks.{IsHeld}
use Rattle.pm_core.specs.Views.{WorldView}
use Rattle.pm_kernel.specs.Engines.{RunView}
use Rattle.pm_kernel.specs.Runs.{LeadTo, left_by}
use Rattle.pm_sim.specs.Journals.{made}
use Rattle.pm_sim.specs.Worlds.{clps_of, first_world, is_legal_run}
use Rattle.pm_kernel.specs.declared.course.Course.{Course}

-- these deliveries were made, each let through by the window, and noted
pub record HasGone (k : Option Line) (ds : List Event) (old new : Course) : Type 0 where
  pub lead : LeadTo old.world.plan k old.world.world ds new.world.world
  pub plan : new.world.plan ≡ old.world.plan
  pub made : new.world.made ≡ old.world.made + length ds
  pub spoilt : new.world.spoilt ≡ old.world.spoilt
  pub journal : new.journal.items ≡ old.journal.items ++ ds

-- so many deliveries were made, each let through by the window, and noted
pub record WentOn (k : Option Line) (n : ℕ) (old new : Course) : Type 0 where
  pub events : List Event
  pub count : length events ≡ n
  pub gone : HasGone k events old new

-- the events so far stand first in the journal
abbrev pub Extends : Course → Course → Type 0
Extends old new = (more : List Event) × (new.journal.items ≡ old.journal.items ++ more)

-- the window holds each message for the first processes back
abbrev pub AreHeld : Option Line → ℕ → Course → Type 0
AreHeld k n c = (i : ℕ) → i < n → IsHeld c.world k i

-- it has all processes of its plan
pub record IsCounted (c : Course) : Type 0 where
  pub all : c.count ≡ clps_of c.world.plan + length c.world.plan.agents
  pub stirred : c.stirred.count ≡ c.count

-- as many processes as before
pub record SameCount (old new : Course) : Type 0 where
  pub all : new.count ≡ old.count
  pub stirred : new.stirred.count ≡ old.stirred.count

-- the world, the journal and how many processes there are stayed as they were
pub record IsUntouched (old new : Course) : Type 0 where
  pub world : new.world ≡ old.world
  pub journal : new.journal ≡ old.journal
  pub count : SameCount old new

-- the journal of a world: legal events that led to it, with as many deliveries
pub record Stood (v : WorldView) (j : List Event) : Type 0 where
  pub legal : is_legal_run v.plan (first_world v.plan) j ≡ true
  pub world : v.world ≡ left_by v.plan j
  pub made_all : v.made ≡ made j
  pub well : v.spoilt ≡ false

-- a run on one thread: its journal led to its world, unless memory was wanting; and it has all processes
pub record IsAlone (c : Course) (spoilt : Bool) : Type 0 where
  pub count : IsCounted c
  pub stood : spoilt ≡ false → Stood c.world c.journal.items

-- what contracts see of it
abbrev pub run_of : Course → Bool → RunView
run_of c spoilt = record { plan = c.world.plan; journal = c.journal.items; spoilt = spoilt }
