-- How a run goes on, from one Commit to the next.
use Rattle.std.specs.Prelude.{IfSome, List, Option, ℕ, ◌++◌, ◌+◌, ◌≡◌, Bool, [], false, length}
use Rattle.pm_base.specs.declared.rows.Entry.{Entry}
use Rattle.pm_base.specs.declared.run.Event.{Event}
use Rattle.pm_base.specs.declared.run.RunSettings.{RunSettings}
use Rattle.pm_base.specs.declared.stamp.Line.{Line}
use Rattle.pm_base.specs.declared.stamp.Line.TheVariants as line
use Rattle.pm_kernel.specs.Runs.{IsJournal, LeadTo, left_by}
use Rattle.pm_plan.specs.declared.plan.Plan.{Plan}
use Rattle.pm_sim.specs.Journals.{epoch, made}
use Rattle.pm_sim.specs.Ready.{IsAbove}
use Rattle.pm_sim.specs.Worlds.{World, after_events, committed, handed, least_line, mail}

-- a run: its plan, its events so far, and whether memory was wanting
pub record RunView : Type 0 where
  pub plan : Plan
  pub journal : List Event
  pub spoilt : Bool

-- the run of a plan before its first event
abbrev pub first_run : Plan → RunView
first_run p = record { plan = p; journal = []; spoilt = false }

-- the world that it has come to
abbrev pub world_of : RunView → World
world_of v = left_by v.plan v.journal

-- so many deliveries were made, each let through by the window, with a Commit at the least line behind them, which handed
-- these entries out
pub record HasStaged (k : Option Line) (n : ℕ) (es : List Entry) (old new : RunView) : Type 0 where
  pub events : List Event
  pub count : length events ≡ n
  pub lead : LeadTo old.plan k (world_of old) events (after_events old.plan (world_of old) events)
  pub journal : new.journal ≡ old.journal ++ epoch old.plan (world_of old) events
  pub plan : new.plan ≡ old.plan
  pub well : new.spoilt ≡ false
  pub entries : es ≡ handed (after_events old.plan (world_of old) events)
      (least_line (after_events old.plan (world_of old) events))

-- where the window is above the least line, nothing is left to be delivered
abbrev pub IsMoved : Option Line → RunView → Type 0
IsMoved k v = IfSome k (λ l. IsAbove l (least_line (world_of v))) → mail (world_of v).links ≡ []

-- a run of this plan keeps to the settings
pub record StandsAt (p : Plan) (s : RunSettings) (v : RunView) : Type 0 where
  pub journal : IsJournal p s v.journal
  pub plan : v.plan ≡ p
  pub well : v.spoilt ≡ false

-- the journal still keeps to the settings, and has committed these entries more
pub record HasCommitted (p : Plan) (s : RunSettings) (old new : RunView) (es : List Entry) : Type 0 where
  pub journal : IsJournal p s new.journal
  pub entries : committed p new.journal ≡ committed p old.journal ++ es

-- it went on to another Commit, with so many deliveries more
pub record IsMore (p : Plan) (s : RunSettings) (n : ℕ) (old new : RunView) : Type 0 where
  pub stands : StandsAt p s new
  pub made_more : made new.journal ≡ made old.journal + n
  pub begun : new.journal ≡ [] → ⊥

-- it stands at its begin: no delivery was made, and there was a Commit where a window is given, or nothing is left
pub record HasStarted (p : Plan) (s : RunSettings) (v : RunView) : Type 0 where
  pub stands : StandsAt p s v
  pub none : made v.journal ≡ 0
  pub begun : IfSome s.window (λ _. v.journal ≡ [] → ⊥)
  pub over : least_line (world_of v) ≡ line.End → v.journal ≡ [] → ⊥
