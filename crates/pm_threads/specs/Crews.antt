-- A run on threads, as it goes.
use Rattle.std.specs.Prelude.{ℕ, ◌+◌, ◌≤◌, ◌≡◌, Bool, false, true, List, [], ◌∷◌, ◌++◌, length, Option}
use Rattle.pm_base.specs.declared.rows.Entry.{Entry}
use Rattle.pm_base.specs.declared.run.Event.{Event}
use Rattle.pm_base.specs.declared.run.Event.TheVariants as event
use Rattle.pm_base.specs.declared.stamp.Line.{Line}
use Rattle.pm_cell.specs.Helds.{Held, views}
use Rattle.pm_ends.specs.Numbers.{Pairs}
use Rattle.pm_cell.specs.Stands.{AreIdle, AreSound, CellCame, HeardNothing, StandAt}
use Rattle.pm_cell.specs.Views.{Settled, nobody, told}
use Rattle.pm_kernel.specs.Engines.{RunView}
use Rattle.pm_kernel.specs.Runs.{LeadTo, left_by}
use Rattle.pm_plan.specs.Plans.{IsValid}
use Rattle.pm_plan.specs.declared.plan.Plan.{Plan}
use Rattle.pm_sim.specs.Journals.{made}
use Rattle.pm_sim.specs.Worlds.{after_events, first_world, handed, is_legal_run, least_line}

-- what contracts see of a run
abbrev pub run_of : Plan → List Event → Bool → RunView
run_of p j spoilt = record { plan = p; journal = j; spoilt = spoilt }

-- legal events led to the world that the settled cells stand for
pub record Stands (p : Plan) (j : List Event) (cells : List Held) : Type 0 where
  pub legal : is_legal_run p (first_world p) j ≡ true
  pub stands : StandAt p (made j) (left_by p j) (views cells)
  pub settled : Settled nobody (views cells)

-- and nothing was heard since the last of them, a Commit, or since the begin
pub record Stays (p : Plan) (j : List Event) (cells : List Held) : Type 0 where
  pub stand : Stands p j cells
  pub quiet : HeardNothing (views cells)

-- a run: its plan is valid, it has workers, and so it stays unless memory was wanting
pub record IsCrew (p : Plan) (workers hands : ℕ) (cells : List Held) (j : List Event) (spoilt : Bool) : Type 0 where
  pub valid : IsValid p
  pub some : 1 ≤ workers
  pub has : 1 ≤ hands
  pub stays : spoilt ≡ false → Stays p j cells

-- the cell with this window
abbrev pub windowed : Option Line → Held → Held
windowed k c = record c { window = k }

-- workers gave cells turns, in which so many deliveries were made and memory wasn't wanting; where there was none though
-- there might have been, each cell is idle
pub record Worked (quota n : ℕ) (old new : List Held) : Type 0 where
  pub came : Pairs CellCame (views old) (views new)
  pub sound : AreSound (views new)
  pub made_all : told (views old) + n ≡ told (views new)
  pub most : n ≤ quota
  pub idle : 1 ≤ quota → n ≡ 0 → AreIdle (views new)

-- so many deliveries were made, each let through by the window, and noted
pub record WentOn (p : Plan) (k : Option Line) (n : ℕ) (old new : List Event) : Type 0 where
  pub events : List Event
  pub count : length events ≡ n
  pub lead : LeadTo p k (left_by p old) events (after_events p (left_by p old) events)
  pub journal : new ≡ old ++ events

-- there was a Commit at the least line, which handed these entries out
pub record HasClosed (p : Plan) (es : List Entry) (old new : List Event) : Type 0 where
  pub journal : new ≡ old ++ event.Commit (least_line (left_by p old)) ∷ []
  pub entries : es ≡ handed (left_by p old) (least_line (left_by p old))

-- the one list goes on as the other
abbrev pub Extends : List Event → List Event → Type 0
Extends old new = (more : List Event) × (new ≡ old ++ more)
