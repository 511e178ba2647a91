-- How a lowest run goes on, one event after another.
use Rattle.std.specs.Prelude.{ℕ, ◌<◌, false, true, List, [], ◌∷◌, ◌++◌, ◌≡◌, Option, Some, None, Result, Ok, Err}
use Rattle.std.specs.Io.KnownBytes.{Appends}
use Rattle.pm_base.specs.declared.rows.Entry.{Entry}
use Rattle.pm_base.specs.declared.run.Event.{Event}
use Rattle.pm_base.specs.declared.run.Event.TheVariants as event
use Rattle.pm_calm.specs.Lowest.{LowestRun, PartOfLowest, Underway, commits, is_begun, least_link}
use Rattle.pm_core.specs.Views.{committed as world_committed, has_mail}
use Rattle.pm_io.specs.Causes.{AppendsPart, AppendsPrefix}
use Rattle.pm_kernel.specs.Counts.{counted_on, no_counts}
use Rattle.pm_kernel.specs.Runs.{IsDone}
use Rattle.pm_kernel.specs.declared.ran.Outcome.{Outcome}
use Rattle.pm_kernel.specs.declared.ran.Outcome.TheVariants as outcome
use Rattle.pm_kernel.specs.declared.writing.Counts.{Counts}
use Rattle.pm_lowest.specs.Runs.{IsBudgetSpent}
use Rattle.pm_lowest.specs.declared.course.Course.{Course}
use Rattle.pm_model.specs.Traces.{trace_text}
use Rattle.pm_plan.specs.declared.plan.Plan.{Plan}
use Rattle.pm_sim.specs.Worlds.{committed, least_line, mail}

-- a Commit was made at the least line, and noted
pub record HasClosed (old new : Course) : Type 0 where
  pub world : new.world ≡ world_committed old.world (least_line old.world.world)
  pub journal : new.journal.items ≡ old.journal.items ++ event.Commit (least_line old.world.world) ∷ []

-- the lowest run with this budget goes on behind its events so far
pub record IsUnderway (p : Plan) (most : ℕ) (c : Course) : Type 0 where
  pub plan : c.world.plan ≡ p
  pub budget : c.budget ≡ most
  pub well : c.world.spoilt ≡ false
  pub going : Underway most p c.world.made c.world.world c.journal.items

-- no Commit comes first, and this link is the least one
pub record IsNext (p : Plan) (c : Course) (to from : ℕ) : Type 0 where
  pub not_due : commits (is_begun c.journal.items) c.world.world ≡ false
  pub link : least_link p c.world.world ≡ Some (to, from)
  pub mail : has_mail c.world to from ≡ true

-- how a run ended, none where it goes on
abbrev pub ended : {T : Type 0} → Result T Outcome → Option Outcome
ended (Ok x) = None
ended (Err o) = Some o

-- it goes on, or ended by itself
abbrev pub WentWell : Option Outcome → Type 0
WentWell None = Unit {0}
WentWell (Some outcome.Done) = Unit {0}
WentWell (Some outcome.BudgetSpent) = Unit {0}
WentWell (Some outcome.WriteFault) = ⊥
WentWell (Some outcome.Memory) = ⊥

-- the counts are those of all that these events have committed
abbrev pub CountsAll : Plan → Counts → List Event → Type 0
CountsAll p x j = x ≡ counted_on no_counts (committed p j)

-- what was written and counted while the events grew to these: the lines of what they have committed more, all of them
-- where it went well, and not all of them where a write failed
pub record HasWritten (p : Plan) (x y : Counts) (a b : Option (List ℕ)) (old new : List Event) (o : Option Outcome)
    : Type 0 where
  pub entries : List Entry
  pub more : committed p new ≡ committed p old ++ entries
  pub whole : WentWell o → Appends a b (trace_text p entries)
  pub counts : CountsAll p x old → WentWell o → CountsAll p y new
  pub part : AppendsPrefix a b (trace_text p entries)
  pub lacks : o ≡ Some outcome.WriteFault → AppendsPart a b (trace_text p entries)

-- the lowest run with this budget begins with these events, and is these where it ended by itself
pub record HasCome (p : Plan) (budget : ℕ) (j : List Event) (o : Option Outcome) : Type 0 where
  pub part : PartOfLowest budget p j
  pub done_run : o ≡ Some outcome.Done → LowestRun budget p j
  pub done : o ≡ Some outcome.Done → IsDone p j
  pub spent_run : o ≡ Some outcome.BudgetSpent → LowestRun budget p j
  pub spent : o ≡ Some outcome.BudgetSpent → IsBudgetSpent budget p j
