-- What a run of the kernel comes to.
use Rattle.std.specs.Prelude.{IfSome, List, Option, Some, [], true, false, ℕ, ◌-◌, ◌<◌, ◌^◌, ◌++◌, ◌∷◌, ◌≡◌, ◌≤◌, ◌⊎◌}
use Rattle.std.specs.Io.KnownBytes.{Appends}
use Rattle.pm_base.specs.declared.rows.Entry.{Entry}
use Rattle.pm_base.specs.declared.run.Event.{Event}
use Rattle.pm_base.specs.declared.run.RunSettings.{RunSettings}
use Rattle.pm_base.specs.declared.stamp.Line.{Line}
use Rattle.pm_base.specs.declared.stamp.Stamp.{Stamp}
use Rattle.pm_io.specs.Causes.{AppendsPart, AppendsPrefix}
use Rattle.pm_message.specs.declared.Message.{Message}
use Rattle.pm_model.specs.Traces.{trace_text}
use Rattle.pm_plan.specs.declared.plan.Plan.{Plan}
use Rattle.pm_sim.specs.Bounds.{between}
use Rattle.pm_sim.specs.Journals.{Delivers, Journal, made}
use Rattle.pm_sim.specs.Ready.{InWindow, IsAbove, held_back, window_at}
use Rattle.pm_sim.specs.Sims.{is_past}
use Rattle.pm_sim.specs.Worlds.{World, after_event, after_events, committed, first_world, is_legal_run, mail, process}
use Rattle.pm_base.specs.declared.run.Event.TheVariants as event
use Rattle.pm_kernel.specs.declared.ran.Outcome.{Outcome}
use Rattle.pm_kernel.specs.declared.ran.Outcome.TheVariants as outcome
use Rattle.pm_base.specs.declared.stamp.Line.TheVariants as line

-- the world that a journal leaves
abbrev pub left_by : Plan → List Event → World
left_by p j = after_events p (first_world p) j

-- the text of what a journal commits
abbrev pub text_of : Plan → List Event → List ℕ
text_of p j = trace_text p (committed p j)

-- it is empty, or its first event is a Commit
abbrev pub BeginsClosed : List Event → Type 0
BeginsClosed [] = Unit {0}
BeginsClosed (event.Deliver to from ∷ es) = ⊥
BeginsClosed (event.Commit l ∷ es) = Unit {0}

-- a journal that keeps to its settings: at most so many deliveries in all and between two Commits, each Commit at the
-- least line, one at the end; and with a window a Commit first, and no awaited Wake delivered past the window
pub record IsJournal (p : Plan) (s : RunSettings) (j : List Event) : Type 0 where
  pub few : made j ≤ s.budget
  pub journal : Journal p s.epoch (made j) (first_world p) j
  pub window : IfSome s.window (λ width. BeginsClosed j × InWindow width p (first_world p) j)

-- nothing is left to be delivered, and all is committed
pub record IsDone (p : Plan) (j : List Event) : Type 0 where
  pub none : mail (left_by p j).links ≡ []
  pub line : (left_by p j).line ≡ line.End

-- as many deliveries were made as the budget has, and more is to be delivered
pub record IsSpent (p : Plan) (s : RunSettings) (j : List Event) : Type 0 where
  pub made_all : made j ≡ s.budget
  pub more : mail (left_by p j).links ≡ [] → ⊥

-- each delivery takes a message that the window lets through
abbrev pub AreLetThrough : Plan → Option Line → World → List Event → Type 0
AreLetThrough p k w [] = Unit {0}
AreLetThrough p k w (event.Deliver to from ∷ es) =
    ((m : Message) (rest : List Message) → between (process p to) (process p from) w.links ≡ m ∷ rest
    → held_back w (λ _. k) (process p to) m ≡ false)
    × AreLetThrough p k (after_event p w (event.Deliver to from)) es
AreLetThrough p k w (event.Commit l ∷ es) = AreLetThrough p k (after_event p w (event.Commit l)) es

-- deliveries that lead from one world to another, each legal where it stands and let through by the window
pub record LeadTo (p : Plan) (k : Option Line) (w : World) (ds : List Event) (v : World) : Type 0 where
  pub delivers : Delivers ds
  pub legal : is_legal_run p w ds ≡ true
  pub through : AreLetThrough p k w ds
  pub world : v ≡ after_events p w ds

-- each stamp below the one line is below the other
abbrev pub IsWithin : Line → Line → Type 0
IsWithin k l = (s : Stamp) → is_past k s ≡ true → is_past l s ≡ true

-- the line's time isn't the last of 64 bits
abbrev pub IsTimelyLine : Line → Type 0
IsTimelyLine (line.At s) = s.time < 2 ^ 64 - 1
IsTimelyLine line.End = Unit {0}

-- what was written of a journal that grew to this one: the lines of what it has committed more, all of them where the
-- run ended by itself, and not all of them where a write failed
pub record HasRun (p : Plan) (a b : Option (List ℕ)) (old new : List Event) (o : Outcome) : Type 0 where
  pub entries : List Entry
  pub more : committed p new ≡ committed p old ++ entries
  pub whole : (o ≡ outcome.Done) ⊎ (o ≡ outcome.BudgetSpent) → Appends a b (trace_text p entries)
  pub part : AppendsPrefix a b (trace_text p entries)
  pub lacks : o ≡ outcome.WriteFault → AppendsPart a b (trace_text p entries)
