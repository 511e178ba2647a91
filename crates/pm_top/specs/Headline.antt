-- What the program promises of a call.
use Rattle.std.specs.Prelude.{◌≡◌, ◌≢◌, ◌⊎◌, ℕ, ◌<◌, ◌≤◌, Bool, true, false}
use Rattle.std.specs.Prelude.{List, [], length, Option, None, IfSome, Ok, Err}
use Rattle.std.specs.Io.KnownBytes.{Appends, IsAtEnd}
use Rattle.pm_base.specs.declared.run.Event.{Event}
use Rattle.pm_calm.specs.Lowest.{lowest}
use Rattle.pm_io.specs.Causes.{AppendsPrefix, Rose}
use Rattle.pm_kernel.specs.Runs.{left_by}
use Rattle.pm_model.specs.Runs.{sequential_run}
use Rattle.pm_plan.specs.declared.plan.Plan.{Plan}
use Rattle.pm_resume.specs.Cuts.{cut_of}
use Rattle.pm_scenario.specs.Scenarios.{plan_of}
use Rattle.pm_scenario.specs.declared.fault.ScenarioFault.{ScenarioFault}
use Rattle.pm_sim.specs.Worlds.{mail}
use Rattle.pm_top.specs.Endings.{Accepts, error_line}
use Rattle.pm_top.specs.Printed.{PrintedOf}
use Rattle.pm_top.specs.Readings.{IsAccepted, IsLongInput, IsLongScenario, IsRefused, IsTakenAtMost, IsUnfit, longest}
use Rattle.pm_top.specs.Speech.{Fails, SinkSight}
use Rattle.pm_top.specs.declared.outcome.Ending.{Ending}
use Rattle.pm_top.specs.declared.outcome.Ending.TheVariants as ending
use Rattle.pm_words.specs.Words.{reads}
use Rattle.pm_words.specs.declared.settings.Mode.{Mode}
use Rattle.pm_words.specs.declared.settings.Mode.TheVariants as mode
use Rattle.pm_words.specs.declared.settings.Settings.{Settings}

-- a plan of which the mode's work ends within the budget: in modes `seq` and `place` one of at most as many steps, in
-- modes `check` and `upgrade` each, in mode `cut` one that can be cut, in mode `lowest` one whose lowest run leaves no
-- message; in modes `run` and `demo` no budget is said to be enough, and in mode `replay` a journal may be illegal
abbrev pub IsEnough : Mode → Settings → Plan → Type 0
IsEnough mode.Seq s p = length (sequential_run p) ≤ s.run.budget
IsEnough mode.Check s p = Unit {0}
IsEnough mode.Run s p = ⊥
IsEnough mode.Demo s p = ⊥
IsEnough mode.Upgrade s p = Unit {0}
IsEnough mode.Place s p = length (sequential_run p) ≤ s.run.budget
IsEnough mode.Replay s p = ⊥
IsEnough mode.Lowest s p = mail (left_by p (lowest s.run.budget p)).links ≡ []
IsEnough mode.Cut s p = (q : Plan) × (cut_of p s.from s.run.budget ≡ Ok q)

-- the mode's work can spend a budget
abbrev pub HasBudget : Mode → Type 0
HasBudget mode.Check = ⊥
HasBudget mode.Upgrade = ⊥
HasBudget mode.Replay = ⊥
HasBudget _ = Unit {0}

-- the mode has a run of the core, which the journal tells
abbrev pub HasRun : Mode → Type 0
HasRun mode.Run = Unit {0}
HasRun mode.Demo = Unit {0}
HasRun mode.Replay = Unit {0}
HasRun mode.Lowest = Unit {0}
HasRun _ = ⊥

-- a scenario of which the mode's work ends within the budget
pub record IsWithin (s : Settings) (b : List ℕ) : Type 0 where
  pub scenario : IsAccepted s.mode b
  pub enough : IsEnough s.mode s scenario.plan

-- the endings of a scenario's call whose devices do not fail
abbrev pub Completes : Ending → Type 0
Completes ending.Done = Unit {0}
Completes ending.BudgetSpent = Unit {0}
Completes ending.Memory = Unit {0}
Completes (ending.Retired agent) = Unit {0}
Completes (ending.Illegal line) = Unit {0}
Completes _ = ⊥

-- the endings of a run, which begins with the whole input
abbrev pub EndsRun : Ending → Type 0
EndsRun ending.Done = Unit {0}
EndsRun (ending.Refused f) = Unit {0}
EndsRun ending.BudgetSpent = Unit {0}
EndsRun ending.WriteFault = Unit {0}
EndsRun ending.Memory = Unit {0}
EndsRun (ending.Retired agent) = Unit {0}
EndsRun (ending.Illegal line) = Unit {0}
EndsRun _ = ⊥

-- the endings at which nothing was written to out
abbrev pub WritesNothing : Ending → Type 0
WritesNothing ending.Words = Unit {0}
WritesNothing (ending.Refused f) = Unit {0}
WritesNothing ending.TooLong = Unit {0}
WritesNothing ending.InputTooLong = Unit {0}
WritesNothing ending.ReadFault = Unit {0}
WritesNothing _ = ⊥

-- the endings at which the input was read to its end
abbrev pub ReadsAll : Ending → Type 0
ReadsAll ending.Done = Unit {0}
ReadsAll (ending.Refused f) = Unit {0}
ReadsAll ending.BudgetSpent = Unit {0}
ReadsAll ending.WriteFault = Unit {0}
ReadsAll (ending.Retired agent) = Unit {0}
ReadsAll (ending.Illegal line) = Unit {0}
ReadsAll _ = ⊥

-- this line was offered: all of it was taken, or a prefix where the sink failed
abbrev pub Offers : SinkSight → SinkSight → List ℕ → Type 0
Offers old new line = Appends old.holds new.holds line ⊎ (AppendsPrefix old.holds new.holds line × Fails old new)

-- what contracts see of a source: the bytes that it holds, where it tells them, and its count of faults
pub record SourceSight : Type 0 where
  pub held : Option (List ℕ)
  pub faults : ℕ

-- what is held, where it is read
abbrev pub given_where : Bool → Option (List ℕ) → Option (List ℕ)
given_where true held = held
given_where false held = None

-- the text that a call is given: what the input holds at its entry, and none where the mode doesn't read it
abbrev pub given : Mode → Option (List ℕ) → Option (List ℕ)
given m held = given_where (reads m) held

-- a call: its settings, none where the words are refused, how it ended with which journal, and its devices before and
-- after
pub record Call : Type 0 where
  pub settings : Option Settings
  pub ending : Ending
  pub journal : List Event
  pub input : SourceSight
  pub input_after : SourceSight
  pub out : SinkSight
  pub out_after : SinkSight
  pub err : SinkSight
  pub err_after : SinkSight

-- the journal is empty in the modes that have no such run, at each ending that writes nothing, and of a text that
-- is refused or too long
pub record HasJournal (c : Call) : Type 0 where
  pub runs : IfSome c.settings (λ s. (HasRun s.mode → ⊥) → c.journal ≡ [])
  pub nothing : WritesNothing c.ending → c.journal ≡ []
  pub unfit : IfSome c.settings (λ s. IfSome (given s.mode c.input.held) (λ b. IsUnfit s.mode b → c.journal ≡ []))

-- the call ended as one whose words are refused, or for want of memory, and touched neither input nor out
pub record IsStopped (c : Call) : Type 0 where
  pub ended : (c.ending ≡ ending.Words) ⊎ (c.ending ≡ ending.Memory)
  pub input : c.input_after ≡ c.input
  pub out : c.out_after ≡ c.out
  pub journal : c.journal ≡ []

-- why each ending came of words with this mode
pub record IsCausedIn (m : Mode) (c : Call) : Type 0 where
  pub refused : (f : ScenarioFault) → c.ending ≡ ending.Refused f → IfSome (given m c.input.held) (IsRefused m f)
  pub too_long : c.ending ≡ ending.TooLong → IfSome (given m c.input.held) (IsLongScenario m)
      × IsTakenAtMost (longest m) c.input.held c.input_after.held
  pub long_input : c.ending ≡ ending.InputTooLong → IfSome (given m c.input.held) (IsLongInput m)
      × IsTakenAtMost (longest m) c.input.held c.input_after.held
  pub budget : c.ending ≡ ending.BudgetSpent → HasBudget m
  pub retired : (agent : ℕ) → c.ending ≡ ending.Retired agent → m ≡ mode.Cut
  pub illegal : (line : ℕ) → c.ending ≡ ending.Illegal line → m ≡ mode.Replay
  pub accepted : Accepts c.ending → IfSome (given m c.input.held) (IsAccepted m)
  pub read : reads m ≡ true → ReadsAll c.ending → IsAtEnd c.input_after.held
  pub unread : reads m ≡ false → (c.input_after ≡ c.input) × (Accepts c.ending ⊎ (c.ending ≡ ending.Memory))

-- why each ending came
pub record IsCaused (c : Call) : Type 0 where
  pub words : c.ending ≡ ending.Words → c.settings ≡ None
  pub no_words : c.settings ≡ None → IsStopped c
  pub by_mode : IfSome c.settings (λ s. IsCausedIn s.mode c)
  pub read_fault : c.ending ≡ ending.ReadFault → Rose c.input.faults c.input_after.faults
  pub write_fault : c.ending ≡ ending.WriteFault → Fails c.out c.out_after

-- the line of each ending but `Done` was offered to err
abbrev pub IsTold : Call → Type 0
IsTold c = c.ending ≢ ending.Done → Offers c.err c.err_after (error_line c.ending)

-- the endings that must come, where the devices do not fail
pub record IsComplete (c : Call) (s : Settings) : Type 0 where
  pub refuses : c.ending ≢ ending.ReadFault → c.ending ≢ ending.Memory
      → IfSome (given s.mode c.input.held) (λ b. (f : ScenarioFault) → IsRefused s.mode f b → c.ending ≡ ending.Refused f)
  pub limits : c.ending ≢ ending.ReadFault → c.ending ≢ ending.Memory
      → IfSome (given s.mode c.input.held) (λ b. IsLongScenario s.mode b → c.ending ≡ ending.TooLong)
  pub input_limits : c.ending ≢ ending.ReadFault → c.ending ≢ ending.Memory
      → IfSome (given s.mode c.input.held) (λ b. IsLongInput s.mode b → c.ending ≡ ending.InputTooLong)
  pub completes : ¬ Rose c.input.faults c.input_after.faults → ¬ Fails c.out c.out_after
      → IfSome (given s.mode c.input.held) (λ b. IsAccepted s.mode b → Completes c.ending)
  pub within : ¬ Rose c.input.faults c.input_after.faults → ¬ Fails c.out c.out_after
      → IfSome (given s.mode c.input.held) (λ b. IsWithin s b → (c.ending ≡ ending.Done) ⊎ (c.ending ≡ ending.Memory))

-- what every call promises
pub record IsServed (c : Call) : Type 0 where
  pub printed : IfSome c.settings (λ s.
      PrintedOf s c.input.held c.ending c.journal c.out.holds c.out_after.holds)
  pub journal : HasJournal c
  pub caused : IsCaused c
  pub told : IsTold c
  pub complete : IfSome c.settings (IsComplete c)
