-- How the input was read, and what the modes read.
use Rattle.std.specs.Prelude.{ℕ, ◌+◌, ◌<◌, ◌≤◌, ◌⊎◌, List, [], length, Option, Ok, Err, ◌≡◌}
use Rattle.std.specs.Io.KnownBytes.{Consumes, IsAtEnd}
use Rattle.pm_plan.specs.declared.plan.Plan.{Plan}
use Rattle.pm_replay.specs.Parts.{journal_part, scenario_part}
use Rattle.pm_scenario.specs.Scenarios.{plan_of}
use Rattle.pm_scenario.specs.declared.fault.ScenarioFault.{ScenarioFault}
use Rattle.pm_words.specs.declared.settings.Mode.{Mode}
use Rattle.pm_words.specs.declared.settings.Mode.TheVariants as mode

-- these bytes were taken, which are at most so many, and none is left
pub record IsReadWhole (limit : ℕ) (old new : Option (List ℕ)) (bytes : List ℕ) : Type 0 where
  pub taken : Consumes old new bytes
  pub end : IsAtEnd new
  pub few : length bytes ≤ limit

-- these bytes were taken, which are more than so many, by at most 65,536
pub record IsReadPast (limit : ℕ) (old new : Option (List ℕ)) (bytes : List ℕ) : Type 0 where
  pub taken : Consumes old new bytes
  pub many : limit < length bytes
  pub few : length bytes ≤ limit + 65536

-- at most so many bytes were taken, and 65,536 more
abbrev pub IsTakenAtMost : ℕ → Option (List ℕ) → Option (List ℕ) → Type 0
IsTakenAtMost limit old new = (bytes : List ℕ) × Consumes old new bytes × (length bytes ≤ limit + 65536)

-- the most bytes of an input: those of a scenario, and in mode `replay` of one with a journal
abbrev pub longest : Mode → ℕ
longest mode.Replay = 67108864
longest _ = 4194304

-- the scenario in an input: all of it, but in mode `replay` what stands before the journal
abbrev pub scenario_in : Mode → List ℕ → List ℕ
scenario_in mode.Replay b = scenario_part b
scenario_in _ b = b

-- the journal's text in an input of mode `replay`
abbrev pub journal_in : Mode → List ℕ → List ℕ
journal_in mode.Replay b = journal_part b
journal_in _ b = []

-- a scenario of more bytes than one may have
abbrev pub IsLongScenario : Mode → List ℕ → Type 0
IsLongScenario m b = 4194304 < length (scenario_in m b)

-- an input of more bytes than it may have, whose scenario has not
pub record IsLongInput (m : Mode) (b : List ℕ) : Type 0 where
  pub scenario : length (scenario_in m b) ≤ 4194304
  pub long : longest m < length b

-- neither the scenario nor the input is too long
pub record IsShort (m : Mode) (b : List ℕ) : Type 0 where
  pub scenario : length (scenario_in m b) ≤ 4194304
  pub input : length b ≤ longest m

-- a scenario that is refused for this, though not too long
pub record IsRefused (m : Mode) (f : ScenarioFault) (b : List ℕ) : Type 0 where
  pub short : IsShort m b
  pub no_plan : plan_of (scenario_in m b) ≡ Err f

-- a scenario
pub record IsAccepted (m : Mode) (b : List ℕ) : Type 0 where
  pub short : IsShort m b
  pub plan : Plan
  pub is : plan_of (scenario_in m b) ≡ Ok plan

-- an input that is refused, for whatever cause
abbrev pub IsUnfit : Mode → List ℕ → Type 0
IsUnfit m b = IsLongScenario m b ⊎ (IsLongInput m b ⊎ ((f : ScenarioFault) × IsRefused m f b))
