-- What was written of a plan, by the mode and the ending.
use Rattle.std.specs.Prelude.{◌≡◌, ◌≢◌, ◌⊎◌, ◌++◌, ℕ, ◌<◌, ◌≤◌, Bool, true, false, if◌then◌else◌, List, [], length, sum, Option, IfSome, Ok, Err, IfOk}
use Rattle.std.specs.Io.KnownBytes.{Appends}
use Rattle.pm_base.specs.declared.rows.Entry.{Entry}
use Rattle.pm_base.specs.declared.run.Event.{Event}
use Rattle.pm_base.specs.declared.stamp.Line.TheVariants as line
use Rattle.pm_calm.specs.Calm.{IsCalm}
use Rattle.pm_calm.specs.Lowest.{LowestRun, PartOfLowest}
use Rattle.pm_io.specs.Causes.{AppendsPart, AppendsPrefix}
use Rattle.pm_kernel.specs.Runs.{IsDone, IsJournal, IsSpent, left_by, text_of}
use Rattle.pm_model.specs.Entries.{run_below}
use Rattle.pm_model.specs.Runs.{sequential_run}
use Rattle.pm_model.specs.Traces.{end_line, trace}
use Rattle.pm_place.specs.Placings.{CostsLeast, IsPlacement, PrefersLesser, cost, parts}
use Rattle.pm_place.specs.Texts.{placing_text}
use Rattle.pm_place.specs.declared.placing.Placing.{Placing}
use Rattle.pm_plan.specs.declared.plan.Plan.{Plan}
use Rattle.pm_replay.specs.Parts.{journal_part}
use Rattle.pm_replay.specs.Replays.{IsFirstIllegal, IsLegalText, is_end}
use Rattle.pm_resume.specs.Cuts.{cut_of, run_from}
use Rattle.pm_resume.specs.declared.CutFault.TheVariants as fault
use Rattle.pm_scenario.specs.Scenarios.{plan_of}
use Rattle.pm_sim.specs.Journals.{made}
use Rattle.pm_sim.specs.Worlds.{committed, first_world, is_legal_run}
use Rattle.pm_top.specs.Demo.{demo_line, generated_plan}
use Rattle.pm_top.specs.Endings.{Accepts}
use Rattle.pm_top.specs.Outputs.{check_line, first_lines, run_output}
use Rattle.pm_top.specs.Readings.{scenario_in}
use Rattle.pm_top.specs.declared.outcome.Ending.{Ending}
use Rattle.pm_top.specs.declared.outcome.Ending.TheVariants as ending
use Rattle.pm_words.specs.Words.{reads}
use Rattle.pm_words.specs.declared.settings.Mode.{Mode}
use Rattle.pm_words.specs.declared.settings.Mode.TheVariants as mode
use Rattle.pm_words.specs.declared.settings.Settings.{Settings}

-- what out grew by in the sequential run of a plan that may have so many steps: the trace, of which it lacks a byte at
-- each ending but `Done`; where the run is longer, the lines of so many steps
pub record IsSeqPrinted (budget : ℕ) (p : Plan) (e : Ending) (old new : Option (List ℕ)) : Type 0 where
  pub done : e ≡ ending.Done → Appends old new (trace p)
  pub within : e ≡ ending.Done → length (sequential_run p) ≤ budget
  pub spent : e ≡ ending.BudgetSpent → Appends old new (first_lines budget p)
  pub more : e ≡ ending.BudgetSpent → budget < length (sequential_run p)
  pub part : AppendsPrefix old new (trace p)
  pub unfinished : e ≢ ending.Done → AppendsPart old new (trace p)
  pub lacks : e ≡ ending.WriteFault → budget < length (sequential_run p) → AppendsPart old new (first_lines budget p)

-- what out grew by in a check of a plan: the line of its parts, of which it lacks a byte at each ending but `Done`
pub record IsCheckPrinted (p : Plan) (e : Ending) (old new : Option (List ℕ)) : Type 0 where
  pub done : e ≡ ending.Done → Appends old new (check_line p)
  pub part : AppendsPrefix old new (check_line p)
  pub unfinished : e ≢ ending.Done → AppendsPart old new (check_line p)

-- what a journal committed stays: each prefix of it committed a prefix
abbrev pub StaysCommitted : Plan → List Event → Type 0
StaysCommitted p j =
    (k rest : List Event) → j ≡ k ++ rest → (later : List Entry) × (committed p j ≡ committed p k ++ later)

-- out grew by a prefix of the text of what was committed, or all is committed and it grew by a prefix of the whole output
abbrev pub PrintsCommitted : Settings → Plan → List Event → Option (List ℕ) → Option (List ℕ) → Type 0
PrintsCommitted s p j old new =
    AppendsPrefix old new (text_of p j)
    ⊎ (((left_by p j).line ≡ line.End) × AppendsPrefix old new (run_output s.journal p j))

-- the same, and it lacks at least one byte
abbrev pub LacksCommitted : Settings → Plan → List Event → Option (List ℕ) → Option (List ℕ) → Type 0
LacksCommitted s p j old new =
    AppendsPart old new (text_of p j)
    ⊎ (((left_by p j).line ≡ line.End) × AppendsPart old new (run_output s.journal p j))

-- what an optimistic run of a plan came to. Its journal is a legal run that keeps to the settings, and what it committed
-- is the sequential run below its line, whatever was rolled back. In the end that is all, and out grew by the trace;
-- where the budget is spent, by the text of what was committed; at any other ending by a part of these.
pub record IsRunPrinted (s : Settings) (p : Plan) (e : Ending) (j : List Event) (old new : Option (List ℕ))
    : Type 0 where
  pub journal : IsJournal p s.run j
  pub sequential : committed p j ≡ run_below p (left_by p j).line
  pub stays : StaysCommitted p j
  pub done : e ≡ ending.Done → IsDone p j
  pub whole : e ≡ ending.Done → Appends old new (run_output s.journal p j)
  pub spent : e ≡ ending.BudgetSpent → IsSpent p s.run j
  pub lines : e ≡ ending.BudgetSpent → Appends old new (text_of p j)
  pub part : PrintsCommitted s p j old new
  pub unfinished : e ≢ ending.Done → AppendsPart old new (run_output s.journal p j)
  pub lacks : e ≡ ending.WriteFault → LacksCommitted s p j old new

-- what the optimistic run of a generated plan came to, and was told of in one line: the run as in mode `run`; the line is
-- written where all is committed, and nothing where the run stopped before
pub record IsDemoPrinted (s : Settings) (p : Plan) (e : Ending) (j : List Event) (old new : Option (List ℕ))
    : Type 0 where
  pub journal : IsJournal p s.run j
  pub sequential : committed p j ≡ run_below p (left_by p j).line
  pub stays : StaysCommitted p j
  pub done : (e ≡ ending.Done) ⊎ (e ≡ ending.WriteFault) → IsDone p j
  pub whole : e ≡ ending.Done → Appends old new (demo_line s.seed p)
  pub spent : e ≡ ending.BudgetSpent → IsSpent p s.run j
  pub nothing : e ≡ ending.BudgetSpent → new ≡ old
  pub unfinished : e ≢ ending.Done → AppendsPart old new (demo_line s.seed p)

-- a text of this kind was written whole, or a part of one where the output failed, and nothing at any other ending
pub record IsTextPrinted (IsText : List ℕ → Type 0) (e : Ending) (old new : Option (List ℕ)) : Type 0 where
  pub done : e ≡ ending.Done → (b : List ℕ) × IsText b × Appends old new b
  pub fault : e ≡ ending.WriteFault → (b : List ℕ) × IsText b × AppendsPart old new b
  pub nothing : e ≢ ending.Done → e ≢ ending.WriteFault → new ≡ old

-- a scenario with this plan
abbrev pub IsTextOf : Plan → List ℕ → Type 0
IsTextOf p b = plan_of b ≡ Ok p

-- what the upgrade of a scenario wrote: a scenario with the same plan
abbrev pub IsUpgradePrinted : Plan → Ending → Option (List ℕ) → Option (List ℕ) → Type 0
IsUpgradePrinted p e old new = IsTextPrinted (IsTextOf p) e old new

-- a placing of the variables: each is at a process, and no placement of them all costs less; where it costs a variable
-- the same at several processes, it is at the first of them
pub record IsLeastPlacing (p : Plan) (placing : Placing) : Type 0 where
  pub placement : IsPlacement p placing.at
  pub parts : placing.costs ≡ parts p placing.at
  pub sum : placing.total ≡ sum placing.costs
  pub cost : placing.total ≡ cost p placing.at
  pub least : CostsLeast p placing.total
  pub lesser : PrefersLesser p placing

-- the text of such a placing
pub record IsPlacingText (p : Plan) (b : List ℕ) : Type 0 where
  pub placing : Placing
  pub least : IsLeastPlacing p placing
  pub text : b ≡ placing_text p placing

-- what was written of where variables are best kept, for a run of at most so many steps
pub record IsPlacePrinted (budget : ℕ) (p : Plan) (e : Ending) (old new : Option (List ℕ)) : Type 0 where
  pub printed : IsTextPrinted (IsPlacingText p) e old new
  pub within : e ≡ ending.Done → length (sequential_run p) ≤ budget
  pub more : e ≡ ending.BudgetSpent → budget < length (sequential_run p)

-- a scenario whose run is what is left of a plan's run from a time on
pub record IsRestText (p : Plan) (from budget : ℕ) (b : List ℕ) : Type 0 where
  pub plan : Plan
  pub is : cut_of p from budget ≡ Ok plan
  pub rest : sequential_run plan ≡ run_from p from
  pub text : plan_of b ≡ Ok plan

-- what the cut of a scenario at a time wrote, where at most so many steps may lie before it
pub record IsCutPrinted (s : Settings) (p : Plan) (e : Ending) (old new : Option (List ℕ)) : Type 0 where
  pub printed : IsTextPrinted (IsRestText p s.from s.run.budget) e old new
  pub spent : e ≡ ending.BudgetSpent → cut_of p s.from s.run.budget ≡ Err fault.BudgetSpent
  pub retired : (agent : ℕ) → e ≡ ending.Retired agent → cut_of p s.from s.run.budget ≡ Err (fault.Retired agent)

-- what a journal's replay writes: the lines of what it commits, and the end line where that is all
abbrev pub replay_text : Plan → List Event → List ℕ
replay_text p j =
    text_of p j ++ (if is_end (left_by p j).line then end_line (length (committed p j)) else [])

-- what the replay of a journal's text came to. At the end it is the text of a legal run, which committed the sequential
-- run below its line, and out grew by what that writes; a text that has a first illegal line is refused at that line, and
-- nothing is written.
pub record IsReplayPrinted (p : Plan) (t : List ℕ) (e : Ending) (j : List Event) (old new : Option (List ℕ))
    : Type 0 where
  pub legal : e ≡ ending.Done → IsLegalText p j t
  pub sequential : e ≡ ending.Done → committed p j ≡ run_below p (left_by p j).line
  pub whole : e ≡ ending.Done → Appends old new (replay_text p j)
  pub illegal : (line : ℕ) → e ≡ ending.Illegal line → IsFirstIllegal p line t
  pub refuses : (line : ℕ) → IsFirstIllegal p line t → Accepts e → e ≡ ending.Illegal line
  pub nothing : (line : ℕ) → e ≡ ending.Illegal line → new ≡ old
  pub fault : e ≡ ending.WriteFault → (k : List Event) × IsLegalText p k t × AppendsPart old new (replay_text p k)
  pub memory : e ≡ ending.Memory
      → (new ≡ old) ⊎ ((k : List Event) × IsLegalText p k t × AppendsPart old new (replay_text p k))

-- what the lowest run of a plan came to. Where it ended by itself its journal is the lowest run with this budget, else one
-- that this begins with: a legal run in which nothing is rolled back, each Commit at the least line; and what it committed
-- is the sequential run below its line. What out grew by is as in mode `run`.
pub record IsLowestPrinted (s : Settings) (p : Plan) (e : Ending) (j : List Event) (old new : Option (List ℕ))
    : Type 0 where
  pub journal : PartOfLowest s.run.budget p j
  pub lowest : (e ≡ ending.Done) ⊎ (e ≡ ending.BudgetSpent) → LowestRun s.run.budget p j
  pub legal : is_legal_run p (first_world p) j ≡ true
  pub few : made j ≤ s.run.budget
  pub calm : (j ≡ [] → ⊥) → IsCalm p (first_world p) j
  pub sequential : committed p j ≡ run_below p (left_by p j).line
  pub stays : StaysCommitted p j
  pub done : e ≡ ending.Done → IsDone p j
  pub whole : e ≡ ending.Done → Appends old new (run_output s.journal p j)
  pub spent : e ≡ ending.BudgetSpent → IsSpent p s.run j
  pub lines : e ≡ ending.BudgetSpent → Appends old new (text_of p j)
  pub part : PrintsCommitted s p j old new
  pub unfinished : e ≢ ending.Done → AppendsPart old new (run_output s.journal p j)
  pub lacks : e ≡ ending.WriteFault → LacksCommitted s p j old new

-- what was written of a plan in this mode, where the input held these bytes
abbrev pub PrintedIn : Mode → Settings → List ℕ → Plan → Ending → List Event → Option (List ℕ) → Option (List ℕ) → Type 0
PrintedIn mode.Seq s b p e j old new = IsSeqPrinted s.run.budget p e old new
PrintedIn mode.Check s b p e j old new = IsCheckPrinted p e old new
PrintedIn mode.Run s b p e j old new = IsRunPrinted s p e j old new
PrintedIn mode.Demo s b p e j old new = IsDemoPrinted s p e j old new
PrintedIn mode.Upgrade s b p e j old new = IsUpgradePrinted p e old new
PrintedIn mode.Place s b p e j old new = IsPlacePrinted s.run.budget p e old new
PrintedIn mode.Cut s b p e j old new = IsCutPrinted s p e old new
PrintedIn mode.Replay s b p e j old new = IsReplayPrinted p (journal_part b) e j old new
PrintedIn mode.Lowest s b p e j old new = IsLowestPrinted s p e j old new

-- the same of the plan that there is: of the one in the input, or where the input isn't read of the generated one
abbrev pub PrintedWhere : Bool → Settings → Option (List ℕ) → Ending → List Event → Option (List ℕ) → Option (List ℕ)
    → Type 0
PrintedWhere true s held e j old new =
    IfSome held (λ b. IfOk (plan_of (scenario_in s.mode b)) (λ p. PrintedIn s.mode s b p e j old new))
PrintedWhere false s held e j old new = IfOk (generated_plan s.seed) (λ p. PrintedIn s.mode s [] p e j old new)

-- what was written of the call's plan, where it has one
abbrev pub PrintedOf : Settings → Option (List ℕ) → Ending → List Event → Option (List ℕ) → Option (List ℕ) → Type 0
PrintedOf s held e j old new = PrintedWhere (reads s.mode) s held e j old new
