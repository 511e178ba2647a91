-- The cells of a plan, as they stand for a world that a legal run leads to.
use Rattle.std.specs.Prelude.{ℕ, ◌+◌, ◌<◌, ◌≤◌, ◌≡◌, ◌⊎◌, true, false, List, [], ◌∷◌, length, map, Option}
use Rattle.std.specs.List.{AllByRecursion, flat_map}
use Rattle.pm_base.specs.declared.rows.Entry.{Entry}
use Rattle.pm_base.specs.declared.run.Event.{Event}
use Rattle.pm_base.specs.declared.run.Event.TheVariants as event
use Rattle.pm_base.specs.declared.stamp.Line.{Line}
use Rattle.pm_base.specs.declared.stamp.Line.TheVariants as line
use Rattle.pm_history.specs.Merged.{merged}
use Rattle.pm_message.specs.Messages.{stamp_of}
use Rattle.pm_message.specs.declared.Message.{Message}
use Rattle.pm_plan.specs.Plans.{IsValid}
use Rattle.pm_plan.specs.declared.plan.Plan.{Plan}
use Rattle.pm_saved.specs.Steps.{hand_out}
use Rattle.pm_sim.specs.Bounds.{between}
use Rattle.pm_sim.specs.Journals.{Delivers}
use Rattle.pm_sim.specs.Reached.{Reached}
use Rattle.pm_sim.specs.Ready.{WindowOk, held_back}
use Rattle.pm_sim.specs.Sims.{In}
use Rattle.pm_sim.specs.Worlds.{World, after_event, after_events, commit, handed, in_order, is_legal_run, line_le, mail, may_commit, process}
use Rattle.pm_cell.specs.Cells.{Came, Committed, IsIdle, Looked, Turned}
use Rattle.pm_ends.specs.Numbers.{Pairs}
use Rattle.pm_cell.specs.Cores.{State, core}
use Rattle.pm_cell.specs.Cores.State.{OfAgent, OfClp}
use Rattle.pm_cell.specs.Sides.{ClocksBelow, StandFor, messages}
use Rattle.pm_cell.specs.Views.{AreCellsOf, Settled, View, nobody, nows, story_of, told, view_at}

-- a cell of a plan as contracts see it
abbrev pub CellView : Type 0
CellView = View State

-- none is spoilt
abbrev pub AreSound : List CellView → Type 0
AreSound vs = AllByRecursion (λ (v : CellView). v.spoilt ≡ false) vs

-- none has a story
abbrev pub HeardNothing : List CellView → Type 0
HeardNothing vs = AllByRecursion (λ (v : CellView). v.story ≡ []) vs

-- all have this window
abbrev pub HaveWindow : Option Line → List CellView → Type 0
HaveWindow k vs = AllByRecursion (λ (v : CellView). v.window ≡ k) vs

-- the cells of the plan stand for a world that a legal run of n deliveries leads to; no clock is above n, and no process
-- had more deliveries
pub record StandAt (p : Plan) (n : ℕ) (w : World) (vs : List CellView) : Type 0 where
  pub reached : Reached p n w
  pub cells : AreCellsOf nobody p vs
  pub sound : AreSound vs
  pub stand : StandFor (core p) (nows nobody vs) w
  pub clocks : (k : ℕ) → ClocksBelow n (nows nobody vs k)
  pub counts : AllByRecursion (λ (v : CellView). v.made ≤ n) vs

-- each delivery takes a message that this window lets through
abbrev pub LetsThrough : Plan → Option Line → World → List Event → Type 0
LetsThrough p k w [] = Unit {0}
LetsThrough p k w (event.Deliver to from ∷ es) =
    ((m : Message) (rest : List Message) → between (process p to) (process p from) w.links ≡ m ∷ rest
    → held_back w (λ _. k) (process p to) m ≡ false)
    × LetsThrough p k (after_event p w (event.Deliver to from)) es
LetsThrough p k w (event.Commit l ∷ es) = LetsThrough p k (after_event p w (event.Commit l)) es

-- deliveries that lead from a world to the one that the cells stand for: as many as their stories tell, each legal where
-- it stands
pub record LeadsTo (p : Plan) (n : ℕ) (w : World) (ds : List Event) (vs : List CellView) : Type 0 where
  pub delivers : Delivers ds
  pub legal : is_legal_run p w ds ≡ true
  pub count : length ds ≡ told vs
  pub through : (k : Option Line) → HaveWindow k vs → LetsThrough p k w ds
  pub stands : StandAt p (n + length ds) (after_events p w ds) vs

-- a message waits at an end of some cell
pub record WaitsAt (vs : List CellView) (m : Message) : Type 0 where
  pub to : ℕ
  pub from : ℕ
  pub waits : In m (messages ((view_at nobody vs to).waiting from))

-- the line is the least moment of all messages that wait, or the end where none waits
pub record IsLeastOf (l : Line) (vs : List CellView) : Type 0 where
  pub low : (m : Message) → WaitsAt vs m → line_le l (line.At (stamp_of m)) ≡ true
  pub found : (l ≡ line.End) ⊎ ((m : Message) × WaitsAt vs m × (l ≡ line.At (stamp_of m)))

-- what a Commit at a line hands out of a process
abbrev pub handed_of : Line → State → List Entry
handed_of l (OfClp c) = []
handed_of l (OfAgent a) = hand_out l a.steps

-- what a Commit at a line hands out of all cells, in order of stamp
abbrev pub handed_by : Line → List CellView → List Entry
handed_by l vs = in_order (flat_map (λ (v : CellView). handed_of l v.now.state) vs)

-- a Commit may stand at the line: it may in the world that the cells stand for
pub record MayCommit (l : Line) (vs : List CellView) : Type 0 where
  pub plan : Plan
  pub valid : IsValid plan
  pub made : ℕ
  pub world : World
  pub stands : StandAt plan made world vs
  pub may : may_commit world l ≡ true

-- a cell of a plan came from another by turns
abbrev pub CellCame : CellView → CellView → Type 0
CellCame a b = Came (core a.frame.plan) a b

-- it was given one turn, which heard a message
abbrev pub CellTurned : CellView → CellView → Type 0
CellTurned a b = Turned (core a.frame.plan) a b

-- it looked, and heard nothing
abbrev pub CellLooked : CellView → CellView → Type 0
CellLooked a b = Looked a b

-- it has nothing that it may hear
abbrev pub CellIsIdle : CellView → Type 0
CellIsIdle v = IsIdle (core v.frame.plan) v

-- each cell was committed at the line
abbrev pub CellsCommit : Line → List CellView → List CellView → Type 0
CellsCommit l vs us = Pairs (λ (a b : CellView). Committed (core a.frame.plan) l a b) vs us

-- cells that stood for w and had no story, what turns made of them, and what settling left: their stories merge into one
-- run
abbrev pub HistoriesMerge : Plan → ℕ → World → List CellView → List CellView → List CellView → Type 0
HistoriesMerge p n w vs us ts =
    StandAt p n w vs → HeardNothing vs → Pairs CellCame vs us → AreSound us → Pairs CellLooked us ts → Settled nobody ts
    → LeadsTo p n w (merged (map story_of ts)) ts

-- what a Commit of cells is in the world that they stand for
pub record WorldCommits (p : Plan) (n : ℕ) (w : World) (l : Line) (vs us : List CellView) : Type 0 where
  pub stands : StandAt p n (commit w l) us
  pub settled : Settled nobody vs → Settled nobody us
  pub stories : HeardNothing us
  pub handed : handed_by l vs ≡ handed w l

-- the cells after a legal Commit stand for the world after it, and hand out the same
abbrev pub CommitsAreTheWorlds : Plan → ℕ → World → Line → List CellView → List CellView → Type 0
CommitsAreTheWorlds p n w l vs us =
    StandAt p n w vs → may_commit w l ≡ true → CellsCommit l vs us → WorldCommits p n w l vs us

-- each cell's window keeps no message of least stamp back
abbrev pub AreWide : World → List CellView → Type 0
AreWide w vs = AllByRecursion (λ (v : CellView). WindowOk w v.window) vs

-- all are idle
abbrev pub AreIdle : List CellView → Type 0
AreIdle vs = AllByRecursion CellIsIdle vs

-- settled cells that are all idle stand for a world without messages; so do those of which turns told nothing, if all are
-- idle then
pub record IdleCellsAreDone (p : Plan) (n : ℕ) (w : World) (vs us : List CellView) : Type 0 where
  pub done : StandAt p n w vs → Settled nobody vs → n < 20000000 → AreWide w vs → AreIdle vs → mail w.links ≡ []
  pub turns : StandAt p n w vs → HeardNothing vs → Settled nobody vs → n < 20000000 → AreWide w vs
      → Pairs CellCame vs us → AreSound us → told us ≡ 0 → AreIdle us → mail w.links ≡ []
