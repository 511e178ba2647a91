-- Cells as they are held, and what contracts see of them.
use Rattle.std.specs.Prelude.{ℕ, ◌+◌, ◌-◌, ◌<◌, ◌≤◌, ◌≡◌, Bool, false, List, [], map, length, get_or, Option, None, option_map}
use Rattle.std.specs.List.{AllByRecursion}
use Rattle.pm_alp.specs.declared.agent.Awaited.{Awaited}
use Rattle.pm_base.specs.declared.stamp.Line.{Line}
use Rattle.pm_base.specs.declared.stamp.Stamp.{Stamp}
use Rattle.pm_core.specs.Firsts.{fixed_at}
use Rattle.pm_core.specs.declared.process.Process.{Process}
use Rattle.pm_core.specs.declared.process.Process.TheVariants as process
use Rattle.pm_ends.specs.Ends.{Inn, Out, received_in, sent_in, tos, waiting_in}
use Rattle.pm_history.specs.Stories.{Story}
use Rattle.pm_history.specs.declared.histories.Heard.{Heard}
use Rattle.pm_plan.specs.Plans.{IsValid}
use Rattle.pm_plan.specs.declared.plan.Plan.{Plan}
use Rattle.pm_sim.specs.Worlds.{agent_at, clps_of, hub_of}
use Rattle.pm_cell.specs.Cores.{State, receivers_of}
use Rattle.pm_cell.specs.Cores.State.{OfAgent, OfClp}
use Rattle.pm_cell.specs.Sides.{Side}
use Rattle.pm_cell.specs.Stands.{CellView}
use Rattle.pm_cell.specs.Views.{AreCellsOf, InWire, OutWire, nobody}

-- a cell as it is held
pub record Held : Type 0 where
  pub plan : Plan
  pub number : ℕ
  pub process : Process
  pub inns : List Inn
  pub outs : List Out
  pub story : List Heard
  pub clock : ℕ
  pub spoilt : Bool
  pub window : Option Line

-- the state of a process
abbrev pub state_of : Process → State
state_of (process.Clp v) = OfClp v.clp
state_of (process.Alp v) = OfAgent v.agent

-- how many deliveries were made at it
abbrev pub made_of : Process → ℕ
made_of (process.Clp v) = v.made
made_of (process.Alp v) = v.made

-- the moment of the Wake that an agent's process awaits
abbrev pub next_of : Process → Option Stamp
next_of (process.Clp v) = None
next_of (process.Alp v) = option_map (λ (w : Awaited). w.stamp) v.agent.awaited

-- of an end that receives, what never changes
abbrev pub in_wire : Inn → InWire
in_wire x = record { from = x.from; slot = x.slot; link = x.link }

-- of an end that sends
abbrev pub out_wire : Out → OutWire
out_wire x = record { to = x.to; link = x.link }

-- what a cell tells of itself
abbrev pub side_of : Held → Side State
side_of h = record {
  state = state_of h.process;
  clock = h.clock;
  sent = sent_in h.outs;
  received = received_in h.inns;
}

-- what contracts see of a cell
abbrev pub view_of : Held → CellView
view_of h = record {
  frame = record {
    plan = h.plan;
    number = h.number;
    inns = map in_wire h.inns;
    outs = map out_wire h.outs;
  };
  spoilt = h.spoilt;
  story = h.story;
  made = made_of h.process;
  now = side_of h;
  waiting = waiting_in h.inns;
  window = h.window;
}

-- and of cells
abbrev pub views : List Held → List CellView
views hs = map view_of hs

-- the process is that of its number in the plan, and memory was not wanting in it
abbrev pub IsProcessOf : Plan → ℕ → Process → Type 0
IsProcessOf p k (process.Clp v) = (k < clps_of p) × (v.hub ≡ hub_of p k) × (v.spoilt ≡ false)
IsProcessOf p k (process.Alp v) =
    (clps_of p ≤ k) × (v.fixed ≡ fixed_at p (k - clps_of p) (agent_at p (k - clps_of p))) × (v.spoilt ≡ false)

-- the process of a cell is that of its number, unless memory was wanting
abbrev pub IsOwn : Held → Type 0
IsOwn h = h.spoilt ≡ false → IsProcessOf h.plan h.number h.process

-- the plan is valid, and has a process of that number; unless memory was wanting, the process is that one; the history is
-- that of the number, and no receipt has a clock above the cell's; it sends to those to whom the process has a link
pub record IsCell (p : Plan) (k : ℕ) (x : Process) (s : Story) (clock : ℕ) (outs : List Out) (spoilt : Bool) : Type 0 where
  pub valid : IsValid p
  pub there : k < clps_of p + length p.agents
  pub process : spoilt ≡ false → IsProcessOf p k x
  pub history : s.process ≡ k
  pub clocks : AllByRecursion (λ (h : Heard). h.clock ≤ clock) s.heard
  pub receivers : tos outs ≡ receivers_of p k

-- the cells are those of a valid plan
pub record AreCells (vs : List CellView) : Type 0 where
  pub plan : Plan
  pub valid : IsValid plan
  pub cells : AreCellsOf nobody plan vs

-- the out-ends of the cell of that number
abbrev pub outs_of : List Held → ℕ → List Out
outs_of hs k = get_or (map (λ (h : Held). h.outs) hs) k []

-- its in-ends
abbrev pub inns_of : List Held → ℕ → List Inn
inns_of hs k = get_or (map (λ (h : Held). h.inns) hs) k []
