-- The cells of a plan at first.
use Rattle.std.specs.Prelude.{ℕ, suc, ◌≡◌, false, List, [], ◌∷◌, get_or, set, Option, Some, None}
use Rattle.pm_core.specs.declared.process.Process.{Process}
use Rattle.pm_ends.specs.Ends.{Inn, Out, sent_to}
use Rattle.pm_ends.specs.Numbers.{nth}
use Rattle.pm_message.specs.declared.Message.{Message}
use Rattle.pm_plan.specs.declared.plan.Plan.{Plan}
use Rattle.pm_sim.specs.Worlds.{first_world}
use Rattle.pm_cell.specs.Helds.{Held, IsProcessOf}
use Rattle.pm_cell.specs.Sides.{stamped}
use Rattle.pm_cell.specs.Stands.{CellView, HaveWindow, HeardNothing, StandAt}

-- the out-ends of process k after its first Wake was sent to itself, where it has one
abbrev pub woken : ℕ → Option Message → List Out → List Out
woken k None os = os
woken k (Some m) os = sent_to k (stamped 0 m) os

-- the out-ends of all processes after these first Wakes were sent, the first of them by process k
abbrev pub all_woken : ℕ → List (Option Message) → List (List Out) → List (List Out)
all_woken k [] outs = outs
all_woken k (w ∷ ws) outs = all_woken (suc k) ws (set outs k (woken k w (get_or outs k [])))

-- the cell of process k that heard nothing
abbrev pub first_held : Plan → ℕ → Process → List Inn → List Out → Held
first_held p k x inns outs = record {
  plan = p;
  number = k;
  process = x;
  inns = inns;
  outs = outs;
  story = [];
  clock = 0;
  spoilt = false;
  window = None;
}

-- the cells of these processes, the first of them process k, with the ends of each one's number
abbrev pub first_helds : Plan → ℕ → List Process → List (List Inn) → List (List Out) → List Held
first_helds p k [] inns outs = []
first_helds p k (x ∷ xs) inns outs =
    first_held p k x (get_or inns k []) (get_or outs k []) ∷ first_helds p (suc k) xs inns outs

-- each process is the one of its number
abbrev pub AreProcessesOf : Plan → List Process → Type 0
AreProcessesOf p xs = (k : ℕ) (x : Process) → nth xs k ≡ Some x → IsProcessOf p k x

-- the cells stand for the first world of the plan, heard nothing, and have no window
pub record AreFirst (p : Plan) (vs : List CellView) : Type 0 where
  pub stands : StandAt p 0 (first_world p) vs
  pub stories : HeardNothing vs
  pub windows : HaveWindow None vs
