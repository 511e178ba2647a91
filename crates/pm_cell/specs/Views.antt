-- What contracts see of a cell, and how the ends of cells belong together.
use Rattle.std.specs.Prelude.{ℕ, suc, ◌+◌, ◌≡◌, Bool, false, List, [], ◌∷◌, map, length, get_or, Option, Some, None}
use Rattle.std.specs.List.{AllByRecursion}
use Rattle.pm_base.specs.declared.stamp.Line.{Line}
use Rattle.pm_ends.specs.Numbers.{nth}
use Rattle.pm_history.specs.Stories.{Story}
use Rattle.pm_history.specs.declared.histories.Heard.{Heard}
use Rattle.pm_links.specs.Links.{Link}
use Rattle.pm_plan.specs.declared.plan.Plan.{Plan}
use Rattle.pm_sim.specs.Worlds.{clps_of, no_clp}
use Rattle.pm_cell.specs.Cores.{State, receivers_of, senders_to}
use Rattle.pm_cell.specs.Cores.State.{OfClp}
use Rattle.pm_cell.specs.Sides.{Flies, Side}
use Rattle.pm_ends.specs.declared.post.Post.{Post}

-- an end that receives: who sends there, the place of the other end among the sender's, and the link
pub record InWire : Type 0 where
  pub from : ℕ
  pub slot : ℕ
  pub link : Link

-- an end that sends: to whom, and the link
pub record OutWire : Type 0 where
  pub to : ℕ
  pub link : Link

-- what never changes of a cell: its plan, its number, its ends
pub record Frame : Type 0 where
  pub plan : Plan
  pub number : ℕ
  pub inns : List InWire
  pub outs : List OutWire

-- a cell: its frame; whether memory was wanting; its story since the last Commit; how many deliveries were made at it;
-- what it is now; what waits at its end from each process; and its window
pub record View (S : Type 0) : Type 0 where
  pub frame : Frame
  pub spoilt : Bool
  pub story : List Heard
  pub made : ℕ
  pub now : Side S
  pub waiting : ℕ → List Post
  pub window : Option Line

-- what stands behind the last cell
abbrev pub no_frame : Frame
no_frame = record {
  plan = record { horizon = 0; move_after = 0; clps = []; layout = record { classes = [] }; classes = []; vars = []; agents = [] };
  number = 0;
  inns = [];
  outs = [];
}

-- a process in that state that sent and received nothing
abbrev pub no_side : {S : Type 0} → S → Side S
no_side s = record { state = s; clock = 0; sent = λ a. []; received = λ b. [] }

-- a cell in that state, without ends, that heard nothing
abbrev pub no_view : {S : Type 0} → S → View S
no_view s = record {
  frame = no_frame;
  spoilt = false;
  story = [];
  made = 0;
  now = no_side s;
  waiting = λ b. [];
  window = None;
}

-- the cell of a number
abbrev pub view_at : {S : Type 0} → S → List (View S) → ℕ → View S
view_at s vs k = get_or vs k (no_view s)

-- what it is now
abbrev pub nows : {S : Type 0} → S → List (View S) → ℕ → Side S
nows s vs k = (view_at s vs k).now

-- the state that is looked up past the last cell
abbrev pub nobody : State
nobody = OfClp no_clp

-- the number of its process, and its story
abbrev pub story_of : {S : Type 0} → View S → Story
story_of v = record { process = v.frame.number; heard = v.story }

-- how many receipts the stories have
abbrev pub told : {S : Type 0} → List (View S) → ℕ
told [] = 0
told (v ∷ vs) = length v.story + told vs

-- the cells stand in order of their numbers
abbrev pub NumberedFrom : {S : Type 0} → ℕ → List (View S) → Type 0
NumberedFrom i [] = Unit {0}
NumberedFrom i (v ∷ vs) = (v.frame.number ≡ i) × NumberedFrom (suc i) vs

-- each link is drawn: what was sent over it is what was received and what waits there
abbrev pub Settled : {S : Type 0} → S → List (View S) → Type 0
Settled s vs = (a b : ℕ) → Flies (nows s vs a) (nows s vs b) a b ((view_at s vs a).waiting b)

-- the ends are those of the plan's links to that process and from it
pub record FitsPlan (p : Plan) (f : Frame) : Type 0 where
  pub plan : f.plan ≡ p
  pub froms : map (λ (x : InWire). x.from) f.inns ≡ senders_to p f.number
  pub tos : map (λ (x : OutWire). x.to) f.outs ≡ receivers_of p f.number

-- the out-end that the in-end of process a names is to process a, and of the same link
pub record IsWired {S : Type 0} (s : S) (vs : List (View S)) (a : ℕ) (x : InWire) : Type 0 where
  pub out : OutWire
  pub at : nth (view_at s vs x.from).frame.outs x.slot ≡ Some out
  pub to : out.to ≡ a
  pub link : x.link ≡ out.link

-- the cells of a plan, one for each process, in order of number, and their ends belong together
pub record AreCellsOf {S : Type 0} (s : S) (p : Plan) (vs : List (View S)) : Type 0 where
  pub numbers : NumberedFrom 0 vs
  pub count : length vs ≡ clps_of p + length p.agents
  pub fit : AllByRecursion (λ (v : View S). FitsPlan p v.frame) vs
  pub wired : (a j : ℕ) (x : InWire) → nth (view_at s vs a).frame.inns j ≡ Some x → IsWired s vs a x
