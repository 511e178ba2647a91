-- A turn of a cell as it is held: which item may be delivered, and what its delivery makes of the cell.
use Rattle.std.specs.Prelude.{ℕ, ◌+◌, ◌^◌, ◌<◌, ◌≡◌, ◌⊎◌, ◌==◌, ◌&&◌, Bool, true, false, not, nat_lt, if◌then◌else◌}
use Rattle.std.specs.Prelude.{List, [], ◌∷◌, ◌++◌, map, Option, Some, None, IfSome}
use Rattle.pm_base.specs.Stamps.{stamp_lt}
use Rattle.pm_base.specs.declared.stamp.Stamp.{Stamp}
use Rattle.pm_core.specs.Mails.{receiver}
use Rattle.pm_core.specs.declared.process.Process.{Process}
use Rattle.pm_ends.specs.Ends.{AllGrew, Inn, Out, Took, first_of, post_stamp, received_in, sent_in, waiting_in}
use Rattle.pm_ends.specs.Ends.{sent_to as sent_over_end}
use Rattle.pm_ends.specs.Numbers.{Begins, nth}
use Rattle.pm_ends.specs.declared.post.Post.{Post}
use Rattle.pm_message.specs.declared.Message.{Message}
use Rattle.pm_plan.specs.declared.plan.Plan.{Plan}
use Rattle.pm_queries.specs.declared.registered.Sent.{Sent}
use Rattle.pm_cell.specs.Cores.{acts, core, sent_over}
use Rattle.pm_cell.specs.Helds.{Held, IsProcessOf, in_wire, made_of, out_wire, state_of, view_of}
use Rattle.pm_cell.specs.Sides.{raised, stamped}
use Rattle.pm_cell.specs.Stands.{CellView}
use Rattle.pm_cell.specs.declared.choosing.Front.{Front}
use Rattle.pm_sim.specs.Worlds.{process}

-- the item may be delivered: its clock and the cell's are within reach, the window lets it through, and the process
-- takes it
abbrev pub is_ready : CellView → ℕ → Post → Bool
is_ready v from x =
    (nat_lt x.clock (2 ^ 63) && nat_lt v.now.clock (2 ^ 63))
    && (not ((core v.frame.plan).holds v.window v.frame.number v.now.state x.message)
    && (core v.frame.plan).takes v.frame.number v.made v.now.state from x.message)

-- the moment of an item, where it may be delivered
abbrev pub stamp_first : CellView → ℕ → Option Post → Option Stamp
stamp_first v from None = None
stamp_first v from (Some x) = if is_ready v from x then Some (post_stamp x) else None

-- of the first item of an end, where there is one
abbrev pub stamp_end : CellView → Option Inn → Option Stamp
stamp_end v None = None
stamp_end v (Some i) = stamp_first v i.from (first_of i.waiting)

-- of the first item of the in-end at that place
abbrev pub stamp_at : ℕ → Held → Option Stamp
stamp_at at h = stamp_end (view_of h) (nth h.inns at)

-- the in-end at that place is the one whose first item is heard next: of those that may be delivered it has the least
-- moment, and of those with that moment the first end
pub record IsNext (h : Held) (at : ℕ) : Type 0 where
  pub stamp : Stamp
  pub ready : stamp_at at h ≡ Some stamp
  pub least : (i : ℕ) (t : Stamp) → stamp_at i h ≡ Some t → stamp_lt t stamp ≡ false
  pub first : (i : ℕ) (t : Stamp) → i < at → stamp_at i h ≡ Some t → stamp_lt stamp t ≡ true

-- a front is as it was, and not after the item of a place behind it; or it is that of the place, which comes before
-- what was the front
abbrev pub IsSooner : Option Front → ℕ → Option Stamp → Front → Type 0
IsSooner next at stamp f =
    ((next ≡ Some f) × IfSome stamp (λ s. stamp_lt s f.stamp ≡ false))
    ⊎ ((f.at ≡ at) × (stamp ≡ Some f.stamp) × IfSome next (λ g. stamp_lt f.stamp g.stamp ≡ true))

-- the first item from that process was handed out, and more may have come to each end
pub record TookFrom (from : ℕ) (x : Post) (xs ys : List Inn) : Type 0 where
  pub received : (b : ℕ) → received_in ys b ≡ (if b == from then received_in xs b ++ x ∷ [] else received_in xs b)
  pub first : Begins (waiting_in xs from) (x ∷ waiting_in ys from)
  pub others : (b : ℕ) → (b ≡ from → ⊥) → Begins (waiting_in xs b) (waiting_in ys b)
  pub wires : map in_wire ys ≡ map in_wire xs

-- the first item of the in-end at that place, which is that process's and may be delivered, was taken
pub record TookNext (at from : ℕ) (x : Post) (h : Held) (ys : List Inn) : Type 0 where
  pub took : Took at x h.inns ys
  pub sender : took.was.from ≡ from
  pub item : TookFrom from x h.inns ys
  pub ready : is_ready (view_of h) from x ≡ true

-- the in-ends as they were when the cell chose, after more may have come to each; the item that was to be heard next was
-- taken
pub record ChoseNext (from : ℕ) (x : Post) (h : Held) (ys : List Inn) : Type 0 where
  pub known : List Inn
  pub grew : AllGrew h.inns known
  pub at : ℕ
  pub next : IsNext (record h { inns = known }) at
  pub took : TookNext at from x (record h { inns = known }) ys

-- a turn heard the soonest message: when it chose, each in-end held as known what it had held before the turn and perhaps
-- more; of the first items that might be delivered then it heard the one of least moment, at one moment the one of the
-- least sender, and the receipt names that sender
pub record HeardSoonest (a b : Held) : Type 0 where
  pub known : List Inn
  pub grew : AllGrew a.inns known
  pub at : ℕ
  pub next : IsNext (record a { inns = known }) at
  pub post : Post
  pub took : Took at post known b.inns
  pub story : b.story ≡ a.story ++ record { clock = b.clock; from = took.was.from } ∷ []

-- what a communication process sends goes over the out-ends, in order, with that clock
abbrev pub sent_all : ℕ → List Sent → List Out → List Out
sent_all c [] os = os
sent_all c (s ∷ ss) os = sent_all c ss (sent_over_end s.to (stamped c s.message) os)

-- and what an agent's process of that number and home sends
abbrev pub told_all : ℕ → ℕ → ℕ → List Message → List Out → List Out
told_all c own home [] os = os
told_all c own home (m ∷ ms) os = told_all c own home ms (sent_over_end (receiver own home m) (stamped c m) os)

-- process k of the plan took a message, and sent what it then sends with that clock
pub record Acted (p : Plan) (k from : ℕ) (x : Post) (a b : Process) (os us : List Out) : Type 0 where
  pub fits : IsProcessOf p k b
  pub state : state_of b ≡ acts p (process p k) (state_of a) from x.message
  pub made : made_of b ≡ made_of a + 1
  pub sent : (t : ℕ) → sent_in us t ≡ sent_in os t ++ map (stamped x.clock)
      (sent_over p k (state_of a) from x.message t)

-- the cell heard an item from that process: its process took it, its clock was raised, and its story has the receipt
pub record HeardIt (from : ℕ) (x : Post) (a b : Held) : Type 0 where
  pub clock : b.clock ≡ raised x.clock a.clock
  pub state : state_of b.process ≡ acts a.plan (process a.plan a.number) (state_of a.process) from x.message
  pub made : made_of b.process ≡ made_of a.process + 1
  pub sent : (t : ℕ) → sent_in b.outs t ≡ sent_in a.outs t ++ map (stamped b.clock)
      (sent_over a.plan a.number (state_of a.process) from x.message t)
  pub story : b.story ≡ a.story ++ record { clock = b.clock; from = from } ∷ []
  pub spoilt : b.spoilt ≡ false

-- what no hearing changes, whether there was memory or not
pub record StaysAt (a b : Held) : Type 0 where
  pub plan : b.plan ≡ a.plan
  pub number : b.number ≡ a.number
  pub inns : b.inns ≡ a.inns
  pub outs : map out_wire b.outs ≡ map out_wire a.outs
  pub window : b.window ≡ a.window
