-- Which link's first message comes first of all.
use Rattle.std.specs.Prelude.{ℕ, ◌<◌, ◌==◌, ◌≡◌, nat_lt, Bool, true, false, not, ◌&&◌, ◌||◌, if◌then◌else◌, List, ◌∷◌, Option, Some, None}
use Rattle.pm_base.specs.Stamps.{stamp_lt}
use Rattle.pm_base.specs.declared.stamp.Stamp.{Stamp}
use Rattle.pm_mail.specs.Links.{IsIdle, Link, comes_before, first_of, waiting}
use Rattle.pm_message.specs.Messages.{stamp_of}
use Rattle.pm_message.specs.declared.Message.{Message}
use Rattle.pm_message.specs.declared.Message.TheVariants as message
use Rattle.pm_sim.specs.Bounds.{between}
use Rattle.pm_sim.specs.Worlds.{process}
use Rattle.pm_core.specs.Views.{WorldView}
use Rattle.pm_core.specs.declared.fronts.Front.{Front}

-- the message is a Move
abbrev pub is_moving : Message → Bool
is_moving (message.Move v s r) = true
is_moving (message.Wake n s) = false
is_moving (message.Ask n s q) = false
is_moving (message.Put n s v c) = false
is_moving (message.Cut n s v) = false
is_moving (message.Give g) = false
is_moving (message.Finish n s) = false
is_moving (message.Grow k s u w) = false

-- the first message of the link to that process from that one
abbrev pub front_of : ℕ → ℕ → Message → Front
front_of to from m = record { stamp = stamp_of m; moves = is_moving m; to = to; from = from }

-- by receiver, then by sender
abbrev pub link_lt : Front → Front → Bool
link_lt a b = nat_lt a.to b.to || (a.to == b.to && nat_lt a.from b.from)

-- of one moment: a Move first, then by link
abbrev pub move_lt : Front → Front → Bool
move_lt a b = (a.moves && not b.moves) || (not (b.moves && not a.moves) && link_lt a b)

-- one link's first message comes before another's: by moment; of one moment, a Move first; then by link
abbrev pub front_lt : Front → Front → Bool
front_lt a b = stamp_lt a.stamp b.stamp || (not (stamp_lt b.stamp a.stamp) && move_lt a b)

-- the first message of that link comes before those of all other links
pub record IsLeastLink (v : WorldView) (to from : ℕ) : Type 0 where
  pub message : Message
  pub rest : List Message
  pub first : between (process v.plan to) (process v.plan from) v.world.links ≡ message ∷ rest
  pub least : (t f : ℕ) (m : Message) (more : List Message)
      → between (process v.plan t) (process v.plan f) v.world.links ≡ m ∷ more
      → front_lt (front_of t f m) (front_of to from message) ≡ false

-- ---- while it is looked for

-- the first message of that link where it is a Move and not later than that moment
abbrev pub move_of : ℕ → ℕ → Stamp → Option Message → Option Front
move_of to from s None = None
move_of to from s (Some m) = if is_moving m && not (stamp_lt s (stamp_of m)) then Some (front_of to from m) else None

-- the same, of the links with these messages
abbrev pub move_at : List Link → ℕ → Stamp → ℕ → Option Front
move_at ls to s from = move_of to from s (first_of (waiting to from ls))

-- it is the first message of a link
pub record IsFront (ls : List Link) (a : Front) : Type 0 where
  pub message : Message
  pub first : first_of (waiting a.to a.from ls) ≡ Some message
  pub is : a ≡ front_of a.to a.from message

-- only communication processes, of which there are so many, send Moves to one another
abbrev pub MovesWithin : ℕ → ℕ → ℕ → Message → Type 0
MovesWithin clps t f m = is_moving m ≡ true → (t < clps) × (f < clps)

-- the first message of that link doesn't come before this
abbrev pub IsNotBefore : List Link → ℕ → Front → ℕ → ℕ → Type 0
IsNotBefore ls clps a t f = (m : Message) → first_of (waiting t f ls) ≡ Some m → MovesWithin clps t f m
    → front_lt (front_of t f m) a ≡ false

-- of the links to that process, it is the one whose first message comes first by moment, then by sender
pub record IsNextTo (ls : List Link) (to : ℕ) (a : Front) : Type 0 where
  pub here : a.to ≡ to
  pub front : IsFront ls a
  pub next : (f : ℕ) (m : Message) → first_of (waiting to f ls) ≡ Some m
      → comes_before (stamp_of m) f a.stamp a.from ≡ false

-- of the links to that process, it is the one whose first message comes first
pub record LeadsTo (ls : List Link) (clps to : ℕ) (a : Front) : Type 0 where
  pub here : a.to ≡ to
  pub front : IsFront ls a
  pub least : (f : ℕ) → IsNotBefore ls clps a to f

-- of the links to the processes below that number, it is the one whose first message comes first
pub record LeadsBelow (ls : List Link) (clps k : ℕ) (a : Front) : Type 0 where
  pub front : IsFront ls a
  pub least : (t f : ℕ) → t < k → IsNotBefore ls clps a t f

-- the same, where one of them has a message; else none has
pub record IsBest (ls : List Link) (clps k : ℕ) (best : Option Front) : Type 0 where
  pub some : (a : Front) → best ≡ Some a → LeadsBelow ls clps k a
  pub none : best ≡ None → (t : ℕ) → t < k → IsIdle t ls
