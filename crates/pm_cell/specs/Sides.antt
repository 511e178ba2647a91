-- What a process tells of itself: its clock, and all that it sent and received since the run began.
use Rattle.std.specs.Prelude.{ℕ, suc, max, ◌==◌, ◌≡◌, ◌≤◌, true, false, if◌then◌else◌, List, [], ◌∷◌, ◌++◌, map, Option}
use Rattle.std.specs.List.{AllByRecursion}
use Rattle.pm_base.specs.declared.stamp.Line.{Line}
use Rattle.pm_history.specs.declared.histories.Heard.{Heard}
use Rattle.pm_message.specs.declared.Message.{Message}
use Rattle.pm_cell.specs.Machines.{Machine}
use Rattle.pm_ends.specs.declared.post.Post.{Post}

-- a process: its state, its clock, all that it sent to each process, and all that it received from each
pub record Side (S : Type 0) : Type 0 where
  pub state : S
  pub clock : ℕ
  pub sent : ℕ → List Post
  pub received : ℕ → List Post

-- the clock at a receipt: one more than the greater of the one that the message carries and the own
abbrev pub raised : ℕ → ℕ → ℕ
raised carried own = suc (max carried own)

-- a message with its sender's clock
abbrev pub stamped : ℕ → Message → Post
stamped c m = record { message = m; clock = c }

-- the messages alone
abbrev pub messages : List Post → List Message
messages posts = map (λ (x : Post). x.message) posts

-- of what b sent to a, a received all but these
abbrev pub Flies : {S : Type 0} → Side S → Side S → ℕ → ℕ → List Post → Type 0
Flies at_a at_b a b flight = at_b.sent a ≡ at_a.received b ++ flight

module _ {W S : Type 0} (core : Machine W S) where
  -- process k after it heard the post from a process: its clock is raised, and what it sends carries that clock
  abbrev pub after : ℕ → ℕ → Post → Side S → Side S
  after k from x s = record {
    state = core.act k s.state from x.message;
    clock = raised x.clock s.clock;
    sent = λ a. s.sent a ++ map (stamped (raised x.clock s.clock)) (core.sends k s.state from x.message a);
    received = λ b. if b == from then s.received b ++ x ∷ [] else s.received b;
  }

  -- with this window process k came from s to t by hearing what its story tells: each receipt has the raised clock, and
  -- is of a post that the window let through
  abbrev pub Replays : Option Line → ℕ → List Heard → Side S → Side S → Type 0
  Replays window k [] s t = t ≡ s
  Replays window k (h ∷ hs) s t =
      (x : Post) × (h.clock ≡ raised x.clock s.clock) × (core.holds window k s.state x.message ≡ false)
      × Replays window k hs (after k h.from x s) t

  -- sides stand for a world: each process is in its state there, and each link has what was sent and not received
  pub record StandFor (sides : ℕ → Side S) (w : W) : Type 0 where
    pub states : (k : ℕ) → core.has w k ≡ true → core.state w k ≡ (sides k).state
    pub links : (a b : ℕ) → (flight : List Post)
        × Flies (sides a) (sides b) a b flight × (core.link w a b ≡ messages flight)

-- no clock, of the process or on a message that it sent, is above n
pub record ClocksBelow {S : Type 0} (n : ℕ) (s : Side S) : Type 0 where
  pub own : s.clock ≤ n
  pub sent : (a : ℕ) → AllByRecursion (λ (x : Post). x.clock ≤ n) (s.sent a)
