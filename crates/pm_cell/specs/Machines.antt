-- Processes with links between them, as the cell of one process sees them. Processes are numbers; a link goes to one
-- from another.
use Rattle.std.specs.Prelude.{ℕ, Bool, List, Option}
use Rattle.pm_base.specs.declared.stamp.Line.{Line}
use Rattle.pm_message.specs.declared.Message.{Message}

-- what the processes do, and what a world has of them
pub record Machine (W S : Type 0) : Type 0 where
  -- what process k in state s becomes at a message from a process
  pub act : ℕ → S → ℕ → Message → S
  -- what it then sends to each process, in order
  pub sends : ℕ → S → ℕ → Message → ℕ → List Message
  -- what process k in state s becomes at a Commit at a line
  pub commits : Line → ℕ → S → S
  -- whether a window keeps the message of process k in state s back
  pub holds : Option Line → ℕ → S → Message → Bool
  -- whether process k in state s, after so many deliveries, takes a message from a process
  pub takes : ℕ → ℕ → S → ℕ → Message → Bool
  -- a world: which processes it has, their states, and the messages in the link to a process from another
  pub has : W → ℕ → Bool
  pub state : W → ℕ → S
  pub link : W → ℕ → ℕ → List Message
  -- the world after the first message of the link to a process from another was delivered, and after a Commit
  pub deliver : W → ℕ → ℕ → W
  pub commit : W → Line → W
