-- What a world delivers next to a process while a window holds awaited Wakes back.
use Rattle.std.specs.Prelude.{ℕ, ◌≡◌, false, true, List, ◌∷◌, Option}
use Rattle.pm_base.specs.Stamps.{stamp_lt}
use Rattle.pm_base.specs.declared.stamp.Line.{Line}
use Rattle.pm_message.specs.Messages.{stamp_of}
use Rattle.pm_message.specs.declared.Message.{Message}
use Rattle.pm_sim.specs.Bounds.{between}
use Rattle.pm_sim.specs.Ready.{held_back}
use Rattle.pm_sim.specs.Worlds.{Process, process}
use Rattle.pm_core.specs.Views.{WorldView}

-- the link to that process from that one has a first message, and the window lets it through
pub record IsFree (v : WorldView) (window : Option Line) (to from : ℕ) : Type 0 where
  pub message : Message
  pub rest : List Message
  pub first : between (process v.plan to) (process v.plan from) v.world.links ≡ message ∷ rest
  pub free : held_back v.world (λ _. window) (process v.plan to) message ≡ false

-- of the links to that process whose first message the window lets through, none has one with a lesser stamp
abbrev pub IsLeast : WorldView → Option Line → ℕ → ℕ → Type 0
IsLeast v window to from = (a : IsFree v window to from) (g : ℕ) (b : IsFree v window to g)
    → stamp_lt (stamp_of b.message) (stamp_of a.message) ≡ false

-- the window holds the first message of each link to that process back
abbrev pub IsHeld : WorldView → Option Line → ℕ → Type 0
IsHeld v window to =
    (from : Process) (m : Message) (rest : List Message) → between (process v.plan to) from v.world.links ≡ m ∷ rest
    → held_back v.world (λ _. window) (process v.plan to) m ≡ true
