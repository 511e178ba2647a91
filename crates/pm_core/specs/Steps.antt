-- What the arrival of a message makes of the processes and of the messages on their way.
use Rattle.std.specs.Prelude.{ℕ, ◌+◌, ◌-◌, ◌<◌, ◌≤◌, ◌≡◌, ◌⊎◌, ◌^◌, true, false, List, set, length, Some, slice_get}
use Rattle.pm_clp.specs.Clps.{clp_after}
use Rattle.pm_clp.specs.Takes.{takes}
use Rattle.pm_clp.specs.Views.{ClpView}
use Rattle.pm_mail.specs.Links.{Link as Lane}
use Rattle.pm_message.specs.declared.Message.{Message}
use Rattle.pm_sim.specs.Worlds.{clps_of, home}
use Rattle.pm_alp.specs.Views.{delivered, sent_by}
use Rattle.pm_alp.specs.Views.{Process as AlpView}
use Rattle.pm_core.specs.Mails.{posted_all, told_all}
use Rattle.pm_core.specs.declared.arrivals.Processes.{Processes}

-- a communication process that takes this message from that process
pub record Takes (v : ClpView) (from : ℕ) (m : Message) : Type 0 where
  pub well : v.spoilt ≡ false
  pub takes : takes v.hub v.made v.clp from m ≡ true

-- an agent's process that takes a message
pub record IsOpen (v : AlpView) : Type 0 where
  pub well : v.spoilt ≡ false
  pub few : v.made < 20000000

-- the communication process of this number took the message, and what it sends went to the ends of its links
pub record ClpDid (old new : Processes) (before after : List Lane) (to from : ℕ) (m : Message) : Type 0 where
  pub was : ClpView
  pub at : slice_get old.clps.items to ≡ Some was
  pub now : ClpView
  pub hub : now.hub ≡ was.hub
  pub state : now.clp ≡ (clp_after was.hub from m was.clp).clp
  pub made : now.made ≡ was.made + 1
  pub well : now.spoilt ≡ false
  pub clps : new.clps.items ≡ set old.clps.items to now
  pub alps : new.alps.items ≡ old.alps.items
  pub mail : after ≡ posted_all to (clp_after was.hub from m was.clp).sent before

-- the process of this agent took the message, and what it sends went to the ends of its links
pub record AlpDid (old new : Processes) (before after : List Lane) (agent : ℕ) (m : Message) : Type 0 where
  pub was : AlpView
  pub at : slice_get old.alps.items agent ≡ Some was
  pub alps : new.alps.items ≡ set old.alps.items agent (delivered m was)
  pub clps : new.clps.items ≡ old.clps.items
  pub mail : after ≡ told_all (clps_of old.plan.now + agent) (home old.plan.now agent) (sent_by m was) before

-- the message's receiver is there, and takes it
pub record CanArrive (s : Processes) (to from : ℕ) (m : Message) : Type 0 where
  pub clp : (v : ClpView) → slice_get s.clps.items to ≡ Some v → Takes v from m
  pub alp : (v : AlpView) → length s.clps.items ≤ to
      → slice_get s.alps.items (to - length s.clps.items) ≡ Some v → IsOpen v
  pub low : length s.clps.items ≤ to → to - length s.clps.items < length s.alps.items
  pub all : length s.clps.items ≡ clps_of s.plan.now
  pub few : clps_of s.plan.now < 2 ^ 31
  pub small : length s.alps.items < 2 ^ 31

-- the receiver took the message
abbrev pub Arrived : Processes → Processes → List Lane → List Lane → ℕ → ℕ → Message → Type 0
Arrived old new before after to from m =
    ((to < length old.clps.items) × ClpDid old new before after to from m)
    ⊎ ((length old.clps.items ≤ to) × AlpDid old new before after (to - length old.clps.items) m)
