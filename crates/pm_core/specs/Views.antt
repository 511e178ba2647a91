-- What contracts see of a world.
use Rattle.std.specs.Prelude.{ℕ, suc, ◌+◌, ◌≤◌, ◌≡◌, Bool, false, List, map, sum_by, Some, slice_get, Option, None, take}
use Rattle.std.specs.List.{list_any}
use Rattle.pm_base.specs.declared.rows.Entry.{Entry}
use Rattle.pm_base.specs.declared.run.Event.{Event}
use Rattle.pm_base.specs.declared.stamp.Line.{Line}
use Rattle.pm_base.specs.declared.run.Event.TheVariants as event
use Rattle.pm_clp.specs.Views.{ClpView}
use Rattle.pm_mail.specs.Links.{Link as Lane}
use Rattle.pm_plan.specs.Plans.{IsValid}
use Rattle.pm_plan.specs.declared.plan.AgentRow.{AgentRow}
use Rattle.pm_plan.specs.declared.plan.Plan.{Plan}
use Rattle.pm_sim.specs.Journals.{made}
use Rattle.pm_sim.specs.Played.{play}
use Rattle.pm_sim.specs.Reached.{Reached}
use Rattle.pm_sim.specs.Worlds.{World, after_event, commit, first_world, hub_of, is_legal, is_link, process}
use Rattle.pm_alp.specs.Views.{Process as AlpView}
use Rattle.pm_core.specs.Firsts.{fixed_at}
use Rattle.pm_core.specs.Mails.{links_of}
use Rattle.pm_core.specs.declared.arrivals.Processes.{Processes}

-- the plan, the world that it has come to, how many deliveries were made, and whether memory was wanting in one
pub record WorldView : Type 0 where
  pub plan : Plan
  pub world : World
  pub made : ℕ
  pub spoilt : Bool

-- the world of these processes, the messages on their way, and the line
abbrev pub world_of : Processes → List Lane → Line → World
world_of s mail l = record {
  clps = map (λ (c : ClpView). c.clp) s.clps.items;
  agents = map (λ (a : AlpView). a.agent) s.alps.items;
  links = links_of s.plan.now mail;
  line = l;
}

-- the world of a plan before its first event
abbrev pub first_view : Plan → WorldView
first_view p = record { plan = p; world = first_world p; made = 0; spoilt = false }

-- whether there is a link to that process from that one
abbrev pub has_link : WorldView → ℕ → ℕ → Bool
has_link v to from = list_any (is_link (process v.plan to) (process v.plan from)) v.world.links

-- whether the first message of that link may be delivered: whether it has one
abbrev pub has_mail : WorldView → ℕ → ℕ → Bool
has_mail v to from = is_legal v.plan v.world (event.Deliver to from)

-- the world after that delivery
abbrev pub delivered : WorldView → ℕ → ℕ → WorldView
delivered v to from =
    record v { world = after_event v.plan v.world (event.Deliver to from); made = suc v.made }

-- the world after a Commit
abbrev pub committed : WorldView → Line → WorldView
committed v l = record v { world = commit v.world l }

-- the place of a communication process is its own in the plan, and memory was not wanting
pub record IsClpOf (p : Plan) (c : ℕ) (v : ClpView) : Type 0 where
  pub hub : v.hub ≡ hub_of p c
  pub well : v.spoilt ≡ false

-- an agent's process is that of its row in the plan, and memory was not wanting
pub record IsAlpOf (p : Plan) (i : ℕ) (v : AlpView) : Type 0 where
  pub fixed : (a : AgentRow) → slice_get p.agents i ≡ Some a → v.fixed ≡ fixed_at p i a
  pub well : v.spoilt ≡ false

-- how many deliveries were made at these processes
abbrev pub made_at : Processes → ℕ
made_at s = sum_by (λ (c : ClpView). c.made) s.clps.items + sum_by (λ (a : AlpView). a.made) s.alps.items

-- the processes are those of the plan; a legal run led to the world, with as many deliveries as they count; and these
-- are few
pub record Stands (s : Processes) (w : World) (n : ℕ) : Type 0 where
  pub clps : (c : ℕ) (v : ClpView) → slice_get s.clps.items c ≡ Some v → IsClpOf s.plan.now c v
  pub alps : (i : ℕ) (v : AlpView) → slice_get s.alps.items i ≡ Some v → IsAlpOf s.plan.now i v
  pub counts : made_at s ≡ n
  pub few : n ≤ 20000000
  pub reached : Reached s.plan.now n w

-- the plan is valid; and so it stands, unless memory was wanting
pub record IsWorld (s : Processes) (w : World) (n : ℕ) (spoilt : Bool) : Type 0 where
  pub valid : IsValid s.plan.now
  pub stands : spoilt ≡ false → Stands s w n

-- the world after an event
abbrev pub happened : WorldView → Event → WorldView
happened v (event.Deliver to from) = delivered v to from
happened v (event.Commit l) = committed v l

-- of these events, those that were done where one wasn't legal after so many
abbrev pub done_of : Option ℕ → List Event → List Event
done_of None es = es
done_of (Some n) es = take n es

-- playing these events came to this world, with these entries, and stopped there; the deliveries that were made count
pub record PlayedWell (old new : WorldView) (es : List Event) (entries : List Entry) (stopped : Option ℕ) : Type 0 where
  pub plan : new.plan ≡ old.plan
  pub played : record { world = new.world; entries = entries; stopped = stopped } ≡ play old.plan old.world es
  pub made : new.made ≡ old.made + made (done_of stopped es)
  pub spoilt : new.spoilt ≡ old.spoilt
