-- The runs of a plan whose processes go by other tables and whose agents act in other ways: with the tables as they are
-- and agents that act as the plan's, they are the plan's runs.
use Rattle.pm_alp.specs.declared.agent.Agent.{Agent}
use Rattle.std.proofs.Common.{◌≡◌, true, refl, ap, ◌∙◌, Bool, List, [], ◌∷◌, ◌++◌, map, set, get_or, Option, Some, None, ◌&&◌, ℕ}
use Rattle.pm_base.specs.declared.run.Event.{Event}
use Rattle.pm_base.specs.declared.run.Event.TheVariants as event
use Rattle.pm_base.specs.declared.rows.Entry.{Entry}
use Rattle.pm_base.specs.declared.stamp.Line.{Line}
use Rattle.pm_message.specs.declared.Message.{Message}
use Rattle.pm_plan.specs.declared.plan.Plan.{Plan}
use Rattle.pm_alp.specs.Agents.{Actor, Sends, agent_after, agent_committed, no_agent}
use Rattle.pm_clp.specs.Clps.{ClpSends, ClpState, Hub, clp_after, clp_committed}
use Rattle.pm_sim.specs.Worlds.{Link, Process, Taken, World, actor_of, addressed, after_event, committed_from, delivered, hands, has_mail, home, hub_of, is_legal_run, may_commit, no_clp, number, post_all, posted, process, take_from}
use Rattle.pm_sim.specs.Worlds.Process.{AtClp, AtAgent}

-- what an agent and a communication process do with a message, what a Commit does to a communication process, and where
-- one may stand
pub record Tables : Type 0 where
  pub agent : Actor → Agent → Message → Sends
  pub clp : Hub → ℕ → Message → ClpState → ClpSends
  pub trim : Line → ClpState → ClpState
  pub may : World → Line → Bool

abbrev pub right : Tables
right = record { agent = agent_after; clp = clp_after; trim = clp_committed; may = may_commit }

module _ (p : Plan) (t : Tables) (actors : ℕ → Actor) where
  abbrev arrives_by : World → Process → Process → Message → List Link → World
  arrives_by w (AtClp c) from m ls =
      let r : ClpSends = t.clp (hub_of p c) (number p from) m (get_or w.clps c no_clp) in
      record w { clps = set w.clps c r.clp; links = post_all (AtClp c) (map (posted p) r.sent) ls }
  arrives_by w (AtAgent a) from m ls =
      let r : Sends = t.agent (actors a) (get_or w.agents a no_agent) m in
      record w {
        agents = set w.agents a r.agent;
        links = post_all (AtAgent a) (map (addressed a (home p a)) r.sent) ls;
      }

  abbrev delivered_by : World → Process → Process → Option Taken → World
  delivered_by w to from None = w
  delivered_by w to from (Some t) = arrives_by w to from t.message t.links

  abbrev pub event_by : World → Event → World
  event_by w (event.Deliver to from) =
      delivered_by w (process p to) (process p from) (take_from (process p to) (process p from) w.links)
  event_by w (event.Commit l) = record {
    clps = map (t.trim l) w.clps;
    agents = map (agent_committed l) w.agents;
    links = w.links;
    line = l;
  }

  abbrev pub committed_by : World → List Event → List Entry
  committed_by w [] = []
  committed_by w (e ∷ es) = hands w e ++ committed_by (event_by w e) es

  abbrev legal_by : World → Event → Bool
  legal_by w (event.Deliver to from) = has_mail (take_from (process p to) (process p from) w.links)
  legal_by w (event.Commit l) = t.may w l

  abbrev pub legal_run_by : World → List Event → Bool
  legal_run_by w [] = true
  legal_run_by w (e ∷ es) = legal_by w e && legal_run_by (event_by w e) es

-- with the tables as they are, these are the plan's runs
module _ (p : Plan) where
  pub event_right : (w : World) (e : Event) → after_event p w e ≡ event_by p right (actor_of p) w e
  event_right w (event.Commit l) = refl
  event_right w (event.Deliver to from) =
      of_taken (process p to) (take_from (process p to) (process p from) w.links)
    where
      of_taken : (x : Process) (o : Option Taken)
          → delivered p w x (process p from) o ≡ delivered_by p right (actor_of p) w x (process p from) o
      of_taken x None = refl
      of_taken (AtClp c) (Some t) = refl
      of_taken (AtAgent a) (Some t) = refl

  from_right : (w : World) (es : List Event) → committed_from p w es ≡ committed_by p right (actor_of p) w es
  from_right w [] = refl
  from_right w (e ∷ es) = ap (λ z. hands w e ++ z)
      (ap (λ v. committed_from p v es) (event_right w e) ∙ from_right (event_by p right (actor_of p) w e) es)

  legal_right : (w : World) (es : List Event) → is_legal_run p w es ≡ legal_run_by p right (actor_of p) w es
  legal_right w [] = refl
  legal_right w (event.Commit l ∷ es) =
      ap (λ z. may_commit w l && z) (legal_right (event_by p right (actor_of p) w (event.Commit l)) es)
  legal_right w (event.Deliver to from ∷ es) =
      ap (λ z. has_mail (take_from (process p to) (process p from) w.links) && z)
      (ap (λ v. is_legal_run p v es) (event_right w (event.Deliver to from))
      ∙ legal_right (event_by p right (actor_of p) w (event.Deliver to from)) es)

-- agents that act as the plan's
module _ (p : Plan) (actors : ℕ → Actor) (same : (a : ℕ) → actor_of p a ≡ actors a) where
  pub committed_same : (t : Tables) (w : World) (es : List Event)
      → committed_by p t (actor_of p) w es ≡ committed_by p t actors w es
  committed_same t w es = ap (λ (f : ℕ → Actor). committed_by p t f w es) (λ i a. same a i)

  pub legal_run_same : (t : Tables) (w : World) (es : List Event)
      → legal_run_by p t (actor_of p) w es ≡ legal_run_by p t actors w es
  legal_run_same t w es = ap (λ (f : ℕ → Actor). legal_run_by p t f w es) (λ i a. same a i)

  pub from_same : (w : World) (es : List Event) → committed_from p w es ≡ committed_by p right actors w es
  from_same w es = from_right p w es ∙ committed_same right w es

  pub legal_same : (w : World) (es : List Event) → is_legal_run p w es ≡ legal_run_by p right actors w es
  legal_same w es = legal_right p w es ∙ legal_run_same right w es
