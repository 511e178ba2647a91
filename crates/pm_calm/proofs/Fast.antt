-- The lowest run of a plan whose agents act in other ways: with agents that act as the plan's, it is the plan's.
use Rattle.std.proofs.Common.{◌≡◌, ℕ, zero, suc, Bool, true, false, List, [], ◌∷◌, ◌++◌, map, get_or, set, refl, ap, ◌∙◌, Option, Some, None}
use Rattle.pm_base.specs.declared.run.Event.{Event}
use Rattle.pm_base.specs.declared.run.Event.TheVariants as event
use Rattle.pm_base.specs.declared.stamp.Line.TheVariants as line
use Rattle.pm_message.specs.declared.Message.{Message}
use Rattle.pm_plan.specs.declared.plan.Plan.{Plan}
use Rattle.pm_alp.specs.Agents.{Actor, Sends, agent_after, no_agent}
use Rattle.pm_clp.specs.Clps.{ClpSends, clp_after}
use Rattle.pm_sim.specs.Worlds.{Link, Mail, Process, Taken, World, actor_of, addressed, deliver, delivered, first_world, home, hub_of, no_clp, number, post_all, posted, take_from}
use Rattle.pm_sim.specs.Worlds.Process.{AtAgent, AtClp}
use Rattle.pm_calm.specs.Lowest.{commits, least_mail, lowest, lowest_from, opened, opening}

module _ (p : Plan) (actors : ℕ → Actor) where
  abbrev arrives_with : World → Process → Process → Message → List Link → World
  arrives_with w (AtClp c) from m ls =
      let r : ClpSends = clp_after (hub_of p c) (number p from) m (get_or w.clps c no_clp) in
      record w { clps = set w.clps c r.clp; links = post_all (AtClp c) (map (posted p) r.sent) ls }
  arrives_with w (AtAgent a) from m ls =
      let r : Sends = agent_after (actors a) (get_or w.agents a no_agent) m in
      record w {
        agents = set w.agents a r.agent;
        links = post_all (AtAgent a) (map (addressed a (home p a)) r.sent) ls;
      }

  abbrev delivered_with : World → Process → Process → Option Taken → World
  delivered_with w to from None = w
  delivered_with w to from (Some t) = arrives_with w to from t.message t.links

  abbrev deliver_with : World → Process → Process → World
  deliver_with w to from = delivered_with w to from (take_from to from w.links)

  abbrev pub lowest_with : ℕ → World → Bool → Option Mail → List Event
  lowest_with budget w begun None = event.Commit line.End ∷ []
  lowest_with zero w begun (Some x) = opening (commits begun w) w
  lowest_with (suc budget) w begun (Some x) =
      let u : World = opened (commits begun w) w in
      let next : World = deliver_with u x.to x.from in
      opening (commits begun w) w
      ++ event.Deliver (number p x.to) (number p x.from) ∷ lowest_with budget next true (least_mail p next)

module _ (p : Plan) where
  deliver_right : (w : World) (to from : Process) → deliver p w to from ≡ deliver_with p (actor_of p) w to from
  deliver_right w to from = go to (take_from to from w.links)
    where
      go : (x : Process) (o : Option Taken) → delivered p w x from o ≡ delivered_with p (actor_of p) w x from o
      go x None = refl
      go (AtClp c) (Some t) = refl
      go (AtAgent a) (Some t) = refl

  lowest_right : (budget : ℕ) (w : World) (begun : Bool) (o : Option Mail)
      → lowest_from budget p w begun o ≡ lowest_with p (actor_of p) budget w begun o
  lowest_right budget w begun None = refl
  lowest_right zero w begun (Some x) = refl
  lowest_right (suc budget) w begun (Some x) =
      let u : World = opened (commits begun w) w in
      let next : World = deliver_with p (actor_of p) u x.to x.from in
      ap (λ v. opening (commits begun w) w
      ++ event.Deliver (number p x.to) (number p x.from) ∷ lowest_from budget p v true (least_mail p v))
      (deliver_right u x.to x.from)
      ∙ ap (λ z. opening (commits begun w) w ++ event.Deliver (number p x.to) (number p x.from) ∷ z)
      (lowest_right budget next true (least_mail p next))

pub lowest_same : (p : Plan) (actors : ℕ → Actor) → ((a : ℕ) → actor_of p a ≡ actors a) → (budget : ℕ)
    → lowest budget p ≡ lowest_with p actors budget (first_world p) false (least_mail p (first_world p))
lowest_same p actors same budget =
    lowest_right p budget (first_world p) false (least_mail p (first_world p))
    ∙ ap (λ (f : ℕ → Actor). lowest_with p f budget (first_world p) false (least_mail p (first_world p)))
    (λ i a. same a i)
