-- Every message stands in a link that is there, and suits its sender.
use Rattle.std.proofs.Common.{List, None, Option, Some, [], ap, arith, cond, false, get_or, get_or-set_other, get_or-set_same, inl, inr, length, map, refl, set, subst, sym, true, ℕ, ◌++◌, ◌+◌, ◌<◌, ◌==◌, ◌∙◌, ◌∷◌, ◌≡◌}
use Rattle.std.proofs.lemmas.Bool.{and_parts, cases_eq, cases_lt}
use Rattle.std.proofs.lemmas.Bool.Decides.{nat_tests}
use Rattle.std.proofs.lemmas.List.{get_or-map, length-map}
use Rattle.pm_base.specs.declared.rows.Entry.{Entry}
use Rattle.pm_base.specs.declared.rows.GiveRow.{GiveRow}
use Rattle.pm_base.specs.declared.rows.Parts.{Parts}
use Rattle.pm_base.specs.declared.run.Event.{Event}
use Rattle.pm_base.specs.declared.stamp.Line.{Line}
use Rattle.pm_base.specs.declared.stamp.Stamp.{Stamp}
use Rattle.pm_base.specs.declared.value.Window.{Window}
use Rattle.pm_message.specs.Messages.{stamp_of}
use Rattle.pm_message.specs.declared.Message.{Message}
use Rattle.pm_plan.specs.Plans.{parents}
use Rattle.pm_plan.specs.Trees.{hop}
use Rattle.pm_plan.specs.declared.plan.Plan.{Plan}
use Rattle.pm_plan.specs.declared.plan.VarRow.{VarRow}
use Rattle.pm_model.specs.declared.State.{State}
use Rattle.pm_saved.specs.Spots.{find}
use Rattle.pm_alp.specs.Agents.{agent_after, no_agent}
use Rattle.pm_alp.specs.declared.agent.Agent.{Agent}
use Rattle.pm_clp.specs.Clps.{ClpState, clp_after, clp_committed, floor_of, rec_at}
use Rattle.pm_sim.proofs.Edges.{GiveIn, MoveSoon, NamesIn, PortsOk, Sound, VarIn, clp_out}
use Rattle.pm_sim.proofs.Firsts.{PlanFits, clp_is, mail_is, no_var}
use Rattle.pm_sim.proofs.Letters.{delivered_bag, in_map, map_in, message_of, taken}
use Rattle.pm_sim.proofs.Lines.{get_past}
use Rattle.pm_sim.proofs.Lists.{each_in}
use Rattle.pm_sim.proofs.Places.{Sim, clp_at, lift, process_agent, process_clp, towards_at}
use Rattle.pm_sim.proofs.Sends.{Out, finish_out, give_out, wake_out}
use Rattle.pm_sim.proofs.Ways.{WaysIn, clp_ways}
use Rattle.pm_sim.proofs.Wholes.{Whole, commit_whole, deliver_whole}
use Rattle.pm_sim.specs.Routings.{FitsAt, ForAgent, ForClp, TreeOk, mail_to, toward}
use Rattle.pm_sim.specs.Sims.{In, MailOk, class_at, num_of, vars_of}
use Rattle.pm_sim.specs.Worlds.{Mail, Posted, Process, Taken, World, actor_of, addressed, after_events, arrives, clps_of, commit, deliver, delivered, first_way, first_world, handed, home, hub_of, is_legal, is_legal_run, mail, may_commit, no_clp, number, ports, posted, process, take_from, to_agents, towards}
use Rattle.pm_sim.specs.Worlds.Process.{AtAgent, AtClp}
use Rattle.pm_base.specs.declared.run.Event.TheVariants as event
use Rattle.pm_message.specs.declared.Message.TheVariants as message
use Rattle.pm_base.specs.declared.value.Query.TheVariants as query
use Rattle.pm_routes.specs.declared.way.Way.TheVariants as way

-- there is a link to `to` from `from`

abbrev pub LinkOk : Plan → Process → Process → Type 0
LinkOk p (AtClp c) (AtClp d) = In d (ports p c)
LinkOk p (AtClp c) (AtAgent a) = home p a ≡ c
LinkOk p (AtAgent a) (AtClp c) = home p a ≡ c
LinkOk p (AtAgent a) (AtAgent b) = a ≡ b

-- what comes from an agent
abbrev pub Says : Message → Type 0
Says (message.Wake k z) = Unit {0}
Says (message.Ask k z y) = Unit {0}
Says (message.Put r_n r_t v r_c) = Unit {0}
Says (message.Cut r_n r_t v) = Unit {0}
Says (message.Give g) = ⊥
Says (message.Finish k z) = ⊥
Says (message.Move v z r) = ⊥
Says (message.Grow j z u w) = ⊥

-- what comes from a process: from a CLP no Wake
abbrev pub Suits : ℕ → Process → Message → Type 0
Suits n (AtClp c) m = GiveIn (λ j. Unit {0}) (λ z. Unit {0}) n m
Suits n (AtAgent a) m = Says m

pub suits_give : (n : ℕ) (f : Process) (g : GiveRow) → Suits n f (message.Give g) → g.var < n
suits_give n (AtClp c) g s = s
suits_give n (AtAgent a) g s = absurd s

pub suits_grow : (n : ℕ) (f : Process) (j : ℕ) (z : Stamp) (u : Option Stamp) (x : Window)
    → Suits n f (message.Grow j z u x) → Sound x
suits_grow n (AtClp c) j z u x s = s.0
suits_grow n (AtAgent a) j z u x s = absurd s

-- each letter is in a link that is there, and suits its sender; the ways of each CLP lead over its tree ports
pub record Linked (p : Plan) (w : World) : Type 0 where
  pub mail : (x : Mail) → In x (mail w.links) → LinkOk p x.to x.from × Suits (vars_of p) x.from x.message
  pub ways : (c : ℕ) → c < clps_of p → WaysIn (ports p c) (clp_at w c).routing

module _ (p : Plan) (q : State) (w : World) (recs : ℕ → Parts) (sim : Sim p q w recs) where
  -- what an agent sends is its own
  pub agent_out : (a : ℕ) (f : Process) (m : Message)
      → In (mail_to (AtAgent a) f m) (mail w.links) → ForAgent a m → (y : Message)
      → In y (agent_after (actor_of p a) (get_or w.agents a no_agent) m).sent → (k : ℕ) × Out a k (length q.values) y
  agent_out a f (message.Wake k z) i fit y j =
      let ok = (sim.core.mail (message.Wake k z) (map_in message_of (mail w.links) _ i)).0 in
      let lt : a < length w.agents = subst (λ x. x < length w.agents) fit (sim.core.fresh _ ok).0 in
      let ag : Agent = get_or w.agents a no_agent in (
        ag.seq,
        each_in (Out a ag.seq (length q.values))
            _ y (wake_out p (length q.values) a (sim.plan a lt) ag k ag.awaited).each j,
      )
  agent_out a f (message.Give g) i fit y j =
      let ok = (sim.core.mail (message.Give g) (map_in message_of (mail w.links) _ i)).0 in
      let lt : a < length w.agents = subst (λ x. x < length w.agents) fit (sim.core.fresh _ ok.1).0 in
      let ag : Agent = get_or w.agents a no_agent in (
        ag.seq,
        each_in (Out a ag.seq (length q.values))
            _ y (give_out p (length q.values) a (sim.plan a lt) ag g (find g.num ag.steps)).each j,
      )
  agent_out a f (message.Finish k z) i fit y j =
      let ok = (sim.core.mail (message.Finish k z) (map_in message_of (mail w.links) _ i)).0 in
      let lt : a < length w.agents = subst (λ x. x < length w.agents) fit (sim.core.fresh _ ok.2).0 in
      let ag : Agent = get_or w.agents a no_agent in (
        ag.seq,
        each_in (Out a ag.seq (length q.values))
            _ y (finish_out p (length q.values) a (sim.plan a lt) ag (find k ag.steps)).each j,
      )
  agent_out a f (message.Ask k z x) i fit y j = absurd fit
  agent_out a f (message.Put r_n r_t v r_c) i fit y j = absurd fit
  agent_out a f (message.Cut r_n r_t v) i fit y j = absurd fit
  agent_out a f (message.Move v z r) i fit y j = absurd fit
  agent_out a f (message.Grow k z u x) i fit y j = absurd fit

-- the process of a linked process's number
pub number_linked : (p : Plan) → TreeOk p → (c : ℕ) (f : Process) → LinkOk p (AtClp c) f → process p (number p f) ≡ f
number_linked p tree c (AtClp d) l = process_clp p d (tree.inside c d l)
number_linked p tree c (AtAgent a) l = process_agent p a

-- towards an agent a CLP has a link
pub toward_link : (p : Plan) → TreeOk p → (c : ℕ) → c < clps_of p → (a : ℕ) → LinkOk p (toward p c a) (AtClp c)
toward_link p tree c lc a = elim (cases_eq c (home p a)) [
  | inl f ↦ (let e : (c == home p a) ≡ true = grind (arith, nat_tests, f) in rw e (sym f))
  | inr ne ↦ (let e : (c == home p a) ≡ false = grind (arith, nat_tests, ne) in
      rw e (tree.back c (hop (parents p.clps) c (home p a)) lc (tree.hop_port c (home p a) lc (tree.homes a) ne)))
]

back_link : (p : Plan)
    → TreeOk p → (c : ℕ) → c < clps_of p → (f : Process) → LinkOk p (AtClp c) f → LinkOk p f (AtClp c)
back_link p tree c lc (AtClp d) i = tree.back c d lc i
back_link p tree c lc (AtAgent a) i = i

module _ (p : Plan) (q : State) (w : World) (recs : ℕ → Parts) (sim : Sim p q w recs) (linked : Linked p w) where
  abbrev n : ℕ
  n = length q.values

  abbrev A : ℕ
  A = length p.agents

  same_n : vars_of p ≡ length q.values
  same_n = sim.core.same_vars

  -- the agent of what was issued is one of the plan's
  pub agent_low : (m : Message) → In m sim.issued → (num_of m).agent < length p.agents
  agent_low m i =
      (let a = (sim.core.fresh m i).0 in let b = sim.core.same_agents in let c = sim.core.same_plan in omega arith)

  -- the number of a process that a CLP has a link to
  abbrev LinkTo : ℕ → ℕ → Type 0
  LinkTo c k = LinkOk p (process p k) (AtClp c)

  pub port_linked : (c : ℕ) → c < clps_of p → (d : ℕ) → In d (ports p c) → LinkOk p (process p d) (AtClp c)
  port_linked c lc d i =
      subst (λ z. LinkOk p z (AtClp c)) (sym (process_clp p d (sim.tree.inside c d i))) (sim.tree.back c d lc i)

  pub agent_linked : (c : ℕ) → c < clps_of p
      → (a : ℕ) → a < length p.agents → LinkOk p (process p (get_or (to_agents p c 0 p.agents) a 0)) (AtClp c)
  agent_linked c lc a lt =
      subst (λ z. LinkOk p z (AtClp c)) (sym (ap (process p) (towards_at p c 0 p.agents a lt ∙ (let z0 : 0 + a ≡ a =
      omega arith in ap (λ z. towards p c z (home p a)) z0)) ∙ towards_is)) (toward_link p sim.tree c lc a)
    where
      towards_is : process p (towards p c a (home p a)) ≡ toward p c a
      towards_is = elim (cases_eq c (home p a)) [
        | inl f ↦ (let e : (c == home p a) ≡ true = grind (arith, nat_tests, f) in rw e (process_agent p a))
        | inr ne ↦ (let e : (c == home p a) ≡ false = grind (arith, nat_tests, ne) in
            rw e (process_clp p _ (sim.tree.inside c _ (sim.tree.hop_port c (home p a) lc (sim.tree.homes a) ne))))
      ]

  pub var_in : (kin : ℕ → Type 0) (c : ℕ) (f : Process) (m : Message) → In (mail_to (AtClp c) f m) (mail w.links)
      → ForClp (length q.values) f m → NamesIn kin m → VarIn kin (length q.values) (length p.agents) m
  var_in kin c f m i fit kn = by m i fit kn (sim.core.mail m (map_in message_of (mail w.links) _ i)).0
    where
      by : (m : Message) → In (mail_to (AtClp c) f m) (mail w.links) → ForClp (length q.values) f m
          → NamesIn kin m → MailOk p sim.issued m → VarIn kin (length q.values) (length p.agents) m
      by (message.Ask k z (query.One v)) i fit kn ok = (fit, agent_low _ ok)
      by (message.Ask k z (query.Class j u)) i fit kn ok = (kn, agent_low _ ok)
      by (message.Put r_n r_t v r_c) i fit kn ok = fit
      by (message.Cut r_n r_t v) i fit kn ok = fit
      by (message.Give g) i fit kn ok =
          ((let e = same_n in let s = suits_give (vars_of p) f g (linked.mail _ i).1 in omega arith), agent_low _ ok.1)
      by (message.Finish k z) i fit kn ok = tt
      by (message.Wake k z) i fit kn ok = tt
      by (message.Move v z r) i fit kn ok = (let o = sim.moves.moves (AtClp c) f v z r i in
          (o.0, λ x j. agent_low _ ((sim.core.rec v).reads x (subst (λ (y : Parts). In x y.reads) o.1 j)).1))
      by (message.Grow j z u x) i fit kn ok = (suits_grow (vars_of p) f j z u x (linked.mail _ i).1, kn)

  pub ports_ok : (kin : ℕ → Type 0)
      (kinds : (v : ℕ) → v < length q.values → kin (class_at p v)) (soon : Stamp → Type 0) (c : ℕ) (lc : c < clps_of p)
      → PortsOk (hub_of p c) (λ k. LinkOk p (process p k) (AtClp c)) (port_linked c lc)
      (length p.agents) (agent_linked c lc) (length q.values) sim.shape.range kin kinds soon (clp_at w c)
  ports_ok kin kinds soon c lc = record {
    ways = λ v d lv e. port_linked c lc d ((linked.ways c lc).leads v d e);
    regs = λ r i. (let o = sim.queries.reg c r lc i in
        (subst (λ z. LinkOk p z (AtClp c)) (sym o.2) (toward_link p sim.tree c lc r.num.agent), agent_low _ o.0));
  }

  -- what a CLP sends at a letter goes over its own links, and names what exists
  pub hub_out : (kin : ℕ → Type 0) → ((v : ℕ) → v < length q.values → kin (class_at p v))
      → (soon : Stamp → Type 0) → ((x : Message) → In x sim.issued → soon (stamp_of x))
      → (c : ℕ) (f : Process) (m : Message) → In (mail_to (AtClp c) f m) (mail w.links)
      → (c < clps_of p) × ForClp (length q.values) f m → NamesIn kin m → soon (stamp_of m) → soon (floor_of w.line)
      → (y : Posted) → In y (lift p (clp_after (hub_of p c) (number p f) m (clp_at w c))).sent
      → LinkOk p y.to (AtClp c) × GiveIn kin soon (length q.values) y.message
  hub_out kin kinds soon issues c f m i fit kn sm fl y j =
      let lc : c < clps_of p = fit.0 in
      let o = in_map (posted p) (clp_after (hub_of p c) (number p f) m (clp_at w c)).sent y j in
      let lf : LinkOk p (process p (number p f)) (AtClp c) = subst (λ z. LinkOk p z (AtClp c))
      (sym (number_linked p sim.tree c f (linked.mail _ i).0)) (back_link p sim.tree c lc f (linked.mail _ i).0) in
      let is : (v : ℕ) (r : Parts) → rec_at (clp_at w c).records v ≡ Some r → r ≡ recs v =
      λ v r e. (sim.places.at c v r lc e).1 in
      let r = clp_out
      (hub_of p c) (λ k. LinkOk p (process p k) (AtClp c)) (port_linked c lc) (length p.agents) (agent_linked c lc)
      (length q.values) sim.shape.range kin kinds soon (number p f) m (clp_at w c) lf (var_in kin c f m i fit.1 kn)
      (ports_ok kin kinds soon c lc) sm (move_soon m i) (record {
        floor = subst (λ l. soon (floor_of l)) (sym (sim.places.line c lc)) fl;
        puts = λ v r e x k. issues _ ((sim.core.rec v).puts x (subst (λ (z : Parts). In x z.puts) (is v r e) k)).0;
        reads =
            λ v r e x k. agent_low _ ((sim.core.rec v).reads x (subst (λ (z : Parts). In x z.reads) (is v r e) k)).1;
      }) o.0 o.1 in
      subst (λ (z : Posted). LinkOk p z.to (AtClp c) × GiveIn kin soon (length q.values) z.message) (sym o.2) r
    where
      move_soon : (m : Message) → In (mail_to (AtClp c) f m) (mail w.links)
          → MoveSoon (hub_of p c) (λ k. LinkOk p (process p k) (AtClp c)) (port_linked c fit.0)
          (length p.agents) (agent_linked c fit.0) (length q.values) sim.shape.range kin kinds soon m
      move_soon (message.Move v z r) i = (let o = sim.moves.moves (AtClp c) f v z r i in
          λ x k. issues _ ((sim.core.rec v).puts x (subst (λ (y : Parts). In x y.puts) o.1 k)).0)
      move_soon (message.Wake k z) i = tt
      move_soon (message.Ask k z x) i = tt
      move_soon (message.Put r_n r_t v r_c) i = tt
      move_soon (message.Cut r_n r_t v) i = tt
      move_soon (message.Give g) i = tt
      move_soon (message.Finish k z) i = tt
      move_soon (message.Grow k z u x) i = tt

  -- nothing is asked of classes and stamps
  pub names_any : (m : Message) → NamesIn (λ j. Unit {0}) m
  names_any (message.Ask k z (query.One v)) = tt
  names_any (message.Ask k z (query.Class j u)) = tt
  names_any (message.Grow j z u x) = tt
  names_any (message.Move v z r) = tt
  names_any (message.Wake k z) = tt
  names_any (message.Put r_n r_t v r_c) = tt
  names_any (message.Cut r_n r_t v) = tt
  names_any (message.Give g) = tt
  names_any (message.Finish k z) = tt

  out_says : (a seq k : ℕ) (m : Message) → Out a seq k m → Says m
  out_says a seq k (message.Give g) o = absurd o
  out_says a seq k (message.Wake j z) o = tt
  out_says a seq k (message.Ask j z y) o = tt
  out_says a seq k (message.Put r_n r_t v r_c) o = tt
  out_says a seq k (message.Cut r_n r_t v) o = tt
  out_says a seq k (message.Finish j z) o = absurd o
  out_says a seq k (message.Move v z r) o = absurd o
  out_says a seq k (message.Grow j z u x) o = absurd o

  agent_link : (a : ℕ) (y : Message) → LinkOk p (addressed a (home p a) y).to (AtAgent a)
  agent_link a (message.Wake k z) = refl
  agent_link a (message.Ask k z x) = refl
  agent_link a (message.Put r_n r_t v r_c) = refl
  agent_link a (message.Cut r_n r_t v) = refl
  agent_link a (message.Give g) = refl
  agent_link a (message.Finish k z) = refl
  agent_link a (message.Move v z r) = refl
  agent_link a (message.Grow k z u x) = refl

  agent_message : (a h : ℕ) (y : Message) → Says y → Says (addressed a h y).message
  agent_message a h (message.Give g) o = o
  agent_message a h (message.Wake k z) o = tt
  agent_message a h (message.Ask k z x) o = tt
  agent_message a h (message.Put r_n r_t v r_c) o = tt
  agent_message a h (message.Cut r_n r_t v) o = tt
  agent_message a h (message.Finish k z) o = o
  agent_message a h (message.Move v z r) o = o
  agent_message a h (message.Grow k z u x) o = o

  pub deliver_linked : (to from : Process) → Linked p (deliver p w to from)
  deliver_linked to from = go (take_from to from w.links) refl
    where
      out : (to' : Process) (t : Taken) → take_from to' from w.links ≡ Some t
          → In (mail_to to' from t.message) (mail w.links) → FitsAt (clps_of p) (length q.values) to' from t.message
          → (x : Mail) → In x (mail (arrives p w to' from t.message t.links).links)
          → LinkOk p x.to x.from × Suits (vars_of p) x.from x.message
      out (AtClp c) t e i fit x j =
          let ss : List Posted = (lift p (clp_after (hub_of p c) (number p from) t.message (clp_at w c))).sent in
          elim ((delivered_bag (AtClp c) from w.links t ss e).from x j) [
            | inl k ↦ linked.mail x k
            | inr k ↦ (let o = in_map (λ (y : Posted). mail_to y.to (AtClp c) y.message) ss x k in
                subst (λ (y : Mail). LinkOk p y.to y.from × Suits (vars_of p) y.from y.message) (sym o.2)
                (subst
                (λ z. LinkOk p o.0.to (AtClp c) × GiveIn (λ j. Unit {0}) (λ z. Unit {0}) z o.0.message) (sym same_n)
                (hub_out (λ j. Unit {0}) (λ v lt. tt)
                (λ z. Unit {0}) (λ x i. tt) c from t.message i fit (names_any t.message) tt tt o.0 o.1)))
          ]
      out (AtAgent a) t e i fit x j =
          let ms : List Message = (agent_after (actor_of p a) (get_or w.agents a no_agent) t.message).sent in
          elim ((delivered_bag (AtAgent a) from w.links t (map (addressed a (home p a)) ms) e).from x j) [
            | inl k ↦ linked.mail x k
            | inr k ↦ (let o =
                in_map (λ (y : Posted). mail_to y.to (AtAgent a) y.message) (map (addressed a (home p a)) ms) x k in
                let o2 = in_map (addressed a (home p a)) ms o.0 o.1 in
                subst (λ (y : Mail). LinkOk p y.to y.from × Suits (vars_of p) y.from y.message)
                (sym (o.2 ∙ ap (λ (y : Posted). mail_to y.to (AtAgent a) y.message) o2.2)) (
                  agent_link a o2.0,
                  agent_message a (home p a) o2.0 (let g = agent_out
                      p q w recs sim a from t.message i fit o2.0 o2.1 in out_says a g.0 (length q.values) o2.0 g.1),
                ))
          ]

      ways : (to' : Process) (t : Taken) → FitsAt (clps_of p) (length q.values) to' from t.message
          → (c : ℕ) → c < clps_of p → WaysIn (ports p c) (clp_at (arrives p w to' from t.message t.links) c).routing
      ways (AtAgent a) t fit d ld = linked.ways d ld
      ways (AtClp c) t fit d ld =
          let r : ClpState = (clp_after (hub_of p c) (number p from) t.message (clp_at w c)).clp in
          elim (cases_eq d c) [
            | inr ne ↦ subst (λ (z : ClpState). WaysIn (ports p d) z.routing)
                (sym (get_or-set_other w.clps c d r no_clp ne)) (linked.ways d ld)
            | inl f ↦ subst (λ z. WaysIn (ports p z) (get_or (set w.clps c r) z no_clp).routing) (sym f)
                (subst (λ (z : ClpState). WaysIn (ports p c) z.routing)
                (sym (get_or-set_same w.clps c r no_clp (let o = sim.size in let l = fit.0 in omega arith)))
                (clp_ways (hub_of p c) (number p from) t.message (clp_at w c) (linked.ways c fit.0)))
          ]

      go : (o : Option Taken) → take_from to from w.links ≡ o → Linked p (delivered p w to from o)
      go None e = linked
      go (Some t) e = (let i = (taken to from w.links t e).into _ (inl refl) in let fit =
          sim.fits (mail_to to from t.message) i in record { mail = out to t e i fit; ways = ways to t fit })

pub commit_linked : (p : Plan) (w : World) (k : Line) → length w.clps ≡ clps_of p → Linked p w → Linked p (commit w k)
commit_linked p w k size linked = record {
  mail = linked.mail;
  ways = λ c lc. subst (λ (z : ClpState). WaysIn (ports p c) z.routing)
      (sym (get_or-map (clp_committed k) w.clps c no_clp no_clp (omega arith))) (linked.ways c lc);
}

pub linked_run : (p : Plan) (w : World) (done : List Entry) (es : List Event)
    → Whole p w done → Linked p w → is_legal_run p w es ≡ true → Linked p (after_events p w es)
linked_run p w done [] h k l = k
linked_run p w done (event.Deliver to from ∷ es) h k l =
    linked_run p (deliver p w (process p to) (process p from)) done es (deliver_whole p w done (process p to)
    (process p from) h) (deliver_linked p h.q w h.full.recs h.full.sim k (process p to) (process p from))
    (and_parts
    (is_legal p w (event.Deliver to from)) (is_legal_run p (deliver p w (process p to) (process p from)) es) l).1
linked_run p w done (event.Commit c ∷ es) h k l =
    let parts = and_parts (may_commit w c) (is_legal_run p (commit w c) es) l in
    linked_run p (commit w c)
    (done ++ handed w c) es (commit_whole p w done c h parts.0) (commit_linked p w c h.full.sim.size k) parts.1

pub first_linked : (p : Plan) (fit : PlanFits p) → Linked p (first_world p)
first_linked p fit = record {
  mail = λ x i. (let r = mail_is p fit x i in
      subst (λ (y : Mail). LinkOk p y.to y.from × Suits (vars_of p) y.from y.message) (sym r.4) (refl, tt));
  ways = λ c lc. subst (λ (z : ClpState). WaysIn (ports p c) z.routing) (sym (clp_is p fit c lc)) (record {
    ports_are = refl;
    leads = λ v d e. elim (cases_lt v (length p.vars)) [
      | inr ge ↦ absurd (here_port d (sym (get_past
          (map (first_way p c) p.vars) v way.Here (omega (arith, ge, length-map p.vars (first_way p c)))) ∙ e))
      | inl lt ↦ leads c lc (get_or p.vars v no_var)
          d (fit.place_in v (let l = length-map p.vars (λ (x : VarRow). x.value) in omega arith))
          (sym (get_or-map (first_way p c) p.vars v no_var way.Here lt) ∙ e)
    ];
  });
}
  where
    here_port : (d : ℕ) → way.Here ≡ way.Port d → ⊥
    here_port d e = cc

    leads : (c : ℕ)
        → c < clps_of p → (r : VarRow) (d : ℕ) → r.at < clps_of p → first_way p c r ≡ way.Port d → In d (ports p c)
    leads c lc r d lt e = elim (cases_eq r.at c) [
      | inl f ↦ absurd (let g : (r.at == c) ≡ true = grind (arith, nat_tests, f) in
          here_port d (sym (ap (λ z. cond z way.Here (way.Port (hop (parents p.clps) c r.at))) g) ∙ e))
      | inr ne ↦ (let g : (r.at == c) ≡ false = grind (arith, nat_tests, ne) in
          let k : way.Port (hop (parents p.clps) c r.at) ≡ way.Port d =
          sym (ap (λ z. cond z way.Here (way.Port (hop (parents p.clps) c r.at))) g) ∙ e in
          subst (λ x. In x (ports p c))
          (port_same (hop (parents p.clps) c r.at) d k) (fit.tree.hop_port c r.at lc lt (λ q. ne (sym q))))
    ]
      where
        port_same : (x y : ℕ) → way.Port x ≡ way.Port y → x ≡ y
        port_same x y f = cc
