-- Every class that a letter names exists.
use Rattle.std.proofs.Common.{Bool, List, None, Option, Some, [], ap, arith, cond, false, get_or, inl, inr, length, map, nat_le, refl, subst, sym, true, ℕ, ℤ, ◌++◌, ◌+◌, ◌<◌, ◌∙◌, ◌∷◌, ◌≡◌}
use Rattle.std.proofs.lemmas.Bool.{and_parts}
use Rattle.pm_base.specs.Stamps.{num_eq}
use Rattle.pm_base.specs.declared.rows.Entry.{Entry}
use Rattle.pm_base.specs.declared.rows.GiveRow.{GiveRow}
use Rattle.pm_base.specs.declared.rows.Parts.{Parts}
use Rattle.pm_base.specs.declared.run.Event.{Event}
use Rattle.pm_base.specs.declared.stamp.Num.{Num}
use Rattle.pm_base.specs.declared.stamp.Stamp.{Stamp}
use Rattle.pm_base.specs.declared.value.Hit.{Hit}
use Rattle.pm_base.specs.declared.value.Query.{Query}
use Rattle.pm_base.specs.declared.value.Write.{Write}
use Rattle.pm_message.specs.declared.Message.{Message}
use Rattle.pm_plan.specs.declared.plan.Plan.{Plan}
use Rattle.pm_step.specs.declared.Next.{Next}
use Rattle.pm_model.specs.Runs.{later}
use Rattle.pm_model.specs.declared.State.{State}
use Rattle.pm_saved.specs.Senses.{add_kept, answer, answers, hits_eq, kept_turn}
use Rattle.pm_saved.specs.Spots.{Spot, find}
use Rattle.pm_saved.specs.Steps.{act_cuts, cuts_of, regs_after, withdrawn}
use Rattle.pm_saved.specs.declared.kept.KeptAct.{KeptAct}
use Rattle.pm_saved.specs.declared.kept.KeptSense.{KeptSense}
use Rattle.pm_saved.specs.declared.kept.KeptStep.{KeptStep}
use Rattle.pm_alp.specs.Agents.{Sends, agent_after, at_open, finished, go_on, kept_in, next_wake, no_agent, no_sends, on_finish, on_give, on_wake, puts_of, rolled_back, step_of, wake_of, went_on}
use Rattle.pm_alp.specs.declared.agent.Agent.{Agent}
use Rattle.pm_alp.specs.declared.agent.Awaited.{Awaited}
use Rattle.pm_clp.specs.Clps.{clp_after}
use Rattle.pm_sim.proofs.Awakes.{agent_letter}
use Rattle.pm_sim.proofs.Edges.{GiveIn, KindIn, NamesIn}
use Rattle.pm_sim.proofs.Firsts.{PlanFits, mail_is}
use Rattle.pm_sim.proofs.Letters.{delivered_bag, in_map, taken}
use Rattle.pm_sim.proofs.Lists.{each_append, each_in}
use Rattle.pm_sim.proofs.Places.{Sim, clp_at, lift}
use Rattle.pm_sim.proofs.Takings.{Linked, commit_linked, deliver_linked, first_linked, hub_out}
use Rattle.pm_sim.proofs.Wholes.{Whole, commit_whole, deliver_whole, first_whole}
use Rattle.pm_sim.specs.Routings.{FitsAt, mail_to}
use Rattle.pm_sim.specs.Sims.{Each, In, class_at, vars_of}
use Rattle.pm_sim.specs.Worlds.{Mail, Posted, Process, Taken, World, actor_of, addressed, after_events, arrives, clps_of, commit, deliver, delivered, first_world, handed, home, hub_of, is_legal, is_legal_run, mail, may_commit, number, process, rule_at, take_from}
use Rattle.pm_sim.specs.Worlds.Process.{AtAgent, AtClp}
use Rattle.pm_base.specs.declared.run.Event.TheVariants as event
use Rattle.pm_message.specs.declared.Message.TheVariants as message
use Rattle.pm_step.specs.declared.Next.TheVariants as outcome
use Rattle.pm_base.specs.declared.value.Query.TheVariants as query

-- the classes of the variables and of the rules' queries are below K
pub record InKinds (K : ℕ) (p : Plan) : Type 0 where
  pub vars : (v : ℕ) → v < vars_of p → class_at p v < K
  pub asks : (i : ℕ) (s : Stamp) (regs : List ℤ) (done : List (List Hit)) (k : Query)
      → i < length p.agents → step_of (rule_at p i) s regs done ≡ outcome.Ask k → KindIn (λ j. j < K) k

-- the class that a message names is below K
abbrev pub KindOf : ℕ → Message → Type 0
KindOf K m = NamesIn (λ j. j < K) m

-- ---- an agent

puts_kind : (K i : ℕ) (s : Stamp) (k : ℕ) (ws : List Write) → Each (KindOf K) (puts_of i s k ws)
puts_kind K i s k [] = tt
puts_kind K i s k (w ∷ ws) = (tt, puts_kind K i s (k + 1) ws)

cuts_kind : (K : ℕ) (s : Stamp) (ms : List Num) (ws : List Write) → Each (KindOf K) (cuts_of s ms ws)
cuts_kind K s [] ws = tt
cuts_kind K s (m ∷ ms) [] = tt
cuts_kind K s (m ∷ ms) (w ∷ ws) = (tt, cuts_kind K s ms ws)

withdrawn_kind : (K : ℕ) (ss : List KeptStep) → Each (KindOf K) (withdrawn ss)
withdrawn_kind K [] = tt
withdrawn_kind K (s ∷ ss) =
    each_append (KindOf K) (act_cuts s.stamp s.act) (withdrawn ss) (one s.act) (withdrawn_kind K ss)
  where
    one : (o : Option KeptAct) → Each (KindOf K) (act_cuts s.stamp o)
    one None = tt
    one (Some a) = cuts_kind K s.stamp a.nums a.entry.writes

wake_kind : (K : ℕ) (o : Option Awaited) → Each (KindOf K) (wake_of o)
wake_kind K None = tt
wake_kind K (Some w) = (tt, tt)

module _ (K : ℕ) (p : Plan) (i : ℕ) (ok : (s : Stamp) (regs : List ℤ) (done : List (List Hit)) (k : Query)
    → step_of (rule_at p i) s regs done ≡ outcome.Ask k → KindIn (λ j. j < K) k) (a : Agent) where
  abbrev Fine : Sends → Type 0
  Fine r = Each (KindOf K) r.sent

  went_kind : (front : List KeptStep)
      (s : Stamp) (senses : List KeptSense) (regs : List ℤ) (done : List (List Hit)) (out : Next)
      → step_of (rule_at p i) s regs done ≡ out → Fine (went_on (actor_of p i) a.base front s senses a.seq out)
  went_kind front s senses regs done (outcome.Ask q) e = (ok s regs done q e, tt)
  went_kind front s senses regs done (outcome.Act d) e = each_append
      (KindOf K) (puts_of i s a.seq d.writes) (wake_of (next_wake (nat_le (later s.time d.wait) p.horizon) i s a.seq d))
      (puts_kind K i s a.seq d.writes) (wake_kind K (next_wake (nat_le (later s.time d.wait) p.horizon) i s a.seq d))

  go_kind : (front : List KeptStep) (s : Stamp) (done : List KeptSense)
      → Fine (go_on (actor_of p i) a.base front s done a.seq)
  go_kind front s done = went_kind front s done
      (regs_after a.base front) (answers done) (step_of (rule_at p i) s (regs_after a.base front) (answers done)) refl

  back_kind : (spot : Spot) (x : KeptSense) → Fine (rolled_back (actor_of p i) a spot x)
  back_kind spot x = each_append (KindOf K) (withdrawn (spot.here ∷ spot.rest))
      _ (withdrawn_kind K (spot.here ∷ spot.rest)) (go_kind spot.front spot.here.stamp (spot.before ++ x ∷ []))

  open_kind : (spot : Spot) (y : Query) (x : KeptSense) → Fine (at_open (actor_of p i) a spot y x)
  open_kind spot (query.One v) x = go_kind spot.front spot.here.stamp _
  open_kind spot (query.Class k w) x = tt

  give_kind : (g : GiveRow) (o : Option Spot) → Fine (on_give (actor_of p i) a g o)
  give_kind g None = tt
  give_kind g (Some spot) = go (nat_le g.turn (kept_turn g.var spot.sense.hits))
      spot.sense.complete (hits_eq (answer x.hits) (answer spot.sense.hits))
    where
      x : KeptSense
      x = record {
        num = spot.sense.num;
        query = spot.sense.query;
        complete =
            spot.sense.complete;
        hits = add_kept (record { var = g.var; turn = g.turn; hit = g.hit }) spot.sense.hits;
      }

      go : (b c d : Bool) → Fine (cond b (no_sends a) (cond c (cond d (no_sends (kept_in a spot x))
          (rolled_back (actor_of p i) a spot x)) (at_open (actor_of p i) a spot spot.sense.query x)))
      go true c d = tt
      go false true true = tt
      go false true false = back_kind spot x
      go false false d = open_kind spot spot.sense.query x

  wake_on : (k : Num) (o : Option Awaited) → Fine (on_wake (actor_of p i) a k o)
  wake_on k None = tt
  wake_on k (Some w) = go (num_eq k w.num)
    where
      go : (b : Bool) → Fine (cond b (go_on (actor_of p i) a.base a.steps w.stamp [] a.seq) (no_sends a))
      go true = go_kind a.steps w.stamp []
      go false = tt

  finish_kind : (o : Option Spot) → Fine (on_finish (actor_of p i) a o)
  finish_kind None = tt
  finish_kind (Some spot) = go spot.sense.complete spot.sense.query
    where
      go : (b : Bool) (y : Query) → Fine (finished b (actor_of p i) a spot y)
      go true y = tt
      go false (query.One v) = tt
      go false (query.Class k w) = go_kind spot.front spot.here.stamp _

  pub agent_kind : (m : Message) → Fine (agent_after (actor_of p i) a m)
  agent_kind (message.Wake k s) = wake_on k a.awaited
  agent_kind (message.Give g) = give_kind g (find g.num a.steps)
  agent_kind (message.Finish k s) = finish_kind (find k a.steps)
  agent_kind (message.Ask k s q) = tt
  agent_kind (message.Put r_n r_t v r_c) = tt
  agent_kind (message.Cut r_n r_t v) = tt
  agent_kind (message.Move v s r) = tt
  agent_kind (message.Grow k s u w) = tt

addressed_kind : (K a h : ℕ) (y : Message) → KindOf K y → KindOf K (addressed a h y).message
addressed_kind K a h (message.Give g) o = o
addressed_kind K a h (message.Move v z r) o = o
addressed_kind K a h (message.Wake j z) o = o
addressed_kind K a h (message.Ask j z x) o = o
addressed_kind K a h (message.Put r_n r_t v r_c) o = o
addressed_kind K a h (message.Cut r_n r_t v) o = o
addressed_kind K a h (message.Finish j z) o = o
addressed_kind K a h (message.Grow j z u x) o = o

-- ---- worlds

given_kind : (K n : ℕ) (m : Message) → GiveIn (λ j. j < K) (λ z. Unit {0}) n m → KindOf K m
given_kind K n (message.Ask k z y) o = o
given_kind K n (message.Grow j z u w) o = o.1
given_kind K n (message.Wake k z) o = tt
given_kind K n (message.Put r_n r_t v r_c) o = tt
given_kind K n (message.Cut r_n r_t v) o = tt
given_kind K n (message.Give g) o = tt
given_kind K n (message.Finish k z) o = tt
given_kind K n (message.Move v z r) o = tt

-- those of all mail
abbrev pub AllKinds : ℕ → List Mail → Type 0
AllKinds K ms = (x : Mail) → In x ms → KindOf K x.message

pub deliver_kinds : (K : ℕ) (p : Plan) → InKinds K p → (q : State) (w : World) (recs : ℕ → Parts) (sim : Sim p q w recs)
    → Linked p w → AllKinds K (mail w.links) → (to from : Process) → AllKinds K (mail (deliver p w to from).links)
deliver_kinds K p ik q w recs sim linked all to from = go (take_from to from w.links) refl
  where
    agent_in : (a : ℕ) → a < length w.agents → a < length p.agents
    agent_in a lt = (let e = sim.core.same_agents in let f = sim.core.same_plan in omega arith)

    by : (to' : Process) (t : Taken) → take_from to' from w.links ≡ Some t
        → In (mail_to to' from t.message) (mail w.links) → FitsAt (clps_of p) (length q.values) to' from t.message
        → AllKinds K (mail (arrives p w to' from t.message t.links).links)
    by (AtClp c) t e i fit x j =
        let ss : List Posted = (lift p (clp_after (hub_of p c) (number p from) t.message (clp_at w c))).sent in
        elim ((delivered_bag (AtClp c) from w.links t ss e).from x j) [
          | inl k ↦ all x k
          | inr k ↦ (let o = in_map (λ (y : Posted). mail_to y.to (AtClp c) y.message) ss x k in
              subst (λ (y : Mail). KindOf K y.message) (sym o.2)
              (given_kind K (length q.values) o.0.message
              (hub_out p q w recs sim linked (λ z. z < K) (λ v lt. ik.vars v (let e = sim.core.same_vars in
              omega arith)) (λ z. Unit {0}) (λ x i. tt) c from t.message i fit (all _ i) tt tt o.0 o.1).1))
        ]
    by (AtAgent a) t e i fit x j =
        let ms : List Message = (agent_after (actor_of p a) (get_or w.agents a no_agent) t.message).sent in
        elim ((delivered_bag (AtAgent a) from w.links t (map (addressed a (home p a)) ms) e).from x j) [
          | inl k ↦ all x k
          | inr k ↦ (let o =
              in_map (λ (y : Posted). mail_to y.to (AtAgent a) y.message) (map (addressed a (home p a)) ms) x k in
              let o2 = in_map (addressed a (home p a)) ms o.0 o.1 in
              let lt = (agent_letter p q w recs sim a from t.message i).0 in
              subst (λ (y : Mail). KindOf K y.message)
              (sym (o.2 ∙ ap (λ (y : Posted). mail_to y.to (AtAgent a) y.message) o2.2))
              (addressed_kind K a (home p a) o2.0 (each_in (KindOf K) ms o2.0 (agent_kind K p a (λ s regs done k f.
              ik.asks a s regs done k (agent_in a lt) f) (get_or w.agents a no_agent) t.message) o2.1)))
        ]

    go : (o : Option Taken) → take_from to from w.links ≡ o → AllKinds K (mail (delivered p w to from o).links)
    go None e = all
    go (Some t) e =
        (let i = (taken to from w.links t e).into _ (inl refl) in by to t e i (sim.fits (mail_to to from t.message) i))

kinds_run : (K : ℕ) (p : Plan)
    → InKinds K p → (w : World) (done : List Entry) (es : List Event) → Whole p w done → Linked p w
    → AllKinds K (mail w.links) → is_legal_run p w es ≡ true → AllKinds K (mail (after_events p w es).links)
kinds_run K p ik w done [] h k all l = all
kinds_run K p ik w done (event.Deliver to from ∷ es) h k all l =
    kinds_run K p ik (deliver p w (process p to) (process p from)) done es (deliver_whole p w done (process p to)
    (process p from) h) (deliver_linked p h.q w h.full.recs h.full.sim k (process p to) (process p from))
    (deliver_kinds K p ik h.q w h.full.recs h.full.sim k all (process p to) (process p from))
    (and_parts
    (is_legal p w (event.Deliver to from)) (is_legal_run p (deliver p w (process p to) (process p from)) es) l).1
kinds_run K p ik w done (event.Commit c ∷ es) h k all l =
    let parts = and_parts (may_commit w c) (is_legal_run p (commit w c) es) l in
    kinds_run K p ik (commit w c)
    (done ++ handed w c) es (commit_whole p w done c h parts.0) (commit_linked p w c h.full.sim.size k) all parts.1

-- in each world of a legal run the classes that letters name are below K
pub run_kinds : (K : ℕ) (p : Plan) → InKinds K p → PlanFits p → (es : List Event)
    → is_legal_run p (first_world p) es ≡ true → AllKinds K (mail (after_events p (first_world p) es).links)
run_kinds K p ik fit es l = kinds_run K p ik (first_world p) [] es (first_whole p fit)
    (first_linked p fit) (λ x i. (let r = mail_is p fit x i in subst (λ (y : Mail). KindOf K y.message) (sym r.4) tt)) l
