-- How far an agent's numbers and steps grow: by one more than the variables, and by one step, at each delivery to it.
use Rattle.std.proofs.Common.{Bool, List, None, Option, Some, [], ap, arith, cond, false, get_or, get_or-set_other, get_or-set_same, inl, inr, length, length-append, map, nat_le, refl, set, subst, suc, sym, true, zero, ℕ, ℤ, ◌*◌, ◌++◌, ◌+◌, ◌<◌, ◌==◌, ◌∷◌, ◌≡◌, ◌≤◌}
use Rattle.std.proofs.lemmas.Bool.{and_parts, cases_eq, cases_lt}
use Rattle.std.proofs.lemmas.Bool.Decides.{nat_tests}
use Rattle.std.proofs.lemmas.List.{get_or-map, length-map}
use Rattle.pm_base.specs.Stamps.{num_eq}
use Rattle.pm_base.specs.declared.rows.Entry.{Entry}
use Rattle.pm_base.specs.declared.rows.GiveRow.{GiveRow}
use Rattle.pm_base.specs.declared.rows.Parts.{Parts}
use Rattle.pm_base.specs.declared.run.Event.{Event}
use Rattle.pm_base.specs.declared.stamp.Line.{Line}
use Rattle.pm_base.specs.declared.stamp.Num.{Num}
use Rattle.pm_base.specs.declared.stamp.Stamp.{Stamp}
use Rattle.pm_base.specs.declared.value.Hit.{Hit}
use Rattle.pm_base.specs.declared.value.Query.{Query}
use Rattle.pm_base.specs.declared.value.Write.{Write}
use Rattle.pm_message.specs.declared.Message.{Message}
use Rattle.pm_plan.specs.declared.plan.AgentRow.{AgentRow}
use Rattle.pm_plan.specs.declared.plan.Plan.{Plan}
use Rattle.pm_step.specs.declared.Next.{Next}
use Rattle.pm_model.specs.Runs.{due, later}
use Rattle.pm_model.specs.declared.State.{State}
use Rattle.pm_saved.specs.Senses.{add_kept, answer, answers, hits_eq, kept_turn}
use Rattle.pm_saved.specs.Spots.{Spot, find}
use Rattle.pm_saved.specs.Steps.{keep_one, left_of, regs_after}
use Rattle.pm_saved.specs.declared.kept.KeptAct.{KeptAct}
use Rattle.pm_saved.specs.declared.kept.KeptSense.{KeptSense}
use Rattle.pm_saved.specs.declared.kept.KeptStep.{KeptStep}
use Rattle.pm_alp.specs.Agents.{Rule, act_sends, acted_step, agent_after, agent_committed, at_open, finished, go_on, kept_in, no_agent, no_sends, on_finish, on_give, on_wake, rolled_back, step_of, went_on}
use Rattle.pm_alp.specs.declared.agent.Agent.{Agent}
use Rattle.pm_alp.specs.declared.agent.Awaited.{Awaited}
use Rattle.pm_sim.proofs.Awakes.{agent_letter}
use Rattle.pm_sim.proofs.Firsts.{PlanFits}
use Rattle.pm_sim.proofs.Goes.{PlanOk}
use Rattle.pm_sim.proofs.Letters.{taken}
use Rattle.pm_sim.proofs.Lines.{get_past}
use Rattle.pm_sim.proofs.Places.{Sim}
use Rattle.pm_sim.proofs.Rows.{act}
use Rattle.pm_sim.proofs.Spots.{FindIs, find_is}
use Rattle.pm_sim.proofs.Turns.{WritesRise, asks_in, step_writes_rise}
use Rattle.pm_sim.proofs.Wholes.{Whole, commit_whole, deliver_whole, first_whole}
use Rattle.pm_sim.specs.Journals.{made, made_at}
use Rattle.pm_sim.specs.Sims.{Asked, Chain, In, is_past, vars_of, within}
use Rattle.pm_sim.specs.Worlds.{Process, Taken, World, actor_of, after_events, agent_at, commit, deliver, delivered, first_actors, first_seq, first_world, handed, is_legal, is_legal_run, is_process, may_commit, process, rule_at, take_from}
use Rattle.pm_sim.specs.Worlds.Process.{AtAgent, AtClp}
use Rattle.pm_base.specs.declared.run.Event.TheVariants as event
use Rattle.pm_message.specs.declared.Message.TheVariants as message
use Rattle.pm_step.specs.declared.Next.TheVariants as outcome
use Rattle.pm_base.specs.declared.value.Query.TheVariants as query

-- variables that rise below n are at most n
few : (lo n : ℕ) (ws : List Write)
    → WritesRise lo ws → ((w : Write) → In w ws → w.var < n) → lo ≤ n → lo + length ws ≤ n
few lo n [] r h le = omega arith
few lo n (w ∷ ws) r h le = (let lt =
    h w (inl refl) in let a = few (w.var + 1) n ws r.1 (λ x i. h x (inr i)) (omega arith) in let b = r.0 in omega arith)

-- one more delivery: numbers and steps
pub record Up (n : ℕ) (a : Agent) (r : Agent) : Type 0 where
  pub low : a.seq ≤ r.seq
  pub seq : r.seq ≤ a.seq + (n + 1)
  pub steps : length r.steps ≤ length a.steps + 1

same_up : (n : ℕ) (a r : Agent) → r.seq ≡ a.seq → length r.steps ≡ length a.steps → Up n a r
same_up n a r e f = record { low = omega arith; seq = omega arith; steps = omega arith }

module _ (p : Plan) (n i : ℕ) (ok : PlanOk p n i) (a : Agent) where
  went_up : (front : List KeptStep) (s : Stamp) (senses : List KeptSense)
      (regs : List ℤ) (done : List (List Hit)) (out : Next) → step_of (rule_at p i) s regs done ≡ out
      → length front ≤ length a.steps → Up n a (went_on (actor_of p i) a.base front s senses a.seq out).agent
  went_up front s senses regs done (outcome.Ask q) e le = record {
    low = omega arith;
    seq =
        omega arith;
    steps = omega (
      arith,
      length-append front (record {
        stamp = s;
        senses = senses ++ record {
          num =
              record { agent = i; seq = a.seq };
          query = q;
          complete = false;
          hits = [];
        } ∷ [];
        act = None;
      } ∷ []),
    );
  }
  went_up front s senses regs done (outcome.Act d) e le = go (nat_le (later s.time d.wait) p.horizon)
    where
      writes : length d.writes ≤ n
      writes = (let h = few 0 n d.writes (step_writes_rise (rule_at p i) s regs done d e)
          (λ w j. ok.acts s regs done d w e j) (omega arith) in omega arith)

      go : (b : Bool) → Up n a (act_sends i a.base front s senses a.seq d b).agent
      go true = (let w = writes in record {
        low = omega arith;
        seq =
            omega arith;
        steps = omega (arith, le, length-append front (acted_step i s senses a.seq d ∷ []));
      })
      go false = (let w = writes in record {
        low = omega arith;
        seq =
            omega arith;
        steps = omega (arith, le, length-append front (acted_step i s senses a.seq d ∷ []));
      })

  go_up : (front : List KeptStep) (s : Stamp) (done : List KeptSense)
      → length front ≤ length a.steps → Up n a (go_on (actor_of p i) a.base front s done a.seq).agent
  go_up front s done le = went_up front s done (regs_after a.base front)
      (answers done) (step_of (rule_at p i) s (regs_after a.base front) (answers done)) refl le

  -- a spot's steps
  abbrev Spotted : Spot → Type 0
  Spotted spot = a.steps ≡ spot.front ++ spot.here ∷ spot.rest

  front_low : (spot : Spot) → Spotted spot → length spot.front ≤ length a.steps
  front_low spot e = (let f = ap length e in omega (arith, f, length-append spot.front (spot.here ∷ spot.rest)))

  kept_up : (spot : Spot) (x : KeptSense) → Spotted spot → Up n a (kept_in a spot x)
  kept_up spot x e = same_up n a (kept_in a spot x) refl (let f = ap length e in
      let k : KeptStep =
      record { stamp = spot.here.stamp; senses = spot.before ++ x ∷ spot.later; act = spot.here.act } in
      omega (arith, f, length-append spot.front (spot.here ∷ spot.rest), length-append spot.front (k ∷ spot.rest)))

  open_up : (spot : Spot) (y : Query) (x : KeptSense) → Spotted spot → Up n a (at_open (actor_of p i) a spot y x).agent
  open_up spot (query.One v) x e = go_up spot.front spot.here.stamp _ (front_low spot e)
  open_up spot (query.Class k w) x e = kept_up spot x e

  give_up : (g : GiveRow) (o : Option Spot)
      → ((z : Spot) → o ≡ Some z → Spotted z) → Up n a (on_give (actor_of p i) a g o).agent
  give_up g None h = same_up n a a refl refl
  give_up g (Some spot) h = go (nat_le g.turn (kept_turn g.var spot.sense.hits))
      spot.sense.complete (hits_eq (answer x.hits) (answer spot.sense.hits))
    where
      x : KeptSense
      x = record {
        num = spot.sense.num;
        query = spot.sense.query;
        complete =
            spot.sense.complete;
        hits = add_kept (record { var = g.var; turn = g.turn; hit = g.hit }) spot.sense.hits;
      }

      go : (b c d : Bool) → Up n a (cond b (no_sends a) (cond c (cond d (no_sends (kept_in a spot x))
          (rolled_back (actor_of p i) a spot x)) (at_open (actor_of p i) a spot spot.sense.query x))).agent
      go true c d = same_up n a a refl refl
      go false true true = kept_up spot x (h spot refl)
      go false true false = go_up spot.front spot.here.stamp (spot.before ++ x ∷ []) (front_low spot (h spot refl))
      go false false d = open_up spot spot.sense.query x (h spot refl)

  wake_up : (k : Num) (o : Option Awaited) → Up n a (on_wake (actor_of p i) a k o).agent
  wake_up k None = same_up n a a refl refl
  wake_up k (Some w) = go (num_eq k w.num)
    where
      go : (b : Bool) → Up n a (cond b (go_on (actor_of p i) a.base a.steps w.stamp [] a.seq) (no_sends a)).agent
      go true = go_up a.steps w.stamp [] (omega arith)
      go false = same_up n a a refl refl

  finish_up : (o : Option Spot) → ((z : Spot) → o ≡ Some z → Spotted z) → Up n a (on_finish (actor_of p i) a o).agent
  finish_up None h = same_up n a a refl refl
  finish_up (Some spot) h = go spot.sense.complete spot.sense.query
    where
      go : (b : Bool) (y : Query) → Up n a (finished b (actor_of p i) a spot y).agent
      go true y = same_up n a a refl refl
      go false (query.One v) = same_up n a a refl refl
      go false (query.Class k w) = go_up spot.front spot.here.stamp _ (front_low spot (h spot refl))

  spotted : (k : Num) (z : Spot) → find k a.steps ≡ Some z → Spotted z
  spotted k z e = (let f : FindIs k a.steps (Some z) = subst (FindIs k a.steps) e (find_is k a.steps) in f.steps)

  pub agent_up : (m : Message) → Up n a (agent_after (actor_of p i) a m).agent
  agent_up (message.Wake k s) = wake_up k a.awaited
  agent_up (message.Give g) = give_up g (find g.num a.steps) (spotted g.num)
  agent_up (message.Finish k s) = finish_up (find k a.steps) (spotted k)
  agent_up (message.Ask k s q) = same_up n a a refl refl
  agent_up (message.Put r_n r_t v r_c) = same_up n a a refl refl
  agent_up (message.Cut r_n r_t v) = same_up n a a refl refl
  agent_up (message.Move v s r) = same_up n a a refl refl
  agent_up (message.Grow k s u w) = same_up n a a refl refl

-- ---- worlds

pub made_most : (p : Plan) (k : Process) (es : List Event) → made_at p k es ≤ made es
made_most p k [] = omega arith
made_most p k (event.Deliver to from ∷ es) = (let a = made_most p k es in go (is_process (process p to) k) a)
  where
    go : (b : Bool) → made_at p k es ≤ made es → cond b (suc (made_at p k es)) (made_at p k es) ≤ suc (made es)
    go true le = omega arith
    go false le = omega arith
made_most p k (event.Commit l ∷ es) = made_most p k es

times_suc : (m k : ℕ) → suc m * k ≡ k + m * k
times_suc m k = omega arith

-- n variables, m deliveries at the agent
pub record Numbers (n m : ℕ) (a : Agent) : Type 0 where
  pub seq : a.seq ≤ 1 + m * (n + 1)
  pub steps : length a.steps ≤ m

numbers_up : (n m : ℕ) (a r : Agent) → Numbers n m a → Up n a r → Numbers n (suc m) r
numbers_up n m a r h u = record {
  seq = (let x = h.seq in let y = u.seq in let z : suc m * (n + 1) ≡ (n + 1)
      + m * (n + 1) = times_suc m (n + 1) in omega arith);
  steps = (let x = h.steps in let y = u.steps in omega arith);
}

left_few : (l : Line) (ss : List KeptStep) → length (left_of l ss) ≤ length ss
left_few l [] = omega arith
left_few l (s ∷ ss) = (let again = left_few l ss in go (is_past l s.stamp) s.act again)
  where
    go : (b : Bool) (o : Option KeptAct)
        → length (left_of l ss) ≤ length ss → length (keep_one b s o ss (left_of l ss)) ≤ suc (length ss)
    go b None le = omega arith
    go true (Some x) le = omega arith
    go false (Some x) le = omega arith

module _ (p : Plan) (q : State) (w : World) (recs : ℕ → Parts)
    (sim : Sim p q w recs) (i m : ℕ) (h : Numbers (length q.values) m (get_or w.agents i no_agent)) where
  abbrev n : ℕ
  n = length q.values

  pub deliver_numbers : (to from : Process)
      → Numbers n (cond (is_process to (AtAgent i)) (suc m) m) (get_or (deliver p w to from).agents i no_agent)
  deliver_numbers to from = go to (take_from to from w.links) refl
    where
      more : (b : Bool) → Numbers n (cond b (suc m) m) (get_or w.agents i no_agent)
      more true = record {
        seq = (let x = h.seq in let z : suc m * (n + 1) ≡ (n + 1) + m * (n + 1) =
            times_suc m (n + 1) in omega arith);
        steps = (let x = h.steps in omega arith);
      }
      more false = h

      go : (to : Process) (o : Option Taken) → take_from to from w.links ≡ o
          → Numbers n (cond (is_process to (AtAgent i)) (suc m) m) (get_or (delivered p w to from o).agents i no_agent)
      go to None e = more (is_process to (AtAgent i))
      go (AtClp c) (Some t) e = h
      go (AtAgent a) (Some t) e =
          let lt : a < length w.agents = (agent_letter
          p q w recs sim a from t.message ((taken (AtAgent a) from w.links t e).into _ (inl refl))).0 in
          let r : Agent = (agent_after (actor_of p a) (get_or w.agents a no_agent) t.message).agent in
          elim (cases_eq i a) [
            | inl f ↦ subst (λ z. Numbers n (cond (a == z) (suc m) m) (get_or (set w.agents a r) z no_agent)) (sym f)
                (let g : (a == a) ≡ true = grind (arith, nat_tests) in
                let up : Up n (get_or w.agents a no_agent) r =
                agent_up p n a (sim.plan a lt) (get_or w.agents a no_agent) t.message in
                rw g (subst (Numbers n (suc m)) (sym (get_or-set_same w.agents a r no_agent lt)) (numbers_up
                n m (get_or w.agents a no_agent) r (subst (λ z. Numbers n m (get_or w.agents z no_agent)) f h) up)))
            | inr ne ↦ (let g : (a == i) ≡ false = grind (arith, nat_tests, ne) in
                rw g (subst (Numbers n m) (sym (get_or-set_other w.agents a i r no_agent ne)) h))
          ]

  pub commit_numbers : (k : Line) → Numbers n m (get_or (commit w k).agents i no_agent)
  commit_numbers k = elim (cases_lt i (length w.agents)) [
    | inl lt ↦
        subst (Numbers n m) (sym (get_or-map (agent_committed k) w.agents i no_agent no_agent lt)) (record {
          seq =
              h.seq;
          steps = (let x = h.steps in let y = left_few k (get_or w.agents i no_agent).steps in omega arith);
        })
    | inr ge ↦ subst (Numbers n m) (sym (get_past (map (agent_committed k) w.agents) i no_agent (omega
        (arith, ge, length-map w.agents (agent_committed k))))) (record { seq = omega arith; steps = omega arith })
  ]

-- the number of variables stays
vars_same : (p : Plan) (w : World) (done : List Entry) (h : Whole p w done) → length h.q.values ≡ vars_of p
vars_same p w done h = sym h.full.sim.core.same_vars

numbers_run : (p : Plan) (i : ℕ) (w : World) (done : List Entry) (m : ℕ) (es : List Event)
    → Whole p w done → Numbers (vars_of p) m (get_or w.agents i no_agent) → is_legal_run p w es ≡ true
    → Numbers (vars_of p) (m + made_at p (AtAgent i) es) (get_or (after_events p w es).agents i no_agent)
numbers_run p i w done m [] h k l = subst (λ z. Numbers (vars_of p) z (get_or w.agents i no_agent)) (omega arith) k
numbers_run p i w done m (event.Deliver to from ∷ es) h k l =
    let next : World = deliver p w (process p to) (process p from) in
    let k' :
    Numbers (vars_of p) (cond (is_process (process p to) (AtAgent i)) (suc m) m) (get_or next.agents i no_agent) =
    subst (λ z. Numbers z (cond (is_process (process p to) (AtAgent i)) (suc m) m) (get_or next.agents i no_agent))
    (vars_same p w done h)
    (deliver_numbers p h.q w h.full.recs h.full.sim i m (subst (λ z. Numbers z m (get_or w.agents i no_agent))
    (sym (vars_same p w done h)) k) (process p to) (process p from)) in
    let r = numbers_run p i next done (cond (is_process (process p to) (AtAgent i)) (suc m) m)
    es (deliver_whole p w done (process p to) (process p from) h) k'
    (and_parts (is_legal p w (event.Deliver to from)) (is_legal_run p next es) l).1 in
    subst (λ z. Numbers (vars_of p) z (get_or (after_events p next es).agents i no_agent))
    (sum (is_process (process p to) (AtAgent i)) (made_at p (AtAgent i) es)) r
  where
    sum : (b : Bool) (x : ℕ) → cond b (suc m) m + x ≡ m + cond b (suc x) x
    sum true x = omega arith
    sum false x = refl
numbers_run p i w done m (event.Commit c ∷ es) h k l =
    let parts = and_parts (may_commit w c) (is_legal_run p (commit w c) es) l in
    let k' : Numbers (vars_of p) m (get_or (commit w c).agents i no_agent) =
    subst (λ z. Numbers z m (get_or (commit w c).agents i no_agent)) (vars_same p w done h)
    (commit_numbers p h.q w h.full.recs
    h.full.sim i m (subst (λ z. Numbers z m (get_or w.agents i no_agent)) (sym (vars_same p w done h)) k) c) in
    numbers_run p i (commit w c) (done ++ handed w c) m es (commit_whole p w done c h parts.0) k' parts.1

first_numbers : (p : Plan) (i : ℕ) → Numbers (vars_of p) 0 (get_or (first_world p).agents i no_agent)
first_numbers p i = by 0 p.agents i
  where
    seq_one : (o : Option ℕ) → first_seq o ≤ 1
    seq_one None = omega arith
    seq_one (Some t) = omega arith

    by : (j : ℕ) (xs : List AgentRow) (i : ℕ) → Numbers (vars_of p) 0 (get_or (first_actors p j xs) i no_agent)
    by j [] i = record { seq = omega arith; steps = omega arith }
    by j (x ∷ xs) zero = record { seq = (let a = seq_one (due p x.start) in omega arith); steps = omega arith }
    by j (x ∷ xs) (suc i) = by (suc j) xs i

-- an agent's numbers are at most 1 + (variables + 1) times the deliveries to it, its kept steps at most those
-- deliveries
pub run_numbers : (p : Plan) → PlanFits p → (es : List Event) → is_legal_run p (first_world p) es ≡ true → (i : ℕ)
    → Numbers (vars_of p) (made_at p (AtAgent i) es) (get_or (after_events p (first_world p) es).agents i no_agent)
run_numbers p fit es l i =
    subst (λ z. Numbers (vars_of p) z (get_or (after_events p (first_world p) es).agents i no_agent))
    (omega arith) (numbers_run p i (first_world p) [] 0 es (first_whole p fit) (first_numbers p i) l)

-- a kept step has at most as many senses as its program
asked_few : (prog : Rule) (s : Stamp) (regs : List ℤ) (done : List (List Hit)) (xs : List KeptSense) → Asked prog
    s regs done xs → length done ≤ length prog.program.senses → length done + length xs ≤ length prog.program.senses
asked_few prog s regs done [] a le = omega arith
asked_few prog s regs done (x ∷ xs) a le =
    let lt = asks_in prog s regs done x.query a.0 in
    let len = length-append done (answer x.hits ∷ []) in
    let again = asked_few prog s regs (done ++ answer x.hits ∷ []) xs a.1 (omega arith) in omega arith

chain_few : (issued : List Message) (h : ℕ)
    (prog : Rule) (i : ℕ) (regs : List ℤ) (next : Option ℕ) (ss : List KeptStep) (w : Option Awaited) (s : KeptStep)
    → Chain issued h prog i regs next ss w → In s ss → length s.senses ≤ length prog.program.senses
chain_few issued h prog i regs next [] w s c j = absurd j
chain_few issued h prog i regs next (x ∷ ss) w s (t, en, es, asked, rest) (inl e) =
    subst (λ (z : KeptStep). length z.senses ≤ length prog.program.senses)
    (sym e) (let a = asked_few prog x.stamp regs [] x.senses asked (omega arith) in omega arith)
chain_few issued h prog i regs next (x ∷ ss) w s (t, en, es, asked, inl (none, nil, aw, open')) (inr j) =
    absurd (subst (In s) nil j)
chain_few issued h prog i regs next (x ∷ ss) w s (t, en, es, asked, inr (a, act, acted, c)) (inr j) =
    chain_few issued h prog i a.regs (within h (t + a.wait)) ss w s c j

pub senses_few : (p : Plan) (q : State) (w : World) (recs : ℕ → Parts) (sim : Sim p q w recs) (a : ℕ)
    → a < length w.agents
    → (s : KeptStep) → In s (get_or w.agents a no_agent).steps → length s.senses ≤ length (agent_at p a).program.senses
senses_few p q w recs sim a lt s i = chain_few sim.issued p.horizon (rule_at p a)
    a _ _ (get_or w.agents a no_agent).steps (get_or w.agents a no_agent).awaited s (sim.core.agent a lt).chain i
