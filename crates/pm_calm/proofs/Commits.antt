-- A Commit above all that has a stamp but Wakes leaves a calm world; the first world.
use Rattle.std.proofs.Common.{◌≡◌, ℕ, zero, suc, ◌+◌, ◌<◌, inr, ◌==◌, Bool, true, false, not, List, [], ◌∷◌, ◌++◌, map, filter, length, get_or, refl, arith, ap, sym, ◌∙◌, subst, Option, Some, None}
use Rattle.std.proofs.lemmas.Bool.Decides.{nat_tests}
use Rattle.std.proofs.lemmas.List.{get_or-map, length-map}
use Rattle.pm_alp.specs.Agents.{agent_committed, no_agent, wake_of}
use Rattle.pm_alp.specs.declared.agent.Agent.{Agent}
use Rattle.pm_base.specs.Stamps.{IsBefore}
use Rattle.pm_base.specs.declared.rows.Parts.{Parts}
use Rattle.pm_base.specs.declared.rows.PutRow.{PutRow}
use Rattle.pm_base.specs.declared.rows.ReadRow.{ReadRow}
use Rattle.pm_base.specs.declared.stamp.Line.{Line}
use Rattle.pm_base.specs.declared.stamp.Num.{Num}
use Rattle.pm_base.specs.declared.stamp.Stamp.{Stamp}
use Rattle.pm_base.specs.declared.value.Value.{Value}
use Rattle.pm_base.specs.declared.value.Window.{Window}
use Rattle.pm_calm.proofs.Phasing.{IsWake, wakes_none}
use Rattle.pm_calm.specs.Phases.{Calm, MailAt, Over, Phase, is_over}
use Rattle.pm_calm.specs.Phases.Phase.{Idle}
use Rattle.pm_clp.specs.Clps.{ClpState, clp_committed, first_parts, first_record, first_records, floor_of, rec_at}
use Rattle.pm_message.specs.Messages.{stamp_of}
use Rattle.pm_message.specs.declared.Message.{Message}
use Rattle.pm_model.specs.declared.State.{State}
use Rattle.pm_periods.specs.Records.{IsSettled}
use Rattle.pm_plan.specs.declared.plan.AgentRow.{AgentRow}
use Rattle.pm_plan.specs.declared.plan.Plan.{Plan}
use Rattle.pm_plan.specs.declared.plan.VarRow.{VarRow}
use Rattle.pm_routes.specs.declared.way.Way.{Way}
use Rattle.pm_routes.specs.declared.way.Way.TheVariants as way
use Rattle.pm_queries.specs.declared.registered.Registered.{Registered}
use Rattle.pm_saved.specs.Steps.{keep_one, left_of}
use Rattle.pm_saved.specs.declared.kept.KeptAct.{KeptAct}
use Rattle.pm_saved.specs.declared.kept.KeptStep.{KeptStep}
use Rattle.pm_sim.proofs.Firsts.{PlanFits, clp_is, mail_is, no_queries}
use Rattle.pm_sim.proofs.Fulls.{Full}
use Rattle.pm_sim.proofs.Lines.{trim_at, trim_some}
use Rattle.pm_sim.proofs.Places.{clp_at}
use Rattle.pm_sim.proofs.Stamps.{before_not, past_not, past_true}
use Rattle.pm_sim.proofs.Trims.{in_filter}
use Rattle.pm_sim.specs.Bounds.{between}
use Rattle.pm_sim.specs.Sims.{In, NotPast, is_past, st}
use Rattle.pm_sim.specs.Worlds.{Link, Mail, Process, World, agent_links, clps_of, commit, first_actors, first_way, first_world, mail, no_clp, ports, tree_links}
use Rattle.pm_sim.specs.Worlds.Process.{AtAgent, AtClp}
use Rattle.pm_message.specs.declared.Message.TheVariants as message
use Rattle.pm_base.specs.declared.stamp.Line.TheVariants as line

-- all that has a stamp is below k, but Wakes
pub record Old (p : Plan) (k : Stamp) (w : World) : Type 0 where
  pub size : length w.clps ≡ clps_of p
  pub puts : (c v : ℕ) (r : Parts) → c < clps_of p → rec_at (clp_at w c).records v ≡ Some r → (x : PutRow) → In x r.puts
      → IsBefore x.stamp k
  pub reads : (c v : ℕ) (r : Parts) → c < clps_of p → rec_at (clp_at w c).records v ≡ Some r → (x : ReadRow)
      → In x r.reads → IsBefore x.stamp k
  pub regs : (c : ℕ) (r : Registered) → c < clps_of p → In r (clp_at w c).queries → IsBefore r.stamp k
  pub steps : (i : ℕ) (z : KeptStep) → i < length w.agents → In z (get_or w.agents i no_agent).steps
      → IsBefore z.stamp k
  pub wakes : (x : Mail) → In x (mail w.links) → IsWake x.message × (x.from ≡ x.to)
  pub own : (i : ℕ) → i < length w.agents → between (AtAgent i) (AtAgent i) w.links ≡ wake_of
      (get_or w.agents i no_agent).awaited

left_in : (l : Line) (ss : List KeptStep) (z : KeptStep) → In z (left_of l ss) → In z ss
left_in l [] z j = j
left_in l (s ∷ ss) z j = (let again = left_in l ss z in go (is_past l s.stamp) s.act again j)
  where
    go : (b : Bool) (o : Option KeptAct) → (In z (left_of l ss) → In z ss) → In z (keep_one b s o ss (left_of l ss))
        → In z (s ∷ ss)
    go b None again j = j
    go false (Some a) again j = j
    go true (Some a) again j = inr (again j)

kept_not : {X : Type 0} (st : X → Stamp) (k : Stamp) (xs : List X) (x : X)
    → In x (filter (λ y. not (is_past (line.At k) (st y))) xs) → ((y : X) → In y xs → IsBefore (st y) k) → ⊥
kept_not st k xs x i h =
    let o = in_filter (λ y. not (is_past (line.At k) (st y))) xs x i in
    let e = past_true (line.At k) (st x) (h x o.0) in
    let f : not (is_past (line.At k) (st x)) ≡ false = ap not e in
    let g = o.1 in cc

-- what a Commit makes of it
pub calm_commit : (p : Plan) (q : State) (w : World) (k : Stamp) → Full p q (commit w (line.At k)) → Old p k w
    → Calm p (commit w (line.At k)) k [] Idle
calm_commit p q w k full old = record {
  line = refl;
  clps = λ c lc. (let is : get_or (map (clp_committed (line.At k)) w.clps) c no_clp ≡ clp_committed (line.At k)
      (clp_at w c) = get_or-map (clp_committed (line.At k)) w.clps c no_clp no_clp (let o = old.size in omega arith) in
      record {
        records = λ v r er. (let o = trim_some (line.At k) (rec_at (clp_at w c).records v) r
            (sym (trim_at (line.At k) (clp_at w c).records v) ∙ (ap (λ (z : ClpState). rec_at z.records v) (sym is) ∙ er))
            in record {
              puts = λ x i. absurd (kept_not (λ (y : PutRow). y.stamp) k o.0.puts x (subst (λ (z : Parts). In x z.puts) o.2 i)
                  (old.puts c v o.0 lc o.1));
              reads = λ x i. absurd (kept_not (λ (y : ReadRow). y.stamp) k o.0.reads x
                  (subst (λ (z : Parts). In x z.reads) o.2 i) (old.reads c v o.0 lc o.1));
              solid = (let e = (full.sim.places.at c v r lc er).1 in subst IsSettled (sym e) (full.sim.core.rec v).solid);
              silent = λ n j u b. absurd b;
            });
        stamps = λ r i. absurd (kept_not (λ (y : Registered). y.stamp) k (clp_at w c).queries r
            (subst (λ (z : ClpState). In r z.queries) is i) (λ y j. old.regs c y lc j));
        regs = λ r i. absurd (kept_not (λ (y : Registered). y.stamp) k (clp_at w c).queries r
            (subst (λ (z : ClpState). In r z.queries) is i) (λ y j. old.regs c y lc j));
        line = ap (λ (z : ClpState). floor_of z.line) is;
      });
  letters = λ x i. (let o = old.wakes x i in subst (MailAt p k (is_over []) Idle x.to x.from) (sym o.0.2) o.1);
  tokens = (let z = wakes_none Idle (mail w.links) (λ x i. (old.wakes x i).0) in omega arith);
  agents = λ i li. (let l : i < length w.agents = omega (arith, li, length-map w.agents (agent_committed (line.At k)))
      in
      let is = get_or-map (agent_committed (line.At k)) w.agents i no_agent no_agent l in
      let none : (z : KeptStep) → In z (get_or (map (agent_committed (line.At k)) w.agents) i no_agent).steps
      → ⊥ = λ z j.
      past_not (line.At k) z.stamp (old.steps i z l
      (left_in (line.At k) (get_or w.agents i no_agent).steps z (subst (λ (y : Agent). In z y.steps) is j)))
      ((full.sim.core.agent i li).low z j) in
      record { steps = λ z j. absurd (none z j); senses = λ z x j h. absurd (none z j) });
  opens = tt;
  own = λ i li. (let l : i < length w.agents = omega (arith, li, length-map w.agents (agent_committed (line.At k))) in
      old.own i l ∙ ap (λ (y : Agent). wake_of y.awaited)
      (sym (get_or-map (agent_committed (line.At k)) w.agents i no_agent no_agent l)));
}

-- a letter that is not below k in a calm world below k
wake_only : (p : Plan) (s k : Stamp) (over : Num → ℕ → Window → Type 0) (ph : Phase) (to from : Process) (m : Message)
    → MailAt p s over ph to from m → IsBefore s k → NotPast (line.At k) (stamp_of m) → IsWake m × (from ≡ to)
wake_only p s k over ph to from (message.Wake n z) h b np = ((n, z, refl), h)
wake_only p s k over ph to from (message.Ask n z y) h b np =
    absurd (before_not s k b (subst (NotPast (line.At k)) h.0 np))
wake_only p s k over ph to from (message.Put r_n r_t v r_c) h b np =
    absurd (before_not s k b (subst (NotPast (line.At k)) h.0 np))
wake_only p s k over ph to from (message.Cut r_n r_t v) h b np = absurd h
wake_only p s k over ph to from (message.Give g) h b np = absurd (before_not s k b (subst (NotPast (line.At k)) h.0 np))
wake_only p s k over ph to from (message.Finish n z) h b np =
    absurd (before_not s k b (subst (NotPast (line.At k)) h.0 np))
wake_only p s k over ph to from (message.Move v z r) h b np =
    absurd (before_not s k b (subst (NotPast (line.At k)) h.0 np))
wake_only p s k over ph to from (message.Grow n z u y) h b np =
    absurd (before_not s k b (subst (NotPast (line.At k)) h.0 np))

pub calm_old : (p : Plan) (w : World) (s k : Stamp) (os : List Over) (ph : Phase) → Calm p w s os ph
    → length w.clps ≡ clps_of p → IsBefore s k → ((x : Mail) → In x (mail w.links)
    → NotPast (line.At k) (stamp_of x.message)) → Old p k w
calm_old p w s k os ph calm size b np = record {
  size = size;
  puts = λ c v r lc er x i. subst (λ z. IsBefore z k) (sym (((calm.clps c lc).records v r er).puts x i)) b;
  reads = λ c v r lc er x i. subst (λ z. IsBefore z k) (sym (((calm.clps c lc).records v r er).reads x i)) b;
  regs = λ c r lc i. subst (λ z. IsBefore z k) (sym ((calm.clps c lc).stamps r i)) b;
  steps = λ i z li j. subst (λ y. IsBefore y k) (sym ((calm.agents i li).steps z j)) b;
  wakes = λ x i. wake_only p s k (is_over os) ph x.to x.from x.message (calm.letters x i) b (np x i);
  own = calm.own;
}

-- ---- the first world

first_rows : (ways : List Way) (vs : List Value) (v : ℕ) (r : Parts) → rec_at (first_records ways vs) v ≡ Some r
    → (r.puts ≡ []) × (r.reads ≡ [])
first_rows [] vs v r e = absurd (cc)
first_rows (y ∷ ys) [] v r e = absurd (cc)
first_rows (y ∷ ys) (x ∷ vs) zero r e = one y e
  where
    one : (y : Way) → first_record y x ≡ Some r → (r.puts ≡ []) × (r.reads ≡ [])
    one way.Here f = (let g : first_parts x ≡ r = cc in
        (sym (ap (λ (z : Parts). z.puts) g), sym (ap (λ (z : Parts). z.reads) g)))
    one (way.Port d) f = absurd (cc)
first_rows (y ∷ ys) (x ∷ vs) (suc v) r e = first_rows ys vs v r e

no_steps : (p : Plan) (j : ℕ) (rows : List AgentRow) (i : ℕ) → (get_or (first_actors p j rows) i no_agent).steps ≡ []
no_steps p j [] i = refl
no_steps p j (a ∷ rows) zero = refl
no_steps p j (a ∷ rows) (suc i) = no_steps p (suc j) rows i

own_agents : (p : Plan) (xs : List Agent) (j i : ℕ) → i < length xs
    → between (AtAgent (j + i)) (AtAgent (j + i)) (agent_links p j xs) ≡ wake_of (get_or xs i no_agent).awaited
own_agents p [] j i lt = absurd (omega arith)
own_agents p (a ∷ xs) j zero lt = (let b : (j == j + 0) ≡ true = grind (arith, nat_tests) in rw b refl)
own_agents p (a ∷ xs) j (suc i) lt =
    let b : (j == j + suc i) ≡ false = grind (arith, nat_tests) in
    let again = own_agents p xs (suc j) i (omega arith) in
    let k : (suc j) + i ≡ j + suc i = omega arith in
    rw b (subst (λ z. between (AtAgent z) (AtAgent z) (agent_links p (suc j) xs)
    ≡ wake_of (get_or xs i no_agent).awaited) k again)

own_tree : (p : Plan) (c n a : ℕ) (ls : List Link)
    → between (AtAgent a) (AtAgent a) (tree_links p c n ++ ls) ≡ between (AtAgent a) (AtAgent a) ls
own_tree p c zero a ls = refl
own_tree p c (suc n) a ls = over (ports p c) (own_tree p (suc c) n a ls)
  where
    over : (ds : List ℕ)
        → between (AtAgent a) (AtAgent a) (tree_links p (suc c) n ++ ls) ≡ between (AtAgent a) (AtAgent a) ls
        → between (AtAgent a) (AtAgent a)
        ((map (λ d. record { to = AtClp c; from = AtClp d; messages = [] }) ds ++ tree_links p (suc c) n) ++ ls)
        ≡ between (AtAgent a) (AtAgent a) ls
    over [] h = h
    over (d ∷ ds) h = over ds h

pub first_old : (p : Plan) → PlanFits p → length (first_world p).clps ≡ clps_of p → (k : Stamp)
    → Old p k (first_world p)
first_old p fit size k = record {
  size = size;
  puts = λ c v r lc er x i. absurd (subst (In x) (rows c v r lc er).0 i);
  reads = λ c v r lc er x i. absurd (subst (In x) (rows c v r lc er).1 i);
  regs = λ c r lc i. absurd (subst (In r) (no_queries p fit c lc) i);
  steps = λ i z li j. absurd (subst (In z) (no_steps p 0 p.agents i) j);
  wakes = λ x i. (let o = mail_is p fit x i in (
    (record { agent = o.0; seq = 0 }, st o.1 o.0, ap (λ (z : Mail). z.message) o.4),
    ap (λ (z : Mail). z.from) o.4 ∙ sym (ap (λ (z : Mail). z.to) o.4),
  ));
  own = λ i li. own_tree p 0 (clps_of p) i (agent_links p 0 (first_actors p 0 p.agents))
      ∙ (let z : 0 + i ≡ i = omega arith in subst (λ z. between (AtAgent z) (AtAgent z)
      (agent_links p 0 (first_actors p 0 p.agents)) ≡ wake_of (get_or (first_actors p 0 p.agents) i no_agent).awaited) z
      (own_agents p (first_actors p 0 p.agents) 0 i li));
}
  where
    rows : (c v : ℕ) (r : Parts) → c < clps_of p → rec_at (clp_at (first_world p) c).records v ≡ Some r
        → (r.puts ≡ []) × (r.reads ≡ [])
    rows c v r lc er = first_rows (map (first_way p c) p.vars) (map (λ (x : VarRow). x.value) p.vars) v r
        (ap (λ (z : ClpState). rec_at z.records v) (sym (clp_is p fit c lc)) ∙ er)
