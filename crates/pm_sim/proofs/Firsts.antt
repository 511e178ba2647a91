-- The whole fact holds in the first world.
use Rattle.pm_queries.specs.Queries.{has_reg}
use Rattle.std.specs.Prelude.{nat_le}
use Rattle.pm_tables.specs.Tables.{no_value}
use Rattle.pm_alp.specs.declared.agent.Awaited.{Awaited}
use Rattle.pm_alp.specs.declared.agent.Agent.{Agent}
use Rattle.pm_sim.specs.Routings.{stands_at, is_move, moves_var, Fits, NoTwiceReg, TreeOk, ask_to, mail_to}
use Rattle.pm_clp.specs.Clps.{ClpState, rec_at, first_record, first_records, first_parts}
use Rattle.pm_sim.proofs.Queries.{ask_is}
use Rattle.std.proofs.lemmas.Bool.{cases_Bool, cases_eq}
use Rattle.std.proofs.Common.{◌≡◌, ℕ, zero, suc, ◌+◌, ◌<◌, ◌≤◌, ◌⊎◌, inl, inr, ◌==◌, true, false, cond, List, [], ◌∷◌, ◌++◌, map, length, get_or, refl, arith, ap, sym, ◌∙◌, subst, subst₂, Option, Some, None, Bool}
use Rattle.std.proofs.lemmas.Bool.Decides.{nat_tests}
use Rattle.std.proofs.lemmas.List.{length-map, get_or-map}
use Rattle.pm_model.specs.Runs.{first_agent, sequential_start}
use Rattle.pm_routes.specs.declared.way.Way.{Way}
use Rattle.pm_base.specs.declared.rows.Parts.{Parts}
use Rattle.pm_base.specs.declared.rows.PutRow.{PutRow}
use Rattle.pm_base.specs.declared.stamp.Num.{Num}
use Rattle.pm_base.specs.declared.stamp.Stamp.{Stamp}
use Rattle.pm_base.specs.declared.value.Value.{Value}
use Rattle.pm_base.specs.declared.value.Window.{Window}
use Rattle.pm_base.specs.Windows.{IsPair}
use Rattle.pm_message.specs.Messages.{stamp_of}
use Rattle.pm_message.specs.declared.Message.{Message}
use Rattle.pm_model.specs.declared.AgentState.{AgentState}
use Rattle.pm_plan.specs.Plans.{parents}
use Rattle.pm_plan.specs.Trees.{hop}
use Rattle.pm_plan.specs.declared.plan.AgentRow.{AgentRow}
use Rattle.pm_plan.specs.declared.plan.Plan.{Plan}
use Rattle.pm_plan.specs.declared.plan.VarRow.{VarRow}
use Rattle.pm_alp.specs.Agents.{no_agent, wake_of}
use Rattle.pm_sim.specs.Worlds.{Link, Mail, Process, first_world, mail, mail_of, clps_of, ports, zero_line, no_row, no_clp, first_awaited, first_seq, first_actor, first_actors, agent_links, tree_links, first_way, clp_first, first_clps}
use Rattle.pm_sim.specs.Worlds.Process.{AtClp, AtAgent}
use Rattle.pm_sim.specs.Sims.{AgentOk, Core, In, MailOk, NotPast, Waits, no_turn, num_of, one_if, put_msg, st, tally, within, PlanIs}
use Rattle.pm_sim.proofs.Goes.{PlanOk}
use Rattle.pm_sim.proofs.Letters.{message_of, letters, in_map, map_in}
use Rattle.pm_sim.proofs.Lists.{in_left, in_right, in_cases}
use Rattle.pm_sim.proofs.Places.{clp_at, queries_at, Sim}
use Rattle.pm_sim.proofs.Quiets.{tally_none}
use Rattle.pm_base.specs.declared.value.Query.TheVariants as query
use Rattle.pm_message.specs.declared.Message.TheVariants as message
use Rattle.pm_routes.specs.declared.way.Way.TheVariants as way

-- a row of no variable
abbrev pub no_var : VarRow
no_var = record { name = []; at = 0; value = no_value }

abbrev pub place_of_var : Plan → ℕ → ℕ
place_of_var p v = (get_or p.vars v no_var).at

-- its classes and places are as they have to be
pub record PlanFits (p : Plan) : Type 0 where
  pub tree : TreeOk p
  pub shape : PlanIs p (length (sequential_start p).values)
  pub place_in : (v : ℕ) → v < length (sequential_start p).values → place_of_var p v < clps_of p
  pub pairs : (v : ℕ) → v < length (sequential_start p).values → IsPair (get_or (sequential_start p).values v no_value)
  pub rules : (i : ℕ) → i < length p.agents → PlanOk p (length (sequential_start p).values) i

pub agents_len : (p : Plan) (i : ℕ) (xs : List AgentRow) → length (first_actors p i xs) ≡ length xs
agents_len p i [] = refl
agents_len p i (x ∷ xs) = ap suc (agents_len p (suc i) xs)

agents_get : (p : Plan) (i j : ℕ) (xs : List AgentRow)
    → j < length xs → get_or (first_actors p i xs) j no_agent ≡ first_actor p (i + j) (get_or xs j no_row)
agents_get p i j [] lt = absurd (omega arith)
agents_get p i zero (x ∷ xs) lt = ap (λ k. first_actor p k x) (omega arith)
agents_get p i (suc j) (x ∷ xs) lt =
    agents_get p (suc i) j xs (omega arith) ∙ ap (λ k. first_actor p k (get_or xs j no_row)) (omega arith)

-- the first mail is the agents' Wakes
empty_links : (c : ℕ) (ds : List ℕ) (x : Mail)
    → In x (mail (map (λ d. record { to = AtClp c; from = AtClp d; messages = [] }) ds)) → ⊥
empty_links c [] x i = i
empty_links c (d ∷ ds) x i = empty_links c ds x i

mail_cases : (xs ys : List Link) (x : Mail) → In x (mail (xs ++ ys)) → In x (mail xs) ⊎ In x (mail ys)
mail_cases [] ys x i = inr i
mail_cases (l ∷ ls) ys x i = elim (in_cases (mail_of l) (mail (ls ++ ys)) x i) [
  | inl j ↦ inl (in_left (mail_of l) (mail ls) x j)
  | inr j ↦ elim (mail_cases ls ys x j) [ inl k ↦ inl (in_right (mail_of l) (mail ls) x k) | inr k ↦ inr k ]
]

mail_right : (xs ys : List Link) (x : Mail) → In x (mail ys) → In x (mail (xs ++ ys))
mail_right [] ys x i = i
mail_right (l ∷ ls) ys x i = in_right (mail_of l) (mail (ls ++ ys)) x (mail_right ls ys x i)

no_tree_mail : (p : Plan) (c n : ℕ) (x : Mail) → In x (mail (tree_links p c n)) → ⊥
no_tree_mail p c zero x i = i
no_tree_mail p c (suc n) x i = elim (mail_cases
    (map (λ d. record { to = AtClp c; from = AtClp d; messages = [] }) (ports p c)) (tree_links p (suc c) n) x i) [
      | inl j ↦ empty_links c (ports p c) x j
      | inr j ↦ no_tree_mail p (suc c) n x j
    ]

own_mail : ℕ → Option Awaited → List Mail
own_mail j o = map (λ (m : Message). mail_to (AtAgent j) (AtAgent j) m) (wake_of o)

agent_mail : (p : Plan) (i : ℕ) (xs : List Agent) (x : Mail) → In x (mail (agent_links p i xs))
    → (j : ℕ) × (j < length xs) × In x (own_mail (i + j) (get_or xs j no_agent).awaited)
unfolding own_mail
agent_mail p i [] x k = absurd k
agent_mail p i (a ∷ xs) x k =
    elim (in_cases (map (λ (m : Message). mail_to (AtAgent i) (AtAgent i) m) (wake_of a.awaited))
    (mail (agent_links p (suc i) xs)) x k) [
      | inl c ↦ (
        zero,
        omega arith,
        subst
            (λ z. In x (map (λ (m : Message). mail_to (AtAgent z) (AtAgent z) m) (wake_of a.awaited))) (omega arith) c,
      )
      | inr c ↦ (let r = agent_mail p (suc i) xs x c in (
        suc r.0,
        (let h = r.1 in omega arith),
        subst
            (λ z. In
            x (map (λ (m : Message). mail_to (AtAgent z) (AtAgent z) m) (wake_of (get_or xs r.0 no_agent).awaited)))
            (omega arith) r.2,
      ))
    ]

of_agent : (p : Plan) (i j : ℕ) (xs : List Agent) (x : Mail)
    → j < length xs → In x (own_mail (i + j) (get_or xs j no_agent).awaited) → In x (mail (agent_links p i xs))
unfolding own_mail
of_agent p i j [] x lt k = absurd (omega arith)
of_agent p i zero (a ∷ xs) x lt k =
    in_left (map (λ (m : Message). mail_to (AtAgent i) (AtAgent i) m) (wake_of a.awaited)) _
    x (subst (λ z. In x (map (λ (m : Message). mail_to (AtAgent z) (AtAgent z) m) (wake_of a.awaited))) (omega arith) k)
of_agent p i (suc j) (a ∷ xs) x lt k =
    in_right (map (λ (m : Message). mail_to (AtAgent i) (AtAgent i) m) (wake_of a.awaited)) _ x
    (of_agent p (suc i) j xs x (omega arith) (subst (λ z. In x (map (λ (m : Message). mail_to (AtAgent z) (AtAgent z) m)
    (wake_of (get_or xs j no_agent).awaited))) (omega arith) k))

wake_is : (j : ℕ) (o : Option ℕ) (x : Mail) → In x (own_mail j (first_awaited j o)) → (t : ℕ)
    × (o ≡ Some t) × (x ≡ mail_to (AtAgent j) (AtAgent j) (message.Wake (record { agent = j; seq = 0 }) (st t j)))
unfolding own_mail
wake_is j None x k = absurd k
wake_is j (Some t) x (inl e) = (t, refl, e)
wake_is j (Some t) x (inr k) = absurd k

waits_first : (j : ℕ) (o : Option ℕ) → Waits j o (first_awaited j o)
waits_first j None = refl
waits_first j (Some t) = (record { agent = j; seq = 0 }, refl, refl)

wakes_in : (j : ℕ) (o : Option Awaited) (w : Awaited)
    → o ≡ Some w → In (mail_to (AtAgent j) (AtAgent j) (message.Wake w.num w.stamp)) (own_mail j o)
unfolding own_mail
wakes_in j None w e = absurd (cc)
wakes_in j (Some u) w e =
    inl (ap (λ (z : Awaited). mail_to (AtAgent j) (AtAgent j) (message.Wake z.num z.stamp)) (same w u e))
  where
    same : (x y : Awaited) → Some y ≡ Some x → x ≡ y
    same x y f = cc

pub clps_len : (p : Plan) (c n : ℕ) → length (first_clps p c n) ≡ n
clps_len p c zero = refl
clps_len p c (suc n) = ap suc (clps_len p (suc c) n)

clps_get : (p : Plan) (c n d : ℕ) → d < n → get_or (first_clps p c n) d no_clp ≡ clp_first p (c + d)
clps_get p c zero d lt = absurd (omega arith)
clps_get p c (suc n) zero lt = ap (clp_first p) (omega arith)
clps_get p c (suc n) (suc d) lt = clps_get p (suc c) n d (omega arith) ∙ ap (clp_first p) (omega arith)

records_get : (ys : List Way) (vs : List Value) (v : ℕ) → length ys ≡ length vs
    → v < length vs → rec_at (first_records ys vs) v ≡ first_record (get_or ys v way.Here) (get_or vs v no_value)
records_get [] vs v e lt = absurd (omega arith)
records_get (a ∷ ys) [] v e lt = absurd (omega arith)
records_get (a ∷ ys) (x ∷ vs) zero e lt = refl
records_get (a ∷ ys) (x ∷ vs) (suc v) e lt = records_get ys vs v (omega arith) (omega arith)

records_len : (ys : List Way) (vs : List Value) → length ys ≡ length vs → length (first_records ys vs) ≡ length vs
records_len [] [] e = refl
records_len [] (v ∷ vs) e = absurd (omega arith)
records_len (a ∷ ys) [] e = absurd (omega arith)
records_len (a ∷ ys) (v ∷ vs) e = ap suc (records_len ys vs (omega arith))

pub records_past : (ys : List Way) (vs : List Value) (v : ℕ) (r : Parts)
    → rec_at (first_records ys vs) v ≡ Some r → v < length vs
records_past [] vs v r e = absurd (cc)
records_past (a ∷ ys) [] v r e = absurd (cc)
records_past (a ∷ ys) (x ∷ vs) zero r e = omega arith
records_past (a ∷ ys) (x ∷ vs) (suc v) r e = (let h = records_past ys vs v r e in omega arith)

module _ (p : Plan) (fit : PlanFits p) where
  abbrev agents : List Agent
  agents = first_actors p 0 p.agents

  abbrev pub issued : List Message
  issued = letters (first_world p).links

  abbrev pub N : ℕ
  N = clps_of p

  abbrev pub recs : ℕ → Parts
  recs v = first_parts (get_or (sequential_start p).values v no_value)

  abbrev pub place : ℕ → ℕ
  place v = place_of_var p v

  pub when : ℕ → Option ℕ
  when j = within p.horizon (get_or p.agents j no_row).start

  agent_j : (j : ℕ) → j < length agents → get_or agents j no_agent ≡ first_actor p j (get_or p.agents j no_row)
  agent_j j lt = agents_get p 0 j p.agents (omega (arith, lt, agents_len p 0 p.agents))
      ∙ ap (λ k. first_actor p k (get_or p.agents j no_row)) (omega arith)

  pub mail_is : (x : Mail) → In x (mail (first_world p).links) → (j t : ℕ) × (j < length agents) × (when j ≡ Some t)
      × (x ≡ mail_to (AtAgent j) (AtAgent j) (message.Wake (record { agent = j; seq = 0 }) (st t j)))
  unfolding when
  mail_is x i = elim (mail_cases (tree_links p 0 (clps_of p)) (agent_links p 0 agents) x i) [
    | inl k ↦ absurd (no_tree_mail p 0 (clps_of p) x k)
    | inr k ↦ (let r = agent_mail p 0 agents x k in
        let k' : In x (own_mail r.0 (first_awaited r.0 (within p.horizon (get_or p.agents r.0 no_row).start))) =
        subst₂ (λ z (a : Agent). In x (own_mail z a.awaited)) (omega arith) (agent_j r.0 r.1) r.2 in
        let w = wake_is r.0 (within p.horizon (get_or p.agents r.0 no_row).start) x k' in (r.0, w.0, r.1, w.1, w.2))
  ]

  is_wake : (m : Message) → In m issued → (j t : ℕ)
      × (j < length agents) × (when j ≡ Some t) × (m ≡ message.Wake (record { agent = j; seq = 0 }) (st t j))
  is_wake m i = (let o = in_map message_of (mail (first_world p).links) m i in let r =
      mail_is o.0 o.1 in (r.0, r.1, r.2, r.3, o.2 ∙ ap message_of r.4))

  turn_j : (j : ℕ)
      → j < length p.agents → get_or (sequential_start p).agents j no_turn ≡ first_agent p (get_or p.agents j no_row)
  turn_j j lt = get_or-map (first_agent p) p.agents j no_row no_turn lt

  not_put : (v : ℕ) (r : PutRow) → In (put_msg v r) issued → ⊥
  not_put v r k = (let w = is_wake (put_msg v r) k in no v r _ _ w.4)
    where
      no : (u : ℕ) (x : PutRow) (n : Num) (s : Stamp) → put_msg u x ≡ message.Wake n s → ⊥
      no u x n s e = cc

  when_is : (j t : ℕ) → when j ≡ Some t → within p.horizon (get_or p.agents j no_row).start ≡ Some t
  unfolding when
  when_is j t e = e

  seq_some : (o : Option ℕ) (t : ℕ) → o ≡ Some t → 0 < first_seq o
  seq_some None t e = absurd (cc)
  seq_some (Some u) t e = omega arith

  some_nat : (x y : ℕ) → Some x ≡ Some y → x ≡ y
  some_nat x y e = cc

  within_le : (h x t : ℕ) → within h x ≡ Some t → t ≤ h
  within_le h x t e = go (nat_le x h) refl e
    where
      go : (b : Bool) → nat_le x h ≡ b → cond b (Some x) None ≡ Some t → t ≤ h
      go true f g = (
          let y : x ≡ t = some_nat x t g in let z : x ≤ h = grind (arith, nat_tests, f) in omega arith)
      go false f g = absurd (cc)

  pub first_core : (pend : Num → ℕ → Type 0) (wait : Num → Type 0)
      → Core p zero_line (sequential_start p) issued agents recs issued pend wait
  first_core pend wait = record {
    same_agents = agents_len p 0 p.agents ∙ sym (length-map p.agents _);
    same_plan = sym (length-map p.agents _);
    same_vars = fit.shape.vars;
    pairs = fit.pairs;
    wide = λ n s v c k. absurd (not_put v (record { num = n; stamp = s; change = c }) k);
    base = λ v lt. refl;
    agent = λ i lt. (let lt' : i < length p.agents = omega (arith, lt, agents_len p 0 p.agents) in
        subst₂ (λ (t : AgentState) (a : Agent). AgentOk p zero_line issued issued recs
        pend wait (length (sequential_start p).values) i t a) (sym (turn_j i lt')) (sym (agent_j i lt)) (record {
          base = refl;
          low = λ s j. absurd j;
          chain = waits_first i (within p.horizon (get_or p.agents i no_row).start);
          senses = λ s j. absurd j;
          rises = tt;
          wake = λ w e. map_in
              message_of (mail (first_world p).links) (mail_to (AtAgent i) (AtAgent i) (message.Wake w.num w.stamp))
              (mail_right (tree_links p 0 (clps_of p)) (agent_links p 0 agents) _ (of_agent p 0 i agents _ lt
              (subst₂ (λ z (a : Agent). In (mail_to (AtAgent i) (AtAgent i) (message.Wake w.num w.stamp))
              (own_mail z a.awaited)) (omega arith) (sym (agent_j i lt)) (wakes_in i _ w e))));
        }));
    own = λ m k. (let w = is_wake m k in ap (λ z. (num_of z).agent) w.4 ∙ sym (ap (λ z. (stamp_of z).agent) w.4));
    times = λ m k. (let w = is_wake m k in subst (λ z. (stamp_of z).time ≤ p.horizon) (sym w.4)
        (within_le p.horizon (get_or p.agents w.0 no_row).start w.1 (when_is w.0 w.1 w.3)));
    fresh = λ m k. (let w = is_wake m k in subst (λ z. ((num_of z).agent < length agents)
        × ((num_of z).seq < (get_or agents (num_of z).agent no_agent).seq)) (sym w.4) (
          w.2,
          subst (λ (a : Agent). 0 < a.seq) (sym (agent_j w.0 w.2))
              (seq_some (within p.horizon (get_or p.agents w.0 no_row).start) w.1 (when_is w.0 w.1 w.3)),
        ));
    unique = λ m k i j e. (let a = is_wake m i in let b = is_wake k j in
        let same : a.0 ≡ b.0 = ap (λ (z : Num). z.agent) (sym (ap num_of a.4) ∙ (e ∙ ap num_of b.4)) in
        let times : a.1 ≡ b.1 = some_nat a.1 b.1 (sym a.3 ∙ (ap when same ∙ b.3)) in
        a.4 ∙ (subst₂ (λ x y. message.Wake (record { agent = a.0; seq = 0 }) (st a.1 a.0)
        ≡ message.Wake (record { agent = y; seq = 0 }) (st x y)) times same refl ∙ sym b.4));
    mail = λ m k. (let w = is_wake m k in subst (λ z. MailOk p issued z × NotPast zero_line (stamp_of z))
        (sym w.4) (subst (λ z. In z issued) w.4 k, grind arith));
    rec = λ v. record {
      puts = λ x j. absurd j;
      cuts = λ x j. absurd j;
      reads = λ x j. absurd j;
      solid = record { puts = tt; cuts = tt; reads = tt; puts_once = tt; cuts_once = tt; reads_once = tt; hits = tt };
    };
    put_once = λ v r k. absurd (not_put v r k);
    cut_once = λ v r k. absurd (not_put v r k);
  }

  pub clp_is : (c : ℕ) → c < N → clp_at (first_world p) c ≡ clp_first p c
  clp_is c lt = clps_get p 0 N c lt ∙ ap (clp_first p) (omega arith)

  pub no_queries : (c : ℕ) → c < N → queries_at (first_world p) c ≡ []
  no_queries c lt = ap (λ (z : ClpState). z.queries) (clp_is c lt)

  no_asks : (c : ℕ) (f : Process) (n : Num) (s : Stamp) (k : ℕ) (w : Window)
      → In (mail_to (AtClp c) f (message.Ask n s (query.Class k w))) (mail (first_world p).links) → ⊥
  no_asks c f n s k w i = (let r = mail_is _ i in let e = ap (λ (z : Mail). z.to) r.4 in cc)

  pub ways_len : (c : ℕ) → length (map (first_way p c) p.vars) ≡ length (sequential_start p).values
  ways_len c = length-map p.vars (first_way p c) ∙ sym (length-map p.vars (λ (v : VarRow). v.value))

  pub way_at : (c v : ℕ) → v < length (sequential_start p).values
      → get_or (map (first_way p c) p.vars) v way.Here ≡ first_way p c (get_or p.vars v no_var)
  way_at c v lt = get_or-map
      (first_way p c) p.vars v no_var way.Here (omega (arith, lt, length-map p.vars (λ (v : VarRow). v.value)))

  pub rec_here : (c v : ℕ) → c < N → v < length (sequential_start p).values → rec_at (clp_at (first_world p) c).records
      v ≡ first_record (first_way p c (get_or p.vars v no_var)) (get_or (sequential_start p).values v no_value)
  rec_here c v lc lt = ap (λ (z : ClpState). rec_at z.records v) (clp_is c lc)
      ∙ (records_get (map (first_way p c) p.vars) (sequential_start p).values v (ways_len c) lt
      ∙ ap (λ y. first_record y (get_or (sequential_start p).values v no_value)) (way_at c v lt))

  pub first_sim : Sim p (sequential_start p) (first_world p) recs
  first_sim = record {
    tree = fit.tree;
    shape = fit.shape;
    issued = issued;
    place = place;
    core = first_core _ _;
    queries = record {
      reg = λ c r lt i. absurd (subst (In r) (no_queries c lt) i);
      asks = λ c f n s k w i. absurd (no_asks c f n s k w i);
      once = λ n c lt. (let e : tally (ask_to n c) (mail (first_world p).links) ≡ 0 =
          tally_none (ask_to n c) (mail (first_world p).links) (λ x i. elim (cases_Bool (ask_to n c x)) [
            | inr f ↦ f
            | inl f ↦ absurd (let a =
                ask_is n c x f in no_asks c x.from n a.0 a.1 a.2 (subst (λ z. In z (mail (first_world p).links)) a.3 i))
          ]) in
          subst
          (λ z. tally (ask_to n c) (mail (first_world p).links) + one_if (has_reg n z) 0 ≤ 1)
          (sym (no_queries c lt))
          (omega arith));
      alone = λ c lt. subst NoTwiceReg (sym (no_queries c lt)) tt;
      asked = λ c d n s k w i. absurd (no_asks c (AtClp d) n s k w i);
      up = λ c r lt i. absurd (subst (In r) (no_queries c lt) i);
      outward = λ c r d lt i. absurd (subst (In r) (no_queries c lt) i);
      waits = λ c r d lt i. absurd (subst (In r) (no_queries c lt) i);
    };
    places = record {
      line = λ c lt. ap (λ (z : ClpState). z.line) (clp_is c lt);
      ports_are = λ c lt. ap (λ (z : ClpState). z.routing.ports) (clp_is c lt);
      here =
          λ c v lt lv e. rec_here c v lt lv ∙ ap (λ y. first_record y (get_or (sequential_start p).values v no_value))
          (sym (way_at c v lv) ∙ (ap (λ (z : ClpState). get_or z.routing.ways v way.Here) (sym (clp_is c lt)) ∙ e));
      port = λ c v d lt lv e. by_port c v d lt
          lv (sym (way_at c v lv) ∙ (ap (λ (z : ClpState). get_or z.routing.ways v way.Here) (sym (clp_is c lt)) ∙ e));
      at = λ c v r lt e. (let lv = records_past (map (first_way p c) p.vars)
          (sequential_start p).values v r (ap (λ (z : ClpState). rec_at z.records v) (sym (clp_is c lt)) ∙ e) in
          by_rec c v r (sym (rec_here c v lt lv) ∙ e));
      records_len = λ c lt. ap (λ (z : ClpState). length z.records) (clp_is c lt)
          ∙ records_len (map (first_way p c) p.vars) (sequential_start p).values (ways_len c);
      ways_len = λ c lt. ap (λ (z : ClpState). length z.routing.ways) (clp_is c lt) ∙ ways_len c;
    };
    moves = record {
      placed = λ v lv. (
        fit.place_in v lv,
        inl (
          ap stands_at (rec_here (place v) v (fit.place_in v lv) lv)
              ∙ (let e : (place v == place v) ≡ true = grind (arith, nat_tests) in rw e refl),
          tally_none (is_move v) (mail (first_world p).links)
              (λ x i. (let r = mail_is x i in ap (λ (z : Mail). moves_var v z.message) r.4)),
        ),
      );
      moves = λ a f v s r i. absurd (let o = mail_is _ i in let e = ap (λ (z : Mail). z.message) o.4 in cc);
    };
    fits = λ x i. (let r = mail_is x i in subst (Fits N (length (sequential_start p).values)) (sym r.4) refl);
    size = clps_len p 0 N;
    plan = λ i lt. fit.rules i (omega (arith, lt, agents_len p 0 p.agents));
  }
    where
      by_port : (c v d : ℕ)
          → c < N → v < length (sequential_start p).values → first_way p c (get_or p.vars v no_var) ≡ way.Port d → d < N
      by_port c v d lt lv f = elim (cases_eq c (place v)) [
        | inl e ↦ absurd (let g : (place v == c) ≡ true = grind (arith, nat_tests, e) in let h : way.Here ≡ way.Port d =
            sym (ap (λ b. cond b way.Here (way.Port (hop (parents p.clps) c (place v)))) g) ∙ f in cc)
        | inr ne ↦ (let g : (place v == c) ≡ false =
            grind (arith, nat_tests, ne) in let h : way.Port (hop (parents p.clps) c (place v)) ≡ way.Port d =
            sym (ap (λ b. cond b way.Here (way.Port (hop (parents p.clps) c (place v)))) g) ∙ f in
            subst (λ z. z < N) (same (hop (parents p.clps) c (place v)) d h)
            (fit.tree.inside c _ (fit.tree.hop_port c (place v) lt (fit.place_in v lv) ne)))
      ]
        where
          same : (x y : ℕ) → way.Port x ≡ way.Port y → x ≡ y
          same x y h = cc

      by_rec : (c v : ℕ) (r : Parts) → first_record (first_way p c (get_or p.vars v no_var))
          (get_or (sequential_start p).values v no_value) ≡ Some r → (place v ≡ c) × (r ≡ recs v)
      by_rec c v r e = elim (cases_eq (place v) c) [
        | inl g ↦ (
          g,
          (let h : (place v == c) ≡ true = grind (arith, nat_tests, g) in some_same
              r (recs v) (sym e ∙ ap (λ b. first_record (cond b way.Here (way.Port (hop (parents p.clps) c (place v))))
              (get_or (sequential_start p).values v no_value)) h)),
        )
        | inr ne ↦ absurd (let h : (place v == c) ≡ false = grind (arith, nat_tests, ne) in let f : None ≡ Some r =
            sym (ap (λ b. first_record (cond b way.Here (way.Port (hop (parents p.clps) c (place v))))
            (get_or (sequential_start p).values v no_value)) h) ∙ e in cc)
      ]
        where
          some_same : (x y : Parts) → Some x ≡ Some y → x ≡ y
          some_same x y h = cc

  pub first_place : (v : ℕ) → first_sim.place v ≡ place v
  unfolding first_sim
  first_place v = refl
