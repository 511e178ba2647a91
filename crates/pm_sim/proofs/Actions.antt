-- An agent takes a letter: what has to hold of its new state and of what it sends, so that all stays true.
use Rattle.pm_base.specs.Stamps.{num_eq}
use Rattle.pm_saved.specs.declared.kept.KeptStep.{KeptStep}
use Rattle.pm_saved.specs.declared.kept.KeptSense.{KeptSense}
use Rattle.pm_saved.specs.declared.kept.KeptAct.{KeptAct}
use Rattle.pm_alp.specs.declared.agent.Awaited.{Awaited}
use Rattle.pm_alp.specs.declared.agent.Agent.{Agent}
use Rattle.std.proofs.Common.{◌≡◌, ℕ, ◌+◌, ◌<◌, ◌≤◌, inl, inr, false, List, [], ◌∷◌, ◌++◌, length, get_or, set, arith, ap, sym, ◌∙◌, subst, Option, Some, None, ℤ, get_or-set_other, get_or-set_same, length-set}
use Rattle.std.proofs.lemmas.Bool.{cases_Bool, cases_eq}
use Rattle.pm_base.specs.declared.rows.CutRow.{CutRow}
use Rattle.pm_base.specs.declared.rows.GiveRow.{GiveRow}
use Rattle.pm_base.specs.declared.rows.Parts.{Parts}
use Rattle.pm_base.specs.declared.rows.PutRow.{PutRow}
use Rattle.pm_base.specs.declared.stamp.Line.{Line}
use Rattle.pm_base.specs.declared.stamp.Num.{Num}
use Rattle.pm_base.specs.declared.stamp.Stamp.{Stamp}
use Rattle.pm_base.specs.declared.value.Change.{Change}
use Rattle.pm_base.specs.declared.value.Query.{Query}
use Rattle.pm_base.specs.declared.value.Write.{Write}
use Rattle.pm_message.specs.Messages.{stamp_of}
use Rattle.pm_message.specs.declared.Message.{Message}
use Rattle.pm_model.specs.Runs.{rest}
use Rattle.pm_model.specs.declared.AgentState.{AgentState}
use Rattle.pm_model.specs.declared.State.{State}
use Rattle.pm_plan.specs.declared.plan.Plan.{Plan}
use Rattle.pm_alp.specs.Agents.{Rule, no_agent}
use Rattle.pm_sim.specs.Worlds.{rule_at}
use Rattle.pm_sim.specs.Sims.{Acted, Agree, AgentOk, Chain, Core, In, IsWide, MailOk, NotPast, QueryOk, RecOk, Told, Waits, WritesOk, cut_msg, is_cut, is_put, kept_writes, no_turn, num_of, one_if, put_msg, st, tally, within}
use Rattle.pm_sim.proofs.Arrivals.{Mailed}
use Rattle.pm_sim.proofs.Lists.{in_left, in_cases}
use Rattle.pm_sim.proofs.Quiets.{tally_none, is_put_is, is_cut_is, some_same, put_none, n}
use Rattle.pm_sim.proofs.Stamps.{nums_same}
use Rattle.pm_base.specs.declared.value.Query.TheVariants as query
use Rattle.pm_message.specs.declared.Message.TheVariants as message

-- more was issued
pub mail_more : (p : Plan) (issued more : List Message) (m : Message) → MailOk p issued m → MailOk p (issued ++ more) m
mail_more p issued more (message.Wake n s) h = in_left issued more _ h
mail_more p issued more (message.Ask n s q) h = in_left issued more _ h
mail_more p issued more (message.Put r_n r_t v r_c) h = in_left issued more _ h
mail_more p issued more (message.Cut r_n r_t v) h = (h.0, in_left issued more _ h.1)
mail_more p issued more (message.Give r) h = (h.0, in_left issued more _ h.1, h.2)
mail_more p issued more (message.Finish n s) h = (h.0, h.1, in_left issued more _ h.2)
mail_more p issued more (message.Move v s r) h = h
mail_more p issued more (message.Grow k s u w) h = h

pub writes_more : (issued more : List Message) (s : Stamp) (ms : List Num) (ws : List Write)
    → WritesOk issued s ms ws → WritesOk (issued ++ more) s ms ws
writes_more issued more s [] [] h = tt
writes_more issued more s [] (w ∷ ws) h = h
writes_more issued more s (m ∷ ms) [] h = h
writes_more issued more s (m ∷ ms) (w ∷ ws) h = (in_left issued more _ h.0, writes_more issued more s ms ws h.1)

pub acted_more : (issued more : List Message) (prog : Rule) (regs : List ℤ) (s : KeptStep) (a : KeptAct)
    → Acted issued prog regs s a → Acted (issued ++ more) prog regs s a
acted_more issued more prog regs s a h = record {
  complete = h.complete;
  acts = h.acts;
  entry = h.entry;
  writes = writes_more issued more s.stamp a.nums a.entry.writes h.writes;
}

pub chain_more : (issued more : List Message)
    (h : ℕ) (prog : Rule) (i : ℕ) (regs : List ℤ) (next : Option ℕ) (ss : List KeptStep) (w : Option Awaited)
    → Chain issued h prog i regs next ss w → Chain (issued ++ more) h prog i regs next ss w
chain_more issued more h prog i regs next [] w c = c
chain_more issued more h prog i regs next (s ∷ ss) w (t, en, es, asked, inl o) = (t, en, es, asked, inl o)
chain_more issued more h prog i regs next (s ∷ ss) w (t, en, es, asked, inr (a, act, acted, c)) = (
  t,
  en,
  es,
  asked,
  inr (
    a,
    act,
    acted_more issued more prog regs s a acted,
    chain_more issued more h prog i a.regs (within h (t + a.wait)) ss w c,
  ),
)

pub rec_more : (p : Plan) (issued more : List Message) (l : Line) (v : ℕ) (r : Parts)
    → RecOk p issued l v r → RecOk p (issued ++ more) l v r
rec_more p issued more l v r o = record {
  puts = λ q i. (let k = o.puts q i in (in_left issued more _ k.0, k.1));
  cuts = λ c i. (let k = o.cuts c i in (mail_more p issued more (cut_msg v c) k.0, k.1));
  reads = λ q i. (let k = o.reads q i in (k.0, in_left issued more _ k.1, k.2, k.3, k.4));
  solid = o.solid;
}

-- what an agent's answer to a letter m has to be
pub record Action (p : Plan) (l : Line)
    (q : State) (issued fresh : List Message) (recs : ℕ → Parts) (new : List Message) (pend' : Num → ℕ → Type 0)
    (wait' : Num → Type 0) (m : Message) (sent : List Message) (i : ℕ) (a b : Agent) : Type 0 where
  pub for_it : (num_of m).agent ≡ i
  pub no_put : (n : Num) → is_put n m ≡ false
  pub no_cut : (n : Num) → is_cut n m ≡ false
  pub no_ask : (n : Num) (s : Stamp) (k : Query) → m ≡ message.Ask n s k → ⊥
  pub seq_up : a.seq ≤ b.seq
  pub fresh_num : (x : Message) → In x fresh → ((num_of x).agent ≡ i)
      × (a.seq ≤ (num_of x).seq) × ((num_of x).seq < b.seq) × ((num_of x).agent ≡ (stamp_of x).agent)
  pub fresh_one : (x y : Message) → In x fresh → In y fresh → num_of x ≡ num_of y → x ≡ y
  pub wides : (n : Num) (s : Stamp) (v : ℕ) (c : Change) → In (message.Put n s v c) fresh → IsWide c
  pub fresh_time : (x : Message) → In x fresh → (stamp_of x).time ≤ p.horizon
  pub sent_ok : (x : Message) → In x sent → MailOk p (issued ++ fresh) x × NotPast l (stamp_of x)
  pub no_gives : (g : GiveRow) → In (message.Give g) sent → ⊥
  pub puts_fresh : (v : ℕ) (r : PutRow) → In (put_msg v r) sent → In (put_msg v r) fresh
  pub puts_one : (v : ℕ) (r : PutRow)
      → In (put_msg v r) fresh → (v < length q.values) × (tally (is_put r.num) sent ≡ 1) × (kept_writes r.num b ≡ 1)
  pub cuts_old : (v : ℕ) (c : CutRow) → In (cut_msg v c) sent → (c.num.agent ≡ i) × (c.num.seq < a.seq)
  pub cuts_one : (n : Num) → n.agent ≡ i → n.seq < a.seq → tally (is_cut n) sent + kept_writes n b ≡ kept_writes n a
  pub agent : AgentOk p l (issued ++ fresh) new recs pend' wait' (length q.values) i (get_or q.agents i no_turn) b

module _ (p : Plan) (l : Line)
    (q : State) (issued fresh : List Message) (agents : List Agent) (recs : ℕ → Parts) (old new sent : List Message)
    (pend pend' : Num → ℕ → Type 0) (wait wait' : Num → Type 0) (core : Core p l q issued agents recs old pend wait)
    (i : ℕ) (in' : i < length agents) (b : Agent) (m : Message) (mailed : Mailed old new m sent)
    (act : Action p l q issued fresh recs new pend' wait' m sent i (get_or agents i no_agent) b)
    (pends : (n : Num) (v : ℕ) → pend n v → pend' n v)
    (waits : (n : Num) → ((s : Stamp) → m ≡ message.Finish n s → ⊥) → wait n → wait' n) where
  agents' : List Agent
  agents' = set agents i b

  same_len : length agents' ≡ length agents
  unfolding agents'
  same_len = length-set agents i b

  at_i : get_or agents' i no_agent ≡ b
  unfolding agents'
  at_i = get_or-set_same agents i b no_agent in'

  at_other : (j : ℕ) → (j ≡ i → ⊥) → get_or agents' j no_agent ≡ get_or agents j no_agent
  unfolding agents'
  at_other j ne = get_or-set_other agents i j b no_agent ne

  -- what another agent has stays
  other_agree : (n : Num) (v : ℕ) (top here : Told)
      → (n.agent ≡ i → ⊥) → Agree old n v top here → Agree new n v top here
  other_agree n v top here ne a = record {
    under = a.under;
    gives = λ g j en ev.
        elim (mailed.from (message.Give g) j) [ inl k ↦ a.gives g k en ev | inr k ↦ absurd (act.no_gives g k) ];
    there = elim a.there [
      | inl e ↦ inl e
      | inr e ↦ inr (
        e.0,
        elim (mailed.kept (message.Give e.0) e.1) [
          | inl f ↦ absurd (ne (ap (λ (z : Num). z.agent) (sym e.2) ∙ (ap (λ z. (num_of z).agent) f ∙ act.for_it)))
          | inr k ↦ k
        ],
        e.2,
        e.3,
        e.4,
      )
    ];
  }

  other_query : (n : ℕ) (s : Stamp) (x : KeptSense) (y : Query)
      → (x.num.agent ≡ i → ⊥) → QueryOk p old recs pend wait n s x y → QueryOk p new recs pend' wait' n s x y
  other_query n s x (query.One v) ne o = (
    o.0,
    o.1,
    record {
      asked = elim o.2.asked [
        | inl k ↦ elim (mailed.kept (message.Ask x.num s (query.One v)) k) [
          | inl e ↦ absurd (act.no_ask x.num s (query.One v) (sym e))
          | inr j ↦ inl j
        ]
        | inr e ↦ inr e
      ];
      agree = other_agree x.num v _ _ ne o.2.agree;
    },
  )
  other_query n s x (query.Class k w) ne o = (
    o.0,
    λ e. waits x.num (λ z f. ne (sym (ap (λ u. (num_of u).agent) f) ∙ act.for_it)) (o.1 e),
    λ v lt ec. record {
      asked = elim (o.2 v lt ec).asked [ inl h ↦ inl (pends x.num v h) | inr e ↦ inr e ];
      agree = other_agree x.num v _ _ ne (o.2 v lt ec).agree;
    },
  )

  chain_awaits : (h : ℕ) (prog : Rule) (j : ℕ) (regs : List ℤ) (next : Option ℕ) (ss : List KeptStep) (w : Awaited)
      → Chain issued h prog j regs next ss (Some w) → w.num.agent ≡ j
  chain_awaits h prog j regs None [] w c = absurd (let e : Some w ≡ None = c in cc)
  chain_awaits h prog j regs (Some t) [] w c = awaits c
    where
      awaits : Waits j (Some t) (Some w) → w.num.agent ≡ j
      awaits (n, e, f) = (let g : w ≡ record { num = n; stamp = st t j } =
          some_same w (record { num = n; stamp = st t j }) f in ap (λ (z : Awaited). z.num.agent) g ∙ e)
  chain_awaits h prog j regs next (s ∷ ss) w (t, en, es, asked, inl (none, nil, aw, open')) = absurd (cc)
  chain_awaits h prog j regs next (s ∷ ss) w (t, en, es, asked, inr (a, act', acted, c)) =
      chain_awaits h prog j a.regs (within h (t + a.wait)) ss w c

  other_agent : (n j : ℕ) (t : AgentState) (a : Agent)
      → (j ≡ i → ⊥) → ((s : KeptStep) → In s a.steps → s.stamp.agent ≡ j)
      → AgentOk p l issued old recs pend wait n j t a → AgentOk p l (issued ++ fresh) new recs pend' wait' n j t a
  other_agent n j t a ne own o = record {
    base = o.base;
    low = o.low;
    chain = chain_more issued fresh p.horizon (rule_at p j) j t.regs t.next a.steps a.awaited o.chain;
    senses = λ s k x k'. (let e = o.senses s k x k' in
        let mine : x.num.agent ≡ j = core.own (message.Ask x.num s.stamp x.query) e.issue ∙ own s k in
        record {
          issue = in_left issued fresh _ e.issue;
          query = other_query n s.stamp x x.query (λ f. ne (sym mine ∙ f)) e.query;
        });
    rises = o.rises;
    wake = λ w e. elim (mailed.kept (message.Wake w.num w.stamp) (o.wake w e)) [
      | inl f ↦ absurd (let c : Chain issued p.horizon (rule_at p j) j t.regs t.next a.steps (Some w) =
          subst (Chain issued p.horizon (rule_at p j) j t.regs t.next a.steps) e o.chain in
          ne (sym (chain_awaits p.horizon (rule_at p j) j t.regs t.next a.steps w c)
          ∙ (ap (λ z. (num_of z).agent) f ∙ act.for_it)))
      | inr k ↦ k
    ];
  }

  mixed : (x y : Message) → In x issued → In y fresh → num_of x ≡ num_of y → ⊥
  mixed x y j k e =
      let o = core.fresh x j in
      let f = act.fresh_num y k in
      let at : (num_of x).agent ≡ i = ap (λ (z : Num). z.agent) e ∙ f.0 in
      let low : (num_of x).seq < (get_or agents i no_agent).seq =
      subst (λ z. (num_of x).seq < (get_or agents z no_agent).seq) at o.1 in
      let same : (num_of x).seq ≡ (num_of y).seq = ap (λ (z : Num). z.seq) e in
      let high = f.1 in omega arith

  chain_agent : (h : ℕ) (prog : Rule) (j : ℕ) (regs : List ℤ) (next : Option ℕ) (ss : List KeptStep)
      (w : Option Awaited) (s : KeptStep) → Chain issued h prog j regs next ss w → In s ss → s.stamp.agent ≡ j
  chain_agent h prog j regs next [] w s c k = absurd k
  chain_agent h prog j regs next (x ∷ ss) w s (t, en, es, asked, rest) (inl e) =
      ap (λ (z : KeptStep). z.stamp.agent) e ∙ ap (λ (z : Stamp). z.agent) es
  chain_agent h prog j regs next (x ∷ ss) w s (t, en, es, asked, inl (none, nil, aw, open')) (inr k) =
      absurd (subst (In s) nil k)
  chain_agent h prog j regs next (x ∷ ss) w s (t, en, es, asked, inr (a, act', acted, c)) (inr k) =
      chain_agent h prog j a.regs (within h (t + a.wait)) ss w s c k

  agents_ok : (j : ℕ) → j < length agents' → AgentOk p l
      (issued ++ fresh) new recs pend' wait' (length q.values) j (get_or q.agents j no_turn) (get_or agents' j no_agent)
  agents_ok j lt = elim (cases_eq j i) [
    | inl e ↦ subst (λ z. AgentOk p l (issued ++ fresh)
        new recs pend' wait' (length q.values) z (get_or q.agents z no_turn) (get_or agents' z no_agent)) (sym e)
        (subst (AgentOk p l (issued ++ fresh) new recs pend' wait' (length q.values) i (get_or q.agents i no_turn))
        (sym at_i) act.agent)
    | inr ne ↦ (let o = core.agent j (omega (arith, lt, same_len)) in
        subst (AgentOk p l (issued ++ fresh) new recs pend' wait' (length q.values) j (get_or q.agents j no_turn))
        (sym (at_other j ne))
        (other_agent (length q.values) j (get_or q.agents j no_turn) (get_or agents j no_agent) ne
        (λ s k. chain_agent p.horizon (rule_at p j) j _ _ _ _ s o.chain k) o))
  ]

  fresh_ok : (x : Message) → In x (issued ++ fresh)
      → ((num_of x).agent < length agents') × ((num_of x).seq < (get_or agents' (num_of x).agent no_agent).seq)
  fresh_ok x k = elim (in_cases issued fresh x k) [
    | inl j ↦ (let o = core.fresh x j in (
      omega (arith, o.0, same_len),
      elim (cases_eq (num_of x).agent i) [
        | inl e ↦ (let up : (num_of x).seq < (get_or agents i no_agent).seq =
            subst (λ z. (num_of x).seq < (get_or agents z no_agent).seq) e o.1 in
            subst (λ z. (num_of x).seq < (get_or agents' z no_agent).seq)
            (sym e) (subst (λ (z : Agent). (num_of x).seq < z.seq) (sym at_i) (let k = act.seq_up in omega arith)))
        | inr ne ↦ subst (λ (z : Agent). (num_of x).seq < z.seq) (sym (at_other (num_of x).agent ne)) o.1
      ],
    ))
    | inr j ↦ (let f = act.fresh_num x j in (
      let e = f.0 in omega (arith, e, in', same_len),
      subst (λ z. (num_of x).seq < (get_or agents' z no_agent).seq)
          (sym f.0) (subst (λ (z : Agent). (num_of x).seq < z.seq) (sym at_i) f.2),
    ))
  ]

  unique_ok : (x y : Message) → In x (issued ++ fresh) → In y (issued ++ fresh) → num_of x ≡ num_of y → x ≡ y
  unique_ok x y j k e = elim (in_cases issued fresh x j) [
    | inl a ↦ elim (in_cases issued fresh y k) [ inl b' ↦ core.unique x y a b' e | inr b' ↦ absurd (mixed x y a b' e) ]
    | inr a ↦ elim (in_cases issued fresh y k) [
      | inl b' ↦ absurd (mixed y x b' a (sym e))
      | inr b' ↦ act.fresh_one x y a b' e
    ]
  ]

  put_ok : (v : ℕ) (r : PutRow) → In (put_msg v r) (issued ++ fresh) → NotPast l r.stamp
      → (v < length q.values)
      × (tally (is_put r.num) new + tally (λ (k : PutRow). num_eq r.num k.num) (recs v).puts ≡ 1)
  put_ok v r j low =
      let t = mailed.tallies (is_put r.num) in
      let z : one_if (is_put r.num m) 0 ≡ 0 = ap (λ c. one_if c 0) (act.no_put r.num) in
      elim (in_cases issued fresh (put_msg v r) j) [
        | inl k ↦ (let o = core.put_once v r k low in
            let none : tally (is_put r.num) sent ≡ 0 =
            tally_none (is_put r.num) sent (λ x h. elim (cases_Bool (is_put r.num x)) [
              | inr f ↦ f
              | inl f ↦ absurd (let c = is_put_is r.num x f in mixed
                  (put_msg v r) (put_msg c.0 c.1) k (act.puts_fresh c.0 c.1 (subst (λ y. In y sent) c.2 h)) (sym c.3))
            ]) in
            (o.0, let w = o.1 in omega arith))
        | inr k ↦ (let o = act.puts_one v r k in
            let none : tally (is_put r.num) old ≡ 0 =
            tally_none (is_put r.num) old (λ x h. elim (cases_Bool (is_put r.num x)) [
              | inr f ↦ f
              | inl f ↦ absurd (let c = is_put_is r.num x f in let g : In (put_msg c.0 c.1) issued =
                  subst (MailOk p issued) c.2 (core.mail x h).0 in mixed (put_msg c.0 c.1) (put_msg v r) g k c.3)
            ]) in
            let none' = put_none r.num (recs v).puts (λ x h f.
            mixed (put_msg v x) (put_msg v r) ((core.rec v).puts x h).0 k (sym (nums_same r.num x.num f))) in
            (o.0, let w = o.1 in omega arith))
      ]

  cut_ok : (v : ℕ) (r : PutRow) → In (put_msg v r) (issued ++ fresh) → NotPast l r.stamp
      → tally (is_cut r.num) new + tally (λ (k : CutRow). num_eq r.num k.num) (recs v).cuts
      + kept_writes r.num (get_or agents' r.num.agent no_agent) ≡ 1
  cut_ok v r j low =
      let t = mailed.tallies (is_cut r.num) in
      let z : one_if (is_cut r.num m) 0 ≡ 0 = ap (λ c. one_if c 0) (act.no_cut r.num) in
      elim (in_cases issued fresh (put_msg v r) j) [
        | inl k ↦ (let o = core.cut_once v r k low in elim (cases_eq r.num.agent i) [
          | inl e ↦ (let low' : r.num.seq < (get_or agents i no_agent).seq =
              subst (λ z. r.num.seq < (get_or agents z no_agent).seq) e (core.fresh (put_msg v r) k).1 in
              let c = act.cuts_one r.num e low' in
              let o' : tally (is_cut r.num) old + tally (λ (k : CutRow). num_eq r.num k.num) (recs v).cuts
              + kept_writes r.num (get_or agents i no_agent) ≡ 1 =
              subst (λ z. tally (is_cut r.num) old + tally (λ (k : CutRow). num_eq r.num k.num) (recs v).cuts
              + kept_writes r.num (get_or agents z no_agent) ≡ 1) e o in
              let b' : kept_writes r.num (get_or agents' r.num.agent no_agent) ≡ kept_writes r.num b =
              ap (λ z. kept_writes r.num (get_or agents' z no_agent)) e ∙ ap (kept_writes r.num) at_i in
              omega arith)
          | inr ne ↦ (let none : tally (is_cut r.num) sent ≡ 0 =
              tally_none (is_cut r.num) sent (λ x h. elim (cases_Bool (is_cut r.num x)) [
                | inr f ↦ f
                | inl f ↦ absurd (let c = is_cut_is r.num x f in
                    ne (ap (λ (z : Num). z.agent) (sym c.3) ∙ (act.cuts_old c.0 c.1 (subst (λ y. In y sent) c.2 h)).0))
              ]) in
              let b' : kept_writes r.num (get_or agents' r.num.agent no_agent) ≡ kept_writes
              r.num (get_or agents r.num.agent no_agent) = ap (kept_writes r.num) (at_other r.num.agent ne) in
              omega arith)
        ])
        | inr k ↦ (let o = act.puts_one v r k in let f' = act.fresh_num (put_msg v r) k in
            let none : tally (is_cut r.num) old ≡ 0 =
            tally_none (is_cut r.num) old (λ x h. elim (cases_Bool (is_cut r.num x)) [
              | inr f ↦ f
              | inl f ↦ absurd (let c = is_cut_is r.num x f in let g : MailOk p issued (cut_msg c.0 c.1) =
                  subst (MailOk p issued) c.2 (core.mail x h).0 in mixed _ (put_msg v r) g.1 k c.3)
            ]) in
            let none2 : tally (is_cut r.num) sent ≡ 0 =
            tally_none (is_cut r.num) sent (λ x h. elim (cases_Bool (is_cut r.num x)) [
              | inr f ↦ f
              | inl f ↦ absurd
                  (let c = is_cut_is r.num x f in let g = (act.cuts_old c.0 c.1 (subst (λ y. In y sent) c.2 h)).1 in
                  let e = ap (λ (z : Num). z.seq) c.3 in let h' = f'.1 in omega arith)
            ]) in
            let none3 : tally (λ (k : CutRow). num_eq r.num k.num) (recs v).cuts ≡ 0 = tally_none
            (λ (k : CutRow). num_eq r.num k.num) (recs v).cuts (λ x h. elim (cases_Bool (num_eq r.num x.num)) [
              | inr f ↦ f
              | inl f ↦ absurd (let g : MailOk p issued (cut_msg v x) =
                  ((core.rec v).cuts x h).0 in mixed _ (put_msg v r) g.1 k (sym (nums_same r.num x.num f)))
            ]) in
            let b' : kept_writes r.num (get_or agents' r.num.agent no_agent) ≡ kept_writes r.num b =
            ap (λ z. kept_writes r.num (get_or agents' z no_agent)) f'.0 ∙ ap (kept_writes r.num) at_i in
            let w = o.2 in omega arith)
      ]

  pub core_action : Core p l q (issued ++ fresh) (set agents i b) recs new pend' wait'
  unfolding agents'
  core_action = record {
    same_agents = same_len ∙ core.same_agents;
    same_plan = core.same_plan;
    same_vars = core.same_vars;
    pairs = core.pairs;
    base = core.base;
    wide = λ n s v c k. elim (in_cases issued fresh (message.Put n s v c) k) [
      | inl j ↦ core.wide n s v c j
      | inr j ↦ act.wides n s v c j
    ];
    agent = agents_ok;
    own = λ x k. elim (in_cases issued fresh x k) [ inl j ↦ core.own x j | inr j ↦ (act.fresh_num x j).3 ];
    times = λ x k. elim (in_cases issued fresh x k) [ inl j ↦ core.times x j | inr j ↦ act.fresh_time x j ];
    fresh = fresh_ok;
    unique = unique_ok;
    mail = λ x k. elim (mailed.from x k) [
      | inl j ↦ (let o = core.mail x j in (mail_more p issued fresh x o.0, o.1))
      | inr j ↦ act.sent_ok x j
    ];
    rec = λ v. rec_more p issued fresh l v (recs v) (core.rec v);
    put_once = put_ok;
    cut_once = cut_ok;
  }
