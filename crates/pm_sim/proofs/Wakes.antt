-- A Wake at its agent, and a letter that changes nothing there.
use Rattle.pm_base.specs.Stamps.{num_eq}
use Rattle.pm_saved.specs.Steps.{regs_after, withdrawn}
use Rattle.pm_saved.specs.Senses.{answers}
use Rattle.pm_saved.specs.declared.kept.KeptStep.{KeptStep}
use Rattle.pm_saved.specs.declared.kept.KeptSense.{KeptSense}
use Rattle.pm_alp.specs.declared.agent.Awaited.{Awaited}
use Rattle.pm_alp.specs.declared.agent.Agent.{Agent}
use Rattle.std.proofs.Common.{◌≡◌, ℕ, ◌+◌, ◌<◌, inl, inr, Bool, true, false, cond, List, [], ◌∷◌, ◌++◌, length, get_or, set, nat_le, refl, arith, ap, sym, ◌∙◌, subst, subst₂, Option, Some, None, ℤ, append-nil, ◌≤◌}
use Rattle.std.proofs.lemmas.Bool.{cases_Bool}
use Rattle.pm_base.specs.declared.rows.GiveRow.{GiveRow}
use Rattle.pm_base.specs.declared.rows.Parts.{Parts}
use Rattle.pm_base.specs.declared.stamp.Line.{Line}
use Rattle.pm_base.specs.declared.stamp.Num.{Num}
use Rattle.pm_base.specs.declared.stamp.Stamp.{Stamp}
use Rattle.pm_base.specs.declared.value.Query.{Query}
use Rattle.pm_base.specs.declared.value.Window.{Window}
use Rattle.pm_message.specs.declared.Message.{Message}
use Rattle.pm_model.specs.Runs.{later}
use Rattle.pm_model.specs.declared.State.{State}
use Rattle.pm_plan.specs.declared.plan.Plan.{Plan}
use Rattle.pm_step.specs.declared.Next.{Next}
use Rattle.pm_alp.specs.Agents.{Actor, Sends, act_sends, go_on, no_agent, no_sends, on_wake, puts_of, step_of, went_on}
use Rattle.pm_sim.specs.Worlds.{actor_of, rule_at}
use Rattle.pm_sim.specs.Sims.{Agree, AgentOk, Chain, Core, In, NotPast, QueryOk, Rises, Told, Waits, class_at, is_cut, is_put, kept_writes, no_turn, num_of, sense_nums, st}
use Rattle.pm_sim.proofs.Actions.{core_action}
use Rattle.pm_sim.proofs.Arrivals.{Mailed}
use Rattle.pm_sim.proofs.Goes.{PlanOk, Last, action, fresh_any}
use Rattle.pm_sim.proofs.Going.{Front, split_all, regs_at}
use Rattle.pm_sim.proofs.Lists.{in_cases}
use Rattle.pm_sim.proofs.Stamps.{num_eq_self}
use Rattle.pm_base.specs.declared.value.Query.TheVariants as query
use Rattle.pm_message.specs.declared.Message.TheVariants as message
use Rattle.pm_step.specs.declared.Next.TheVariants as outcome

pub agree_on : (old new sent : List Message) (m : Message) (n : Num) (v : ℕ) (top here : Told)
    → Mailed old new m sent → ((g : GiveRow) → In (message.Give g) sent → ⊥)
    → ((g : GiveRow) → m ≡ message.Give g → g.num ≡ n → ⊥) → Agree old n v top here → Agree new n v top here
agree_on old new sent m n v top here mailed no_gives apart o = record {
  under = o.under;
  gives =
      λ g j en ev. elim (mailed.from (message.Give g) j) [ inl k ↦ o.gives g k en ev | inr k ↦ absurd (no_gives g k) ];
  there = elim o.there [
    | inl e ↦ inl e
    | inr e ↦ inr (
      e.0,
      elim (mailed.kept (message.Give e.0) e.1) [ inl f ↦ absurd (apart e.0 (sym f) e.2) | inr k ↦ k ],
      e.2,
      e.3,
      e.4,
    )
  ];
}

pub survive : (p : Plan) (recs : ℕ → Parts) (old new sent : List Message) (pend pend' : Num → ℕ → Type 0)
    (wait wait' : Num → Type 0) (m : Message) (n : ℕ) (s : Stamp) (x : KeptSense) (y : Query)
    → Mailed old new m sent → ((g : GiveRow) → In (message.Give g) sent → ⊥)
    → ((k : Num) (z : Stamp) (j : Query) → m ≡ message.Ask k z j → ⊥)
    → ((g : GiveRow) → m ≡ message.Give g → g.num ≡ x.num → ⊥) → ((v : ℕ) → pend x.num v → pend' x.num v)
    → ((k : ℕ) (w : Window) → y ≡ query.Class k w → x.complete ≡ false → wait x.num → wait' x.num)
    → QueryOk p old recs pend wait n s x y → QueryOk p new recs pend' wait' n s x y
survive p recs old new sent pend pend' wait wait' m n s x
    (query.Class k w) mailed no_gives no_ask apart pends waits o = (
      o.0,
      λ e. waits k w refl e (o.1 e),
      λ v lt ec. record {
        asked = elim (o.2 v lt ec).asked [ inl h ↦ inl (pends v h) | inr e ↦ inr e ];
        agree = agree_on old new sent m x.num v _ _ mailed no_gives apart (o.2 v lt ec).agree;
      },
    )
survive p recs old new sent pend pend' wait wait' m n s x (query.One v) mailed no_gives no_ask apart pends waits o = (
  o.0,
  o.1,
  record {
    asked = elim o.2.asked [
      | inl k ↦ elim (mailed.kept (message.Ask x.num s (query.One v)) k) [
        | inl e ↦ absurd (no_ask x.num s (query.One v) (sym e))
        | inr j ↦ inl j
      ]
      | inr e ↦ inr e
    ];
    agree = agree_on old new sent m x.num v _ _ mailed no_gives apart o.2.agree;
  },
)

puts_no_give : (a : ℕ) (s : Stamp) (n : ℕ) (ws : List _) (g : GiveRow) → In (message.Give g) (puts_of a s n ws) → ⊥
puts_no_give a s n [] g j = j
puts_no_give a s n (w ∷ ws) g (inl e) = absurd (cc)
puts_no_give a s n (w ∷ ws) g (inr j) = puts_no_give a s (n + 1) ws g j

pub went_no_give : (p : Actor) (base : List ℤ) (front : List KeptStep) (s : Stamp) (senses : List KeptSense)
    (seq : ℕ) (out : Next) (g : GiveRow) → In (message.Give g) (went_on p base front s senses seq out).sent → ⊥
went_no_give p base front s senses seq (outcome.Ask q) g j = elim j [ inl e ↦ no_ask e | inr k ↦ k ]
  where
    no_ask : message.Give g ≡ message.Ask (record { agent = p.agent; seq = seq }) s q → ⊥
    no_ask e = cc
went_no_give p base front s senses seq (outcome.Act d) g j = go (nat_le (later s.time d.wait) p.horizon) j
  where
    no_wake : (k : Num) (z : Stamp) → message.Give g ≡ message.Wake k z → ⊥
    no_wake k z e = cc

    go : (b : Bool) → In (message.Give g) (act_sends p.agent base front s senses seq d b).sent → ⊥
    go true k = elim (in_cases (puts_of p.agent s seq d.writes) _ (message.Give g) k) [
      | inl c ↦ puts_no_give p.agent s seq d.writes g c
      | inr c ↦ elim c [ inl e ↦ no_wake _ _ e | inr f ↦ f ]
    ]
    go false k = elim (in_cases (puts_of p.agent s seq d.writes) _ (message.Give g) k) [
      | inl c ↦ puts_no_give p.agent s seq d.writes g c
      | inr c ↦ c
    ]

module _ (p : Plan)
    (l : Line) (q : State) (issued : List Message) (agents : List Agent) (recs : ℕ → Parts) (old : List Message)
    (pend pend' : Num → ℕ → Type 0) (wait wait' : Num → Type 0) (core : Core p l q issued agents recs old pend wait)
    (i : ℕ) (in' : i < length agents) (pends : (n : Num) (v : ℕ) → pend n v → pend' n v) where
  abbrev a : Agent
  a = get_or agents i no_agent

  -- the class queries that are asked are on their way to each variable, and so is their end
  abbrev pub AsksUp : List Message → Type 0
  AsksUp sent = (x : Num) (z : Stamp) (c : ℕ) (w : Window) → In (message.Ask x z (query.Class c w)) sent
      → wait' x × ((v : ℕ) → v < length q.values → class_at p v ≡ c → pend' x v)

  -- a letter after which the agent's steps say the same, and nothing is sent
  pub quiet_core : (new : List Message) (m : Message) (b : Agent) → Mailed old new m []
      → ((num_of m).agent ≡ i) → ((k : Num) → is_put k m ≡ false) → ((k : Num) → is_cut k m ≡ false)
      → ((k : Num) (z : Stamp) (y : Query) → m ≡ message.Ask k z y → ⊥)
      → b.seq ≡ a.seq → ((k : Num) → kept_writes k b ≡ kept_writes k a)
      → ((n : Num) → ((s : Stamp) → m ≡ message.Finish n s → ⊥) → wait n → wait' n)
      → AgentOk p l issued new recs pend' wait' (length q.values) i (get_or q.agents i no_turn) b
      → Core p l q issued (set agents i b) recs new pend' wait'
  quiet_core new m b mailed for_it no_put no_cut no_ask same_seq same_writes waits ok =
      subst (λ z. Core p l q z (set agents i b) recs new pend' wait') (append-nil issued)
      (core_action p l q issued [] agents recs old new [] pend pend' wait wait' core i in' b m mailed (record {
        for_it = for_it;
        no_put = no_put;
        no_cut = no_cut;
        no_ask = no_ask;
        seq_up = omega arith;
        fresh_num = λ x j. absurd j;
        wides = λ n s v c j. absurd j;
        fresh_time = λ x j. absurd j;
        fresh_one = λ x y j. absurd j;
        sent_ok = λ x j. absurd j;
        no_gives = λ g j. j;
        puts_fresh = λ v r j. absurd j;
        puts_one = λ v r j. absurd j;
        cuts_old = λ v c j. absurd j;
        cuts_one = λ k _ _. (let f = same_writes k in omega arith);
        agent = subst (λ z. AgentOk p l z new recs pend' wait' (length q.values) i (get_or q.agents i no_turn) b)
            (sym (append-nil issued)) ok;
      }) pends waits)

  -- going on
  pub going_core : (front gone : List KeptStep) (t : ℕ) (done : List KeptSense)
      (regs' : List ℤ) (new : List Message) (m : Message) (r : Sends) → PlanOk p (length q.values) i
      → ((num_of m).agent ≡ i) → ((k : Num) → is_put k m ≡ false)
      → ((k : Num) → is_cut k m ≡ false) → ((k : Num) (z : Stamp) (y : Query) → m ≡ message.Ask k z y → ⊥)
      → Mailed old new m (withdrawn gone ++ r.sent)
      → Last p l q issued agents recs old pend pend' wait wait' core i in' front gone t done regs' new
      → r ≡ go_on (actor_of p i) a.base front (st t i) done a.seq
      → AsksUp r.sent → ((n : Num) → ((s : Stamp) → m ≡ message.Finish n s → ⊥) → wait n → wait' n)
      → Core p l q (issued ++ r.sent) (set agents i r.agent) recs new pend' wait'
  going_core front gone t done regs' new m r plan for_it no_put no_cut no_ask mailed last is asks_up waits =
      let ok = core.agent i in' in
      let regs : regs_after a.base front ≡ regs' = ap (λ z. regs_after z front) ok.base
      ∙ regs_at issued p.horizon (rule_at p i) i _ _ front regs' (Some t) last.front_ok in
      let is' : r ≡ went_on
      (actor_of p i) a.base front (st t i) done a.seq (step_of (rule_at p i) (st t i) regs' (answers done)) =
      is ∙ ap (λ z. went_on
      (actor_of p i) a.base front (st t i) done a.seq (step_of (rule_at p i) (st t i) z (answers done))) regs in
      core_action p l q
      issued r.sent agents recs old new (withdrawn gone ++ r.sent) pend pend' wait wait' core i in' r.agent m mailed
      (action p l q issued agents recs old pend pend' wait
      wait' core i in' front gone t done regs' new m r.sent r.agent mailed last asks_up for_it no_put no_cut no_ask
      (fresh_any p l q issued agents recs old pend pend' wait wait' core i in' front gone t
      done regs' new m r.sent r.agent mailed last asks_up plan (step_of (rule_at p i) (st t i) regs' (answers done))
      refl (ap (λ (z : Sends). z.sent) is') (ap (λ (z : Sends). z.agent) is'))) pends waits

  -- a Wake
  pub wake_core : (new : List Message) (n0 : Num) (s0 : Stamp) (o : Option Awaited) → PlanOk p (length q.values) i
      → n0.agent ≡ i → a.awaited ≡ o → ((n : Num) → wait n → wait' n) → AsksUp (on_wake (actor_of p i) a n0 o).sent
      → Mailed old new (message.Wake n0 s0) (on_wake (actor_of p i) a n0 o).sent → (more : List Message)
      × Core p l q (issued ++ more) (set agents i (on_wake (actor_of p i) a n0 o).agent) recs new pend' wait'
  wake_core new n0 s0 None plan for_it e waits up mailed = (
    [],
    subst (λ z. Core p l q z (set agents i a) recs new pend' wait')
        (sym (append-nil issued)) (quiet_core new (message.Wake n0 s0) a mailed for_it (λ k. refl)
        (λ k. refl) (λ k z y f. cc) refl (λ k. refl) (λ n _ h. waits n h) (let ok = core.agent i in' in record {
          base = ok.base;
          low = ok.low;
          chain = ok.chain;
          rises = ok.rises;
          senses = λ s j x k. (let c = ok.senses s j x k in record {
            issue = c.issue;
            query = survive p recs old new [] pend pend' wait wait' (message.Wake n0 s0) _ s.stamp x
                x.query
                mailed (λ g h. h) (λ u z y f. cc) (λ g f _. cc) (pends x.num) (λ _ _ _ _ h. waits x.num h) c.query;
          });
          wake = λ w f. absurd (let g : None ≡ Some w = sym e ∙ f in cc);
        })),
  )
  wake_core new n0 s0 (Some w) plan for_it e waits up mailed = elim (cases_Bool (num_eq n0 w.num)) [
    | inr f ↦ (
      [],
      subst₂ (λ y (z : Sends). Core p l q y (set agents i z.agent) recs new pend' wait')
          (sym (append-nil issued)) (sym (pick false f)) (quiet_core new (message.Wake n0 s0)
          a (subst (λ (z : Sends). Mailed old new (message.Wake n0 s0) z.sent) (pick false f) mailed) for_it
          (λ k. refl) (λ k. refl) (λ k z y g. cc) refl (λ k. refl) (λ n _ h. waits n h) (let ok = core.agent i in' in
          let mailed' =
          subst (λ (z : Sends). Mailed old new (message.Wake n0 s0) z.sent) (pick false f) mailed in record {
            base = ok.base;
            low = ok.low;
            chain = ok.chain;
            rises = ok.rises;
            senses = λ s j x k. (let c = ok.senses s j x k in record {
              issue = c.issue;
              query =
                  survive p recs old new [] pend pend' wait wait' (message.Wake n0 s0) _ s.stamp x x.query
                  mailed' (λ g h. h) (λ u z y g. cc) (λ g h _. cc) (pends x.num) (λ _ _ _ _ h. waits x.num h) c.query;
            });
            wake = λ u g. elim (mailed'.kept (message.Wake u.num u.stamp) (ok.wake u g)) [
              | inr k ↦ k
              | inl h ↦ absurd (not_it u (some_eq w u (sym e ∙ g)) (wake_num u.num n0 u.stamp s0 h) f)
            ];
          })),
    )
    | inl f ↦ (
        let ok = core.agent i in' in
        let c : Chain issued p.horizon (rule_at p i) i (get_or q.agents i no_turn).regs
        (get_or q.agents i no_turn).next a.steps (Some w) = subst (Chain issued p.horizon
        (rule_at p i) i (get_or q.agents i no_turn).regs (get_or q.agents i no_turn).next a.steps) e ok.chain in
        let sp = split_all issued p.horizon (rule_at p i) i _ _ a.steps w c in
        let at = waits_at sp.1 w sp.3 in
        let mailed' = subst (λ (z : Sends). Mailed old new (message.Wake n0 s0) z.sent) (pick true f) mailed in
        let r : Sends = go_on (actor_of p i) a.base a.steps w.stamp [] a.seq in
        let no_gives : (g : GiveRow) → In (message.Give g) r.sent → ⊥ =
        λ g j. went_no_give (actor_of p i) a.base a.steps w.stamp [] a.seq _ g j in (
          r.sent,
          subst (λ (z : Sends). Core p l q (issued ++ r.sent) (set agents i z.agent) recs new pend' wait')
              (sym (pick true f))
              (going_core a.steps [] at.0 []
              sp.0 new (message.Wake n0 s0) r plan for_it (λ k. refl) (λ k. refl) (λ k z y g. cc) mailed' (record {
                steps = sym (append-nil a.steps);
                front_ok = subst (λ z. Front issued p.horizon (rule_at p i)
                    i (get_or q.agents i no_turn).regs (get_or q.agents i no_turn).next a.steps sp.0 z) at.1 sp.2;
                gone_regs = [];
                gone_next = None;
                gone_wait = None;
                gone_ok = refl;
                asked = tt;
                complete = tt;
                low = subst (NotPast l) at.2 (core.mail (message.Wake w.num w.stamp) (ok.wake w e)).1;
                time = subst (λ (z : Stamp). z.time ≤ p.horizon) at.2
                    (core.times (message.Wake w.num w.stamp) (core.mail (message.Wake w.num w.stamp) (ok.wake w e)).0);
                issue = λ x j. absurd j;
                front_new = λ z j x k. survive p
                    recs old new r.sent pend pend' wait wait' (message.Wake n0 s0) _ z.stamp x x.query mailed' no_gives
                    (λ u v y g. cc) (λ g h _. cc) (pends x.num) (λ _ _ _ _ h. waits x.num h) (ok.senses z j x k).query;
                done_new = λ x j. absurd j;
                rises = subst (Rises 0) (sym (append-nil (sense_nums a.steps))) ok.rises;
              })
              (ap (λ z. go_on (actor_of p i) a.base a.steps z [] a.seq) at.2)
              (subst (λ (z : Sends). AsksUp z.sent) (pick true f) up)
              (λ n _ h. waits n h)),
        ))
  ]
    where
      pick : (c : Bool) → num_eq n0 w.num ≡ c → on_wake (actor_of p i) a n0 (Some w)
          ≡ cond c (go_on (actor_of p i) a.base a.steps w.stamp [] a.seq) (no_sends a)
      pick c f = ap (λ z. cond z (go_on (actor_of p i) a.base a.steps w.stamp [] a.seq) (no_sends a)) f

      some_eq : (x y : Awaited) → Some x ≡ Some y → x ≡ y
      some_eq x y g = cc

      wake_num : (x y : Num) (s t : Stamp) → message.Wake x s ≡ message.Wake y t → x ≡ y
      wake_num x y s t g = cc

      not_it : (u : Awaited) → w ≡ u → u.num ≡ n0 → num_eq n0 w.num ≡ false → ⊥
      not_it u g h k = (let y : num_eq n0 w.num ≡ true =
          subst (λ z. num_eq n0 z ≡ true) (sym (ap (λ (z : Awaited). z.num) g ∙ h)) (num_eq_self n0) in cc)

      waits_at : (next : Option ℕ) (u : Awaited)
          → Waits i next (Some u) → (t : ℕ) × (next ≡ Some t) × (u.stamp ≡ st t i)
      waits_at None u c = absurd (let g : Some u ≡ None = c in cc)
      waits_at (Some t) u c =
          (t, refl, ap (λ (z : Awaited). z.stamp) (some_eq u (record { num = c.0; stamp = st t i }) c.2))
