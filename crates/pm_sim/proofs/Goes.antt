-- An agent that goes on in its last step, after what was withdrawn.
use Rattle.std.proofs.lemmas.Bool.Decides.{nat_tests}
use Rattle.pm_base.specs.Stamps.{num_eq}
use Rattle.pm_saved.specs.Steps.{withdrawn}
use Rattle.pm_saved.specs.Senses.{answers}
use Rattle.pm_saved.specs.declared.kept.KeptStep.{KeptStep}
use Rattle.pm_saved.specs.declared.kept.KeptSense.{KeptSense}
use Rattle.pm_saved.specs.declared.kept.KeptAct.{KeptAct}
use Rattle.pm_alp.specs.declared.agent.Awaited.{Awaited}
use Rattle.pm_alp.specs.declared.agent.Agent.{Agent}
use Rattle.std.proofs.Common.{◌≡◌, ℕ, ◌+◌, ◌<◌, ◌≤◌, ◌⊎◌, inl, inr, Bool, true, false, cond, List, [], ◌∷◌, ◌++◌, map, length, get_or, nat_le, refl, arith, ap, sym, ◌∙◌, subst, Option, Some, None, ℤ, append_assoc, append-nil}
use Rattle.std.proofs.lemmas.Bool.{cases_Bool}
use Rattle.std.proofs.lemmas.List.{map-append}
use Rattle.std.specs.Prelude.{◌^◌, ◌-◌}
use Rattle.pm_base.specs.declared.rows.Act.{Act}
use Rattle.pm_base.specs.declared.rows.CutRow.{CutRow}
use Rattle.pm_base.specs.declared.rows.GiveRow.{GiveRow}
use Rattle.pm_base.specs.declared.rows.Parts.{Parts}
use Rattle.pm_base.specs.declared.rows.PutRow.{PutRow}
use Rattle.pm_base.specs.declared.rows.ReadRow.{ReadRow}
use Rattle.pm_base.specs.declared.stamp.Line.{Line}
use Rattle.pm_base.specs.declared.stamp.Num.{Num}
use Rattle.pm_base.specs.declared.stamp.Stamp.{Stamp}
use Rattle.pm_base.specs.declared.value.Change.{Change}
use Rattle.pm_base.specs.declared.value.Hit.{Hit}
use Rattle.pm_base.specs.declared.value.Query.{Query}
use Rattle.pm_base.specs.declared.value.Window.{Window}
use Rattle.pm_base.specs.declared.value.Write.{Write}
use Rattle.pm_message.specs.Messages.{stamp_of}
use Rattle.pm_message.specs.declared.Message.{Message}
use Rattle.pm_model.specs.Runs.{later}
use Rattle.pm_model.specs.declared.AgentState.{AgentState}
use Rattle.pm_model.specs.declared.State.{State}
use Rattle.pm_plan.specs.declared.plan.Plan.{Plan}
use Rattle.pm_step.specs.declared.Next.{Next}
use Rattle.pm_alp.specs.Agents.{Actor, Rule, act_sends, no_agent, nums_of, puts_of, step_of, wake_of, went_on}
use Rattle.pm_sim.specs.Worlds.{rule_at}
use Rattle.pm_sim.specs.Sims.{Agree, AgentOk, Asked, Chain, Core, Each, In, IsWide, MailOk, NotPast, QueryOk, Rises, SenseOk, Told, Waits, class_at, cut_msg, is_cut, is_put, kept_writes, no_turn, num_of, put_msg, sense_nums, st, tally, told, within, write_nums}
use Rattle.pm_sim.proofs.Actions.{mail_more, acted_more, Action}
use Rattle.pm_sim.proofs.Arrivals.{Mailed}
use Rattle.pm_sim.proofs.Going.{Front, join, tally_append, withdrawn_tally, withdrawn_in, puts_in, puts_early, puts_once, nums_puts, puts_no_cut, writes_ok, write_nums_append, sense_nums_append, rises_push, last_open, asked_more, puts_same}
use Rattle.pm_sim.proofs.Lists.{in_left, in_right, in_cases}
use Rattle.pm_sim.proofs.Quiets.{tally_none, tally_in, nums_in, write_nums_in, chain_acted, steps_agent}
use Rattle.pm_sim.proofs.Stamps.{nums_same, num_eq_self, not_past_up}
use Rattle.pm_sim.proofs.Turns.{later_le, later_is}
use Rattle.pm_base.specs.declared.value.Query.TheVariants as query
use Rattle.pm_message.specs.declared.Message.TheVariants as message
use Rattle.pm_step.specs.declared.Next.TheVariants as outcome

pub front_more : (issued more : List Message) (h : ℕ)
    (prog : Rule) (i : ℕ) (regs : List ℤ) (next : Option ℕ) (ss : List KeptStep) (regs' : List ℤ) (next' : Option ℕ)
    → Front issued h prog i regs next ss regs' next' → Front (issued ++ more) h prog i regs next ss regs' next'
front_more issued more h prog i regs next [] regs' next' f = f
front_more issued more h prog i regs next (s ∷ ss) regs' next' (t, en, es, asked, a, act, acted, f) = (
  t,
  en,
  es,
  asked,
  a,
  act,
  acted_more issued more prog regs s a acted,
  front_more issued more h prog i a.regs (within h (t + a.wait)) ss regs' next' f,
)

abbrev pub QueryIn : ℕ → Query → Type 0
QueryIn n (query.One v) = v < n
QueryIn n (query.Class k w) = Unit {0}

-- the rules of agent i name variables that exist
pub record PlanOk (p : Plan) (n i : ℕ) : Type 0 where
  pub asks : (s : Stamp) (regs : List ℤ) (done : List (List Hit)) (k : Query)
      → step_of (rule_at p i) s regs done ≡ outcome.Ask k → QueryIn n k
  pub small : p.horizon < 2 ^ 64 - 1
  pub wide : (s : Stamp) (regs : List ℤ) (done : List (List Hit)) (d : Act) (w : Write)
      → step_of (rule_at p i) s regs done ≡ outcome.Act d → In w d.writes → IsWide w.change
  pub acts : (s : Stamp) (regs : List ℤ) (done : List (List Hit)) (d : Act) (w : Write)
      → step_of (rule_at p i) s regs done ≡ outcome.Act d → In w d.writes → w.var < n

pub has_none_told : (m : Num) (rs : List ReadRow)
    → ((r : ReadRow) → In r rs → num_eq m r.num ≡ true → ⊥) → told m rs ≡ record { turn = 0; hit = None }
has_none_told m [] h = refl
has_none_told m (r ∷ rs) h = elim (cases_Bool (num_eq m r.num)) [
  | inl e ↦ absurd (h r (inl refl) e)
  | inr e ↦ rw e (has_none_told m rs (λ x j. h x (inr j)))
]

module _ (p : Plan)
    (l : Line) (q : State) (issued : List Message) (agents : List Agent) (recs : ℕ → Parts) (old : List Message)
    (pend pend' : Num → ℕ → Type 0) (wait wait' : Num → Type 0) (core : Core p l q issued agents recs old pend wait)
    (i : ℕ)
    (in' : i < length agents) (front gone : List KeptStep) (t : ℕ) (done : List KeptSense) (regs' : List ℤ) where
  abbrev a : Agent
  a = get_or agents i no_agent

  abbrev n : ℕ
  n = length q.values

  abbrev prog : Rule
  prog = (rule_at p i)

  abbrev s : Stamp
  s = st t i

  abbrev turn_i : AgentState
  turn_i = get_or q.agents i no_turn

  abbrev new_num : ℕ → Num
  new_num k = record { agent = i; seq = k }

  -- what is known of the step in which the agent goes on
  pub record Last (new : List Message) : Type 0 where
    pub steps : a.steps ≡ front ++ gone
    pub front_ok : Front issued p.horizon prog i turn_i.regs turn_i.next front regs' (Some t)
    pub gone_regs : List ℤ
    pub gone_next : Option ℕ
    pub gone_wait : Option Awaited
    pub gone_ok : Chain issued p.horizon prog i gone_regs gone_next gone gone_wait
    pub asked : Asked prog s regs' [] done
    pub complete : Each (λ (x : KeptSense). x.complete ≡ true) done
    pub low : NotPast l s
    pub time : t ≤ p.horizon
    pub issue : (x : KeptSense) → In x done → In (message.Ask x.num s x.query) issued
    pub front_new : (z : KeptStep)
        → In z front → (x : KeptSense) → In x z.senses → QueryOk p new recs pend' wait' n z.stamp x x.query
    pub done_new : (x : KeptSense) → In x done → QueryOk p new recs pend' wait' n s x x.query
    pub rises : Rises 0 (sense_nums front ++ map (λ (x : KeptSense). x.num) done)

  module _ (new : List Message) (m : Message)
      (fresh : List Message) (b : Agent) (mailed : Mailed old new m (withdrawn gone ++ fresh)) (last : Last new)
      (asks_up : (x : Num) (z : Stamp) (c : ℕ) (w : Window) → In (message.Ask x z (query.Class c w)) fresh
      → wait' x × ((v : ℕ) → v < n → class_at p v ≡ c → pend' x v)) where
    ok : AgentOk p l issued old recs pend wait n i turn_i a
    ok = core.agent i in'

    -- what was issued has an earlier number
    early : (x : Message) → In x issued → (num_of x).agent ≡ i → (num_of x).seq < a.seq
    early x j e = subst (λ z. (num_of x).seq < (get_or agents z no_agent).seq) e (core.fresh x j).1

    in_front : (z : KeptStep) → In z front → In z a.steps
    in_front z j = subst (In z) (sym last.steps) (in_left front gone z j)

    in_gone : (z : KeptStep) → In z gone → In z a.steps
    in_gone z j = subst (In z) (sym last.steps) (in_right front gone z j)

    -- a kept write's number was issued
    write_early : (k : Num) → In k (write_nums a.steps) → (k.agent ≡ i) × (k.seq < a.seq)
    write_early k j =
        let w = write_nums_in a.steps k j in
        let c = chain_acted issued p.horizon prog i _ _ _ _ w.0 w.2 ok.chain w.1 w.3 in
        let u = nums_in issued w.0.stamp w.2.nums w.2.entry.writes k c.1.writes w.4 in
        let at : k.agent ≡ i = core.own _ u.2 ∙ c.2 in
        (at, early _ u.2 at)

    front_write : (k : Num) → a.seq ≤ k.seq → tally (num_eq k) (write_nums front) ≡ 0
    front_write k late = tally_none (num_eq k) (write_nums front) (λ x j. elim (cases_Bool (num_eq k x)) [
      | inr e ↦ e
      | inl e ↦ absurd (
          let f : In x (write_nums a.steps) = subst (λ z. In x (write_nums z)) (sym last.steps)
          (subst (In x) (sym (write_nums_append front gone)) (in_left (write_nums front) (write_nums gone) x j)) in
          let g = (write_early x f).1 in let h = ap (λ (z : Num). z.seq) (nums_same k x e) in omega arith)
    ])

    kept_split : (k : Num) → kept_writes k a ≡ tally (num_eq k) (write_nums front) + tally (num_eq k) (write_nums gone)
    kept_split k = ap (λ z. tally (num_eq k) (write_nums z)) last.steps ∙ (ap (tally (num_eq k))
        (write_nums_append front gone) ∙ tally_append (num_eq k) (write_nums front) (write_nums gone))

    gone_tally : (k : Num) → tally (is_cut k) (withdrawn gone) ≡ tally (num_eq k) (write_nums gone)
    gone_tally k =
        withdrawn_tally issued p.horizon prog i last.gone_regs last.gone_next gone last.gone_wait k last.gone_ok

    no_put_gone : (k : Num) → tally (is_put k) (withdrawn gone) ≡ 0
    no_put_gone k = tally_none (is_put k) (withdrawn gone) (λ x j. (let r = withdrawn_in p issued
        p.horizon prog i last.gone_regs last.gone_next gone last.gone_wait x last.gone_ok j in ap (is_put k) r.4))

    fresh_told : (k : ℕ) (v : ℕ) → a.seq ≤ k → told (new_num k) (recs v).reads ≡ record { turn = 0; hit = None }
    fresh_told k v late = has_none_told (new_num k) (recs v).reads (λ r j e.
        let o = (core.rec v).reads r j in
        let same = nums_same (new_num k) r.num e in
        let lt = early _ o.1 (sym (ap (λ (z : Num). z.agent) same)) in
        let f = ap (λ (z : Num). z.seq) same in omega arith)

    not_cut_give : (v : ℕ) (c : CutRow) (g : GiveRow) → message.Give g ≡ cut_msg v c → ⊥
    not_cut_give v c g e = cc

    -- the facts of an answer that don't depend on the outcome
    pub record Fresh : Type 0 where
      pub seq_up : a.seq ≤ b.seq
      pub nums : (x : Message) → In x fresh → ((num_of x).agent ≡ i)
          × (a.seq ≤ (num_of x).seq) × ((num_of x).seq < b.seq) × ((num_of x).agent ≡ (stamp_of x).agent)
      pub one : (x y : Message) → In x fresh → In y fresh → num_of x ≡ num_of y → x ≡ y
      pub low : (x : Message) → In x fresh → NotPast l (stamp_of x)
      pub wides : (k : Num) (z : Stamp) (v : ℕ) (c : Change) → In (message.Put k z v c) fresh → IsWide c
      pub times : (x : Message) → In x fresh → (stamp_of x).time ≤ p.horizon
      pub kinds : (x : Message) → In x fresh → MailOk p (issued ++ fresh) x
      pub no_cut : (k : Num) → tally (is_cut k) fresh ≡ 0
      pub cut_not : (v : ℕ) (c : CutRow) → In (cut_msg v c) fresh → ⊥
      pub give_not : (g : GiveRow) → In (message.Give g) fresh → ⊥
      pub put_one : (v : ℕ) (r : PutRow)
          → In (put_msg v r) fresh → (v < n) × (tally (is_put r.num) fresh ≡ 1) × (kept_writes r.num b ≡ 1)
      pub kept : (k : Num) → k.seq < a.seq → kept_writes k b ≡ tally (num_eq k) (write_nums front)
      pub agent : AgentOk p l (issued ++ fresh) new recs pend' wait' n i turn_i b

    pub action : ((num_of m).agent ≡ i) → ((k : Num) → is_put k m ≡ false)
        → ((k : Num) → is_cut k m ≡ false) → ((k : Num) (z : Stamp) (y : Query) → m ≡ message.Ask k z y → ⊥)
        → Fresh → Action p l q issued fresh recs new pend' wait' m (withdrawn gone ++ fresh) i a b
    action for_it no_put no_cut no_ask f = record {
      for_it = for_it;
      no_put = no_put;
      no_cut = no_cut;
      no_ask = no_ask;
      seq_up = f.seq_up;
      fresh_num = f.nums;
      fresh_one = f.one;
      wides = f.wides;
      fresh_time = f.times;
      sent_ok = λ x j. elim (in_cases (withdrawn gone) fresh x j) [
        | inl k ↦ (let r =
            withdrawn_in p issued p.horizon prog i last.gone_regs
            last.gone_next gone last.gone_wait x last.gone_ok k in (
              subst (MailOk p (issued ++ fresh)) (sym r.4) (mail_more p issued fresh (cut_msg r.2 r.3) r.6),
              subst (NotPast l) (sym (ap stamp_of r.4 ∙ r.5)) (ok.low r.0 (in_gone r.0 r.1)),
            ))
        | inr k ↦ (f.kinds x k, f.low x k)
      ];
      no_gives = λ g j. elim (in_cases (withdrawn gone) fresh (message.Give g) j) [
        | inl k ↦ (let r = withdrawn_in p issued p.horizon prog i last.gone_regs
            last.gone_next gone last.gone_wait (message.Give g) last.gone_ok k in not_cut_give r.2 r.3 g r.4)
        | inr k ↦ f.give_not g k
      ];
      puts_fresh = λ v r j. elim (in_cases (withdrawn gone) fresh (put_msg v r) j) [
        | inl k ↦ absurd (let h = tally_in (is_put r.num) (withdrawn gone) (put_msg v r) k (num_eq_self r.num) in
            let z = no_put_gone r.num in omega arith)
        | inr k ↦ k
      ];
      puts_one = λ v r j. (let o = f.put_one v r j in (
        o.0,
        (let z = no_put_gone r.num in let y = o.1 in omega (arith, tally_append (is_put r.num) (withdrawn gone) fresh)),
        o.2,
      ));
      cuts_old = λ v c j. elim (in_cases (withdrawn gone) fresh (cut_msg v c) j) [
        | inl k ↦ (let r = withdrawn_in
            p issued p.horizon prog i last.gone_regs last.gone_next gone last.gone_wait (cut_msg v c) last.gone_ok k in
            let same : c.num ≡ r.3.num = ap num_of r.4 in
            let g = r.6 in
            let st_i : r.0.stamp.agent ≡ i =
            steps_agent issued p.horizon prog i _ _ _ _ r.0 ok.chain (in_gone r.0 r.1) in
            let at : r.3.num.agent ≡ i = core.own _ g.1 ∙ (ap (λ (z : Stamp). z.agent) r.5 ∙ st_i) in
            (ap (λ (z : Num). z.agent) same ∙ at, subst (λ (z : Num). z.seq < a.seq) (sym same) (early _ g.1 at)))
        | inr k ↦ absurd (f.cut_not v c k)
      ];
      cuts_one = λ k e lt. (let z = gone_tally k in let y = kept_split k in let x =
          f.kept k lt in let w = f.no_cut k in omega (arith, tally_append (is_cut k) (withdrawn gone) fresh));
      agent = f.agent;
    }

    parts : Actor
    parts = record { agent = i; horizon = p.horizon; acts = step_of prog }

    abbrev asking : Query → KeptSense
    asking k = record { num = new_num a.seq; query = k; complete = false; hits = [] }

    abbrev asked_step : Query → KeptStep
    asked_step k = record { stamp = s; senses = done ++ asking k ∷ []; act = None }

    no_step : (z x : KeptStep) → In z (x ∷ []) → z ≡ x
    no_step z x (inl e) = e
    no_step z x (inr j) = absurd j

    no_sense : (z x : KeptSense) → In z (x ∷ []) → z ≡ x
    no_sense z x (inl e) = e
    no_sense z x (inr j) = absurd j

    -- the senses that are kept in front
    front_sense : (z : KeptStep)
        → In z front → (x : KeptSense) → In x z.senses → SenseOk p (issued ++ fresh) new recs pend' wait' n z.stamp x
    front_sense z j x k =
        record { issue = in_left issued fresh _ (ok.senses z (in_front z j) x k).issue; query = last.front_new z j x k }

    done_sense : (x : KeptSense) → In x done → SenseOk p (issued ++ fresh) new recs pend' wait' n s x
    done_sense x j = record { issue = in_left issued fresh _ (last.issue x j); query = last.done_new x j }

    -- a new number was told nothing, and nothing of it is on the way
    new_agree : (v : ℕ) → ((g : GiveRow) → In (message.Give g) fresh → ⊥)
        → Agree new (new_num a.seq) v (told (new_num a.seq) (recs v).reads) (record { turn = 0; hit = None })
    new_agree v no_give =
        let none = fresh_told a.seq v (omega arith) in
        record {
          under = inr (ap (λ (z : Told). z.turn) (sym none), ap (λ (z : Told). z.hit) (sym none));
          gives = λ g k en ev. absurd (elim (mailed.from (message.Give g) k) [
            | inl k' ↦ (let o : MailOk p issued (message.Give g) = (core.mail (message.Give g) k').0 in
                let lt' =
                early _ o.1 (ap (λ (z : Num). z.agent) en) in let e = ap (λ (z : Num). z.seq) en in omega arith)
            | inr k' ↦ elim (in_cases (withdrawn gone) fresh (message.Give g) k') [
              | inl k2 ↦ (let r = withdrawn_in p issued p.horizon prog i last.gone_regs
                  last.gone_next gone last.gone_wait (message.Give g) last.gone_ok k2 in not_cut_give r.2 r.3 g r.4)
              | inr k2 ↦ no_give g k2
            ]
          ]);
          there = inl (sym none);
        }

    -- a new sense: its Ask is on the way, and nothing was told
    asking_ok : (y : Query)
        → QueryIn n y → In (message.Ask (new_num a.seq) s y) fresh → ((g : GiveRow) → In (message.Give g) fresh → ⊥)
        → SenseOk p (issued ++ fresh) new recs pend' wait' n s (asking y)
    asking_ok (query.One v) lt j no_give = record {
      issue = in_right issued fresh _ j;
      query = (
        lt,
        refl,
        record { asked = inl (mailed.added _ (in_right (withdrawn gone) fresh _ j)); agree = new_agree v no_give },
      );
    }
    asking_ok (query.Class c w) lt j no_give = (let up = asks_up (new_num a.seq) s c w j in record {
      issue = in_right issued fresh _ j;
      query = (tt, λ e. up.0, λ v lt' ec. record { asked = inl (up.1 v lt' ec); agree = new_agree v no_give });
    })

    nums_step : (xs : List KeptSense) (o : Option KeptAct)
        → sense_nums (front ++ record { stamp = s; senses = xs; act = o } ∷ [])
        ≡ sense_nums front ++ map (λ (x : KeptSense). x.num) xs
    nums_step xs o = sense_nums_append front (record { stamp = s; senses = xs; act = o } ∷ [])
        ∙ ap (λ z. sense_nums front ++ z) (append-nil (map (λ (x : KeptSense). x.num) xs))

    -- the numbers of the senses that are kept are early
    sense_early : (k : Num) → In k (sense_nums front ++ map (λ (x : KeptSense). x.num) done) → k.seq < a.seq
    sense_early k j = elim (in_cases (sense_nums front) (map (λ (x : KeptSense). x.num) done) k j) [
      | inl j' ↦ of_front front k j' (λ z h. h)
      | inr j' ↦ of_done done k j' (λ z h. h)
    ]
      where
        by_step : (z : KeptStep) → In z front → (xs : List KeptSense)
            → ((x : KeptSense) → In x xs → In x z.senses) → In k (map (λ (x : KeptSense). x.num) xs) → k.seq < a.seq
        by_step z j0 [] sub h = absurd h
        by_step z j0 (x ∷ xs) sub (inl e) =
            let o = (ok.senses z (in_front z j0) x (sub x (inl refl))).issue in
            subst (λ (w : Num). w.seq < a.seq) (sym e)
            (early _ o (core.own _ o ∙ steps_agent issued p.horizon prog i _ _ _ _ z ok.chain (in_front z j0)))
        by_step z j0 (x ∷ xs) sub (inr h) = by_step z j0 xs (λ y c. sub y (inr c)) h

        of_front : (zs : List KeptStep) (k' : Num)
            → In k (sense_nums zs) → ((z : KeptStep) → In z zs → In z front) → k.seq < a.seq
        of_front [] k' h sub = absurd h
        of_front (z ∷ zs) k' h sub = elim (in_cases (map (λ (x : KeptSense). x.num) z.senses) (sense_nums zs) k h) [
          | inl c ↦ by_step z (sub z (inl refl)) z.senses (λ y d. d) c
          | inr c ↦ of_front zs k' c (λ y d. sub y (inr d))
        ]

        of_done : (xs : List KeptSense) (k' : Num)
            → In k (map (λ (x : KeptSense). x.num) xs) → ((x : KeptSense) → In x xs → In x done) → k.seq < a.seq
        of_done [] k' h sub = absurd h
        of_done (x ∷ xs) k' (inl e) sub = (let o =
            last.issue x (sub x (inl refl)) in subst (λ (w : Num). w.seq < a.seq) (sym e) (early _ o (core.own _ o)))
        of_done (x ∷ xs) k' (inr h) sub = of_done xs k' h (λ y c. sub y (inr c))

    -- going on with a further question
    fresh_ask : (y0 : Query) → QueryIn n y0
        → step_of prog s regs' (answers done) ≡ outcome.Ask y0 → fresh ≡ message.Ask (new_num a.seq) s y0 ∷ []
        → b ≡ record { base = a.base; steps = front ++ asked_step y0 ∷ []; awaited = None; seq = a.seq + 1 } → Fresh
    fresh_ask y0 lt out is at =
        let here : In (message.Ask (new_num a.seq) s y0) fresh =
        subst (In (message.Ask (new_num a.seq) s y0)) (sym is) (inl refl) in
        let only : (x : Message) → In x fresh → x ≡ message.Ask (new_num a.seq) s y0 =
        λ x j. (let k = subst (In x) is j in elim k [ inl e ↦ e | inr e ↦ absurd e ]) in
        let no_give : (g : GiveRow) → In (message.Give g) fresh → ⊥ = λ g j. not_ask_give g (only (message.Give g) j) in
        let e_seq : b.seq ≡ a.seq + 1 = ap (λ (z : Agent). z.seq) at in
        record {
          seq_up = omega arith;
          nums = λ x j. subst (λ z. ((num_of z).agent ≡ i) × (a.seq ≤ (num_of z).seq) × ((num_of z).seq < b.seq)
              × ((num_of z).agent ≡ (stamp_of z).agent)) (sym (only x j)) (refl, omega arith, omega arith, refl);
          one = λ x y j k _. only x j ∙ sym (only y k);
          low = λ x j. subst (NotPast l) (sym (ap stamp_of (only x j))) last.low;
          times = λ x j. subst (λ (z : Stamp). z.time ≤ p.horizon) (sym (ap stamp_of (only x j))) last.time;
          wides = λ k z v c j.
              absurd (not_ask_put v (record { num = k; stamp = z; change = c }) (only (message.Put k z v c) j));
          kinds = λ x j. subst (MailOk p (issued ++ fresh)) (sym (only x j)) (in_right issued fresh _ here);
          no_cut = λ k. ap (tally (is_cut k)) is;
          cut_not = λ u c j. not_ask_cut u c (only (cut_msg u c) j);
          give_not = no_give;
          put_one = λ u r j. absurd (not_ask_put u r (only (put_msg u r) j));
          kept = λ k lt'. ap (kept_writes k) at
              ∙ (ap (tally (num_eq k)) (write_nums_append front (asked_step y0 ∷ []) ∙ append-nil (write_nums front)));
          agent =
              subst (λ (z : Agent). AgentOk p l (issued ++ fresh) new recs pend' wait' n i turn_i z) (sym at) (record {
                base = ok.base;
                low = λ z j. elim (in_cases front (asked_step y0 ∷ []) z j) [
                  | inl k ↦ ok.low z (in_front z k)
                  | inr k ↦ subst (λ (y : KeptStep). NotPast l y.stamp) (sym (no_step z (asked_step y0) k)) last.low
                ];
                chain = join (issued ++ fresh)
                    p.horizon prog i turn_i.regs turn_i.next front (asked_step y0 ∷ []) None regs' (Some t)
                    (front_more
                    issued fresh p.horizon prog i turn_i.regs turn_i.next front regs' (Some t) last.front_ok) (
                      t,
                      refl,
                      refl,
                      asked_more prog s regs' [] done (asking y0) last.asked out,
                      inl (refl, refl, refl, last_open done (asking y0) last.complete refl),
                    );
                senses = λ z j x k. elim (in_cases front (asked_step y0 ∷ []) z j) [
                  | inl c ↦ front_sense z c x k
                  | inr c ↦ (let e = no_step z (asked_step y0) c in
                      subst (λ (y : Stamp). SenseOk p (issued ++ fresh) new recs pend' wait' n y x)
                      (sym (ap (λ (y : KeptStep). y.stamp) e))
                      (elim (in_cases done (asking y0 ∷ []) x (subst (λ (y : KeptStep). In x y.senses) e k)) [
                        | inl d ↦ done_sense x d
                        | inr d ↦ subst (SenseOk p (issued ++ fresh) new recs pend' wait' n s)
                            (sym (no_sense x (asking y0) d)) (asking_ok y0 lt here no_give)
                      ]))
                ];
                rises = subst (Rises 0) (sym (nums_step (done ++ asking y0 ∷ []) None
                    ∙ (ap (λ w. sense_nums front ++ w) (map-append (λ (x : KeptSense). x.num) done (asking y0 ∷ []))
                    ∙ sym
                    (append_assoc (sense_nums front) (map (λ (x : KeptSense). x.num) done) (new_num a.seq ∷ [])))))
                    (rises_push 0 (sense_nums front ++ map (λ (x : KeptSense). x.num) done)
                    (new_num a.seq) last.rises sense_early (omega arith));
                wake = λ w e. absurd (cc);
              });
        }
      where
        not_ask_give : (g : GiveRow) → message.Give g ≡ message.Ask (new_num a.seq) s y0 → ⊥
        not_ask_give g e = cc

        not_ask_cut : (u : ℕ) (c : CutRow) → cut_msg u c ≡ message.Ask (new_num a.seq) s y0 → ⊥
        not_ask_cut u c e = cc

        not_ask_put : (u : ℕ) (r : PutRow) → put_msg u r ≡ message.Ask (new_num a.seq) s y0 → ⊥
        not_ask_put u r e = cc

    abbrev act_of : Act → KeptAct
    act_of d = record {
      entry = record { stamp = s; answers = answers done; writes = d.writes };
      nums = nums_of i a.seq d.writes;
      regs = d.regs;
      wait = d.wait;
    }

    abbrev acted_step : Act → KeptStep
    acted_step d = record { stamp = s; senses = done; act = Some (act_of d) }

    -- the Wake that is sent, if one is
    pub record WakeOk (d : Act) (seq : ℕ) (aw : Option Awaited) : Type 0 where
      pub some : (w : Awaited)
          → aw ≡ Some w → (w ≡ record { num = new_num (a.seq + length d.writes); stamp = st (t + d.wait) i })
          × (seq ≡ a.seq + length d.writes + 1)
      pub enough : a.seq + length d.writes ≤ seq
      pub time : (w : Awaited) → aw ≡ Some w → t + d.wait ≤ p.horizon
      pub waits : Waits i (within p.horizon (t + d.wait)) aw

    -- going on to the end of the step
    fresh_act : (d : Act) (aw : Option Awaited) (seq : ℕ) → PlanOk p n i
        → step_of prog s regs' (answers done) ≡ outcome.Act d → fresh ≡ puts_of i s a.seq d.writes ++ wake_of aw
        → b ≡ record { base = a.base; steps = front ++ acted_step d ∷ []; awaited = aw; seq = seq }
        → WakeOk d seq aw → Fresh
    fresh_act d aw seq plan out is at wok =
        let puts : List Message = puts_of i s a.seq d.writes in
        let e_seq : b.seq ≡ seq = ap (λ (z : Agent). z.seq) at in
        let wake_is : (x : Message) → In x (wake_of aw)
        → (w : Awaited) × (aw ≡ Some w) × (x ≡ message.Wake w.num w.stamp) = λ x j. of_wakes aw x j in
        let cases : (x : Message) → In x fresh → In x puts ⊎ In x (wake_of aw) =
        λ x j. in_cases puts (wake_of aw) x (subst (In x) is j) in
        let in_puts : (x : Message) → In x puts → In x fresh =
        λ x j. subst (In x) (sym is) (in_left puts (wake_of aw) x j) in
        let in_wakes : (x : Message) → In x (wake_of aw) → In x fresh =
        λ x j. subst (In x) (sym is) (in_right puts (wake_of aw) x j) in
        let is_wake : (x : Message)
        → In x (wake_of aw) → (x ≡ message.Wake (new_num (a.seq + length d.writes)) (st (t + d.wait) i))
        × (seq ≡ a.seq + length d.writes + 1) = λ x j.
        (let w = wake_is x j in let o =
        wok.some w.0 w.1 in (w.2 ∙ ap (λ (z : Awaited). message.Wake z.num z.stamp) o.0, o.1)) in
        record {
          seq_up = (let k = wok.enough in omega arith);
          nums = λ x j. elim (cases x j) [
            | inl k ↦ (let r = puts_in i s a.seq d.writes x k in
                subst (λ z. ((num_of z).agent ≡ i)
                × (a.seq ≤ (num_of z).seq) × ((num_of z).seq < b.seq) × ((num_of z).agent ≡ (stamp_of z).agent))
                (sym r.3) (refl, r.4, (let hi = r.5 in let g = wok.enough in omega arith), refl))
            | inr k ↦ (let r = is_wake x k in
                subst (λ z. ((num_of z).agent ≡ i)
                × (a.seq ≤ (num_of z).seq) × ((num_of z).seq < b.seq) × ((num_of z).agent ≡ (stamp_of z).agent))
                (sym r.0) (refl, omega arith, (let g = r.1 in omega arith), refl))
          ];
          one = λ x y j k e. elim (cases x j) [
            | inl f ↦ elim (cases y k) [
              | inl g ↦ puts_same i s a.seq d.writes x y f g e
              | inr g ↦ absurd (let r = puts_in i s a.seq d.writes x f in let u : r.2 ≡ a.seq + length d.writes =
                  ap (λ (z : Num). z.seq) (sym (ap num_of r.3) ∙ (e ∙ ap num_of (is_wake y g).0)) in let hi =
                  r.5 in omega arith)
            ]
            | inr f ↦ elim (cases y k) [
              | inl g ↦ absurd (let r = puts_in i s a.seq d.writes y g in let u : r.2 ≡ a.seq + length d.writes =
                  ap (λ (z : Num). z.seq) (sym (ap num_of r.3) ∙ (sym e ∙ ap num_of (is_wake x f).0)) in let hi =
                  r.5 in omega arith)
              | inr g ↦ (is_wake x f).0 ∙ sym (is_wake y g).0
            ]
          ];
          low = λ x j. elim (cases x j) [
            | inl k ↦ subst (NotPast l) (sym (ap stamp_of (puts_in i s a.seq d.writes x k).3)) last.low
            | inr k ↦ subst (NotPast l)
                (sym (ap stamp_of (is_wake x k).0)) (not_past_up l s (st (t + d.wait) i) (grind arith) last.low)
          ];
          times = λ x j. elim (cases x j) [
            | inl k ↦ subst (λ (z : Stamp). z.time ≤ p.horizon)
                (sym (ap stamp_of (puts_in i s a.seq d.writes x k).3)) last.time
            | inr k ↦ subst (λ (z : Stamp). z.time ≤ p.horizon)
                (sym (ap stamp_of (is_wake x k).0)) (let w = wake_is x k in wok.time w.0 w.1)
          ];
          wides = λ k z v c j. elim (cases (message.Put k z v c) j) [
            | inl g ↦ (let r = puts_in i s a.seq d.writes (message.Put k z v c) g in
                subst IsWide (sym (same_change v (record { num = k; stamp = z; change = c }) _ _ r.3))
                (plan.wide s regs' (answers done) d r.0 out r.1))
            | inr g ↦ absurd
                (not_wake_put v (record { num = k; stamp = z; change = c }) _ _ (is_wake (message.Put k z v c) g).0)
          ];
          kinds = λ x j. elim (cases x j) [
            | inl k ↦ (let r = puts_in i s a.seq d.writes x k in
                subst (MailOk p (issued ++ fresh)) (sym r.3) (in_right issued fresh _ (subst (λ z. In z fresh) r.3 j)))
            | inr k ↦ (let r = is_wake x k in
                subst (MailOk p (issued ++ fresh)) (sym r.0) (in_right issued fresh _ (subst (λ z. In z fresh) r.0 j)))
          ];
          no_cut = λ k. ap (tally (is_cut k)) is ∙ (tally_append (is_cut k) puts (wake_of aw)
              ∙ (let x = puts_no_cut i s a.seq d.writes k in let y = wakes_no_cut aw k in omega arith));
          cut_not = λ u c j.
              elim (cases (cut_msg u c) j) [
                | inl k ↦ not_put_cut u c _ _ (puts_in i s a.seq d.writes (cut_msg u c) k).3
                | inr k ↦ not_wake_cut u c _ _ (is_wake (cut_msg u c) k).0
              ];
          give_not = λ g j. elim (cases (message.Give g) j) [
            | inl k ↦ not_put_give g _ _ (puts_in i s a.seq d.writes (message.Give g) k).3
            | inr k ↦ not_wake_give g _ _ (is_wake (message.Give g) k).0
          ];
          put_one = λ u r j. elim (cases (put_msg u r) j) [
            | inr k ↦ absurd (not_wake_put u r _ _ (is_wake (put_msg u r) k).0)
            | inl k ↦ (let o = puts_in i s a.seq d.writes (put_msg u r) k in
                let once = puts_once i s a.seq d.writes u r k in
                let var : u ≡ o.0.var = same_var u r _ _ o.3 in
                let seq_k : r.num.seq ≡ o.2 = ap (λ (z : Num). z.seq) (ap num_of o.3) in (
                  subst (λ z. z < n) (sym var) (plan.acts s regs' (answers done) d o.0 out o.1),
                  ap (tally (is_put r.num)) is ∙ (tally_append (is_put r.num) puts (wake_of aw)
                      ∙ (let y = wakes_no_put aw r.num in omega arith)),
                  kept_b at r.num ∙ (let x = front_write r.num (let lo = o.4 in omega arith) in let y =
                      nums_puts i s a.seq d.writes r.num in omega arith),
                ))
          ];
          kept = λ k lt. kept_b at k
              ∙ (let y = nums_puts i s a.seq d.writes k in let z = puts_early i s a.seq d.writes k lt in omega arith);
          agent =
              subst (λ (z : Agent). AgentOk p l (issued ++ fresh) new recs pend' wait' n i turn_i z) (sym at) (record {
                base = ok.base;
                low = λ z j. elim (in_cases front (acted_step d ∷ []) z j) [
                  | inl k ↦ ok.low z (in_front z k)
                  | inr k ↦ subst (λ (y : KeptStep). NotPast l y.stamp) (sym (no_step z (acted_step d) k)) last.low
                ];
                chain = join
                    (issued ++ fresh)
                    p.horizon prog i turn_i.regs turn_i.next front (acted_step d ∷ []) aw regs' (Some t)
                    (front_more
                    issued fresh p.horizon prog i turn_i.regs turn_i.next front regs' (Some t) last.front_ok) (
                      t,
                      refl,
                      refl,
                      last.asked,
                      inr (
                        act_of d,
                        refl,
                        record {
                          complete = last.complete;
                          acts = out;
                          entry = refl;
                          writes =
                              writes_ok
                              (issued ++ fresh) i s a.seq d.writes (λ x j. in_right issued fresh x (in_puts x j));
                        },
                        wok.waits,
                      ),
                    );
                senses = λ z j x k. elim (in_cases front (acted_step d ∷ []) z j) [
                  | inl c ↦ front_sense z c x k
                  | inr c ↦ (let e = no_step z (acted_step d) c in
                      subst (λ (y : Stamp). SenseOk p (issued ++ fresh) new recs pend' wait' n y x) (sym
                      (ap (λ (y : KeptStep). y.stamp) e)) (done_sense x (subst (λ (y : KeptStep). In x y.senses) e k)))
                ];
                rises = subst (Rises 0) (sym (nums_step done (Some (act_of d)))) last.rises;
                wake = λ w e. mailed.added _ (in_right (withdrawn gone)
                    fresh _ (in_wakes _ (subst (λ o. In (message.Wake w.num w.stamp) (wake_of o)) (sym e) (inl refl))));
              });
        }
      where
        of_wakes : (o : Option Awaited) (x : Message)
            → In x (wake_of o) → (w : Awaited) × (o ≡ Some w) × (x ≡ message.Wake w.num w.stamp)
        of_wakes None x j = absurd j
        of_wakes (Some w) x (inl e) = (w, refl, e)
        of_wakes (Some w) x (inr j) = absurd j

        wakes_no_cut : (o : Option Awaited) (k : Num) → tally (is_cut k) (wake_of o) ≡ 0
        wakes_no_cut None k = refl
        wakes_no_cut (Some w) k = refl

        wakes_no_put : (o : Option Awaited) (k : Num) → tally (is_put k) (wake_of o) ≡ 0
        wakes_no_put None k = refl
        wakes_no_put (Some w) k = refl

        not_put_cut : (u : ℕ) (c : CutRow) (v : ℕ) (r : PutRow) → cut_msg u c ≡ put_msg v r → ⊥
        not_put_cut u c v r e = cc

        not_wake_cut : (u : ℕ) (c : CutRow) (k : Num) (z : Stamp) → cut_msg u c ≡ message.Wake k z → ⊥
        not_wake_cut u c k z e = cc

        not_put_give : (g : GiveRow) (v : ℕ) (r : PutRow) → message.Give g ≡ put_msg v r → ⊥
        not_put_give g v r e = cc

        not_wake_give : (g : GiveRow) (k : Num) (z : Stamp) → message.Give g ≡ message.Wake k z → ⊥
        not_wake_give g k z e = cc

        not_wake_put : (u : ℕ) (r : PutRow) (k : Num) (z : Stamp) → put_msg u r ≡ message.Wake k z → ⊥
        not_wake_put u r k z e = cc

        same_var : (u : ℕ) (r : PutRow) (v : ℕ) (r' : PutRow) → put_msg u r ≡ put_msg v r' → u ≡ v
        same_var u r v r' e = cc

        same_change : (u : ℕ) (r : PutRow) (v : ℕ) (r' : PutRow) → put_msg u r ≡ put_msg v r' → r.change ≡ r'.change
        same_change u r v r' e = cc

        kept_b : b ≡ record { base = a.base; steps = front ++ acted_step d ∷ []; awaited = aw; seq = seq } → (k : Num)
            → kept_writes k b ≡ tally (num_eq k) (write_nums front) + tally (num_eq k) (nums_of i a.seq d.writes)
        kept_b at k = ap (kept_writes k) at ∙ (ap (tally (num_eq k)) (write_nums_append front (acted_step d ∷ []))
            ∙ (tally_append (num_eq k) (write_nums front) (write_nums (acted_step d ∷ [])) ∙ ap
            (λ z. tally (num_eq k) (write_nums front) + tally (num_eq k) z) (append-nil (nums_of i a.seq d.writes))))

    -- whatever the step's outcome is
    pub fresh_any : PlanOk p n i → (out : Next) → step_of prog s regs' (answers done) ≡ out
        → fresh ≡ (went_on
        (record { agent = i; horizon = p.horizon; acts = step_of prog }) a.base front s done a.seq out).sent
        → b ≡ (went_on (record { agent = i; horizon = p.horizon; acts = step_of prog })
        a.base front s done a.seq out).agent → Fresh
    fresh_any plan (outcome.Ask k) e is at = fresh_ask k (plan.asks s regs' (answers done) k e) e is at
    fresh_any plan (outcome.Act d) e is at = elim (cases_Bool (nat_le (t + d.wait) p.horizon)) [
      | inl f ↦ (let when : Awaited = record { num = new_num (a.seq + length d.writes); stamp = st (t + d.wait) i } in
          let late : Awaited = record { num = new_num (a.seq + length d.writes); stamp = st (later t d.wait) i } in
          let same : late ≡ when = ap (λ z. record { num = new_num (a.seq + length d.writes); stamp = st z i })
          (later_is p.horizon t d.wait plan.small f) in
          let f' : nat_le (later t d.wait) p.horizon ≡ true = later_le p.horizon t d.wait plan.small ∙ f in
          fresh_act d (Some when) (a.seq + length d.writes + 1) plan e
          (is ∙ (ap (λ (c : Bool). (act_sends i a.base front s done a.seq d c).sent) f'
          ∙ ap (λ (w : Awaited). puts_of i s a.seq d.writes ++ wake_of (Some w)) same))
          (at ∙ (ap (λ (c : Bool). (act_sends i a.base front s done a.seq d c).agent) f'
          ∙ ap (λ (w : Awaited). record {
            base = a.base;
            steps = front ++ acted_step d ∷ [];
            awaited = Some w;
            seq = a.seq + length d.writes + 1;
          }) same))
          (record {
            some = λ w g. (some_is when w g, refl);
            time = λ w g. (let k = f in grind (arith, nat_tests, k));
            enough = omega arith;
            waits = subst (λ c. Waits i (cond c (Some (t + d.wait)) None) (Some when))
                (sym f) (new_num (a.seq + length d.writes), refl, refl);
          }))
      | inr f ↦ (let f' : nat_le (later t d.wait) p.horizon ≡ false = later_le p.horizon t d.wait plan.small ∙ f in
          fresh_act d None (a.seq + length d.writes) plan e
          (is ∙ ap (λ (c : Bool). (act_sends i a.base front s done a.seq d c).sent) f')
          (at ∙ ap (λ (c : Bool). (act_sends i a.base front s done a.seq d c).agent) f')
          (record {
            some = λ w g. absurd (none_some w g);
            time = λ w g. absurd (none_some w g);
            enough = omega arith;
            waits = subst (λ c. Waits i (cond c (Some (t + d.wait)) None) None) (sym f) refl;
          }))
    ]
      where
        some_is : (x y : Awaited) → Some x ≡ Some y → y ≡ x
        some_is x y g = cc

        none_some : (x : Awaited) → None ≡ Some x → ⊥
        none_some x g = cc
