-- All stays true where a line is committed below which nothing is on the way.
use Rattle.pm_base.specs.Stamps.{num_eq}
use Rattle.pm_saved.specs.Steps.{base_of, base_one, keep_one, left_of, regs_of}
use Rattle.pm_saved.specs.declared.kept.KeptStep.{KeptStep}
use Rattle.pm_saved.specs.declared.kept.KeptSense.{KeptSense}
use Rattle.pm_saved.specs.declared.kept.KeptAct.{KeptAct}
use Rattle.pm_alp.specs.declared.agent.Awaited.{Awaited}
use Rattle.pm_alp.specs.declared.agent.Agent.{Agent}
use Rattle.std.proofs.Common.{◌≡◌, ℕ, ◌+◌, ◌<◌, inl, inr, true, false, not, ◌||◌, List, [], ◌∷◌, ◌++◌, map, length, get_or, refl, arith, ap, sym, ◌∙◌, subst, Option, Some, None, ℤ}
use Rattle.std.proofs.lemmas.Bool.{cases_Bool, or_cases}
use Rattle.std.proofs.lemmas.List.{length-map, get_or-map}
use Rattle.pm_periods.proofs.Trimming.{trimmed-settled}
use Rattle.pm_base.specs.declared.rows.CutRow.{CutRow}
use Rattle.pm_base.specs.declared.rows.Parts.{Parts}
use Rattle.pm_base.specs.declared.rows.PutRow.{PutRow}
use Rattle.pm_base.specs.declared.rows.ReadRow.{ReadRow}
use Rattle.pm_base.specs.declared.stamp.Line.{Line}
use Rattle.pm_base.specs.declared.stamp.Num.{Num}
use Rattle.pm_base.specs.declared.stamp.Stamp.{Stamp}
use Rattle.pm_base.specs.declared.value.Query.{Query}
use Rattle.pm_base.specs.Windows.{IsPair}
use Rattle.pm_message.specs.Messages.{stamp_of}
use Rattle.pm_message.specs.declared.Message.{Message}
use Rattle.pm_model.specs.Runs.{rest}
use Rattle.pm_model.specs.declared.AgentState.{AgentState}
use Rattle.pm_model.specs.declared.State.{State}
use Rattle.pm_periods.specs.Records.{trimmed}
use Rattle.pm_plan.specs.declared.plan.Plan.{Plan}
use Rattle.pm_alp.specs.Agents.{agent_committed, no_agent}
use Rattle.pm_sim.specs.Worlds.{rule_at}
use Rattle.pm_sim.specs.Sims.{Agree, AgentOk, Chain, Core, In, MailOk, NotPast, Past, QueryOk, Rises, cut_msg, has_put, has_read, held, is_past, kept_writes, no_turn, num_of, put_msg, sense_nums, st, tally, told, within, write_nums, PlanIs}
use Rattle.pm_sim.proofs.Commits.{next_turn, end_one, end_turn, Good, Reached}
use Rattle.pm_sim.proofs.Going.{tally_append, write_nums_append, sense_nums_append}
use Rattle.pm_sim.proofs.Lists.{in_left, in_right}
use Rattle.pm_sim.proofs.Quiets.{tally_none, nums_in, write_nums_in, chain_later, chain_acted, Lively, val, last, Live, chain_good, len_rests, rest_i, committed_turns}
use Rattle.pm_sim.proofs.Stamps.{nums_same, past_tells, past_true, past_false, past_not, not_past_up}
use Rattle.pm_sim.proofs.Trims.{in_filter, tally_filter, told_filter}
use Rattle.pm_sim.proofs.Values.{value_pair}
use Rattle.pm_base.specs.declared.value.Query.TheVariants as query
use Rattle.pm_message.specs.declared.Message.TheVariants as message
use Rattle.std.proofs.Common.{subst₂}
use Rattle.std.proofs.Common.{ap₂}

rises_right : (lo : ℕ) (xs ys : List Num) → Rises lo (xs ++ ys) → Rises 0 ys
rises_right lo [] [] r = tt
rises_right lo [] (y ∷ ys) r = (let h = r.0 in omega arith, r.1)
rises_right lo (x ∷ xs) ys r = rises_right (x.seq + 1) xs ys r.1

module _ (p : Plan)
    (l : Line) (q : State) (issued : List Message) (agents : List Agent) (recs : ℕ → Parts) (letters : List Message)
    (pend pend' : Num → ℕ → Type 0) (wait wait' : Num → Type 0) (core : Core p l q issued agents recs letters pend wait)
    (lively : Lively p l (length q.values) issued letters recs pend wait)
    (k : Line) (quiet : (m : Message) → In m letters → NotPast k (stamp_of m))
    (plan : PlanIs p (length q.values)) (above : (s : Stamp) → NotPast k s → NotPast l s)
    (pend_keep : (n : Num) (v : ℕ) (s : Stamp) (y : Query)
    → In (message.Ask n s y) issued → NotPast k s → pend n v → pend' n v)
    (wait_keep : (n : Num) (s : Stamp) (y : Query) → In (message.Ask n s y) issued → NotPast k s → wait n → wait' n)
  where
    abbrev n : ℕ
    n = length q.values

    abbrev GoodK : ℕ → List ℤ → Option ℕ → List KeptStep → Type 0
    GoodK i regs next ss = Good p k n (val p l q issued agents recs letters pend wait core lively k quiet plan)
        (last p l q issued agents recs letters pend wait core lively k quiet plan)
        (Live p l q issued agents recs letters pend wait core lively k quiet plan) i regs next ss

    -- what is left of an agent's steps: a rest of them, whose chain begins where the turns end
    record Left (i : ℕ) (base : List ℤ) (t : AgentState) (ss : List KeptStep) (w : Option Awaited) : Type 0 where
      gone : List KeptStep
      split : ss ≡ gone ++ left_of k ss
      past : (z : KeptStep) → In z gone → Past k z.stamp
      regs : base_of k base ss ≡ (end_turn k p.horizon t ss).regs
      chain : Chain issued
          p.horizon (rule_at p i) i (end_turn k p.horizon t ss).regs (end_turn k p.horizon t ss).next (left_of k ss) w

    keep_false : (s : KeptStep) (o : Option KeptAct) (ss rest : List KeptStep) → keep_one false s o ss rest ≡ s ∷ ss
    keep_false s None ss rest = refl
    keep_false s (Some a) ss rest = refl

    base_false : (regs : List ℤ) (o : Option KeptAct) (rest : List ℤ) → base_one false regs o rest ≡ regs
    base_false regs None rest = refl
    base_false regs (Some a) rest = refl

    end_false : (t : AgentState) (o : Option KeptAct) (rest : AgentState) → end_one false t o rest ≡ t
    end_false t None rest = refl
    end_false t (Some a) rest = refl

    left : (i : ℕ) (base : List ℤ) (t : AgentState) (ss : List KeptStep) (w : Option Awaited) → base ≡ t.regs
        → GoodK i t.regs t.next ss → Chain issued p.horizon (rule_at p i) i t.regs t.next ss w → Left i base t ss w
    left i base t [] w eb g c = record { gone = []; split = refl; past = λ z j. absurd j; regs = eb; chain = c }
    left i base t (s ∷ ss) w eb (u, en, es, inl np) c =
        let f : is_past k s.stamp ≡ false = ap (is_past k) es ∙ past_false k (st u i) np in
        let a : left_of k (s ∷ ss) ≡ s ∷ ss =
        ap (λ b. keep_one b s s.act ss (left_of k ss)) f ∙ keep_false s s.act ss (left_of k ss) in
        let b : end_turn k p.horizon t (s ∷ ss) ≡ t =
        ap (λ b. end_one b t s.act (end_turn k p.horizon (next_turn p.horizon s.stamp t s.act) ss)) f
        ∙ end_false t s.act _ in
        let d : base_of k base (s ∷ ss) ≡ base =
        ap (λ b. base_one b base s.act (base_of k (regs_of base s.act) ss)) f ∙ base_false base s.act _ in
        record {
          gone = [];
          split = sym a;
          past = λ z j. absurd j;
          regs = d ∙ (eb ∙ ap (λ (z : AgentState). z.regs) (sym b));
          chain =
              subst₂
              (λ (z : AgentState) (zs : List KeptStep). Chain issued p.horizon (rule_at p i) i z.regs z.next zs w)
              (sym b) (sym a) c;
        }
    left i base t (s ∷ ss) w eb (u, en, es, inr (x, gs, rest)) (u', en', es', asked, inl o) =
        absurd (let e : None ≡ Some x = sym o.0 ∙ gs.act in cc)
    left i base t (s ∷ ss) w eb (u, en, es, inr (x, gs, rest)) (u', en', es', asked, inr (y, act, acted, c)) =
        let same : y ≡ x = some_act y x (sym act ∙ gs.act) in
        let times : u' ≡ u = some_nat u' u (sym en' ∙ en) in
        let f : is_past k s.stamp ≡ true = ap (is_past k) es ∙ past_true k (st u i) gs.past in
        let new : AgentState = record { regs = x.regs; next = within p.horizon (u + x.wait) } in
        let c' : Chain issued p.horizon (rule_at p i) i new.regs new.next ss w = subst₂ (λ (z : KeptAct) (m : ℕ).
        Chain issued p.horizon (rule_at p i) i z.regs (within p.horizon (m + z.wait)) ss w) same times c in
        let r = left i x.regs new ss w refl rest c' in
        let a : left_of k (s ∷ ss) ≡ left_of k ss = ap₂ (λ b o. keep_one b s o ss (left_of k ss)) f gs.act in
        let b : end_turn k p.horizon t (s ∷ ss) ≡ end_turn k p.horizon new ss =
        ap₂ (λ b o. end_one b t o (end_turn k p.horizon (next_turn p.horizon s.stamp t o) ss)) f gs.act
        ∙ ap (λ (z : Stamp). end_turn k p.horizon (next_turn p.horizon z t (Some x)) ss) es in
        let d : base_of k base (s ∷ ss) ≡ base_of k x.regs ss =
        ap₂ (λ b o. base_one b base o (base_of k (regs_of base o) ss)) f gs.act in
        record {
          gone = s ∷ r.gone;
          split = ap (λ z. s ∷ z) (r.split ∙ ap (λ z. r.gone ++ z) (sym a));
          past = λ z j. elim j [
            | inl e ↦ subst (λ (v : KeptStep). Past k v.stamp) (sym e) (subst (Past k) (sym es) gs.past)
            | inr h ↦ r.past z h
          ];
          regs = d ∙ (r.regs ∙ ap (λ (z : AgentState). z.regs) (sym b));
          chain =
              subst₂
              (λ (z : AgentState) (zs : List KeptStep). Chain issued p.horizon (rule_at p i) i z.regs z.next zs w)
              (sym b) (sym a) r.chain;
        }
      where
        some_act : (v z : KeptAct) → Some v ≡ Some z → v ≡ z
        some_act v z e = cc

        some_nat : (v z : ℕ) → Some v ≡ Some z → v ≡ z
        some_nat v z e = cc

    pub reached : Reached p k n (val p l q issued agents recs letters pend wait core lively k quiet plan)
        (last p l q issued agents recs letters pend wait core lively k quiet plan)
        (Live p l q issued agents recs letters pend wait core lively k quiet plan)
        q (map (λ (a : Agent). a.steps) agents)
    reached = committed_turns p l q issued agents recs letters pend wait core lively k quiet plan

    agent_i : ℕ → Agent
    agent_i i = get_or agents i no_agent

    left_i : (i : ℕ) → i < length agents → Left i (get_or agents i no_agent).base
        (get_or q.agents i no_turn) (get_or agents i no_agent).steps (get_or agents i no_agent).awaited
    left_i i lt = (let ok = core.agent i lt in
        left i _ (get_or q.agents i no_turn) (get_or agents i no_agent).steps (get_or agents i no_agent).awaited ok.base
        (chain_good p l q issued agents recs letters pend wait
        core lively k quiet plan i _ _ (get_or agents i no_agent).steps _ ok.chain ok.senses ok.low ok.wake) ok.chain)

    end_i : (i : ℕ) → i < length agents → get_or reached.end.agents i no_turn
        ≡ end_turn k p.horizon (get_or q.agents i no_turn) (get_or agents i no_agent).steps
    end_i i lt =
        reached.each i (let e = len_rests p l q issued agents recs letters pend wait core lively k quiet plan in
        omega arith) ∙ ap (end_turn k p.horizon (get_or q.agents i no_turn))
        (rest_i p l q issued agents recs letters pend wait core lively k quiet plan i lt)

    -- a read of a kept sense not below the line stays
    told_stays : (v : ℕ) (m : Num) (s : Stamp) (y : Query) → In (message.Ask m s y) issued → NotPast k s
        → (told m (trimmed k (recs v)).reads ≡ told m (recs v).reads)
        × (has_read m (trimmed k (recs v)).reads ≡ has_read m (recs v).reads)
    told_stays v m s y i np = told_filter m (λ (r : ReadRow). not (is_past k r.stamp)) (recs v).reads (λ r j e.
        let o = (core.rec v).reads r j in
        let same : r.num ≡ m = sym (nums_same m r.num e) in
        let at : r.stamp ≡ s = ap stamp_of (core.unique _ _ o.1 i same) in
        ap not (past_false k r.stamp (subst (NotPast k) (sym at) np)))

    query_stays : (s : Stamp) (x : KeptSense) (y : Query) → In (message.Ask x.num s x.query) issued → NotPast k s
        → QueryOk p letters recs pend wait n s x y → QueryOk p letters (λ v. trimmed k (recs v)) pend' wait' n s x y
    query_stays s x (query.Class c w) i np o = (
      o.0,
      λ e. wait_keep x.num s x.query i np (o.1 e),
      λ v lt ec. (let t = told_stays v x.num s x.query i np in let r = o.2 v lt ec in record {
        asked = elim r.asked [ inl j ↦ inl (pend_keep x.num v s x.query i np j) | inr e ↦ inr (t.1 ∙ e) ];
        agree = subst (λ z. Agree letters x.num v z (held v x.hits)) (sym t.0) r.agree;
      }),
    )
    query_stays s x (query.One v) i np o = (let t = told_stays v x.num s x.query i np in (
      o.0,
      o.1,
      record {
        asked = elim o.2.asked [ inl j ↦ inl j | inr e ↦ inr (t.1 ∙ e) ];
        agree = subst (λ z. Agree letters x.num v z (held v x.hits)) (sym t.0) o.2.agree;
      },
    ))

    -- a row of a put that is not below the line
    writes_stay : (i : ℕ) → i < length agents → (v : ℕ) (r : PutRow) → In (put_msg v r) issued → NotPast k r.stamp
        → kept_writes r.num (agent_committed k (get_or agents i no_agent))
        ≡ kept_writes r.num (get_or agents i no_agent)
    writes_stay i lt v r j np =
        let o = left_i i lt in
        let ok = core.agent i lt in
        let none : tally (num_eq r.num) (write_nums o.gone) ≡ 0 =
        tally_none (num_eq r.num) (write_nums o.gone) (λ x h. elim (cases_Bool (num_eq r.num x)) [
          | inr e ↦ e
          | inl e ↦ absurd (
              let w = write_nums_in o.gone x h in
              let c = chain_acted issued p.horizon (rule_at p i) i _ _ _ _ w.0 w.2 ok.chain (subst
              (In w.0) (sym o.split) (in_left o.gone (left_of k (get_or agents i no_agent).steps) w.0 w.1)) w.3 in
              let u = nums_in issued w.0.stamp w.2.nums w.2.entry.writes x c.1.writes w.4 in
              let at : w.0.stamp ≡ r.stamp = ap stamp_of (core.unique _ _ u.2 j (sym (nums_same r.num x e))) in
              past_not k r.stamp (subst (Past k) at (o.past w.0 w.1)) np)
        ]) in
        let all : kept_writes r.num (get_or agents i no_agent) ≡ tally (num_eq r.num) (write_nums o.gone)
        + tally (num_eq r.num) (write_nums (left_of k (get_or agents i no_agent).steps)) =
        ap (λ z. tally (num_eq r.num) (write_nums z)) o.split ∙ (ap (tally (num_eq r.num)) (write_nums_append o.gone _)
        ∙ tally_append (num_eq r.num) (write_nums o.gone) _) in
        omega arith

    same_agent : (i : ℕ) → i < length agents
        → get_or (map (agent_committed k) agents) i no_agent ≡ agent_committed k (get_or agents i no_agent)
    same_agent i lt = get_or-map (agent_committed k) agents i no_agent no_agent lt

    pub core_commit :
        Core p k reached.end issued (map (agent_committed k) agents) (λ v. trimmed k (recs v)) letters pend' wait'
    core_commit = record {
      same_agents = length-map agents (agent_committed k)
          ∙ (sym (len_rests p l q issued agents recs letters pend wait core lively k quiet plan) ∙ reached.turns);
      same_plan = core.same_plan ∙ (sym core.same_agents
          ∙ (sym (len_rests p l q issued agents recs letters pend wait core lively k quiet plan) ∙ reached.turns));
      same_vars = core.same_vars ∙ sym reached.size;
      pairs = λ v lt. (let lt' : v < n = omega (arith, lt, reached.size) in subst IsPair (sym (reached.values v lt'))
          (value_pair (recs v) k (subst IsPair (core.base v lt') (core.pairs v lt'))
          (λ u j. core.wide u.num u.stamp v u.change ((core.rec v).puts u j).0)));
      wide = core.wide;
      base = λ v lt. reached.values v (omega (arith, lt, reached.size));
      agent = λ i lt. (let lt' : i < length agents = omega (arith, lt, length-map agents (agent_committed k)) in
          let ok = core.agent i lt' in let o = left_i i lt' in
          let low : (z : KeptStep) → In z (left_of k (get_or agents i no_agent).steps) → NotPast k z.stamp = λ z j.
          (let c = chain_later issued p.horizon (rule_at p i) i _ _ _ _ z o.chain j in
          not_past_up k (st c.0 i) z.stamp c.2 (reached.stops i (let e = len_rests p l q issued agents recs letters pend
          wait core lively k quiet plan in omega arith) c.0 (ap (λ (t : AgentState). t.next) (end_i i lt') ∙ c.1))) in
          let in_steps : (z : KeptStep) → In z (left_of k (get_or agents i no_agent).steps)
          → In z (get_or agents i no_agent).steps = λ z j. subst (In z) (sym o.split) (in_right o.gone _ z j) in
          subst (λ m. AgentOk p k issued letters (λ v. trimmed k (recs v)) pend' wait' m i (get_or
          reached.end.agents i no_turn) (get_or (map (agent_committed k) agents) i no_agent)) (sym reached.size)
          (subst₂ (λ (t : AgentState) (a : Agent). AgentOk p k issued letters
          (λ v. trimmed k (recs v)) pend' wait' n i t a) (sym (end_i i lt')) (sym (same_agent i lt')) (record {
            base = o.regs;
            low = low;
            chain = o.chain;
            senses = λ z j x h. (let c = ok.senses z (in_steps z j) x h in
                record { issue = c.issue; query = query_stays z.stamp x x.query c.issue (low z j) c.query });
            rises = rises_right
                0 (sense_nums o.gone) _ (subst (Rises 0) (ap sense_nums o.split ∙ sense_nums_append o.gone _) ok.rises);
            wake = ok.wake;
          })));
      own = core.own;
      times = core.times;
      fresh = λ m j. (let o = core.fresh m j in (
        omega (arith, o.0, length-map agents (agent_committed k)),
        subst (λ (a : Agent). (num_of m).seq < a.seq) (sym (same_agent (num_of m).agent o.0)) o.1,
      ));
      unique = core.unique;
      mail = λ m j. ((core.mail m j).0, quiet m j);
      rec = λ v. (let o = core.rec v in record {
        puts = λ x j. (let f = in_filter (λ (y : PutRow). not (is_past k y.stamp)) (recs v).puts x j in
            ((o.puts x f.0).0, stays x.stamp f.1));
        cuts = λ c j. (let f = in_filter
            (λ (y : CutRow). not (is_past k y.stamp) || has_put y.num (trimmed k (recs v)).puts) (recs v).cuts c j in
            let g = o.cuts c f.0 in (
              g.0,
              elim (or_cases (not (is_past k c.stamp)) (has_put c.num (trimmed k (recs v)).puts) f.1) [
                | inl e ↦ stays c.stamp e
                | inr e ↦ (let u = put_of c.num (trimmed k (recs v)).puts e in
                    let h = in_filter (λ (y : PutRow). not (is_past k y.stamp)) (recs v).puts u.0 u.1 in
                    let m : MailOk p issued (cut_msg v c) = g.0 in
                    let at : c.stamp ≡ u.0.stamp = ap stamp_of (core.unique _ _ m.1 (o.puts u.0 h.0).0 u.2) in
                    subst (NotPast k) (sym at) (stays u.0.stamp h.1))
              ],
            ));
        reads = λ x j. (let f = in_filter (λ (y : ReadRow). not (is_past k y.stamp)) (recs v).reads x j in let g =
            o.reads x f.0 in (g.0, g.1, g.2, g.3, stays x.stamp f.1));
        solid = trimmed-settled (recs v) k o.solid;
      });
      put_once = λ v r j np. (let o = core.put_once v r j (above r.stamp np) in
          let t = tally_filter
          (λ (y : PutRow). num_eq r.num y.num) (λ (y : PutRow). not (is_past k y.stamp)) (recs v).puts (λ x h e.
          (let at : x.stamp ≡ r.stamp =
          ap stamp_of (core.unique _ _ ((core.rec v).puts x h).0 j (sym (nums_same r.num x.num e))) in
          ap not (past_false k x.stamp (subst (NotPast k) (sym at) np)))) in
          ((let a = o.0 in omega (arith, reached.size)), (let b = o.1 in omega arith)));
      cut_once = λ v r j np. (let o = core.cut_once v r j (above r.stamp np) in
          let t = tally_filter (λ (y : CutRow). num_eq r.num y.num)
          (λ (y : CutRow). not (is_past k y.stamp) || has_put y.num (trimmed k (recs v)).puts) (recs v).cuts (λ x h e.
          (let m : MailOk p issued (cut_msg v x) = ((core.rec v).cuts x h).0 in
          let at : x.stamp ≡ r.stamp = ap stamp_of (core.unique _ _ m.1 j (sym (nums_same r.num x.num e))) in
          ap (λ b. not b || has_put x.num (trimmed k (recs v)).puts)
          (past_false k x.stamp (subst (NotPast k) (sym at) np)))) in
          let lt = (core.fresh (put_msg v r) j).0 in
          let w : kept_writes r.num (get_or (map (agent_committed k) agents) r.num.agent no_agent)
          ≡ kept_writes r.num (get_or agents r.num.agent no_agent) =
          ap (kept_writes r.num) (same_agent r.num.agent lt) ∙ writes_stay r.num.agent lt v r j np in
          omega arith);
    }
      where
        stays : (s : Stamp) → not (is_past k s) ≡ true → NotPast k s
        stays s e = elim (past_tells k s) [ inl f ↦ absurd (let g = f.0 in grind (arith, e, g)) | inr f ↦ f.1 ]

        put_of : (m : Num) (ps : List PutRow) → has_put m ps ≡ true → (u : PutRow) × In u ps × (m ≡ u.num)
        put_of m [] e = absurd (cc)
        put_of m (x ∷ ps) e = elim (cases_Bool (num_eq m x.num)) [
          | inl f ↦ (x, inl refl, nums_same m x.num f)
          | inr f ↦ (let r = put_of m ps (grind (arith, e, f)) in (r.0, inr r.1, r.2))
        ]
