-- Who waits has something on its way: part by part, for each world in which the whole fact holds.
use Rattle.pm_queries.specs.declared.registered.Registered.{Registered}
use Rattle.pm_queries.specs.Queries.{has}
use Rattle.std.proofs.Common.{Bool, List, None, Option, Some, [], ap, arith, false, get_or, inl, inr, length, refl, subst, sym, true, ℕ, ℤ, ◌++◌, ◌+◌, ◌<◌, ◌∙◌, ◌∷◌, ◌≡◌, ◌≤◌, ◌⊎◌}
use Rattle.pm_base.specs.Windows.{IsPair, whole}
use Rattle.pm_base.specs.declared.rows.GiveRow.{GiveRow}
use Rattle.pm_base.specs.declared.rows.Parts.{Parts}
use Rattle.pm_base.specs.declared.run.Event.{Event}
use Rattle.pm_base.specs.declared.stamp.Num.{Num}
use Rattle.pm_base.specs.declared.stamp.Stamp.{Stamp}
use Rattle.pm_base.specs.declared.value.Query.{Query}
use Rattle.pm_base.specs.declared.value.Value.{Value}
use Rattle.pm_message.specs.Messages.{stamp_of}
use Rattle.pm_message.specs.declared.Message.{Message}
use Rattle.pm_periods.specs.Records.{hit_in, record_hit, record_value}
use Rattle.pm_plan.specs.declared.plan.Plan.{Plan}
use Rattle.pm_model.specs.declared.State.{State}
use Rattle.pm_saved.specs.declared.kept.KeptAct.{KeptAct}
use Rattle.pm_saved.specs.declared.kept.KeptSense.{KeptSense}
use Rattle.pm_saved.specs.declared.kept.KeptStep.{KeptStep}
use Rattle.pm_alp.specs.Agents.{Rule, no_agent}
use Rattle.pm_alp.specs.declared.agent.Awaited.{Awaited}
use Rattle.pm_sim.proofs.Awakes.{Awake, run_awake}
use Rattle.pm_sim.proofs.Ends.{goes_low}
use Rattle.pm_sim.proofs.Firsts.{PlanFits}
use Rattle.pm_sim.proofs.Letters.{in_map, letters, map_in, message_of}
use Rattle.pm_sim.proofs.Lists.{each_in}
use Rattle.pm_sim.proofs.Places.{Pending, Sim, queries_at}
use Rattle.pm_sim.proofs.Quiets.{told_in, whole_hit}
use Rattle.pm_sim.proofs.Rows.{act}
use Rattle.pm_sim.proofs.Values.{value_pair}
use Rattle.pm_sim.proofs.Wholes.{Whole, first_whole, whole_run}
use Rattle.pm_sim.specs.Routings.{Goes, Wait}
use Rattle.pm_sim.specs.Sims.{AgentOk, Chain, Each, In, LastOpen, MailOk, QueryOk, ReadOk, ShapeOk, Told, Under, Waits, held, no_turn, told, window_of, within}
use Rattle.pm_sim.specs.Waking.{AllActed, Awaking, Coming, LastStep, Stuck, after_act, next_after}
use Rattle.pm_sim.specs.Worlds.{Mail, World, after_events, clps_of, committed, first_world, home, is_legal_run, mail, rule_at}
use Rattle.pm_sim.specs.Worlds.Process.{AtAgent, AtClp}
use Rattle.pm_base.specs.declared.stamp.Line.TheVariants as line
use Rattle.pm_message.specs.declared.Message.TheVariants as message
use Rattle.pm_base.specs.declared.value.Query.TheVariants as query

-- who awaits a Wake has acted
pub chain_awaits : (issued : List Message) (h : ℕ)
    (prog : Rule) (i : ℕ) (regs : List ℤ) (next : Option ℕ) (ss : List KeptStep) (o : Option Awaited) (x : Awaited)
    → o ≡ Some x → Chain issued h prog i regs next ss o → AllActed ss
chain_awaits issued h prog i regs next [] o x e c = tt
chain_awaits issued h prog i regs next (s ∷ ss) o x e (t, en, es, asked, inl (none, nil, aw, open')) =
    absurd (let g : None ≡ Some x = sym aw ∙ e in cc)
chain_awaits issued h prog i regs next (s ∷ ss) o x e (t, en, es, asked, inr (a, act, acted, c)) =
    ((a, act), chain_awaits issued h prog i a.regs (within h (t + a.wait)) ss o x e c)

-- the awaited Wake is at the next time
pub chain_next : (issued : List Message)
    (h : ℕ) (prog : Rule) (i : ℕ) (regs : List ℤ) (next : Option ℕ) (ss : List KeptStep) (o : Option Awaited)
    → Chain issued h prog i regs next ss o → AllActed ss → Waits i (next_after h next ss) o
chain_next issued h prog i regs next [] o c all = c
chain_next issued h prog i regs next (s ∷ ss) o (t, en, es, asked, inl (none, nil, aw, open')) all =
    absurd (let b = all.0.1 in let g : None ≡ Some all.0.0 = sym none ∙ b in cc)
chain_next issued h prog i regs next (s ∷ ss) o (t, en, es, asked, inr (a, act, acted, c)) all =
    let f : after_act h s.stamp s.act ≡ within h (t + a.wait) =
    ap (after_act h s.stamp) act ∙ ap (λ (z : Stamp). within h (z.time + a.wait)) es in
    subst (λ z. Waits i (next_after h z ss) o)
    (sym f) (chain_next issued h prog i a.regs (within h (t + a.wait)) ss o c all.1)

last_sense : (xs : List KeptSense) → LastOpen xs → (front : List KeptSense) × (x : KeptSense)
    × (xs ≡ front ++ x ∷ []) × Each (λ (y : KeptSense). y.complete ≡ true) front × (x.complete ≡ false)
last_sense [] h = absurd h
last_sense (x ∷ []) h = ([], x, refl, tt, h)
last_sense (x ∷ (y ∷ ys)) h = (let r = last_sense (y ∷ ys) h.1 in (x ∷ r.0, r.1, ap (λ z. x ∷ z) r.2, (h.0, r.3), r.4))

pub chain_open : (issued : List Message) (h : ℕ)
    (prog : Rule) (i : ℕ) (regs : List ℤ) (next : Option ℕ) (ss : List KeptStep) (o : Option Awaited) (s : KeptStep)
    → Chain issued h prog i regs next ss o → In s ss → s.act ≡ None → LastStep ss s × (o ≡ None)
chain_open issued h prog i regs next [] o s c j e = absurd j
chain_open issued h prog i regs next (x ∷ ss) o s (t, en, es, asked, inl (none, nil, aw, open')) (inr j) e =
    absurd (subst (In s) nil j)
chain_open issued h prog i regs next (x ∷ ss) o s (t, en, es, asked, inl (none, nil, aw, open')) (inl f) e =
    let r = last_sense s.senses (subst (λ (z : KeptStep). LastOpen z.senses) (sym f) open') in (
      record {
        front = [];
        is = ap (λ z. z ∷ ss) (sym f) ∙ ap (λ z. s ∷ z) nil;
        acted =
            tt;
        senses = r.0;
        sense = r.1;
        last = r.2;
        done = r.3;
        is_open = r.4;
      },
      aw,
    )
chain_open issued h prog i regs next (x ∷ ss) o s (t, en, es, asked, inr (a, act, acted, c)) (inl f) e =
    absurd (let g : None ≡ Some a = sym e ∙ (ap (λ (z : KeptStep). z.act) f ∙ act) in cc)
chain_open issued h prog i regs next (x ∷ ss) o s (t, en, es, asked, inr (a, act, acted, c)) (inr j) e =
    let r = chain_open issued h prog i a.regs (within h (t + a.wait)) ss o s c j e in (
      record {
        front = x ∷ r.0.front;
        is = ap (λ z. x ∷ z) r.0.is;
        acted = ((a, act), r.0.acted);
        senses =
            r.0.senses;
        sense = r.0.sense;
        last = r.0.last;
        done = r.0.done;
        is_open = r.0.is_open;
      },
      r.1,
    )

in_end : {X : Type 0} (xs : List X) (x : X) → In x (xs ++ x ∷ [])
in_end [] x = inl refl
in_end (y ∷ xs) x = inr (in_end xs x)

module _ (p : Plan) (q : State) (w : World) (recs : ℕ → Parts) (sim : Sim p q w recs) where
  abbrev ls : List Message
  ls = letters w.links

  sure : (x : Mail) → In x (mail w.links) → MailOk p sim.issued x.message
  sure x i = (sim.core.mail x.message (map_in message_of (mail w.links) x i)).0

  ag : (a : ℕ) → a < length w.agents → AgentOk
      p w.line sim.issued ls recs (Pending p (queries_at w) (mail w.links)) (Wait p (queries_at w) (mail w.links))
      (length q.values) a (get_or q.agents a no_turn) (get_or w.agents a no_agent)
  ag a lt = sim.core.agent a lt

  -- a Give's letter is of its query's stamp
  give_stamp : (g : GiveRow) (n : Num) (s : Stamp) (y : Query)
      → In (message.Give g) ls → g.num ≡ n → In (message.Ask n s y) sim.issued → g.stamp ≡ s
  give_stamp g n s y i e j = (let ok = (sim.core.mail (message.Give g) i).0 in
      ap stamp_of (sim.core.unique (message.Ask g.num g.stamp ok.0) (message.Ask n s y) ok.1 j e))

  -- an open single read: its Ask or a Give with a turn is on its way
  one_coming : (s : Stamp) (x : KeptSense) (v : ℕ) → v < length q.values → In (message.Ask x.num s x.query) sim.issued
      → x.query ≡ query.One v → x.hits ≡ [] → ReadOk ls recs (In (message.Ask x.num s (query.One v)) ls) x v
      → In (message.Ask x.num s (query.One v)) ls
      ⊎ ((g : GiveRow) × In (message.Give g) ls × (g.num ≡ x.num) × (g.var ≡ v) × (1 ≤ g.turn))
  one_coming s x v lv issue eq eh ok = elim ok.asked [
    | inl i ↦ inl i
    | inr has ↦ inr (
        let t = told_in x.num (recs v).reads has in
        let o = (sim.core.rec v).reads t.0 t.1 in
        let same : message.Ask t.0.num t.0.stamp o.0 ≡ message.Ask x.num s x.query =
        sim.core.unique _ _ o.1 issue t.2 in
        let wh : t.0.window ≡ whole =
        o.3 ∙ (ap window_of (query_same t.0.num x.num t.0.stamp s o.0 x.query same) ∙ ap window_of eq) in
        let hit : t.0.hit ≡ Some (record_value (recs v) t.0.stamp) =
        each_in (λ y. y.hit ≡ record_hit (recs v) y) (recs v).reads t.0 (sim.core.rec v).solid.hits t.1
        ∙ (ap (hit_in (record_value (recs v) t.0.stamp)) wh ∙ whole_hit (record_value (recs v) t.0.stamp)
        (value_pair (recs v) (line.At t.0.stamp) (subst IsPair (sim.core.base v lv) (sim.core.pairs v lv))
        (λ u i. sim.core.wide u.num u.stamp v u.change ((sim.core.rec v).puts u i).0))) in
        let top : told x.num (recs v).reads ≡ record { turn = t.0.turn; hit = Some (record_value (recs v) t.0.stamp) } =
        t.3 ∙ ap (λ z. record { turn = t.0.turn; hit = z }) hit in
        let here : held v x.hits ≡ record { turn = 0; hit = None } = ap (held v) eh in
        let under : Under (record { turn = 0; hit = None })
        (record { turn = t.0.turn; hit = Some (record_value (recs v) t.0.stamp) }) =
        subst (λ z. Under z (record { turn = t.0.turn; hit = Some (record_value (recs v) t.0.stamp) }))
        here (subst (Under (held v x.hits)) top ok.agree.under) in
        let pos : 1 ≤ t.0.turn = turned t.0.turn (record_value (recs v) t.0.stamp) under in
        elim ok.agree.there [
          | inl f ↦ absurd (let g : None ≡ Some (record_value (recs v) t.0.stamp) =
              ap (λ (z : Told). z.hit) (sym here ∙ (f ∙ top)) in cc)
          | inr g ↦ (g.0, g.1, g.2, g.3, subst (λ z. 1 ≤ z) (sym (ap (λ (z : Told). z.turn) (g.4 ∙ top))) pos)
        ])
  ]
    where
      query_same : (m n : Num) (a b : Stamp) (k y : Query) → message.Ask m a k ≡ message.Ask n b y → k ≡ y
      query_same m n a b k y e = cc

      turned : (k : ℕ) (y : Value) → Under (record { turn = 0; hit = None }) (record { turn = k; hit = Some y }) → 1 ≤ k
      turned k y (inl lt) = lt
      turned k y (inr e) = absurd (let g : None ≡ Some y = e.1 in cc)

  pub stuck : (a : ℕ) → a < length w.agents → (s : KeptStep)
      → In s (get_or w.agents a no_agent).steps → s.act ≡ None → Stuck p w (get_or w.agents a no_agent) s
  stuck a lt s i e =
      let r = chain_open sim.issued p.horizon (rule_at p a)
      a _ _ (get_or w.agents a no_agent).steps (get_or w.agents a no_agent).awaited s (ag a lt).chain i e in
      let j : In r.0.sense s.senses = subst (In r.0.sense) (sym r.0.last) (in_end r.0.senses r.0.sense) in
      let ok = (ag a lt).senses s i r.0.sense j in
      let c = by r.0.sense r.0.sense.query refl r.0.is_open ok.issue ok.query in
      record { step = r.0; none = r.1; coming = c.0; letter = c.1 }
    where
      by : (x : KeptSense) (y : Query)
          → x.query ≡ y → x.complete ≡ false → In (message.Ask x.num s.stamp x.query) sim.issued → QueryOk p ls recs
          (Pending p (queries_at w) (mail w.links)) (Wait p (queries_at w) (mail w.links)) (length q.values) s.stamp x y
          → Coming p w s.stamp x y × ((m : Message) × In m ls × (stamp_of m ≡ s.stamp))
      by x (query.One v) ey op issue ok =
          let hits : x.hits ≡ [] = shape x.complete op ok.1 in
          let c = one_coming s.stamp x v ok.0 issue ey hits ok.2 in (
            (hits, c),
            elim c [
              | inl h ↦ (message.Ask x.num s.stamp (query.One v), h, refl)
              | inr h ↦ (message.Give h.0, h.1, give_stamp h.0 x.num s.stamp x.query h.1 h.2 issue)
            ],
          )
        where
          shape : (b : Bool) → b ≡ false → ShapeOk v b x.hits → x.hits ≡ []
          shape true f h = absurd (cc)
          shape false f h = h
      by x (query.Class k u) ey op issue ok =
          let wt = ok.1 op in (
            wt,
            goes_low p w.line sim.tree
                sim.issued sim.core.unique (queries_at w) (mail w.links) sim.queries sure sim.tree.far x.num s.stamp
                x.query (home p x.num.agent) (AtAgent x.num.agent) (sim.tree.homes x.num.agent) (omega arith) issue wt,
          )

  -- who awaits a Wake has acted; else, if all its steps have, its next time is past the horizon
  pub awaiting : (a : ℕ) → a < length w.agents
      → (x : Awaited) → (get_or w.agents a no_agent).awaited ≡ Some x → AllActed (get_or w.agents a no_agent).steps
  awaiting a lt x e = chain_awaits sim.issued p.horizon
      (rule_at p a) a _ _ (get_or w.agents a no_agent).steps (get_or w.agents a no_agent).awaited x e (ag a lt).chain

  pub retired : (a : ℕ)
      → a < length w.agents → (get_or w.agents a no_agent).awaited ≡ None → AllActed (get_or w.agents a no_agent).steps
      → next_after p.horizon (get_or q.agents a no_turn).next (get_or w.agents a no_agent).steps ≡ None
  retired a lt e all = by _ (chain_next sim.issued p.horizon
      (rule_at p a) a _ _ (get_or w.agents a no_agent).steps (get_or w.agents a no_agent).awaited (ag a lt).chain all)
    where
      by : (o : Option ℕ) → Waits a o (get_or w.agents a no_agent).awaited → o ≡ None
      by None h = refl
      by (Some t) h = absurd (let g : None ≡ Some _ = sym e ∙ h.2 in cc)

  -- where a CLP waits for a port, the end comes from there
  pub waiting : (c : ℕ) (r : Registered) (d : ℕ)
      → c < clps_of p → In r (queries_at w c) → In d r.waits → Goes (queries_at w) (mail w.links) r.num d (AtClp c)
  waiting c r d lt i j = sim.queries.waits c r d lt i j

  acted_or : (ss : List KeptStep) → AllActed ss ⊎ ((s : KeptStep) × In s ss × (s.act ≡ None))
  acted_or [] = inl tt
  acted_or (s ∷ ss) = elim (acted_or ss) [
    | inr r ↦ inr (r.0, inr r.1, r.2)
    | inl all ↦ one s.act refl all
  ]
    where
      one : (o : Option KeptAct)
          → s.act ≡ o → AllActed ss → AllActed (s ∷ ss) ⊎ ((z : KeptStep) × In z (s ∷ ss) × (z.act ≡ None))
      one None e all = inr (s, inl refl, e)
      one (Some a) e all = inl ((a, e), all)

  -- where nothing is on its way all agents are retired
  pub all_retired : mail w.links ≡ [] → (a : ℕ) → a < length w.agents
      → ((get_or w.agents a no_agent).awaited ≡ None) × AllActed (get_or w.agents a no_agent).steps
      × (next_after p.horizon (get_or q.agents a no_turn).next (get_or w.agents a no_agent).steps ≡ None)
  all_retired none a lt =
      let e : (get_or w.agents a no_agent).awaited ≡ None = no_wake (get_or w.agents a no_agent).awaited refl in
      let all : AllActed (get_or w.agents a no_agent).steps =
      elim (acted_or (get_or w.agents a no_agent).steps) [
        | inl h ↦ h
        | inr h ↦ absurd (let m = (stuck a lt h.0 h.1 h.2).letter in no_letter m.0 m.1)
      ] in
      (e, all, retired a lt e all)
    where
      no_letter : (m : Message) → In m ls → ⊥
      no_letter m i = (let o = in_map message_of (mail w.links) m i in subst (In o.0) none o.1)

      no_wake : (o : Option Awaited) → (get_or w.agents a no_agent).awaited ≡ o → o ≡ None
      no_wake None e = refl
      no_wake (Some x) e = absurd (no_letter (message.Wake x.num x.stamp) ((ag a lt).wake x e))

pub awaking : (p : Plan) (q : State) (w : World) (recs : ℕ → Parts) (sim : Sim p q w recs) → Awake p w → Awaking p q w
awaking p q w recs sim awake = record {
  awaited = λ a x lt e. (awake.last a x e, awaiting p q w recs sim a lt x e);
  stuck = λ a s lt i e. stuck p q w recs sim a lt s i e;
  waits = λ c r d lt i j. waiting p q w recs sim c r d lt i j;
  retired = λ a lt e all. retired p q w recs sim a lt e all;
}

pub run_awaking : (p : Plan) → PlanFits p → (es : List Event)
    → is_legal_run p (first_world p) es ≡ true → (h : Whole p (after_events p (first_world p) es) (committed p es))
    × Awaking p h.q (after_events p (first_world p) es)
run_awaking p fit es l =
    let h : Whole p (after_events p (first_world p) es) (committed p es) =
    whole_run p (first_world p) [] es (first_whole p fit) l in
    (h, awaking p h.q (after_events p (first_world p) es) h.full.recs h.full.sim (run_awake p fit es l))
