-- An agent's delivery in the lowest run.
use Rattle.std.proofs.Common.{◌≡◌, ℕ, ◌<◌, ◌⊎◌, inl, inr, Bool, true, false, cond, List, [], ◌∷◌, ◌++◌, map, length, get_or, set, nat_le, refl, arith, ap, sym, ◌∙◌, subst, Option, Some, None, get_or-set_other, get_or-set_same, length-set}
use Rattle.std.proofs.lemmas.Bool.{cases_eq, cases_Bool}
use Rattle.pm_alp.specs.Agents.{Sends, at_open, finished, go_on, kept_in, no_agent, no_sends, on_finish, on_give, on_wake, step_of, wake_of, with_hit}
use Rattle.pm_alp.specs.declared.agent.Agent.{Agent}
use Rattle.pm_alp.specs.declared.agent.Awaited.{Awaited}
use Rattle.pm_base.specs.Stamps.{IsBefore, num_eq}
use Rattle.pm_base.specs.declared.rows.GiveRow.{GiveRow}
use Rattle.pm_base.specs.declared.rows.Parts.{Parts}
use Rattle.pm_base.specs.declared.stamp.Num.{Num}
use Rattle.pm_base.specs.declared.stamp.Stamp.{Stamp}
use Rattle.pm_base.specs.declared.value.Window.{Window}
use Rattle.pm_calm.proofs.Finds.{found}
use Rattle.pm_calm.proofs.Phasing.{IsWake, chain_agent, open_alone}
use Rattle.pm_calm.proofs.Records.{value_base}
use Rattle.pm_calm.proofs.Rests.{goes}
use Rattle.pm_calm.specs.Phases.{AgentAt, Calm, ClpAt, Ended, HasSense, InOrder, MailAt, OpenIn, OpenSense, OrderIn, Over, Phase, RecAt, SenseAt, Silent, Tidy, is_over, token}
use Rattle.pm_calm.specs.Phases.Phase.{Idle, Range, Single}
use Rattle.pm_clp.specs.Clps.{rec_at}
use Rattle.pm_message.specs.Messages.{stamp_of}
use Rattle.pm_message.specs.declared.Message.{Message}
use Rattle.pm_model.specs.declared.State.{State}
use Rattle.pm_plan.specs.declared.plan.Plan.{Plan}
use Rattle.pm_queries.specs.Queries.{has_reg}
use Rattle.pm_queries.specs.declared.registered.Registered.{Registered}
use Rattle.pm_periods.specs.Records.{hit_in, record_value}
use Rattle.pm_saved.specs.Senses.{add_kept, answers, kept_turn}
use Rattle.pm_saved.specs.Spots.{Spot, find}
use Rattle.pm_saved.specs.Steps.{regs_after}
use Rattle.pm_saved.specs.declared.kept.KeptSense.{KeptSense}
use Rattle.pm_saved.specs.declared.kept.KeptStep.{KeptStep}
use Rattle.pm_sim.proofs.Letters.{map_in, message_of, taken}
use Rattle.pm_sim.proofs.Lists.{in_cases, in_left, in_right}
use Rattle.pm_sim.proofs.Places.{Sim, clp_at, in_range, queries_at}
use Rattle.pm_sim.proofs.Queries.{has_reg_in, one_reg, toward_away}
use Rattle.pm_sim.proofs.Spots.{FindIs, Found, find_is}
use Rattle.pm_sim.proofs.Stamps.{num_eq_self, nums_same}
use Rattle.pm_sim.proofs.Takings.{LinkOk, Linked}
use Rattle.pm_sim.proofs.Wires.{Took, took}
use Rattle.pm_sim.specs.Bounds.{BoundsOk, between}
use Rattle.pm_sim.specs.Covers.{AskedOk}
use Rattle.pm_sim.specs.Routings.{Begun, FitsAt, IsClp, mail_to, toward}
use Rattle.pm_sim.specs.Sims.{In, MailOk, NotPast, after, class_at, has_read}
use Rattle.pm_sim.specs.Worlds.{Mail, Process, Taken, World, actor_of, addressed, clps_of, home, mail, post_all, process, rule_at, take_from}
use Rattle.pm_sim.specs.Worlds.Process.{AtAgent, AtClp}
use Rattle.pm_message.specs.declared.Message.TheVariants as message
use Rattle.pm_base.specs.declared.value.Query.TheVariants as query
use Rattle.pm_base.specs.declared.stamp.Line.TheVariants as line

abbrev pub over_of : Num → ℕ → Window → Over
over_of n i u = record { num = n; class = i; window = u }

no_elements : {X : Type 0} (xs : List X) → ((x : X) → In x xs → ⊥) → xs ≡ []
no_elements [] h = refl
no_elements (x ∷ xs) h = absurd (h x (inl refl))

module _ (p : Plan) (q : State) (w : World) (recs : ℕ → Parts) (sim : Sim p q w recs) (linked : Linked p w) (s : Stamp)
    (os : List Over) (ph : Phase) (calm : Calm p w s os ph)
    (a : ℕ) (la : a < length w.agents) (from : Process) (t : Taken) (e : take_from (AtAgent a) from w.links ≡ Some t)
    (at : stamp_of t.message ≡ s) where
  abbrev ag : Agent
  ag = get_or w.agents a no_agent

  abbrev pub next : Sends → World
  next r = record w {
    agents = set w.agents a r.agent;
    links =
        post_all (AtAgent a) (map (addressed a (home p a)) r.sent) t.links;
  }

  -- what is to be shown of what the agent does
  abbrev pub Goal : Sends → Type 0
  Goal r = (os' : List Over) × (ph' : Phase) × Calm p (next r) s os' ph' × OrderIn ph' p (next r)

  tk : Took (AtAgent a) from w.links t
  tk = took (AtAgent a) from w.links t e

  mail_in : In (mail_to (AtAgent a) from t.message) (mail w.links)
  mail_in = (taken (AtAgent a) from w.links t e).into _ (inl refl)

  letter : MailAt p s (is_over os) ph (AtAgent a) from t.message
  letter = calm.letters _ mail_in

  fit : FitsAt (clps_of p) (length q.values) (AtAgent a) from t.message
  fit = sim.fits _ mail_in

  ok : MailOk p sim.issued t.message × NotPast w.line (stamp_of t.message)
  ok = sim.core.mail t.message (map_in message_of (mail w.links) _ mail_in)

  -- only one agent has steps
  agent_of_step : (i : ℕ) → i < length w.agents → (z : KeptStep) → In z (get_or w.agents i no_agent).steps → s.agent ≡ i
  agent_of_step i li z j = ap (λ (y : Stamp). y.agent) (sym ((calm.agents i li).steps z j))
      ∙ chain_agent sim.issued p.horizon (rule_at p i) i _ _ (get_or w.agents i no_agent).steps
      (get_or w.agents i no_agent).awaited (sim.core.agent i li).chain z j

  only : a ≡ s.agent → (i : ℕ) → i < length w.agents → (i ≡ a → ⊥) → (get_or w.agents i no_agent).steps ≡ []
  only ea i li ne = no_elements (get_or w.agents i no_agent).steps (λ z j. ne (sym (agent_of_step i li z j) ∙ sym ea))

  -- an incomplete sense: no Wake is awaited
  none_awaited : (z : KeptStep) (x : KeptSense) → In z ag.steps → In x z.senses → x.complete ≡ false → ag.awaited ≡ None
  none_awaited z x i j f = open_alone sim.issued p.horizon (rule_at p a) a _ _ ag.steps ag.awaited
      (sim.core.agent a la).chain z x i j f

  -- ---- a Wake
  pub wake_calm : (k : Num) (z : Stamp) → t.message ≡ message.Wake k z
      → ((x : Mail) → In x (mail t.links) → IsWake x.message) → Goal (on_wake (actor_of p a) ag k ag.awaited)
  wake_calm k z em quiet = go ag.awaited refl
    where
      self : from ≡ AtAgent a
      self = (let f : MailAt p s (is_over os) ph (AtAgent a) from (message.Wake k z) =
          subst (MailAt p s (is_over os) ph (AtAgent a) from) em letter in f)

      ea : a ≡ s.agent
      ea =
          let i : In (message.Wake k z) sim.issued =
          (let o : MailOk p sim.issued (message.Wake k z) = subst (MailOk p sim.issued) em ok.0 in o) in
          let f : k.agent ≡ a = (let o : FitsAt (clps_of p) (length q.values) (AtAgent a) from (message.Wake k z) =
          subst (FitsAt (clps_of p) (length q.values) (AtAgent a) from) em fit in o) in
          sym f ∙ (sim.core.own (message.Wake k z) i ∙ ap (λ (y : Stamp). y.agent) (ap stamp_of (sym em) ∙ at))

      own : between (AtAgent a) (AtAgent a) w.links ≡ wake_of ag.awaited
      own = calm.own a la

      head : between (AtAgent a) (AtAgent a) w.links ≡ t.message ∷ between (AtAgent a) (AtAgent a) t.links
      head = subst (λ y. between (AtAgent a) y w.links ≡ t.message ∷ between (AtAgent a) y t.links) self tk.head

      go : (o : Option Awaited) → ag.awaited ≡ o → Goal (on_wake (actor_of p a) ag k o)
      go None f = absurd (let g : [] ≡ t.message ∷ between (AtAgent a) (AtAgent a) t.links = ap wake_of (sym f)
          ∙ (sym own ∙ head) in cc)
      go (Some aw) f =
          let g : message.Wake aw.num aw.stamp ∷ [] ≡ t.message ∷ between (AtAgent a) (AtAgent a) t.links =
          ap wake_of (sym f) ∙ (sym own ∙ head) in
          let hd : message.Wake aw.num aw.stamp ≡ message.Wake k z = heads _ _ _ _ g ∙ em in
          let empty : between (AtAgent a) (AtAgent a) t.links ≡ [] = sym (tails _ _ _ _ g) in
          let ek : num_eq k aw.num ≡ true = subst (λ y. num_eq k y ≡ true) (sym (num_is aw.num k aw.stamp z hd))
          (num_eq_self k) in
          let es : aw.stamp ≡ s = ap stamp_of hd ∙ (ap stamp_of (sym em) ∙ at) in
          let no_open : (y : KeptStep) (x : KeptSense) → In y ag.steps → In x y.senses → x.complete ≡ false
          → ⊥ = λ y x i j n. (let b : Some aw ≡ None = sym f ∙ none_awaited y x i j n in cc) in
          let o = goes p q w recs sim s os ph calm a la from t e quiet os (closed ph refl no_open) ag.steps (λ y i. i)
          (λ y x i j. complete_of no_open y x i j) [] (λ x i. absurd i) empty (only ea) ag.base
          (step_of (rule_at p a) s (regs_after ag.base ag.steps) (answers [])) in
          let r = subst (λ r. Calm p (next r) s os o.0 × OrderIn o.0 p (next r))
          (sym (ap (λ b. cond b (go_on (actor_of p a) ag.base ag.steps aw.stamp [] ag.seq) (no_sends ag)) ek
          ∙ ap (λ y. go_on (actor_of p a) ag.base ag.steps y [] ag.seq) es)) (o.1, o.2) in
          (os, o.0, r.0, r.1)
        where
          heads : (x y : Message) (xs ys : List Message) → x ∷ xs ≡ y ∷ ys → x ≡ y
          heads x y xs ys h = cc

          tails : (x y : Message) (xs ys : List Message) → x ∷ xs ≡ y ∷ ys → xs ≡ ys
          tails x y xs ys h = cc

          num_is : (m n : Num) (y v : Stamp) → message.Wake m y ≡ message.Wake n v → m ≡ n
          num_is m n y v h = cc

          complete_of : ((y : KeptStep) (x : KeptSense) → In y ag.steps → In x y.senses → x.complete ≡ false → ⊥)
              → (y : KeptStep) (x : KeptSense) → In y ag.steps → In x y.senses → x.complete ≡ true
          complete_of nop y x i j = elim (cases_Bool x.complete) [ inl b ↦ b | inr b ↦ absurd (nop y x i j b) ]

          -- no query is open
          shut : (n : Num) → HasSense w n → ((x : KeptSense) → SenseAt ph x → x.num ≡ n → x.complete ≡ false)
              → ((y : KeptStep) (x : KeptSense) → In y ag.steps → In x y.senses → x.complete ≡ false → ⊥) → ⊥
          shut n h op nop =
              let ln = h.0 in
              let ei : n.agent ≡ a = sym (agent_of_step n.agent ln h.1 h.3) ∙ sym ea in
              nop h.1 h.2 (subst (λ y. In h.1 (get_or w.agents y no_agent).steps) ei h.3) h.4
              (op h.2 ((calm.agents n.agent ln).senses h.1 h.2 h.3 h.4) h.5)

          closed : (y : Phase) → ph ≡ y → ((y : KeptStep) (x : KeptSense) → In y ag.steps → In x y.senses
              → x.complete ≡ false → ⊥) → (c : ℕ) → c < clps_of p → ClpAt p s (is_over os) Idle (clp_at w c)
          closed Idle ep nop c lc = subst (λ y. ClpAt p s (is_over os) y (clp_at w c)) ep (calm.clps c lc)
          closed (Single n v) ep nop c lc = absurd
              (shut n (subst (λ y. OpenIn y w) ep calm.opens) (λ x h en. open_of x (subst (λ y. SenseAt y x) ep h) en)
              nop)
            where
              open_of : (x : KeptSense) → SenseAt (Single n v) x → x.num ≡ n → x.complete ≡ false
              open_of x (inl h) en = absurd (h.1 en)
              open_of x (inr h) en = h.1
          closed (Range n i u) ep nop c lc = absurd
              (shut n (subst (λ y. OpenIn y w) ep calm.opens) (λ x h en. open_of x (subst (λ y. SenseAt y x) ep h) en)
              nop)
            where
              open_of : (x : KeptSense) → SenseAt (Range n i u) x → x.num ≡ n → x.complete ≡ false
              open_of x (inl h) en = absurd (h.1 en)
              open_of x (inr h) en = h.1

  -- ---- the open sense

  abbrev pub OpenNum : Phase → Num → Type 0
  OpenNum Idle k = ⊥
  OpenNum (Single n v) k = k ≡ n
  OpenNum (Range n i u) k = k ≡ n

  open_is : (y : Phase) (x : KeptSense) (k : Num) → OpenNum y k → SenseAt y x → x.num ≡ k → OpenSense y x
  open_is Idle x k o h f = absurd o
  open_is (Single n v) x k o (inl h) f = absurd (h.1 (f ∙ o))
  open_is (Single n v) x k o (inr h) f = h
  open_is (Range n i u) x k o (inl h) f = absurd (h.1 (f ∙ o))
  open_is (Range n i u) x k o (inr h) f = h

  done_is : (y : Phase) (x : KeptSense) (k : Num) → OpenNum y k → SenseAt y x → (x.num ≡ k → ⊥) → x.complete ≡ true
  done_is y x k o (inl h) f = h.0
  done_is Idle x k o (inr h) f = absurd h
  done_is (Single n v) x k o (inr h) f = absurd (f (h.0 ∙ sym o))
  done_is (Range n i u) x k o (inr h) f = absurd (f (h.0 ∙ sym o))

  has_it : (y : Phase) (k : Num) → OpenNum y k → OpenIn y w → HasSense w k
  has_it Idle k o h = absurd o
  has_it (Single n v) k o h = subst (HasSense w) (sym o) h
  has_it (Range n i u) k o h = subst (HasSense w) (sym o) h

  -- what a number of the open query finds
  record Opened (k : Num) (x : Spot) : Type 0 where
    pub found : find k ag.steps ≡ Some x
    pub spot : Found k ag.steps x
    pub here : In x.here ag.steps
    pub sense : In x.sense x.here.senses
    pub open' : OpenSense ph x.sense

  opened : (k : Num) → OpenNum ph k → k.agent ≡ a → (x : Spot) × Opened k x
  opened k o ea = go (find k ag.steps) refl (find_is k ag.steps)
    where
      has : HasSense w k
      has = has_it ph k o calm.opens

      go : (y : Option Spot) → find k ag.steps ≡ y → FindIs k ag.steps y → (x : Spot) × Opened k x
      go None f h = absurd (let z : In has.1 ag.steps =
          subst (λ i. In has.1 (get_or w.agents i no_agent).steps) ea has.3 in
          let b = h has.1 z has.2 has.4 in let c : num_eq k has.2.num ≡ true = ap (num_eq k) has.5
          ∙ num_eq_self k in cc)
      go (Some x) f h =
          let ih : In x.here ag.steps = subst (In x.here) (sym h.steps)
          (in_right x.front (x.here ∷ x.rest) x.here (inl refl)) in
          let is : In x.sense x.here.senses = subst (In x.sense) (sym h.senses)
          (in_right x.before (x.sense ∷ x.later) x.sense (inl refl)) in (
            x,
            record {
              found = f;
              spot = h;
              here = ih;
              sense = is;
              open' =
                  open_is ph x.sense k o ((calm.agents a la).senses x.here x.sense ih is)
                  (sym (nums_same k x.sense.num h.num));
            },
          )

  module _ (k : Num) (o : OpenNum ph k) (ea : k.agent ≡ a) (x : Spot) (op : Opened k x) where
    front_in : (z : KeptStep) → In z x.front → In z ag.steps
    front_in z j = subst (In z) (sym op.spot.steps) (in_left x.front (x.here ∷ x.rest) z j)

    front_done : (z : KeptStep) (y : KeptSense) → In z x.front → In y z.senses → y.complete ≡ true
    front_done z y j h = done_is ph y k o ((calm.agents a la).senses z y (front_in z j) h)
        (λ f. let b = op.spot.front z j y h in let c : num_eq k y.num ≡ true = ap (num_eq k) f ∙ num_eq_self k in cc)

    here_at : x.here.stamp ≡ s
    here_at = (calm.agents a la).steps x.here op.here

    issue_of : (y : KeptSense) → In y x.here.senses → (z : Stamp) × In (message.Ask y.num z y.query) sim.issued
    issue_of y j = (x.here.stamp, ((sim.core.agent a la).senses x.here op.here y j).issue)

    before_done : (y : KeptSense) → In y x.before → (y.complete ≡ true)
        × ((z : Stamp) × In (message.Ask y.num z y.query) sim.issued)
    before_done y j =
        let i : In y x.here.senses = subst (In y) (sym op.spot.senses) (in_left x.before (x.sense ∷ x.later) y j) in (
          done_is ph y k o ((calm.agents a la).senses x.here y op.here i)
              (λ f. let b = op.spot.before y j in let c : num_eq k y.num ≡ true = ap (num_eq k) f ∙ num_eq_self k in cc),
          issue_of y i,
        )

    -- the open sense completes, and the agent goes on
    goes_on : (os' : List Over) → ((c : ℕ) → c < clps_of p → ClpAt p s (is_over os') Idle (clp_at w c))
        → ((y : Mail) → In y (mail t.links) → IsWake y.message) → between (AtAgent a) (AtAgent a) t.links ≡ []
        → a ≡ s.agent
        → (x' : KeptSense) → x'.num ≡ x.sense.num → x'.query ≡ x.sense.query → x'.complete ≡ true
        → Goal (go_on (actor_of p a) ag.base x.front x.here.stamp (x.before ++ x' ∷ []) ag.seq)
    goes_on os' closed quiet empty es x' en eq ec =
        let dn : (y : KeptSense) → In y (x.before ++ x' ∷ []) → (y.complete ≡ true)
        × ((z : Stamp) × In (message.Ask y.num z y.query) sim.issued) = λ y j.
        elim (in_cases x.before (x' ∷ []) y j) [
          | inl h ↦ before_done y h
          | inr h ↦ elim h [
            | inr b ↦ absurd b
            | inl f ↦ subst (λ (v : KeptSense). (v.complete ≡ true)
                × ((z : Stamp) × In (message.Ask v.num z v.query) sim.issued)) (sym f) (ec, (x.here.stamp, old en eq))
          ]
        ] in
        let o' = goes p q w recs sim s os ph calm a la from t e quiet os' closed x.front front_in front_done (x.before
        ++ x' ∷ []) dn empty (only es) ag.base
        (step_of (rule_at p a) s (regs_after ag.base x.front) (answers (x.before ++ x' ∷ []))) in
        let r = subst (λ r. Calm p (next r) s os' o'.0 × OrderIn o'.0 p (next r))
        (ap (λ y. go_on (actor_of p a) ag.base x.front y (x.before ++ x' ∷ []) ag.seq) (sym here_at)) (o'.1, o'.2)
        in
        (os', o'.0, r.0, r.1)
      where
        old : x'.num ≡ x.sense.num → x'.query ≡ x.sense.query → In (message.Ask x'.num x.here.stamp x'.query) sim.issued
        old en eq = subst (λ m. In (message.Ask m x.here.stamp x'.query) sim.issued) (sym en)
            (subst (λ y. In (message.Ask x.sense.num x.here.stamp y) sim.issued) (sym eq)
            ((sim.core.agent a la).senses x.here op.here x.sense op.sense).issue)

  -- ---- nothing is sent

  clp_link : IsClp from → (AtAgent a ≡ AtAgent a) × (AtAgent a ≡ from) → ⊥
  clp_link h g = subst IsClp (sym g.1) h

  -- links to CLPs are as they were
  same_clp : (d : ℕ) (f : Process) → between (AtClp d) f t.links ≡ between (AtClp d) f w.links
  same_clp d f = tk.others (AtClp d) f (λ g. let y = g.0 in cc)

  less_in : (to : Process) (d : ℕ) (m : Message) → In m (between to (AtClp d) t.links)
      → In m (between to (AtClp d) w.links)
  less_in (AtClp c) d m j = subst (In m) (same_clp c (AtClp d)) j
  less_in (AtAgent b) d m j = elim (cases_eq b a) [
    | inr ne ↦ subst (In m) (tk.others (AtAgent b) (AtClp d) (λ g. ne (agents_apart b a g.0))) j
    | inl f ↦ subst (λ y. In m (between (AtAgent y) (AtClp d) w.links)) (sym f)
        (at_a (subst (λ y. In m (between (AtAgent y) (AtClp d) t.links)) f j))
  ]
    where
      agents_apart : (x y : ℕ) → AtAgent x ≡ AtAgent y → x ≡ y
      agents_apart x y g = cc

      at_a : In m (between (AtAgent a) (AtClp d) t.links) → In m (between (AtAgent a) (AtClp d) w.links)
      at_a h = by from refl
        where
          by : (f : Process) → from ≡ f → In m (between (AtAgent a) (AtClp d) w.links)
          by (AtAgent b') g = subst (In m) (tk.others (AtAgent a) (AtClp d) (λ y. let z = y.1 ∙ g in cc)) h
          by (AtClp d') g = elim (cases_eq d d') [
            | inl f' ↦ subst (λ y. In m (between (AtAgent a) y w.links)) (g ∙ ap AtClp (sym f'))
                (subst (In m) (sym tk.head) (inr (subst (λ y. In m (between (AtAgent a) y t.links))
                (sym (g ∙ ap AtClp (sym f'))) h)))
            | inr ne ↦ subst (In m) (tk.others (AtAgent a) (AtClp d) (λ y. ne (let z = y.1 ∙ g in cc))) h
          ]

  tidy_less : (to : Process) (d : ℕ) → Tidy (between to (AtClp d) w.links) → Tidy (between to (AtClp d) t.links)
  tidy_less (AtClp c) d h = subst Tidy (sym (same_clp c (AtClp d))) h
  tidy_less (AtAgent b) d h = elim (cases_eq b a) [
    | inr ne ↦ subst Tidy (sym (tk.others (AtAgent b) (AtClp d) (λ g. ne (agents_apart b a g.0)))) h
    | inl f ↦ subst (λ y. Tidy (between (AtAgent y) (AtClp d) t.links)) (sym f)
        (at_a (subst (λ y. Tidy (between (AtAgent y) (AtClp d) w.links)) f h))
  ]
    where
      agents_apart : (x y : ℕ) → AtAgent x ≡ AtAgent y → x ≡ y
      agents_apart x y g = cc

      at_a : Tidy (between (AtAgent a) (AtClp d) w.links) → Tidy (between (AtAgent a) (AtClp d) t.links)
      at_a k = by from refl
        where
          by : (f : Process) → from ≡ f → Tidy (between (AtAgent a) (AtClp d) t.links)
          by (AtAgent b') g = subst Tidy (sym (tk.others (AtAgent a) (AtClp d) (λ y. let z = y.1 ∙ g in cc))) k
          by (AtClp d') g = elim (cases_eq d d') [
            | inl f' ↦ (let eq : from ≡ AtClp d = g
                ∙ ap AtClp (sym f') in subst (λ y. Tidy (between (AtAgent a) y t.links)) eq
                (subst Tidy tk.head (subst (λ y. Tidy (between (AtAgent a) y w.links)) (sym eq) k)).1)
            | inr ne ↦ subst Tidy (sym (tk.others (AtAgent a) (AtClp d) (λ y. ne (let z = y.1 ∙ g in cc)))) k
          ]

  less_order : (y : Phase) (b : Agent) → OrderIn y p w → OrderIn y p (next (no_sends b))
  less_order Idle b h = tt
  less_order (Single n v) b h = tt
  less_order (Range n i u) b h = record {
    tidy = λ to d. tidy_less to d (h.tidy to d);
    gives = λ d c g j. h.gives d c g (subst (In (message.Give g)) (same_clp d (AtClp c)) j);
    ends = λ to d k z j. h.ends to d k z (less_in to d (message.Finish k z) j);
    up = h.up;
    asks = λ d c k z y j. h.asks d c k z y (subst (In (message.Ask k z y)) (same_clp d (AtClp c)) j);
  }

  -- the letter goes, and the agent keeps its phase
  keeps : OrderIn ph p w → (b : Agent) → AgentAt s ph b → b.awaited ≡ ag.awaited → OpenIn ph (next (no_sends b))
      → IsClp from → Goal (no_sends b)
  keeps order b ok' eb opens clp = (
    os,
    ph,
    record {
      line = calm.line;
      clps = calm.clps;
      letters = λ x j. calm.letters x ((taken (AtAgent a) from w.links t e).into x (inr j));
      tokens = (let c = (taken (AtAgent a) from w.links t e).count (λ (x : Mail). token ph x.message) in let o =
          calm.tokens in omega arith);
      agents = λ i li. elim (cases_eq i a) [
        | inl f ↦ subst (λ z. AgentAt s ph (get_or (set w.agents a b) z no_agent)) (sym f)
            (subst (AgentAt s ph) (sym (get_or-set_same w.agents a b no_agent la)) ok')
        | inr ne ↦ subst (AgentAt s ph) (sym (get_or-set_other w.agents a i b no_agent ne))
            (calm.agents i (let l = length-set w.agents a b in omega arith))
      ];
      opens = opens;
      own = λ i li. tk.others (AtAgent i) (AtAgent i) (λ g. subst IsClp (sym g.1) clp)
          ∙ (calm.own i (let l = length-set w.agents a b in omega arith) ∙ elim (cases_eq i a) [
            | inr ne ↦ ap (λ (z : Agent). wake_of z.awaited) (sym (get_or-set_other w.agents a i b no_agent ne))
            | inl f ↦ subst (λ z. wake_of (get_or w.agents z no_agent).awaited ≡ wake_of
                (get_or (set w.agents a b) z no_agent).awaited) (sym f) (ap wake_of (sym eb)
                ∙ ap (λ (z : Agent). wake_of z.awaited) (sym (get_or-set_same w.agents a b no_agent la)))
          ]);
    },
    less_order ph b order,
  )

  open_moves : (y : Phase) (b : Agent) → OpenIn y w
      → ((m : Num) → OpenNum y m → m.agent ≡ a → HasSense (next (no_sends b)) m) → OpenIn y (next (no_sends b))
  open_moves Idle b h up = tt
  open_moves (Single n v) b h up = moved n refl h
    where
      moved : (m : Num) → m ≡ n → HasSense w m → HasSense (next (no_sends b)) m
      moved m em k = elim (cases_eq m.agent a) [
        | inl f ↦ up m em f
        | inr ne ↦ (
          (let l = length-set w.agents a b in let o = k.0 in omega arith),
          k.1,
          k.2,
          subst (λ (z : Agent). In k.1 z.steps) (sym (get_or-set_other w.agents a m.agent b no_agent ne)) k.3,
          k.4,
          k.5,
        )
      ]
  open_moves (Range n i u) b h up = moved n refl h
    where
      moved : (m : Num) → m ≡ n → HasSense w m → HasSense (next (no_sends b)) m
      moved m em k = elim (cases_eq m.agent a) [
        | inl f ↦ up m em f
        | inr ne ↦ (
          (let l = length-set w.agents a b in let o = k.0 in omega arith),
          k.1,
          k.2,
          subst (λ (z : Agent). In k.1 z.steps) (sym (get_or-set_other w.agents a m.agent b no_agent ne)) k.3,
          k.4,
          k.5,
        )
      ]

  -- ---- a Give
  empty_own : (z : KeptStep) (x : KeptSense) → In z ag.steps → In x z.senses → x.complete ≡ false → IsClp from
      → between (AtAgent a) (AtAgent a) t.links ≡ []
  empty_own z x i j f clp = tk.others (AtAgent a) (AtAgent a) (clp_link clp)
      ∙ (calm.own a la ∙ ap wake_of (none_awaited z x i j f))

  open_complete : (y : Phase) (x : KeptSense) → OpenSense y x → x.complete ≡ false
  open_complete Idle x h = absurd h
  open_complete (Single n v) x h = h.1
  open_complete (Range n i u) x h = h.1

  give_open : (y : Phase) (g : GiveRow) → MailAt p s (is_over os) y (AtAgent a) from (message.Give g) → OpenNum y g.num
  give_open Idle g h = h.1
  give_open (Single n v) g h = h.1
  give_open (Range n i u) g h = h.1

  -- it names an incomplete sense
  pub give_found : (g : GiveRow) → t.message ≡ message.Give g → (x : Spot) × (find g.num ag.steps ≡ Some x)
      × (x.sense.complete ≡ false)
  give_found g em =
      let o : OpenNum ph g.num = give_open ph g (subst (MailAt p s (is_over os) ph (AtAgent a) from) em letter) in
      let ea : g.num.agent ≡ a = (let f : FitsAt (clps_of p) (length q.values) (AtAgent a) from (message.Give g) =
      subst (FitsAt (clps_of p) (length q.values) (AtAgent a) from) em fit in f) in
      let r = opened g.num o ea in (r.0, r.1.found, open_complete ph r.0.sense r.1.open')

  single_idle : (n : Num) (v c : ℕ) → ClpAt p s (is_over os) (Single n v) (clp_at w c)
      → ClpAt p s (is_over os) Idle (clp_at w c)
  single_idle n v c h = record { records = h.records; stamps = h.stamps; regs = h.regs; line = h.line }

  module _ (order : OrderIn ph p w) where
    -- what it does where the letter is new to it
    give_with : (g : GiveRow) → IsClp from → a ≡ s.agent
        → (o : OpenNum ph g.num) (ea : g.num.agent ≡ a) (x : Spot) (op : Opened g.num x)
        → ((n : Num) (v : ℕ) → ph ≡ Single n v → (y : Mail) → In y (mail t.links) → IsWake y.message)
        → (x' : KeptSense) → x'.num ≡ x.sense.num → x'.query ≡ x.sense.query → x'.complete ≡ x.sense.complete
        → Goal (at_open (actor_of p a) ag x x.sense.query x')
    give_with g clp es o ea x op quiet x' en eq ec = by ph refl
      where
        by : (y : Phase) → ph ≡ y → Goal (at_open (actor_of p a) ag x x.sense.query x')
        by Idle ep = absurd (subst (λ y. OpenNum y g.num) ep o)
        by (Single n v) ep =
            let os' = subst (λ y. OpenSense y x.sense) ep op.open' in
            subst (λ y. Goal (at_open (actor_of p a) ag x y x')) (sym os'.2)
            (goes_on g.num o ea x op os (λ c lc. single_idle n v c
            (subst (λ y. ClpAt p s (is_over os) y (clp_at w c)) ep (calm.clps c lc))) (quiet n v ep)
            (empty_own x.here x.sense op.here op.sense os'.1 clp) es (record x' { complete = true }) en eq refl)
        by (Range n i u) ep =
            let os' = subst (λ y. OpenSense y x.sense) ep op.open' in
            let b : Agent = kept_in ag x x' in
            let nn : (z : KeptStep) → In z b.steps → In z ag.steps
            ⊎ (z ≡ record x.here { senses = x.before ++ x' ∷ x.later }) = λ z j.
            elim (in_cases x.front (record x.here { senses = x.before ++ x' ∷ x.later } ∷ x.rest) z j) [
              | inl h ↦ inl (subst (In z) (sym op.spot.steps) (in_left x.front (x.here ∷ x.rest) z h))
              | inr h ↦ elim h [
                | inl f ↦ inr f
                | inr k ↦ inl
                    (subst (In z) (sym op.spot.steps) (in_right x.front (x.here ∷ x.rest) z (inr k)))
              ]
            ] in
            let open_x : OpenSense ph x' = subst (λ y. OpenSense y x') (sym ep) (en ∙ os'.0, ec ∙ os'.1, eq ∙ os'.2) in
            subst (λ y. Goal (at_open (actor_of p a) ag x y x')) (sym os'.2)
            (keeps order b (record {
              steps = λ z j. elim (nn z j) [
                | inl h ↦ (calm.agents a la).steps z h
                | inr f ↦ ap
                    (λ (y : KeptStep). y.stamp) f ∙ (calm.agents a la).steps x.here op.here
              ];
              senses = λ z y j k. elim (nn z j) [
                | inl h ↦ (calm.agents a la).senses z y h k
                | inr f ↦ elim (in_cases x.before (x' ∷ x.later) y (subst (λ (v : KeptStep). In y v.senses) f k)) [
                  | inl h ↦ (calm.agents a la).senses x.here y op.here
                      (subst (In y) (sym op.spot.senses) (in_left x.before (x.sense ∷ x.later) y h))
                  | inr h ↦ elim h [
                    | inl f' ↦ inr (subst (OpenSense ph) (sym f') open_x)
                    | inr k' ↦
                        (calm.agents a la).senses x.here y op.here
                        (subst (In y) (sym op.spot.senses) (in_right x.before (x.sense ∷ x.later) y (inr k')))
                  ]
                ]
              ];
            }) refl (open_moves ph b calm.opens (λ m om em. (
              (let l = length-set w.agents a b in let lm = la in omega (arith, em, l, lm)),
              record x.here { senses = x.before ++ x' ∷ x.later },
              x',
              subst (λ (y : Agent). In (record x.here { senses = x.before ++ x' ∷ x.later }) y.steps)
                  (sym (ap (λ i'. get_or (set w.agents a b) i' no_agent) em ∙ get_or-set_same w.agents a b no_agent la))
                  (in_right x.front (record x.here { senses = x.before ++ x' ∷ x.later } ∷ x.rest) _ (inl refl)),
              in_right x.before (x' ∷ x.later) x' (inl refl),
              en ∙ (os'.0 ∙ sym (subst (λ y. OpenNum y m) ep om)),
            ))) clp)

    pub give_calm : (g : GiveRow) → t.message ≡ message.Give g
        → ((n : Num) (v : ℕ) → ph ≡ Single n v → (y : Mail) → In y (mail t.links) → IsWake y.message)
        → Goal (on_give (actor_of p a) ag g (find g.num ag.steps))
    give_calm g em quiet =
        let lt : MailAt p s (is_over os) ph (AtAgent a) from (message.Give g) =
        subst (MailAt p s (is_over os) ph (AtAgent a) from) em letter in
        let o : OpenNum ph g.num = give_open ph g lt in
        let ea : g.num.agent ≡ a = (let f : FitsAt (clps_of p) (length q.values) (AtAgent a) from (message.Give g) =
        subst (FitsAt (clps_of p) (length q.values) (AtAgent a) from) em fit in f) in
        let i : MailOk p sim.issued (message.Give g) = subst (MailOk p sim.issued) em ok.0 in
        let es : a ≡ s.agent = sym ea ∙ (sim.core.own _ i.1 ∙ ap (λ (y : Stamp). y.agent) (ap stamp_of (sym em) ∙ at))
        in
        let r = opened g.num o ea in
        subst (λ y. Goal (on_give (actor_of p a) ag g y)) (sym r.1.found)
        (by g lt.2 es o ea r.0 r.1 quiet (nat_le g.turn (kept_turn g.var r.0.sense.hits)))
      where
        by : (g : GiveRow) → IsClp from → a ≡ s.agent
            → (o : OpenNum ph g.num) (ea : g.num.agent ≡ a) (x : Spot) (op : Opened g.num x)
            → ((n : Num) (v : ℕ) → ph ≡ Single n v → (y : Mail) → In y (mail t.links) → IsWake y.message) → (b : Bool)
            → Goal (cond b (no_sends ag) (with_hit (actor_of p a) ag x
            (record x.sense { hits = add_kept (record { var = g.var; turn = g.turn; hit = g.hit }) x.sense.hits })))
        by g clp es o ea x op quiet true = keeps order ag (calm.agents a la) refl
            (open_moves ph ag calm.opens (λ m om em.
            (let h = has_it ph m om calm.opens in (
              (let l = length-set w.agents a ag in let lm = h.0 in omega arith),
              h.1,
              h.2,
              subst (λ (y : Agent). In h.1 y.steps)
                  (sym (ap (λ i'. get_or (set w.agents a ag) i' no_agent) em ∙ get_or-set_same w.agents a ag no_agent la))
                  (subst (λ i'. In h.1 (get_or w.agents i' no_agent).steps) em h.3),
              h.4,
              h.5,
            )))) clp
        by g clp es o ea x op quiet false =
            let x' : KeptSense = record x.sense {
              hits =
                  add_kept (record { var = g.var; turn = g.turn; hit = g.hit }) x.sense.hits;
            } in
            subst Goal (sym (not_done x x' (open_complete ph x.sense op.open')))
            (give_with g clp es o ea x op quiet x' refl refl refl)
          where
            not_done : (x : Spot) (x' : KeptSense) → x.sense.complete ≡ false
                → with_hit (actor_of p a) ag x x' ≡ at_open (actor_of p a) ag x x.sense.query x'
            not_done x x' f = rw f refl

  -- ---- a Finish
  module _ (asked : AskedOk p (length q.values) recs (clp_at w) (mail w.links))
      (bounds : BoundsOk p w.line recs (clp_at w) w.links) (shut : (x : Mail) → In x (mail w.links) → (c : ℕ)
      → x.to ≡ AtClp c → ⊥) where
    pub finish_calm : (k : Num) (z : Stamp) → t.message ≡ message.Finish k z → OrderIn ph p w
        → ((y : Mail) → In y (mail t.links) → IsWake y.message) → Goal (on_finish (actor_of p a) ag (find k ag.steps))
    finish_calm k z em order quiet = by ph refl
      where
        lt : MailAt p s (is_over os) ph (AtAgent a) from (message.Finish k z)
        lt = subst (MailAt p s (is_over os) ph (AtAgent a) from) em letter

        ea : k.agent ≡ a
        ea = (let f : FitsAt (clps_of p) (length q.values) (AtAgent a) from (message.Finish k z) =
            subst (FitsAt (clps_of p) (length q.values) (AtAgent a) from) em fit in f)

        issue : MailOk p sim.issued (message.Finish k z)
        issue = subst (MailOk p sim.issued) em ok.0

        es : a ≡ s.agent
        es = sym ea ∙ (sim.core.own _ issue.2 ∙ ap (λ (y : Stamp). y.agent) (ap stamp_of (sym em) ∙ at))

        by : (y : Phase) → ph ≡ y → Goal (on_finish (actor_of p a) ag (find k ag.steps))
        by Idle ep = absurd (subst (λ y. MailAt p s (is_over os) y (AtAgent a) from (message.Finish k z)) ep lt).1
        by (Single n v) ep = absurd (subst (λ y. MailAt p s (is_over os) y (AtAgent a) from (message.Finish k z))
            ep lt).1
        by (Range n i u) ep =
            let ek : k ≡ n = (subst (λ y. MailAt p s (is_over os) y (AtAgent a) from (message.Finish k z)) ep lt).1 in
            let o : OpenNum ph k = subst (λ y. OpenNum y k) (sym ep) ek in
            let r = opened k o ea in
            let x : Spot = r.0 in
            let op = r.1 in
            let os' = subst (λ y. OpenSense y x.sense) ep op.open' in
            let clp : IsClp from = of_clp from refl in
            let ord : InOrder p n (queries_at w) w.links = subst (λ y. OrderIn y p w) ep order in
            let new : Over = over_of n i u in
            subst (λ y. Goal (on_finish (actor_of p a) ag y)) (sym op.found)
            (subst (λ b. Goal (finished b (actor_of p a) ag x x.sense.query)) (sym os'.1)
            (subst (λ y. Goal (finished false (actor_of p a) ag x y)) (sym os'.2)
            (goes_on k o ea x op (new ∷ os) (λ c lc. closing n i u ek ep x op os'.0 os'.2 ord clp c lc) quiet
            (empty_own x.here x.sense op.here op.sense os'.1 clp) es (record x.sense { complete = true })
            refl refl refl)))
          where
            -- a Finish comes from a CLP, since an agent's own link has Wakes alone
            of_clp : (f : Process) → from ≡ f → IsClp f
            of_clp (AtClp c) ef = tt
            of_clp (AtAgent b) ef = absurd (
                let l : a ≡ b = subst (LinkOk p (AtAgent a)) ef (linked.mail _ mail_in).0 in
                let eb : from ≡ AtAgent a = ef ∙ ap AtAgent (sym l) in
                let h : wake_of ag.awaited ≡ message.Finish k z ∷ between (AtAgent a) from t.links = sym (calm.own a la)
                ∙ (subst (λ y. between (AtAgent a) y w.links ≡ t.message ∷ between (AtAgent a) from t.links)
                eb tk.head ∙ ap (λ m. m ∷ between (AtAgent a) from t.links) em) in
                none ag.awaited h)
              where
                none : (o : Option Awaited) → wake_of o ≡ message.Finish k z ∷ between (AtAgent a) from t.links → ⊥
                none None h = cc
                none (Some aw) h = cc

            closing : (n : Num) (i : ℕ) (u : Window) → k ≡ n → ph ≡ Range n i u → (x : Spot) (op : Opened k x)
                → x.sense.num ≡ n → x.sense.query ≡ query.Class i u → InOrder p n (queries_at w) w.links → IsClp from
                → (c : ℕ) → c < clps_of p
                → ClpAt p s (is_over (over_of n i u ∷ os)) Idle (clp_at w c)
            closing n i u ek ep x op en eq ord clp c lc = record {
              records = λ v y er. (let h = st.records v y er in record {
                puts = h.puts;
                reads = h.reads;
                solid = h.solid;
                silent = λ m j b ov ec. elim ov [ inr old ↦ h.silent m j b old ec | inl f ↦ now v y er h m j b f ec ];
              });
              stamps = st.stamps;
              regs = λ y iy. elim (st.regs y iy) [
                | inl h ↦ (inr h.0, h.1)
                | inr h ↦ (inl (over_same y.num n y.class i y.window u h.0 h.1 h.2), λ b fb. ends y iy h.0 b fb)
              ];
              line = st.line;
            }
              where
                st : ClpAt p s (is_over os) (Range n i u) (clp_at w c)
                st = subst (λ y. ClpAt p s (is_over os) y (clp_at w c)) ep (calm.clps c lc)

                over_same : (m n : Num) (j i : ℕ) (b u : Window) → m ≡ n → j ≡ i → b ≡ u → over_of m j b ≡ over_of n i u
                over_same m n j i b u f g h = λ t'. record { num = f t'; class = g t'; window = h t' }

                iss : In (message.Ask n s (query.Class i u)) sim.issued
                iss = (let a0 = ((sim.core.agent a la).senses x.here op.here x.sense op.sense).issue in
                    subst (λ y. In (message.Ask n y (query.Class i u)) sim.issued)
                    ((calm.agents a la).steps x.here op.here)
                    (subst (λ y. In (message.Ask n x.here.stamp y) sim.issued) eq
                    (subst (λ y. In (message.Ask y x.here.stamp x.sense.query) sim.issued) en a0)))

                -- home has ended it
                fin : (f : Process) → from ≡ f → IsClp f → (home p a < clps_of p) × Ended n (queries_at w) (home p a)
                fin (AtAgent b) ef h = absurd h
                fin (AtClp d) ef h =
                    let l : home p a ≡ d = subst (LinkOk p (AtAgent a)) ef (linked.mail _ mail_in).0 in
                    let hd : In (message.Finish k z) (between (AtAgent a) (AtClp d) w.links) =
                    subst (λ y. In (message.Finish k z) (between (AtAgent a) y w.links)) ef
                    (subst (In (message.Finish k z)) (sym tk.head) (inl (sym em))) in
                    (sim.tree.homes a, subst (Ended n (queries_at w)) (sym l) (ord.ends (AtAgent a) d k z hd))

                ended : Ended n (queries_at w) (home p a)
                ended = (fin from refl clp).1

                na : n.agent ≡ a
                na = ap (λ (y : Num). y.agent) (sym ek) ∙ ea

                ends : (y : Registered) → In y (queries_at w c) → y.num ≡ n → (b : ℕ) → process p y.from ≡ AtAgent b
                    → y.waits ≡ []
                ends y iy ey b fb = elim (cases_eq c (home p n.agent)) [
                  | inl f ↦ (let ch : c ≡ home p a = f ∙ ap (home p) na in
                      subst (λ (v : Registered). v.waits ≡ [])
                      (one_reg (queries_at w c) ended.0 y (sim.queries.alone c lc)
                      (subst (λ v. In ended.0 (queries_at w v)) (sym ch) ended.1) iy (ended.2 ∙ sym ey)) ended.3)
                  | inr ne ↦ absurd (let f : process p y.from ≡ toward p c n.agent = (sim.queries.reg c y lc iy).2
                      ∙ ap (λ (v : Num). toward p c v.agent) ey in let g = toward_away p w.line sim.tree c n.agent ne in
                      let h = sym fb ∙ (f ∙ g) in cc)
                ]

                now : (v : ℕ) (y : Parts) → rec_at (clp_at w c).records v ≡ Some y → RecAt p s (is_over os) v y
                    → (m : Num) (j : ℕ) (b : Window) → over_of m j b ≡ over_of n i u → class_at p v ≡ j → Silent m b y
                now v y er h m j b f ec =
                    let fm : m ≡ n = ap (λ (o : Over). o.num) f in
                    let fj : j ≡ i = ap (λ (o : Over). o.class) f in
                    let fb : b ≡ u = ap (λ (o : Over). o.window) f in
                    let lv : v < length q.values =
                    (let i' = in_range (clp_at w c).records v y er in let l = sim.places.records_len c lc in
                    omega arith) in
                    let is : y ≡ recs v = (sim.places.at c v y lc er).1 in
                    let low : NotPast w.line s = subst (NotPast w.line) at ok.1 in
                    let bg : Begun p (queries_at w) (mail w.links) n =
                    inl (subst (λ v'. has_reg n (queries_at w v') ≡ true) (ap (home p) (sym na))
                    (has_reg_in n (queries_at w (home p a)) ended.0 ended.1 ended.2)) in
                    let fd = found p q w recs sim asked bounds (line.At (after s))
                    (λ e' f' m' i'. absurd (shut _ i' e' refl)) n s i u iss low (before_later s) v lv (ec ∙ fj)
                    bg in
                    subst (λ o. Silent o b y) (sym fm) (subst (λ o. Silent n o y) (sym fb) (elim fd [
                      | inl g ↦ inl (subst (λ (o : Parts). has_read n o.reads ≡ true) (sym is) g)
                      | inr g ↦ inr (ap (λ o. hit_in o u) (sym (value_base s y h.puts)
                          ∙ ap (λ (o : Parts). record_value o s) is) ∙ g)
                    ]))
                  where
                    before_later : (y : Stamp) → IsBefore y (after y)
                    before_later y = grind arith
