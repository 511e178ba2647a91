-- An agent's part of a delivery.
use Rattle.pm_saved.specs.Spots.{find}
use Rattle.pm_alp.specs.declared.agent.Agent.{Agent}
use Rattle.std.proofs.Common.{◌≡◌, ℕ, ◌<◌, ◌≤◌, ◌⊎◌, inl, inr, Bool, true, false, ◌&&◌, List, [], ◌∷◌, ◌++◌, map, length, get_or, set, refl, arith, ap, sym, ◌∙◌, subst, Some, length-set}
use Rattle.pm_base.specs.declared.rows.GiveRow.{GiveRow}
use Rattle.pm_base.specs.declared.rows.Parts.{Parts}
use Rattle.pm_base.specs.declared.stamp.Num.{Num}
use Rattle.pm_base.specs.declared.stamp.Stamp.{Stamp}
use Rattle.pm_base.specs.declared.value.Window.{Window}
use Rattle.pm_message.specs.Messages.{stamp_of}
use Rattle.pm_message.specs.declared.Message.{Message}
use Rattle.pm_model.specs.declared.State.{State}
use Rattle.pm_plan.specs.declared.plan.Plan.{Plan}
use Rattle.pm_alp.specs.Agents.{Sends, no_agent, on_finish, on_give, on_wake}
use Rattle.pm_sim.specs.Worlds.{Mail, Posted, Process, Taken, World, actor_of, addressed, home, is_process, mail, post_all, take_from, clps_of}
use Rattle.pm_sim.specs.Worlds.Process.{AtClp, AtAgent}
use Rattle.pm_sim.specs.Sims.{Core, In, MailOk, NotPast, class_at, num_of, one_if, tally}
use Rattle.pm_sim.specs.Routings.{Fits, Wait, ask_to, is_ask, mail_to}
use Rattle.pm_sim.proofs.Arrivals.{Mailed}
use Rattle.pm_sim.proofs.Finishes.{finish_core}
use Rattle.pm_sim.proofs.Gives.{give_core}
use Rattle.pm_sim.proofs.Letters.{message_of, letters, Bag, sent_mail, delivered_bag, in_map, map_in, bag_map, bag_mailed}
use Rattle.pm_sim.proofs.Lists.{each_in}
use Rattle.pm_sim.proofs.Places.{clp_at, queries_at, Pending, Sim}
use Rattle.pm_sim.proofs.Queries.{special, AgentMail, goes_agent, queries_agent}
use Rattle.pm_sim.proofs.Sends.{Out, any_ask, SentOk, give_out, wake_out, finish_out}
use Rattle.pm_sim.proofs.Wakes.{wake_core}
use Rattle.pm_base.specs.declared.value.Query.TheVariants as query
use Rattle.pm_message.specs.declared.Message.TheVariants as message
use Rattle.pm_sim.specs.Routings.{unmoved}
use Rattle.std.proofs.Common.{ap₂}
use Rattle.pm_sim.proofs.Places.{moves_keep}

letters_same : (a h : ℕ) (ms : List Message) → map message_of (sent_mail (AtAgent a) (map (addressed a h) ms)) ≡ ms
letters_same a h [] = refl
letters_same a h (m ∷ ms) = ap₂ (λ x xs. x ∷ xs) (one m) (letters_same a h ms)
  where
    one : (x : Message) → (addressed a h x).message ≡ x
    one (message.Wake k s) = refl
    one (message.Ask k s q) = refl
    one (message.Put r_n r_t v r_c) = refl
    one (message.Cut r_n r_t v) = refl
    one (message.Give r) = refl
    one (message.Finish k s) = refl
    one (message.Move v s r) = refl
    one (message.Grow k s u w) = refl

ask_any : (n : Num) (x : Message) → is_ask n x ≡ true → any_ask x ≡ true
ask_any n (message.Ask k s q) e = refl
ask_any n (message.Wake k s) e = absurd (cc)
ask_any n (message.Put r_n r_t v r_c) e = absurd (cc)
ask_any n (message.Cut r_n r_t v) e = absurd (cc)
ask_any n (message.Give r) e = absurd (cc)
ask_any n (message.Finish k s) e = absurd (cc)
ask_any n (message.Move v s r) e = absurd (cc)
ask_any n (message.Grow k s u w) e = absurd (cc)

addressed_same : (a h : ℕ) (x : Message) → (addressed a h x).message ≡ x
addressed_same a h (message.Wake k s) = refl
addressed_same a h (message.Ask k s q) = refl
addressed_same a h (message.Put r_n r_t v r_c) = refl
addressed_same a h (message.Cut r_n r_t v) = refl
addressed_same a h (message.Give r) = refl
addressed_same a h (message.Finish k s) = refl
addressed_same a h (message.Move v s r) = refl
addressed_same a h (message.Grow k s u w) = refl

asks_fewer : (n : Num) (c a h : ℕ) (ms : List Message)
    → tally (ask_to n c) (sent_mail (AtAgent a) (map (addressed a h) ms)) ≤ tally any_ask ms
asks_fewer n c a h [] = omega arith
asks_fewer n c a h (m ∷ ms) = (let again = asks_fewer n c a h ms in
    go (is_process (addressed a h m).to (AtClp c)) (is_ask n (addressed a h m).message)
    (any_ask m) (λ e. ask_any n m (subst (λ z. is_ask n z ≡ true) (addressed_same a h m) e)) again)
  where
    go : (x y z : Bool)
        → (y ≡ true → z ≡ true) → tally (ask_to n c) (sent_mail (AtAgent a) (map (addressed a h) ms)) ≤ tally any_ask ms
        → one_if (x && y) (tally (ask_to n c) (sent_mail (AtAgent a) (map (addressed a h) ms)))
        ≤ one_if z (tally any_ask ms)
    go true true true h' le = omega arith
    go true true false h' le = absurd (let f = h' refl in cc)
    go true false true h' le = omega arith
    go true false false h' le = le
    go false y true h' le = omega arith
    go false y false h' le = le

module _ (p : Plan) (q : State) (w : World) (recs : ℕ → Parts) (sim : Sim p q w recs) (a : ℕ) (from : Process)
    (m : Message) (t : Taken) (e : take_from (AtAgent a) from w.links ≡ Some t) (em : t.message ≡ m) where
  abbrev pub N : ℕ
  N = clps_of p

  abbrev pub n : ℕ
  n = length q.values

  abbrev pub ag : Agent
  ag = get_or w.agents a no_agent

  abbrev pub after : Sends → World
  after r = record w {
    agents = set w.agents a r.agent;
    links = post_all (AtAgent a) (map (addressed a (home p a)) r.sent) t.links;
  }

  pub bag : (r : Sends) → Bag (mail w.links) (mail (after r).links)
      (mail_to (AtAgent a) from m ∷ []) (sent_mail (AtAgent a) (map (addressed a (home p a)) r.sent))
  bag r = subst (λ z. Bag (mail w.links) (mail (after r).links)
      (mail_to (AtAgent a) from z ∷ []) (sent_mail (AtAgent a) (map (addressed a (home p a)) r.sent)))
      em (delivered_bag (AtAgent a) from w.links t (map (addressed a (home p a)) r.sent) e)

  mailed : (r : Sends) → Mailed (letters w.links) (letters (after r).links) m r.sent
  mailed r = bag_mailed _ _ _ m (subst (Bag (letters w.links) (letters (after r).links) (m ∷ []))
      (letters_same a (home p a) r.sent) (bag_map message_of (mail w.links) (mail (after r).links) _ _ (bag r)))

  letter_in : In m (letters w.links)
  letter_in = (mailed (record { agent = ag; sent = [] })).first

  abbrev pend' : Sends → Num → ℕ → Type 0
  pend' r = Pending p (queries_at w) (mail (after r).links)

  abbrev wait' : Sends → Num → Type 0
  wait' r = Wait p (queries_at w) (mail (after r).links)

  abbrev pend0 : Num → ℕ → Type 0
  pend0 = Pending p (queries_at w) (mail w.links)

  abbrev wait0 : Num → Type 0
  wait0 = Wait p (queries_at w) (mail w.links)

  pends : (r : Sends) (k : Num) (v : ℕ) → pend0 k v → pend' r k v
  pends r k v (inl h) = inl h
  pends r k v (inr (s, x, u, i)) = inr (
    s,
    x,
    u,
    elim ((bag r).kept _ i) [
      | inr h ↦ h
      | inl h ↦ absurd (elim h [ inl f ↦ (let g = ap (λ (z : Mail). z.to) f in cc) | inr b ↦ b ])
    ],
  )

  -- where its sends are its own and m is no query
  module _ (r : Sends) (lt : a < length w.agents) (out : SentOk a ag.seq n r.sent)
      (gone : (special m ≡ false) ⊎ ((k : Num) × (s : Stamp) × (m ≡ message.Finish k s))) where
    out_at : (x : Message) → In x r.sent → Out a ag.seq n x
    out_at x i = each_in (Out a ag.seq n) r.sent x out.each i

    is_new : (k : Num) → k ≡ record { agent = a; seq = ag.seq } → (y : Message) → In y sim.issued → num_of y ≡ k → ⊥
    is_new k ek y i f =
        let o = (sim.core.fresh y i).1 in
        let at : (num_of y).agent ≡ a = ap (λ (z : Num). z.agent) (f ∙ ek) in
        let b : (num_of y).seq < ag.seq = subst (λ z. (num_of y).seq < (get_or w.agents z no_agent).seq) at o in
        let d : (num_of y).seq ≡ ag.seq = ap (λ (z : Num). z.seq) (f ∙ ek) in omega arith

    am : AgentMail p w.line sim.tree
        sim.issued (mail_to (AtAgent a) from m ∷ []) (sent_mail (AtAgent a) (map (addressed a (home p a)) r.sent))
    am = record {
      away = λ x i. elim i [
        | inr b ↦ absurd b
        | inl f ↦ elim gone [
          | inl g ↦ inl (ap (λ (z : Mail). special z.message) f ∙ g)
          | inr g ↦ inr (a, g.0, g.1, from, f ∙ ap (mail_to (AtAgent a) from) g.2)
        ]
      ];
      came = λ x i. (let o =
          in_map (λ (y : Posted). mail_to y.to (AtAgent a) y.message) (map (addressed a (home p a)) r.sent) x i in
          let o2 = in_map (addressed a (home p a)) r.sent o.0 o.1 in
          by_message o2.0 (out_at o2.0 o2.1) x (o.2 ∙ ap (λ (y : Posted). mail_to y.to (AtAgent a) y.message) o2.2));
      one = λ k c. (let x = asks_fewer k c a (home p a) r.sent in let y = out.one in omega arith);
    }
      where
        by_message : (y : Message) → Out a ag.seq n y
            → (x : Mail) → x ≡ mail_to (addressed a (home p a) y).to (AtAgent a) (addressed a (home p a) y).message
            → (special x.message ≡ false) ⊎ ((k : Num) × (s : Stamp) × (j : ℕ) × (u : Window)
            × (x ≡ mail_to (AtClp (home p k.agent)) (AtAgent k.agent) (message.Ask k s (query.Class j u)))
            × ((m' : Message) → In m' sim.issued → num_of m' ≡ k → ⊥))
        by_message (message.Wake k s) o x f = inl (ap (λ (z : Mail). special z.message) f)
        by_message (message.Put y_n y_t v y_c) o x f = inl (ap (λ (z : Mail). special z.message) f)
        by_message (message.Cut y_n y_t v) o x f = inl (ap (λ (z : Mail). special z.message) f)
        by_message (message.Ask k s (query.One v)) o x f = inl (ap (λ (z : Mail). special z.message) f)
        by_message (message.Ask k s (query.Class j u)) o x f =
            inr (
              k,
              s,
              j,
              u,
              f ∙ ap (λ z. mail_to (AtClp (home p z)) (AtAgent z) (message.Ask k s (query.Class j u)))
                  (sym (ap (λ (z : Num). z.agent) o.0)),
              is_new k o.0,
            )
        by_message (message.Give g) o x f = absurd o
        by_message (message.Finish k s) o x f = absurd o
        by_message (message.Move v s y) o x f = absurd o
        by_message (message.Grow j s y u) o x f = absurd o

    sure : (c : ℕ) (f : Process) (k : Num) (s : Stamp) (j : ℕ) (u : Window)
        → In (mail_to (AtClp c) f (message.Ask k s (query.Class j u))) (mail w.links)
        → In (message.Ask k s (query.Class j u)) sim.issued
    sure c f k s j u i = (sim.core.mail (message.Ask k s (query.Class j u)) (map_in message_of (mail w.links) _ i)).0

    waits_but : (k : Num) → ((s : Stamp) → m ≡ message.Finish k s → ⊥) → wait0 k → wait' r k
    waits_but k ne h = goes_agent p w.line sim.tree (queries_at w)
        sim.issued (mail w.links) (mail (after r).links) _ _ (bag r) am k (home p k.agent) (AtAgent k.agent)
        (λ b s g _ i. elim i [ inl f ↦ ne s (sym (ap (λ (z : Mail). z.message) f)) | inr y ↦ y ]) h

    -- a class query that is asked is on its way to all
    up : (x : Num) (z : Stamp) (c : ℕ) (u : Window)
        → In (message.Ask x z (query.Class c u)) r.sent → wait' r x × ((v : ℕ) → v < n → class_at p v ≡ c → pend' r x v)
    up x z c u i =
        let o = out_at (message.Ask x z (query.Class c u)) i in
        let mine : x.agent ≡ a = ap (λ (y : Num). y.agent) o.0 in
        let on : In (mail_to (AtClp (home p x.agent)) (AtAgent x.agent) (message.Ask x z (query.Class c u)))
        (mail (after r).links) =
        subst (λ y. In (mail_to (AtClp (home p y)) (AtAgent y) (message.Ask x z (query.Class c u)))
        (mail (after r).links)) (sym mine)
        ((bag r).added _ (map_in (λ (y : Posted). mail_to y.to (AtAgent a) y.message)
        (map (addressed a (home p a)) r.sent) (addressed a (home p a) (message.Ask x z (query.Class c u)))
        (map_in (addressed a (home p a)) r.sent (message.Ask x z (query.Class c u)) i))) in (
          inl (z, c, u, on),
          λ v lv ev. inr (z, c, u, on),
        )

    built : unmoved m ≡ true → (more : List Message) → Core p w.line q (sim.issued ++ more)
        (set w.agents a r.agent) recs (letters (after r).links) (pend' r) (wait' r) → Sim p q (after r) recs
    built um more core = record {
      tree = sim.tree;
      shape = sim.shape;
      issued = sim.issued ++ more;
      place = sim.place;
      core = core;
      queries = queries_agent p w.line
          sim.tree sim.issued more (queries_at w) (mail w.links) (mail (after r).links) _ _ (bag r) am sure sim.queries;
      places = sim.places;
      moves =
          moves_keep p n w.line sim.place recs recs (clp_at w) (clp_at (after r)) (mail w.links) (mail (after r).links)
          (mail_to (AtAgent a) from m ∷ []) (sent_mail (AtAgent a) (map (addressed a (home p a)) r.sent)) (bag r)
          (λ x i. elim i [ inl f ↦ ap (λ (z : Mail). unmoved z.message) f ∙ um | inr b ↦ absurd b ])
          (λ x i. (let o =
          in_map (λ (y : Posted). mail_to y.to (AtAgent a) y.message) (map (addressed a (home p a)) r.sent) x i in
          let o2 = in_map (addressed a (home p a)) r.sent o.0 o.1 in
          ap (λ (z : Mail). unmoved z.message) o.2
          ∙ (ap (λ (z : Posted). unmoved z.message) o2.2 ∙ unmoved_out o2.0 (out_at o2.0 o2.1))))
          (λ d v. refl) (λ v lv h. refl) sim.moves;
      fits = λ x i. elim ((bag r).from x i) [
        | inl j ↦ sim.fits x j
        | inr j ↦ (let o =
            in_map (λ (y : Posted). mail_to y.to (AtAgent a) y.message) (map (addressed a (home p a)) r.sent) x j in
            let o2 = in_map (addressed a (home p a)) r.sent o.0 o.1 in
            let f : x ≡ mail_to (addressed a (home p a) o2.0).to (AtAgent a) (addressed a (home p a) o2.0).message =
            o.2 ∙ ap (λ (y : Posted). mail_to y.to (AtAgent a) y.message) o2.2 in
            subst (Fits N n) (sym f) (fits_of o2.0 (out_at o2.0 o2.1) (core.mail o2.0 ((mailed r).added o2.0 o2.1))))
      ];
      size = sim.size;
      plan = λ i lt'. sim.plan i (omega (arith, lt', length-set w.agents a r.agent));
    }
      where
        unmoved_out : (y : Message) → Out a ag.seq n y → unmoved (addressed a (home p a) y).message ≡ true
        unmoved_out (message.Wake k s) o = refl
        unmoved_out (message.Ask k s y) o = refl
        unmoved_out (message.Put y_n y_t v y_c) o = refl
        unmoved_out (message.Cut y_n y_t v) o = refl
        unmoved_out (message.Give g) o = refl
        unmoved_out (message.Finish k s) o = refl
        unmoved_out (message.Move v s y) o = absurd o
        unmoved_out (message.Grow j s y u) o = refl

        fits_of : (y : Message) → Out a ag.seq n y → MailOk p (sim.issued ++ more) y × NotPast w.line (stamp_of y)
            → Fits N n (mail_to (addressed a (home p a) y).to (AtAgent a) (addressed a (home p a) y).message)
        fits_of (message.Wake k s) o ok = o
        fits_of (message.Ask k s (query.One v)) o ok = (sim.tree.homes a, o.1)
        fits_of (message.Ask k s (query.Class j u)) o ok = (sim.tree.homes a, tt)
        fits_of (message.Put y_n y_t v y_c) o ok =
            (sim.tree.homes a, (core.put_once v (record { num = y_n; stamp = y_t; change = y_c }) ok.0 ok.1).0)
        fits_of (message.Cut y_n y_t v) o ok = (sim.tree.homes a, (core.put_once v _ ok.0.1 ok.1).0)
        fits_of (message.Give g) o ok = absurd o
        fits_of (message.Finish k s) o ok = absurd o
        fits_of (message.Move v s y) o ok = absurd o
        fits_of (message.Grow j s y u) o ok = absurd o

pub wake_part : (p : Plan)
    (q : State) (w : World) (recs : ℕ → Parts) (sim : Sim p q w recs) (a : ℕ) (from : Process) (k : Num) (s : Stamp)
    (t : Taken) (e : take_from (AtAgent a) from w.links ≡ Some t) (em : t.message ≡ message.Wake k s) → k.agent ≡ a
    → Sim p q (after p q w recs sim a from (message.Wake k s)
    t e em (on_wake (actor_of p a) (get_or w.agents a no_agent) k (get_or w.agents a no_agent).awaited)) recs
wake_part p q w recs sim a from k s t e em for_it =
    let i : In (message.Wake k s) sim.issued =
    (sim.core.mail (message.Wake k s) (letter_in p q w recs sim a from (message.Wake k s) t e em)).0 in
    let lt : a < length w.agents = subst (λ z. z < length w.agents) for_it (sim.core.fresh (message.Wake k s) i).0 in
    let ag : Agent = get_or w.agents a no_agent in
    let r : Sends = on_wake (actor_of p a) ag k ag.awaited in
    let out = wake_out p (length q.values) a (sim.plan a lt) ag k ag.awaited in
    let gone : (special (message.Wake k s) ≡ false)
    ⊎ ((k' : Num) × (s' : Stamp) × (message.Wake k s ≡ message.Finish k' s')) = inl refl in
    let o = wake_core p w.line q sim.issued
    w.agents recs (letters w.links) _ (pend' p q w recs sim a from (message.Wake k s) t e em r) _ (wait' p q w recs
    sim a from (message.Wake k s) t e em r) sim.core a lt (pends p q w recs sim a from (message.Wake k s) t e em r)
    (letters (after p q w recs sim a from (message.Wake k s) t e em r).links) k s ag.awaited (sim.plan a lt) for_it refl
    (λ k' h. waits_but p q w recs sim a from (message.Wake k s) t e em r lt out gone k' (λ s' f. cc) h)
    (up p q w recs sim a from (message.Wake k s) t e em r lt out gone)
    (mailed p q w recs sim a from (message.Wake k s) t e em r) in
    built p q w recs sim a from (message.Wake k s) t e em r lt out gone refl o.0 o.1

pub give_part : (p : Plan) (q : State) (w : World) (recs : ℕ → Parts) (sim : Sim p q w recs) (a : ℕ) (from : Process)
    (g : GiveRow) (t : Taken) (e : take_from (AtAgent a) from w.links ≡ Some t) (em : t.message ≡ message.Give g)
    → g.num.agent ≡ a
    → Sim p q (after p q w recs sim a from (message.Give g) t e
    em (on_give (actor_of p a) (get_or w.agents a no_agent) g (find g.num (get_or w.agents a no_agent).steps))) recs
give_part p q w recs sim a from g t e em for_it =
    let i : MailOk p sim.issued (message.Give g) =
    (sim.core.mail (message.Give g) (letter_in p q w recs sim a from (message.Give g) t e em)).0 in
    let lt : a < length w.agents = subst (λ z. z < length w.agents) for_it (sim.core.fresh _ i.1).0 in
    let ag : Agent = get_or w.agents a no_agent in
    let r : Sends = on_give (actor_of p a) ag g (find g.num ag.steps) in
    let out = give_out p (length q.values) a (sim.plan a lt) ag g (find g.num ag.steps) in
    let gone : (special (message.Give g) ≡ false)
    ⊎ ((k' : Num) × (s' : Stamp) × (message.Give g ≡ message.Finish k' s')) = inl refl in
    let o = give_core p w.line q sim.issued w.agents
    recs (letters w.links) _ (pend' p q w recs sim a from (message.Give g) t e em r) _ (wait' p q w recs sim a from
    (message.Give g) t e em r) sim.core a lt (sim.plan a lt) (pends p q w recs sim a from (message.Give g) t e em r)
    (λ k' h. waits_but p q w recs sim a from (message.Give g) t e em r lt out gone k' (λ s' f. cc) h)
    (letters (after p q w recs sim a from (message.Give g) t e em r).links)
    g for_it (letter_in p q w recs sim a from (message.Give g) t e em) (up p q w recs
    sim a from (message.Give g) t e em r lt out gone) (mailed p q w recs sim a from (message.Give g) t e em r) in
    built p q w recs sim a from (message.Give g) t e em r lt out gone refl o.0 o.1

pub finish_agent : (p : Plan)
    (q : State) (w : World) (recs : ℕ → Parts) (sim : Sim p q w recs) (a : ℕ) (from : Process) (k : Num) (s : Stamp)
    (t : Taken) (e : take_from (AtAgent a) from w.links ≡ Some t) (em : t.message ≡ message.Finish k s) → k.agent ≡ a
    → Sim p q (after p q w recs sim a from (message.Finish k s)
    t e em (on_finish (actor_of p a) (get_or w.agents a no_agent) (find k (get_or w.agents a no_agent).steps))) recs
finish_agent p q w recs sim a from k s t e em for_it =
    let i : MailOk p sim.issued (message.Finish k s) =
    (sim.core.mail (message.Finish k s) (letter_in p q w recs sim a from (message.Finish k s) t e em)).0 in
    let lt : a < length w.agents = subst (λ z. z < length w.agents) for_it (sim.core.fresh _ i.2).0 in
    let ag : Agent = get_or w.agents a no_agent in
    let r : Sends = on_finish (actor_of p a) ag (find k ag.steps) in
    let out = finish_out p (length q.values) a (sim.plan a lt) ag (find k ag.steps) in
    let gone : (special (message.Finish k s) ≡ false)
    ⊎ ((k' : Num) × (s' : Stamp) × (message.Finish k s ≡ message.Finish k' s')) = inr (k, s, refl) in
    let o = finish_core p w.line q sim.issued w.agents recs (letters w.links) _
    (pend' p q w recs sim a from (message.Finish k s) t e em r) _ (wait' p q w recs sim a from (message.Finish k s)
    t e em r) sim.core a lt (sim.plan a lt) (pends p q w recs sim a from (message.Finish k s) t e em r)
    (letters (after p q w recs sim a from (message.Finish k s) t e em r).links) k s for_it
    (λ k' ne h. waits_but p q w recs sim a from (message.Finish k s) t e em r lt out gone
    k' (λ s' f. ne (same_num k k' s s' f)) h) (up p q w recs sim a from (message.Finish k s) t e em r lt out gone)
    (mailed p q w recs sim a from (message.Finish k s) t e em r) in
    built p q w recs sim a from (message.Finish k s) t e em r lt out gone refl o.0 o.1
  where
    same_num : (k k' : Num) (s s' : Stamp) → message.Finish k s ≡ message.Finish k' s' → k ≡ k'
    same_num k k' s s' f = cc
