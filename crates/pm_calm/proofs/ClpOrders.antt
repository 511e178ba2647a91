-- The order of a class query's answers, over a communication process's delivery.
use Rattle.std.proofs.Common.{◌≡◌, ℕ, zero, suc, ◌+◌, ◌<◌, ◌⊎◌, inl, inr, ◌==◌, Bool, true, false, cond, not, ◌&&◌, List, [], ◌∷◌, ◌++◌, map, filter, length, get_or, refl, arith, ap, sym, ◌∙◌, subst, Option, Some, None, get_or-set_other, get_or-set_same, append-nil}
use Rattle.std.proofs.lemmas.Bool.{cases_eq, cases_Bool, and_parts}
use Rattle.std.proofs.lemmas.Bool.Decides.{nat_tests}
use Rattle.pm_base.specs.Layouts.{class_row}
use Rattle.pm_base.specs.Stamps.{num_eq}
use Rattle.pm_base.specs.declared.rows.GiveRow.{GiveRow}
use Rattle.pm_base.specs.declared.rows.Parts.{Parts}
use Rattle.pm_base.specs.declared.stamp.Num.{Num}
use Rattle.pm_base.specs.declared.stamp.Stamp.{Stamp}
use Rattle.pm_base.specs.declared.value.Query.{Query}
use Rattle.pm_base.specs.declared.value.Query.TheVariants as query
use Rattle.pm_base.specs.declared.value.Window.{Window}
use Rattle.pm_message.specs.declared.Message.{Message}
use Rattle.pm_message.specs.declared.Message.TheVariants as message
use Rattle.pm_model.specs.declared.State.{State}
use Rattle.pm_plan.specs.declared.plan.Plan.{Plan}
use Rattle.pm_queries.specs.Queries.{add_reg, ask_of, finish_if, finish_in, finish_one, has, has_reg, without}
use Rattle.pm_queries.specs.declared.registered.Registered.{Registered}
use Rattle.pm_queries.specs.declared.registered.Sent.{Sent}
use Rattle.pm_clp.specs.Clps.{ClpSends, ClpState, and_then, at_record, clp_after, forwards, no_clp_sends, on_record, rec_at, reg_of, registered, sent_on, take_watch, to_agent, watch_all}
use Rattle.pm_sim.proofs.Ends.{OneEnd, finish_is, shorter}
use Rattle.pm_sim.proofs.Hubs.{unregistered}
use Rattle.pm_sim.proofs.Lanes.{posted_for, sent_for}
use Rattle.pm_sim.proofs.Letters.{in_map, map_in, message_of, process_same, process_self}
use Rattle.pm_sim.proofs.Lists.{in_cases}
use Rattle.pm_sim.proofs.Places.{Sim, clp_at, process_agent, process_clp, queries_at, towards_at}
use Rattle.pm_sim.proofs.Queries.{add_reg_in, clp_parts, has_reg_in, in_add_reg, not_own_port, one_reg}
use Rattle.pm_sim.proofs.Stamps.{nums_same}
use Rattle.pm_sim.proofs.Takings.{LinkOk, Linked, agent_low, number_linked}
use Rattle.pm_sim.proofs.Trims.{filter_in, in_filter}
use Rattle.pm_sim.proofs.Wires.{Took, between_mail, posted_else, took}
use Rattle.pm_sim.specs.Bounds.{between}
use Rattle.pm_sim.specs.Routings.{FitsAt, IsClp, TreeOk, mail_to, toward}
use Rattle.pm_sim.specs.Sims.{In, MailOk}
use Rattle.pm_sim.specs.Worlds.{Posted, Process, Taken, World, clps_of, home, hub_of, is_process, mail, no_clp, number, ports, posted, process, take_from, to_agents, towards}
use Rattle.pm_sim.specs.Worlds.Process.{AtAgent, AtClp}
use Rattle.pm_calm.specs.Phases.{Calm, Ended, InOrder, IsAnswer, IsFinish, MailAt, Over, Tidy, Waiting, is_over}
use Rattle.pm_calm.specs.Phases.Phase.{Range}
use Rattle.pm_calm.proofs.ClpWorlds.{after, done, good, sends, there}
use Rattle.pm_calm.proofs.Sending.{sends_in}

-- ---- lists

tidy_append : (xs ys : List Message) → Tidy xs → Tidy ys → ((x : Message) → In x xs → IsFinish x → ⊥) → Tidy (xs ++ ys)
tidy_append [] ys a b none = b
tidy_append (x ∷ xs) ys a b none = (
  (λ f. absurd (none x (inl refl) f)),
  tidy_append xs ys a.1 b (λ y i. none y (inr i)),
)

-- a part of a tidy list
tidy_sends : (p : Plan) (to : Process) (ss : List Sent) → Tidy (map (λ (y : Sent). y.message) ss)
    → Tidy (sent_for to (map (posted p) ss))
tidy_sends p to [] h = tt
tidy_sends p to (x ∷ ss) h = (let again = tidy_sends p to ss h.1 in go (is_process (process p x.to) to) again)
  where
    less : (m : Message) → In m (sent_for to (map (posted p) ss)) → In m (map (λ (y : Sent). y.message) ss)
    less m i =
        let o = sends_in to (map (posted p) ss) m i in
        let o2 = in_map (posted p) ss o.0 o.1 in
        subst (λ z. In z (map (λ (y : Sent). y.message) ss))
        (sym (o.3 ∙ ap (λ (y : Posted). y.message) o2.2)) (map_in (λ (y : Sent). y.message) ss o2.0 o2.1)

    go : (b : Bool) → Tidy (sent_for to (map (posted p) ss))
        → Tidy (cond b (x.message ∷ sent_for to (map (posted p) ss)) (sent_for to (map (posted p) ss)))
    go true again = ((λ f m i g. h.0 f m (less m i) g), again)
    go false again = again

tidy_plain : (ms : List Message) → ((m : Message) → In m ms → IsFinish m → ⊥) → Tidy ms
tidy_plain [] h = tt
tidy_plain (m ∷ ms) h = ((λ f. absurd (h m (inl refl) f)), tidy_plain ms (λ x i. h x (inr i)))

-- ---- the sends of a class query

-- the process that a hit goes to is the one towards its agent
toward_is : (p : Plan) → TreeOk p → (c : ℕ) → c < clps_of p → (a : ℕ) → a < length p.agents
    → process p (get_or (to_agents p c 0 p.agents) a 0) ≡ toward p c a
toward_is p tree c lc a lt =
    ap (process p) (towards_at p c 0 p.agents a lt
    ∙ (let z0 : 0 + a ≡ a = omega arith in ap (λ z. towards p c z (home p a)) z0))
    ∙ elim (cases_eq c (home p a)) [
      | inl f ↦ (let e : (c == home p a) ≡ true = grind (arith, nat_tests, f) in rw e (process_agent p a))
      | inr ne ↦ (let e : (c == home p a) ≡ false = grind (arith, nat_tests, ne) in
          rw e (process_clp p _ (tree.inside c _ (tree.hop_port c (home p a) lc (tree.homes a) ne))))
    ]

-- watching sends Gives alone
watch_gives : (p : Plan) (c : ℕ) (k : Num) (z : Stamp) (u : Window) (i m : ℕ) (s : ClpState) (y : Sent)
    → In y (watch_all (hub_of p c) k z u i m s).sent → (g : GiveRow) × (y ≡ to_agent (hub_of p c) g)
watch_gives p c k z u i zero s y h = absurd h
watch_gives p c k z u i (suc m) s y h =
    let first : ClpSends = at_record (hub_of p c) i (take_watch i k z u) s in
    elim (in_cases first.sent (watch_all (hub_of p c) k z u (suc i) m first.clp).sent y h) [
      | inr o ↦ watch_gives p c k z u (suc i) m first.clp y o
      | inl o ↦ one (rec_at s.records i) o
    ]
  where
    one : (r : Option Parts) → In y (on_record (hub_of p c) i (take_watch i k z u) r s).sent
        → (g : GiveRow) × (y ≡ to_agent (hub_of p c) g)
    one None a = absurd a
    one (Some r) a = (let o = in_map (to_agent (hub_of p c)) (take_watch i k z u r).gives y a in (o.0, o.2))

-- and leaves the queries and the bounds
watch_leaves : (p : Plan) (c : ℕ) (k : Num) (z : Stamp) (u : Window) (i m : ℕ) (s : ClpState)
    → ((watch_all (hub_of p c) k z u i m s).clp.queries ≡ s.queries)
    × ((watch_all (hub_of p c) k z u i m s).clp.bound ≡ s.bound)
watch_leaves p c k z u i zero s = (refl, refl)
watch_leaves p c k z u i (suc m) s =
    let again = watch_leaves p c k z u (suc i) m (at_record (hub_of p c) i (take_watch i k z u) s).clp in
    let here = one (rec_at s.records i) in
    (again.0 ∙ here.0, again.1 ∙ here.1)
  where
    one : (r : Option Parts) → ((on_record (hub_of p c) i (take_watch i k z u) r s).clp.queries ≡ s.queries)
        × ((on_record (hub_of p c) i (take_watch i k z u) r s).clp.bound ≡ s.bound)
    one None = (refl, refl)
    one (Some r) = (refl, refl)

-- Gives and then the forwards are tidy
gives_tidy : (gs fs : List Sent) (p : Plan) (c : ℕ)
    → ((y : Sent) → In y gs → (g : GiveRow) × (y ≡ to_agent (hub_of p c) g)) → Tidy (map (λ (y : Sent). y.message) fs)
    → Tidy (map (λ (y : Sent). y.message) (gs ++ fs))
gives_tidy [] fs p c h t = t
gives_tidy (y ∷ gs) fs p c h t = (
  (λ f. absurd (let o = h y (inl refl) in
      subst IsFinish (ap (λ (z : Sent). z.message) o.1) f)),
  gives_tidy gs fs p c (λ z i. h z (inr i)) t,
)

forwards_tidy : (p : Plan) (c : ℕ) (from : ℕ) (r : Registered) (ds : List ℕ)
    → Tidy (map (λ (y : Sent). y.message) (forwards (hub_of p c) from r ds))
forwards_tidy p c from r [] = ((λ f x i g. i), tt)
forwards_tidy p c from r (d ∷ ds) = tidy_plain (map (λ (y : Sent). y.message) (forwards (hub_of p c) from r (d ∷ ds)))
    (λ m i f. let o = in_map (λ (y : Sent). y.message) (map (λ e. record { to = e; message = ask_of r }) (d ∷ ds))
    m i in
    let o2 = in_map (λ e. record { to = e; message = ask_of r }) (d ∷ ds) o.0 o.1 in
    subst IsFinish (o.2 ∙ ap (λ (y : Sent). y.message) o2.2) f)

-- what is forwarded: the Finish to where it came from, where nothing else is; or Asks
forwards_is : (p : Plan) (c : ℕ) (from : ℕ) (r : Registered) (ds : List ℕ) (y : Sent)
    → In y (forwards (hub_of p c) from r ds)
    → ((ds ≡ []) × (y ≡ record { to = from; message = message.Finish r.num r.stamp }))
    ⊎ ((e : ℕ) × In e ds × (y ≡ record { to = e; message = ask_of r }))
forwards_is p c from r [] y i = inl (refl, elim i [ inl e ↦ e | inr b ↦ absurd b ])
forwards_is p c from r (d ∷ ds) y i = inr (let o = in_map (λ e. record { to = e; message = ask_of r }) (d ∷ ds) y i in
    (o.0, o.1, o.2))

-- a Finish finds a query that waits for the port, or nothing happens
finish_had : (k : Num) (d : ℕ) (rs : List Registered)
    → (((finish_in k d rs).queries ≡ rs) × ((finish_in k d rs).sent ≡ []))
    ⊎ ((r : Registered) × In r rs × (r.num ≡ k) × (has d r.waits ≡ true))
finish_had k d [] = inl (refl, refl)
finish_had k d (r ∷ rs) = (let again = finish_had k d rs in elim (cases_Bool (num_eq k r.num)) [
  | inl e ↦ rw e (one (has d r.waits) refl (sym (nums_same k r.num e)))
  | inr e ↦ rw e (elim again [ inl o ↦ inl (ap (λ z. r ∷ z) o.0, o.1) | inr o ↦ inr (o.0, inr o.1, o.2, o.3) ])
])
  where
    one : (b : Bool) → has d r.waits ≡ b → r.num ≡ k
        → (((finish_one d r rs b).queries ≡ r ∷ rs) × ((finish_one d r rs b).sent ≡ []))
        ⊎ ((x : Registered) × In x (r ∷ rs) × (x.num ≡ k) × (has d x.waits ≡ true))
    one true e en = inr (r, inl refl, en, e)
    one false e en = inl (refl, refl)

-- ---- the delivery

module _ (p : Plan) (q : State) (w : World) (recs : ℕ → Parts) (sim : Sim p q w recs) (linked : Linked p w) (s : Stamp)
    (os : List Over) (n : Num) (i : ℕ) (u : Window) (calm : Calm p w s os (Range n i u))
    (order : InOrder p n (queries_at w) w.links) (c : ℕ) (lc : c < clps_of p) (from : Process) (t : Taken)
    (e : take_from (AtClp c) from w.links ≡ Some t) where
  abbrev N : ℕ
  N = clps_of p

  abbrev qs : ℕ → List Registered
  qs = queries_at w

  abbrev D : ClpSends
  D = done p q w recs sim linked s os (Range n i u) calm c lc from t e

  abbrev W : World
  W = after p q w recs sim linked s os (Range n i u) calm c lc from t e

  abbrev qs' : ℕ → List Registered
  qs' = queries_at W

  -- what it sends, to processes
  abbrev DS : List Posted
  DS = sends p q w recs sim linked s os (Range n i u) calm c lc from t e

  here : qs' c ≡ D.clp.queries
  here = ap (λ (z : ClpState). z.queries) (get_or-set_same w.clps c D.clp no_clp (let o = sim.size in omega arith))

  else_same : (d : ℕ) → (d ≡ c → ⊥) → qs' d ≡ qs d
  else_same d ne = ap (λ (z : ClpState). z.queries) (get_or-set_other w.clps c d D.clp no_clp ne)

  tk : Took (AtClp c) from w.links t
  tk = took (AtClp c) from w.links t e

  mail_in : In (mail_to (AtClp c) from t.message) (mail w.links)
  mail_in = there p q w recs sim linked s os (Range n i u) calm c lc from t e

  letter : MailAt p s (is_over os) (Range n i u) (AtClp c) from t.message
  letter = calm.letters _ mail_in

  link : LinkOk p (AtClp c) from
  link = (linked.mail _ mail_in).0

  -- its number names it
  named : process p (number p from) ≡ from
  named = number_linked p sim.tree c from link

  not_self : from ≡ AtClp c → ⊥
  not_self f = not_own_port p w.line sim.tree c c lc lc (subst (LinkOk p (AtClp c)) f link)

  -- links from another CLP: as they were, or without their first
  old_link : (to : Process) (d : ℕ) → (d ≡ c → ⊥) → between to (AtClp d) W.links ≡ between to (AtClp d) t.links
  old_link to d ne = posted_else (AtClp c) to (AtClp d) DS t.links (λ g. ne (clp_parts d c g))

  less : (a b : Process) (m : Message) → In m (between a b t.links) → In m (between a b w.links)
  less a b m j = elim (cases_Bool (is_process a (AtClp c) && is_process b from)) [
    | inl f ↦ (let pr = and_parts (is_process a (AtClp c)) (is_process b from) f in
        let ea = process_same a (AtClp c) pr.0 in let eb = process_same b from pr.1 in
        subst (λ x. In m (between x b w.links)) (sym ea)
        (subst (λ y. In m (between (AtClp c) y w.links)) (sym eb)
        (subst (In m) (sym tk.head) (inr (subst (λ y. In m (between (AtClp c) y t.links)) eb
        (subst (λ x. In m (between x b t.links)) ea j))))))
    | inr f ↦ subst (In m) (tk.others a b (λ pr. let g : (is_process a (AtClp c) && is_process b from) ≡ true =
        (let x : is_process a (AtClp c) ≡ true = ap (is_process a) (sym pr.0)
        ∙ process_self a in let y : is_process b from ≡ true = ap (is_process b) (sym pr.1)
        ∙ process_self b in rw (x, y)) in cc)) j
  ]

  tidy_less : (a b : Process) → Tidy (between a b w.links) → Tidy (between a b t.links)
  tidy_less a b h = elim (cases_Bool (is_process a (AtClp c) && is_process b from)) [
    | inl f ↦ (let pr = and_parts (is_process a (AtClp c)) (is_process b from) f in
        let ea = process_same a (AtClp c) pr.0 in let eb = process_same b from pr.1 in
        subst (λ x. Tidy (between x b t.links)) (sym ea)
        (subst (λ y. Tidy (between (AtClp c) y t.links)) (sym eb)
        (subst Tidy tk.head (subst (λ y. Tidy (between (AtClp c) y w.links)) eb
        (subst (λ x. Tidy (between x b w.links)) ea h))).1))
    | inr f ↦ subst Tidy (sym (tk.others a b (λ pr. let g : (is_process a (AtClp c) && is_process b from) ≡ true =
        (let x : is_process a (AtClp c) ≡ true = ap (is_process a) (sym pr.0)
        ∙ process_self a in let y : is_process b from ≡ true = ap (is_process b) (sym pr.1)
        ∙ process_self b in rw (x, y)) in cc))) h
  ]

  -- a message from another process was there, one from c was there or was sent
  source : (to : Process) (d : ℕ) (m : Message) → In m (between to (AtClp d) W.links)
      → In m (between to (AtClp d) t.links)
      ⊎ ((d ≡ c) × (y : Sent) × In y D.sent × (process p y.to ≡ to) × (m ≡ y.message))
  source to d m j = elim (cases_eq d c) [
    | inr ne ↦ inl (subst (In m) (old_link to d ne) j)
    | inl f ↦ elim (in_cases (between to (AtClp c) t.links) (sent_for to DS) m
        (subst (In m) (posted_for (AtClp c) to DS t.links) (subst (λ z. In m (between to (AtClp z) W.links)) f j))) [
          | inl k ↦ inl (subst (λ z. In m (between to (AtClp z) t.links)) (sym f) k)
          | inr k ↦ inr (let o = sends_in to DS m k in let o2 = in_map (posted p) D.sent o.0 o.1 in (
            f,
            o2.0,
            o2.1,
            sym (ap (λ (y : Posted). y.to) o2.2) ∙ o.2,
            o.3 ∙ ap (λ (y : Posted). y.message) o2.2,
          ))
        ]
  ]

  -- c sends tidily, and has sent no Finish before
  tidy_after : Tidy (map (λ (y : Sent). y.message) D.sent)
      → ((to : Process) (m : Message) → In m (between to (AtClp c) w.links) → IsFinish m → ⊥) → (to : Process) (d : ℕ)
      → Tidy (between to (AtClp d) W.links)
  tidy_after sent none to d = elim (cases_eq d c) [
    | inr ne ↦ subst Tidy (sym (old_link to d ne)) (tidy_less to (AtClp d) (order.tidy to d))
    | inl f ↦ subst (λ z. Tidy (between to (AtClp z) W.links)) (sym f)
        (subst Tidy (sym (posted_for (AtClp c) to DS t.links))
        (tidy_append (between to (AtClp c) t.links) (sent_for to DS) (tidy_less to (AtClp c) (order.tidy to c))
        (tidy_sends p to D.sent sent) (λ m j g. none to m (less to (AtClp c) m j) g)))
  ]

  -- nothing is sent
  tidy_still : D.sent ≡ [] → (to : Process) (d : ℕ) → Tidy (between to (AtClp d) W.links)
  tidy_still none to d = subst Tidy (sym (elim (cases_eq d c) [
    | inr ne ↦ old_link to d ne
    | inl f ↦ subst (λ z. between to (AtClp z) W.links ≡ between to (AtClp z) t.links) (sym f)
        (posted_for (AtClp c) to DS t.links ∙ (ap (λ z. between to (AtClp c) t.links ++ sent_for to (map (posted p) z))
        none ∙ append-nil (between to (AtClp c) t.links)))
  ])) (tidy_less to (AtClp d) (order.tidy to d))

  -- where c waits for somebody it has sent no Finish
  no_finish : (r : Registered) → In r (qs c) → r.num ≡ n → (r.waits ≡ [] → ⊥) → (to : Process) (m : Message)
      → In m (between to (AtClp c) w.links) → IsFinish m → ⊥
  no_finish r ir en nw to m j f = go m j f
    where
      go : (m : Message) → In m (between to (AtClp c) w.links) → IsFinish m → ⊥
      go (message.Finish k z) j f = (let o = order.ends to c k z j in
          nw (subst (λ (x : Registered). x.waits ≡ [])
          (one_reg (qs c) o.0 r (sim.queries.alone c lc) o.1 ir (o.2 ∙ sym en)) o.3))
      go (message.Wake k z) j f = f
      go (message.Ask k z y) j f = f
      go (message.Put r_n r_t v r_c) j f = f
      go (message.Cut r_n r_t v) j f = f
      go (message.Give g) j f = f
      go (message.Move v z y) j f = f
      go (message.Grow k z y x) j f = f

  waits_not : (d : ℕ) (xs : List ℕ) → In d xs → xs ≡ [] → ⊥
  waits_not d xs j f = subst (In d) f j

  -- a Give or another letter goes on: the queries stay
  module _ (same : D.clp.queries ≡ qs c) where
    all_same : (d : ℕ) → qs' d ≡ qs d
    all_same d = elim (cases_eq d c) [
      | inl f ↦ subst (λ z. qs' z ≡ qs z) (sym f) (here ∙ same)
      | inr ne ↦ else_same d ne
    ]

    waiting_same : (k : Num) (d x : ℕ) → Waiting k qs d x → Waiting k qs' d x
    waiting_same k d x h = (h.0, subst (In h.0) (sym (all_same d)) h.1, h.2, h.3)

    ended_same : (k : Num) (d : ℕ) → Ended k qs d → Ended k qs' d
    ended_same k d h = (h.0, subst (In h.0) (sym (all_same d)) h.1, h.2, h.3)

  -- its agent is one of the plan's
  low_give : (g : GiveRow) → t.message ≡ message.Give g → g.num.agent < length p.agents
  low_give g em =
      let ok : MailOk p sim.issued (message.Give g) = subst (MailOk p sim.issued) em
      (sim.core.mail t.message (map_in message_of (mail w.links) _ mail_in)).0 in
      agent_low p q w recs sim linked _ ok.1

  give_order : (g : GiveRow) → t.message ≡ message.Give g → InOrder p n qs' W.links
  give_order g em =
      let lt : MailAt p s (is_over os) (Range n i u) (AtClp c) from (message.Give g) =
      subst (MailAt p s (is_over os) (Range n i u) (AtClp c) from) em letter in
      by from refl lt.2 lt.1
    where
      by : (f : Process) → from ≡ f → IsClp f → g.num ≡ n → InOrder p n qs' W.links
      by (AtAgent a) ef h en = absurd h
      by (AtClp d0) ef h en =
          let head : In (message.Give g) (between (AtClp c) (AtClp d0) w.links) =
          subst (λ z. In (message.Give g) (between (AtClp c) z w.links)) ef
          (subst (In (message.Give g)) (sym tk.head) (inl (sym em))) in
          let wt = order.gives c d0 g head in
          let sends : D.sent ≡ to_agent (hub_of p c) g ∷ [] =
          ap (λ m. (clp_after (hub_of p c) (number p from) m (clp_at w c)).sent) em in
          let same : D.clp.queries ≡ qs c = ap (λ m.
          (clp_after (hub_of p c) (number p from) m (clp_at w c)).clp.queries) em in
          let one : (y : Sent) → In y D.sent → y ≡ to_agent (hub_of p c) g = λ y j.
          elim (subst (In y) sends j) [ inl f ↦ f | inr b ↦ absurd b ] in
          let la : g.num.agent < length p.agents = low_give g em in
          let target : process p wt.0.from ≡ process p (get_or (to_agents p c 0 p.agents) g.num.agent 0) =
          (sim.queries.reg c wt.0 lc wt.1).2 ∙ (ap (λ (z : Num). toward p c z.agent) (wt.2 ∙ sym en)
          ∙ sym (toward_is p sim.tree c lc g.num.agent la)) in
          record {
            tidy = tidy_after (subst (λ z. Tidy (map (λ (y : Sent). y.message) z)) (sym sends) ((λ f. absurd f), tt))
                (no_finish wt.0 wt.1 wt.2 (waits_not d0 wt.0.waits wt.3));
            gives = λ d x g' j. waiting_same same n d x (elim (source (AtClp d) x (message.Give g') j) [
              | inl k ↦ order.gives d x g' (less (AtClp d) (AtClp x) (message.Give g') k)
              | inr k ↦ subst (Waiting n qs d) (sym k.0)
                  (order.up c d wt.0 lc wt.1 wt.2 (target
                  ∙ (ap (λ (z : Sent). process p z.to) (sym (one k.1 k.2)) ∙ k.3)) (waits_not d0 wt.0.waits wt.3))
            ]);
            ends = λ to x k z j. ended_same same n x (elim (source to x (message.Finish k z) j) [
              | inl h' ↦ order.ends to x k z (less to (AtClp x) (message.Finish k z) h')
              | inr h' ↦ absurd (let f : message.Finish k z ≡ message.Give g = h'.4
                  ∙ ap (λ (y : Sent). y.message) (one h'.1 h'.2) in cc)
            ]);
            up = λ d x r ld ir er ef' nw. waiting_same same n x d
                (order.up d x r ld (subst (In r) (all_same same d) ir) er ef' nw);
            asks = λ d x k z y j. waiting_same same n x d (elim (source (AtClp d) x (message.Ask k z y) j) [
              | inl h' ↦ order.asks d x k z y (less (AtClp d) (AtClp x) (message.Ask k z y) h')
              | inr h' ↦ absurd (let f : message.Ask k z y ≡ message.Give g = h'.4
                  ∙ ap (λ (o : Sent). o.message) (one h'.1 h'.2) in cc)
            ]);
          }

  -- a class query comes
  ask_order : (k : Num) (z : Stamp) (j : ℕ) (x : Window) → t.message ≡ message.Ask k z (query.Class j x)
      → InOrder p n qs' W.links
  ask_order k z j x em =
      let lt : MailAt p s (is_over os) (Range n i u) (AtClp c) from (message.Ask k z (query.Class j x)) =
      subst (MailAt p s (is_over os) (Range n i u) (AtClp c) from) em letter in
      let ek : k ≡ n = lt.1.0 in
      let i0 : In (mail_to (AtClp c) from (message.Ask k z (query.Class j x))) (mail w.links) =
      subst (λ m. In (mail_to (AtClp c) from m) (mail w.links)) em mail_in in
      let fresh : has_reg k (qs c) ≡ false = unregistered p q w recs sim c lc from t k z j x i0 in
      let no_reg : (r : Registered) → In r (qs c) → r.num ≡ n
      → ⊥ = λ r ir en. (let a = has_reg_in k (qs c) r ir (en ∙ sym ek) in cc) in
      let s1 : ClpSends = watch_all (hub_of p c) k z x (class_row p.layout.classes j).first
      (class_row p.layout.classes j).count (clp_at w c) in
      let ds : List ℕ = filter (sent_on (hub_of p c) s1.clp.bound (number p from) j z x) (ports p c) in
      let r0 : Registered = reg_of (hub_of p c) (number p from) k z j x ds in
      let is : D ≡ and_then s1 (registered (hub_of p c) (number p from) k z j x) =
      ap (λ m. clp_after (hub_of p c) (number p from) m (clp_at w c)) em
      ∙ ap (λ b. cond b (no_clp_sends (clp_at w c)) (and_then s1 (registered (hub_of p c) (number p from) k z j x)))
      fresh in
      let sends : D.sent ≡ s1.sent ++ forwards (hub_of p c) (number p from) r0 ds = ap (λ (y : ClpSends). y.sent) is in
      let now : D.clp.queries ≡ add_reg r0 (qs c) = ap (λ (y : ClpSends). y.clp.queries) is
      ∙ ap (add_reg r0) (watch_leaves p c k z x (class_row p.layout.classes j).first
      (class_row p.layout.classes j).count (clp_at w c)).0 in
      let into : (d : ℕ) (r : Registered) → In r (qs d) → In r (qs' d) = λ d r ir. elim (cases_eq d c) [
        | inl f ↦ subst (λ y. In r (qs' y)) (sym f)
            (subst (In r) (sym (here ∙ now)) (in_add_reg r0 (qs c) r (inr (subst (λ y. In r (qs y)) f ir))))
        | inr ne ↦ subst (In r) (sym (else_same d ne)) ir
      ] in
      let new_in : In r0 (qs' c) = subst (In r0) (sym (here ∙ now)) (in_add_reg r0 (qs c) r0 (inl refl)) in
      let up_to : (d y : ℕ) → Waiting n qs d y → Waiting n qs' d y = λ d y h. (h.0, into d h.0 h.1, h.2, h.3) in
      let none : (to : Process) (m : Message) → In m (between to (AtClp c) w.links) → IsFinish m → ⊥ = no_end no_reg in
      let asked : (d : ℕ) → from ≡ AtClp d → Waiting n qs d c = λ d ef.
      order.asks c d k z (query.Class j x) (subst
      (λ y. In (message.Ask k z (query.Class j x)) (between (AtClp c) y w.links)) ef
      (subst (In (message.Ask k z (query.Class j x))) (sym tk.head) (inl (sym em)))) in
      let asked_ok : In (message.Ask k z (query.Class j x)) sim.issued =
      (sim.core.mail (message.Ask k z (query.Class j x)) (map_in message_of (mail w.links) _ i0)).0 in
      let back : from ≡ toward p c k.agent = (sim.queries.asks c from k z j x i0).1 in
      let split : (y : Sent) → In y D.sent → ((g : GiveRow) × (y ≡ to_agent (hub_of p c) g))
      ⊎ (((ds ≡ []) × (y ≡ record { to = number p from; message = message.Finish k z }))
      ⊎ ((e' : ℕ) × In e' ds × (y ≡ record { to = e'; message = message.Ask k z (query.Class j x) }))) = λ y iy.
      elim (in_cases s1.sent (forwards (hub_of p c) (number p from) r0 ds) y (subst (In y) sends iy)) [
        | inl h ↦ inl (watch_gives p c k z x (class_row p.layout.classes j).first (class_row p.layout.classes j).count
            (clp_at w c) y h)
        | inr h ↦ inr (forwards_is p c (number p from) r0 ds y h)
      ] in
      record {
        tidy = tidy_after (subst (λ y. Tidy (map (λ (o : Sent). o.message) y)) (sym sends)
            (gives_tidy s1.sent (forwards (hub_of p c) (number p from) r0 ds) p c
            (λ y h. watch_gives p c k z x (class_row p.layout.classes j).first (class_row p.layout.classes j).count
            (clp_at w c) y h) (forwards_tidy p c (number p from) r0 ds))) none;
        gives = λ d y g h. elim (source (AtClp d) y (message.Give g) h) [
          | inl o ↦ up_to d y (order.gives d y g (less (AtClp d) (AtClp y) (message.Give g) o))
          | inr o ↦ elim (split o.1 o.2) [
            | inl v ↦ (let gn : g.num ≡ n = (let l = calm_give (AtClp d) g o.1 o.2 (sym o.4) in l) in
                let same : g ≡ v.0 = give_parts g v.0 (o.4 ∙ ap (λ (a : Sent). a.message) v.1) in
                let kv : k ≡ v.0.num = ek ∙ (sym gn ∙ ap (λ (a : GiveRow). a.num) same) in
                let lv : v.0.num.agent < length p.agents =
                subst (λ (a : Num). a.agent < length p.agents) kv (agent_low p q w recs sim linked _ asked_ok) in
                let f : toward p c v.0.num.agent ≡ AtClp d =
                sym (toward_is p sim.tree c lc v.0.num.agent lv)
                ∙ (ap (λ (a : Sent). process p a.to) (sym v.1) ∙ o.3) in
                let ef : from ≡ AtClp d = back ∙ (ap (λ (a : Num). toward p c a.agent) kv ∙ f) in
                up_to d y (subst (Waiting n qs d) (sym o.0) (asked d ef)))
            | inr v ↦ absurd (elim v [
              | inl a ↦ not_finish g k z (o.4 ∙ ap (λ (b : Sent). b.message) a.1)
              | inr a ↦ not_ask g k z j x (o.4 ∙ ap (λ (b : Sent). b.message) a.2)
            ])
          ]
        ];
        ends = λ to y k' z' h. elim (source to y (message.Finish k' z') h) [
          | inl o ↦ (let a = order.ends to y k' z' (less to (AtClp y) (message.Finish k' z') o) in
              (a.0, into y a.0 a.1, a.2, a.3))
          | inr o ↦ elim (split o.1 o.2) [
            | inl v ↦ absurd (not_finish v.0 k' z' (sym (o.4 ∙ ap (λ (b : Sent). b.message) v.1)))
            | inr v ↦ elim v [
              | inl a ↦ subst (Ended n qs') (sym o.0) (r0, new_in, ek, a.0)
              | inr a ↦ absurd (finish_ask k' z' k z j x (o.4 ∙ ap (λ (b : Sent). b.message) a.2))
            ]
          ]
        ];
        up = λ d y r ld ir er ef nw. elim (cases_eq d c) [
          | inr ne ↦ up_to y d (order.up d y r ld (subst (In r) (else_same d ne) ir) er ef nw)
          | inl f ↦ elim (add_reg_in r0 (qs c) r (subst (In r) (here ∙ now) (subst (λ a. In r (qs' a)) f ir))) [
            | inl g ↦ up_to y d (subst (Waiting n qs y) (sym f)
                (asked y (sym named ∙ (sym (ap (λ (a : Registered). process p a.from) g) ∙ ef))))
            | inr o ↦ up_to y d (order.up d y r ld (subst (λ a. In r (qs a)) (sym f) o) er ef nw)
          ]
        ];
        asks = λ d y k' z' q' h. elim (source (AtClp d) y (message.Ask k' z' q') h) [
          | inl o ↦ up_to y d (order.asks d y k' z' q' (less (AtClp d) (AtClp y) (message.Ask k' z' q') o))
          | inr o ↦ elim (split o.1 o.2) [
            | inl v ↦ absurd (ask_give k' z' q' v.0 (o.4 ∙ ap (λ (b : Sent). b.message) v.1))
            | inr v ↦ elim v [
              | inl a ↦ absurd (ask_finish k' z' q' k z (o.4 ∙ ap (λ (b : Sent). b.message) a.1))
              | inr a ↦ subst (λ b. Waiting n qs' b d) (sym o.0) (
                r0,
                new_in,
                ek,
                subst (λ b. In b ds)
                    (clp_parts a.0 d (sym (process_clp p a.0
                    (sim.tree.inside c a.0 (in_filter (sent_on (hub_of p c) s1.clp.bound (number p from) j z x)
                    (ports p c) a.0 a.1).0)) ∙ (sym (ap (λ (b : Sent). process p b.to) a.2) ∙ o.3))) a.1,
              )
            ]
          ]
        ];
      }
    where
      no_end : ((r : Registered) → In r (qs c) → r.num ≡ n → ⊥) → (to : Process) (m : Message)
          → In m (between to (AtClp c) w.links) → IsFinish m → ⊥
      no_end nr to (message.Finish a b) h f = (let o = order.ends to c a b h in nr o.0 o.1 o.2)
      no_end nr to (message.Wake a b) h f = f
      no_end nr to (message.Ask a b y) h f = f
      no_end nr to (message.Put r_n r_t v r_c) h f = f
      no_end nr to (message.Cut r_n r_t v) h f = f
      no_end nr to (message.Give g) h f = f
      no_end nr to (message.Move v a y) h f = f
      no_end nr to (message.Grow a b y v) h f = f

      -- each Give that is sent is of n
      calm_give : (to : Process) (g : GiveRow) (y : Sent) → In y D.sent → y.message ≡ message.Give g → g.num ≡ n
      calm_give to g y h f = (let a = (good p q w recs sim linked s os (Range n i u) calm c lc from t e).1.0 y h in
          (subst (MailAt p s (is_over os) (Range n i u) (process p y.to) (AtClp c)) f a).1)

      give_parts : (g h : GiveRow) → message.Give g ≡ message.Give h → g ≡ h
      give_parts g h f = cc

      not_finish : (g : GiveRow) (a : Num) (b : Stamp) → message.Give g ≡ message.Finish a b → ⊥
      not_finish g a b f = cc

      not_ask : (g : GiveRow) (a : Num) (b : Stamp) (y : ℕ) (v : Window)
          → message.Give g ≡ message.Ask a b (query.Class y v) → ⊥
      not_ask g a b y v f = cc

      finish_ask : (k' : Num) (z' : Stamp) (a : Num) (b : Stamp) (y : ℕ) (v : Window)
          → message.Finish k' z' ≡ message.Ask a b (query.Class y v) → ⊥
      finish_ask k' z' a b y v f = cc

      ask_give : (k' : Num) (z' : Stamp) (q' : Query) (g : GiveRow) → message.Ask k' z' q' ≡ message.Give g → ⊥
      ask_give k' z' q' g f = cc

      ask_finish : (k' : Num) (z' : Stamp) (q' : Query) (a : Num) (b : Stamp)
          → message.Ask k' z' q' ≡ message.Finish a b → ⊥
      ask_finish k' z' q' a b f = cc

  -- a Finish comes
  finish_order : (k : Num) (z : Stamp) → t.message ≡ message.Finish k z → InOrder p n qs' W.links
  finish_order k z em = by from refl (sim.fits (mail_to (AtClp c) from (message.Finish k z)) i0).1
    where
      i0 : In (mail_to (AtClp c) from (message.Finish k z)) (mail w.links)
      i0 = subst (λ m. In (mail_to (AtClp c) from m) (mail w.links)) em mail_in

      ek : k ≡ n
      ek = (let a : MailAt p s (is_over os) (Range n i u) (AtClp c) from (message.Finish k z) =
          subst (MailAt p s (is_over os) (Range n i u) (AtClp c) from) em letter in a.1)

      finish_no : (k' : Num) (z' : Stamp) (g : GiveRow) → message.Give g ≡ message.Finish k' z' → ⊥
      finish_no k' z' g f = cc

      ask_no : (k' : Num) (z' : Stamp) (q' : Query) (a : Num) (b : Stamp) → message.Ask k' z' q' ≡ message.Finish a b
          → ⊥
      ask_no k' z' q' a b f = cc

      -- what is sent where nobody is waited for any more
      ends_is : (ws : List ℕ) (r : Registered) (y : Sent) → In y (finish_if ws r) → (ws ≡ [])
          × (y ≡ record { to = r.from; message = message.Finish r.num r.stamp })
      ends_is [] r y h = (refl, elim h [ inl f ↦ f | inr b ↦ absurd b ])
      ends_is (a ∷ ws) r y h = absurd h

      ends_tidy : (ws : List ℕ) (r : Registered) → Tidy (map (λ (y : Sent). y.message) (finish_if ws r))
      ends_tidy [] r = ((λ f x h g. h), tt)
      ends_tidy (a ∷ ws) r = tt

      keep : (d0 d : ℕ) (xs : List ℕ) → In d xs → (d ≡ d0 → ⊥) → In d (without d0 xs)
      keep d0 d xs h ne = filter_in (λ e'. not (d0 == e')) xs d h
          (let f : (d0 == d) ≡ false = grind (arith, nat_tests, ne) in ap not f)

      was : D.sent ≡ [] → (to : Process) (d : ℕ) (m : Message) → In m (between to (AtClp d) W.links)
          → In m (between to (AtClp d) t.links)
      was none to d m j = elim (source to d m j) [ inl h ↦ h | inr o ↦ absurd (subst (In o.1) none o.2) ]

      idle : D.clp.queries ≡ qs c → D.sent ≡ [] → InOrder p n qs' W.links
      idle same none = record {
        tidy = tidy_still none;
        gives = λ d y g j. waiting_same same n d y
            (order.gives d y g (less (AtClp d) (AtClp y) (message.Give g) (was none (AtClp d) y (message.Give g) j)));
        ends = λ to y k' z' j. ended_same same n y
            (order.ends to y k' z' (less to (AtClp y) (message.Finish k' z') (was none to y (message.Finish k' z') j)));
        up = λ d y r ld ir er ef' nw. waiting_same same n y d
            (order.up d y r ld (subst (In r) (all_same same d) ir) er ef' nw);
        asks = λ d y k' z' q' j. waiting_same same n y d
            (order.asks d y k' z' q' (less (AtClp d) (AtClp y) (message.Ask k' z' q')
            (was none (AtClp d) y (message.Ask k' z' q') j)));
      }

      -- the Ask of the open query to a CLP that has it registered
      asked_twice : (k' : Num) (z' : Stamp) (q' : Query) (d y : ℕ) → d < N → (r : Registered) → In r (qs d) → r.num ≡ n
          → In (mail_to (AtClp d) (AtClp y) (message.Ask k' z' q')) (mail w.links) → ⊥
      asked_twice k' z' (query.One v) d y ld r ir er j = (let a = calm.letters _ j in a.1)
      asked_twice k' z' (query.Class i' u') d y ld r ir er j =
          let a = calm.letters _ j in
          let f = unregistered p q w recs sim d ld (AtClp y) t k' z' i' u' j in
          let g = has_reg_in k' (qs d) r ir (er ∙ sym a.1.0) in cc

      ended : (d0 : ℕ) → from ≡ AtClp d0 → (r : Registered) → r.num ≡ k
          → OneEnd k (qs c) (finish_in k d0 (qs c)).queries r (shorter true p c d0 r)
          → (finish_in k d0 (qs c)).sent ≡ finish_if (without d0 r.waits) r → has d0 r.waits ≡ true
          → InOrder p n qs' W.links
      ended d0 ef r er0 oe es hd =
          let is : D ≡ clp_after (hub_of p c) d0 (message.Finish k z) (clp_at w c) =
          ap (λ m. clp_after (hub_of p c) (number p from) m (clp_at w c)) em
          ∙ ap (λ y. clp_after (hub_of p c) (number p y) (message.Finish k z) (clp_at w c)) ef in
          let now : D.clp.queries ≡ (finish_in k d0 (qs c)).queries = ap (λ (y : ClpSends). y.clp.queries) is in
          let sends : D.sent ≡ finish_if (without d0 r.waits) r = ap (λ (y : ClpSends). y.sent) is ∙ es in
          let er : r.num ≡ n = er0 ∙ ek in
          let r' : Registered = shorter true p c d0 r in
          let new_in : In r' (qs' c) = subst (In r') (sym (here ∙ now)) oe.now in
          let head : In (message.Finish k z) (between (AtClp c) (AtClp d0) w.links) =
          subst (λ y. In (message.Finish k z) (between (AtClp c) y w.links)) ef
          (subst (In (message.Finish k z)) (sym tk.head) (inl (sym em))) in
          let far : Ended n qs d0 = order.ends (AtClp c) d0 k z head in
          let ld0 : d0 < N = sim.tree.inside c d0 (subst (LinkOk p (AtClp c)) ef link) in
          let tail : Tidy (t.message ∷ between (AtClp c) from t.links) =
          subst Tidy tk.head (subst (λ y. Tidy (between (AtClp c) y w.links)) (sym ef) (order.tidy (AtClp c) d0)) in
          let no_more : (m : Message) → In m (between (AtClp c) (AtClp d0) t.links) → IsAnswer m
          → ⊥ = λ m j g. tail.0 (subst IsFinish (sym em) tt) m
          (subst (λ y. In m (between (AtClp c) y t.links)) (sym ef) j) g in
          let self : d0 ≡ c → ⊥ = λ f. not_self (ef ∙ ap AtClp f) in
          let mine : (x : Registered) → In x (qs c) → x.num ≡ n
          → x ≡ r = λ x ix ex. one_reg (qs c) x r (sim.queries.alone c lc) ix oe.old (ex ∙ sym er) in
          let waits : r.waits ≡ [] → ⊥ = λ f. (let g : has d0 [] ≡ true = subst (λ y. has d0 y ≡ true) f hd in cc) in
          -- who waits for another than d0 still does
          let kept : (d y : ℕ) → Waiting n qs d y → (d ≡ c → y ≡ d0 → ⊥)
          → Waiting n qs' d y = λ d y v ne. elim (cases_eq d c) [
            | inr nd ↦ (v.0, subst (In v.0) (sym (else_same d nd)) v.1, v.2, v.3)
            | inl f ↦ subst (λ a. Waiting n qs' a y) (sym f) (
              r',
              new_in,
              er,
              keep d0 y r.waits
                  (subst (λ (a : Registered). In y a.waits) (mine v.0 (subst (λ a. In v.0 (qs a)) f v.1) v.2) v.3)
                  (λ g. ne f g),
            )
          ] in
          let nw_r : (to : Process) (m : Message) → In m (between to (AtClp c) w.links) → IsFinish m
          → ⊥ = no_finish r oe.old er waits in
          record {
            tidy = tidy_after (subst (λ y. Tidy (map (λ (a : Sent). a.message) y)) (sym sends)
                (ends_tidy (without d0 r.waits) r)) nw_r;
            gives = λ d y g j. elim (source (AtClp d) y (message.Give g) j) [
              | inl o ↦ kept d y (order.gives d y g (less (AtClp d) (AtClp y) (message.Give g) o))
                  (λ f g'. no_more (message.Give g)
                  (subst (λ a. In (message.Give g) (between (AtClp c) (AtClp a) t.links)) g'
                  (subst (λ a. In (message.Give g) (between (AtClp a) (AtClp y) t.links)) f o)) tt)
              | inr o ↦ absurd (finish_no r.num r.stamp g (o.4
                  ∙ ap (λ (a : Sent). a.message) (ends_is (without d0 r.waits) r o.1 (subst (In o.1) sends o.2)).1))
            ];
            ends = λ to y k' z' j. elim (source to y (message.Finish k' z') j) [
              | inr o ↦ subst (Ended n qs') (sym o.0)
                  (r', new_in, er, (ends_is (without d0 r.waits) r o.1 (subst (In o.1) sends o.2)).0)
              | inl o ↦ (let a = order.ends to y k' z' (less to (AtClp y) (message.Finish k' z') o) in
                  elim (cases_eq y c) [
                    | inr ny ↦ (a.0, subst (In a.0) (sym (else_same y ny)) a.1, a.2, a.3)
                    | inl f ↦ absurd (nw_r to (message.Finish k' z')
                        (subst (λ b. In (message.Finish k' z') (between to (AtClp b) w.links)) f
                        (less to (AtClp y) (message.Finish k' z') o)) tt)
                  ])
            ];
            up = λ d y x ld ix ex ef' nw. elim (cases_eq d c) [
              | inr nd ↦ kept y d (order.up d y x ld (subst (In x) (else_same d nd) ix) ex ef' nw)
                  (λ f g. nw (subst (λ (a : Registered). a.waits ≡ [])
                  (one_reg (qs d) far.0 x (sim.queries.alone d ld) (subst (λ a. In far.0 (qs a)) (sym g) far.1)
                  (subst (In x) (else_same d nd) ix) (far.2 ∙ sym ex)) far.3))
              | inl f ↦ kept y d (subst (Waiting n qs y) (sym f)
                  (elim (oe.back x (subst (In x) (here ∙ now) (subst (λ a. In x (qs' a)) f ix))) [
                    | inl g ↦ order.up c y r lc oe.old er (sym (ap (λ (a : Registered). process p a.from) g) ∙ ef') waits
                    | inr o ↦ absurd (o.1 (ex ∙ sym ek))
                  ])) (λ _ g. self (sym g ∙ f))
            ];
            asks = λ d y k' z' q' j. elim (source (AtClp d) y (message.Ask k' z' q') j) [
              | inl o ↦ kept y d (order.asks d y k' z' q' (less (AtClp d) (AtClp y) (message.Ask k' z' q') o))
                  (λ f g. asked_twice k' z' q' d y (subst (λ a. a < N) (sym g) ld0) far.0
                  (subst (λ a. In far.0 (qs a)) (sym g) far.1) far.2
                  (between_mail (AtClp d) (AtClp y) w.links (message.Ask k' z' q')
                  (less (AtClp d) (AtClp y) (message.Ask k' z' q') o)))
              | inr o ↦ absurd (ask_no k' z' q' r.num r.stamp (o.4
                  ∙ ap (λ (a : Sent). a.message) (ends_is (without d0 r.waits) r o.1 (subst (In o.1) sends o.2)).1))
            ];
          }

      by : (f : Process) → from ≡ f → IsClp f → InOrder p n qs' W.links
      by (AtAgent a) ef h = absurd h
      by (AtClp d0) ef h =
          let is : D ≡ clp_after (hub_of p c) d0 (message.Finish k z) (clp_at w c) =
          ap (λ m. clp_after (hub_of p c) (number p from) m (clp_at w c)) em
          ∙ ap (λ y. clp_after (hub_of p c) (number p y) (message.Finish k z) (clp_at w c)) ef in
          let go : (finish_in k d0 (qs c)).queries ≡ qs c → (finish_in k d0 (qs c)).sent ≡ []
          → InOrder p n qs' W.links = λ a b. idle (ap (λ (y : ClpSends). y.clp.queries) is ∙ a)
          (ap (λ (y : ClpSends). y.sent) is ∙ b) in
          elim (finish_had k d0 (qs c)) [
            | inl o ↦ go o.0 o.1
            | inr o ↦ elim (finish_is true p c k d0 (qs c) (sim.queries.alone c lc)) [
              | inl v ↦ go v.0 v.1
              | inr v ↦ ended d0 ef v.0 v.1 v.2 v.3
                  (subst (λ (x : Registered). has d0 x.waits ≡ true)
                  (one_reg (qs c) o.0 v.0 (sim.queries.alone c lc) o.1 v.2.old (o.2 ∙ sym v.1)) o.3)
            ]
          ]

  -- any delivery at a CLP keeps the order
  pub order_clp : InOrder p n qs' W.links
  order_clp = by t.message refl letter
    where
      by : (m : Message) → t.message ≡ m → MailAt p s (is_over os) (Range n i u) (AtClp c) from m
          → InOrder p n qs' W.links
      by (message.Give g) em h = give_order g em
      by (message.Ask k z (query.One v)) em h = absurd h.1
      by (message.Ask k z (query.Class j x)) em h = ask_order k z j x em
      by (message.Finish k z) em h = finish_order k z em
      by (message.Put r_n r_t v r_c) em h = absurd h.1
      by (message.Cut r_n r_t v) em h = absurd h
      by (message.Move v z r) em h = absurd h.1
      by (message.Grow k z y x) em h = absurd h.1
      by (message.Wake k z) em h = absurd (let f : FitsAt N (length q.values) (AtClp c) from (message.Wake k z) =
          sim.fits (mail_to (AtClp c) from (message.Wake k z))
          (subst (λ m. In (mail_to (AtClp c) from m) (mail w.links)) em mail_in) in f.1)
