-- Along a legal run without a Commit a range query's Asks and Finishes cost at most two deliveries for each process.
use Rattle.std.proofs.Common.{◌≡◌, ℕ, zero, suc, ◌+◌, ◌*◌, ◌<◌, ◌≤◌, inl, inr, Bool, true, false, ◌||◌, List, [], ◌∷◌, map, length, get_or, set, refl, arith, ap, sym, ◌∙◌, subst, Option, Some, None, get_or-set_same, get_or-set_other}
use Rattle.std.proofs.lemmas.Bool.{cases_eq, cond_both}
use Rattle.pm_base.specs.Stamps.{num_eq}
use Rattle.pm_base.specs.declared.rows.Entry.{Entry}
use Rattle.pm_base.specs.declared.rows.Parts.{Parts}
use Rattle.pm_base.specs.declared.run.Event.{Event}
use Rattle.pm_base.specs.declared.run.Event.TheVariants as event
use Rattle.pm_base.specs.declared.stamp.Num.{Num}
use Rattle.pm_message.specs.declared.Message.{Message}
use Rattle.pm_message.specs.declared.Message.TheVariants as message
use Rattle.pm_model.specs.declared.State.{State}
use Rattle.pm_plan.specs.Plans.{IsValid}
use Rattle.pm_plan.specs.declared.plan.Plan.{Plan}
use Rattle.pm_queries.specs.declared.registered.Registered.{Registered}
use Rattle.pm_alp.specs.Agents.{agent_after, no_agent}
use Rattle.pm_clp.specs.Clps.{ClpSends, ClpState, clp_after}
use Rattle.pm_sim.proofs.Hubs.{unregistered}
use Rattle.pm_sim.proofs.Letters.{delivered_bag, in_map, sent_mail, taken, tally_map}
use Rattle.pm_sim.proofs.Places.{Sim, clp_at}
use Rattle.pm_sim.proofs.Promised.{plan_fits}
use Rattle.pm_sim.proofs.Sends.{Out}
use Rattle.pm_sim.proofs.Takings.{agent_out}
use Rattle.pm_sim.proofs.Wholes.{Whole, deliver_whole}
use Rattle.pm_sim.specs.Journals.{Delivers}
use Rattle.pm_sim.specs.Routings.{FitsAt, mail_to}
use Rattle.pm_sim.specs.Sims.{In, one_if, tally}
use Rattle.pm_sim.specs.Worlds.{Mail, Posted, Process, Taken, World, actor_of, addressed, after_events, arrives, clps_of, deliver, delivered, home, hub_of, mail, no_clp, number, posted, process, take_from}
use Rattle.pm_sim.specs.Worlds.Process.{AtAgent, AtClp}
use Rattle.pm_calm.proofs.Rounds.{reached_kept}
use Rattle.pm_cost.specs.Spending.{QueryCosts, ends_in, is_asked, is_end, query_rest, reg_rest, spent, spent_one, total, waits_rest}
use Rattle.pm_cost.proofs.QueryCosts.{clp_cost}

total_same : (n : ℕ) (f g : ℕ → ℕ) → ((d : ℕ) → d < n → g d ≡ f d) → total n g ≡ total n f
total_same zero f g h = refl
total_same (suc n) f g h =
    (let a = h n (omega arith) in let b = total_same n f g (λ d l. h d (omega arith)) in omega arith)

-- one part changes
pub total_at : (n : ℕ) (f g : ℕ → ℕ) (c : ℕ) → c < n → ((d : ℕ) → (d ≡ c → ⊥) → g d ≡ f d)
    → total n g + f c ≡ total n f + g c
total_at zero f g c lt h = absurd (omega arith)
total_at (suc n) f g c lt h = elim (cases_eq c n) [
  | inl e ↦ (let a = total_same n f g (λ d l. h d (λ k. omega arith)) in
      let x : f c ≡ f n = ap f e in let y : g c ≡ g n = ap g e in omega arith)
  | inr ne ↦ (let a = total_at n f g c (omega arith) h in let b = h n (λ k. ne (sym k)) in omega arith)
]

out_end : (m : Num) (a seq n : ℕ) (y : Message) → Out a seq n y → is_end m y ≡ false
out_end m a seq n (message.Wake k z) o = refl
out_end m a seq n (message.Ask k z q) o = refl
out_end m a seq n (message.Put r_n r_t v r_c) o = refl
out_end m a seq n (message.Cut r_n r_t v) o = refl
out_end m a seq n (message.Give g) o = absurd o
out_end m a seq n (message.Finish k z) o = absurd o
out_end m a seq n (message.Move v z r) o = absurd o
out_end m a seq n (message.Grow k z u w) o = absurd o

addressed_end : (m : Num) (a h : ℕ) (y : Message) → is_end m (addressed a h y).message ≡ is_end m y
addressed_end m a h (message.Wake k z) = refl
addressed_end m a h (message.Ask k z q) = refl
addressed_end m a h (message.Put r_n r_t v r_c) = refl
addressed_end m a h (message.Cut r_n r_t v) = refl
addressed_end m a h (message.Give g) = refl
addressed_end m a h (message.Finish k z) = refl
addressed_end m a h (message.Move v z r) = refl
addressed_end m a h (message.Grow k z u w) = refl

no_ends : {X : Type 0} (P : X → Bool) (xs : List X) → ((x : X) → In x xs → P x ≡ false) → tally P xs ≡ 0
no_ends P [] h = refl
no_ends P (x ∷ xs) h = (let e = h x (inl refl) in rw e (no_ends P xs (λ y i. h y (inr i))))

or_most : (a b : Bool) → one_if (a || b) 0 ≤ one_if a 0 + one_if b 0
or_most true true = omega arith
or_most true false = omega arith
or_most false true = omega arith
or_most false false = omega arith

-- to an agent no Ask goes
asked_agent : (m : Num) (N n b : ℕ) (f : Process) (y : Message) → FitsAt N n (AtAgent b) f y → is_asked m y ≡ false
asked_agent m N n b f (message.Ask k z q) h = absurd h
asked_agent m N n b f (message.Wake k z) h = refl
asked_agent m N n b f (message.Put r_n r_t v r_c) h = refl
asked_agent m N n b f (message.Cut r_n r_t v) h = refl
asked_agent m N n b f (message.Give g) h = refl
asked_agent m N n b f (message.Finish k z) h = refl
asked_agent m N n b f (message.Move v z r) h = refl
asked_agent m N n b f (message.Grow k z u w) h = refl

module _ (p : Plan) (q : State) (w : World) (recs : ℕ → Parts) (sim : Sim p q w recs) (m : Num) where
  clp_falls : (c : ℕ) (from : Process) (t : Taken) → take_from (AtClp c) from w.links ≡ Some t
      → query_rest p m (arrives p w (AtClp c) from t.message t.links)
      + one_if (is_asked m t.message || is_end m t.message) 0 ≤ query_rest p m w
  clp_falls c from t e =
      let i = (taken (AtClp c) from w.links t e).into _ (inl refl) in
      let fit = sim.fits (mail_to (AtClp c) from t.message) i in
      let r : ClpSends = clp_after (hub_of p c) (number p from) t.message (clp_at w c) in
      let cost = clp_cost (hub_of p c) m (number p from) t.message (clp_at w c)
      (λ k z j u f. unregistered p q w recs sim c fit.0 from t k z j u
      (subst (λ y. In (mail_to (AtClp c) from y) (mail w.links)) f i)) in
      let ends = tally_map (λ (y : Posted). mail_to y.to (AtClp c) y.message)
      (λ (x : Mail). is_end m x.message) (map (posted p) r.sent)
      ∙ tally_map (posted p) (λ (y : Posted). is_end m y.message) r.sent in
      let bag = (delivered_bag (AtClp c) from w.links t (map (posted p) r.sent) e).tallies
      (λ (x : Mail). is_end m x.message) in
      let here : reg_rest m (get_or (set w.clps c r.clp) c no_clp).queries ≡ reg_rest m r.clp.queries =
      ap (λ (z : ClpState). reg_rest m z.queries)
      (get_or-set_same w.clps c r.clp no_clp (let o = sim.size in let l = fit.0 in omega arith)) in
      let sum = total_at (clps_of p) (λ d. reg_rest m (get_or w.clps d no_clp).queries)
      (λ d. reg_rest m (get_or (set w.clps c r.clp) d no_clp).queries) c fit.0
      (λ d ne. ap (λ (z : ClpState). reg_rest m z.queries) (get_or-set_other w.clps c d r.clp no_clp ne)) in
      let most = or_most (is_asked m t.message) (is_end m t.message) in
      omega arith

  agent_falls : (a : ℕ) (from : Process) (t : Taken) → take_from (AtAgent a) from w.links ≡ Some t
      → query_rest p m (arrives p w (AtAgent a) from t.message t.links)
      + one_if (is_asked m t.message || is_end m t.message) 0 ≤ query_rest p m w
  agent_falls a from t e =
      let i = (taken (AtAgent a) from w.links t e).into _ (inl refl) in
      let fit = sim.fits (mail_to (AtAgent a) from t.message) i in
      let ss : List Message = (agent_after (actor_of p a) (get_or w.agents a no_agent) t.message).sent in
      let bag = (delivered_bag (AtAgent a) from w.links t (map (addressed a (home p a)) ss) e).tallies
      (λ (x : Mail). is_end m x.message) in
      let none = no_ends (λ (x : Mail). is_end m x.message) (sent_mail (AtAgent a) (map (addressed a (home p a)) ss))
      (λ x j. (let o = in_map (λ (y : Posted). mail_to y.to (AtAgent a) y.message) (map (addressed a (home p a)) ss)
      x j in
      let o2 = in_map (addressed a (home p a)) ss o.0 o.1 in
      let g = agent_out p q w recs sim a from t.message i fit o2.0 o2.1 in
      ap (λ (z : Mail). is_end m z.message) o.2 ∙ (ap (λ (z : Posted). is_end m z.message) o2.2
      ∙ (addressed_end m a (home p a) o2.0 ∙ out_end m a g.0 (length q.values) o2.0 g.1)))) in
      let most = or_most (is_asked m t.message) (is_end m t.message) in
      let no_ask : one_if (is_asked m t.message) 0 ≡ 0 =
      ap (λ b. one_if b 0) (asked_agent m (clps_of p) (length q.values) a from t.message fit) in
      omega arith

  pub deliver_cost : (to from : Process)
      → query_rest p m (deliver p w to from) + spent_one m (take_from to from w.links) ≤ query_rest p m w
  deliver_cost to from = go to (take_from to from w.links) refl
    where
      go : (x : Process) (o : Option Taken) → take_from x from w.links ≡ o
          → query_rest p m (delivered p w x from o) + spent_one m o ≤ query_rest p m w
      go x None e = omega arith
      go (AtClp c) (Some t) e = clp_falls c from t e
      go (AtAgent a) (Some t) e = agent_falls a from t e

-- so along a run: what is spent is no more than what there was
pub query_run : (p : Plan) (w : World) (done : List Entry) (m : Num) (es : List Event) → Whole p w done → Delivers es
    → query_rest p m (after_events p w es) + spent p m w es ≤ query_rest p m w
query_run p w done m [] h d = omega arith
query_run p w done m (event.Commit l ∷ es) h d = absurd d
query_run p w done m (event.Deliver to from ∷ es) h d =
    let a = deliver_cost p h.q w h.full.recs h.full.sim m (process p to) (process p from) in
    let b = query_run p (deliver p w (process p to) (process p from)) done m es
    (deliver_whole p w done (process p to) (process p from) h) d in
    omega arith

-- and that is at most two for each process and one for each Finish on its way
pub query_most : (p : Plan) (m : Num) (w : World) → query_rest p m w ≤ 2 * clps_of p + ends_in m w
query_most p m w = (let a = all (clps_of p) in omega arith)
  where
    waits_most : (ws : List ℕ) → waits_rest ws ≤ 2
    waits_most [] = omega arith
    waits_most (d ∷ ds) = omega arith

    one : (rs : List Registered) → reg_rest m rs ≤ 2
    one [] = omega arith
    one (r ∷ rs) = (let again = one rs in
        cond_both (num_eq m r.num) (waits_rest r.waits) (reg_rest m rs) (λ k. k ≤ 2) (λ _. waits_most r.waits)
        (λ _. again))

    all : (n : ℕ) → total n (λ c. reg_rest m (get_or w.clps c no_clp).queries) ≤ 2 * n
    all zero = omega arith
    all (suc n) = (let a = all n in let b = one (get_or w.clps n no_clp).queries in omega arith)

pub query_costs : (p : Plan) (n : ℕ) (w : World) (m : Num) (es : List Event) → IsValid p → QueryCosts p n w m es
query_costs p n w m es valid reached deliveries =
    let k = reached_kept p (plan_fits p valid) n w reached in
    let falls = query_run p w k.done m es k.whole deliveries in
    let most = query_most p m w in
    record { falls = falls; most = most; spends = omega arith }
