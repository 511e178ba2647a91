-- A Finish at its agent: an open class query is complete, and the agent goes on.
use Rattle.pm_base.specs.Stamps.{num_eq}
use Rattle.pm_saved.specs.Steps.{withdrawn}
use Rattle.pm_saved.specs.Spots.{Spot, find}
use Rattle.pm_saved.specs.declared.kept.KeptStep.{KeptStep}
use Rattle.pm_saved.specs.declared.kept.KeptSense.{KeptSense}
use Rattle.pm_alp.specs.declared.agent.Agent.{Agent}
use Rattle.std.proofs.Common.{◌≡◌, ℕ, ◌<◌, inl, inr, Bool, true, false, List, [], ◌∷◌, ◌++◌, length, get_or, set, refl, ap, sym, ◌∙◌, subst, Option, Some, None, append-nil}
use Rattle.pm_base.specs.declared.rows.GiveRow.{GiveRow}
use Rattle.pm_base.specs.declared.rows.Parts.{Parts}
use Rattle.pm_base.specs.declared.stamp.Line.{Line}
use Rattle.pm_base.specs.declared.stamp.Num.{Num}
use Rattle.pm_base.specs.declared.stamp.Stamp.{Stamp}
use Rattle.pm_base.specs.declared.value.Query.{Query}
use Rattle.pm_base.specs.declared.value.Window.{Window}
use Rattle.pm_message.specs.declared.Message.{Message}
use Rattle.pm_model.specs.declared.State.{State}
use Rattle.pm_plan.specs.declared.plan.Plan.{Plan}
use Rattle.pm_alp.specs.Agents.{Sends, finished, go_on, no_agent, on_finish}
use Rattle.pm_sim.specs.Worlds.{actor_of}
use Rattle.pm_sim.specs.Sims.{AgentOk, Core, In, QueryOk, SenseOk, no_turn}
use Rattle.pm_sim.proofs.Arrivals.{Mailed}
use Rattle.pm_sim.proofs.Goes.{PlanOk}
use Rattle.pm_sim.proofs.Resumes.{in_mid, none_sent, no_cuts_open, resumed_core}
use Rattle.pm_sim.proofs.Spots.{Found, FindIs, find_is, sense_one}
use Rattle.pm_sim.proofs.Stamps.{nums_same, num_eq_self}
use Rattle.pm_sim.proofs.Wakes.{agree_on, survive, AsksUp, quiet_core}
use Rattle.pm_base.specs.declared.value.Query.TheVariants as query
use Rattle.pm_message.specs.declared.Message.TheVariants as message

module _ (p : Plan)
    (l : Line) (q : State) (issued : List Message) (agents : List Agent) (recs : ℕ → Parts) (old : List Message)
    (pend pend' : Num → ℕ → Type 0) (wait wait' : Num → Type 0) (core : Core p l q issued agents recs old pend wait)
    (i : ℕ) (in' : i < length agents)
    (plan : PlanOk p (length q.values) i) (pends : (n : Num) (v : ℕ) → pend n v → pend' n v)
    (new : List Message)
    (num : Num) (at : Stamp) (for_it : num.agent ≡ i) (waits : (n : Num) → (num ≡ n → ⊥) → wait n → wait' n) where
  abbrev a : Agent
  a = get_or agents i no_agent

  abbrev n : ℕ
  n = length q.values

  ok : AgentOk p l issued old recs pend wait n i (get_or q.agents i no_turn) a
  ok = core.agent i in'

  waits_but : (k : Num) → ((s : Stamp) → message.Finish num at ≡ message.Finish k s → ⊥) → wait k → wait' k
  waits_but k ne h = waits k (λ e. ne at (ap (λ z. message.Finish z at) e)) h

  apart : (sent : List Message) (s : Stamp) (x : KeptSense)
      → Mailed old new (message.Finish num at) sent → ((h : GiveRow) → In (message.Give h) sent → ⊥)
      → ((k : ℕ) (w : Window) → x.query ≡ query.Class k w → x.complete ≡ false → num ≡ x.num → ⊥)
      → QueryOk p old recs pend wait n s x x.query → QueryOk p new recs pend' wait' n s x x.query
  apart sent s x mailed none ne o = survive p recs old new sent pend
      pend' wait wait' (message.Finish num at) n s x x.query mailed none (λ k z y e. cc) (λ h e f. cc) (pends x.num)
      (λ k w e c h. waits x.num (ne k w e c) h) o

  num_ne : (k : Num) → num_eq num k ≡ false → num ≡ k → ⊥
  num_ne k e f = (let g : num_eq num k ≡ true = subst (λ z. num_eq num z ≡ true) f (num_eq_self num) in cc)

  quiet : Mailed old new (message.Finish num at) [] → ((z : KeptStep) → In z a.steps → (x : KeptSense)
      → In x z.senses → (k : ℕ) (w : Window) → x.query ≡ query.Class k w → x.complete ≡ false → num ≡ x.num → ⊥)
      → Core p l q issued (set agents i a) recs new pend' wait'
  quiet mailed none =
      quiet_core p l q issued agents recs old pend pend' wait wait' core i in' pends new (message.Finish num at)
      a mailed for_it (λ k. refl) (λ k. refl) (λ k z y e. cc) refl (λ k. refl) waits_but (record {
        base = ok.base;
        low = ok.low;
        chain = ok.chain;
        rises = ok.rises;
        senses = λ s j x k. (let c = ok.senses s j x k in
            record { issue = c.issue; query = apart [] s.stamp x mailed (λ h b. b) (none s j x k) c.query });
        wake = λ w e. elim (mailed.kept (message.Wake w.num w.stamp) (ok.wake w e)) [
          | inl f ↦ absurd (let h : message.Wake w.num w.stamp ≡ message.Finish num at = f in cc)
          | inr k ↦ k
        ];
      })

  module _ (spot : Spot) (f : Found num a.steps spot) where
    abbrev x : KeptSense
    x = spot.sense

    here_in : In spot.here a.steps
    here_in = subst (In spot.here) (sym f.steps) (in_mid spot.front spot.here spot.rest)

    x_in : In x spot.here.senses
    x_in = subst (In x) (sym f.senses) (in_mid spot.before x spot.later)

    ok_x : SenseOk p issued old recs pend wait n spot.here.stamp x
    ok_x = ok.senses spot.here here_in x x_in

    -- no other sense has the number
    only : (z : KeptStep) → In z a.steps → (y : KeptSense) → In y z.senses → num ≡ y.num → x ≡ y
    only z j y k e = sense_one 0 a.steps spot.here z x y ok.rises here_in x_in j k (sym (nums_same num x.num f.num) ∙ e)

    abbrev Goal : Sends → Type 0
    Goal r = AsksUp p l q issued agents recs old pend pend' wait wait' core i in' pends r.sent
        → Mailed old new (message.Finish num at) r.sent
        → (more : List Message) × Core p l q (issued ++ more) (set agents i r.agent) recs new pend' wait'

    nothing : Core p l q issued (set agents i a) recs new pend' wait'
        → (more : List Message) × Core p l q (issued ++ more) (set agents i a) recs new pend' wait'
    nothing c = ([], subst (λ z. Core p l q z (set agents i a) recs new pend' wait') (sym (append-nil issued)) c)

    abbrev closed : KeptSense
    closed = record { num = x.num; query = x.query; complete = true; hits = x.hits }

    closed_query : (sent : List Message) (y : Query) (k : ℕ) (w : Window) → y ≡ query.Class k w
        → Mailed old new (message.Finish num at) sent → ((h : GiveRow) → In (message.Give h) sent → ⊥)
        → QueryOk p old recs pend wait n spot.here.stamp x y → QueryOk p new recs pend' wait' n spot.here.stamp closed y
    closed_query sent (query.One v) k w e mailed none o = absurd (cc)
    closed_query sent (query.Class c u) k w e mailed none o = (
      o.0,
      λ e'. absurd (cc),
      λ v lt ec. (let r = o.2 v lt ec in record {
        asked = elim r.asked [ inl h ↦ inl (pends x.num v h) | inr h ↦ inr h ];
        agree = agree_on old new sent (message.Finish num at) x.num v _ _ mailed none (λ g e' f'. cc) r.agree;
      }),
    )

    by_query : (y : Query) (b : Bool) → x.query ≡ y → x.complete ≡ b → Goal (finished b (actor_of p i) a spot y)
    by_query y true e ec up m = nothing (quiet m (λ z j x' k c w eq open' same. let s =
        only z j x' k same in let t : x.complete ≡ false = ap (λ (u : KeptSense). u.complete) s ∙ open' in cc))
    by_query (query.One v) false e ec up m =
        nothing (quiet m (λ z j x' k c w eq open' same. let s = only z j x' k same in
        let t : query.One v ≡ query.Class c w = sym e ∙ (ap (λ (u : KeptSense). u.query) s ∙ eq) in cc))
    by_query (query.Class c w) false e ec up m =
        let r : Sends = go_on (actor_of p i) a.base spot.front spot.here.stamp (spot.before ++ closed ∷ []) a.seq in
        let none = none_sent p i a [] r spot.front spot.here.stamp (spot.before ++ closed ∷ []) refl in
        let newq = closed_query r.sent x.query c w e m none ok_x.query in
        let keep : (z : KeptStep) (y' : KeptSense) → In z a.steps
        → In y' z.senses → num_eq num y'.num ≡ false → QueryOk p new recs pend' wait' n z.stamp y' y'.query =
        λ z y' j k e'.
        apart r.sent z.stamp y' m none (λ c' w' eq open' same. num_ne y'.num e' same) (ok.senses z j y' k).query in
        let same : withdrawn (spot.here ∷ spot.rest) ++ r.sent ≡ r.sent =
        ap (λ z. z ++ r.sent) (no_cuts_open p l
        q issued agents recs old pend pend' wait wait' core i in' plan pends new (message.Finish num at) num for_it
        (λ k. refl) (λ k. refl) (λ k z y e. cc) (λ k z e. cc) spot f closed refl refl newq keep waits_but ec) in (
          r.sent,
          resumed_core p l q issued agents recs old pend pend' wait wait' core i in' plan pends
              new (message.Finish num at) num for_it (λ k. refl) (λ k. refl) (λ k z y e. cc) (λ k z e. cc) spot f closed
              refl
              refl newq keep waits_but refl r refl (subst (Mailed old new (message.Finish num at)) (sym same) m) up,
        )

  pub finish_core : AsksUp p l q
      issued agents recs old pend pend' wait wait' core i in' pends (on_finish (actor_of p i) a (find num a.steps)).sent
      → Mailed old new (message.Finish num at) (on_finish (actor_of p i) a (find num a.steps)).sent
      → (more : List Message) × Core p
      l q (issued ++ more) (set agents i (on_finish (actor_of p i) a (find num a.steps)).agent) recs new pend' wait'
  finish_core up mailed = by_find (find num a.steps) (find_is num a.steps) up mailed
    where
      by_find : (o : Option Spot) → FindIs num a.steps o → AsksUp
          p l q issued agents recs old pend pend' wait wait' core i in' pends (on_finish (actor_of p i) a o).sent
          → Mailed old new (message.Finish num at) (on_finish (actor_of p i) a o).sent
          → (more : List Message)
          × Core p l q (issued ++ more) (set agents i (on_finish (actor_of p i) a o).agent) recs new pend' wait'
      by_find None h up m = (
        [],
        subst (λ z. Core p l q z (set agents i a) recs new pend' wait')
            (sym (append-nil issued)) (quiet m (λ z j x k c w eq open' same. num_ne x.num (h z j x k) same)),
      )
      by_find (Some spot) h up m = by_query spot h spot.sense.query spot.sense.complete refl refl up m
