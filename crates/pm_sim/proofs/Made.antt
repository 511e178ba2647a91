-- In each world of a legal run no turn is above the number of deliveries made.
use Rattle.std.proofs.Common.{List, None, Option, Some, [], ap, arith, get_or, get_or-set_other, get_or-set_same, inl, inr, length, map, refl, set, subst, suc, sym, true, zero, ℕ, ◌++◌, ◌+◌, ◌∙◌, ◌∷◌, ◌≡◌, ◌≤◌}
use Rattle.std.proofs.lemmas.Bool.{and_parts, cases_eq, cases_lt}
use Rattle.std.proofs.lemmas.List.{get_or-map, length-map}
use Rattle.pm_base.specs.declared.rows.Entry.{Entry}
use Rattle.pm_base.specs.declared.rows.Parts.{Parts}
use Rattle.pm_base.specs.declared.run.Event.{Event}
use Rattle.pm_base.specs.declared.stamp.Line.{Line}
use Rattle.pm_base.specs.declared.value.Value.{Value}
use Rattle.pm_message.specs.declared.Message.{Message}
use Rattle.pm_periods.specs.Records.{read_stays, record_hit}
use Rattle.pm_routes.specs.declared.way.Way.{Way}
use Rattle.pm_plan.specs.declared.plan.Plan.{Plan}
use Rattle.pm_plan.specs.declared.plan.VarRow.{VarRow}
use Rattle.pm_model.specs.declared.State.{State}
use Rattle.pm_alp.specs.Agents.{agent_after, no_agent}
use Rattle.pm_clp.specs.Clps.{ClpState, clp_after, clp_committed, first_parts, first_record, first_records, rec_at}
use Rattle.pm_sim.proofs.Firsts.{PlanFits, clp_is, mail_is}
use Rattle.pm_sim.proofs.Letters.{delivered_bag, in_map, taken}
use Rattle.pm_sim.proofs.Lines.{get_past, trim_at, trim_some}
use Rattle.pm_sim.proofs.Lists.{each_in}
use Rattle.pm_sim.proofs.Places.{HubSends, Sim, clp_at, lift}
use Rattle.pm_sim.proofs.Sends.{Out}
use Rattle.pm_sim.proofs.Takings.{agent_out}
use Rattle.pm_sim.proofs.Trims.{in_filter}
use Rattle.pm_sim.proofs.Turnings.{Own, OwnIn, clp_low}
use Rattle.pm_sim.proofs.Wholes.{Whole, commit_whole, deliver_whole, first_whole}
use Rattle.pm_sim.specs.Journals.{made}
use Rattle.pm_sim.specs.Routings.{FitsAt, mail_to}
use Rattle.pm_sim.specs.Sims.{In}
use Rattle.pm_sim.specs.Taken.{TurnOf, TurnsIn}
use Rattle.pm_sim.specs.Worlds.{Mail, Posted, Process, Taken, World, actor_of, addressed, after_events, arrives, clps_of, commit, deliver, delivered, first_way, first_world, handed, home, hub_of, is_legal, is_legal_run, mail, may_commit, no_clp, number, posted, process, take_from}
use Rattle.pm_sim.specs.Worlds.Process.{AtAgent, AtClp}
use Rattle.pm_base.specs.declared.run.Event.TheVariants as event
use Rattle.pm_message.specs.declared.Message.TheVariants as message
use Rattle.pm_routes.specs.declared.way.Way.TheVariants as way

pub record TurnsLow (k : ℕ) (w : World) : Type 0 where
  pub records : (c : ℕ) → TurnsIn k (clp_at w c).records
  pub mail : (x : Mail) → In x (mail w.links) → TurnOf k x.message

turn_up : (k : ℕ) (m : Message) → TurnOf k m → TurnOf (suc k) m
turn_up k (message.Give g) h = (let a : g.turn ≤ k = h in omega arith)
turn_up k (message.Move v z r) h = λ y i. (let a = h y i in omega arith)
turn_up k (message.Wake n z) h = tt
turn_up k (message.Ask n z y) h = tt
turn_up k (message.Put r_n r_t v r_c) h = tt
turn_up k (message.Cut r_n r_t v) h = tt
turn_up k (message.Finish n z) h = tt
turn_up k (message.Grow j z u y) h = tt

out_turn : (a seq n k : ℕ) (m : Message) → Out a seq n m → TurnOf k m
out_turn a seq n k (message.Give g) o = absurd o
out_turn a seq n k (message.Move v z r) o = absurd o
out_turn a seq n k (message.Wake j z) o = tt
out_turn a seq n k (message.Ask j z y) o = tt
out_turn a seq n k (message.Put r_n r_t v r_c) o = tt
out_turn a seq n k (message.Cut r_n r_t v) o = tt
out_turn a seq n k (message.Finish j z) o = tt
out_turn a seq n k (message.Grow j z u x) o = tt

addressed_turn : (k a h : ℕ) (y : Message) → TurnOf k y → TurnOf k (addressed a h y).message
addressed_turn k a h (message.Give g) o = o
addressed_turn k a h (message.Move v z r) o = o
addressed_turn k a h (message.Wake j z) o = tt
addressed_turn k a h (message.Ask j z x) o = tt
addressed_turn k a h (message.Put r_n r_t v r_c) o = tt
addressed_turn k a h (message.Cut r_n r_t v) o = tt
addressed_turn k a h (message.Finish j z) o = tt
addressed_turn k a h (message.Grow j z u x) o = tt

pub deliver_turns : (p : Plan) (q : State) (w : World) (recs : ℕ → Parts) (sim : Sim p q w recs) (k : ℕ)
    → TurnsLow k w → (to from : Process) → TurnsLow (suc k) (deliver p w to from)
deliver_turns p q w recs sim k low to from = go (take_from to from w.links) refl
  where
    more : (c : ℕ) → TurnsIn (suc k) (clp_at w c).records
    more c v r e y i = (let a = low.records c v r e y i in omega arith)

    by : (to' : Process) (t : Taken) → take_from to' from w.links ≡ Some t
        → In (mail_to to' from t.message) (mail w.links) → FitsAt (clps_of p) (length q.values) to' from t.message
        → TurnsLow (suc k) (arrives p w to' from t.message t.links)
    by (AtClp c) t e i fit =
        let r : HubSends = lift p (clp_after (hub_of p c) (number p from) t.message (clp_at w c)) in
        let own : OwnIn (clp_at w c).records = λ v y f. own_of v y (sim.places.at c v y fit.0 f).1 in
        let g = clp_low (hub_of p c) k (number p from)
        t.message (clp_at w c) (low.records c) own (low.mail (mail_to (AtClp c) from t.message) i) in
        record {
          records = λ d. elim (cases_eq d c) [
            | inr ne ↦ subst (λ (z : ClpState). TurnsIn (suc k) z.records)
                (sym (get_or-set_other w.clps c d r.clp no_clp ne)) (more d)
            | inl f ↦ subst (λ z. TurnsIn (suc k) (get_or (set w.clps c r.clp) z no_clp).records) (sym f)
                (subst (λ (z : ClpState). TurnsIn (suc k) z.records) (sym
                (get_or-set_same w.clps c r.clp no_clp (let o = sim.size in let l = fit.0 in omega arith))) g.0)
          ];
          mail = λ x j. elim ((delivered_bag (AtClp c) from w.links t r.sent e).from x j) [
            | inl h ↦ turn_up k x.message (low.mail x h)
            | inr h ↦ (let o = in_map (λ (y : Posted). mail_to y.to (AtClp c) y.message) r.sent x h in
                let o2 =
                in_map (posted p) (clp_after (hub_of p c) (number p from) t.message (clp_at w c)).sent o.0 o.1 in
                subst (λ (y : Mail). TurnOf (suc k) y.message)
                (sym (o.2 ∙ ap (λ (y : Posted). mail_to y.to (AtClp c) y.message) o2.2)) (g.1 o2.0 o2.1))
          ];
        }
      where
        own_of : (v : ℕ) (y : Parts) → y ≡ recs v → Own y
        own_of v y f = subst Own
            (sym f) (λ x i. each_in (λ q. q.hit ≡ record_hit (recs v) q) (recs v).reads x (sim.core.rec v).solid.hits i)
    by (AtAgent a) t e i fit = record {
      records = more;
      mail = λ x j. elim ((delivered_bag (AtAgent a) from w.links t (map (addressed a (home p a))
          (agent_after (actor_of p a) (get_or w.agents a no_agent) t.message).sent) e).from x j) [
            | inl h ↦ turn_up k x.message (low.mail x h)
            | inr h ↦ (
                let ms : List Message = (agent_after (actor_of p a) (get_or w.agents a no_agent) t.message).sent in
                let o = in_map (λ (y : Posted). mail_to y.to (AtAgent a) y.message)
                (map (addressed a (home p a)) ms) x h in
                let o2 = in_map (addressed a (home p a)) ms o.0 o.1 in
                let g = agent_out p q w recs sim a from t.message i fit o2.0 o2.1 in
                subst (λ (y : Mail). TurnOf (suc k) y.message)
                (sym (o.2 ∙ ap (λ (y : Posted). mail_to y.to (AtAgent a) y.message) o2.2))
                (addressed_turn (suc k) a (home p a) o2.0 (out_turn a g.0 (length q.values) (suc k) o2.0 g.1)))
          ];
    }

    go : (o : Option Taken) → take_from to from w.links ≡ o → TurnsLow (suc k) (delivered p w to from o)
    go None e = record { records = more; mail = λ x j. turn_up k x.message (low.mail x j) }
    go (Some t) e =
        (let i = (taken to from w.links t e).into _ (inl refl) in by to t e i (sim.fits (mail_to to from t.message) i))

pub commit_turns : (w : World) (k : ℕ) (l : Line) → TurnsLow k w → TurnsLow k (commit w l)
commit_turns w k l low = record { records = λ c. by c; mail = low.mail }
  where
    by : (c : ℕ) → TurnsIn k (clp_at (commit w l) c).records
    by c v r e = elim (cases_lt c (length w.clps)) [
      | inr ge ↦ absurd (let f =
          get_past (map (clp_committed l) w.clps) c no_clp (omega (arith, ge, length-map w.clps (clp_committed l))) in
          let g : rec_at no_clp.records v ≡ Some r = ap (λ (z : ClpState). rec_at z.records v) (sym f) ∙ e in cc)
      | inl lt ↦ (let f = get_or-map (clp_committed l) w.clps c no_clp no_clp lt in
          let o = trim_some l (rec_at (clp_at w c).records v)
          r (sym (trim_at l (clp_at w c).records v) ∙ (ap (λ (z : ClpState). rec_at z.records v) (sym f) ∙ e)) in
          λ y i. low.records
          c v o.0 o.1 y (in_filter (read_stays l) o.0.reads y (subst (λ (z : Parts). In y z.reads) o.2 i)).0)
    ]

turns_run : (p : Plan) (w : World) (done : List Entry) (k : ℕ) (es : List Event)
    → Whole p w done → TurnsLow k w → is_legal_run p w es ≡ true → TurnsLow (k + made es) (after_events p w es)
turns_run p w done k [] h low l = subst (λ z. TurnsLow z w) (omega arith) low
turns_run p w done k (event.Deliver to from ∷ es) h low l =
    subst (λ z. TurnsLow z (after_events p w (event.Deliver to from ∷ es))) (omega arith)
    (turns_run p (deliver p w (process p to) (process p from)) done (suc k) es (deliver_whole p w done (process p to)
    (process p from) h) (deliver_turns p h.q w h.full.recs h.full.sim k low (process p to) (process p from))
    (and_parts
    (is_legal p w (event.Deliver to from)) (is_legal_run p (deliver p w (process p to) (process p from)) es) l).1)
turns_run p w done k (event.Commit c ∷ es) h low l =
    let parts = and_parts (may_commit w c) (is_legal_run p (commit w c) es) l in
    turns_run
    p (commit w c) (done ++ handed w c) k es (commit_whole p w done c h parts.0) (commit_turns w k c low) parts.1

first_turns : (p : Plan) (fit : PlanFits p) → TurnsLow 0 (first_world p)
first_turns p fit = record {
  records = λ c. by c;
  mail = λ x i. (let r = mail_is p fit x i in subst (λ (y : Mail). TurnOf 0 y.message) (sym r.4) tt);
}
  where
    first_reads : (y : Way) (x : Value) (r : Parts) → first_record y x ≡ Some r → r.reads ≡ []
    first_reads way.Here x r e = ap (λ (z : Parts). z.reads) (sym (some_same (first_parts x) r e))
      where
        some_same : (a b : Parts) → Some a ≡ Some b → a ≡ b
        some_same a b h = cc
    first_reads (way.Port d) x r e = absurd (cc)

    none_at : (ys : List Way) (vs : List Value) (v : ℕ) (r : Parts)
        → rec_at (first_records ys vs) v ≡ Some r → r.reads ≡ []
    none_at [] vs v r e = absurd (cc)
    none_at (a ∷ ys) [] v r e = absurd (cc)
    none_at (a ∷ ys) (x ∷ vs) zero r e = first_reads a x r e
    none_at (a ∷ ys) (x ∷ vs) (suc v) r e = none_at ys vs v r e

    by : (c : ℕ) → TurnsIn 0 (clp_at (first_world p) c).records
    by c v r e y i = elim (cases_lt c (clps_of p)) [
      | inl lt ↦ absurd (let f = none_at (map (first_way p c) p.vars) (map (λ (x : VarRow). x.value) p.vars)
          v r (ap (λ (z : ClpState). rec_at z.records v) (sym (clp_is p fit c lt)) ∙ e) in subst (In y) f i)
      | inr ge ↦ absurd
          (let f = get_past (first_world p).clps c no_clp (let s = (first_whole p fit).full.sim.size in omega arith) in
          let g : rec_at no_clp.records v ≡ Some r = ap (λ (z : ClpState). rec_at z.records v) (sym f) ∙ e in cc)
    ]

pub run_turns : (p : Plan) → PlanFits p → (es : List Event)
    → is_legal_run p (first_world p) es ≡ true → TurnsLow (made es) (after_events p (first_world p) es)
run_turns p fit es l = subst (λ z. TurnsLow z (after_events p (first_world p) es))
    (omega arith) (turns_run p (first_world p) [] 0 es (first_whole p fit) (first_turns p fit) l)
