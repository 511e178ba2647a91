-- No letter's time is past the horizon; so the least line's isn't, and a window behind it is above it.
use Rattle.std.proofs.Common.{List, None, Option, Some, [], ap, arith, get_or, inl, inr, length, map, refl, subst, sym, true, ℕ, ◌++◌, ◌<◌, ◌∙◌, ◌∷◌, ◌≡◌, ◌≤◌}
use Rattle.std.proofs.lemmas.Bool.{and_parts}
use Rattle.pm_base.specs.declared.rows.Entry.{Entry}
use Rattle.pm_base.specs.declared.rows.Parts.{Parts}
use Rattle.pm_base.specs.declared.run.Event.{Event}
use Rattle.pm_base.specs.declared.stamp.Line.{Line}
use Rattle.pm_base.specs.declared.stamp.Stamp.{Stamp}
use Rattle.pm_message.specs.Messages.{stamp_of}
use Rattle.pm_message.specs.declared.Message.{Message}
use Rattle.pm_plan.specs.declared.plan.Plan.{Plan}
use Rattle.pm_model.specs.declared.State.{State}
use Rattle.pm_alp.specs.Agents.{agent_after, no_agent}
use Rattle.pm_clp.specs.Clps.{clp_after, floor_of}
use Rattle.pm_sim.proofs.Edges.{GiveIn}
use Rattle.pm_sim.proofs.Firsts.{PlanFits, mail_is}
use Rattle.pm_sim.proofs.Letters.{delivered_bag, in_map, map_in, message_of, taken}
use Rattle.pm_sim.proofs.Places.{Sim, clp_at, lift}
use Rattle.pm_sim.proofs.Readies.{least_in}
use Rattle.pm_sim.proofs.Sends.{Out}
use Rattle.pm_sim.proofs.Stamps.{past_true}
use Rattle.pm_sim.proofs.Takings.{Linked, agent_out, commit_linked, deliver_linked, first_linked, hub_out, names_any}
use Rattle.pm_sim.proofs.Wholes.{Whole, commit_whole, deliver_whole, first_whole, whole_run}
use Rattle.pm_sim.specs.Ready.{IsAbove, WindowOk}
use Rattle.pm_sim.specs.Routings.{FitsAt, mail_to}
use Rattle.pm_sim.specs.Sims.{AtMost, In, MailOk, NotPast}
use Rattle.pm_sim.specs.Worlds.{Mail, Posted, Process, Taken, World, actor_of, addressed, after_events, arrives, clps_of, commit, committed, deliver, delivered, first_world, handed, home, hub_of, is_legal, is_legal_run, least_line, mail, may_commit, number, process, take_from}
use Rattle.pm_sim.specs.Worlds.Process.{AtAgent, AtClp}
use Rattle.pm_base.specs.declared.run.Event.TheVariants as event
use Rattle.pm_base.specs.declared.stamp.Line.TheVariants as line
use Rattle.pm_message.specs.declared.Message.TheVariants as message

-- of a Grow and a Move, which go back to no message that an agent sent
abbrev pub Hard : ℕ → Message → Type 0
Hard h (message.Grow j z u w) = z.time ≤ h
Hard h (message.Move v z r) = z.time ≤ h
Hard h (message.Wake k z) = Unit {0}
Hard h (message.Ask k z y) = Unit {0}
Hard h (message.Put r_n r_t v r_c) = Unit {0}
Hard h (message.Cut r_n r_t v) = Unit {0}
Hard h (message.Give g) = Unit {0}
Hard h (message.Finish k z) = Unit {0}

abbrev pub AllHard : ℕ → List Mail → Type 0
AllHard h ms = (x : Mail) → In x ms → Hard h x.message

-- so no letter's time is past the horizon
pub mail_time : (p : Plan) (q : State) (w : World) (recs : ℕ → Parts) (sim : Sim p q w recs)
    → AllHard p.horizon (mail w.links) → (x : Mail) → In x (mail w.links) → (stamp_of x.message).time ≤ p.horizon
mail_time p q w recs sim hard x i =
    by x.message (sim.core.mail x.message (map_in message_of (mail w.links) x i)).0 (hard x i)
  where
    by : (m : Message) → MailOk p sim.issued m → Hard p.horizon m → (stamp_of m).time ≤ p.horizon
    by (message.Wake n s) ok h = sim.core.times _ ok
    by (message.Ask n s y) ok h = sim.core.times _ ok
    by (message.Put r_n r_t v r_c) ok h = sim.core.times _ ok
    by (message.Cut r_n r_t v) ok h = sim.core.times _ ok.1
    by (message.Give g) ok h = sim.core.times _ ok.1
    by (message.Finish n s) ok h = sim.core.times _ ok.2
    by (message.Move v s r) ok h = h
    by (message.Grow k s u y) ok h = h

given_hard : (h n : ℕ) (m : Message) → GiveIn (λ j. Unit {0}) (λ z. z.time ≤ h) n m → Hard h m
given_hard h n (message.Grow j z u w) o = o.2
given_hard h n (message.Move v z r) o = o
given_hard h n (message.Wake k z) o = tt
given_hard h n (message.Ask k z y) o = tt
given_hard h n (message.Put r_n r_t v r_c) o = tt
given_hard h n (message.Cut r_n r_t v) o = tt
given_hard h n (message.Give g) o = tt
given_hard h n (message.Finish k z) o = tt

out_hard : (h a seq n : ℕ) (m : Message) → Out a seq n m → Hard h m
out_hard h a seq n (message.Move v z r) o = absurd o
out_hard h a seq n (message.Grow j z u x) o = absurd o
out_hard h a seq n (message.Give g) o = absurd o
out_hard h a seq n (message.Finish k z) o = absurd o
out_hard h a seq n (message.Wake j z) o = tt
out_hard h a seq n (message.Ask j z y) o = tt
out_hard h a seq n (message.Put r_n r_t v r_c) o = tt
out_hard h a seq n (message.Cut r_n r_t v) o = tt

addressed_hard : (h a c : ℕ) (y : Message) → Hard h y → Hard h (addressed a c y).message
addressed_hard h a c (message.Grow j z u w) o = o
addressed_hard h a c (message.Move v z r) o = o
addressed_hard h a c (message.Wake k z) o = o
addressed_hard h a c (message.Ask k z y) o = o
addressed_hard h a c (message.Put r_n r_t v r_c) o = o
addressed_hard h a c (message.Cut r_n r_t v) o = o
addressed_hard h a c (message.Give g) o = o
addressed_hard h a c (message.Finish k z) o = o

at_most_time : (a b : Stamp) (h : ℕ) → AtMost a b → b.time ≤ h → a.time ≤ h
at_most_time a b h le l = grind (arith, le, l)

floor_most : (l : Line) (s : Stamp) → NotPast l s → AtMost (floor_of l) s
floor_most (line.At a) s h = h
floor_most line.End s h = absurd h

pub deliver_hard : (p : Plan) (q : State) (w : World) (recs : ℕ → Parts) (sim : Sim p q w recs) → Linked p w
    → AllHard p.horizon (mail w.links) → (to from : Process) → AllHard p.horizon (mail (deliver p w to from).links)
deliver_hard p q w recs sim linked hard to from = go (take_from to from w.links) refl
  where
    by : (to' : Process) (t : Taken) → take_from to' from w.links ≡ Some t
        → In (mail_to to' from t.message) (mail w.links) → FitsAt (clps_of p) (length q.values) to' from t.message
        → AllHard p.horizon (mail (arrives p w to' from t.message t.links).links)
    by (AtClp c) t e i fit x j =
        let ss : List Posted = (lift p (clp_after (hub_of p c) (number p from) t.message (clp_at w c))).sent in
        let time : (stamp_of t.message).time ≤ p.horizon =
        mail_time p q w recs sim hard (mail_to (AtClp c) from t.message) i in
        let low : NotPast w.line (stamp_of t.message) =
        (sim.core.mail t.message (map_in message_of (mail w.links) _ i)).1 in
        elim ((delivered_bag (AtClp c) from w.links t ss e).from x j) [
          | inl k ↦ hard x k
          | inr k ↦ (let o = in_map (λ (y : Posted). mail_to y.to (AtClp c) y.message) ss x k in
              subst (λ (y : Mail). Hard p.horizon y.message) (sym o.2)
              (given_hard p.horizon (length q.values) o.0.message
              (hub_out p q w recs sim linked (λ z. Unit {0}) (λ v lt. tt) (λ z. z.time ≤ p.horizon)
              sim.core.times c from t.message i fit (names_any p q w recs sim linked t.message) time
              (at_most_time (floor_of w.line)
              (stamp_of t.message) p.horizon (floor_most w.line (stamp_of t.message) low) time) o.0 o.1).1))
        ]
    by (AtAgent a) t e i fit x j =
        let ms : List Message = (agent_after (actor_of p a) (get_or w.agents a no_agent) t.message).sent in
        elim ((delivered_bag (AtAgent a) from w.links t (map (addressed a (home p a)) ms) e).from x j) [
          | inl k ↦ hard x k
          | inr k ↦ (let o =
              in_map (λ (y : Posted). mail_to y.to (AtAgent a) y.message) (map (addressed a (home p a)) ms) x k in
              let o2 = in_map (addressed a (home p a)) ms o.0 o.1 in
              let g = agent_out p q w recs sim a from t.message i fit o2.0 o2.1 in
              subst (λ (y : Mail). Hard p.horizon y.message)
              (sym (o.2 ∙ ap (λ (y : Posted). mail_to y.to (AtAgent a) y.message) o2.2))
              (addressed_hard p.horizon a (home p a) o2.0 (out_hard p.horizon a g.0 (length q.values) o2.0 g.1)))
        ]

    go : (o : Option Taken) → take_from to from w.links ≡ o → AllHard p.horizon (mail (delivered p w to from o).links)
    go None e = hard
    go (Some t) e =
        (let i = (taken to from w.links t e).into _ (inl refl) in by to t e i (sim.fits (mail_to to from t.message) i))

hard_run : (p : Plan) (w : World) (done : List Entry) (es : List Event) → Whole p w done → Linked p w → AllHard
    p.horizon (mail w.links) → is_legal_run p w es ≡ true → AllHard p.horizon (mail (after_events p w es).links)
hard_run p w done [] h k all l = all
hard_run p w done (event.Deliver to from ∷ es) h k all l =
    hard_run p (deliver p w (process p to) (process p from)) done es (deliver_whole p w done (process p to)
    (process p from) h) (deliver_linked p h.q w h.full.recs h.full.sim k (process p to) (process p from))
    (deliver_hard p h.q w h.full.recs h.full.sim k all (process p to) (process p from))
    (and_parts
    (is_legal p w (event.Deliver to from)) (is_legal_run p (deliver p w (process p to) (process p from)) es) l).1
hard_run p w done (event.Commit c ∷ es) h k all l =
    let parts = and_parts (may_commit w c) (is_legal_run p (commit w c) es) l in
    hard_run p (commit w c)
    (done ++ handed w c) es (commit_whole p w done c h parts.0) (commit_linked p w c h.full.sim.size k) all parts.1

pub run_hard : (p : Plan) → PlanFits p → (es : List Event)
    → is_legal_run p (first_world p) es ≡ true → AllHard p.horizon (mail (after_events p (first_world p) es).links)
run_hard p fit es l = hard_run p (first_world p) [] es (first_whole p fit) (first_linked p fit)
    (λ x i. (let r = mail_is p fit x i in subst (λ (y : Mail). Hard p.horizon y.message) (sym r.4) tt)) l

-- in each world of a legal run
pub run_times : (p : Plan) → PlanFits p → (es : List Event) → is_legal_run p (first_world p) es ≡ true
    → (x : Mail) → In x (mail (after_events p (first_world p) es).links) → (stamp_of x.message).time ≤ p.horizon
run_times p fit es l x i =
    let h : Whole p (after_events p (first_world p) es) (committed p es) =
    whole_run p (first_world p) [] es (first_whole p fit) l in
    mail_time p h.q (after_events p (first_world p) es) h.full.recs h.full.sim (run_hard p fit es l) x i

-- the least line is End, or of a time that isn't past the horizon
pub least_time : (p : Plan) → PlanFits p → (es : List Event)
    → is_legal_run p (first_world p) es ≡ true → (mail (after_events p (first_world p) es).links ≡ [] → ⊥)
    → (s : Stamp) × (least_line (after_events p (first_world p) es) ≡ line.At s) × (s.time ≤ p.horizon)
least_time p fit es l ne = (let r = least_in (mail (after_events p (first_world p) es).links) ne in
    (stamp_of r.0.message, r.2, run_times p fit es l r.0 r.1))

-- so a window of a greater time than the horizon, as a sum that stops at its type's end, or of a greater time than the
-- line's, keeps no letter of least stamp back
pub window_high : (p : Plan) → PlanFits p → (es : List Event)
    → is_legal_run p (first_world p) es ≡ true → (mail (after_events p (first_world p) es).links ≡ [] → ⊥)
    → (u : Stamp) → p.horizon < u.time → WindowOk (after_events p (first_world p) es) (Some (line.At u))
window_high p fit es l ne u lt = (let o = least_time p fit es l ne in
    subst (IsAbove (line.At u)) (sym o.1) (past_true (line.At u) o.0 (inl (omega (arith, lt, o.2)))))
