-- Every legal run commits the sequential run's entries below its line: over any tree, with class queries and moves,
-- with range bounds.
use Rattle.pm_saved.specs.Steps.{hand_out}
use Rattle.pm_alp.specs.declared.agent.Agent.{Agent}
use Rattle.pm_sim.proofs.Fulls.{Full}
use Rattle.pm_sim.proofs.FullCommits.{fnd, commit_full}
use Rattle.pm_sim.proofs.Deliveries.{deliver_full}
use Rattle.pm_sim.proofs.Lines.{end, get_past}
use Rattle.std.proofs.lemmas.Bool.{and_parts, cases_lt}
use Rattle.std.proofs.Common.{◌≡◌, ℕ, inl, inr, Bool, true, false, cond, List, [], ◌∷◌, ◌++◌, map, filter, flat_map, length, get_or, refl, arith, ap, sym, ◌∙◌, subst, Option, Some, None, append_assoc, append-nil}
use Rattle.std.proofs.lemmas.Bool.Decides.{nat_tests}
use Rattle.pm_sim.proofs.FirstBounds.{first_full}
use Rattle.pm_base.specs.Stamps.{or_lower, least_line_of, stamp_lt}
use Rattle.pm_model.specs.Runs.{IsTimely, rest, sequential_run, sequential_start}
use Rattle.pm_base.specs.declared.rows.Entry.{Entry}
use Rattle.pm_base.specs.declared.run.Event.{Event}
use Rattle.pm_base.specs.declared.stamp.Line.{Line}
use Rattle.pm_base.specs.declared.stamp.Stamp.{Stamp}
use Rattle.pm_message.specs.Messages.{stamp_of}
use Rattle.pm_model.specs.Entries.{run_below}
use Rattle.pm_model.specs.declared.AgentState.{AgentState}
use Rattle.pm_model.specs.declared.State.{State}
use Rattle.pm_plan.specs.declared.plan.Plan.{Plan}
use Rattle.pm_sim.specs.Worlds.{Mail, Process, Taken, World, commit, committed, committed_from, deliver, first_world, handed, in_order, least_line, mail, may_commit, take_from, zero_line, process, arrives, delivered, mail_stamp, line_le, after_event, after_events, hands, is_legal, is_legal_run}
use Rattle.pm_sim.specs.Worlds.Process.{AtClp, AtAgent}
use Rattle.pm_sim.specs.Sims.{Each, In, NotPast, Past, no_turn, st}
use Rattle.pm_sim.proofs.Commits.{Reaches}
use Rattle.pm_sim.proofs.Firsts.{PlanFits}
use Rattle.pm_sim.proofs.Fuels.{below_is}
use Rattle.pm_sim.proofs.Lists.{each_append}
use Rattle.pm_sim.proofs.Stamps.{lt_tells}
use Rattle.pm_base.specs.declared.stamp.Line.TheVariants as line
use Rattle.pm_base.specs.declared.run.Event.TheVariants as event

least_parts : (k : Line) (s : Stamp) (m : Line) → line_le k (or_lower s m) ≡ true → NotPast k s × (line_le k m ≡ true)
least_parts (line.At t) s line.End e = (let g = e in grind (arith, nat_tests, g), refl)
least_parts line.End s line.End e = absurd (cc)
least_parts (line.At t) s (line.At u) e = elim (lt_tells s u) [
  | inl w ↦ (let a : line_le (line.At t) (line.At s) ≡ true =
      subst (λ b. line_le (line.At t) (cond b (line.At s) (line.At u)) ≡ true) w.0 e in let b =
      w.1 in (grind (arith, nat_tests, a), grind (arith, nat_tests, a, b)))
  | inr w ↦ (let a : line_le (line.At t) (line.At u) ≡ true =
      subst (λ b. line_le (line.At t) (cond b (line.At s) (line.At u)) ≡ true) w.0 e in let b =
      w.1 in (grind (arith, nat_tests, a, b), a))
]
least_parts line.End s (line.At u) e = absurd (go (stamp_lt s u) e)
  where
    go : (b : Bool) → line_le line.End (cond b (line.At s) (line.At u)) ≡ true → ⊥
    go true f = cc
    go false f = cc

least_low : (k : Line) (ms : List Mail) (x : Mail)
    → line_le k (least_line_of (map mail_stamp ms)) ≡ true → In x ms → NotPast k (stamp_of x.message)
least_low k [] x e i = absurd i
least_low k (m ∷ ms) x e (inl f) = subst (λ (z : Mail). NotPast k (stamp_of z.message))
    (sym f) (least_parts k (stamp_of m.message) (least_line_of (map mail_stamp ms)) e).0
least_low k (m ∷ ms) x e (inr i) =
    least_low k ms x (least_parts k (stamp_of m.message) (least_line_of (map mail_stamp ms)) e).1 i

line_down : (l k : Line) (s : Stamp) → line_le l k ≡ true → NotPast k s → NotPast l s
line_down l line.End s e h = absurd h
line_down (line.At a) (line.At b) s e h = (let g = e in grind (arith, nat_tests, g, h))
line_down line.End (line.At b) s e h = absurd (cc)

line_up : (l k : Line) (s : Stamp) → line_le l k ≡ true → Past l s → Past k s
line_up l line.End s e h = tt
line_up (line.At a) (line.At b) s e h = (let g = e in grind (arith, nat_tests, g, h))
line_up line.End (line.At b) s e h = absurd (cc)

reaches_append : (p : Plan) (es fs : List Entry) (q m r : State)
    → Reaches p q es m → Reaches p m fs r → Reaches p q (es ++ fs) r
reaches_append p [] fs q m r h k = subst (λ z. Reaches p z fs r) (sym h) k
reaches_append p (e ∷ es) fs q m r (mid, t, rest) k = (mid, t, reaches_append p es fs mid m r rest k)

-- done is what was committed so far
pub record Whole (p : Plan) (w : World) (done : List Entry) : Type 0 where
  pub q : State
  pub full : Full p q w
  pub path : Reaches p (sequential_start p) done q
  pub past : Each (λ (e : Entry). Past w.line e.stamp) done
  pub stops : (i t : ℕ) → (get_or q.agents i no_turn).next ≡ Some t → NotPast w.line (st t i)

each_past_up : (l k : Line) (es : List Entry)
    → line_le l k ≡ true → Each (λ (e : Entry). Past l e.stamp) es → Each (λ (e : Entry). Past k e.stamp) es
each_past_up l k [] e a = tt
each_past_up l k (x ∷ es) e a = (line_up l k x.stamp e a.0, each_past_up l k es e a.1)

line_same : (p : Plan) (w : World) (to from : Process) → (deliver p w to from).line ≡ w.line
line_same p w to from = go (take_from to from w.links)
  where
    by : (a : Process) (t : Taken) → (arrives p w a from t.message t.links).line ≡ w.line
    by (AtClp c) t = refl
    by (AtAgent a) t = refl

    go : (o : Option Taken) → (delivered p w to from o).line ≡ w.line
    go None = refl
    go (Some t) = by to t

pub deliver_whole : (p : Plan) (w : World) (done : List Entry) (to from : Process)
    → Whole p w done → Whole p (deliver p w to from) done
deliver_whole p w done to from h = record {
  q = h.q;
  full = deliver_full p h.q w to from h.full;
  path = h.path;
  past = subst (λ l. Each (λ (e : Entry). Past l e.stamp) done) (sym (line_same p w to from)) h.past;
  stops = subst (λ l. (i t : ℕ) → (get_or h.q.agents i no_turn).next ≡ Some t → NotPast l (st t i))
      (sym (line_same p w to from)) h.stops;
}

handed_is : (w : World) (k : Line)
    → handed w k ≡ in_order (flat_map (λ ss. hand_out k ss) (map (λ (a : Agent). a.steps) w.agents))
handed_is w k = ap in_order (go w.agents)
  where
    go : (xs : List Agent) → flat_map (λ (a : Agent). hand_out k a.steps) xs
        ≡ flat_map (λ ss. hand_out k ss) (map (λ (a : Agent). a.steps) xs)
    go [] = refl
    go (x ∷ xs) = ap (λ z. hand_out k x.steps ++ z) (go xs)

pub commit_whole : (p : Plan) (w : World) (done : List Entry) (k : Line)
    → Whole p w done → may_commit w k ≡ true → Whole p (commit w k) (done ++ handed w k)
commit_whole p w done k h may =
    let parts = and_parts (line_le w.line k) (line_le k (least_line w)) may in
    let quiet : (x : Mail) → In x (mail w.links) → NotPast k (stamp_of x.message) =
    λ x i. least_low k (mail w.links) x parts.1 i in
    let above : (s : Stamp) → NotPast k s → NotPast w.line s = λ s. line_down w.line k s parts.0 in
    let f = h.full in
    let r = end p h.q w f.recs f.sim (fnd p h.q w f.recs f.sim f.asked f.bounds k quiet above) k quiet above in
    let same : handed w k ≡ r.entries = handed_is w k ∙ r.order in
    record {
      q = r.end;
      full = commit_full p h.q w f.recs f.sim f.asked f.bounds k quiet above;
      path = reaches_append p done
          (handed w k) (sequential_start p) h.q r.end h.path (subst (λ z. Reaches p h.q z r.end) (sym same) r.path);
      past = each_append (λ (e : Entry). Past k e.stamp) done (handed w k)
          (each_past_up w.line k done parts.0 h.past) (subst (Each (λ (e : Entry). Past k e.stamp)) (sym same) r.past);
      stops = λ i t e. elim (cases_lt i (length r.end.agents)) [
        | inl lt ↦ r.stops i (let o = r.turns in omega arith) t e
        | inr ge ↦ absurd (let f : no_turn.next ≡ Some t =
            sym (ap (λ (z : AgentState). z.next) (get_past r.end.agents i no_turn ge)) ∙ e in cc)
      ];
    }

pub whole_run : (p : Plan) (w : World) (done : List Entry) (es : List Event)
    → Whole p w done → is_legal_run p w es ≡ true → Whole p (after_events p w es) (done ++ committed_from p w es)
whole_run p w done [] h l = subst (Whole p w) (sym (append-nil done)) h
whole_run p w done (event.Deliver to from ∷ es) h l =
    whole_run p (deliver p w (process p to) (process p from))
    done es (deliver_whole p w done (process p to) (process p from) h) (and_parts
    (is_legal p w (event.Deliver to from)) (is_legal_run p (deliver p w (process p to) (process p from)) es) l).1
whole_run p w done (event.Commit k ∷ es) h l =
    let parts = and_parts (may_commit w k) (is_legal_run p (commit w k) es) l in
    subst (Whole p (after_events p (commit w k) es)) (append_assoc done (handed w k) (committed_from p (commit w k) es))
    (whole_run p (commit w k) (done ++ handed w k) es (commit_whole p w done k h parts.0) parts.1)

zero_stops : (s : Stamp) → NotPast zero_line s
zero_stops s = grind arith

pub first_whole : (p : Plan) → PlanFits p → Whole p (first_world p) []
first_whole p fit = record {
  q = sequential_start p;
  full = first_full p fit;
  path = refl;
  past = tt;
  stops = λ i t e. zero_stops (st t i);
}

-- for plans with any tree and any rules, with moves and range bounds: whatever is delivered and committed, what
-- was committed is the sequential run below the line
pub simulation : (p : Plan) → PlanFits p → IsTimely p (sequential_start p) → (es : List Event)
    → is_legal_run p (first_world p) es ≡ true → committed p es ≡ run_below p (after_events p (first_world p) es).line
simulation p fit timely es l =
    let h : Whole p (after_events p (first_world p) es) (committed p es) =
    whole_run p (first_world p) [] es (first_whole p fit) l in
    sym (below_is p (after_events p (first_world p) es).line (committed p es) h.q timely h.path h.past h.stops)

-- what was committed stays a prefix
pub prefix : (p : Plan) (w : World) (es fs : List Event)
    → committed_from p w (es ++ fs) ≡ committed_from p w es ++ committed_from p (after_events p w es) fs
prefix p w [] fs = refl
prefix p w (e ∷ es) fs = ap (λ z. hands w e ++ z) (prefix p (after_event p w e) es fs) ∙ sym (append_assoc
    (hands w e) (committed_from p (after_event p w e) es) (committed_from p (after_events p (after_event p w e) es) fs))

-- where nothing is on the way, Commit at End is legal, and it leaves no agent a next time
pub all_done : (p : Plan) (w : World) (done : List Entry) → Whole p w done → mail w.links ≡ []
    → (may_commit w line.End ≡ true) × (h : Whole p (commit w line.End) (done ++ handed w line.End))
    × ((i t : ℕ) → (get_or h.q.agents i no_turn).next ≡ Some t → ⊥)
all_done p w done h none =
    let may : may_commit w line.End ≡ true = rw none refl in
    let c = commit_whole p w done line.End h may in
    (may, c, λ i t e. c.stops i t e)

-- and then all of the sequential run is committed
pub all_committed : (p : Plan) → PlanFits p → IsTimely p (sequential_start p)
    → (es : List Event) → is_legal_run p (first_world p) es ≡ true → mail (after_events p (first_world p) es).links ≡ []
    → committed p (es ++ event.Commit line.End ∷ []) ≡ sequential_run p
unfolding run_below
all_committed p fit timely es l none =
    let w : World = after_events p (first_world p) es in
    let h : Whole p w (committed p es) = whole_run p (first_world p) [] es (first_whole p fit) l in
    let c = (all_done p w (committed p es) h none).1 in
    let below_end : run_below p line.End ≡ committed p es ++ handed w line.End =
    below_is p line.End (committed p es ++ handed w line.End) c.q timely c.path c.past c.stops in
    prefix p (first_world p) es (event.Commit line.End ∷ []) ∙ (ap
    (λ z. committed p es ++ z) (append-nil (handed w line.End)) ∙ (sym below_end ∙ all_kept (sequential_run p)))
  where
    all_kept : (xs : List Entry) → filter (λ e. true) xs ≡ xs
    all_kept [] = refl
    all_kept (x ∷ xs) = ap (λ z. x ∷ z) (all_kept xs)

legal_append : (p : Plan) (w : World) (es fs : List Event) → is_legal_run p w es ≡ true
    → is_legal_run p (after_events p w es) fs ≡ true → is_legal_run p w (es ++ fs) ≡ true
legal_append p w [] fs l m = m
legal_append p w (e ∷ es) fs l m =
    let parts = and_parts (is_legal p w e) (is_legal_run p (after_event p w e) es) l in
    rw parts.0 (legal_append p (after_event p w e) es fs parts.1 m)

-- and a Commit at the end may stand there
pub end_legal : (p : Plan) (w : World) (es : List Event) → is_legal_run p w es ≡ true
    → mail (after_events p w es).links ≡ [] → is_legal_run p w (es ++ event.Commit line.End ∷ []) ≡ true
end_legal p w es l none =
    let may : may_commit (after_events p w es) line.End ≡ true = rw none refl in
    legal_append p w es (event.Commit line.End ∷ []) l (rw may refl)
