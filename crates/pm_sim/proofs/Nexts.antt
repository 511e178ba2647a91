-- The kernel's loop, one epoch more; the events that are legal; what a Commit hands out.
use Rattle.std.proofs.Common.{List, None, Option, Some, [], ap, append-nil, append_assoc, arith, cond, false, inl, inr, length, map, nat_lt, refl, subst, suc, sym, true, zero, ℕ, ◌++◌, ◌+◌, ◌-◌, ◌∙◌, ◌∷◌, ◌≡◌, ◌≤◌, ◌⊎◌}
use Rattle.std.proofs.lemmas.Bool.{cases_Bool}
use Rattle.std.proofs.lemmas.Bool.Decides.{nat_tests}
use Rattle.pm_base.specs.declared.rows.Entry.{Entry}
use Rattle.pm_base.specs.declared.run.Event.{Event}
use Rattle.pm_base.specs.declared.stamp.Line.{Line}
use Rattle.pm_base.specs.declared.stamp.Stamp.{Stamp}
use Rattle.pm_message.specs.Messages.{stamp_of}
use Rattle.pm_message.specs.declared.Message.{Message}
use Rattle.pm_plan.specs.declared.plan.Plan.{Plan}
use Rattle.pm_model.specs.Entries.{run_below}
use Rattle.pm_model.specs.Runs.{IsTimely, sequential_start}
use Rattle.pm_alp.specs.declared.agent.Agent.{Agent}
use Rattle.pm_sim.proofs.Firsts.{PlanFits}
use Rattle.pm_sim.proofs.Fuels.{below_is}
use Rattle.pm_sim.proofs.Heads.{closed_append, closed_epoch, least_append, least_delivers, legal_append, made_append, made_delivers, may_least, spans_epoch, window_append}
use Rattle.pm_sim.proofs.Lanes.{InPlan, Key, keys}
use Rattle.pm_sim.proofs.Letters.{in_map}
use Rattle.pm_sim.proofs.Lists.{in_cases}
use Rattle.pm_sim.proofs.Readies.{least_in, least_of}
use Rattle.pm_sim.proofs.Shapes.{timely}
use Rattle.pm_sim.proofs.Takings.{LinkOk}
use Rattle.pm_sim.proofs.Wholes.{Whole, commit_whole, first_whole, whole_run}
use Rattle.pm_sim.specs.Bounds.{between}
use Rattle.pm_sim.specs.Journals.{Closed, Delivers, Journal, Spans, epoch}
use Rattle.pm_sim.specs.Ready.{InWindow, Ready}
use Rattle.pm_sim.specs.Routings.{TreeOk}
use Rattle.pm_sim.specs.Sims.{In}
use Rattle.pm_sim.specs.Worlds.{Link, Mail, Process, Taken, World, after_event, after_events, agent_links, clps_of, committed, committed_from, first_world, handed, hands, has_mail, is_legal, is_legal_run, is_link, least_line, link_in_front, may_commit, number, ports, process, take_first, take_from, tree_links}
use Rattle.pm_sim.specs.Worlds.Process.{AtAgent, AtClp}
use Rattle.pm_base.specs.declared.run.Event.TheVariants as event
use Rattle.pm_base.specs.declared.stamp.Line.TheVariants as line

-- ---- one epoch more, at the end of a journal

spans_more : (e k : ℕ) (xs ys : List Event)
    → Closed xs → Spans e k xs → (xs ≡ [] → k ≡ 0) → Spans e 0 ys → Spans e k (xs ++ ys)
spans_more e k [] ys c s z h = subst (λ m. Spans e m ys) (sym (z refl)) h
spans_more e k (event.Commit l ∷ xs) ys c s z h = spans_more e 0 xs ys c s (λ f. refl) h
spans_more e k (event.Deliver to from ∷ []) ys c s z h = absurd c
spans_more e k (event.Deliver to from ∷ (y ∷ xs)) ys c s z h =
    (s.0, spans_more e (suc k) (y ∷ xs) ys c s.1 (λ f. absurd (cons_nil y xs f)) h)
  where
    cons_nil : (x : Event) (xs : List Event) → x ∷ xs ≡ [] → ⊥
    cons_nil x xs f = cc

pub journal_more : (p : Plan) → PlanFits p → (e n : ℕ) (j ds : List Event) → Journal p e n (first_world p) j
    → Delivers ds → length ds ≤ e → is_legal_run p (after_events p (first_world p) j) ds ≡ true
    → Journal p e (n + length ds) (first_world p) (j ++ epoch p (after_events p (first_world p) j) ds)
journal_more p fit e n j ds h d le l =
    let w : World = after_events p (first_world p) j in
    let u : World = after_events p w ds in
    let hw : Whole p w (committed p j) = whole_run p (first_world p) [] j (first_whole p fit) h.legal in
    let hu : Whole p u (committed p j ++ committed_from p w ds) = whole_run p w (committed p j) ds hw l in
    let c : Line = least_line u in
    let ep : List Event = epoch p w ds in
    let one : is_legal_run p w ep ≡ true = legal_append
    p w ds (event.Commit c ∷ []) l (let m = may_least p hu.q u hu.full.recs hu.full.sim in rw m refl) in
    let spans : Spans e 0 ep = subst (Spans e 0) (append-nil ep) (spans_epoch e 0 ds c [] d (omega (arith, le)) tt) in
    record {
      legal = legal_append p (first_world p) j ep h.legal one;
      least = least_append p
          (first_world p) j ep h.least (least_append p w ds (event.Commit c ∷ []) (least_delivers p w ds d) (refl, tt));
      made = made_append j ep ∙ (let a =
          made_append ds (event.Commit c ∷ []) in let b = made_delivers ds d in let f = h.made in omega arith);
      spans = spans_more e 0 j ep h.closed h.spans (λ f. refl) spans;
      closed = closed_append j ep h.closed (closed_epoch ds c d);
    }

pub journal_none : (p : Plan) (e : ℕ) → Journal p e 0 (first_world p) []
journal_none p e = record { legal = refl; least = tt; made = refl; spans = tt; closed = tt }

-- its window
pub journal_window : (W : ℕ) (p : Plan) (j ds : List Event)
    → InWindow W p (first_world p) j → InWindow W p (after_events p (first_world p) j) ds
    → InWindow W p (first_world p) (j ++ epoch p (after_events p (first_world p) j) ds)
journal_window W p j ds h k =
    let w : World = after_events p (first_world p) j in
    window_append W p (first_world p)
    j (epoch p w ds) h (window_append W p w ds (event.Commit (least_line (after_events p w ds)) ∷ []) k tt)

delivers_none : (p : Plan) (w : World) (ds : List Event) → Delivers ds → committed_from p w ds ≡ []
delivers_none p w [] d = refl
delivers_none p w (event.Deliver to from ∷ ds) d = delivers_none p (after_event p w (event.Deliver to from)) ds d
delivers_none p w (event.Commit l ∷ ds) d = absurd d

-- and what it hands out: the entries of its Commit
pub journal_entries : (p : Plan) (w : World) (j ds : List Event) → Delivers ds
    → committed_from p w (j ++ epoch p (after_events p w j) ds) ≡ committed_from p w j
    ++ handed (after_events p (after_events p w j) ds) (least_line (after_events p (after_events p w j) ds))
journal_entries p w j ds d =
    let v : World = after_events p w j in
    let u : World = after_events p v ds in
    before p w j (epoch p v ds)
    ∙ ap (λ z. committed_from p w j ++ z) (before p v ds (event.Commit (least_line u) ∷ []) ∙ (ap
    (λ z. z ++ (handed u (least_line u) ++ [])) (delivers_none p v ds d) ∙ append-nil (handed u (least_line u))))
  where
    before : (p : Plan) (w : World) (es fs : List Event)
        → committed_from p w (es ++ fs) ≡ committed_from p w es ++ committed_from p (after_events p w es) fs
    before p w [] fs = refl
    before p w (e ∷ es) fs =
        ap (λ z. hands w e ++ z) (before p (after_event p w e) es fs) ∙ sym (append_assoc (hands w e)
        (committed_from p (after_event p w e) es) (committed_from p (after_events p (after_event p w e) es) fs))

-- ---- a Commit

-- it hands out the entries below its line that aren't below the line before
pub commit_hands : (p : Plan) → IsTimely p (sequential_start p) → (w : World) (done : List Entry) (k : Line)
    → Whole p w done → may_commit w k ≡ true → run_below p k ≡ run_below p w.line ++ handed w k
commit_hands p timely w done k h may =
    let c = commit_whole p w done k h may in
    below_is p k (done ++ handed w k) c.q timely c.path c.past c.stops
    ∙ ap (λ z. z ++ handed w k) (sym (below_is p w.line done h.q timely h.path h.past h.stops))

-- ---- a Deliver

-- it is legal exactly where something stands between the two
pub taken_between : (to from : Process) (ls : List Link) (m : Message) (ms : List Message)
    → between to from ls ≡ m ∷ ms → has_mail (take_from to from ls) ≡ true
taken_between to from [] m ms e = absurd (cc)
taken_between to from (l ∷ ls) m ms e = elim (cases_Bool (is_link to from l)) [
  | inl f ↦ rw f (first l.messages (subst (λ b. cond b l.messages (between to from ls) ≡ m ∷ ms) f e))
  | inr f ↦ rw f (behind (take_from to from ls)
      (taken_between to from ls m ms (subst (λ b. cond b l.messages (between to from ls) ≡ m ∷ ms) f e)))
]
  where
    first : (xs : List Message) → xs ≡ m ∷ ms → has_mail (take_first l ls xs) ≡ true
    first [] g = absurd (cc)
    first (x ∷ xs) g = refl

    behind : (o : Option Taken) → has_mail o ≡ true → has_mail (link_in_front l o) ≡ true
    behind None g = g
    behind (Some t) g = refl

pub empty_between : (to from : Process) (ls : List Link) → between to from ls ≡ [] → take_from to from ls ≡ None
empty_between to from [] e = refl
empty_between to from (l ∷ ls) e = elim (cases_Bool (is_link to from l)) [
  | inl f ↦ rw f (ap (take_first l ls) (subst (λ b. cond b l.messages (between to from ls) ≡ []) f e))
  | inr f ↦ rw
      f (ap (link_in_front l) (empty_between to from ls (subst (λ b. cond b l.messages (between to from ls) ≡ []) f e)))
]

pub number_process : (p : Plan) (A : ℕ) (k : Process) → InPlan (clps_of p) A k → process p (number p k) ≡ k
number_process p A (AtClp c) lt = (let b : nat_lt c (clps_of p) ≡ true = grind (arith, nat_tests, lt) in rw b refl)
number_process p A (AtAgent a) lt = (let b : nat_lt (clps_of p + a) (clps_of p) ≡ false = grind (arith, nat_tests) in
    let e : (clps_of p + a) - clps_of p ≡ a = omega arith in rw b (ap AtAgent e))

-- so where a first letter may be delivered a Deliver is legal
pub ready_legal : (p : Plan) (A : ℕ) (w : World) (windows : Process → Option Line) (r : Ready w windows)
    → InPlan (clps_of p) A r.to
    → InPlan (clps_of p) A r.from → is_legal p w (event.Deliver (number p r.to) (number p r.from)) ≡ true
ready_legal p A w windows r a b =
    let e = number_process p A r.to a in
    let f = number_process p A r.from b in
    ap (λ z. has_mail (take_from z (process p (number p r.from)) w.links)) e
    ∙ (ap (λ z. has_mail (take_from r.to z w.links)) f ∙ taken_between r.to r.from w.links r.message r.rest r.first)

-- ---- the least line

pub least_end : (ms : List Mail) → least_of ms ≡ line.End → ms ≡ []
least_end [] e = refl
least_end (m ∷ ms) e =
    absurd (let r = least_in (m ∷ ms) (λ f. cons_nil m ms f) in at_end (stamp_of r.0.message) (sym r.2 ∙ e))
  where
    cons_nil : (x : Mail) (xs : List Mail) → x ∷ xs ≡ [] → ⊥
    cons_nil x xs f = cc

    at_end : (s : Stamp) → line.At s ≡ line.End → ⊥
    at_end s f = cc

-- ---- the links are those that the plan allows, and no others

pub key_ok : (p : Plan) → TreeOk p → (to from : Process) → In (to, from) (keys (first_world p).links) → LinkOk p to from
    × InPlan (clps_of p) (length (first_world p).agents) to × InPlan (clps_of p) (length (first_world p).agents) from
key_ok p tree to from i = (let o = in_map (λ (l : Link). (l.to, l.from)) (first_world p).links (to, from) i in
    let t : to ≡ o.0.to = ap (λ (z : Key). z.0) o.2 in
    let f : from ≡ o.0.from = ap (λ (z : Key). z.1) o.2 in
    subst (λ z. Good z from) (sym t) (subst (Good o.0.to)
    (sym f) (of_link o.0 (in_cases (tree_links p 0 N) (agent_links p 0 (first_world p).agents) o.0 o.1))))
  where
    N : ℕ
    N = clps_of p

    A : ℕ
    A = length (first_world p).agents

    Good : Process → Process → Type 0
    Good t f = LinkOk p t f
        × InPlan (clps_of p) (length (first_world p).agents) t × InPlan (clps_of p) (length (first_world p).agents) f

    tree_key : (c n : ℕ) → c + n ≡ N → (l : Link) → In l (tree_links p c n) → Good l.to l.from
    tree_key c zero e l k = absurd k
    tree_key c (suc n) e l k = elim (in_cases
        (map (λ d. record { to = AtClp c; from = AtClp d; messages = [] }) (ports p c)) (tree_links p (suc c) n) l k) [
          | inl j ↦ (let o = in_map (λ d. record { to = AtClp c; from = AtClp d; messages = [] }) (ports p c) l j in
              subst (λ (z : Link). Good z.to z.from) (sym o.2) (o.1, omega arith, tree.inside c o.0 o.1))
          | inr j ↦ tree_key (suc c) n (omega arith) l j
        ]

    agent_key : (i : ℕ) (xs : List Agent)
        → i + length xs ≡ A → (l : Link) → In l (agent_links p i xs) → Good l.to l.from
    agent_key i [] e l k = absurd k
    agent_key i (a ∷ xs) e l (inl g) = subst (λ (z : Link). Good z.to z.from) (sym g) (refl, tree.homes i, omega arith)
    agent_key i (a ∷ xs) e l (inr (inl g)) =
        subst (λ (z : Link). Good z.to z.from) (sym g) (refl, omega arith, tree.homes i)
    agent_key i (a ∷ xs) e l (inr (inr (inl g))) =
        subst (λ (z : Link). Good z.to z.from) (sym g) (refl, omega arith, omega arith)
    agent_key i (a ∷ xs) e l (inr (inr (inr k))) = agent_key (suc i) xs (omega arith) l k

    of_link : (l : Link) → In l (tree_links p 0 N) ⊎ In l (agent_links p 0 (first_world p).agents) → Good l.to l.from
    of_link l (inl k) = tree_key 0 N (omega arith) l k
    of_link l (inr k) = agent_key 0 (first_world p).agents (omega arith) l k
