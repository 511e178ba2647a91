-- What the kernel's journals promise: epochs of deliveries, each with a Commit at the least line behind it.
use Rattle.std.proofs.Common.{Bool, List, Some, [], ap, arith, false, filter, get_or, inl, inr, length, not, refl, subst, suc, sym, true, ℕ, ◌&&◌, ◌++◌, ◌+◌, ◌<◌, ◌∙◌, ◌∷◌, ◌≡◌, ◌≤◌}
use Rattle.std.proofs.lemmas.Bool.{and_parts, cases_Bool}
use Rattle.std.proofs.lemmas.Bool.Decides.{nat_tests}
use Rattle.pm_base.specs.Stamps.{num_eq, or_lower, stamp_lt}
use Rattle.pm_base.specs.declared.rows.Entry.{Entry}
use Rattle.pm_base.specs.declared.rows.Parts.{Parts}
use Rattle.pm_base.specs.declared.run.Event.{Event}
use Rattle.pm_base.specs.declared.stamp.Line.{Line}
use Rattle.pm_base.specs.declared.stamp.Stamp.{Stamp}
use Rattle.pm_message.specs.Messages.{stamp_of}
use Rattle.pm_plan.specs.declared.plan.Plan.{Plan}
use Rattle.pm_model.specs.Entries.{run_below}
use Rattle.pm_model.specs.Runs.{IsTimely, sequential_run, sequential_start}
use Rattle.pm_model.specs.declared.State.{State}
use Rattle.pm_alp.specs.Agents.{no_agent}
use Rattle.pm_alp.specs.declared.agent.Awaited.{Awaited}
use Rattle.pm_sim.proofs.Awakes.{run_awake}
use Rattle.pm_sim.proofs.Firsts.{PlanFits}
use Rattle.pm_sim.proofs.Letters.{map_in, message_of}
use Rattle.pm_sim.proofs.Places.{Sim}
use Rattle.pm_sim.proofs.Readies.{least_in, least_of, ready}
use Rattle.pm_sim.proofs.Stamps.{num_eq_self, past_true, true_lt}
use Rattle.pm_sim.proofs.Wholes.{Whole, first_whole, prefix, simulation, whole_run}
use Rattle.pm_sim.specs.Journals.{AtLeast, Closed, Delivers, Epochs, Journal, Spans, epoch, journal, made, total}
use Rattle.pm_sim.specs.Ready.{InWindow, IsAbove, Ready, WindowOk, awaits, held_back, window_at}
use Rattle.pm_sim.specs.Sims.{In, NotPast, is_past}
use Rattle.pm_sim.specs.Worlds.{Mail, World, after_event, after_events, commit, committed, committed_from, first_world, is_legal, is_legal_run, least_line, line_le, mail, may_commit}
use Rattle.pm_sim.specs.Worlds.Process.{AtAgent}
use Rattle.pm_base.specs.declared.run.Event.TheVariants as event
use Rattle.pm_base.specs.declared.stamp.Line.TheVariants as line
use Rattle.pm_message.specs.declared.Message.TheVariants as message

-- ---- the least line

pub line_self : (l : Line) → line_le l l ≡ true
line_self (line.At s) = grind (arith, nat_tests)
line_self line.End = refl

less_low : (k : Line) (s : Stamp) (m : Line) → NotPast k s → line_le k m ≡ true → line_le k (or_lower s m) ≡ true
less_low line.End s m h e = absurd h
less_low (line.At t) s line.End h e = grind (arith, nat_tests, h)
less_low (line.At t) s (line.At u) h e = elim (cases_Bool (stamp_lt s u)) [
  | inl f ↦ rw f (let g : line_le (line.At t) (line.At s) ≡ true = grind (arith, nat_tests, h) in g)
  | inr f ↦ rw f e
]

pub least_above : (k : Line) (ms : List Mail)
    → ((x : Mail) → In x ms → NotPast k (stamp_of x.message)) → line_le k (least_of ms) ≡ true
least_above (line.At t) [] h = refl
least_above line.End [] h = refl
least_above k (m ∷ ms) h =
    less_low k (stamp_of m.message) (least_of ms) (h m (inl refl)) (least_above k ms (λ x i. h x (inr i)))

module _ (p : Plan) (q : State) (w : World) (recs : ℕ → Parts) (sim : Sim p q w recs) where
  above : (x : Mail) → In x (mail w.links) → NotPast w.line (stamp_of x.message)
  above x i = (sim.core.mail x.message (map_in message_of (mail w.links) x i)).1

  -- the least line is never below the line
  pub line_low : line_le w.line (least_line w) ≡ true
  line_low = least_above w.line (mail w.links) above

  -- a Commit at the least line is legal
  pub may_least : may_commit w (least_line w) ≡ true
  may_least = (let a = line_low in let b = line_self (least_line w) in rw (a, b) refl)

  -- where a letter is on its way the least line is a stamp that isn't below the line
  pub least_stamp : (mail w.links ≡ [] → ⊥) → (s : Stamp) × (least_line w ≡ line.At s) × NotPast w.line s
  least_stamp ne = (let r = least_in (mail w.links) ne in (stamp_of r.0.message, r.2, above r.0 r.1))

  -- at End nothing is on its way
  pub line_done : w.line ≡ line.End → mail w.links ≡ []
  line_done e = by (mail w.links) (λ x i. subst (λ l. NotPast l (stamp_of x.message)) e (above x i))
    where
      by : (ms : List Mail) → ((x : Mail) → In x ms → ⊥) → ms ≡ []
      by [] h = refl
      by (m ∷ ms) h = absurd (h m (inl refl))

-- ---- lists of events, one after another

pub run_append : (p : Plan) (w : World) (xs ys : List Event)
    → after_events p w (xs ++ ys) ≡ after_events p (after_events p w xs) ys
run_append p w [] ys = refl
run_append p w (x ∷ xs) ys = run_append p (after_event p w x) xs ys

pub legal_append : (p : Plan) (w : World) (xs ys : List Event)
    → is_legal_run p w xs ≡ true → is_legal_run p (after_events p w xs) ys ≡ true → is_legal_run p w (xs ++ ys) ≡ true
legal_append p w [] ys h k = k
legal_append p w (x ∷ xs) ys h k = (let q = and_parts (is_legal p w x) (is_legal_run p (after_event p w x) xs) h in
    let again = legal_append p (after_event p w x) xs ys q.1 k in let g = q.0 in rw (g, again) refl)

pub legal_front : (p : Plan) (w : World) (xs ys : List Event) → is_legal_run p w (xs ++ ys) ≡ true
    → (is_legal_run p w xs ≡ true) × (is_legal_run p (after_events p w xs) ys ≡ true)
legal_front p w [] ys h = (refl, h)
legal_front p w (x ∷ xs) ys h =
    (let q = and_parts (is_legal p w x) (is_legal_run p (after_event p w x) (xs ++ ys)) h in let again =
    legal_front p (after_event p w x) xs ys q.1 in let g = q.0 in let k = again.0 in (rw (g, k) refl, again.1))

pub least_append : (p : Plan) (w : World) (xs ys : List Event)
    → AtLeast p w xs → AtLeast p (after_events p w xs) ys → AtLeast p w (xs ++ ys)
least_append p w [] ys h k = k
least_append p w (event.Deliver to from ∷ xs) ys h k =
    least_append p (after_event p w (event.Deliver to from)) xs ys h k
least_append p w (event.Commit l ∷ xs) ys h k = (h.0, least_append p (commit w l) xs ys h.1 k)

least_back : (p : Plan) (w : World) (xs ys : List Event) → AtLeast p w (xs ++ ys) → AtLeast p (after_events p w xs) ys
least_back p w [] ys h = h
least_back p w (event.Deliver to from ∷ xs) ys h = least_back p (after_event p w (event.Deliver to from)) xs ys h
least_back p w (event.Commit l ∷ xs) ys h = least_back p (commit w l) xs ys h.1

pub least_delivers : (p : Plan) (w : World) (ds : List Event) → Delivers ds → AtLeast p w ds
least_delivers p w [] d = tt
least_delivers p w (event.Deliver to from ∷ ds) d = least_delivers p (after_event p w (event.Deliver to from)) ds d
least_delivers p w (event.Commit l ∷ ds) d = absurd d

pub made_append : (xs ys : List Event) → made (xs ++ ys) ≡ made xs + made ys
made_append [] ys = omega arith
made_append (event.Deliver to from ∷ xs) ys = (let a = made_append xs ys in omega arith)
made_append (event.Commit l ∷ xs) ys = made_append xs ys

pub made_delivers : (ds : List Event) → Delivers ds → made ds ≡ length ds
made_delivers [] d = refl
made_delivers (event.Deliver to from ∷ ds) d = ap suc (made_delivers ds d)
made_delivers (event.Commit l ∷ ds) d = absurd d

pub spans_epoch : (e k : ℕ) (ds : List Event) (l : Line) (rest : List Event)
    → Delivers ds → k + length ds ≤ e → Spans e 0 rest → Spans e k ((ds ++ event.Commit l ∷ []) ++ rest)
spans_epoch e k [] l rest d le h = h
spans_epoch e k (event.Deliver to from ∷ ds) l rest d le h =
    (omega arith, spans_epoch e (suc k) ds l rest d (omega arith) h)
spans_epoch e k (event.Commit m ∷ ds) l rest d le h = absurd d

pub closed_append : (xs ys : List Event) → Closed xs → Closed ys → Closed (xs ++ ys)
closed_append [] ys h k = k
closed_append (event.Commit l ∷ xs) ys h k = closed_append xs ys h k
closed_append (event.Deliver to from ∷ []) ys h k = absurd h
closed_append (event.Deliver to from ∷ (e ∷ es)) ys h k = closed_append (e ∷ es) ys h k

pub closed_epoch : (ds : List Event) (l : Line) → Delivers ds → Closed (ds ++ event.Commit l ∷ [])
closed_epoch [] l d = tt
closed_epoch (event.Deliver to from ∷ []) l d = tt
closed_epoch (event.Deliver to from ∷ (e ∷ es)) l d = closed_epoch (e ∷ es) l d
closed_epoch (event.Commit m ∷ ds) l d = absurd d

-- the last event is a Commit
pub closed_last : (xs : List Event)
    → Closed xs → (xs ≡ [] → ⊥) → (front : List Event) × (l : Line) × (xs ≡ front ++ event.Commit l ∷ [])
closed_last [] h ne = absurd (ne refl)
closed_last (event.Deliver to from ∷ []) h ne = absurd h
closed_last (event.Deliver to from ∷ (e ∷ es)) h ne = (let r =
    closed_last (e ∷ es) h (λ f. cc) in (event.Deliver to from ∷ r.0, r.1, ap (λ z. event.Deliver to from ∷ z) r.2))
closed_last (event.Commit l ∷ []) h ne = ([], l, refl)
closed_last (event.Commit l ∷ (e ∷ es)) h ne =
    (let r = closed_last (e ∷ es) h (λ f. cc) in (event.Commit l ∷ r.0, r.1, ap (λ z. event.Commit l ∷ z) r.2))

-- ---- journals of epochs

pub journal_ok : (p : Plan) (e : ℕ) (w : World) (done : List Entry) (dss : List (List Event))
    → Whole p w done → Epochs p e w dss → Journal p e (total dss) w (journal p w dss)
journal_ok p e w done [] h k = record { legal = refl; least = tt; made = refl; spans = tt; closed = tt }
journal_ok p e w done (ds ∷ dss) h (d, le, l, k) =
    let u : World = after_events p w ds in
    let hu : Whole p u (done ++ committed_from p w ds) = whole_run p w done ds h l in
    let ep : List Event = epoch p w ds in
    let c : Line = least_line u in
    let one : is_legal_run p w ep ≡ true = legal_append
    p w ds (event.Commit c ∷ []) l (let m = may_least p hu.q u hu.full.recs hu.full.sim in rw m refl) in
    let hv : Whole p (after_events p w ep) (done ++ committed_from p w ep) = whole_run p w done ep h one in
    let rest = journal_ok p e (after_events p w ep) (done ++ committed_from p w ep) dss hv k in
    let js : List Event = journal p (after_events p w ep) dss in
    record {
      legal = legal_append p w ep js one rest.legal;
      least = least_append
          p w ep js (least_append p w ds (event.Commit c ∷ []) (least_delivers p w ds d) (refl, tt)) rest.least;
      made = made_append ep js ∙ (let a =
          made_append ds (event.Commit c ∷ []) in let b = made_delivers ds d in let f = rest.made in omega arith);
      spans = spans_epoch e 0 ds c js d (omega (arith, le)) rest.spans;
      closed = closed_append ep js (closed_epoch ds c d) rest.closed;
    }

-- the kernel's journal: epochs from the first world on
pub first_journal : (p : Plan) → PlanFits p → (e : ℕ) (dss : List (List Event))
    → Epochs p e (first_world p) dss → Journal p e (total dss) (first_world p) (journal p (first_world p) dss)
first_journal p fit e dss k = journal_ok p e (first_world p) [] dss (first_whole p fit) k

-- ---- the headline's facts on a journal

-- the whole run
pub below_end : (p : Plan) → run_below p line.End ≡ sequential_run p
unfolding run_below
below_end p = go (sequential_run p)
  where
    go : (xs : List Entry) → filter (λ e. true) xs ≡ xs
    go [] = refl
    go (x ∷ xs) = ap (λ z. x ∷ z) (go xs)

module _ (p : Plan) (fit : PlanFits p)
    (timely : IsTimely p (sequential_start p)) (e n : ℕ) (j : List Event) (h : Journal p e n (first_world p) j) where
  abbrev w : World
  w = after_events p (first_world p) j

  whole : Whole p w (committed p j)
  whole = whole_run p (first_world p) [] j (first_whole p fit) h.legal

  -- what was committed is the sequential run below the line
  pub sequential : committed p j ≡ run_below p w.line
  sequential = simulation p fit timely j h.legal

  -- what was committed by a prefix stays
  pub never_back : (k rest : List Event)
      → j ≡ k ++ rest → committed p j ≡ committed p k ++ committed_from p (after_events p (first_world p) k) rest
  never_back k rest f = ap (committed p) f ∙ prefix p (first_world p) k rest

  -- behind a Commit the line is the least line, so where nothing is on its way it is End
  pub closed_line : (j ≡ [] → ⊥) → w.line ≡ least_line w
  closed_line ne =
      let r = closed_last j h.closed ne in
      let k : List Event = r.0 in
      let a : w ≡ commit (after_events p (first_world p) k) r.1 =
      ap (after_events p (first_world p)) r.2 ∙ run_append p (first_world p) k (event.Commit r.1 ∷ []) in
      let b = least_back p (first_world p) k (event.Commit r.1 ∷ []) (subst (AtLeast p (first_world p)) r.2 h.least) in
      ap (λ (z : World). z.line) a ∙ (b.0 ∙ sym (ap least_line a))

  pub done_line : (j ≡ [] → ⊥) → mail w.links ≡ [] → w.line ≡ line.End
  done_line ne none = closed_line ne ∙ ap least_of none

  -- and at End nothing is on its way, and all was committed
  pub done_mail : w.line ≡ line.End → mail w.links ≡ []
  done_mail f = line_done p whole.q w whole.full.recs whole.full.sim f

  pub done_all : w.line ≡ line.End → committed p j ≡ sequential_run p
  done_all f = sequential ∙ (ap (run_below p) f ∙ below_end p)

-- ---- windows

-- a window of at least 1 behind a Commit at the least line keeps no letter of least stamp back
pub window_ok : (W : ℕ) (w : World)
    → 1 ≤ W → w.line ≡ least_line w → (mail w.links ≡ [] → ⊥) → WindowOk w (Some (window_at W w.line))
window_ok W w one e ne =
    subst (IsAbove (window_at W w.line)) e (let r = least_in (mail w.links) ne in at w.line (stamp_of r.0.message) (e ∙ r.2))
  where
    at : (l : Line) (s : Stamp) → l ≡ line.At s → IsAbove (window_at W l) l
    at (line.At t) s f = past_true (window_at W (line.At t)) t (inl (omega arith))
    at line.End s f = tt

-- so at the begin of each epoch behind a Commit some link's first letter may be delivered
pub window_ready : (p : Plan) → PlanFits p → (W : ℕ) (es : List Event)
    → 1 ≤ W → is_legal_run p (first_world p) es ≡ true → (after_events p (first_world p) es).line
    ≡ least_line (after_events p (first_world p) es) → (mail (after_events p (first_world p) es).links ≡ [] → ⊥)
    → Ready (after_events p (first_world p) es) (λ k. Some (window_at W (after_events p (first_world p) es).line))
window_ready p fit W es one l e ne = ready p (after_events p (first_world p) es)
    (run_awake p fit es l) (λ k. Some (window_at W (after_events p (first_world p) es).line))
    ne (λ k. window_ok W (after_events p (first_world p) es) one e ne)

pub window_append : (W : ℕ) (p : Plan) (w : World) (xs ys : List Event)
    → InWindow W p w xs → InWindow W p (after_events p w xs) ys → InWindow W p w (xs ++ ys)
window_append W p w [] ys h k = k
window_append W p w (event.Deliver to from ∷ xs) ys h k =
    (h.0, window_append W p (after_event p w (event.Deliver to from)) xs ys h.1 k)
window_append W p w (event.Commit l ∷ xs) ys h k = window_append W p (commit w l) xs ys h k

-- epochs whose Delivers stay in the window
abbrev pub Windows : ℕ → Plan → World → List (List Event) → Type 0
Windows W p w [] = Unit {0}
Windows W p w (ds ∷ dss) = InWindow W p w ds × Windows W p (after_events p w (epoch p w ds)) dss

pub journal_windows : (W : ℕ) (p : Plan) (w : World) (dss : List (List Event))
    → Windows W p w dss → InWindow W p w (journal p w dss)
journal_windows W p w [] h = tt
journal_windows W p w (ds ∷ dss) h =
    window_append W p w (epoch p w ds) (journal p (after_events p w (epoch p w ds)) dss)
    (window_append W p w ds (event.Commit (least_line (after_events p w ds)) ∷ []) h.0 tt)
    (journal_windows W p (after_events p w (epoch p w ds)) dss h.1)

-- in words: a Wake that its agent awaits and that is taken is of a time below the line's and W more
pub window_low : (W : ℕ) (w : World) (a : ℕ) (l s : Stamp) (x : Awaited)
    → w.line ≡ line.At l → (get_or w.agents a no_agent).awaited ≡ Some x
    → held_back w (λ k. Some (window_at W w.line)) (AtAgent a) (message.Wake x.num s) ≡ false → s.time < l.time + W
window_low W w a l s x el ea h =
    let ahead : Stamp = record { time = l.time + W; agent = 0 } in
    let g : (num_eq x.num x.num && not (stamp_lt s ahead)) ≡ false =
    subst (λ o. (awaits x.num o && not (is_past (window_at W (line.At l)) s)) ≡ false) ea
    (subst
    (λ z. (awaits x.num (get_or w.agents a no_agent).awaited && not (is_past (window_at W z) s)) ≡ false) el h) in
    let n = num_eq_self x.num in
    low s ahead (lt (num_eq x.num x.num) (stamp_lt s ahead) n g) refl
  where
    lt : (b c : Bool) → b ≡ true → (b && not c) ≡ false → c ≡ true
    lt true true e f = refl
    lt true false e f = absurd (cc)
    lt false c e f = absurd (cc)

    low : (s t : Stamp) → stamp_lt s t ≡ true → t.agent ≡ 0 → s.time < t.time
    low s t e z = (let h = true_lt s t e in grind (arith, h, z))
