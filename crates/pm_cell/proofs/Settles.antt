-- Where the links of all cells are drawn, they are settled.
use Rattle.std.proofs.Common.{◌≡◌, ℕ, zero, suc, ◌+◌, ◌<◌, ◌≤◌, ◌⊎◌, inl, inr, Bool, true, false, cond, ◌==◌, List, [], ◌∷◌, ◌++◌, map, length, refl, arith, ap, ap₂, sym, ◌∙◌, subst, Some}
use Rattle.std.proofs.lemmas.Bool.{cases_Bool}
use Rattle.std.proofs.lemmas.Bool.Decides.{nat_tests}
use Rattle.std.proofs.lemmas.List.{length-map}
use Rattle.std.specs.List.{AllByRecursion}
use Rattle.std.specs.Prelude.{◌-◌, if◌then◌else◌, nat_lt}
use Rattle.pm_core.specs.Links.{AreAscending, IsBefore, links}
use Rattle.pm_core.proofs.LinkLaws.{links_are}
use Rattle.pm_ends.specs.Ends.{AllGrew, Inn, Out, froms, received_in, sent_in, tos, waiting_in}
use Rattle.pm_ends.specs.Numbers.{AreRising, Pairs, froms_to, nth, tos_from}
use Rattle.pm_ends.specs.declared.post.Post.{Post}
use Rattle.pm_plan.specs.Plans.{IsValid}
use Rattle.pm_plan.specs.declared.plan.Plan.{Plan}
use Rattle.pm_sim.specs.Sims.{In}
use Rattle.pm_sim.specs.Worlds.{clps_of, first_world, process}
use Rattle.pm_sim.specs.Worlds.Process.{AtAgent, AtClp}
use Rattle.pm_sim.proofs.Firsts.{agents_len}
use Rattle.pm_sim.proofs.Lanes.{InPlan}
use Rattle.pm_sim.proofs.Nexts.{key_ok}
use Rattle.pm_sim.proofs.Shapes.{tree_ok}
use Rattle.pm_cell.specs.Draws.{AllDrawnIn, AllWiredIn, HeldGrew}
use Rattle.pm_cell.specs.Helds.{AreCells, Held, in_wire, inns_of, out_wire, outs_of, side_of, view_of, views}
use Rattle.pm_cell.specs.Stands.{CellLooked, CellView}
use Rattle.pm_cell.specs.Views.{AreCellsOf, FitsPlan, InWire, OutWire, Settled, nobody, nows, view_at}
use Rattle.pm_cell.proofs.Drawing.{outs_past}
use Rattle.pm_cell.proofs.Lists.{same_or}
use Rattle.pm_ends.proofs.Laws.{grew_waiting}
use Rattle.pm_ends.proofs.Lists.{some_same}
use Rattle.pm_cell.proofs.Places.{over_nth, pairs_over, was_nth}
use Rattle.pm_cell.proofs.Rows.{SameFrame, cells_on, each_at, numbered, pairs_with}

-- ---- more came, and nothing was heard

wires_same : (xs ys : List Inn) → AllGrew xs ys → map in_wire ys ≡ map in_wire xs
wires_same [] [] g = refl
wires_same [] (y ∷ ys) g = absurd g
wires_same (x ∷ xs) [] g = absurd g
wires_same (x ∷ xs) (y ∷ ys) g =
    ap (λ z. z ∷ map in_wire ys) (wire (sym g.0.from) (sym g.0.slot) (sym g.0.link))
    ∙ ap (λ z. in_wire x ∷ z) (wires_same xs ys g.1)
  where
    wire : x.from ≡ y.from → x.slot ≡ y.slot → x.link ≡ y.link → in_wire y ≡ in_wire x
    wire e f g = sym (ap (λ (n : ℕ). record { from = n; slot = x.slot; link = x.link }) e
        ∙ (ap (λ (n : ℕ). record { from = y.from; slot = n; link = x.link }) f
        ∙ ap (λ l. record { from = y.from; slot = y.slot; link = l }) g))

received_same : (xs ys : List Inn) → AllGrew xs ys → received_in ys ≡ received_in xs
received_same [] [] g = refl
received_same [] (y ∷ ys) g = absurd g
received_same (x ∷ xs) [] g = absurd g
received_same (x ∷ xs) (y ∷ ys) g =
    ap {B = ℕ → List Post} (λ (f : ℕ → List Post) (b : ℕ). if b == y.from then y.received else f b)
    (received_same xs ys g.1)
    ∙ (ap {B = ℕ → List Post} (λ (r : List Post) (b : ℕ). if b == y.from then r else received_in xs b) g.0.received
    ∙ ap {B = ℕ → List Post} (λ (n : ℕ) (b : ℕ). if b == n then x.received else received_in xs b) g.0.from)

looked_with : (h : Held) (ys : List Inn) → AllGrew h.inns ys → CellLooked (view_of h) (view_of (record h { inns = ys }))
looked_with h ys g = record {
  frame = ap (λ (z : List InWire). record { plan = h.plan; number = h.number; inns = z; outs = map out_wire h.outs })
      (wires_same h.inns ys g);
  spoilt = refl;
  story = refl;
  made = refl;
  now = ap (λ (f : ℕ → List Post). record {
    state = (side_of h).state;
    clock = h.clock;
    sent = sent_in h.outs;
    received = f;
  }) (received_same h.inns ys g);
  window = refl;
  come = grew_waiting h.inns ys g;
}

pub held_looked : (a b : Held) → HeldGrew a b → CellLooked (view_of a) (view_of b)
held_looked a b g = subst (λ (z : Held). CellLooked (view_of a) (view_of z)) (sym g.same) (looked_with a b.inns g.grew)

pub helds_looked : (hs gs : List Held) → Pairs HeldGrew hs gs → Pairs CellLooked (views hs) (views gs)
helds_looked hs gs r = pairs_over HeldGrew CellLooked view_of held_looked hs gs r

-- ---- views by number

pub frame_inns : (hs : List Held) (k : ℕ) → (view_at nobody (views hs) k).frame.inns ≡ map in_wire (inns_of hs k)
frame_inns [] k = refl
frame_inns (h ∷ hs) zero = refl
frame_inns (h ∷ hs) (suc k) = frame_inns hs k

pub frame_outs : (hs : List Held) (k : ℕ) → (view_at nobody (views hs) k).frame.outs ≡ map out_wire (outs_of hs k)
frame_outs [] k = refl
frame_outs (h ∷ hs) zero = refl
frame_outs (h ∷ hs) (suc k) = frame_outs hs k

pub sent_is : (hs : List Held) (k a : ℕ) → (nows nobody (views hs) k).sent a ≡ sent_in (outs_of hs k) a
sent_is [] k a = refl
sent_is (h ∷ hs) zero a = refl
sent_is (h ∷ hs) (suc k) a = sent_is hs k a

pub received_is : (hs : List Held) (k b : ℕ) → (nows nobody (views hs) k).received b ≡ received_in (inns_of hs k) b
received_is [] k b = refl
received_is (h ∷ hs) zero b = refl
received_is (h ∷ hs) (suc k) b = received_is hs k b

pub waiting_is : (hs : List Held) (k b : ℕ) → (view_at nobody (views hs) k).waiting b ≡ waiting_in (inns_of hs k) b
waiting_is [] k b = refl
waiting_is (h ∷ hs) zero b = refl
waiting_is (h ∷ hs) (suc k) b = waiting_is hs k b

-- ---- which ends there are

pub tos_in : (k n : ℕ) (ls : List (ℕ × ℕ)) → In n (tos_from k ls) → In (n, k) ls
tos_in k n [] i = absurd i
tos_in k n (l ∷ ls) i = elim (cases_Bool (l.1 == k)) [
  | inl e ↦ elim (subst (λ c. In n (cond c (l.0 ∷ tos_from k ls) (tos_from k ls))) e i) [
    | inl f ↦ inl (let g : l.1 ≡ k = grind (arith, nat_tests, e) in ap (λ z. (z, k)) f ∙ ap (λ z. (l.0, z)) (sym g))
    | inr j ↦ inr (tos_in k n ls j)
  ]
  | inr e ↦ inr (tos_in k n ls (subst (λ c. In n (cond c (l.0 ∷ tos_from k ls) (tos_from k ls))) e i))
]

pub in_froms : (k n : ℕ) (ls : List (ℕ × ℕ)) → In (n, k) ls → In k (froms_to n ls)
in_froms k n [] i = absurd i
in_froms k n (l ∷ ls) (inl e) =
    let f : l.0 ≡ n = ap (λ (z : ℕ × ℕ). z.0) (sym e) in
    let g : (l.0 == n) ≡ true = grind (arith, nat_tests, f) in
    subst (λ c. In k (cond c (l.1 ∷ froms_to n ls) (froms_to n ls))) (sym g) (inl (ap (λ (z : ℕ × ℕ). z.1) e))
in_froms k n (l ∷ ls) (inr i) = (let again = in_froms k n ls i in elim (cases_Bool (l.0 == n)) [
  | inl e ↦ subst (λ c. In k (cond c (l.1 ∷ froms_to n ls) (froms_to n ls))) (sym e) (inr again)
  | inr e ↦ subst (λ c. In k (cond c (l.1 ∷ froms_to n ls) (froms_to n ls))) (sym e) again
])

later : (k n m : ℕ) (l : ℕ × ℕ) → l.0 ≡ m → l.1 ≡ k → (x : ℕ × ℕ) → x ≡ (n, k) → IsBefore l x → m < n
later k n m l e f x g (inl h) = (let a = ap (λ (z : ℕ × ℕ). z.0) g in omega (arith, a, h, e))
later k n m l e f x g (inr h) = absurd (let a = ap (λ (z : ℕ × ℕ). z.1) g in let b = h.1 in omega (arith, a, b, f))

pub each_in : {X : Type 0} (P : X → Type 0) (xs : List X) (x : X) → AllByRecursion P xs → In x xs → P x
each_in P [] x a i = absurd i
each_in P (y ∷ xs) x a (inl e) = subst P (sym e) a.0
each_in P (y ∷ xs) x a (inr i) = each_in P xs x a.1 i

pub from_each : {X : Type 0} (P : X → Type 0) (xs : List X) → ((x : X) → In x xs → P x) → AllByRecursion P xs
from_each P [] h = tt
from_each P (x ∷ xs) h = (h x (inl refl), from_each P xs (λ y i. h y (inr i)))

pub tos_rise : (k : ℕ) (ls : List (ℕ × ℕ)) → AreAscending ls → AreRising (tos_from k ls)
tos_rise k [] r = tt
tos_rise k (l ∷ ls) r = (let again = tos_rise k ls r.1 in elim (cases_Bool (l.1 == k)) [
  | inl e ↦ (let f : l.1 ≡ k = grind (arith, nat_tests, e) in
      subst (λ c. AreRising (cond c (l.0 ∷ tos_from k ls) (tos_from k ls))) (sym e) (
        from_each (λ (n : ℕ). l.0 < n) (tos_from k ls) (λ n i. later k n l.0 l refl f (n, k) refl
            (each_in (IsBefore l) ls (n, k) r.0 (tos_in k n ls i))),
        again,
      ))
  | inr e ↦ subst (λ c. AreRising (cond c (l.0 ∷ tos_from k ls) (tos_from k ls))) (sym e) again
])

-- both ends of a link are processes of the plan
pub links_low : (p : Plan) → IsValid p → (t f : ℕ) → In (t, f) (links p)
    → (t < clps_of p + length p.agents) × (f < clps_of p + length p.agents)
links_low p valid t f i =
    let key = key_ok p (tree_ok p valid) (process p t) (process p f) (((links_are p valid).exact t f).0 i) in
    (low t key.1, low f key.2)
  where
    many : length (first_world p).agents ≡ length p.agents
    many = agents_len p 0 p.agents

    low : (k : ℕ) → InPlan (clps_of p) (length (first_world p).agents) (process p k) → k < clps_of p + length p.agents
    low k h = go (nat_lt k (clps_of p)) refl h
      where
        go : (b : Bool) → nat_lt k (clps_of p) ≡ b → InPlan (clps_of p) (length (first_world p).agents)
            (cond b (AtClp k) (AtAgent (k - clps_of p))) → k < clps_of p + length p.agents
        go true e h = omega (arith, h)
        go false e h = (let ge : clps_of p ≤ k = grind (arith, nat_tests, e) in omega (arith, h, ge, many))

-- ---- what was sent to a process

has_to : (xs : List Out) (s : ℕ) (o : Out) → nth xs s ≡ Some o → In o.to (tos xs)
has_to [] s o e = absurd (cc)
has_to (x ∷ xs) zero o e = inl (ap (λ (z : Out). z.to) (sym (some_same x o e)))
has_to (x ∷ xs) (suc s) o e = inr (has_to xs s o e)

-- an out-end is the one of its number
sent_at : (xs : List Out) (s : ℕ) (o : Out) → AreRising (tos xs) → nth xs s ≡ Some o → sent_in xs o.to ≡ o.sent
sent_at [] s o u e = absurd (cc)
sent_at (x ∷ xs) zero o u e = (let is : x ≡ o = some_same x o e in elim (same_or o.to x.to) [
  | inl same ↦ ap (λ (c : Bool). cond c x.sent (sent_in xs o.to)) same.1 ∙ ap (λ (z : Out). z.sent) is
  | inr other ↦ absurd (other.0 (ap (λ (z : Out). z.to) (sym is)))
])
sent_at (x ∷ xs) (suc s) o u e = elim (same_or o.to x.to) [
  | inl same ↦ absurd (let f = same.0 in let g : x.to < o.to = each_in (λ (n : ℕ). x.to < n) (tos xs) o.to u.0
      (has_to xs s o e) in omega (arith, f, g))
  | inr other ↦ ap (λ (c : Bool). cond c x.sent (sent_in xs o.to)) other.1 ∙ sent_at xs s o u.1 e
]

sent_none : (xs : List Out) (a : ℕ) → (In a (tos xs) → ⊥) → sent_in xs a ≡ []
sent_none [] a no_end = refl
sent_none (x ∷ xs) a no_end = elim (same_or a x.to) [
  | inl same ↦ absurd (no_end (inl same.0))
  | inr other ↦ ap (λ (c : Bool). cond c x.sent (sent_in xs a)) other.1 ∙ sent_none xs a (λ h. no_end (inr h))
]

-- the in-end from a process
pub record FoundIn (xs : List Inn) (b : ℕ) : Type 0 where
  pub place : ℕ
  pub inn : Inn
  pub at : nth xs place ≡ Some inn
  pub from : inn.from ≡ b
  pub received : received_in xs b ≡ inn.received
  pub waiting : waiting_in xs b ≡ inn.waiting

-- none is from there
pub record NoneIn (xs : List Inn) (b : ℕ) : Type 0 where
  pub none : In b (froms xs) → ⊥
  pub received : received_in xs b ≡ []
  pub waiting : waiting_in xs b ≡ []

pub found : (xs : List Inn) (b : ℕ) → FoundIn xs b ⊎ NoneIn xs b
found [] b = inr (record { none = λ h. h; received = refl; waiting = refl })
found (x ∷ xs) b = elim (same_or b x.from) [
  | inl same ↦ inl (record {
    place = 0;
    inn = x;
    at = refl;
    from = sym same.0;
    received = ap (λ (c : Bool). cond c x.received (received_in xs b)) same.1;
    waiting = ap (λ (c : Bool). cond c x.waiting (waiting_in xs b)) same.1;
  })
  | inr other ↦ elim (found xs b) [
    | inl r ↦ inl (record {
      place = suc r.place;
      inn = r.inn;
      at = r.at;
      from = r.from;
      received = ap (λ (c : Bool). cond c x.received (received_in xs b)) other.1 ∙ r.received;
      waiting = ap (λ (c : Bool). cond c x.waiting (waiting_in xs b)) other.1 ∙ r.waiting;
    })
    | inr r ↦ inr (record {
      none = λ h. elim h [ inl e ↦ other.0 e | inr k ↦ r.none k ];
      received = ap (λ (c : Bool). cond c x.received (received_in xs b)) other.1 ∙ r.received;
      waiting = ap (λ (c : Bool). cond c x.waiting (waiting_in xs b)) other.1 ∙ r.waiting;
    })
  ]
]

-- ---- all cells of a plan

module _ (p : Plan) (hs : List Held) (valid : IsValid p) (cells : AreCellsOf nobody p (views hs)) where
  long : length hs ≡ clps_of p + length p.agents
  long = sym (length-map hs view_of) ∙ cells.count

  in_views : (k : ℕ) → k < length hs → k < length (views hs)
  in_views k lt = (let e = length-map hs view_of in omega (arith, e, lt))

  number : (k : ℕ) → k < length hs → (view_at nobody (views hs) k).frame.number ≡ k
  number k lt = numbered nobody 0 k (views hs) cells.numbers (in_views k lt) ∙ omega arith

  fit : (k : ℕ) → k < length hs → FitsPlan p (view_at nobody (views hs) k).frame
  fit k lt = each_at nobody (λ (v : CellView). FitsPlan p v.frame) (views hs) k (in_views k lt) cells.fit

  pub tos_are : (k : ℕ) → k < length hs → tos (outs_of hs k) ≡ tos_from k (links p)
  tos_are k lt = sym (wires (outs_of hs k)) ∙ (ap (map (λ (x : OutWire). x.to)) (sym (frame_outs hs k))
      ∙ ((fit k lt).tos ∙ ap (λ n. tos_from n (links p)) (number k lt)))
    where
      wires : (os : List Out) → map (λ (x : OutWire). x.to) (map out_wire os) ≡ tos os
      wires [] = refl
      wires (o ∷ os) = ap (λ z. o.to ∷ z) (wires os)

  pub froms_are : (k : ℕ) → k < length hs → froms (inns_of hs k) ≡ froms_to k (links p)
  froms_are k lt = sym (wires (inns_of hs k)) ∙ (ap (map (λ (x : InWire). x.from)) (sym (frame_inns hs k))
      ∙ ((fit k lt).froms ∙ ap (λ n. froms_to n (links p)) (number k lt)))
    where
      wires : (xs : List Inn) → map (λ (x : InWire). x.from) (map in_wire xs) ≡ froms xs
      wires [] = refl
      wires (x ∷ xs) = ap (λ z. x.from ∷ z) (wires xs)

  -- the out-end that an in-end names
  record Named (a : ℕ) (x : Inn) : Type 0 where
    out : Out
    at : nth (outs_of hs x.from) x.slot ≡ Some out
    to : out.to ≡ a
    link : x.link ≡ out.link

  named : (a j : ℕ) (x : Inn) → nth (inns_of hs a) j ≡ Some x → Named a x
  named a j x at =
      let w = cells.wired a j (in_wire x) (ap (λ z. nth z j) (frame_inns hs a)
      ∙ over_nth in_wire (inns_of hs a) j x at) in
      let m = was_nth out_wire (outs_of hs x.from) x.slot w.out
      (ap (λ z. nth z x.slot) (sym (frame_outs hs x.from)) ∙ w.at) in
      record {
        out = m.was;
        at = m.at;
        to = ap (λ (z : OutWire). z.to) m.is ∙ w.to;
        link = w.link
            ∙ ap (λ (z : OutWire). z.link) (sym m.is);
      }

  pub all_wired : (a : ℕ) → AllWiredIn hs (inns_of hs a)
  all_wired a j x at = (let n = named a j x at in record { out = n.out; at = n.at; link = n.link })

  rising : (k : ℕ) → AreRising (tos (outs_of hs k))
  rising k = elim (lt_or k (length hs)) [
    | inl lt ↦ subst AreRising (sym (tos_are k lt)) (tos_rise k (links p) (links_are p valid).ascending)
    | inr ge ↦ subst (λ os. AreRising (tos os)) (sym (outs_past hs k ge)) tt
  ]
    where
      lt_or : (a b : ℕ) → (a < b) ⊎ (b ≤ a)
      lt_or a b = grind arith

  -- where there is an out-end, there is its in-end
  met : (a b : ℕ) → In a (tos (outs_of hs b)) → In b (froms (inns_of hs a))
  met a b i = elim (lt_or b (length hs)) [
    | inl lt ↦ (let j : In (a, b) (links p) = tos_in b a (links p) (subst (In a) (tos_are b lt) i) in
        let low : a < length hs = (let l = (links_low p valid a b j).0 in omega (arith, l, long)) in
        subst (In b) (sym (froms_are a low)) (in_froms b a (links p) j))
    | inr ge ↦ absurd (subst (λ os. In a (tos os)) (outs_past hs b ge) i)
  ]
    where
      lt_or : (a b : ℕ) → (a < b) ⊎ (b ≤ a)
      lt_or a b = grind arith

  pub all_settled : ((k : ℕ) → AllDrawnIn hs (inns_of hs k)) → Settled nobody (views hs)
  all_settled drawn a b = sent_is hs b a ∙ (ends (found (inns_of hs a) b)
      ∙ ap₂ (λ x y. x ++ y) (sym (received_is hs a b)) (sym (waiting_is hs a b)))
    where
      ends : FoundIn (inns_of hs a) b ⊎ NoneIn (inns_of hs a) b
          → sent_in (outs_of hs b) a ≡ received_in (inns_of hs a) b ++ waiting_in (inns_of hs a) b
      ends (inl r) =
          let x : Inn = r.inn in
          let n = named a r.place x r.at in
          let w = drawn a r.place x r.at in
          let same : w.out ≡ n.out = some_same w.out n.out (sym w.at ∙ n.at) in
          ap₂ (λ (f t : ℕ). sent_in (outs_of hs f) t) (sym r.from) (sym n.to)
          ∙ (sent_at (outs_of hs x.from) x.slot n.out (rising x.from) n.at
          ∙ (ap (λ (z : Out). z.sent) (sym same) ∙ (w.all ∙ ap₂ (λ y z. y ++ z) (sym r.received) (sym r.waiting))))
      ends (inr r) = sent_none (outs_of hs b) a (λ h. r.none (met a b h))
          ∙ ap₂ (λ y z. y ++ z) (sym r.received) (sym r.waiting)

-- ---- cells of a plan, some of which were drawn

module _ (hs gs : List Held) (are : AreCells (views hs)) (grew : Pairs HeldGrew hs gs) where
  frames : Pairs SameFrame (views hs) (views gs)
  frames = pairs_with CellLooked SameFrame (views hs) (views gs) (λ a b l. l.frame) (helds_looked hs gs grew)

  now_cells : AreCellsOf nobody are.plan (views gs)
  now_cells = cells_on nobody are.plan (views hs) (views gs) frames are.cells

  pub grown_wired : (k : ℕ) → AllWiredIn gs (inns_of gs k)
  grown_wired k = all_wired are.plan gs are.valid now_cells k

  pub grown_settled : ((k : ℕ) → AllDrawnIn gs (inns_of gs k)) → Settled nobody (views gs)
  grown_settled drawn = all_settled are.plan gs are.valid now_cells drawn
