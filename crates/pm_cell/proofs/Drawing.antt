-- Cells whose in-ends are drawn.
use Rattle.std.proofs.Common.{◌≡◌, ℕ, zero, suc, ◌+◌, ◌<◌, ◌≤◌, ◌≢◌, ◌⊎◌, inl, inr, List, [], ◌∷◌, ◌++◌, map, length, get_or, set, refl, arith, ap, sym, ◌∙◌, subst, Option, Some, None, option_map, get_or-set_same, Result, Ok, Err, OnOk}
use Rattle.std.proofs.lemmas.List.{get_or-map}
use Rattle.pm_ends.specs.Ends.{AllGrew, Grew, Inn, Out}
use Rattle.pm_ends.specs.Numbers.{Pairs, nth}
use Rattle.pm_ends.specs.Wires.{IsDrawn, IsWiredAt}
use Rattle.pm_cell.specs.Draws.{AllDrawnIn, AllWiredIn, HeldGrew, IsDrawnAt, IsWiredIn}
use Rattle.pm_cell.specs.Helds.{Held, inns_of, outs_of}
use Rattle.pm_ends.proofs.Laws.{all_grew_on, all_grew_same}
use Rattle.pm_ends.proofs.Lists.{nth_else, nth_is, pairs_back, pairs_map, pairs_on, pairs_set, some_same}
use Rattle.pm_cell.proofs.Lists.{same_or}
use Rattle.pm_cell.proofs.Places.{map_set, pairs_get, pairs_over, set_twice}

-- ---- more comes

pub held_same : (h : Held) → HeldGrew h h
held_same h = record { same = refl; grew = all_grew_same h.inns }

held_step : (a b c : Held) → HeldGrew a b → HeldGrew b c → HeldGrew a c
held_step a b c p q = record {
  same = q.same ∙ ap (λ (z : Held). record z { inns = c.inns }) p.same;
  grew = all_grew_on a.inns b.inns c.inns p.grew q.grew;
}

pub helds_on : (hs gs fs : List Held) → Pairs HeldGrew hs gs → Pairs HeldGrew gs fs → Pairs HeldGrew hs fs
helds_on hs gs fs p q = pairs_on HeldGrew held_step hs gs fs p q

-- ---- ends by number

-- the out-ends of all
abbrev pub all_outs : List Held → List (List Out)
all_outs hs = map (λ (h : Held). h.outs) hs

pub outs_here : (hs : List Held) (k : ℕ) (d : Held) → k < length hs → outs_of hs k ≡ (get_or hs k d).outs
outs_here hs k d lt = get_or-map (λ (h : Held). h.outs) hs k d [] lt

pub inns_here : (hs : List Held) (k : ℕ) (d : Held) → k < length hs → inns_of hs k ≡ (get_or hs k d).inns
inns_here hs k d lt = get_or-map (λ (h : Held). h.inns) hs k d [] lt

pub outs_past : (hs : List Held) (k : ℕ) → length hs ≤ k → outs_of hs k ≡ []
outs_past [] k le = refl
outs_past (h ∷ hs) zero le = absurd (omega arith)
outs_past (h ∷ hs) (suc k) le = outs_past hs k (omega arith)

pub inns_past : (hs : List Held) (k : ℕ) → length hs ≤ k → inns_of hs k ≡ []
inns_past [] k le = refl
inns_past (h ∷ hs) zero le = absurd (omega arith)
inns_past (h ∷ hs) (suc k) le = inns_past hs k (omega arith)

pub inns_like : (hs gs : List Held) (k : ℕ) → nth gs k ≡ nth hs k → inns_of gs k ≡ inns_of hs k
inns_like [] [] k e = refl
inns_like [] (g ∷ gs) zero e = absurd (cc)
inns_like [] (g ∷ gs) (suc k) e = inns_like [] gs k e
inns_like (h ∷ hs) [] zero e = absurd (cc)
inns_like (h ∷ hs) [] (suc k) e = inns_like hs [] k e
inns_like (h ∷ hs) (g ∷ gs) zero e = ap (λ (z : Held). z.inns) (some_same g h e)
inns_like (h ∷ hs) (g ∷ gs) (suc k) e = inns_like hs gs k e

pub outs_grew : (hs gs : List Held) → Pairs HeldGrew hs gs → all_outs gs ≡ all_outs hs
outs_grew hs gs r = pairs_map HeldGrew (λ (h : Held). h.outs) (λ a b g. ap (λ (z : Held). z.outs) g.same) hs gs r

pub inns_grew : (hs gs : List Held) (k : ℕ) → Pairs HeldGrew hs gs → AllGrew (inns_of hs k) (inns_of gs k)
inns_grew hs gs k r = pairs_get AllGrew (map (λ (h : Held). h.inns) hs) (map (λ (h : Held). h.inns) gs) k [] tt
    (pairs_over HeldGrew AllGrew (λ (h : Held). h.inns) (λ a b g. g.grew) hs gs r)

-- ---- what stays wired and drawn

pub wired_outs : (hs gs : List Held) (xs : List Inn) → all_outs gs ≡ all_outs hs → AllWiredIn hs xs → AllWiredIn gs xs
wired_outs hs gs xs e w j x at = (let i = w j x at in record
    { out = i.out; at = ap (λ z. nth (get_or z x.from []) x.slot) e ∙ i.at; link = i.link })

pub wired_grew : (hs : List Held) (xs ys : List Inn) → AllGrew xs ys → AllWiredIn hs xs → AllWiredIn hs ys
wired_grew hs xs ys g w j y at =
    let p = pairs_back Grew xs ys j y g at in
    let i = w j p.0 p.1 in
    record {
      out = i.out;
      at = ap (λ (n : ℕ). nth (outs_of hs n) y.slot) p.2.from ∙ (ap (nth (outs_of hs p.0.from)) p.2.slot ∙ i.at);
      link = p.2.link ∙ i.link;
    }

pub drawn_outs : (hs gs : List Held) (xs : List Inn) (j : ℕ) → all_outs gs ≡ all_outs hs → IsDrawnAt hs xs j
    → IsDrawnAt gs xs j
drawn_outs hs gs xs j e w x at = (let i = w x at in record
    { out = i.out; at = ap (λ z. nth (get_or z x.from []) x.slot) e ∙ i.at; all = i.all })

pub drawn_like : (hs : List Held) (xs ys : List Inn) (j : ℕ) → nth ys j ≡ nth xs j → IsDrawnAt hs xs j
    → IsDrawnAt hs ys j
drawn_like hs xs ys j e w x at = w x (sym e ∙ at)

pub all_drawn : (hs : List Held) (xs : List Inn) (k : ℕ) → length xs ≤ k → ((j : ℕ) → j < k → IsDrawnAt hs xs j)
    → AllDrawnIn hs xs
all_drawn hs xs k le h j x at = (let lt = (nth_is xs j x x at).0 in h j (omega (arith, lt, le)) x at)

-- one more in-end is drawn
pub drawn_more : (hs : List Held) (xs ys : List Inn) (i j : ℕ) → ((k : ℕ) → k < i → IsDrawnAt hs xs k)
    → ((k : ℕ) → k ≢ i → nth ys k ≡ nth xs k) → IsDrawnAt hs ys i → j < i + 1 → IsDrawnAt hs ys j
drawn_more hs xs ys i j before others here lt = elim (same_or j i) [
  | inl e ↦ subst (IsDrawnAt hs ys) (sym e.0) here
  | inr ne ↦ drawn_like hs xs ys j (others j ne.0) (before j (let n = ne.0 in omega (arith, n, lt)))
]

-- ---- one in-end

-- an in-end by its sender
pub record FromAt (o : Option Inn) (n : ℕ) : Type 0 where
  pub inn : Inn
  pub is : o ≡ Some inn
  pub from : inn.from ≡ n

pub from_at : (o : Option Inn) (n : ℕ) → Some n ≡ option_map (λ (x : Inn). x.from) o → FromAt o n
from_at None n e = absurd (cc)
from_at (Some x) n e = record { inn = x; is = refl; from = sym (some_same n x.from e) }

pub from_none : (o : Option Inn) → None ≡ option_map (λ (x : Inn). x.from) o → o ≡ None
from_none None e = refl
from_none (Some x) e = absurd (cc)

-- the cell that an in-end names is there
pub wired_low : (hs : List Held) (x : Inn) → IsWiredIn hs x → x.from < length hs
wired_low hs x w = elim (lt_or x.from (length hs)) [
  | inl lt ↦ lt
  | inr ge ↦ absurd (let e : nth [] x.slot ≡ Some w.out = ap (λ os. nth os x.slot) (sym (outs_past hs x.from ge))
      ∙ w.at in cc)
]
  where
    lt_or : (a b : ℕ) → (a < b) ⊎ (b ≤ a)
    lt_or a b = grind arith

pub wired_here : (hs : List Held) (xs : List Inn) (j k : ℕ) (d : Held) → AllWiredIn hs xs → FromAt (nth xs j) k
    → IsWiredAt (get_or hs k d).outs xs j
wired_here hs xs j k d w f =
    let i = w j f.inn f.is in
    let lt : k < length hs = subst (λ n. n < length hs) f.from (wired_low hs f.inn i) in
    record {
      inn = f.inn;
      at = f.is;
      out = i.out;
      there = ap (λ os. nth os f.inn.slot) (sym (outs_here hs k d lt) ∙ ap (outs_of hs) (sym f.from)) ∙ i.at;
      link = i.link;
    }

pub drawn_here : (hs : List Held) (xs ys : List Inn) (j k : ℕ) (d : Held) → k < length hs → AllGrew xs ys
    → FromAt (nth xs j) k → IsDrawn (get_or hs k d).outs ys j → IsDrawnAt hs ys j
drawn_here hs xs ys j k d lt g f w x at =
    let p = pairs_back Grew xs ys j x g at in
    let was : p.0 ≡ f.inn = some_same p.0 f.inn (sym p.1 ∙ f.is) in
    let from : x.from ≡ k = p.2.from ∙ (ap (λ (z : Inn). z.from) was ∙ f.from) in
    let same : w.inn ≡ x = some_same w.inn x (sym w.at ∙ at) in
    record {
      out = w.out;
      at = ap (λ n. nth (outs_of hs n) x.slot) from ∙ (ap (λ os. nth os x.slot) (outs_here hs k d lt)
          ∙ (ap (λ (z : Inn). nth (get_or hs k d).outs z.slot) (sym same) ∙ w.there));
      all = w.all ∙ ap (λ (z : Inn). z.received ++ z.waiting) same;
    }

-- ---- one cell: its in-ends stand apart, are drawn, and are put back

module _ (hs gs : List Held) (at : ℕ) (lt : at < length hs) (d e : Held) (inns : List Inn)
    (away : gs ≡ set hs at (record (get_or hs at d) { inns = [] })) (grew : AllGrew (get_or hs at d).inns inns) where
  abbrev pub back : Held
  back = record (get_or gs at e) { inns = inns }

  abbrev pub after : List Held
  after = set gs at back

  back_is : back ≡ record (get_or hs at d) { inns = inns }
  back_is = ap (λ (z : Held). record z { inns = inns })
      (ap (λ z. get_or z at e) away ∙ get_or-set_same hs at (record (get_or hs at d) { inns = [] }) e lt)

  after_is : after ≡ set hs at (record (get_or hs at d) { inns = inns })
  after_is = ap (λ z. set z at back) away ∙ (set_twice hs at (record (get_or hs at d) { inns = [] }) back
      ∙ ap (set hs at) back_is)

  pub away_outs : all_outs gs ≡ all_outs hs
  away_outs = ap all_outs away ∙ map_set (λ (h : Held). h.outs) hs at (record (get_or hs at d) { inns = [] }) d refl

  pub back_grew : Pairs HeldGrew hs after
  back_grew = subst (Pairs HeldGrew hs) (sym after_is) (pairs_set HeldGrew held_same hs at d
      (record (get_or hs at d) { inns = inns }) (record { same = refl; grew = grew }))

  pub back_others : (k : ℕ) → k ≢ at → nth after k ≡ nth hs k
  back_others k ne = ap (λ z. nth z k) after_is ∙ nth_else hs at k (record (get_or hs at d) { inns = inns }) ne

  pub back_inns : inns_of after at ≡ inns
  back_inns = ap (λ z. inns_of z at) after_is ∙ own hs at lt
    where
      own : (fs : List Held) (k : ℕ) → k < length fs → inns_of
          (set fs k (record (get_or hs at d) { inns = inns })) k ≡ inns
      own [] k lt = absurd (omega arith)
      own (f ∷ fs) zero lt = refl
      own (f ∷ fs) (suc k) lt = own fs k (omega arith)

  pub back_drawn : AllDrawnIn gs inns → AllDrawnIn after (inns_of after at)
  back_drawn h = subst (AllDrawnIn after) (sym back_inns)
      (λ j. drawn_outs gs after inns j (outs_grew hs after back_grew ∙ sym away_outs) (h j))

pub on_ok : {T E : Type 0} (r : Result T E) (P Q : Type 0) → (P → Q) → OnOk r P → OnOk r Q
on_ok (Ok x) P Q f h = f h
on_ok (Err e) P Q f h = h

-- one more cell is drawn
pub cells_drawn : (hs gs : List Held) (i k : ℕ) → Pairs HeldGrew hs gs
    → ((j : ℕ) → j < i → AllDrawnIn hs (inns_of hs j)) → ((j : ℕ) → j ≢ i → nth gs j ≡ nth hs j)
    → AllDrawnIn gs (inns_of gs i) → k < i + 1 → AllDrawnIn gs (inns_of gs k)
cells_drawn hs gs i k grew before others here lt = elim (same_or k i) [
  | inl e ↦ subst (λ j. AllDrawnIn gs (inns_of gs j)) (sym e.0) here
  | inr ne ↦ subst (AllDrawnIn gs) (sym (inns_like hs gs k (others k ne.0)))
      (λ j. drawn_outs hs gs (inns_of hs k) j (outs_grew hs gs grew)
      (before k (let n = ne.0 in omega (arith, n, lt)) j))
]

pub drawn_past : (hs : List Held) (i k : ℕ) → length hs ≤ i → ((j : ℕ) → j < i → AllDrawnIn hs (inns_of hs j))
    → AllDrawnIn hs (inns_of hs k)
drawn_past hs i k le h = elim (lt_or k i) [
  | inl lt ↦ h k lt
  | inr ge ↦ subst (AllDrawnIn hs) (sym (inns_past hs k (omega (arith, le, ge)))) (λ j x e. absurd (cc))
]
  where
    lt_or : (a b : ℕ) → (a < b) ⊎ (b ≤ a)
    lt_or a b = grind arith
