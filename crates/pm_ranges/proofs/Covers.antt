-- Covering at the ends of the pieces is covering at every stamp.
use Rattle.std.proofs.Common.{◌≡◌, ◌⊎◌, inl, inr, refl, ◌+◌, Bool, true, false, not, ◌&&◌, ◌||◌, if◌then◌else◌, List, [], ◌∷◌, Option, Some, None, arith, sym, ◌∙◌, ap, subst}
use Rattle.std.proofs.lemmas.Bool.{cases_Bool, and_parts, and_from}
use Rattle.std.proofs.lemmas.Bool.Decides.{nat_tests}
use Rattle.pm_base.specs.Stamps.{stamp_lt, is_below, is_after, is_until, holds}
use Rattle.pm_base.specs.declared.stamp.Interval.{Interval}
use Rattle.pm_base.specs.declared.stamp.Line.{Line}
use Rattle.pm_base.specs.declared.stamp.Line.TheVariants as line
use Rattle.pm_base.specs.declared.stamp.Stamp.{Stamp}
use Rattle.pm_base.specs.declared.value.Window.{Window}
use Rattle.pm_ranges.specs.declared.piece.Piece.{Piece}
use Rattle.pm_ranges.specs.Joins.{lies_in}
use Rattle.pm_ranges.specs.Known.{Known, bound_of, bound_at, covered_at, ends_covered, last_covered, is_end, covers, IsCovered}
use Rattle.pm_ranges.proofs.Parting.{lt-le, le-lt, lt-not, never-itself, le-trans}

-- a stamp no earlier than one that may be asked for may be
pub asked-later : (l : Line) (s t : Stamp) → is_below s l ≡ false → stamp_lt t s ≡ false → is_below t l ≡ false
asked-later (line.At x) s t h k = le-trans x s t h k
asked-later line.End s t h k = h

pub after-later : (o : Option Stamp) (s t : Stamp) → is_after o s ≡ true → stamp_lt t s ≡ false → is_after o t ≡ true
after-later None s t h k = refl
after-later (Some e) s t h k = lt-le e s t h k

not-true : (b : Bool) → not b ≡ true → b ≡ false
not-true true h = cc
not-true false h = refl

not-false : (b : Bool) → not b ≡ false → b ≡ true
not-false true h = refl
not-false false h = cc

covered-told : (a h l : Bool) → (a || (not h || l)) ≡ true → a ≡ false → h ≡ true → l ≡ true
covered-told a h l c p q = grind (arith, nat_tests)

covered-not : (a h l : Bool) → (a || (not h || l)) ≡ false → (a ≡ false) × (h ≡ true) × (l ≡ false)
covered-not true h l c = absurd (cc)
covered-not false true true c = absurd (cc)
covered-not false true false c = (refl, refl, refl)
covered-not false false l c = absurd (cc)

pub told-at : (b : Known) (when : Interval) (w : Window) (t : Stamp) → covered_at b when w t ≡ true
    → is_below t b.line ≡ false → holds when t ≡ true → lies_in w (bound_at b t) ≡ true
told-at b when w t c p h = covered-told (is_below t b.line) (holds when t) (lies_in w (bound_at b t)) c p h

-- at the stamps from s on the bounds are those of these pieces
abbrev pub Agrees : Known → Stamp → List Piece → Type 0
Agrees b s ps = (t : Stamp) → stamp_lt t s ≡ false → bound_at b t ≡ bound_of ps b.rest t

agrees-next : (b : Known) (s : Stamp) (p : Piece) (ps : List Piece) → stamp_lt p.until s ≡ true → Agrees b s (p ∷ ps)
    → Agrees b s ps
agrees-next b s p ps h a t k = (let later = lt-le p.until s t h k in a t k ∙ ap (λ c. if c then bound_of ps b.rest t else p.window) later)

module _ (b : Known) (when : Interval) (w : Window) (s : Stamp) (asked : is_below s b.line ≡ false) (held : holds when s ≡ true) where
  from-s : is_after when.from s ≡ true
  from-s = (and_parts (is_after when.from s) (is_until when.until s) held).0

  until-s : is_until when.until s ≡ true
  until-s = (and_parts (is_after when.from s) (is_until when.until s) held).1

  -- at the interval's own end, no earlier than s
  at-end : (o : Option Stamp) → when.until ≡ o → last_covered b when w o ≡ true → (u : Stamp) → o ≡ Some u
      → lies_in w (bound_at b u) ≡ true
  at-end None is c u e = absurd (cc)
  at-end (Some x) is c u e =
      let same : x ≡ u = cc in
      let no_earlier : stamp_lt x s ≡ false = not-true (stamp_lt x s) (subst (λ o. is_until o s ≡ true) is until-s) in
      let from = after-later when.from s x from-s no_earlier in
      let until : is_until when.until x ≡ true = subst (λ o. is_until o x ≡ true) (sym is) (ap not (never-itself x)) in
      subst (λ z. lies_in w (bound_at b z) ≡ true) same (told-at b when w x c (asked-later b.line s x asked no_earlier) (and_from (is_after when.from x) _ from until))

  behind : (o : Option Stamp) → when.until ≡ o → last_covered b when w o ≡ true → Agrees b s []
      → lies_in w (bound_at b s) ≡ true
  behind None is c a = subst (λ z. lies_in w z ≡ true) (sym (a s (never-itself s))) (at-rest b.line refl)
    where
      at-rest : (l : Line) → b.line ≡ l → lies_in w b.rest ≡ true
      at-rest (line.At x) e = subst (λ z. (is_end z || lies_in w b.rest) ≡ true) e c
      at-rest line.End e = absurd (let m = subst (λ z. is_below s z ≡ false) e asked in cc)
  behind (Some u) is c a =
      let no_earlier : stamp_lt u s ≡ false = not-true (stamp_lt u s) (subst (λ o. is_until o s ≡ true) is until-s) in
      subst (λ z. lies_in w z ≡ true) (a u no_earlier ∙ sym (a s (never-itself s))) (at-end (Some u) is c u refl)

  -- in the piece that s is in
  within-piece : (p : Piece) (ps : List Piece) → stamp_lt p.until s ≡ false → covered_at b when w p.until ≡ true
      → (o : Option Stamp) → when.until ≡ o → last_covered b when w o ≡ true → Agrees b s (p ∷ ps)
      → lies_in w p.window ≡ true
  within-piece p ps h c o is last a = elim (cases_Bool (is_until when.until p.until)) [
    | inl k ↦ (let e : bound_at b p.until ≡ p.window = a p.until h ∙ ap (λ z. if z then bound_of ps b.rest p.until else p.window) (never-itself p.until) in
        subst (λ z. lies_in w z ≡ true) e (told-at b when w p.until c (asked-later b.line s p.until asked h) (and_from (is_after when.from p.until) _ (after-later when.from s p.until from-s h) k)))
    | inr k ↦ short k o is last
  ]
    where
      short : is_until when.until p.until ≡ false → (o : Option Stamp) → when.until ≡ o
          → last_covered b when w o ≡ true → lies_in w p.window ≡ true
      short k None is last = absurd (let m = subst (λ o. is_until o p.until ≡ false) is k in cc)
      short k (Some u) is last =
          let no_earlier : stamp_lt u s ≡ false = not-true (stamp_lt u s) (subst (λ o. is_until o s ≡ true) is until-s) in
          let shorter : stamp_lt u p.until ≡ true = not-false (stamp_lt u p.until) (subst (λ o. is_until o p.until ≡ false) is k) in
          let e : bound_at b u ≡ p.window = a u no_earlier ∙ ap (λ z. if z then bound_of ps b.rest u else p.window) (lt-not u p.until shorter) in
          subst (λ z. lies_in w z ≡ true) e (at-end (Some u) is last u refl)

  covered-in : (ps : List Piece) → ends_covered b when w ps ≡ true → last_covered b when w when.until ≡ true
      → Agrees b s ps → lies_in w (bound_at b s) ≡ true
  covered-in [] c last a = behind when.until refl last a
  covered-in (p ∷ ps) c last a =
      let parts = and_parts (covered_at b when w p.until) (ends_covered b when w ps) c in
      elim (cases_Bool (stamp_lt p.until s)) [
        | inl h ↦ covered-in ps parts.1 last (agrees-next b s p ps h a)
        | inr h ↦ (let e : bound_at b s ≡ p.window = a s (never-itself s) ∙ ap (λ z. if z then bound_of ps b.rest s else p.window) h in
            subst (λ z. lies_in w z ≡ true) (sym e) (within-piece p ps h parts.0 when.until refl last a))
      ]

pub covers-told : (b : Known) (when : Interval) (w : Window) → covers b when w ≡ true → IsCovered b when w
covers-told b when w c s asked held =
    let parts = and_parts (ends_covered b when w b.pieces) (last_covered b when w when.until) c in
    covered-in b when w s asked held b.pieces parts.0 parts.1 (λ t k. refl)

-- a stamp after this one and after all pieces
late : (ps : List Piece) (rest : Option Window) (x : Stamp)
    → (s : Stamp) × (stamp_lt x s ≡ true) × (bound_of ps rest s ≡ rest)
late [] rest x = (record { time = x.time + 1; agent = 0 }, grind (arith, nat_tests), refl)
late (p ∷ ps) rest x = elim (cases_Bool (stamp_lt x p.until)) [
  | inl h ↦ (let l = late ps rest p.until in (l.0, lt-le x p.until l.0 h (lt-not p.until l.0 l.1), ap (λ z. if z then bound_of ps rest l.0 else p.window) l.1 ∙ l.2))
  | inr h ↦ (let l = late ps rest x in (l.0, l.1, ap (λ z. if z then bound_of ps rest l.0 else p.window) (le-lt p.until x l.0 h l.1) ∙ l.2))
]

-- a stamp that may be asked for, in the interval, at which the window is not within the bound
abbrev pub Missing : Known → Interval → Window → Type 0
Missing b when w = (s : Stamp) × (is_below s b.line ≡ false) × (holds when s ≡ true) × (lies_in w (bound_at b s) ≡ false)

missing-at : (b : Known) (when : Interval) (w : Window) (s : Stamp) → covered_at b when w s ≡ false → Missing b when w
missing-at b when w s c = (let m = covered-not (is_below s b.line) (holds when s) (lies_in w (bound_at b s)) c in (s, m.0, m.1, m.2))

and-false : (a c : Bool) → (a && c) ≡ false → (a ≡ false) ⊎ (c ≡ false)
and-false true c h = inr h
and-false false c h = inl refl

missing-end : (b : Known) (when : Interval) (w : Window) (ps : List Piece) → ends_covered b when w ps ≡ false
    → Missing b when w
missing-end b when w [] c = absurd (cc)
missing-end b when w (p ∷ ps) c = elim (and-false (covered_at b when w p.until) (ends_covered b when w ps) c) [
  | inl h ↦ missing-at b when w p.until h
  | inr h ↦ missing-end b when w ps h
]

or-false : (a c : Bool) → (a || c) ≡ false → (a ≡ false) × (c ≡ false)
or-false true c h = absurd (cc)
or-false false c h = (refl, h)

missing-rest : (b : Known) (when : Interval) (w : Window) → when.until ≡ None → is_end b.line ≡ false
    → lies_in w b.rest ≡ false → Missing b when w
missing-rest b when w is not_end c = go b.line refl when.from refl
  where
    found : (x s : Stamp) (l : Line) → b.line ≡ l → is_below s l ≡ false → is_after when.from s ≡ true
        → bound_at b s ≡ b.rest → Missing b when w
    found x s l e asked from rest = (
      s,
      subst (λ z. is_below s z ≡ false) (sym e) asked,
      and_from (is_after when.from s) _ from (subst (λ o. is_until o s ≡ true) (sym is) refl),
      subst (λ z. lies_in w z ≡ false) (sym rest) c,
    )

    go : (l : Line) → b.line ≡ l → (o : Option Stamp) → when.from ≡ o → Missing b when w
    go line.End e o f = absurd (let m = subst (λ z. is_end z ≡ false) e not_end in cc)
    go (line.At x) e None f = (let l = late b.pieces b.rest x in found x l.0 (line.At x) e (lt-not x l.0 l.1) (subst (λ o. is_after o l.0 ≡ true) (sym f) refl) l.2)
    go (line.At x) e (Some y) f = elim (cases_Bool (stamp_lt x y)) [
      | inl h ↦ (let l = late b.pieces b.rest y in found x l.0 (line.At x) e (lt-not x l.0 (lt-le x y l.0 h (lt-not y l.0 l.1))) (subst (λ o. is_after o l.0 ≡ true) (sym f) l.1) l.2)
      | inr h ↦ (let l = late b.pieces b.rest x in found x l.0 (line.At x) e (lt-not x l.0 l.1) (subst (λ o. is_after o l.0 ≡ true) (sym f) (le-lt y x l.0 h l.1)) l.2)
    ]

missing-last : (b : Known) (when : Interval) (w : Window) (o : Option Stamp) → when.until ≡ o
    → last_covered b when w o ≡ false → Missing b when w
missing-last b when w None is c = (let m = or-false (is_end b.line) (lies_in w b.rest) c in missing-rest b when w is m.0 m.1)
missing-last b when w (Some u) is c = missing-at b when w u c

pub missing : (b : Known) (when : Interval) (w : Window) → covers b when w ≡ false → Missing b when w
missing b when w c = elim (and-false (ends_covered b when w b.pieces) (last_covered b when w when.until) c) [
  | inl h ↦ missing-end b when w b.pieces h
  | inr h ↦ missing-last b when w when.until refl h
]

pub covers-from : (b : Known) (when : Interval) (w : Window) → IsCovered b when w → covers b when w ≡ true
covers-from b when w all = elim (cases_Bool (covers b when w)) [
  | inl h ↦ h
  | inr h ↦ absurd (let m = missing b when w h in let yet = all m.0 m.1 m.2 in let but = m.3 in cc)
]
