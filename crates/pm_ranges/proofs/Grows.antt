-- Growing, trimming, and what fits.
use Rattle.std.proofs.Common.{◌≡◌, inl, inr, refl, Bool, true, false, not, if◌then◌else◌, IsTrue, ◌↔◌, List, [], ◌∷◌, filter, Option, Some, None, arith, sym, ◌∙◌, ap, subst}
use Rattle.std.proofs.lemmas.Bool.{cases_Bool, cond_both, false≢true}
use Rattle.std.proofs.lemmas.Bool.Decides.{nat_tests}
use Rattle.pm_base.specs.Stamps.{stamp_lt, is_below, holds}
use Rattle.pm_base.specs.declared.stamp.Interval.{Interval}
use Rattle.pm_base.specs.declared.stamp.Line.{Line}
use Rattle.pm_base.specs.declared.stamp.Line.TheVariants as line
use Rattle.pm_base.specs.declared.stamp.Stamp.{Stamp}
use Rattle.pm_base.specs.declared.value.Window.{Window}
use Rattle.pm_ranges.specs.declared.piece.Piece.{Piece}
use Rattle.pm_ranges.specs.Fits.{BoundsAreJoins, CoveringIsTold, Fits, FittingIsKept, GrowingJoins, TrimmingKeeps}
use Rattle.pm_ranges.specs.Joins.{Row, AllIn, IsIn, NoneHolds, join_at, joined, lies_in, within}
use Rattle.pm_ranges.specs.Known.{Known, Grows, IsCovered, bound_of, bound_at, covers, grown, grown_all, grown_pieces, parted, parted_at, raised_rest, trimmed}
use Rattle.pm_ranges.proofs.Windows.{within-trans, join-left, join-right, join-least, joined-is, joined-differs, within-told, within-from}
use Rattle.pm_ranges.proofs.Covers.{covers-told, covers-from, missing}
use Rattle.pm_ranges.proofs.Parting.{Ready, lt-le, parted-ends, parted-keeps, parted-same, raised-at}

pub parted_at-same : (o : Option Stamp) (ps : List Piece) (rest : Option Window) (s : Stamp)
    → bound_of (parted_at o ps rest) rest s ≡ bound_of ps rest s
parted_at-same None ps rest s = refl
parted_at-same (Some e) ps rest s = parted-same e ps rest s

ready-parted : (o : Option Stamp) (s : Stamp) (ps : List Piece) (rest : Option Window) → Ready o s (parted_at o ps rest)
ready-parted None s ps rest = tt
ready-parted (Some e) s ps rest = inr (parted-ends e ps rest)

ready-kept : (o q : Option Stamp) (s : Stamp) (ps : List Piece) (rest : Option Window)
    → Ready o s (parted_at o ps rest) → Ready o s (parted_at q (parted_at o ps rest) rest)
ready-kept o None s ps rest r = r
ready-kept None (Some e) s ps rest r = tt
ready-kept (Some d) (Some e) s ps rest (inl r) = inl r
ready-kept (Some d) (Some e) s ps rest (inr r) = inr (parted-keeps d e (parted d ps rest) rest r)

-- the pieces after growing where the window was not covered
pub raised-bound : (when : Interval) (w : Window) (ps : List Piece) (rest : Option Window) (s : Stamp)
    → bound_of (grown_pieces when w ps rest) (raised_rest when w rest) s ≡ (if holds when s then Some (joined w (bound_of ps rest s)) else bound_of ps rest s)
raised-bound when w ps rest s =
    let same = parted_at-same when.until (parted_at when.from ps rest) rest s ∙ parted_at-same when.from ps rest s in
    raised-at when w (parted_at when.until (parted_at when.from ps rest) rest) rest s (ready-kept when.from when.until s ps rest (ready-parted when.from s ps rest)) (ready-parted when.until s (parted_at when.from ps rest) rest)
    ∙ ap (λ o. if holds when s then Some (joined w o) else o) same

pub grown-line : (when : Interval) (w : Window) (b : Known) → (grown when w b).line ≡ b.line
grown-line when w b = cond_both (covers b when w) b (record b { pieces = grown_pieces when w b.pieces b.rest; rest = raised_rest when w b.rest }) (λ (k : Known). k.line ≡ b.line) (λ _. refl) (λ _. refl)

pub grown-bound : (when : Interval) (w : Window) (b : Known) (s : Stamp) → is_below s b.line ≡ false
    → bound_at (grown when w b) s ≡ (if holds when s then Some (joined w (bound_at b s)) else bound_at b s)
grown-bound when w b s asked = cond_both (covers b when w) b (record b { pieces = grown_pieces when w b.pieces b.rest; rest = raised_rest when w b.rest })
    (λ (k : Known). bound_at k s ≡ (if holds when s then Some (joined w (bound_at b s)) else bound_at b s))
    (λ c. elim (cases_Bool (holds when s)) [
      | inl h ↦ (let inside = covers-told b when w c s asked h in rw h (sym (joined-is w (bound_at b s) inside)))
      | inr h ↦ rw h refl
    ])
    (λ c. raised-bound when w b.pieces b.rest s)

pub growing-joins : (when : Interval) (w : Window) (b : Known) → GrowingJoins when w b
growing-joins when w b = record { line = grown-line when w b; bound = grown-bound when w b }

-- ---- covering

pub grows-from : (when : Interval) (w : Window) (b : Known) → covers b when w ≡ false → Grows when w b
grows-from when w b c =
    let m = missing b when w c in
    (m.0, m.1, λ e. joined-differs w (bound_at b m.0) m.3 (sym (grown-bound when w b m.0 m.1 ∙ ap (λ z. if z then Some (joined w (bound_at b m.0)) else bound_at b m.0) m.2) ∙ e))

pub grows-told : (when : Interval) (w : Window) (b : Known) → Grows when w b → covers b when w ≡ false
grows-told when w b g = elim (cases_Bool (covers b when w)) [
  | inr c ↦ c
  | inl c ↦ absurd (g.2 (subst (λ z. bound_at (if z then b else record b { pieces = grown_pieces when w b.pieces b.rest; rest = raised_rest when w b.rest }) g.0 ≡ bound_at b g.0) (sym c) refl))
]

pub covering-is-told : (when : Interval) (w : Window) (b : Known) → CoveringIsTold when w b
covering-is-told when w b = record { covered = (covers-told b when w, covers-from b when w); grows = (grows-from when w b, grows-told when w b) }

-- ---- trimming

below-before : (l : Line) (p s : Stamp) → is_below p l ≡ true → is_below s l ≡ false → stamp_lt p s ≡ true
below-before (line.At x) p s h k = lt-le p x s h k
below-before line.End p s h k = absurd (cc)

pub filter-bound : (l : Line) (ps : List Piece) (rest : Option Window) (s : Stamp) → is_below s l ≡ false
    → bound_of (filter (λ p. not (is_below p.until l)) ps) rest s ≡ bound_of ps rest s
filter-bound l [] rest s asked = refl
filter-bound l (p ∷ ps) rest s asked = elim (cases_Bool (is_below p.until l)) [
  | inl h ↦ (let earlier = below-before l p.until s h asked in rw (h, earlier) (filter-bound l ps rest s asked))
  | inr h ↦ rw h (ap (λ o. if stamp_lt p.until s then o else p.window) (filter-bound l ps rest s asked))
]

pub trimming-keeps : (l : Line) (b : Known) → TrimmingKeeps l b
trimming-keeps l b = record { line = refl; bound = λ s asked. filter-bound l b.pieces b.rest s asked }

-- ---- joins

pub is-in-joined : (w : Window) (o : Option Window) (u : Window)
    → IsIn (Some (joined w o)) u ↔ (IsIn o u × (within w u ≡ true))
is-in-joined w None u = (λ h. (tt, h), λ h. h.1)
is-in-joined w (Some v) u = (
  λ h. (within-trans v (joined w (Some v)) u (join-right w v) h, within-trans w (joined w (Some v)) u (join-left w v) h),
  λ h. join-least w v u h.1 h.0,
)

pub join-all : (rows : List Row) (s : Stamp) (u : Window) → IsIn (join_at rows s) u ↔ AllIn rows s u
join-all [] s u = (λ h. tt, λ h. tt)
join-all (r ∷ rs) s u =
    let again = join-all rs s u in
    let parts = is-in-joined r.window (join_at rs s) u in
    cond_both (holds r.when s) (Some (joined r.window (join_at rs s))) (join_at rs s) (λ o. IsIn o u ↔ AllIn (r ∷ rs) s u)
    (λ h. (λ i. (λ _. (parts.0 i).1, again.0 (parts.0 i).0), λ a. parts.1 (again.1 a.1, a.0 h)))
    (λ h. (λ i. (λ k. absurd (false≢true (sym h ∙ k)), again.0 i), λ a. again.1 a.1))

pub none-holds : (rows : List Row) (s : Stamp) → (join_at rows s ≡ None) ↔ NoneHolds rows s
none-holds [] s = (λ _. tt, λ _. refl)
none-holds (r ∷ rs) s =
    let again = none-holds rs s in
    cond_both (holds r.when s) (Some (joined r.window (join_at rs s))) (join_at rs s) (λ o. (o ≡ None) ↔ NoneHolds (r ∷ rs) s)
    (λ h. (λ e. absurd (cc), λ a. absurd (false≢true (sym a.0 ∙ h))))
    (λ h. (λ e. (h, again.0 e), λ a. again.1 a.1))

grown_all-line : (rows : List Row) → (grown_all rows).line ≡ line.At (record { time = 0; agent = 0 })
grown_all-line [] = refl
grown_all-line (r ∷ rs) = grown-line r.when r.window (grown_all rs) ∙ grown_all-line rs

never-below : (s : Stamp) → stamp_lt s (record { time = 0; agent = 0 }) ≡ false
never-below s = grind (arith, nat_tests)

pub joins-of : (rows : List Row) (s : Stamp) → bound_at (grown_all rows) s ≡ join_at rows s
joins-of [] s = refl
joins-of (r ∷ rs) s =
    grown-bound r.when r.window (grown_all rs) s (subst (λ l. is_below s l ≡ false) (sym (grown_all-line rs)) (never-below s))
    ∙ ap (λ o. if holds r.when s then Some (joined r.window o) else o) (joins-of rs s)

pub bounds-are-joins : BoundsAreJoins
bounds-are-joins = record { join = joins-of; none = none-holds; least = join-all; boxes = λ a b h. (within-told a b, within-from a b h) }

-- ---- fitting

pub fits-lies : (w : Window) (o : Option Window) (u : Window) → lies_in w o ≡ true → IsIn o u → within w u ≡ true
fits-lies w None u l i = absurd (cc)
fits-lies w (Some v) u l i = within-trans w v u l i

fits-grown : (b : Known) (s : Stamp) (u : Window) (when : Interval) (w : Window) → is_below s b.line ≡ false
    → Fits s u (grown when w b) ↔ (Fits s u b × (holds when s ≡ true → within w u ≡ true))
fits-grown b s u when w asked =
    let parts = is-in-joined w (bound_at b s) u in
    subst (λ o. IsIn o u ↔ (Fits s u b × (holds when s ≡ true → within w u ≡ true))) (sym (grown-bound when w b s asked))
    (cond_both (holds when s) (Some (joined w (bound_at b s))) (bound_at b s) (λ o. IsIn o u ↔ (Fits s u b × (holds when s ≡ true → within w u ≡ true)))
    (λ h. (λ i. ((parts.0 i).0, λ _. (parts.0 i).1), λ a. parts.1 (a.0, a.1 h)))
    (λ h. (λ i. (i, λ k. absurd (false≢true (sym h ∙ k))), λ a. a.0)))

fits-trimmed : (b : Known) (s : Stamp) (u : Window) (l : Line) → is_below s l ≡ false
    → Fits s u (trimmed l b) ↔ Fits s u b
fits-trimmed b s u l asked = (let e = filter-bound l b.pieces b.rest s asked in (λ h. subst (λ o. IsIn o u) e h, λ h. subst (λ o. IsIn o u) (sym e) h))

pub fitting-is-kept : (b : Known) (s : Stamp) (u : Window) → FittingIsKept b s u
fitting-is-kept b s u = record {
  nothing = tt;
  grown = λ when w asked. fits-grown b s u when w asked;
  covered = λ when w c asked h f. fits-lies w (bound_at b s) u (covers-told b when w c s asked h) f;
  trimmed = λ l asked. fits-trimmed b s u l asked;
}

pub told-covered : (b : Known) (when : Interval) (w : Window) (r : Bool) → r ≡ covers b when w
    → IsTrue r ↔ IsCovered b when w
told-covered b when w r is = (λ h. covers-told b when w (sym is ∙ h), λ h. is ∙ covers-from b when w h)

pub told-grown : (b : Known) (when : Interval) (w : Window) → covers b when w ≡ false → IsTrue true ↔ Grows when w b
told-grown b when w c = (λ _. grows-from when w b c, λ _. refl)
