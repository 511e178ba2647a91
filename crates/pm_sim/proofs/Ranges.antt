-- What fits a bound: growing, trimming, and windows that meet.
use Rattle.std.proofs.Common.{◌≡◌, arith, ◌&&◌, true, Bool, Some, None, sym, subst, ℤ}
use Rattle.std.specs.Prelude.{int_le}
use Rattle.std.specs.Int.{int_min, int_max}
use Rattle.std.proofs.lemmas.Bool.{and_parts, and_from}
use Rattle.std.proofs.lemmas.Int.{ints}
use Rattle.pm_base.specs.Windows.{inside, meets, overlap, point_of}
use Rattle.pm_base.specs.declared.stamp.Line.{Line}
use Rattle.pm_base.specs.declared.stamp.Stamp.{Stamp}
use Rattle.pm_base.specs.declared.value.Value.{Value}
use Rattle.pm_base.specs.declared.value.Window.{Window}
use Rattle.pm_ranges.specs.Fits.{Fits}
use Rattle.pm_ranges.specs.Joins.{IsIn, Row, Small, within}
use Rattle.pm_ranges.specs.Known.{Known, bound_at, grown, trimmed}
use Rattle.pm_ranges.proofs.Grows.{fitting-is-kept, grown-line, trimming-keeps}
use Rattle.pm_sim.specs.Sims.{AtMost, NotPast}
use Rattle.pm_sim.proofs.Stamps.{past_false}

pub at_most_self : (a : Stamp) → AtMost a a
at_most_self a = grind arith

pub at_most_trans : (a b c : Stamp) → AtMost a b → AtMost b c → AtMost a c
at_most_trans a b c h k = grind arith

le_refl : (a : ℤ) → int_le a a ≡ true
le_refl a = grind (arith, ints)

le_trans : (a b c : ℤ) → int_le a b ≡ true → int_le b c ≡ true → int_le a c ≡ true
le_trans a b c h k = grind (arith, ints)

max_least : (a b c : ℤ) → int_le a c ≡ true → int_le b c ≡ true → int_le (int_max a b) c ≡ true
max_least a b c h k = grind (arith, ints)

min_least : (a b c : ℤ) → int_le c a ≡ true → int_le c b ≡ true → int_le c (int_min a b) ≡ true
min_least a b c h k = grind (arith, ints)

two : (a b : Bool) → a ≡ true → b ≡ true → (a && b) ≡ true
two a b h k = and_from a b h k

pub within_self : (a : Window) → within a a ≡ true
within_self a = two (int_le a.x0 a.x0 && int_le a.x1 a.x1)
    (int_le a.y0 a.y0 && int_le a.y1 a.y1) (two (int_le a.x0 a.x0) (int_le a.x1 a.x1) (le_refl a.x0) (le_refl a.x1))
    (two (int_le a.y0 a.y0) (int_le a.y1 a.y1) (le_refl a.y0) (le_refl a.y1))

pub inside_point : (v : Value) (u : Window) → within (point_of v) u ≡ true → inside v u ≡ true
inside_point v u h = h

pub point_inside : (v : Value) (u : Window) → inside v u ≡ true → within (point_of v) u ≡ true
point_inside v u h = h

meet_one : (a b c d v : ℤ)
    → int_le a v ≡ true → int_le v b ≡ true → int_le c v ≡ true → int_le v d ≡ true → overlap a b c d ≡ true
unfolding overlap
meet_one a b c d v h k m n = le_trans (int_max a c) v (int_min b d) (max_least a c v h m) (min_least b d v k n)

-- windows with a common value meet
pub common_meets : (v : Value) (a b : Window) → inside v a ≡ true → inside v b ≡ true → meets a b ≡ true
common_meets v a b h k =
    let f = and_parts (int_le a.x0 v.x && int_le v.x a.x1) (int_le a.y0 v.y && int_le v.y a.y1) h in
    let g = and_parts (int_le b.x0 v.x && int_le v.x b.x1) (int_le b.y0 v.y && int_le v.y b.y1) k in
    let fx = and_parts (int_le a.x0 v.x) (int_le v.x a.x1) f.0 in
    let fy = and_parts (int_le a.y0 v.y) (int_le v.y a.y1) f.1 in
    let gx = and_parts (int_le b.x0 v.x) (int_le v.x b.x1) g.0 in
    let gy = and_parts (int_le b.y0 v.y) (int_le v.y b.y1) g.1 in
    two (overlap a.x0 a.x1 b.x0 b.x1) (overlap a.y0 a.y1 b.y0 b.y1)
    (meet_one a.x0 a.x1 b.x0 b.x1 v.x fx.0 fx.1 gx.0 gx.1) (meet_one a.y0 a.y1 b.y0 b.y1 v.y fy.0 fy.1 gy.0 gy.1)

-- ---- the bound is the least upper bound

pub bound_least : (s : Stamp) (u : Window) (b : Known) (w : Window)
    → Fits s u b → bound_at b s ≡ Some w → within w u ≡ true
bound_least s u b w f e = subst (λ o. IsIn o u) e f

pub bound_none : (s : Stamp) (u : Window) (b : Known) → bound_at b s ≡ None → Fits s u b
bound_none s u b e = subst (λ o. IsIn o u) (sym e) tt

pub bound_up : (s : Stamp) (b : Known) (w : Window) → bound_at b s ≡ Some w → Fits s w b
bound_up s b w e = subst (λ o. IsIn o w) (sym e) (within_self w)

-- ---- grow and trim

pub grow_fits : (r : Row) (b : Known) (s : Stamp) (u : Window)
    → NotPast b.line s → Fits s u (grown r.when r.window b) → Fits s u b × Small s u r
grow_fits r b s u np f = ((fitting-is-kept b s u).grown r.when r.window (past_false b.line s np)).0 f

pub grow_back : (r : Row) (b : Known) (s : Stamp) (u : Window)
    → NotPast b.line s → Fits s u b → Small s u r → Fits s u (grown r.when r.window b)
grow_back r b s u np f h = ((fitting-is-kept b s u).grown r.when r.window (past_false b.line s np)).1 (f, h)

pub grow_line : (r : Row) (b : Known) → (grown r.when r.window b).line ≡ b.line
grow_line r b = grown-line r.when r.window b

pub trim_fits : (l : Line) (b : Known) (s : Stamp) (u : Window) → NotPast l s → Fits s u (trimmed l b) → Fits s u b
trim_fits l b s u np f = ((fitting-is-kept b s u).trimmed l (past_false l s np)).0 f

pub fits_trim : (l : Line) (b : Known) (s : Stamp) (u : Window) → NotPast l s → Fits s u b → Fits s u (trimmed l b)
fits_trim l b s u np f = ((fitting-is-kept b s u).trimmed l (past_false l s np)).1 f

pub trim_bound : (l : Line) (b : Known) (s : Stamp) → NotPast l s → bound_at (trimmed l b) s ≡ bound_at b s
trim_bound l b s np = (trimming-keeps l b).bound s (past_false l s np)
