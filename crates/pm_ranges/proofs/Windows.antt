-- Windows within one another, and their joins.
use Rattle.std.proofs.Common.{◌≡◌, ℤ, ◌≤ℤ◌, true, false, ◌&&◌, arith, Option, Some, None, ap, subst}
use Rattle.std.specs.Prelude.{int_le}
use Rattle.std.specs.Int.{int_min, int_max}
use Rattle.std.proofs.lemmas.Bool.{and_parts, and_from}
use Rattle.std.proofs.lemmas.Int.{ints, clamps}
use Rattle.pm_base.specs.Windows.{Within, is_inverted, join_of}
use Rattle.pm_base.specs.declared.value.Window.{Window}
use Rattle.pm_base.proofs.Boxes.{upright-x, upright-y}
use Rattle.pm_ranges.specs.Joins.{within, joined, lies_in}

-- the four ends of one window between those of another
pub record Sides (a b : Window) : Type 0 where
  pub left : b.x0 ≤ℤ a.x0
  pub right : a.x1 ≤ℤ b.x1
  pub low : b.y0 ≤ℤ a.y0
  pub high : a.y1 ≤ℤ b.y1

le-told : (a b : ℤ) → int_le a b ≡ true → a ≤ℤ b
le-told a b h = grind (arith, ints)

le-from : (a b : ℤ) → a ≤ℤ b → int_le a b ≡ true
le-from a b h = grind (arith, ints)

pub sides : (a b : Window) → within a b ≡ true → Sides a b
sides a b h =
    let p = and_parts (int_le b.x0 a.x0 && int_le a.x1 b.x1) _ h in
    let x = and_parts (int_le b.x0 a.x0) _ p.0 in
    let y = and_parts (int_le b.y0 a.y0) _ p.1 in
    record { left = le-told b.x0 a.x0 x.0; right = le-told a.x1 b.x1 x.1; low = le-told b.y0 a.y0 y.0; high = le-told a.y1 b.y1 y.1 }

pub sides-within : (a b : Window) → Sides a b → within a b ≡ true
sides-within a b s =
    and_from (int_le b.x0 a.x0 && int_le a.x1 b.x1) _ (and_from (int_le b.x0 a.x0) _ (le-from b.x0 a.x0 s.left) (le-from a.x1 b.x1 s.right))
    (and_from (int_le b.y0 a.y0) _ (le-from b.y0 a.y0 s.low) (le-from a.y1 b.y1 s.high))

pub within-trans : (a b c : Window) → within a b ≡ true → within b c ≡ true → within a c ≡ true
within-trans a b c h k =
    let s = sides a b h in
    let t = sides b c k in
    sides-within a c (record {
      left = omega (arith, ints, s.left, t.left);
      right = omega (arith, ints, s.right, t.right);
      low = omega (arith, ints, s.low, t.low);
      high = omega (arith, ints, s.high, t.high);
    })

pub join-left : (a b : Window) → within a (join_of a b) ≡ true
join-left a b = sides-within a (join_of a b) (record { left = omega (arith, ints, clamps); right = omega (arith, ints, clamps); low = omega (arith, ints, clamps); high = omega (arith, ints, clamps) })

pub join-right : (a b : Window) → within b (join_of a b) ≡ true
join-right a b = sides-within b (join_of a b) (record { left = omega (arith, ints, clamps); right = omega (arith, ints, clamps); low = omega (arith, ints, clamps); high = omega (arith, ints, clamps) })

pub join-least : (a b c : Window) → within a c ≡ true → within b c ≡ true → within (join_of a b) c ≡ true
join-least a b c h k =
    let s = sides a c h in
    let t = sides b c k in
    sides-within (join_of a b) c (record {
      left = omega (arith, ints, clamps, s.left, t.left);
      right = omega (arith, ints, clamps, s.right, t.right);
      low = omega (arith, ints, clamps, s.low, t.low);
      high = omega (arith, ints, clamps, s.high, t.high);
    })

min-is : (a b : ℤ) → b ≤ℤ a → int_min a b ≡ b
min-is a b h = grind (arith, ints)

max-is : (a b : ℤ) → a ≤ℤ b → int_max a b ≡ b
max-is a b h = grind (arith, ints)

-- a window joined to one that holds it changes nothing
pub join-is : (a b : Window) → within a b ≡ true → join_of a b ≡ b
join-is a b h =
    let s = sides a b h in
    let x0 = min-is a.x0 b.x0 s.left in
    let x1 = max-is a.x1 b.x1 s.right in
    let y0 = min-is a.y0 b.y0 s.low in
    let y1 = max-is a.y1 b.y1 s.high in
    λ i. record { x0 = x0 i; x1 = x1 i; y0 = y0 i; y1 = y1 i }

pub joined-is : (w : Window) (o : Option Window) → lies_in w o ≡ true → Some (joined w o) ≡ o
joined-is w None h = absurd (cc)
joined-is w (Some u) h = ap Some (join-is w u h)

-- and to one that does not it does
pub joined-differs : (w : Window) (o : Option Window) → lies_in w o ≡ false → Some (joined w o) ≡ o → ⊥
joined-differs w None h e = (cc)
joined-differs w (Some u) h e =
    let same : join_of w u ≡ u = cc in
    let m : within w u ≡ true = subst (λ z. within w z ≡ true) same (join-left w u) in
    cc

pub upright-join : (a b : Window) → is_inverted a ≡ false → is_inverted b ≡ false → is_inverted (join_of a b) ≡ false
upright-join a b h k =
    let ax = upright-x a h in
    let ay = upright-y a h in
    let bx = upright-x b k in
    let by = upright-y b k in
    grind (arith, ints, clamps)

-- for a window that holds something, the ends tell which values it holds
pub within-told : (a b : Window) → within a b ≡ true → Within a b
within-told a b h v i =
    let s = sides a b h in
    record {
      left = omega (arith, ints, s.left, i.left);
      right = omega (arith, ints, s.right, i.right);
      low = omega (arith, ints, s.low, i.low);
      high = omega (arith, ints, s.high, i.high);
    }

pub within-from : (a b : Window) → is_inverted a ≡ false → Within a b → within a b ≡ true
within-from a b h all =
    let x = upright-x a h in
    let y = upright-y a h in
    let first = all (record { x = a.x0; y = a.y0 }) (record { left = omega (arith, ints); right = x; low = omega (arith, ints); high = y }) in
    let last = all (record { x = a.x1; y = a.y1 }) (record { left = x; right = omega (arith, ints); low = y; high = omega (arith, ints) }) in
    sides-within a b (record { left = first.left; right = last.right; low = first.low; high = last.high })
