-- Boxes of values: what a join holds, and where two boxes meet.
use Rattle.std.proofs.Common.{rules, ◌≡◌, ℤ, ◌≤ℤ◌, true, false, IsTrue, ◌↔◌, arith}
use Rattle.std.proofs.lemmas.Int.{ints, clamps, to_z-of_z}
use Rattle.std.specs.Int.{int_min, int_max}
use Rattle.pm_base.specs.Windows.{Inside, IsLeastBox, Meets, Within, is_inverted, join_of, meets, overlap}
use Rattle.pm_base.specs.declared.value.Window.{Window}

pub ruleset coordinates = (to_z-of_z)

pub upright-x : (w : Window) → is_inverted w ≡ false → w.x0 ≤ℤ w.x1
upright-x w h = grind (arith, ints)

pub upright-y : (w : Window) → is_inverted w ≡ false → w.y0 ≤ℤ w.y1
upright-y w h = grind (arith, ints)

pub join_of-first : (a b : Window) → Within a (join_of a b)
join_of-first a b v h = record {
  left = omega (arith, ints, clamps, h.left);
  right = omega (arith, ints, clamps, h.right);
  low = omega (arith, ints, clamps, h.low);
  high = omega (arith, ints, clamps, h.high);
}

pub join_of-second : (a b : Window) → Within b (join_of a b)
join_of-second a b v h = record {
  left = omega (arith, ints, clamps, h.left);
  right = omega (arith, ints, clamps, h.right);
  low = omega (arith, ints, clamps, h.low);
  high = omega (arith, ints, clamps, h.high);
}

-- the two corners of a box that isn't inverted are inside it
first_corner : (a : Window) → is_inverted a ≡ false → Inside (record { x = a.x0; y = a.y0 }) a
first_corner a h =
    let x = upright-x a h in
    let y = upright-y a h in
    record { left = omega (arith, ints); right = x; low = omega (arith, ints); high = y }

last_corner : (a : Window) → is_inverted a ≡ false → Inside (record { x = a.x1; y = a.y1 }) a
last_corner a h =
    let x = upright-x a h in
    let y = upright-y a h in
    record { left = x; right = omega (arith, ints); low = y; high = omega (arith, ints) }

pub join_of-least : (a b : Window) → is_inverted a ≡ false → is_inverted b ≡ false → IsLeastBox a b (join_of a b)
join_of-least a b p q = record {
  first = join_of-first a b;
  second = join_of-second a b;
  least = λ w f g v h.
      let a0 = f _ (first_corner a p) in
      let a1 = f _ (last_corner a p) in
      let b0 = g _ (first_corner b q) in
      let b1 = g _ (last_corner b q) in
      record {
        left = omega (arith, ints, clamps, h.left, a0.left, b0.left);
        right = omega (arith, ints, clamps, h.right, a1.right, b1.right);
        low = omega (arith, ints, clamps, h.low, a0.low, b0.low);
        high = omega (arith, ints, clamps, h.high, a1.high, b1.high);
      };
}

overlap-low : (a0 a1 b0 b1 : ℤ) → overlap a0 a1 b0 b1 ≡ true → (a0 ≤ℤ int_max a0 b0) × (int_max a0 b0 ≤ℤ a1) × (b0 ≤ℤ int_max a0 b0) × (int_max a0 b0 ≤ℤ b1)
unfolding overlap
overlap-low a0 a1 b0 b1 h =
    let m : int_max a0 b0 ≤ℤ int_min a1 b1 = grind (arith, ints) in
    (omega (arith, ints, clamps), omega (arith, ints, clamps), omega (arith, ints, clamps), omega (arith, ints, clamps))

overlap-at : (z a0 a1 b0 b1 : ℤ) → a0 ≤ℤ z → z ≤ℤ a1 → b0 ≤ℤ z → z ≤ℤ b1 → overlap a0 a1 b0 b1 ≡ true
unfolding overlap
overlap-at z a0 a1 b0 b1 p q r s =
    let m : int_max a0 b0 ≤ℤ int_min a1 b1 = omega (arith, ints, clamps) in
    grind (arith, ints)

pub meets-found : (a b : Window) → meets a b ≡ true → Meets a b
meets-found a b h =
    let hx : overlap a.x0 a.x1 b.x0 b.x1 ≡ true = search rules in
    let hy : overlap a.y0 a.y1 b.y0 b.y1 ≡ true = search rules in
    let x = overlap-low a.x0 a.x1 b.x0 b.x1 hx in
    let y = overlap-low a.y0 a.y1 b.y0 b.y1 hy in (
      record { x = int_max a.x0 b.x0; y = int_max a.y0 b.y0 },
      record { left = x.0; right = x.1; low = y.0; high = y.1 },
      record { left = x.2; right = x.3; low = y.2; high = y.3 },
    )

pub meets-told : (a b : Window) → Meets a b → meets a b ≡ true
meets-told a b (v, p, q) =
    let x = overlap-at v.x a.x0 a.x1 b.x0 b.x1 p.left p.right q.left q.right in
    let y = overlap-at v.y a.y0 a.y1 b.y0 b.y1 p.low p.high q.low q.high in
    search (rules, x, y)

pub meets-is : (a b : Window) → IsTrue (meets a b) ↔ Meets a b
meets-is a b = (meets-found a b, meets-told a b)

pub ruleset join_steps = (join_of-least)

pub ruleset meets_steps = (meets-is)
