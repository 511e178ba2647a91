-- What the shares of a quota add up to.
use Rattle.std.proofs.Common.{◌≡◌, ℕ, zero, suc, ◌+◌, ◌-◌, ◌*◌, ◌/◌, ◌%◌, ◌^◌, ◌<◌, ◌≤◌, List, [], ◌∷◌, length, get_or, min, nat_lt, sym, refl, ap, subst, arith, div-add-mod', suc-mul}
use Rattle.std.specs.Prelude.{if◌then◌else◌}
use Rattle.std.proofs.lemmas.List.Recursion.{is_sum_by}
use Rattle.pm_workers.specs.Shares.{share}
use Rattle.pm_workers.specs.Epochs.{Moved, AtEach, told_by}

abbrev total : {S : Type 0} → (S → ℕ) → List S → ℕ
total f [] = 0
total f (x ∷ xs) = f x + total f xs

-- w at the m numbers from k on, added up
abbrev weights : (ℕ → ℕ) → ℕ → ℕ → ℕ
weights w k zero = 0
weights w k (suc m) = w k + weights w (k + 1) m

bounded : {S : Type 0} (f : S → ℕ) (w : ℕ → ℕ) (k : ℕ) (xs ys : List S) → length ys ≡ length xs
    → ((i : ℕ) (d : S) → i < length xs → (f (get_or xs i d) ≤ f (get_or ys i d))
    × (f (get_or ys i d) ≤ f (get_or xs i d) + w (k + i)))
    → (total f xs ≤ total f ys) × (total f ys ≤ total f xs + weights w k (length xs))
bounded f w k [] [] e h = (omega arith, omega arith)
bounded f w k [] (y ∷ ys) e h = absurd (omega arith)
bounded f w k (x ∷ xs) [] e h = absurd (omega arith)
bounded f w k (x ∷ xs) (y ∷ ys) e h =
    let here = h 0 x (omega arith) in
    let at : w (k + 0) ≡ w k = ap w (omega arith) in
    let rest = bounded f w (k + 1) xs ys (omega arith) (λ i d lt. let t = h (suc i) d (omega arith) in
    (t.0, subst (λ (j : ℕ). f (get_or ys i d) ≤ f (get_or xs i d) + w j) (omega arith) t.1)) in
    (omega (arith, here.0, rest.0), omega (arith, here.1, rest.1, at))

one_share : (a r k : ℕ) → (a + (if nat_lt k r then 1 else 0)) + min k r ≡ a + min (k + 1) r
one_share a r k = grind arith

shares : (q n k m : ℕ) → weights (share q n) k m + min k (q % n) ≡ m * (q / n) + min (k + m) (q % n)
shares q n k zero = let e : k + 0 ≡ k = omega arith in omega (arith, ap (λ (j : ℕ). min j (q % n)) e)
shares q n k (suc m) =
    let one : share q n k + min k (q % n) ≡ q / n + min (k + 1) (q % n) = one_share (q / n) (q % n) k in
    let more = shares q n (k + 1) m in
    let at : min (k + 1 + m) (q % n) ≡ min (k + suc m) (q % n) = ap (λ (j : ℕ). min j (q % n)) (omega arith) in
    omega (arith, one, more, at, suc-mul m (q / n))

pub all_shares : (q n : ℕ) → 0 < n → weights (share q n) 0 n ≡ q
all_shares q n some =
    let s = shares q n 0 n in
    let d = div-add-mod' q n in
    let r : q % n < n = grind arith in omega (arith, s, d, r)

pub moved_total : {S N : Type 0} (story : S → List N) (follows : S → S → Type 0) (q n : ℕ) (xs ys : List S)
    → 0 < n → length xs ≡ n → AtEach (λ i. Moved story follows (share q n i)) xs ys
    → (told_by story xs ≤ told_by story ys) × (told_by story ys ≤ told_by story xs + q)
moved_total {S = S} story follows q n xs ys some long each =
    let f : S → ℕ = λ s. length (story s) in
    let b = bounded f (share q n) 0 xs ys each.0 (λ i d lt.
    let t = each.1 i d lt in
    let e : i ≡ 0 + i = omega arith in
    (t.1, subst (λ (j : ℕ). f (get_or ys i d) ≤ f (get_or xs i d) + share q n j) e t.2)) in
    let x = is_sum_by (total f) f refl (λ _ _. refl) xs in
    let y = is_sum_by (total f) f refl (λ _ _. refl) ys in
    let w : weights (share q n) 0 (length xs) ≡ q =
    subst (λ (m : ℕ). weights (share q n) 0 m ≡ q) (sym long) (all_shares q n some) in
    (omega (arith, b.0, x, y), omega (arith, b.1, x, y, w))

-- what was added is the difference, though both sums may have wrapped
pub added : (a b q x y : ℕ) → a ≤ b → b ≤ a + q → q < 2 ^ 64 → x ≡ a % 2 ^ 64 → y ≡ b % 2 ^ 64
    → (a + (y + (2 ^ 64 - x)) % 2 ^ 64 ≡ b) × ((y + (2 ^ 64 - x)) % 2 ^ 64 ≤ q)
added a b q x y le most small xa yb = (omega (arith, le, most, small, xa, yb), omega (arith, le, most, small, xa, yb))
