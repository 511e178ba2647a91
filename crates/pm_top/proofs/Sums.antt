-- The number that a text comes to, byte by byte.
use Rattle.std.proofs.Common.{◌≡◌, ◌∙◌, ap, sym, refl, subst, ℕ, ◌+◌, ◌*◌, ◌/◌, ◌%◌, ◌^◌, ◌<◌, List, [], ◌∷◌, ◌++◌, length, take, get_or, arith}
use Rattle.std.proofs.Math.Nat.{add-mul-mod_self_left, div-add-mod}
use Rattle.std.proofs.lemmas.List.{take_more, take_at}
use Rattle.pm_top.specs.Demo.{sum_from}

-- a sum modulo m, where its first part was brought below m before
sum_mod : (x c m : ℕ) → (x % m + c) % m ≡ (x + c) % m
sum_mod x c m =
    let split : (x % m + c) + m * (x / m) ≡ x + c = omega (arith, div-add-mod x m) in
    sym (add-mul-mod_self_left (x % m + c) m (x / m)) ∙ ap (λ (n : ℕ). n % m) split

-- the product and the sum of 64 bits
pub wrapped : (n b : ℕ) → ((n * 31) % 2 ^ 64 + b) % 2 ^ 64 ≡ (n * 31 + b) % 2 ^ 64
wrapped n b = sum_mod (n * 31) b (2 ^ 64)

sum-append : (n : ℕ) (xs ys : List ℕ) → sum_from n (xs ++ ys) ≡ sum_from (sum_from n xs) ys
sum-append n [] ys = refl
sum-append n (x ∷ xs) ys = sum-append ((n * 31 + x) % 2 ^ 64) xs ys

-- of one byte more
pub sum-more : (xs : List ℕ) (i d : ℕ) → i < length xs → sum_from 0 (take (i + 1) xs) ≡ sum_from (sum_from 0 (take i xs)) (get_or xs i d ∷ [])
sum-more xs i d lt = ap (sum_from 0) (take_more xs i d lt) ∙ sum-append 0 (take i xs) (get_or xs i d ∷ [])

-- the same of a sum that is so far
pub sum-step : (xs : List ℕ) (i d s n : ℕ) → i < length xs → s ≡ sum_from 0 (take i xs) → n ≡ sum_from s (get_or xs i d ∷ []) → n ≡ sum_from 0 (take (i + 1) xs)
sum-step xs i d s n lt before one = one ∙ ap (λ k. sum_from k (get_or xs i d ∷ [])) before ∙ sym (sum-more xs i d lt)
