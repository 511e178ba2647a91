-- The states that draws lead to.
use Rattle.std.proofs.Common.{◌≡◌, ℕ, zero, suc, ◌+◌, ◌*◌, ◌<◌, ◌%◌, ◌/◌, ◌^◌, refl, arith, ap, sym, ◌∙◌}
use Rattle.std.proofs.Math.Nat.{add-mul-mod_self_left, div-add-mod}
use Rattle.std.proofs.lemmas.Nat.{mod_below}
use Rattle.pm_gen.specs.Draws.{draw, next_state, state_after}

-- a sum modulo m, where its first part was brought below m before
sum_mod : (x c m : ℕ) → (x % m + c) % m ≡ (x + c) % m
sum_mod x c m =
    let split : (x % m + c) + m * (x / m) ≡ x + c = omega (arith, div-add-mod x m) in
    sym (add-mul-mod_self_left (x % m + c) m (x / m)) ∙ ap (λ (n : ℕ). n % m) split

-- the product and the sum of 64 bits
pub wrapped : (state : ℕ) → ((state * 6364136223846793005) % 2 ^ 64 + 1442695040888963407) % 2 ^ 64 ≡ next_state state
unfolding next_state
wrapped state = sum_mod (state * 6364136223846793005) 1442695040888963407 (2 ^ 64)

pub next_below : (state : ℕ) → next_state state < 2 ^ 64
unfolding next_state
next_below state = mod_below (state * 6364136223846793005 + 1442695040888963407) (2 ^ 64) (omega arith)

pub draw_below : (state bound : ℕ) → 0 < bound → draw state bound < bound
unfolding draw
draw_below state bound lt = mod_below (next_state state / 2 ^ 33) bound lt

-- one draw more
pub after_one : (state n : ℕ) → state_after state (n + 1) ≡ next_state (state_after state n)
unfolding state_after
after_one state n = let e : n + 1 ≡ suc n = omega arith in ap (state_after state) e

-- some draws and some more
pub after_more : (state n m : ℕ) → state_after (state_after state n) m ≡ state_after state (n + m)
unfolding state_after
after_more state n zero = let e : n ≡ n + zero = omega arith in ap (state_after state) e
after_more state n (suc m) =
    let e : suc (n + m) ≡ n + suc m = omega arith in
    ap next_state (after_more state n m) ∙ ap (state_after state) e

-- three draws more
pub after_three : (state k : ℕ) → state_after (state_after state (3 * k)) 3 ≡ state_after state (3 * (k + 1))
after_three state k =
    let e : 3 * k + 3 ≡ 3 * (k + 1) = omega arith in
    after_more state (3 * k) 3 ∙ ap (state_after state) e

-- before the first draw
pub after_none : (state : ℕ) → state_after state 0 ≡ state
unfolding state_after
after_none state = refl
