-- The draws of the generator.
use Rattle.std.specs.Prelude.{ℕ, zero, suc, ◌+◌, ◌*◌, ◌/◌, ◌%◌, ◌^◌}

-- the state that follows a state, modulo 2^64
unfoldable pub next_state : ℕ → ℕ
next_state state = (state * 6364136223846793005 + 1442695040888963407) % 2 ^ 64

-- the state that so many draws lead to
unfoldable pub state_after : ℕ → ℕ → ℕ
state_after state zero = state
state_after state (suc n) = next_state (state_after state n)

-- what is drawn in a state below a bound: the next state without its 33 low bits, modulo the bound
unfoldable pub draw : ℕ → ℕ → ℕ
draw state bound = next_state state / 2 ^ 33 % bound
