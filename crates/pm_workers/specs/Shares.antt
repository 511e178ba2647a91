-- How a quota is divided.
use Rattle.std.specs.Prelude.{ℕ, ◌+◌, ◌/◌, ◌%◌, nat_lt, if◌then◌else◌}

-- how many deliveries station i of n may make
abbrev pub share : ℕ → ℕ → ℕ → ℕ
share quota n i = quota / n + (if nat_lt i (quota % n) then 1 else 0)

-- how many turns the round of that number, counted from 0, gives to a station with this share
abbrev pub turns_at : ℕ → ℕ → ℕ
turns_at round part = if nat_lt round part then 1 else 0
