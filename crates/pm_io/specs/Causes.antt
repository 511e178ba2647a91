-- When the outside may fail, what its counts then say, and what a call leaves.
use Rattle.std.specs.Prelude.{◌≡◌, ℕ, ◌+◌, ◌-◌, ◌^◌, ◌<◌, ◌≤◌, ◌==◌, ◌&&◌, nat_lt, if◌then◌else◌, min}
use Rattle.std.specs.Prelude.{List, ◌++◌, length, take, Option, Result, MatchResult, IfOk, OnErr}
use Rattle.std.specs.Io.KnownBytes.{Appends}

-- one more, up to the last value of a count
abbrev pub raised : ℕ → ℕ
raised n = min (n + 1) (2 ^ 64 - 1)

-- a count rose in a call: it is greater after the call than before it, or stands at its last value after the call
abbrev pub Rose : ℕ → ℕ → Type 0
Rose before now = raised before ≤ now

-- the count of faults never falls and stays below 2 ^ 64, and an `Err` comes only where it rose
pub record HasCause {T E : Type 0} (before now : ℕ) (result : Result T E) : Type 0 where
  pub later : before ≤ now
  pub limit : before < 2 ^ 64 → now < 2 ^ 64
  pub failed : OnErr result (Rose before now)

-- the count of stalls never falls and stays below 2 ^ 64, and 0 to a piece that isn't empty comes only where it rose
pub record HasStalled {E : Type 0} (before now : ℕ) (result : Result ℕ E) (piece : List ℕ) : Type 0 where
  pub later : before ≤ now
  pub limit : before < 2 ^ 64 → now < 2 ^ 64
  pub stalled : IfOk result (λ n. n ≡ 0 → 0 < length piece → Rose before now)

-- a count of faults is raised at each `Err`, and at nothing else
abbrev pub CountsFaults : {T E : Type 0} → ℕ → ℕ → Result T E → Type 0
CountsFaults before now result = MatchResult result (λ _. now ≡ before) (λ _. now ≡ raised before)

-- a count of stalls is raised at each 0 to a piece that isn't empty, and at nothing else
abbrev pub CountsStalls : {E : Type 0} → ℕ → ℕ → Result ℕ E → List ℕ → Type 0
CountsStalls before now result piece =
    MatchResult result
    (λ n. now ≡ (if n == 0 && nat_lt 0 (length piece) then raised before else before))
    (λ _. now ≡ before)

-- known bytes grow by a part of these that lacks at least one of them
abbrev pub AppendsPart : Option (List ℕ) → Option (List ℕ) → List ℕ → Type 0
AppendsPart old new bytes = (n : ℕ) × (n < length bytes) × Appends old new (take n bytes)

-- known bytes grow by a prefix of these
abbrev pub AppendsPrefix : Option (List ℕ) → Option (List ℕ) → List ℕ → Type 0
AppendsPrefix old new bytes = (given : List ℕ) × (left : List ℕ) × (bytes ≡ given ++ left) × Appends old new given
