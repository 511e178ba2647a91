-- What a sink was offered.
use Rattle.std.specs.Prelude.{ℕ, ◌≤◌, ◌⊎◌, List, Option, Result, OnOk, OnErr}
use Rattle.std.specs.Io.KnownBytes.{Appends}
use Rattle.pm_io.specs.Causes.{AppendsPrefix, Rose}

-- what contracts see of a sink: the bytes that it took, where it tells them, and its counts of faults and of stalls
pub record SinkSight : Type 0 where
  pub holds : Option (List ℕ)
  pub faults : ℕ
  pub stalls : ℕ

-- what they see of one whose bytes and counts are told so
abbrev pub sight : {K : Type 0} → (K → Option (List ℕ)) → (K → ℕ) → (K → ℕ) → K → SinkSight
sight holds faults stalls k = record { holds = holds k; faults = faults k; stalls = stalls k }

-- a sink failed in the call, or took nothing of what it was offered
abbrev pub Fails : SinkSight → SinkSight → Type 0
Fails old new = Rose old.faults new.faults ⊎ Rose old.stalls new.stalls

-- the text was offered: all of it was taken, or a prefix of it where the sink failed
pub record Speaks {X E : Type 0} (r : Result X E) (old new : SinkSight) (text : List ℕ) : Type 0 where
  pub all : OnOk r (Appends old.holds new.holds text)
  pub part : OnErr r (AppendsPrefix old.holds new.holds text)
  pub cause : OnErr r (Fails old new)
  pub faults : old.faults ≤ new.faults
  pub stalls : old.stalls ≤ new.stalls
