-- What an offer of a line leaves.
use Rattle.std.proofs.Common.{inl, inr, List, ℕ, Result, Ok, Err}
use Rattle.pm_top.specs.Headline.{Offers}
use Rattle.pm_top.specs.Speech.{SinkSight, Speaks}

pub offered : {X E : Type 0} (r : Result X E) (old new : SinkSight) (line : List ℕ) → Speaks r old new line → Offers old new line
offered (Ok x) old new line s = inl s.all
offered (Err e) old new line s = inr (s.part, s.cause)
