use Rattle.std.proofs.Common.{length}
use Rattle.pm_history.proofs.Texts.{IsRead}
use Rattle.pm_history.proofs.reading.read.Given as goal

abbrev pub invariant-lines : goal.invariant-lines
invariant-lines l = IsRead l.bytes l.journal l.rest

abbrev pub decreases-lines : goal.decreases-lines
decreases-lines l = length l.rest
