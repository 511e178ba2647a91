use Rattle.std.proofs.Common.{length}
use Rattle.pm_history.proofs.Texts.{IsRead}
use Rattle.pm_replay.proofs.reading.read_lines.Given as goal

abbrev pub invariant-lines : goal.invariant-lines
invariant-lines l = IsRead l.text l.journal l.rest

abbrev pub decreases-lines : goal.decreases-lines
decreases-lines l = length l.rest
