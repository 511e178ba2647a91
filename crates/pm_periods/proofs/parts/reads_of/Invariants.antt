use Rattle.std.proofs.Common.{◌≡◌, ◌++◌, drop}
use Rattle.pm_periods.specs.Laid.{reads_of}
use Rattle.pm_periods.proofs.parts.reads_of.Given as goal

abbrev pub invariant-loop-h : goal.invariant-loop-h
invariant-loop-h l = reads_of l.periods ≡ l.reads.items ++ reads_of (drop l.h-index l.periods)
