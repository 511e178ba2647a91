use Rattle.std.proofs.Common.{◌≡◌, ◌++◌, drop, length}
use Rattle.pm_resume.specs.Cuts.{pairwise, with_start}
use Rattle.pm_resume.proofs.resumed.with_starts.Given as goal

abbrev pub invariant-loop-row : goal.invariant-loop-row
invariant-loop-row l =
    l.all ++ pairwise with_start (drop (length l.yielded) l.rows) (drop (length l.yielded) l.starts) ≡ pairwise with_start l.rows l.starts
