use Rattle.std.proofs.Common.{◌≡◌, ◌++◌, drop, length}
use Rattle.pm_plan.specs.Plans.{HavePairs}
use Rattle.pm_resume.specs.Cuts.{pairwise, with_value}
use Rattle.pm_resume.proofs.resumed.with_values.Given as goal

abbrev pub invariant-loop-row : goal.invariant-loop-row
invariant-loop-row l =
    (l.all ++ pairwise with_value (drop (length l.yielded) l.rows) (drop (length l.yielded) l.values) ≡ pairwise with_value l.rows l.values)
    × HavePairs l.all
