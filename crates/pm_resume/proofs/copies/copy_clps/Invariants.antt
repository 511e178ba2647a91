use Rattle.std.proofs.Common.{◌≡◌, take}
use Rattle.pm_resume.proofs.copies.copy_clps.Given as goal

abbrev pub invariant-loop-row : goal.invariant-loop-row
invariant-loop-row l = l.all ≡ take l.row-index l.rows
