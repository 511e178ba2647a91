use Rattle.std.proofs.Common.{◌≡◌, min, max, drop}
use Rattle.pm_base.specs.Fits.{depth_of_all}
use Rattle.pm_base.proofs.fits.+depth.Given as goal

abbrev pub invariant-all_depth-loop-stmt : goal.invariant-all_depth-loop-stmt
invariant-all_depth-loop-stmt l = min (depth_of_all l.stmts) 9 ≡ max l.depth (min (depth_of_all (drop l.stmt-index l.stmts)) 9)
