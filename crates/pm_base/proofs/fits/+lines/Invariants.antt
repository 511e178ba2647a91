use Rattle.std.proofs.Common.{◌≡◌, ◌+◌, ◌≤◌, min, drop}
use Rattle.pm_base.specs.Fits.{lines_of_all}
use Rattle.pm_base.proofs.fits.+lines.Given as goal

abbrev pub invariant-all_lines-loop-stmt : goal.invariant-all_lines-loop-stmt
invariant-all_lines-loop-stmt l = record {
  few : l.lines ≤ 201;
  so_far : min (lines_of_all l.stmts) 201 ≡ min (l.lines + lines_of_all (drop l.stmt-index l.stmts)) 201;
}
