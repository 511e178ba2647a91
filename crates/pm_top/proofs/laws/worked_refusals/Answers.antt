use Rattle.std.proofs.Common.{refl}
use Rattle.pm_top.proofs.Worked.{rule-said, tree-said, twice-said}
use Rattle.pm_top.proofs.laws.worked_refusals.Goals as goal

pub returns : goal.returns
returns c = record {
  missing = refl;
  kind = refl;
  strange = refl;
  rule = rule-said;
  limit = refl;
  twice = twice-said;
  tree = tree-said;
}
