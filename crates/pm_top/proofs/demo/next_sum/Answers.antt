use Rattle.std.proofs.Common.{◌∙◌}
use Rattle.pm_top.proofs.Sums.{wrapped}
use Rattle.pm_top.proofs.demo.next_sum.Goals as goal

pub returns : goal.returns
returns c = let same = wrapped c.args.sum c.args.byte in cc
