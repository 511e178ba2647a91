use Rattle.std.proofs.Common.{refl}
use Rattle.pm_step.specs.Steps.{step, written}
use Rattle.pm_step.proofs.ExpressionLaws.{value-Num, value-Reg, value-Part, value-Bin}
use Rattle.pm_step.proofs.StatementLaws.{does-If, does-Set}
use Rattle.pm_step.proofs.laws.sample_steps.Goals as goal

pub returns : goal.returns
unfolding step written
returns c = record {
  asks = refl;
  acts = simp (does-If, does-Set, value-Num, value-Reg, value-Part, value-Bin);
}
