use Rattle.std.proofs.Common.{◌≡◌, take, []}
use Rattle.pm_step.specs.Expressions.{seen}
use Rattle.pm_step.specs.Steps.{does_all, IsRising}
use Rattle.pm_step.proofs.steps.+does.Given as goal

abbrev pub invariant-does_all-loop-stmt : goal.invariant-does_all-loop-stmt
invariant-does_all-loop-stmt l = record {
  done : l.deeds ≡ does_all (seen l.scene []) (take l.stmt-index l.stmts) l.initial.deeds;
  rising : IsRising l.deeds.writes;
}
