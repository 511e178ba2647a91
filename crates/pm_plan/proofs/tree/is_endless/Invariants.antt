use Rattle.pm_plan.specs.Plans.{parents}
use Rattle.pm_plan.proofs.Chains.{ChainFrom}
use Rattle.pm_plan.proofs.tree.is_endless.Given as goal

abbrev pub invariant-loop : goal.invariant-loop
invariant-loop l = ChainFrom (parents l.clps) l.clp l.counter l.at
