use Rattle.std.proofs.Common.{rules, arith}
use Rattle.pm_history.proofs.Numbers.{past}
use Rattle.pm_history.proofs.scanning.at_most.Goals as goal

pub returns-then-more-most-clause-value : goal.returns-then-more-most-clause-value
returns-then-more-most-clause-value c =
    let gone = past c.args.most c.loop-c.n c.args.digits.now c.loop-c.c-index 0 (omega arith) c.loop-c.invariant.value
    (omega arith) in
    search (rules, gone)
