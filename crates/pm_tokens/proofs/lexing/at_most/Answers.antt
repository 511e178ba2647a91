use Rattle.std.proofs.Common.{rules, arith}
use Rattle.pm_tokens.proofs.LexingLaws.{past}
use Rattle.pm_tokens.proofs.lexing.at_most.Goals as goal

pub returns-then-more-most-clause-value : goal.returns-then-more-most-clause-value
returns-then-more-most-clause-value c =
    let gone = past c.args.most c.loop-c.n c.args.text.now c.loop-c.c-index 0 (omega arith) c.loop-c.invariant.value (omega arith) in
    search (rules, gone)
