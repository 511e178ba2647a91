use Rattle.std.proofs.Common.{arith, map}
use Rattle.pm_ends.specs.Sides.{inn_of}
use Rattle.pm_ends.proofs.Trees.{tree_top, tree_up}
use Rattle.pm_ends.proofs.tree.mend.Goals as goal

pub returns : goal.returns
returns c = tree_top (map inn_of c.args.ends.now) c.loop-at.best.items c.loop-at.at (omega (arith, c.loop-at-test.false))
    c.loop-at.invariant.0

pub put-requires-in-loop-at-clause-but : goal.put-requires-in-loop-at-clause-but
put-requires-in-loop-at-clause-but c = tree_up (map inn_of c.args.ends.now) c.loop-at.best.items c.loop-at.at
    c.loop-at.invariant.0
