use Rattle.std.proofs.Common.{◌+◌, ◌-◌, length}
use Rattle.pm_queries.specs.Laid.{HasRoom}
use Rattle.pm_queries.proofs.queries.make_room.Given as goal

abbrev pub invariant-loop-alloc : goal.invariant-loop-alloc
invariant-loop-alloc l = HasRoom l.fn.classes.items l.classes.items

abbrev pub decreases-loop-alloc : goal.decreases-loop-alloc
decreases-loop-alloc l = (l.class + 1) - length l.classes.items
