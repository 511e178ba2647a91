use Rattle.std.proofs.Common.{arith}
use Rattle.pm_place.proofs.best.add_best.Goals as goal

pub overflow_add-placing : goal.overflow_add-placing
overflow_add-placing c =
    let small = c.requires.small c.best-best.result.at c.best-best.ensures.there in
    let here = c.best-best.ensures.here in
    let total = c.requires.total in
    omega (arith, small, here, total)
