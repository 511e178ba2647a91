use Rattle.std.proofs.Common.{refl}
use Rattle.pm_top.proofs.Written.{part-after}
use Rattle.pm_top.proofs.replays.write_committed.Goals as goal

pub returns-in-All-clause-unfinished : goal.returns-in-All-clause-unfinished
returns-in-All-clause-unfinished g c = λ ne. part-after _ _ _ _ _ (c.in-All.ensures.all refl) (c.write_last.ensures.unfinished ne)
