use Rattle.std.proofs.Common.{refl}
use Rattle.pm_top.proofs.Written.{part-after, part-more}
use Rattle.pm_top.proofs.optimistic.write_rest.Goals as goal

pub returns-in-Done-clause-unfinished : goal.returns-in-Done-clause-unfinished
returns-in-Done-clause-unfinished g c = λ ne. part-after _ _ _ _ _ (c.in-Done.ensures.done refl) (c.write_asked.ensures.unfinished ne)

pub returns-in_default-clause-unfinished : goal.returns-in_default-clause-unfinished
returns-in_default-clause-unfinished g c = λ ne. part-more _ _ _ _ (c.write_end.ensures.unfinished ne)
