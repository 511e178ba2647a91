use Rattle.pm_workers.proofs.seats.+fn-spread-join+arg2+spread.Given as goal

abbrev pub decreases-join+arg2 : goal.decreases-join+arg2
decreases-join+arg2 g l = l.more

abbrev pub decreases-spread : goal.decreases-spread
decreases-spread g l = l.others
