use Rattle.pm_workers.proofs.seats.turn_at.Goals as goal

pub give-requires-clause-fits : goal.give-requires-clause-fits
give-requires-clause-fits g c =
    let fit = c.in-Some.ensures.value.2 in
    (fit.0, fit.1, c.go-turned.ensures fit.0 fit.2)
