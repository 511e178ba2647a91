use Rattle.std.proofs.Common.{◌≡◌}
use Rattle.pm_workers.specs.Epochs.{Reached, told_by}
use Rattle.pm_workers.proofs.last.last_turns.Given as goal

abbrev pub invariant-loop-k : goal.invariant-loop-k
invariant-loop-k g l =
    Reached (λ i x y. g.S.Station.follows y x × g.S.Station.idle y) l.k l.fn.stations l.stations
    × (told_by g.S.Station.story l.stations ≡ told_by g.S.Station.story l.fn.stations)
