use Rattle.std.proofs.Common.{◌+◌, min}
use Rattle.pm_workers.specs.Shares.{share}
use Rattle.pm_workers.specs.Epochs.{Moved, AtEach}
use Rattle.pm_workers.proofs.rounds.run_part.Given as goal

abbrev pub invariant-loop-number : goal.invariant-loop-number
invariant-loop-number g l =
    AtEach (λ i. Moved g.S.Station.story g.S.Station.follows
    (min l.number (share l.plan.quota l.plan.count (l.start + i)))) l.fn.part l.part
