use Rattle.std.proofs.Common.{◌+◌}
use Rattle.pm_workers.specs.Shares.{share, turns_at}
use Rattle.pm_workers.specs.Epochs.{Moved, Reached}
use Rattle.pm_workers.proofs.rounds.go_round.Given as goal

abbrev pub invariant-loop-k : goal.invariant-loop-k
invariant-loop-k g l =
    Reached (λ i. Moved g.S.Station.story g.S.Station.follows
    (turns_at l.number (share l.plan.quota l.plan.count (l.start + i)))) l.k l.fn.part l.part
