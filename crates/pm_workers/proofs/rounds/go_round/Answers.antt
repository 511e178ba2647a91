use Rattle.std.proofs.Common.{◌+◌, ℕ, arith}
use Rattle.pm_workers.specs.Shares.{share, turns_at}
use Rattle.pm_workers.specs.Epochs.{Moved}
use Rattle.pm_workers.proofs.Moves.{steps}
use Rattle.pm_workers.proofs.rounds.go_round.Goals as goal

pub loop-k-preserved : goal.loop-k-preserved
loop-k-preserved g c =
    let S : Type 0 = g.row.S.Denot in
    let plan = c.args.plan.now in
    let R : ℕ → S → S → Type 0 = λ i. Moved g.S.Station.story g.S.Station.follows
    (turns_at c.args.number (share plan.quota plan.count (c.args.start + i))) in
    steps R c.loop-k.k _ _ _ _ c.loop-k.invariant (omega (
      arith,
      c.loop-k-test.true,
      c.loop-k.auto.part,
    )) c.round_turn-turned.ensures.moved
