use Rattle.std.proofs.Common.{arith}
use Rattle.pm_turn.proofs.Steps.{splits}
use Rattle.pm_turn.proofs.turns.Turns.split.Goals as goal

pub split_seat-new-requires : goal.split_seat-new-requires
split_seat-new-requires g c =
    let t = c.args.self.now.table in
    let seat = c.args.seat.now.seat in (
      c.requires.seat.table,
      omega (arith, c.args.self.now.words, c.args.self.now.some),
      splits g.T.Marked.fits t.shared.key.value seat.id seat.me.0 c.requires.shares,
    )
