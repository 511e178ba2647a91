use Rattle.std.proofs.Common.{arith, ap, ◌∙◌, ℕ, List, Option, None, map}
use Rattle.pm_turn.proofs.Steps.{joins}
use Rattle.pm_turn.proofs.turns.Turns.join.Goals as goal

pub join_seat-requires : goal.join_seat-requires
join_seat-requires g c =
    let t = c.args.self.now.table in
    let seat = c.args.seat.now.seat in
    let other = c.args.other.seat in
    let outs : List ℕ → List (ℕ × Option g.row.T.Denot) = λ hs. map (λ i. (i, None)) hs in (
      c.requires.seat.table,
      c.requires.other.0.table,
      c.requires.other.0.out ∙ ap outs c.requires.other.1,
      omega (arith, c.args.self.now.words, c.args.self.now.some),
      joins g.T.Marked.fits t.shared.key.value seat.id seat.me.0 other.id other.me.0
          c.requires.seat.alive c.requires.other.1,
    )
