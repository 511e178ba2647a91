use Rattle.std.proofs.Common.{rules, Some, ap, sym, ◌∙◌, ◌∷◌, arith}
use Rattle.atomic_table.specs.Table.{rest}
use Rattle.pm_turn.proofs.Steps.{tries}
use Rattle.pm_turn.proofs.turns.Turns.try_take.Goals as goal

pub compare_exchange-found-requires : goal.compare_exchange-found-requires
compare_exchange-found-requires g c =
    let t = c.args.self.now.table in
    let seat = c.args.seat.now.seat in (
      c.requires.seat.table,
      omega (arith, c.args.self.now.words, c.requires.range),
      tries g.T.Marked.fits t.shared.key.value t.shared.table_id.slots seat.id c.args.i seat.me
          c.requires.seat.alive c.requires.range,
    )

pub exchange-requires : goal.exchange-requires
exchange-requires g c =
    let t = ((c.compare_exchange-found.ensures.2).taken (search rules)).1 in (
      c.compare_exchange-found.ensures.0 ∙ c.requires.seat.table,
      (Some t.0, t.1 ∙ ap (λ l. (c.args.i, Some t.0) ∷ rest l) (sym t.1)),
    )
