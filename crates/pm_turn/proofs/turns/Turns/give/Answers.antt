use Rattle.std.proofs.Common.{ap, sym, subst, ◌∙◌, ◌<◌, arith}
use Rattle.pm_turn.proofs.Steps.{releases}
use Rattle.pm_turn.proofs.turns.Turns.give.Goals as goal

pub store-requires : goal.store-requires
store-requires g c =
    let t = c.args.self.now.table in
    let seat = c.exchange.new.seat in
    let e = c.exchange.ensures.3 in (
      c.exchange.ensures.0 ∙ c.requires.seat.table,
      omega (arith, c.args.self.now.words, c.requires.range),
      releases g.T.Marked.fits t.shared.key.value t.shared.table_id.slots seat.id c.args.i seat.me
          c.requires.held.0 c.args.value _
          (subst (λ m. 0 < m.0.shares) (sym e) c.requires.seat.alive) c.requires.range
          (ap (λ m. m.0.holds) e ∙ c.requires.held.1) (ap (λ m. m.1) e) c.requires.fits,
    )
