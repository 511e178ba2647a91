use Rattle.pm_clp.proofs.Fitting.{move_turns}
use Rattle.pm_clp.proofs.clp.Clp.act.Goals as goal

pub on_move-requires-clause-turns : goal.on_move-requires-clause-turns
on_move-requires-clause-turns c =
    move_turns c.args.self.now.hub c.args.self.now.clp c.args.from c.args.message c.in-Move.var _ c.in-Move.parts
    c.in-Move.is c.requires.fits
