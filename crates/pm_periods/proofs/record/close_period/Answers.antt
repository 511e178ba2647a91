use Rattle.std.proofs.Common.{◌-◌, ◌+◌, arith, sym, ◌∙◌, subst}
use Rattle.pm_periods.specs.Laid.{AreLinked, base_of, reads_of}
use Rattle.pm_periods.specs.Records.{HaveTurns}
use Rattle.pm_periods.proofs.Laid.{closed_renewed, closed_rest, linked-drop, turns-drop}
use Rattle.pm_periods.proofs.record.close_period.Goals as goal

pub renew_from-requires-clause-linked : goal.renew_from-requires-clause-linked
renew_from-requires-clause-linked c =
    let old = c.args.periods.now.items in
    let rest = closed_rest c.args.periods.now.items c.args.at (c.args.at - 1) (omega (arith, c.requires.within)) c.requires.within.1 c.remove.result c.args.reads.items c.set_reads.new.periods.items (c.set_reads.ensures.items c.remove.result) c.remove.new.self.items c.remove.ensures.by_index.2 in
    subst AreLinked (sym rest) (linked-drop (base_of old) old (c.args.at + 1) c.requires.laid)

pub renew_from-requires-clause-turns : goal.renew_from-requires-clause-turns
renew_from-requires-clause-turns c =
    let old = c.args.periods.now.items in
    let rest = closed_rest c.args.periods.now.items c.args.at (c.args.at - 1) (omega (arith, c.requires.within)) c.requires.within.1 c.remove.result c.args.reads.items c.set_reads.new.periods.items (c.set_reads.ensures.items c.remove.result) c.remove.new.self.items c.remove.ensures.by_index.2 in
    subst (λ z. HaveTurns (reads_of z)) (sym rest) (turns-drop old (c.args.at + 1) c.requires.turns)

pub returns : goal.returns
returns c k d e = c.renew_from.ensures ∙ closed_renewed c.args.periods.now.items c.args.at k e c.requires.within.1 d c.args.reads.items c.set_reads.new.periods.items (c.set_reads.ensures.items d) c.remove.new.self.items c.remove.ensures.by_index.2 c.args.value
