use Rattle.std.proofs.Common.{◌-◌, arith, sym, ◌∙◌, subst}
use Rattle.pm_periods.specs.Laid.{AreLinked, base_of, reads_of}
use Rattle.pm_periods.specs.Records.{HaveTurns}
use Rattle.pm_periods.proofs.Laid.{left_renewed, left_rest, linked-drop, turns-drop}
use Rattle.pm_periods.proofs.record.open_period.Goals as goal

pub renew_from-requires-clause-linked : goal.renew_from-requires-clause-linked
renew_from-requires-clause-linked c =
    let old = c.args.periods.now.items in
    let rest = left_rest (base_of old) old c.args.at (c.args.at - 1) (omega (arith, c.requires.within)) c.requires.within.1 c.args.held c.args.held c.args.split c.insert.new.self.items c.in_ok-insert.ensures.items c.leave_at.new.periods.items (c.leave_at.ensures c.args.held) in
    subst AreLinked (sym rest) (linked-drop (base_of old) old c.args.at c.requires.laid)

pub renew_from-requires-clause-turns : goal.renew_from-requires-clause-turns
renew_from-requires-clause-turns c =
    let old = c.args.periods.now.items in
    let rest = left_rest (base_of old) old c.args.at (c.args.at - 1) (omega (arith, c.requires.within)) c.requires.within.1 c.args.held c.args.held c.args.split c.insert.new.self.items c.in_ok-insert.ensures.items c.leave_at.new.periods.items (c.leave_at.ensures c.args.held) in
    subst (λ z. HaveTurns (reads_of z)) (sym rest) (turns-drop old c.args.at c.requires.turns)

pub returns-clause-ok : goal.returns-clause-ok
returns-clause-ok c k d e =
    let old = c.args.periods.now.items in
    c.renew_from.ensures ∙ left_renewed (base_of old) old c.args.at k e c.requires.within.1 d c.args.held c.args.split c.insert.new.self.items c.in_ok-insert.ensures.items c.leave_at.new.periods.items (c.leave_at.ensures d) c.args.held.value
