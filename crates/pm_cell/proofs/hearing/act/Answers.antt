use Rattle.std.proofs.Common.{sym, subst}
use Rattle.pm_core.specs.declared.process.Process.TheVariants as process
use Rattle.pm_cell.specs.Helds.{IsProcessOf}
use Rattle.pm_cell.specs.Turns.{Acted}
use Rattle.pm_cell.proofs.Heard.{alp_acted, clp_acted, ok_all, ok_both}
use Rattle.pm_cell.proofs.hearing.act.Goals as goal

pub returns-in-Clp-clause-acted : goal.returns-in-Clp-clause-acted
returns-in-Clp-clause-acted c =
    let a = c.args in
    let e = c.at_clp.ensures in
    ok_all c.at_clp.result _ _ _ _ _ _ e.state e.hub e.made e.well e.sent (λ state hub made well sent.
    subst (λ x. Acted a.plan.now a.number a.from a.post x (process.Clp c.at_clp.new.clp) a.outs.now c.at_clp.new.outs)
    (sym c.in-Clp.is)
    (clp_acted a.plan.now a.number a.from a.post c.in-Clp.clp c.at_clp.new.clp a.outs.now c.at_clp.new.outs
    (subst (IsProcessOf a.plan.now a.number) c.in-Clp.is c.requires.process) c.requires.receivers state hub made well
    sent))

pub returns-in-Alp-clause-acted : goal.returns-in-Alp-clause-acted
returns-in-Alp-clause-acted c =
    let a = c.args in
    let e = c.at_alp.ensures in
    ok_both c.at_alp.result _ _ _ e.process e.sent (λ now sent.
    subst (λ x. Acted a.plan.now a.number a.from a.post x (process.Alp c.at_alp.new.alp) a.outs.now c.at_alp.new.outs)
    (sym c.in-Alp.is)
    (alp_acted a.plan.now a.number a.from c.home_of.result a.post c.in-Alp.alp c.at_alp.new.alp a.outs.now
    c.at_alp.new.outs (subst (IsProcessOf a.plan.now a.number) c.in-Alp.is c.requires.process) c.requires.receivers
    c.home_of.ensures now sent))
