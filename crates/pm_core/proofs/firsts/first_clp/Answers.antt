use Rattle.std.proofs.Common.{◌∙◌, sym}
use Rattle.std.proofs.lemmas.List.{length-map}
use Rattle.pm_plan.specs.declared.plan.VarRow.{VarRow}
use Rattle.pm_plan.proofs.Valid.{valid_limits}
use Rattle.pm_sim.specs.Worlds.{first_way}
use Rattle.pm_sim.proofs.Shapes.{vars_counted}
use Rattle.pm_core.proofs.firsts.first_clp.Goals as goal

pub ports-requires : goal.ports-requires
ports-requires c = valid_limits c.args.plan.now c.requires.valid

pub first-requires-clause-layout : goal.first-requires-clause-layout
first-requires-clause-layout c =
    rw c.in_ok-layout.ensures (valid_limits c.args.plan.now c.requires.valid).layout

pub first-requires-clause-ways : goal.first-requires-clause-ways
first-requires-clause-ways c =
    let p = c.args.plan.now in
    rw (c.in_ok-layout.ensures, c.in_ok-first_ways.ensures)
    (length-map p.vars (first_way p c.args.clp) ∙ sym (vars_counted p c.requires.valid ∙ length-map p.vars (λ (v : VarRow). v.value)))
