use Rattle.std.proofs.Common.{◌∙◌, List, ap, map}
use Rattle.pm_plan.specs.Plans.{own_var}
use Rattle.pm_plan.specs.declared.plan.VarRow.{VarRow}
use Rattle.pm_upgrade.proofs.Listed.{part-map}
use Rattle.pm_upgrade.specs.Documents.{items_of, var_members}
use Rattle.pm_upgrade.specs.Drafts.{clp_names}
use Rattle.pm_upgrade.proofs.rows.member_tables.Goals as goal

pub returns : goal.returns
returns c =
    let own = own_var (clp_names c.args.plan.now) in
    let part = rw c.as_slice.ensures at c.members-vars.ensures in
    c.in_ok-tables.ensures
    ∙ ap (λ (xs : List VarRow). items_of var_members (map own xs)) part
    ∙ ap (items_of var_members) (part-map own c.args.class.now.first c.args.class.now.count c.args.plan.now.vars)
