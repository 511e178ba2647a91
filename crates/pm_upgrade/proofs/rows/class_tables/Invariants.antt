use Rattle.std.proofs.Common.{◌≡◌, map, take}
use Rattle.toml.specs.View.{items_view}
use Rattle.pm_plan.specs.Plans.{own_classes, own_var}
use Rattle.pm_upgrade.specs.Documents.{class_members, items_of}
use Rattle.pm_upgrade.specs.Drafts.{clp_names}
use Rattle.pm_upgrade.proofs.rows.class_tables.Given as goal

abbrev pub invariant-loop-i : goal.invariant-loop-i
invariant-loop-i l = items_view l.tables.items
    ≡ items_of class_members (own_classes (take l.i l.plan.classes) (take l.i l.plan.layout.classes) (map (own_var (clp_names l.plan)) l.plan.vars))
