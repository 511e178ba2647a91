use Rattle.std.proofs.Common.{◌≡◌, take}
use Rattle.std.specs.List.{zip}
use Rattle.pm_upgrade.proofs.names.class_rows.Given as goal

abbrev pub invariant-loop-i : goal.invariant-loop-i
invariant-loop-i l = l.rows ≡ zip (take l.i l.plan.classes) (take l.i l.plan.layout.classes)
