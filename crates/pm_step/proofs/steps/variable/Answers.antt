use Rattle.pm_base.proofs.Classes.{class_under}
use Rattle.pm_step.proofs.steps.variable.Goals as goal

pub member-requires : goal.member-requires
member-requires c = rw c.class_row.ensures (class_under c.args.scene.now.layout.now c.requires.layout c.in-Member.class)
