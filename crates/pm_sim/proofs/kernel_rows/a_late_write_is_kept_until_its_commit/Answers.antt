use Rattle.pm_sim.proofs.KernelRows.{first_commit_keeps, late_write_keeps, second_commit_keeps}
use Rattle.pm_sim.proofs.kernel_rows.a_late_write_is_kept_until_its_commit.Goals as goal

pub returns : goal.returns
returns c = record { all = late_write_keeps; rest = first_commit_keeps; none = second_commit_keeps }
