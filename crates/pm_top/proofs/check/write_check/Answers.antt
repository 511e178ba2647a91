use Rattle.std.proofs.Common.{◌∙◌}
use Rattle.pm_io.proofs.Known.{prefix-part}
use Rattle.pm_top.proofs.Written.{check-some, part-none}
use Rattle.pm_top.proofs.check.write_check.Goals as goal

pub returns-in-Ok-clause-part : goal.returns-in-Ok-clause-part
returns-in-Ok-clause-part g c = prefix-part _ _ _ (rw (c.as_bytes.ensures.value ∙ c.in-Ok.ensures) at c.in-Err-write_whole.ensures.part)

pub returns-in-Ok-clause-unfinished : goal.returns-in-Ok-clause-unfinished
returns-in-Ok-clause-unfinished g c = λ _. rw (c.as_bytes.ensures.value ∙ c.in-Ok.ensures) at c.in-Err-write_whole.ensures.part

pub returns-clause-unfinished : goal.returns-clause-unfinished
returns-clause-unfinished g c = λ _. part-none _ _ (check-some c.args.plan.now)
