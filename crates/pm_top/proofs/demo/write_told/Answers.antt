use Rattle.std.proofs.Common.{◌∙◌}
use Rattle.pm_top.proofs.Written.{part-none, told-some}
use Rattle.pm_top.proofs.demo.write_told.Goals as goal

pub returns-in-Ok-clause-unfinished : goal.returns-in-Ok-clause-unfinished
returns-in-Ok-clause-unfinished g c = λ _. rw (c.as_bytes.ensures.value ∙ c.in-Ok.ensures) at c.in-Err-write_whole.ensures.part

pub returns-clause-unfinished : goal.returns-clause-unfinished
returns-clause-unfinished g c = λ _. part-none _ _ (told-some _ _ _ _ _)
