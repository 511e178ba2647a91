use Rattle.pm_top.proofs.Speaking.{speaks-ended, speaks-on}
use Rattle.pm_top.proofs.refusals.say_part.Goals as goal

pub returns-in_err-say_both : goal.returns-in_err-say_both
returns-in_err-say_both g c = speaks-ended _ c.from_residual.result _ _ _ _ c.from_residual.ensures.0 (rw c.kind_word.ensures at c.in_err-say_both.ensures)

pub returns : goal.returns
returns g c = speaks-on _ c.say_index.result _ _ _ _ _ (rw c.kind_word.ensures at c.in_ok-say_both.ensures) (c.say_index.ensures)
