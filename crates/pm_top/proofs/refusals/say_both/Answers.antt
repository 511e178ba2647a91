use Rattle.pm_top.proofs.Speaking.{speaks-ended, speaks-on}
use Rattle.pm_top.proofs.refusals.say_both.Goals as goal

pub returns-in_err-say : goal.returns-in_err-say
returns-in_err-say g c = speaks-ended _ c.from_residual.result _ _ _ _ c.from_residual.ensures.0 (c.in_err-say.ensures)

pub returns : goal.returns
returns g c = speaks-on _ c.say-2.result _ _ _ _ _ (c.in_ok-say.ensures) (c.say-2.ensures)
