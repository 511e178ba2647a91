use Rattle.pm_top.proofs.Speaking.{speaks-ended, speaks-on}
use Rattle.pm_top.proofs.refusals.say_illegal.Goals as goal

pub returns-in_err-say_before : goal.returns-in_err-say_before
returns-in_err-say_before g c = speaks-ended _ c.from_residual.result _ _ _ _ c.from_residual.ensures.0 (c.in_err-say_before.ensures)

pub returns : goal.returns
returns g c = speaks-on _ c.say.result _ _ _ _ _ (c.in_ok-say_before.ensures) (c.say.ensures)
