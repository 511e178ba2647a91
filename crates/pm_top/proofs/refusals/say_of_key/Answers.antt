use Rattle.pm_top.proofs.Speaking.{speaks-ended, speaks-on}
use Rattle.pm_top.proofs.refusals.say_of_key.Goals as goal

pub returns-in_err-say_key : goal.returns-in_err-say_key
returns-in_err-say_key g c = speaks-ended _ c.from_residual.result _ _ _ _ c.from_residual.ensures.0 (c.in_err-say_key.ensures)

pub returns : goal.returns
returns g c = speaks-on _ c.say.result _ _ _ _ _ (c.in_ok-say_key.ensures) (c.say.ensures)
