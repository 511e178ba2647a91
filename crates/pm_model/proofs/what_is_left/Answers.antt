use Rattle.pm_model.proofs.Turns.{rest-step, rest-done}
use Rattle.pm_model.proofs.what_is_left.Goals as goal

pub returns : goal.returns
returns c = record { step = rest-step; done = rest-done }
