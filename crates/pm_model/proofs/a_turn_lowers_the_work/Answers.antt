use Rattle.pm_model.proofs.Turns.{turn-falls}
use Rattle.pm_model.proofs.a_turn_lowers_the_work.Goals as goal

pub returns : goal.returns
returns c = record { falls = λ plan s m h ok. (turn-falls plan s m h ok).0; stays = λ plan s m h ok. (turn-falls plan s m h ok).1 }
