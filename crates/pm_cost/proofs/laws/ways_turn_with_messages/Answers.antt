use Rattle.pm_cost.proofs.Turning.{all_turn}
use Rattle.pm_cost.proofs.laws.ways_turn_with_messages.Goals as goal

pub returns : goal.returns
returns c = record { turn = all_turn }
