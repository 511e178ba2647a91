use Rattle.pm_scenario.proofs.Strangers.{strange_least, strange_none, strange_stranger}
use Rattle.pm_scenario.proofs.laws.strange_keys_are_least.Goals as goal

pub returns : goal.returns
returns c = record {
  own = λ keys table k e. (strange_stranger keys table k e).0;
  unlisted = λ keys table k e. (strange_stranger keys table k e).1;
  least = strange_least;
  none = strange_none;
}
