use Rattle.pm_alp.proofs.Backs.{numbers-rise}
use Rattle.pm_alp.proofs.laws.numbers_only_rise.Goals as goal

pub returns : goal.returns
returns c = numbers-rise
