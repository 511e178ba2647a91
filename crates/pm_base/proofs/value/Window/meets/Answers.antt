use Rattle.pm_base.proofs.Boxes.{meets-is}
use Rattle.pm_base.proofs.value.Window.meets.Goals as goal

pub returns-clause-some : goal.returns-clause-some
returns-clause-some c = rw c.meets.ensures (meets-is c.args.self.now c.args.other.now)
