use Rattle.pm_gen.proofs.States.{wrapped}
use Rattle.pm_gen.proofs.draws.Draws.advance.Goals as goal

pub returns : goal.returns
returns c = let same = wrapped c.args.self.now.state in cc
