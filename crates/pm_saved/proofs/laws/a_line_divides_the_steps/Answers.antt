use Rattle.pm_saved.proofs.KeptLaws.{given_of, line-divides}
use Rattle.pm_saved.proofs.laws.a_line_divides_the_steps.Goals as goal

pub returns : goal.returns
returns c = λ steps. let h = line-divides c.args.line steps in (given_of c.args.line steps, h.0, h.1)
