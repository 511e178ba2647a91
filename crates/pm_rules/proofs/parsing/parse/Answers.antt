use Rattle.pm_rules.proofs.GrammarLaws.{accepted_fits}
use Rattle.pm_rules.proofs.parsing.parse.Goals as goal

pub returns-clause-fits : goal.returns-clause-fits
returns-clause-fits c = λ count.
    accepted_fits c.args.names.now c.args.version c.args.text.now c.in_ok-program.program c.in_ok-program.ensures.tree count
