use Rattle.pm_top.specs.Endings.{error_line}
use Rattle.pm_top.proofs.Faults.{offered}
use Rattle.pm_top.proofs.outcome.offer.Goals as goal

pub returns-clause-told : goal.returns-clause-told
returns-clause-told g c = λ ne. offered c.say_ending.result _ _ (error_line c.args.ending.now) (c.say_ending.ensures.said ne)
