use Rattle.std.proofs.Common.{◌++◌, ap}
use Rattle.pm_calm.specs.Lowest.{lowest}
use Rattle.pm_lowest.proofs.run.run_lowest.Goals as goal

pub returns-in-Err-clause-journal : goal.returns-in-Err-clause-journal
returns-in-Err-clause-journal g c =
    (lowest c.args.budget c.args.plan.now, ap (λ k. k ++ lowest c.args.budget c.args.plan.now) c.starved.ensures.journal)
