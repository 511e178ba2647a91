use Rattle.std.proofs.Common.{inl}
use Rattle.pm_top.proofs.Committing.{ran-done, ran-stopped}
use Rattle.pm_top.proofs.optimistic.write_optimistic.Goals as goal

pub returns-in-Done-clause-printed : goal.returns-in-Done-clause-printed
returns-in-Done-clause-printed g c =
    let run = c.made_by-ran.ensures in
    let rest = c.write_rest-outcome.ensures in
    ran-done c.args.settings.now c.args.plan.now c.made_by-ran.result.journal c.requires.valid run.journal
    c.made_by-ran.result.counts _ _ _ (run.done c.in-Done.is) (run.whole (inl c.in-Done.is)) (run.counts c.in-Done.is)
    c.write_rest-outcome.result rest.wrote rest.done rest.unfinished

pub returns-in_default-clause-printed : goal.returns-in_default-clause-printed
returns-in_default-clause-printed g c =
    let run = c.made_by-ran.ensures in
    ran-stopped c.args.settings.now c.args.plan.now c.made_by-ran.result.journal c.requires.valid run.journal
    _ _ c.made_by-ran.result.outcome c.in_default.not-Done run.spent run.whole run.lacks run.part
