use Rattle.std.proofs.Common.{inl}
use Rattle.pm_top.proofs.Lowering.{low-done, low-stopped}
use Rattle.pm_top.proofs.lowest.write_lowest.Goals as goal

pub returns-in-Done-clause-printed : goal.returns-in-Done-clause-printed
returns-in-Done-clause-printed g c =
    let run = c.run_lowest-ran.ensures in
    let rest = c.write_rest-outcome.ensures in
    low-done c.args.settings.now c.args.plan.now c.run_lowest-ran.result.journal c.requires.valid run.journal
    c.run_lowest-ran.result.counts _ _ _ (run.lowest (inl c.in-Done.is)) (run.done c.in-Done.is)
    (run.whole (inl c.in-Done.is)) (run.counts c.in-Done.is) c.write_rest-outcome.result rest.wrote rest.done
    rest.unfinished

pub returns-in_default-clause-printed : goal.returns-in_default-clause-printed
returns-in_default-clause-printed g c =
    let run = c.run_lowest-ran.ensures in
    low-stopped c.args.settings.now c.args.plan.now c.run_lowest-ran.result.journal c.requires.valid run.journal
    _ _ c.run_lowest-ran.result.outcome c.in_default.not-Done run.lowest run.spent run.whole run.lacks run.part
