use Rattle.std.proofs.Common.{◌∙◌, ap, refl}
use Rattle.pm_top.specs.Demo.{sum_from}
use Rattle.pm_top.proofs.Demos.{demo-stopped, demo-told}
use Rattle.pm_top.specs.declared.outcome.Ending.TheVariants as ending
use Rattle.pm_top.proofs.demo.write_demo.Goals as goal

pub returns-in-Done-clause-printed : goal.returns-in-Done-clause-printed
returns-in-Done-clause-printed g c =
    let run = c.write_optimistic-ran.ensures in
    let told = c.write_told-outcome.ensures in
    demo-told c.args.settings.now c.args.plan.now c.write_optimistic-ran.result.journal c.requires.valid c.write_optimistic-ran.result.counts _ _
    (rw c.in-Done.is at run.printed) c.new-trace.ensures.bytes (run.counts c.in-Done.is) _ (c.sum_of.ensures ∙ ap (sum_from 0) c.bytes.ensures) _ _ _ told.wrote told.done told.unfinished
