use Rattle.std.proofs.Common.{◌∙◌, ap, Some, sym}
use Rattle.pm_scenario.specs.Scenarios.{plan_of}
use Rattle.pm_top.specs.declared.outcome.Ending.TheVariants as ending
use Rattle.pm_top.proofs.Complete.{ok-err}
use Rattle.pm_top.proofs.Prints.{printed-none, printed-plan, quits-memory}
use Rattle.pm_top.proofs.program.run_text.Goals as goal

pub returns-in-Ok-clause-printed : goal.returns-in-Ok-clause-printed
returns-in-Ok-clause-printed g c =
    printed-plan c.args.settings.now c.args.bytes.now c.in-Ok.plan _ _ _ _ (ap plan_of (sym c.requires.scenario) ∙ c.in-Ok.ensures.plan) c.write_output.ensures.printed

pub returns-in-Ok-clause-unfit : goal.returns-in-Ok-clause-unfit
returns-in-Ok-clause-unfit g c = λ f h. absurd (ok-err c.in-Ok.plan f (sym c.in-Ok.ensures.plan ∙ h))

pub returns-in-Err-Memory-clause-printed : goal.returns-in-Err-Memory-clause-printed
returns-in-Err-Memory-clause-printed g c =
    rw (c.still.ensures.ending, c.still.ensures.journal)
    (printed-none c.args.settings.now (Some c.args.bytes.now) ending.Memory (g.K.Sink.holds c.args.out.now) quits-memory)
