use Rattle.std.proofs.Common.{◌∙◌, None}
use Rattle.pm_top.specs.declared.outcome.Ending.TheVariants as ending
use Rattle.pm_top.proofs.Demos.{generated-moves}
use Rattle.pm_top.proofs.Endings.{runs-accepted}
use Rattle.pm_top.proofs.Prints.{generated-none, generated-plan, quits-memory}
use Rattle.pm_top.proofs.program.run_generated.Goals as goal

pub returns-in-Ok-clause-printed : goal.returns-in-Ok-clause-printed
returns-in-Ok-clause-printed g c =
    generated-plan c.args.settings.now None c.in-Ok.plan _ _ _ _ c.in-Ok.ensures.plan c.write_output.ensures.printed

pub returns-in-Ok-clause-ran : goal.returns-in-Ok-clause-ran
returns-in-Ok-clause-ran g c = runs-accepted _ c.write_output.ensures.ran c.write_output.ensures.plan

pub returns-in-Err-clause-printed : goal.returns-in-Err-clause-printed
returns-in-Err-clause-printed g c =
    rw (c.still.ensures.ending, c.still.ensures.journal)
    (generated-none c.args.settings.now None ending.Memory (g.K.Sink.holds c.args.out.now) quits-memory)

pub write_output-requires-clause-moves : goal.write_output-requires-clause-moves
write_output-requires-clause-moves g c = generated-moves c.args.settings.now.seed c.in-Ok.plan c.in-Ok.ensures.plan
