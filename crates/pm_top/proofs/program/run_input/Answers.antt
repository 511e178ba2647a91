use Rattle.std.proofs.Common.{◌≡◌, ◌∙◌, ◌≤◌, [], ap, Some, refl, sym, subst, arith, List, ℕ, length, true}
use Rattle.pm_scenario.specs.Scenarios.{plan_of}
use Rattle.pm_top.specs.Headline.{EndsRun}
use Rattle.pm_top.specs.Printed.{PrintedWhere}
use Rattle.pm_top.specs.Readings.{IsAccepted, IsLongScenario, IsReadWhole, IsRefused, IsUnfit, longest, scenario_in}
use Rattle.pm_top.specs.declared.outcome.Ending.TheVariants as ending
use Rattle.pm_top.proofs.Endings.{runs-nothing}
use Rattle.pm_top.proofs.Prints.{accepted-is, of-held, printed-none, quits-long, quits-long-input, quits-memory, quits-read, refused-is, short-is, taken-input, taken-long, unfit-refused}
use Rattle.pm_top.proofs.Stopped.{kept}
use Rattle.pm_top.proofs.program.run_input.Goals as goal

pub returns-in-Err-Failed-clause-printed : goal.returns-in-Err-Failed-clause-printed
returns-in-Err-Failed-clause-printed g c =
    rw (c.still.ensures.ending, c.still.ensures.journal)
    (printed-none c.args.settings.now (g.S.Source.held c.args.input.now) ending.ReadFault (g.K.Sink.holds c.args.out.now) quits-read)

pub returns-in-Err-Memory-clause-printed : goal.returns-in-Err-Memory-clause-printed
returns-in-Err-Memory-clause-printed g c =
    rw (c.still-in-Err-Memory.ensures.ending, c.still-in-Err-Memory.ensures.journal)
    (printed-none c.args.settings.now (g.S.Source.held c.args.input.now) ending.Memory (g.K.Sink.holds c.args.out.now) quits-memory)

pub returns-then-scenario-gt-LONGEST_SCENARIO-clause-printed : goal.returns-then-scenario-gt-LONGEST_SCENARIO-clause-printed
returns-then-scenario-gt-LONGEST_SCENARIO-clause-printed g c =
    let s = c.still-then-scenario-gt-LONGEST_SCENARIO.ensures in
    rw (s.ending, s.journal)
    (printed-none c.args.settings.now (g.S.Source.held c.args.input.now) ending.TooLong (g.K.Sink.holds c.args.out.now) quits-long)

pub returns-then-taken-clause-printed : goal.returns-then-taken-clause-printed
returns-then-taken-clause-printed g c =
    rw (c.still-then-taken.ensures.ending, c.still-then-taken.ensures.journal)
    (printed-none c.args.settings.now (g.S.Source.held c.args.input.now) ending.InputTooLong (g.K.Sink.holds c.args.out.now) quits-long-input)

pub returns-then-scenario-gt-LONGEST_SCENARIO-clause-too_long : goal.returns-then-scenario-gt-LONGEST_SCENARIO-clause-too_long
returns-then-scenario-gt-LONGEST_SCENARIO-clause-too_long g c =
    let m = c.args.settings.now.mode in
    let scenario : c.scenario_in-scenario.result.now ≡ scenario_in m c.in-Ok.taken.bytes.items =
    c.scenario_in-scenario.ensures ∙ ap (scenario_in m) c.as_slice-bytes.ensures.value in
    λ h. taken-long m c.longest.result (g.S.Source.held c.args.input.now) (g.S.Source.held c.read_whole.new.input) c.in-Ok.taken.is_past c.in-Ok.taken.bytes.items
    c.longest.ensures.value c.in-Ok.ensures.whole c.in-Ok.ensures.past
    (omega (arith, c.if-scenario-gt-LONGEST_SCENARIO.true, ap length scenario))

pub returns-then-taken-clause-long_input : goal.returns-then-taken-clause-long_input
returns-then-taken-clause-long_input g c =
    let m = c.args.settings.now.mode in
    let scenario : c.scenario_in-scenario.result.now ≡ scenario_in m c.in-Ok.taken.bytes.items =
    c.scenario_in-scenario.ensures ∙ ap (scenario_in m) c.as_slice-bytes.ensures.value in
    λ h. taken-input m c.longest.result (g.S.Source.held c.args.input.now) (g.S.Source.held c.read_whole.new.input) c.in-Ok.taken.is_past c.in-Ok.taken.bytes.items
    c.longest.ensures.value c.if-taken.true c.in-Ok.ensures.past
    (omega (arith, c.if-scenario-gt-LONGEST_SCENARIO.false, ap length scenario))
