use Rattle.std.proofs.Common.{refl, arith}
use Rattle.pm_top.proofs.Events.{events-more, events-part}
use Rattle.pm_top.proofs.optimistic.write_events.Goals as goal

pub returns-in_default-clause-unfinished : goal.returns-in_default-clause-unfinished
returns-in_default-clause-unfinished g c = λ ne.
    events-part _ _ _ c.args.events.now c.loop-event.event-index _ c.loop-event-test.true c.loop-event.invariant.text (c.write_event.ensures.unfinished ne)

pub loop-event-preserved : goal.loop-event-preserved
loop-event-preserved g c = record {
  text = events-more _ _ _ c.args.events.now c.loop-event.event-index _ c.loop-event-test.true c.loop-event.invariant.text (c.in-Done.ensures.done refl);
  faults = omega (arith, c.loop-event.invariant.faults, c.write_event.ensures.faults);
  stalls = omega (arith, c.loop-event.invariant.stalls, c.write_event.ensures.stalls);
}
