use Rattle.pm_sim.proofs.KernelRows.{broken_hands, broken_stops, late_write_hands, late_write_plays}
use Rattle.pm_sim.proofs.kernel_rows.playing_a_late_write.Goals as goal

pub returns : goal.returns
returns c = record {
  whole = late_write_plays;
  entries = late_write_hands;
  stops = broken_stops;
  nothing = broken_hands;
}
