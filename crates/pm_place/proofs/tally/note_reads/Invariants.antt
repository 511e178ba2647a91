use Rattle.std.proofs.Common.{◌≡◌, drop}
use Rattle.pm_place.specs.Accesses.{from, reads}
use Rattle.pm_place.specs.Tallies.{noted_all}
use Rattle.pm_place.proofs.tally.note_reads.Given as goal

abbrev pub invariant-loop-i : goal.invariant-loop-i
invariant-loop-i l =
    noted_all (from l.home (reads (drop l.i l.senses) (drop l.i l.answers))) l.rows.items
    ≡ noted_all (from l.home (reads l.senses l.answers)) l.initial.rows.items
