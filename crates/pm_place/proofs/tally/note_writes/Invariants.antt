use Rattle.std.proofs.Common.{◌≡◌, drop}
use Rattle.pm_place.specs.Accesses.{from, targets}
use Rattle.pm_place.specs.Tallies.{noted_all}
use Rattle.pm_place.proofs.tally.note_writes.Given as goal

abbrev pub invariant-loop-write : goal.invariant-loop-write
invariant-loop-write l =
    noted_all (from l.home (targets (drop l.write-index l.writes))) l.rows.items
    ≡ noted_all (from l.home (targets l.writes)) l.initial.rows.items
