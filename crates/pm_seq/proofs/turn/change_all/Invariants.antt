use Rattle.std.proofs.Common.{◌≡◌, drop}
use Rattle.pm_model.specs.Runs.{changed}
use Rattle.pm_seq.proofs.turn.change_all.Given as goal

abbrev pub invariant-loop-write : goal.invariant-loop-write
invariant-loop-write l = changed (drop l.write-index l.writes) l.values ≡ changed l.writes l.initial.values
