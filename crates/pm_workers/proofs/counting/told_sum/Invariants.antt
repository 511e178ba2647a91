use Rattle.std.proofs.Common.{◌≡◌, ◌%◌, ◌^◌, take}
use Rattle.pm_workers.specs.Epochs.{told_by}
use Rattle.pm_workers.proofs.counting.told_sum.Given as goal

abbrev pub invariant-loop-it : goal.invariant-loop-it
invariant-loop-it g l = l.sum ≡ told_by g.S.Station.story (take l.it-index l.stations) % 2 ^ 64
