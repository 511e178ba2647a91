use Rattle.std.proofs.Common.{◌≡◌, ◌≤◌, ◌*◌, length, take}
use Rattle.pm_core.specs.Commits.{handed_by}
use Rattle.pm_core.proofs.commits.count_ready.Given as goal

abbrev pub invariant-loop-alp : goal.invariant-loop-alp
invariant-loop-alp l = record {
  counted : l.count ≡ length (handed_by l.line (take l.alp-index l.alps));
  low : l.count ≤ l.alp-index * 20000000;
}
