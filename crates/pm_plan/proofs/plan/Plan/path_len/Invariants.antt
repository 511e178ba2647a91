use Rattle.std.proofs.Common.{◌≡◌, ◌<◌, ◌+◌, length}
use Rattle.pm_plan.specs.Plans.{parents}
use Rattle.pm_plan.specs.Trees.{path_len}
use Rattle.pm_plan.proofs.plan.Plan.path_len.Given as goal

abbrev pub invariant-loop-at : goal.invariant-loop-at
invariant-loop-at l = record {
  inside : l.at < length l.self.clps;
  count : l.edges + path_len (parents l.self.clps) l.at l.b ≡ path_len (parents l.self.clps) l.a l.b;
}

abbrev pub decreases-loop-at : goal.decreases-loop-at
decreases-loop-at l = path_len (parents l.self.clps) l.at l.b
