use Rattle.std.proofs.Common.{◌≡◌, ℕ, ◌+◌}
use Rattle.pm_resume.specs.Reached.{HasDone}
use Rattle.pm_resume.proofs.advance.advance.Given as goal

abbrev pub invariant-loop-left : goal.invariant-loop-left
invariant-loop-left l = record {
  plan : l.seq.plan ≡ l.fn.seq.plan;
  steps : (n : ℕ) × (n + l.left ≡ l.budget) × HasDone l.seq.plan l.from n l.seq.state;
}

abbrev pub decreases-loop-left : goal.decreases-loop-left
decreases-loop-left l = l.left
