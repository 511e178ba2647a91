use Rattle.std.proofs.Common.{◌≡◌, ◌≤◌, ◌+◌, ◌++◌, length}
use Rattle.std.specs.Vec.{vec_capacity, vec_len}
use Rattle.pm_saved.specs.Steps.{hand_out}
use Rattle.pm_core.specs.Commits.{alp_at}
use Rattle.pm_cell.proofs.committing.give_out.Given as goal

abbrev pub invariant-loop-entry : goal.invariant-loop-entry
invariant-loop-entry l = record {
  process : alp_at l.line l.alp ≡ alp_at l.line l.initial.alp;
  entries : l.entries.items ++ hand_out l.line l.alp.agent.steps
      ≡ l.initial.entries.items ++ hand_out l.line l.initial.alp.agent.steps;
  len : vec_len l.entries + length (hand_out l.line l.alp.agent.steps)
      ≡ vec_len l.initial.entries + length (hand_out l.line l.initial.alp.agent.steps);
  fits : vec_len l.entries + length (hand_out l.line l.alp.agent.steps) ≤ vec_capacity l.entries;
  room : vec_capacity l.initial.entries ≤ vec_capacity l.entries;
}

abbrev pub decreases-loop-entry : goal.decreases-loop-entry
decreases-loop-entry l = length (hand_out l.line l.alp.agent.steps)
