use Rattle.std.proofs.Common.{◌≡◌, ◌≤◌, ◌+◌, ◌-◌, length}
use Rattle.pm_model.specs.Runs.{rest, sequential_run}
use Rattle.pm_place.specs.Accesses.{accesses_in, run_accesses}
use Rattle.pm_place.specs.Tallies.{no_counts, noted_all}
use Rattle.pm_place.proofs.tally.tally.Given as goal

abbrev pub invariant-steps : goal.invariant-steps
invariant-steps l = record {
  plan : l.seq.plan ≡ l.plan;
  counts : noted_all (accesses_in l.plan (rest l.plan l.seq.state)) l.rows.items ≡ noted_all (run_accesses l.plan) (no_counts l.plan);
  steps : l.steps + length (rest l.plan l.seq.state) ≡ length (sequential_run l.plan);
  most : l.steps ≤ l.budget;
}

abbrev pub decreases-steps : goal.decreases-steps
decreases-steps l = l.budget - l.steps
