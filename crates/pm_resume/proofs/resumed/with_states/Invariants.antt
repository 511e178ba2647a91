use Rattle.std.proofs.Common.{◌≡◌, ◌++◌, drop}
use Rattle.pm_resume.specs.Cuts.{pairwise, with_state}
use Rattle.pm_resume.proofs.resumed.with_states.Given as goal

abbrev pub invariant-loop-number : goal.invariant-loop-number
invariant-loop-number l =
    l.all ++ pairwise (with_state l.plan) (drop l.number l.plan.agents) (drop l.number l.seq.state.agents) ≡ pairwise (with_state l.plan) l.plan.agents l.seq.state.agents
