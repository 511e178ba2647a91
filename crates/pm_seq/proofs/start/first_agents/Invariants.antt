use Rattle.std.proofs.Common.{◌≡◌, map, take}
use Rattle.pm_model.specs.Runs.{first_agent}
use Rattle.pm_seq.proofs.start.first_agents.Given as goal

abbrev pub invariant-loop-row : goal.invariant-loop-row
invariant-loop-row l = l.all ≡ map (first_agent l.plan) (take l.row-index l.row-items)
