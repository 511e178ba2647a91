use Rattle.std.proofs.Common.{length}
use Rattle.pm_plan.proofs.Leasts.{LeastFrom}
use Rattle.pm_resume.specs.Cuts.{is_retired}
use Rattle.pm_resume.proofs.cutting.first_retired.Given as goal

abbrev pub invariant-loop-agent : goal.invariant-loop-agent
invariant-loop-agent l = LeastFrom (is_retired l.seq.state) (length l.seq.state.agents) l.agent
