use Rattle.std.proofs.Common.{◌≡◌, ◌∙◌, ap, sym}
use Rattle.pm_model.proofs.Retired.{least-none}
use Rattle.pm_model.specs.Runs.{least_stamp}
use Rattle.pm_seq.proofs.Steps.{retired-none}
use Rattle.pm_seq.proofs.seq.Seq.next_stamp.Goals as goal

pub returns-clause-retired : goal.returns-clause-retired
returns-clause-retired c =
    let agents = c.self.inside.state.agents in
    let is : c.least_stamp.result ≡ least_stamp 0 agents = c.least_stamp.ensures ∙ ap (least_stamp 0) c.as_slice.ensures in
    rw (← c.self.view_is) (λ h. least-none 0 agents (sym is ∙ h), λ all. is ∙ retired-none agents all)
