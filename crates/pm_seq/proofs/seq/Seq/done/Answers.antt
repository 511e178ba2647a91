use Rattle.pm_seq.proofs.QueueLaws.{empty-retired, least-empty, retired-empty}
use Rattle.pm_seq.proofs.Steps.{left-none, none-left}
use Rattle.pm_seq.proofs.seq.Seq.done.Goals as goal

pub returns-clause-retired : goal.returns-clause-retired
returns-clause-retired c =
    let agents = c.self.inside.state.agents in
    let due = c.self.inside.due in
    rw (← c.self.view_is)
    (λ h. empty-retired agents due c.self.invariant.queue (c.is_empty.ensures.0 h), λ all. c.is_empty.ensures.1 (retired-empty agents due c.self.invariant.queue all))

pub returns-clause-left : goal.returns-clause-left
returns-clause-left c =
    let plan = c.self.inside.plan.now in
    let s = c.self.inside.state in
    let due = c.self.inside.due in
    let ok = c.self.invariant.timely in
    rw (← c.self.view_is) (
      λ h. none-left plan s (least-empty s.agents due c.self.invariant.queue (c.is_empty.ensures.0 h)),
      λ e. c.is_empty.ensures.1 (retired-empty s.agents due c.self.invariant.queue (left-none plan s ok e)),
    )
