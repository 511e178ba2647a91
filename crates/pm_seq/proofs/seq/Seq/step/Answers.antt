use Rattle.pm_seq.proofs.Steps.{turned-left, turned-retired}
use Rattle.pm_seq.proofs.seq.Seq.step.Goals as goal

pub returns-clause-retired : goal.returns-clause-retired
returns-clause-retired c =
    rw (← c.self.view_is) (turned-retired c.self.inside.plan.now c.self.inside.state _ c.turn.result c.self.invariant.timely c.turn.ensures.moved)

pub returns-clause-left : goal.returns-clause-left
returns-clause-left c =
    rw (← c.self.view_is) (turned-left c.self.inside.plan.now c.self.inside.state _ c.turn.result c.self.invariant.timely c.turn.ensures.moved)
