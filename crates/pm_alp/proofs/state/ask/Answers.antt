use Rattle.pm_saved.proofs.Failing.{on_ok}
use Rattle.pm_alp.proofs.Going.{asks}
use Rattle.pm_alp.proofs.state.ask.Goals as goal

pub returns-clause-moved : goal.returns-clause-moved
returns-clause-moved c = on_ok c.push.result _ _
    (λ sent. λ front last e.
    asks c.args.agent c.args.stamp c.args.query c.args.state.now c.ask.new.self c.args.out.now c.push.new.self
    front last c.requires.ready e (c.in_ok-ask.ensures.ok front last e) sent)
    c.push.ensures.ok
