use Rattle.pm_alp.proofs.Going.{ready-begun}
use Rattle.pm_alp.proofs.takes.on_wake.Goals as goal

pub go_on-requires-clause-ready : goal.go_on-requires-clause-ready
go_on-requires-clause-ready c =
    ready-begun c.args.state.now c.begin.new.self c.clear.new.self c.in-Some.wake c.requires.ready c.in-Some.is
    c.in_ok-begin-in-Some.ensures.ok c.clear.ensures
