use Rattle.pm_clp.proofs.Leaves.{grew_did}
use Rattle.pm_clp.proofs.Steps.{on_ok}
use Rattle.pm_clp.proofs.clp.Clp.on_grow.Goals as goal

pub returns-clause-did : goal.returns-clause-did
returns-clause-did c =
    on_ok c.tell.result
    (λ told. grew_did c.args.self.now c.grow_bound.new.self c.catch_up.new.self c.tell.new.self c.args.out.now
    c.catch_up.new.out c.tell.new.out c.args.port c.args.class c.args.from c.args.until c.args.window
    c.in_ok-grow_bound.ensures.did c.in_ok-catch_up.ensures.did told)
    c.tell.ensures.did
