use Rattle.pm_clp.proofs.Acts.{registered_did}
use Rattle.pm_clp.proofs.Steps.{on_ok}
use Rattle.pm_clp.proofs.clp.Clp.register.Goals as goal

pub returns-clause-did : goal.returns-clause-did
returns-clause-did c =
    on_ok c.add_query.result
    (λ added. registered_did c.args.self.now c.add_query.new.self c.args.out.now c.forward.new.out c.args.from
    c.args.num c.args.stamp c.args.class
    c.args.window c.in_ok-waits.waits c.in_ok-sent.sent c.in_ok-waits.ensures c.in_ok-sent.ensures
    (c.in_ok-forward.ensures.sent c.args.self.now.hub) added)
    c.add_query.ensures.did
