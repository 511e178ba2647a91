use Rattle.pm_clp.proofs.Acts.{read_did}
use Rattle.pm_clp.proofs.Steps.{on_ok}
use Rattle.pm_clp.proofs.clp.Clp.read_here.Goals as goal

pub returns-clause-did : goal.returns-clause-did
returns-clause-did c =
    on_ok c.counting.result
    (λ counted. read_did c.args.self.now c.record_watch.new.self c.counting.new.self c.args.out.now
    c.record_watch.new.out c.counting.new.out
    c.args.from c.args.var c.args.num c.args.stamp c.whole.result c.requires.here c.whole.ensures.value
    c.in_ok-record_watch.ensures.did counted)
    c.counting.ensures.did
