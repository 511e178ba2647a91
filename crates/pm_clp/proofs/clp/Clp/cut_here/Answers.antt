use Rattle.pm_clp.proofs.Acts.{cut_did}
use Rattle.pm_clp.proofs.Steps.{on_ok}
use Rattle.pm_clp.proofs.clp.Clp.cut_here.Goals as goal

pub returns-clause-did : goal.returns-clause-did
returns-clause-did c =
    on_ok c.telling.result
    (λ told. cut_did c.args.self.now c.record_cut.new.self c.telling.new.self c.args.out.now c.record_cut.new.out
    c.telling.new.out
    c.args.var c.args.row c.requires.here c.in_ok-record_cut.ensures.did told)
    c.telling.ensures.did
