use Rattle.std.proofs.Common.{Some, subst}
use Rattle.pm_clp.specs.Kept.{IsRecordOf}
use Rattle.pm_clp.proofs.Keeping.{watch_kept}
use Rattle.pm_clp.proofs.records.watch_in.Goals as goal

pub returns-in-Some-clause-turns : goal.returns-in-Some-clause-turns
returns-in-Some-clause-turns c v n e o =
    watch_kept c.watch.result n v c.args.num c.args.stamp c.args.window c.in-Some.record c.watch.new.self c.watch.ensures.ok
    c.watch.ensures.err c.records_are_settled.ensures.facts e (subst (IsRecordOf n v) c.in-Some.is o)
