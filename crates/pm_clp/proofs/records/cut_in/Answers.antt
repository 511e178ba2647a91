use Rattle.std.proofs.Common.{Some, subst}
use Rattle.pm_clp.specs.Kept.{IsRecordOf}
use Rattle.pm_clp.proofs.Keeping.{cut_kept}
use Rattle.pm_clp.proofs.records.cut_in.Goals as goal

pub returns-in-Some-clause-turns : goal.returns-in-Some-clause-turns
returns-in-Some-clause-turns c v n o =
    cut_kept c.cut.result n v (record { num = c.args.row.num; stamp = c.args.row.stamp }) c.in-Some.record c.cut.new.self c.cut.ensures.ok c.cut.ensures.err
    (subst (IsRecordOf n v) c.in-Some.is o)
