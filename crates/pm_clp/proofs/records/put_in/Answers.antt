use Rattle.std.proofs.Common.{Some, subst}
use Rattle.pm_clp.specs.Kept.{IsRecordOf}
use Rattle.pm_clp.proofs.Keeping.{put_kept}
use Rattle.pm_clp.proofs.records.put_in.Goals as goal

pub returns-in-Some-clause-turns : goal.returns-in-Some-clause-turns
returns-in-Some-clause-turns c v n o =
    put_kept c.put.result n v c.args.row c.in-Some.record c.put.new.self c.put.ensures.ok c.put.ensures.err
    (subst (IsRecordOf n v) c.in-Some.is o)
