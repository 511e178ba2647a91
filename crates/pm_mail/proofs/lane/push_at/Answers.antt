use Rattle.std.proofs.Common.{ap}
use Rattle.pm_mail.proofs.Places.{lanes-posted, lanes-same, on_err, with_messages}
use Rattle.pm_mail.proofs.lane.push_at.Goals as goal

pub returns-in_err-push_back-clause-err : goal.returns-in_err-push_back-clause-err
returns-in_err-push_back-clause-err c =
    let x = c.index_mut.result.now in
    on_err c.from_residual.result _
    (lanes-same c.args.at c.args.lanes.now.items x _ c.requires c.index_mut.ensures.value
    (ap (with_messages x.ends) c.in_err-push_back.ensures.items))

pub returns-clause-ok : goal.returns-clause-ok
returns-clause-ok c =
    let x = c.index_mut.result.now in
    lanes-posted c.args.at c.args.message c.args.lanes.now.items x _ c.requires c.index_mut.ensures.value
    (ap (with_messages x.ends) c.in_ok-push_back.ensures.items)
