use Rattle.std.proofs.Common.{filter, ap}
use Rattle.pm_periods.specs.Records.{is_seen, value_after}
use Rattle.pm_periods.specs.Rows.{put_key}
use Rattle.pm_periods.proofs.Ordered.{filter_in_order}
use Rattle.pm_periods.proofs.Sorting.{filter_one_agent, list_order}
use Rattle.pm_periods.proofs.laws.lists_have_value_order.Goals as goal

pub returns-clause-order : goal.returns-clause-order
returns-clause-order c o a = list_order c.args.parts.now.puts o a

pub returns-clause-value : goal.returns-clause-value
returns-clause-value c o a l =
    let r = c.args.parts.now in
    let seen = is_seen r.cuts l in
    ap (λ z. value_after z r.base) (list_order (filter seen r.puts) (filter_in_order put_key seen r.puts o) (filter_one_agent seen r.puts a))
