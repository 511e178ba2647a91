use Rattle.pm_history.proofs.Orders.{triples, triples_is, sorted_is}
use Rattle.pm_history.proofs.merging.order.Goals as goal

pub returns : goal.returns
returns c =
    sorted_is triples triples_is c.args.tagged.now.items c.sort_unstable.new.self.items
    c.sort_unstable.ensures.permutation c.sort_unstable.ensures.sorted
