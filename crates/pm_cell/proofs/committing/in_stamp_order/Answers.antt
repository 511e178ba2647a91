use Rattle.std.proofs.Common.{rules}
use Rattle.std.proofs.lemmas.List.Sorted.{answers_always}
use Rattle.pm_base.specs.declared.rows.Entry.{Entry}
use Rattle.pm_trace.proofs.Merging.{in-order, once-moved}
use Rattle.pm_cell.proofs.committing.in_stamp_order.Goals as goal

pub returns-clause-order : goal.returns-clause-order
returns-clause-order c =
    rw c.from_vec.ensures
    (in-order c.sort_unstable_by_key.new.self.items
    (c.sort_unstable_by_key.ensures.sorted (λ (e : Entry). e.stamp) (answers_always _ _ _ (λ f a r q k. search rules)))
    (once-moved c.args.entries.items c.sort_unstable_by_key.new.self.items c.sort_unstable_by_key.ensures.permutation
    c.requires))
