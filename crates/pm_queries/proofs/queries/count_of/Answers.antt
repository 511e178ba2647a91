use Rattle.std.proofs.Common.{◌≡◌, ◌∙◌, ◌+◌, ◌-◌, ◌^◌, ◌≤◌, length, drop, min, arith, ap, sym}
use Rattle.pm_queries.specs.Laid.{merged}
use Rattle.pm_queries.proofs.Counts.{counted_at, counted_end}
use Rattle.pm_queries.proofs.queries.count_of.Goals as goal

pub loop-rows-preserved : goal.loop-rows-preserved
loop-rows-preserved c =
    let at = c.loop-rows.rows-index in
    let classes = c.args.classes.now in
    record {
      few = omega arith;
      count =
          ap (λ z. min (z + length (merged (drop (at + 1) classes))) (2 ^ 64 - 1))
          (c.saturating_add-count.ensures ∙ ap (λ z. min (c.loop-rows.count + length z) (2 ^ 64 - 1)) c.as_slice.ensures)
          ∙ counted_at c.loop-rows.count (2 ^ 64 - 1) _ classes at c.rows-item.result (omega arith) c.rows-item.is c.loop-rows.invariant.count;
    }

pub returns : goal.returns
returns c = counted_end c.loop-rows.count (2 ^ 64 - 1) _ c.args.classes.now c.loop-rows.rows-index (omega arith) c.loop-rows.invariant.few c.loop-rows.invariant.count
