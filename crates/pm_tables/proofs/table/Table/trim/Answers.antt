use Rattle.std.proofs.Common.{◌∙◌, ap, sym, set, map}
use Rattle.std.proofs.lemmas.List.Edits.{map_over_more}
use Rattle.pm_ranges.specs.Known.{trimmed}
use Rattle.pm_tables.proofs.table.Table.trim.Goals as goal

pub loop-row-preserved : goal.loop-row-preserved
loop-row-preserved c =
    ap (set c.loop-row.row-items c.loop-row.row-index)
    (c.trim.ensures ∙ ap (map (trimmed c.args.line)) (sym c.row-item.is))
    ∙ map_over_more (map (trimmed c.args.line)) c.deref_mut-row-items.result.now c.loop-row.row-items
    c.loop-row.row-index c.row-item.result c.loop-row-test.true c.loop-row.invariant c.row-item.is
