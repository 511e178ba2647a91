use Rattle.std.proofs.Common.{◌∙◌, ap, sym, set}
use Rattle.std.proofs.lemmas.List.Edits.{map_over_more}
use Rattle.pm_ranges.specs.Known.{trimmed}
use Rattle.pm_tables.proofs.port_row.PortRow.trim.Goals as goal

pub loop-bounds-preserved : goal.loop-bounds-preserved
loop-bounds-preserved c =
    ap (set c.loop-bounds.bounds-items c.loop-bounds.bounds-index)
    (c.trim.ensures ∙ ap (trimmed c.args.line) (sym c.bounds-item.is))
    ∙ map_over_more (trimmed c.args.line) c.deref_mut-bounds-items.result.now c.loop-bounds.bounds-items
    c.loop-bounds.bounds-index c.bounds-item.result c.loop-bounds-test.true c.loop-bounds.invariant c.bounds-item.is
