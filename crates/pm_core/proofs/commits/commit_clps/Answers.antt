use Rattle.std.proofs.Common.{◌∙◌, ap, sym, set}
use Rattle.std.proofs.lemmas.List.Edits.{map_over_more}
use Rattle.pm_core.specs.Commits.{clp_at}
use Rattle.pm_core.proofs.commits.commit_clps.Goals as goal

pub loop-clp-preserved : goal.loop-clp-preserved
loop-clp-preserved c =
    ap (set c.loop-clp.clp-items c.loop-clp.clp-index)
    (c.commit.ensures ∙ ap (clp_at c.args.line) (sym c.clp-item.is))
    ∙ map_over_more (clp_at c.args.line) c.deref_mut-clp-items.result.now c.loop-clp.clp-items
    c.loop-clp.clp-index c.clp-item.result c.loop-clp-test.true c.loop-clp.invariant c.clp-item.is
