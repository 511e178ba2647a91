use Rattle.std.proofs.Common.{◌∙◌, ap, map, set, subst, sym}
use Rattle.pm_ends.specs.Sides.{inn_of}
use Rattle.pm_ends.specs.Trees.{IsTreeTo, winner}
use Rattle.pm_ends.proofs.Trees.{tree_to}
use Rattle.pm_ends.proofs.tree.put.Goals as goal

pub returns-clause-tree : goal.returns-clause-tree
returns-clause-tree c =
    let xs = map inn_of c.args.ends.now in
    let best = c.args.best.now.items in
    subst (λ w. IsTreeTo xs (set best c.args.at w) c.args.at)
    (sym (c.winner-first.ensures ∙ ap (λ l. winner xs l c.args.at) c.as_slice.ensures.value))
    (tree_to xs best c.args.at c.requires.at c.requires.but)
