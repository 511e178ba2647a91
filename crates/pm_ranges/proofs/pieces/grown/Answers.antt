use Rattle.std.proofs.Common.{◌∙◌, sym, subst}
use Rattle.pm_ranges.specs.Laid.{Rising, AllUpright}
use Rattle.pm_ranges.proofs.Laying.{rising-at, upright-parts}
use Rattle.pm_ranges.proofs.pieces.grown.Goals as goal

pub parted_at-requires-2 : goal.parted_at-requires-2
parted_at-requires-2 c = subst Rising (sym (c.as_slice.ensures.value ∙ c.in_ok-first.ensures)) (rising-at c.args.when.now.from c.args.pieces.now c.args.rest.now c.requires.rising)

pub raise-requires-clause-upright : goal.raise-requires-clause-upright
raise-requires-clause-upright c =
    let first = upright-parts c.args.when.now.from c.args.pieces.now c.args.rest.now c.requires.upright c.requires.rest in
    let again = subst AllUpright (sym (c.as_slice.ensures.value ∙ c.in_ok-first.ensures)) first in
    subst AllUpright (sym c.in_ok-pieces.ensures) (upright-parts c.args.when.now.until c.as_slice.result.now c.args.rest.now again c.requires.rest)
