use Rattle.std.proofs.Common.{◌≡◌, ap, ◌∙◌, slice_get}
use Rattle.pm_saved.specs.Inner.{only}
use Rattle.pm_saved.proofs.HitLemmas.{kept_for-place}
use Rattle.pm_saved.proofs.hits.kept_for.Goals as goal

pub returns : goal.returns
returns c =
    c.only.ensures ∙ (ap (only c.args.var) (c.hit_at.ensures
    ∙ ap (slice_get c.args.hits.now) c.place_of.ensures.place)
    ∙ kept_for-place c.args.var c.args.hits.now c.requires)
