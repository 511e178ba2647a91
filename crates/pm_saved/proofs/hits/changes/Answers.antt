use Rattle.std.proofs.Common.{ap, ◌∙◌, sym, not}
use Rattle.pm_saved.specs.Inner.{same_hit}
use Rattle.pm_saved.proofs.HitLemmas.{answer-changes}
use Rattle.pm_saved.proofs.hits.changes.Goals as goal

pub returns : goal.returns
returns c =
    ap not (c.is_same_hit.ensures ∙ (ap (same_hit c.args.hit.hit) c.hit_of.ensures
    ∙ sym (answer-changes c.args.hit c.args.hits.now c.requires)))
