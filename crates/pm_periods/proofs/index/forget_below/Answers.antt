use Rattle.std.proofs.Common.{not, false, rules, ap, ◌∙◌}
use Rattle.std.specs.BTreeMap.{is_at}
use Rattle.std.specs.Map.{lookup}
use Rattle.std.proofs.lemmas.Map.Keys.{IsDistinct-from_sorted}
use Rattle.std.proofs.lemmas.Map.Made.{filter_same_pairs}
use Rattle.pm_base.specs.Stamps.{is_below}
use Rattle.pm_periods.specs.Known.{num_cmp}
use Rattle.pm_periods.proofs.Known.{look-kept, or_false}
use Rattle.pm_periods.proofs.index.forget_below.Goals as goal

pub returns : goal.returns
returns c n =
    let old = c.args.known.now.entries in
    let l = c.args.line in
    let kept = filter_same_pairs _ (λ e. not (is_below e.1 l)) _
    (λ k v b w f' t. search rules) _ _ c.retain.ensures.filtered in
    ap (lookup (is_at (num_cmp n))) kept
    ∙ look-kept n l false (λ e. not (is_below e.1 l)) (λ e h. or_false (not (is_below e.1 l))) old
    (IsDistinct-from_sorted num_cmp _ c.retain.ensures.was_ordered)
