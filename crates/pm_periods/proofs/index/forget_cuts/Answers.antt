use Rattle.std.proofs.Common.{◌||◌, not, rules, ap, ◌∙◌}
use Rattle.std.specs.BTreeMap.{get, is_at}
use Rattle.std.specs.Option.{is_some}
use Rattle.std.specs.Map.{lookup}
use Rattle.std.proofs.lemmas.Map.Keys.{IsDistinct-from_sorted}
use Rattle.std.proofs.lemmas.Map.Made.{filter_same_pairs}
use Rattle.pm_base.specs.Stamps.{is_below}
use Rattle.pm_periods.specs.Known.{num_cmp}
use Rattle.pm_periods.proofs.Keys.{num_eq-same}
use Rattle.pm_periods.proofs.Known.{look-kept}
use Rattle.pm_periods.proofs.index.forget_cuts.Goals as goal

pub returns : goal.returns
returns c n =
    let old = c.args.cuts.now.entries in
    let l = c.args.line in
    let puts = c.args.puts.now in
    let kept = filter_same_pairs _ (λ e. not (is_below e.1 l) || is_some (get num_cmp puts e.0)) _
    (λ k v b w f' t. search rules) _ _ c.retain.ensures.filtered in
    ap (lookup (is_at (num_cmp n))) kept
    ∙ look-kept n l (is_some (get num_cmp puts n)) (λ e. not (is_below e.1 l) || is_some (get num_cmp puts e.0))
    (λ e h. ap (λ m. not (is_below e.1 l) || is_some (get num_cmp puts m)) (num_eq-same e.0 n h)) old
    (IsDistinct-from_sorted num_cmp _ c.retain.ensures.was_ordered)
