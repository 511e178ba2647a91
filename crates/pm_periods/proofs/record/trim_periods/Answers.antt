use Rattle.std.proofs.Common.{◌-◌, ◌<◌, ◌≡◌, ◌++◌, ◌∷◌, true, false, length, get_or, take, drop, arith, ap, sym, ◌∙◌, subst}
use Rattle.std.specs.List.{AllByRecursion}
use Rattle.pm_periods.specs.Laid.{begins_below, trimmed_period}
use Rattle.pm_periods.specs.declared.held.Held.{Held}
use Rattle.pm_periods.proofs.Laid.{no_period, opened, reached}
use Rattle.pm_periods.proofs.record.trim_periods.Goals as goal

pub returns : goal.returns
returns c =
    let hs = c.args.periods.now.items in
    let l = c.args.line in
    let n = c.reach-at.result in
    let after = subst (λ z. AllByRecursion (λ (h : Held). begins_below l h.put ≡ false) (drop n z)) c.as_slice.ensures.value c.reach-at.ensures.after in
    let before = subst (λ z. AllByRecursion (λ (h : Held). begins_below l h.put ≡ true) (take n z)) c.as_slice.ensures.value c.reach-at.ensures.before in
    let e = reached l hs n c.requires.begins after in
    let low : n - 1 < length hs = omega (arith, e, ap length c.as_slice.ensures.value, c.reach-at.ensures.within) in
    let d = no_period in
    let parts = opened d.value hs (n - 1) d d d low in
    record {
      before = take (n - 1) hs;
      period = get_or hs (n - 1) d;
      behind = drop n hs;
      was = parts.0 ∙ ap (λ m. take (n - 1) hs ++ get_or hs (n - 1) d ∷ drop m hs) e;
      below = subst (AllByRecursion (λ (h : Held). begins_below l h.put ≡ true)) (ap (λ m. take m hs) (sym e) ∙ parts.3) before;
      later = after;
      is = c.drop_first.ensures d ∙ ap (λ m. trimmed_period l (get_or hs (n - 1) d) ∷ drop m hs) e;
    }
