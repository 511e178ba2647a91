use Rattle.std.proofs.Common.{◌≡◌, ◌-◌, ◌<◌, ◌++◌, ◌∷◌, [], true, false, length, get_or, take, drop, arith, ap, ap₂, sym, ◌∙◌, subst}
use Rattle.std.specs.List.{All, AllByRecursion}
use Rattle.std.proofs.lemmas.List.{get_or_default}
use Rattle.pm_base.specs.declared.stamp.Line.TheVariants as line
use Rattle.pm_periods.specs.Laid.{begins_below, with_reads}
use Rattle.pm_periods.specs.Places.{IsAfter, IsUpTo}
use Rattle.pm_periods.specs.Rows.{IsInOrder, read_key}
use Rattle.pm_periods.specs.declared.held.Held.{Held}
use Rattle.pm_periods.proofs.Laid.{opened, order-at, reached, set_at_place}
use Rattle.pm_periods.proofs.Ordered.{add_row_at}
use Rattle.pm_periods.proofs.record.add_read.Goals as goal

pub place-place-requires : goal.place-place-requires
place-place-requires c =
    let hs = c.args.periods.now.items in
    let n = c.reach-at.result in
    let after = subst (λ z. AllByRecursion (λ (h : Held). begins_below (line.At c.args.row.stamp) h.put ≡ false) (drop n z)) c.as_slice.ensures.value c.reach-at.ensures.after in
    let e = reached (line.At c.args.row.stamp) hs n c.requires.begins after in
    let low : n - 1 < length hs = omega (arith, e, ap length c.as_slice.ensures.value, c.reach-at.ensures.within) in
    subst (IsInOrder read_key) (sym (c.as_slice-2.ensures ∙ ap (λ (z : Held). z.reads) c.index.ensures)) (order-at hs (n - 1) _ low c.requires.reads)

pub returns-clause-ok : goal.returns-clause-ok
returns-clause-ok c =
    let hs = c.args.periods.now.items in
    let row = c.args.row in
    let l = line.At row.stamp in
    let n = c.reach-at.result in
    let after = subst (λ z. AllByRecursion (λ (h : Held). begins_below l h.put ≡ false) (drop n z)) c.as_slice.ensures.value c.reach-at.ensures.after in
    let before = subst (λ z. AllByRecursion (λ (h : Held). begins_below l h.put ≡ true) (take n z)) c.as_slice.ensures.value c.reach-at.ensures.before in
    let e = reached l hs n c.requires.begins after in
    let low : n - 1 < length hs = omega (arith, e, ap length c.as_slice.ensures.value, c.reach-at.ensures.within) in
    let h : Held = c.index_mut.result.now in
    let is_h : h ≡ get_or hs (n - 1) h = c.index_mut.ensures.value in
    let parts = opened h.value hs (n - 1) h h h low in
    let at = c.place-place.result in
    let looked : c.as_slice-2.result.now ≡ (get_or hs (n - 1) c.index.result.now).reads = c.as_slice-2.ensures ∙ ap (λ (z : Held). z.reads) c.index.ensures in
    let same : c.as_slice-2.result.now ≡ h.reads = looked ∙ (ap (λ (z : Held). z.reads) (get_or_default hs (n - 1) c.index.result.now h low) ∙ ap (λ (z : Held). z.reads) (sym is_h)) in
    let up_to = subst (λ z. All (IsUpTo read_key z) (take at h.reads)) c.key.ensures (subst (λ z. All (IsUpTo read_key c.key.result) (take at z)) same c.place-place.ensures.before) in
    let behind = subst (λ z. All (IsAfter read_key z) (drop at h.reads)) c.key.ensures (subst (λ z. All (IsAfter read_key c.key.result) (drop at z)) same c.place-place.ensures.after) in
    let added = c.in_ok-insert.ensures.ok ∙ sym (add_row_at read_key row at h.reads up_to behind) in
    record {
      before = take (n - 1) hs;
      period = h;
      behind = drop n hs;
      was = parts.0 ∙ ap₂ (λ y m. take (n - 1) hs ++ y ∷ drop m hs) (sym is_h) e;
      seen = subst (AllByRecursion (λ (k : Held). begins_below l k.put ≡ true)) (ap (λ m. take m hs) (sym e) ∙ (parts.3 ∙ ap (λ y. take (n - 1) hs ++ y ∷ []) (sym is_h))) before;
      later = after;
      is = set_at_place hs (n - 1) _ low ∙ ap₂ (λ z m. take (n - 1) hs ++ with_reads z h ∷ drop m hs) added e;
    }
