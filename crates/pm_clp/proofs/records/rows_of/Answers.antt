use Rattle.std.proofs.Common.{◌≡◌, ◌∙◌, ◌+◌, ◌-◌, ◌^◌, ◌<◌, ◌≤◌, length, get_or, map, min, refl, arith, ap, None}
use Rattle.std.proofs.lemmas.List.{get_or_default}
use Rattle.pm_clp.specs.Kept.{parts_in}
use Rattle.pm_clp.specs.Sizes.{rows_in, rows_of}
use Rattle.pm_clp.proofs.Counting.{rest, rest-counted, rest-none, rest-skip}
use Rattle.pm_clp.proofs.records.rows_of.Goals as goal

pub loop-at-init : goal.loop-at-init
loop-at-init c =
    let each = c.args.each.now in
    let at = c.next-at.result in
    let high : at ≤ length each = c.next-at.ensures.until in
    let start : rest 0 each ≡ rows_of (map parts_in each) = refl in
    let skip : rest 0 each ≡ rest at each = rest-skip 0 at each (omega arith) high (λ v a b. c.requires.bare v (c.next-at.ensures.least v a b)) in
    record { few = omega arith; within = high; rows = omega (arith, start, skip) }

pub loop-at-preserved : goal.loop-at-preserved
loop-at-preserved c =
    let each = c.args.each.now in
    let at = c.loop-at.at in
    let next = c.next-at-in-loop-at.result in
    let low : at < length each = omega arith in
    let up : at + 1 ≤ next = c.next-at-in-loop-at.ensures.from in
    let high : next ≤ length each = c.next-at-in-loop-at.ensures.until in
    let count : c.rows_in.result ≡ min (rows_in (parts_in (get_or each at None))) (2 ^ 64 - 1) =
    c.rows_in.ensures ∙ ap (λ z. min (rows_in (parts_in z)) (2 ^ 64 - 1)) (c.index-each-at.is ∙ get_or_default each at c.index-each-at.result None low) in
    let all = rest-counted each at next c.rows_in.result c.loop-at.rows (2 ^ 64 - 1) _ c.loop-at.invariant.rows low count up high
    (λ v a b. c.requires.bare v (c.next-at-in-loop-at.ensures.least v a b)) in
    record { few = omega arith; within = high; rows = ap (λ z. min (z + rest next each) (2 ^ 64 - 1)) c.saturating_add-rows.ensures ∙ all }

pub returns : goal.returns
returns c = rest-none c.args.each.now c.loop-at.at c.loop-at.rows (2 ^ 64 - 1) _ c.loop-at.invariant.rows (omega arith) c.loop-at.invariant.few
