use Rattle.std.proofs.Common.{◌≡◌, ◌+◌, ◌<◌, ◌∙◌, [], ap, arith, get_or, length, length-set, set, suc, sym}
use Rattle.std.specs.Vec.Iter.{into_iter_items}
use Rattle.pm_cell.specs.Firsts.{all_woken, woken}
use Rattle.pm_ends.proofs.Lists.{any_same}
use Rattle.pm_cell.proofs.begin.send_wakes.Goals as goal

pub index_mut-requires : goal.index_mut-requires
index_mut-requires c =
    let more = ap length c.in-Some.ensures.steps.0 in
    omega (arith, more, c.loop-wake.outs.ok, c.loop-wake.invariant.count, c.loop-wake.invariant.long, c.requires.there)

pub loop-wake-preserved : goal.loop-wake-preserved
loop-wake-preserved c =
    let n = c.loop-wake.number in
    let outs = c.loop-wake.outs.items in
    let rest = into_iter_items c.next.new.self in
    let more = ap length c.in-Some.ensures.steps.0 in
    let low : n < length outs = omega (
      arith,
      more,
      c.loop-wake.invariant.count,
      c.loop-wake.invariant.long,
      c.requires.there,
      c.args.outs.now.ok,
    ) in
    let own = c.index_mut.result.now in
    let is : own ≡ get_or outs n [] = c.index_mut.ensures.value ∙ any_same outs n own [] low in
    let one : n + 1 ≡ suc n = omega arith in
    record {
      outs = ap (λ k. all_woken k rest (set outs n c.send_wake.new.outs)) one
          ∙ (ap (λ z. all_woken (suc n) rest (set outs n z))
          (c.in_ok-send_wake.ensures ∙ ap (woken n c.in-Some.wake) is)
          ∙ (ap (λ ws. all_woken n ws outs) (sym c.in-Some.ensures.steps.0) ∙ c.loop-wake.invariant.outs));
      count = omega (arith, more, c.loop-wake.invariant.count);
      long = length-set outs n c.send_wake.new.outs ∙ c.loop-wake.invariant.long;
    }
