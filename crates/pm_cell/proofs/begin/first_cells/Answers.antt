use Rattle.std.proofs.Common.{◌≡◌, ◌+◌, ◌<◌, ◌≢◌, ◌++◌, ◌∙◌, suc, [], ◌∷◌, ap, ap₂, append_assoc, arith, get_or, get_or-set_other, length, length-set, subst, sym}
use Rattle.std.specs.Vec.Iter.{into_iter_items}
use Rattle.pm_ends.specs.Numbers.{nth}
use Rattle.pm_plan.proofs.Valid.{valid_limits}
use Rattle.pm_cell.specs.Firsts.{first_held, first_helds}
use Rattle.pm_cell.specs.Helds.{IsProcessOf}
use Rattle.pm_ends.proofs.Lists.{any_same}
use Rattle.pm_cell.proofs.begin.first_cells.Goals as goal

pub first_cell-requires-clause-process : goal.first_cell-requires-clause-process
first_cell-requires-clause-process c =
    let n = c.loop-process.number in
    let x = c.in-Some.process in
    let e : n + 0 ≡ n = omega arith in
    subst (λ k. IsProcessOf c.args.plan.now k x) e
    (c.loop-process.invariant.all 0 x (ap (λ z. nth z 0) c.in-Some.ensures.steps.0))

pub overflow_add-number : goal.overflow_add-number
overflow_add-number c =
    let more = ap length c.in-Some.ensures.steps.0 in
    let h = valid_limits c.args.plan.now c.requires.valid in
    let a = h.agents in
    let b = h.clps in
    omega (arith, more, a, b, c.loop-process.invariant.count, c.requires.count)

pub loop-process-preserved : goal.loop-process-preserved
loop-process-preserved c =
    let p = c.args.plan.now in
    let n = c.loop-process.number in
    let x = c.in-Some.process in
    let rest = into_iter_items c.next.new.self in
    let I = c.args.inns.items in
    let O = c.args.outs.items in
    let more = ap length c.in-Some.ensures.steps.0 in
    let one : n + 1 ≡ suc n = omega arith in
    let r = c.in_ok-cell.cell in
    let low_inns : n < length c.loop-process.inns.items =
    omega (arith, more, c.loop-process.invariant.count, c.loop-process.invariant.inns_long, c.requires.inns) in
    let low_outs : n < length c.loop-process.outs.items =
    omega (arith, more, c.loop-process.invariant.count, c.loop-process.invariant.outs_long, c.requires.outs) in
    let inn : c.replace-inn.result ≡ get_or I n [] =
    c.replace-inn.ensures.value ∙ (c.index_mut.ensures.value
    ∙ (any_same c.loop-process.inns.items n c.index_mut.result.now [] low_inns
    ∙ c.loop-process.invariant.inns n (omega arith))) in
    let out : c.replace-out.result ≡ get_or O n [] =
    c.replace-out.ensures.value ∙ (c.index_mut-in-loop-process.ensures.value
    ∙ (any_same c.loop-process.outs.items n c.index_mut-in-loop-process.result.now [] low_outs
    ∙ c.loop-process.invariant.outs n (omega arith))) in
    record {
      cells = ap (λ z. z ++ first_helds p (n + 1) rest I O) c.in_ok-push.ensures.ok
          ∙ (append_assoc c.loop-process.cells (r ∷ []) (first_helds p (n + 1) rest I O)
          ∙ (ap (λ k. c.loop-process.cells ++ (r ∷ first_helds p k rest I O)) one
          ∙ (ap (λ z. c.loop-process.cells ++ (z ∷ first_helds p (suc n) rest I O))
          (c.in_ok-cell.ensures ∙ ap₂ (λ a b. first_held p n x a b) inn out)
          ∙ (ap (λ xs. c.loop-process.cells ++ first_helds p n xs I O) (sym c.in-Some.ensures.steps.0)
          ∙ c.loop-process.invariant.cells))));
      count = omega (arith, more, c.loop-process.invariant.count);
      all = λ k y e. (let f : n + suc k ≡ n + 1 + k = omega arith in
          subst (λ j. IsProcessOf p j y) f
          (c.loop-process.invariant.all (suc k) y (ap (λ z. nth z (suc k)) c.in-Some.ensures.steps.0 ∙ e)));
      inns = λ k le. (let ne : k ≢ n = λ e. absurd (omega (arith, e, le)) in
          get_or-set_other c.loop-process.inns.items n k _ [] ne ∙ c.loop-process.invariant.inns k (omega (arith, le)));
      outs = λ k le. (let ne : k ≢ n = λ e. absurd (omega (arith, e, le)) in
          get_or-set_other c.loop-process.outs.items n k _ [] ne ∙ c.loop-process.invariant.outs k (omega (arith, le)));
      inns_long = length-set c.loop-process.inns.items n _ ∙ c.loop-process.invariant.inns_long;
      outs_long = length-set c.loop-process.outs.items n _ ∙ c.loop-process.invariant.outs_long;
    }
