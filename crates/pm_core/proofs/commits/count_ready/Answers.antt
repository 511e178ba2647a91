use Rattle.std.proofs.Common.{◌≡◌, ◌+◌, ◌∙◌, ap, arith, length, sym, take, Some}
use Rattle.std.specs.Prelude.{slice_get}
use Rattle.std.proofs.lemmas.List.{length-append}
use Rattle.std.proofs.lemmas.Option.{slice_get-get_or}
use Rattle.pm_saved.specs.Steps.{hand_out}
use Rattle.pm_core.specs.Commits.{handed_by}
use Rattle.pm_core.proofs.Handing.{handed_few, handed_more}
use Rattle.pm_core.proofs.commits.count_ready.Goals as goal

pub overflow_add-count : goal.overflow_add-count
overflow_add-count c =
    let i = c.loop-alp.alp-index in
    let xs = c.args.alps.now in
    let v = c.alp-item.result in
    let at : slice_get xs i ≡ Some v = slice_get-get_or xs i v c.loop-alp-test.true ∙ ap Some (sym c.alp-item.is) in
    let steps = c.requires.steps i v at in
    let few = handed_few c.args.line v.agent.steps in
    omega (arith, steps, few, c.ready-count.ensures, c.loop-alp.invariant.low, c.loop-alp-test.true, c.requires.few)

pub loop-alp-preserved : goal.loop-alp-preserved
loop-alp-preserved c =
    let i = c.loop-alp.alp-index in
    let xs = c.args.alps.now in
    let v = c.alp-item.result in
    let at : slice_get xs i ≡ Some v = slice_get-get_or xs i v c.loop-alp-test.true ∙ ap Some (sym c.alp-item.is) in
    let steps = c.requires.steps i v at in
    let few = handed_few c.args.line v.agent.steps in
    let more : length (handed_by c.args.line (take (i + 1) xs))
    ≡ length (handed_by c.args.line (take i xs)) + length (hand_out c.args.line v.agent.steps) =
    ap length (handed_more c.args.line xs i v c.loop-alp-test.true c.alp-item.is)
    ∙ length-append (handed_by c.args.line (take i xs)) (hand_out c.args.line v.agent.steps) in
    record {
      counted = omega (arith, more, c.ready-count.ensures, c.loop-alp.invariant.counted);
      low = omega (arith, steps, few, c.ready-count.ensures, c.loop-alp.invariant.low);
    }
