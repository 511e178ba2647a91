use Rattle.std.proofs.Common.{◌≡◌, ◌+◌, ◌++◌, ◌∙◌, ap, append_assoc, arith, drop, get_or, length, set, sym, take}
use Rattle.std.proofs.lemmas.List.{length-append}
use Rattle.std.proofs.lemmas.List.Edits.{map_over_more}
use Rattle.pm_saved.specs.Steps.{hand_out}
use Rattle.pm_alp.specs.Views.{Process}
use Rattle.pm_core.specs.Commits.{alp_at, handed_by}
use Rattle.pm_core.proofs.Handing.{handed_left, handed_more, item_left}
use Rattle.pm_core.proofs.commits.commit_alps.Goals as goal

pub loop-alp-preserved : goal.loop-alp-preserved
loop-alp-preserved c =
    let i = c.loop-alp.alp-index in
    let xs = c.deref_mut-alp-items.result.now in
    let v = c.alp-item.result in
    let lt = c.loop-alp-test.true in
    let old = c.args.entries.now.items in
    let is : v ≡ get_or xs i v =
    c.alp-item.is ∙ (ap (λ z. get_or z i v) c.loop-alp.invariant.processes ∙ item_left (alp_at c.args.line) xs i v lt) in
    let left : length (handed_by c.args.line (drop i xs))
    ≡ length (hand_out c.args.line v.agent.steps) + length (handed_by c.args.line (drop (i + 1) xs)) =
    ap length (handed_left c.args.line xs i v lt is)
    ∙ length-append (hand_out c.args.line v.agent.steps) (handed_by c.args.line (drop (i + 1) xs)) in
    let same = ap (λ (z : Process). length (hand_out c.args.line z.agent.steps)) c.alp-item.is in
    record {
      processes = ap (set c.loop-alp.alp-items i)
          (c.give_out.ensures.process ∙ ap (alp_at c.args.line) (sym c.alp-item.is))
          ∙ map_over_more (alp_at c.args.line) xs c.loop-alp.alp-items i v lt c.loop-alp.invariant.processes c.alp-item.is;
      entries = c.give_out.ensures.entries
          ∙ (ap (λ (z : Process). c.loop-alp.entries.items ++ hand_out c.args.line z.agent.steps) (sym c.alp-item.is)
          ∙ (ap (λ z. z ++ hand_out c.args.line v.agent.steps) c.loop-alp.invariant.entries
          ∙ (append_assoc old (handed_by c.args.line (take i xs)) (hand_out c.args.line v.agent.steps)
          ∙ ap (λ z. old ++ z) (sym (handed_more c.args.line xs i v lt is)))));
      room = omega (arith, left, same, c.give_out.ensures.len, c.give_out.ensures.room, c.loop-alp.invariant.room);
    }
