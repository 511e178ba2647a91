use Rattle.std.proofs.Common.{◌++◌, List, map, take, arith, ap, sym, ◌∙◌}
use Rattle.pm_history.specs.Stories.{Story}
use Rattle.pm_history.specs.Merged.{Tagged, tags, tag}
use Rattle.pm_history.proofs.Orders.{tags_more}
use Rattle.pm_history.proofs.merging.gather.Goals as goal

pub loop-k-preserved : goal.loop-k-preserved
loop-k-preserved c =
    let h : Story = c.index-histories-k.result in
    let had : List Tagged = tags (take c.loop-k.k c.args.histories.now) in
    c.in_ok-gather_one.ensures ∙ ap (λ (z : List Tagged). z ++ map (tag h.process) h.heard) c.loop-k.invariant
    ∙ ap (λ (z : Story). had ++ map (tag z.process) z.heard) c.index-histories-k.is
    ∙ sym (tags_more c.args.histories.now c.loop-k.k h (omega (arith, c.loop-k-test.true, c.loop-k.auto.k-end)))
