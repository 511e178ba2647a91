use Rattle.std.proofs.Common.{◌≡◌, ◌∙◌, ◌≤◌, length, arith, ap₂, sym, subst}
use Rattle.pm_clp.specs.Kept.{kept_of}
use Rattle.pm_clp.specs.Laid.{AreLaid, in_set}
use Rattle.pm_clp.proofs.Keeping.{trim_view}
use Rattle.pm_clp.proofs.Slots.{trim-all, trim-laid}
use Rattle.pm_clp.proofs.records.Records.trim.Goals as goal

pub invariant_of-self : goal.invariant_of-self
invariant_of-self c =
    let i = c.self.inside in
    let j = c.loop-at.self-inside in
    let low : length i.each.items ≤ c.loop-at.at = omega arith in
    let laid = trim-laid c.args.line i.each.items j.each.items i.limit c.loop-at.at (in_set i.here) (in_set i.busy) (in_set j.busy) c.self.invariant c.loop-at.invariant.trimming low in
    subst (λ n. AreLaid j.each.items n (in_set j.here) (in_set j.busy)) (sym c.loop-at.invariant.limit)
    (subst (λ h. AreLaid j.each.items i.limit (in_set h) (in_set j.busy)) (sym c.loop-at.invariant.here) laid)

pub returns : goal.returns
returns c =
    let i = c.self.inside in
    let j = c.loop-at.self-inside in
    let low : length i.each.items ≤ c.loop-at.at = omega arith in
    ap₂ (λ a b. kept_of a b) (trim-all c.args.line i.each.items j.each.items (in_set i.busy) (in_set j.busy) c.loop-at.at c.loop-at.invariant.trimming low) c.loop-at.invariant.limit
    ∙ trim_view c.args.line i.each.items i.limit c.args.self.now c.self.view_is
