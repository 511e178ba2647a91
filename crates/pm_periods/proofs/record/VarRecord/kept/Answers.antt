use Rattle.std.proofs.Common.{◌+◌, ◌++◌, [], ◌-◌, ◌^◌, min, length, arith, ap, ◌∙◌}
use Rattle.std.proofs.lemmas.List.{length-append, length-map}
use Rattle.pm_periods.specs.Laid.{cut_of, puts_of, reads_of, withdrawn_of}
use Rattle.pm_periods.specs.Records.{Record, kept_of}
use Rattle.pm_periods.specs.Rows.{put_key}
use Rattle.pm_periods.proofs.Sorting.{length-add_rows}
use Rattle.pm_periods.proofs.record.VarRecord.kept.Goals as goal

pub returns : goal.returns
returns c =
    let hs = c.self.inside.periods.items in
    let ws = c.self.inside.withdrawals.items in
    let puts = length-add_rows put_key [] (puts_of hs ++ withdrawn_of ws) in
    let both = length-append (puts_of hs) (withdrawn_of ws) in
    let cuts = length-map ws cut_of in
    let live = c.periods_kept-periods.ensures ∙ ap (λ z. min (length (puts_of z) + length (reads_of z)) (2 ^ 64 - 1)) c.as_slice.ensures.value in
    let dead = c.withdrawals_kept-withdrawals.ensures ∙ ap (λ z. min (length (withdrawn_of z) + length z) (2 ^ 64 - 1)) c.as_slice-2.ensures.value in
    let sum = c.saturating_add.ensures in
    let kept = ap (λ (z : Record). kept_of z.parts) c.self.view_is in
    grind (arith, puts, both, cuts, live, dead, sum, kept)
