use Rattle.std.proofs.Common.{◌≡◌, ◌+◌, ◌∷◌, drop, length, arith, ap, sym, ◌∙◌}
use Rattle.std.specs.Option.{option_to_list}
use Rattle.std.proofs.lemmas.List.{drop_more, length-append}
use Rattle.pm_periods.specs.Laid.{puts_of, reads_of}
use Rattle.pm_periods.proofs.record.periods_kept.Goals as goal

pub loop-h-preserved : goal.loop-h-preserved
loop-h-preserved c =
    let hs = c.args.periods.now in
    let i = c.loop-h.h-index in
    let h = c.h-item.result in
    let tail = drop (i + 1) hs in
    let rest : drop i hs ≡ h ∷ tail = drop_more hs i h c.loop-h-test.true ∙ ap (λ z. z ∷ tail) (sym c.h-item.is) in
    let puts = ap (λ z. length (puts_of z)) rest ∙ length-append (option_to_list h.put) (puts_of tail) in
    let reads = ap (λ z. length (reads_of z)) rest ∙ length-append h.reads (reads_of tail) in
    let inv = c.loop-h.invariant in
    let one = c.period_kept.ensures in
    let added = c.saturating_add-kept.ensures in
    let is = inv.1 in
    let sum = inv.2 in
    (inv.0 + (length (option_to_list h.put) + length h.reads), grind (arith, is, one, added), omega (arith, sum, puts, reads))
