use Rattle.std.proofs.Common.{◌≡◌, ◌+◌, ◌<◌, ◌^◌, ◌∷◌, drop, length, arith, ap, sym, ◌∙◌, subst}
use Rattle.std.proofs.lemmas.List.{drop_all, drop_more}
use Rattle.pm_base.specs.declared.rows.ReadRow.{ReadRow}
use Rattle.pm_periods.specs.Laid.{reads_of}
use Rattle.pm_periods.specs.Records.{HaveTurns}
use Rattle.pm_periods.proofs.Laid.{each_join}
use Rattle.pm_periods.proofs.tests.have_all_turns.Goals as goal

pub loop-h-preserved : goal.loop-h-preserved
loop-h-preserved c t =
    let hs = c.args.periods.now in
    let i = c.loop-h.h-index in
    let h = c.h-item.result in
    let tail = drop (i + 1) hs in
    let rest : drop i hs ≡ h ∷ tail = drop_more hs i h c.loop-h-test.true ∙ ap (λ z. z ∷ tail) (sym c.h-item.is) in
    let here = subst HaveTurns c.as_slice.ensures (c.have_turns.ensures c.if-not-have_turns.false) in
    c.loop-h.invariant (subst (λ z. HaveTurns (reads_of z)) (sym rest) (each_join (λ (q : ReadRow). q.turn < 2 ^ 63) h.reads (reads_of tail) here t))

pub returns : goal.returns
returns c t = c.loop-h.invariant (subst (λ z. HaveTurns (reads_of z)) (sym (drop_all c.loop-h.h-index c.args.periods.now (omega arith))) tt)
