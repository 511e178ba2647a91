use Rattle.std.proofs.Common.{◌≡◌, ◌++◌, ◌∷◌, [], map, arith, ap, ap₂, sym, ◌∙◌}
use Rattle.std.proofs.lemmas.List.{drop_all}
use Rattle.pm_periods.specs.Inner.{parts_of}
use Rattle.pm_periods.specs.Laid.{puts_of}
use Rattle.pm_periods.specs.Periods.{periods_from, value_after_start, values_at}
use Rattle.pm_periods.specs.Records.{Record}
use Rattle.pm_periods.specs.Walks.{alive, spans}
use Rattle.pm_periods.proofs.Ends.{periods_whole}
use Rattle.pm_periods.proofs.Spans.{periods_cover}
use Rattle.pm_periods.proofs.record.VarRecord.periods_from.Goals as goal

pub returns-clause-value : goal.returns-clause-value
returns-clause-value c =
    let i = c.self.inside in
    let hs = i.periods.items in
    let xs = c.deref-h-items.result.now in
    let none = drop_all c.loop-h.h-index xs (omega arith) in
    let base = ap (λ (z : Record). z.parts.base) c.self.view_is in
    let made : c.push.new.self ≡ periods_from (parts_of i) c.args.from =
    c.in_ok-push.ensures.ok ∙ (ap (λ z. c.loop-h.periods ++ z ∷ []) c.period.ensures
    ∙ (ap (λ z. c.loop-h.periods ++ spans c.loop-h.reached.from c.loop-h.reached.value (map alive (puts_of z))) (sym none) ∙ (sym c.loop-h.invariant.so_far
    ∙ (ap₂ (λ z y. spans c.args.from z (map alive (puts_of y))) (sym base) c.deref-h-items.ensures.value ∙ periods_whole hs i.withdrawals.items c.self.invariant.sound c.args.from)))) in
    made ∙ ap (λ (z : Record). periods_from z.parts c.args.from) c.self.view_is

pub returns-clause-covers : goal.returns-clause-covers
returns-clause-covers c s =
    let i = c.self.inside in
    let hs = i.periods.items in
    let xs = c.deref-h-items.result.now in
    let none = drop_all c.loop-h.h-index xs (omega arith) in
    let base = ap (λ (z : Record). z.parts.base) c.self.view_is in
    let made : c.push.new.self ≡ periods_from (parts_of i) c.args.from =
    c.in_ok-push.ensures.ok ∙ (ap (λ z. c.loop-h.periods ++ z ∷ []) c.period.ensures
    ∙ (ap (λ z. c.loop-h.periods ++ spans c.loop-h.reached.from c.loop-h.reached.value (map alive (puts_of z))) (sym none) ∙ (sym c.loop-h.invariant.so_far
    ∙ (ap₂ (λ z y. spans c.args.from z (map alive (puts_of y))) (sym base) c.deref-h-items.ensures.value ∙ periods_whole hs i.withdrawals.items c.self.invariant.sound c.args.from)))) in
    ap (values_at s) made ∙ (periods_cover (parts_of i) c.self.invariant.settled.puts c.args.from s ∙ ap (λ (z : Record). value_after_start z.parts c.args.from s) c.self.view_is)
