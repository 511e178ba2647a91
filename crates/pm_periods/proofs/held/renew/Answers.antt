use Rattle.std.proofs.Common.{◌+◌, ◌++◌, [], ◌∷◌, drop, get_or, sym, ◌∙◌, subst}
use Rattle.pm_periods.specs.Laid.{AreLinked, reads_of}
use Rattle.pm_periods.specs.Records.{HaveTurns}
use Rattle.pm_periods.proofs.Hits.{value_eq-same}
use Rattle.pm_periods.proofs.Laid.{laid-linked, renew_last, renew_next, renew_rest, turns-split}
use Rattle.pm_periods.proofs.held.renew.Goals as goal

pub returns-then-is_same_value : goal.returns-then-is_same_value
returns-then-is_same_value c =
    let hs = c.args.periods.now in
    let now = c.loop-h.periods in
    let i = c.loop-h.h-index in
    let d = c.h-item.result in
    let inv = c.loop-h.invariant.done in
    let rest = renew_rest c.args.before hs now i d c.loop-h.value inv.0 inv.1 inv.2 inv.3 c.loop-h-test.true in
    let linked = subst AreLinked rest c.loop-h.invariant.linked in
    let same = value_eq-same c.after-value.result (get_or now i d).value (sym c.is_same_value.ensures ∙ c.if-is_same_value.true) in
    renew_last c.args.before hs now i d c.loop-h.value inv.0 inv.1 inv.2 inv.3 c.loop-h-test.true (sym same ∙ c.after-value.ensures, linked.0, linked.1)

pub renew_one-requires : goal.renew_one-requires
renew_one-requires c =
    let hs = c.args.periods.now in
    let now = c.loop-h.periods in
    let i = c.loop-h.h-index in
    let d = c.h-item.result in
    let inv = c.loop-h.invariant.done in
    let rest = renew_rest c.args.before hs now i d c.loop-h.value inv.0 inv.1 inv.2 inv.3 c.loop-h-test.true in
    (turns-split (get_or now i d).reads (reads_of (drop (i + 1) hs)) (subst (λ z. HaveTurns (reads_of z)) rest c.loop-h.invariant.turns)).0

pub loop-h-preserved : goal.loop-h-preserved
loop-h-preserved c =
    let hs = c.args.periods.now in
    let now = c.loop-h.periods in
    let i = c.loop-h.h-index in
    let d = c.h-item.result in
    let inv = c.loop-h.invariant.done in
    let rest = renew_rest c.args.before hs now i d c.loop-h.value inv.0 inv.1 inv.2 inv.3 c.loop-h-test.true in
    let linked = subst AreLinked rest c.loop-h.invariant.linked in
    let next = renew_next c.args.before hs now i d c.loop-h.value inv.0 inv.1 inv.2 inv.3 c.loop-h-test.true c.after-value.result c.renew_one.new.h c.after-value.ensures c.renew_one.ensures in
    record {
      done = (inv.0 ++ c.renew_one.new.h ∷ [], next.0, next.1, next.2);
      linked = laid-linked (get_or now i d).value (drop (i + 1) hs) linked.1;
      turns = (turns-split (get_or now i d).reads (reads_of (drop (i + 1) hs)) (subst (λ z. HaveTurns (reads_of z)) rest c.loop-h.invariant.turns)).1;
    }
