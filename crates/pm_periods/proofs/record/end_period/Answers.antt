use Rattle.std.proofs.Common.{◌≡◌, ◌+◌, ◌-◌, ◌<◌, ◌++◌, [], ◌∷◌, suc, length, get_or, take, drop, map, arith, ap, ap₂, sym, ◌∙◌, subst}
use Rattle.std.proofs.lemmas.List.{get_or_default}
use Rattle.pm_periods.specs.Laid.{AreLinked, base_of, is_of, reads_of, renewed, told, with_reads, withdrawal_key}
use Rattle.pm_periods.specs.Records.{HaveTurns, changed_of, fresh_read}
use Rattle.pm_periods.specs.Rows.{add_row}
use Rattle.pm_periods.specs.declared.held.Held.{Held}
use Rattle.pm_periods.proofs.Laid.{closed, linked-drop, of_put, turns-at, turns-drop}
use Rattle.pm_periods.proofs.record.end_period.Goals as goal

pub tell_reads-requires : goal.tell_reads-requires
tell_reads-requires c =
    let hs = c.args.periods.now.items in
    subst HaveTurns (sym (c.as_slice.ensures ∙ ap (λ (z : Held). z.reads) c.index-ended.ensures)) (turns-at hs c.args.at _ c.requires.within.1 c.requires.turns)

pub tell_from-requires-clause-linked : goal.tell_from-requires-clause-linked
tell_from-requires-clause-linked c =
    let hs = c.args.periods.now.items in
    subst (λ z. AreLinked (drop (c.args.at + 1) z)) (sym c.as_slice-2.ensures.value) (linked-drop (base_of hs) hs (c.args.at + 1) c.requires.laid)

pub tell_from-requires-clause-turns : goal.tell_from-requires-clause-turns
tell_from-requires-clause-turns c =
    let hs = c.args.periods.now.items in
    subst (λ z. HaveTurns (reads_of (drop (c.args.at + 1) z))) (sym c.as_slice-2.ensures.value) (turns-drop hs (c.args.at + 1) c.requires.turns)

pub joined-requires : goal.joined-requires
joined-requires c =
    let hs = c.args.periods.now.items in
    subst HaveTurns (sym (c.as_slice-4.ensures ∙ ap (λ (z : Held). z.reads) c.index-ended.ensures)) (turns-at hs c.args.at _ c.requires.within.1 c.requires.turns)

pub returns-clause-ok : goal.returns-clause-ok
returns-clause-ok c =
    let hs = c.args.periods.now.items in
    let b : Held = c.index-before.result.now in
    let f : Held = c.index-ended.result.now in
    let at = c.args.at in
    let k = at - 1 in
    let e : suc k ≡ at = omega (arith, c.requires.within) in
    let n : suc (suc k) ≡ at + 1 = omega (arith, c.requires.within) in
    let low : suc k < length hs = omega (arith, e, c.requires.within) in
    let v = b.value in
    let parts = closed v hs k b b [] low in
    let is_b : get_or hs k b ≡ b = sym c.index-before.ensures in
    let is_f : get_or hs (suc k) b ≡ f = get_or_default hs (suc k) b f low ∙ (ap (λ z. get_or hs z f) e ∙ sym c.index-ended.ensures) in
    let of = of_put c.args.cut.num f.put (ap (λ (z : Held). is_of c.args.cut.num z.put) c.index-ended.ensures ∙ c.requires.named f) in
    let reads = c.in_ok-reads.ensures ∙ ap₂ (λ y z. y ++ map (fresh_read (λ _. v)) z) c.as_slice-3.ensures c.as_slice-4.ensures in (
      of.0,
      of.2,
      record {
        before = take k hs;
        period = b;
        ended = f;
        behind = drop (at + 1) hs;
        was = parts.0 ∙ (ap₂ (λ y z. take k hs ++ y ∷ (z ∷ drop (suc (suc k)) hs)) is_b is_f ∙ ap (λ m. take k hs ++ b ∷ (f ∷ drop m hs)) n);
        put = of.1;
        is = c.close_period.ensures k b e ∙ (ap (λ (z : Held). take k hs ++ with_reads c.in_ok-reads.reads.items z ∷ renewed v (drop (at + 1) hs)) is_b
            ∙ ap (λ z. take k hs ++ with_reads z b ∷ renewed v (drop (at + 1) hs)) reads);
        gives_are = c.in_ok-tell_from.ensures ∙ ap₂ (λ y z. y ++ told c.args.var v (drop (at + 1) z))
            (c.in_ok-tell_reads.ensures ∙ ap₂ (λ y z. y ++ changed_of c.args.var (λ _. v) z) c.new-gives.ensures.items c.as_slice.ensures) c.as_slice-2.ensures.value;
      },
      c.in_ok-add.ensures.ok ∙ ap (λ o. add_row withdrawal_key (record { cut = c.args.cut; put = o }) c.args.withdrawals.now.items) of.1,
    )
