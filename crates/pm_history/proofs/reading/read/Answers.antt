use Rattle.std.proofs.Common.{rules, ◌≡◌, ◌∙◌, sym, ap, subst, arith, ◌+◌, ◌<◌, length, ◌++◌, ◌∷◌, [], Some, None, Ok, Err}
use Rattle.pm_history.specs.Journals.{IsFirstFault}
use Rattle.pm_history.specs.Scans.{event_at}
use Rattle.pm_history.specs.declared.fault.JournalFault.TheVariants as fault
use Rattle.pm_history.proofs.Texts.{IsRead, all_read, faulty_here, no_journal, one_fault, one_more, same_journal, shorter}
use Rattle.pm_history.proofs.reading.read.Goals as goal

pub returns-in_default-clause-fault : goal.returns-in_default-clause-fault
returns-in_default-clause-fault c = λ n is.
    let none : event_at c.lines.rest.now ≡ None = search rules in
    let some : 0 < length c.lines.rest.now = search rules in
    let first = faulty_here c.args.bytes.now c.lines.journal c.lines.rest.now c.lines.invariant some none in
    let number : length c.lines.journal + 1 ≡ n = cc in
    subst (λ k. IsFirstFault k c.args.bytes.now) number first

pub returns-in_default-clause-reads : goal.returns-in_default-clause-reads
returns-in_default-clause-reads c = λ j w is given.
    let none : event_at c.lines.rest.now ≡ None = search rules in
    let some : 0 < length c.lines.rest.now = search rules in
    let first = faulty_here c.args.bytes.now c.lines.journal c.lines.rest.now c.lines.invariant some none in
    absurd (no_journal _ c.args.bytes.now j w first is)

pub returns-in_default-clause-refuses : goal.returns-in_default-clause-refuses
returns-in_default-clause-refuses c = λ n wanted given.
    let none : event_at c.lines.rest.now ≡ None = search rules in
    let some : 0 < length c.lines.rest.now = search rules in
    let first = faulty_here c.args.bytes.now c.lines.journal c.lines.rest.now c.lines.invariant some none in
    let number : c.len.result + 1 ≡ n = omega (arith, one_fault _ n c.args.bytes.now first wanted) in
    ap (λ k. Err (fault.Line k)) number

pub lines-smaller : goal.lines-smaller
lines-smaller c =
    let at : event_at c.lines.rest.now ≡ Some (c.in-Some.event, c.in-Some.after.now) = search rules in
    shorter c.lines.rest.now c.in-Some.event c.in-Some.after.now at

pub lines-preserved : goal.lines-preserved
lines-preserved c =
    let at : event_at c.lines.rest.now ≡ Some (c.in-Some.event, c.in-Some.after.now) = search rules in
    let pushed : c.push.new.self ≡ c.lines.journal ++ c.in-Some.event ∷ [] = search rules in
    subst (λ j. IsRead c.args.bytes.now j c.in-Some.after.now) (sym pushed)
    (one_more c.args.bytes.now c.lines.journal c.lines.rest.now c.in-Some.event c.in-Some.after.now c.lines.invariant
    at)

pub returns-clause-text : goal.returns-clause-text
returns-clause-text c =
    let end : length c.lines.rest.now ≡ 0 = search rules in
    sym (all_read c.args.bytes.now c.lines.journal c.lines.rest.now c.lines.invariant end)

pub returns-clause-reads : goal.returns-clause-reads
returns-clause-reads c = λ j w is given.
    let end : length c.lines.rest.now ≡ 0 = search rules in
    let text = all_read c.args.bytes.now c.lines.journal c.lines.rest.now c.lines.invariant end in
    ap (λ k. Ok k) (same_journal c.lines.journal j c.lines.invariant.numbers w (sym text ∙ is))

pub returns-clause-refuses : goal.returns-clause-refuses
returns-clause-refuses c = λ n wanted given.
    let end : length c.lines.rest.now ≡ 0 = search rules in
    let text = all_read c.args.bytes.now c.lines.journal c.lines.rest.now c.lines.invariant end in
    absurd (no_journal n c.args.bytes.now c.lines.journal c.lines.invariant.numbers wanted text)
