use Rattle.std.proofs.Common.{sym, ◌∙◌, ◌+◌, ◌^◌}
use Rattle.pm_saved.specs.Senses.{add_kept}
use Rattle.pm_saved.specs.Spots.{Spot}
use Rattle.pm_saved.specs.declared.kept.KeptHit.{KeptHit}
use Rattle.pm_saved.specs.declared.kept.KeptSense.{KeptSense}
use Rattle.pm_saved.proofs.Failing.{on_ok}
use Rattle.pm_alp.specs.States.{actor_of, written_at}
use Rattle.pm_alp.proofs.Going.{ready-written}
use Rattle.pm_alp.proofs.Taking.{answer-changes, answer-stays, not-false, not-true, there-written}
use Rattle.pm_alp.proofs.Told.{told-written}
use Rattle.pm_alp.proofs.takes.give_again.Goals as goal

-- the sense with the hit
abbrev told : Spot → KeptHit → KeptSense
told s h = record s.sense { hits = add_kept h s.sense.hits }

pub returns-then-not-changes-clause-moved : goal.returns-then-not-changes-clause-moved
returns-then-not-changes-clause-moved c = on_ok c.keep.result _ _
    (λ kept. λ s e complete.
    answer-stays (2 ^ 32 + 1) (actor_of c.args.parts.now) c.args.state.now c.keep.new.self c.args.at s
    (told s c.args.hit) c.args.out.now c.requires.ready e (kept s e)
    complete (not-false _ (sym (c.changes.ensures s e) ∙ c.if-not-changes.true)))
    c.keep.ensures.ok

pub resume-requires-clause-ready : goal.resume-requires-clause-ready
resume-requires-clause-ready c =
    let s = c.requires.there.0 in
    let e = c.requires.there.1 in
    let old = c.args.state.now in
    ready-written old c.keep-2.new.self c.forget.new.told c.args.at s (told s c.args.hit) c.requires.ready e
    (c.in_ok-keep.ensures.ok s e)
    (told-written old.saved.steps c.args.at s (told s c.args.hit) old.told c.forget.new.told c.requires.ready.told e
    c.forget.ensures)

pub resume-requires-clause-there : goal.resume-requires-clause-there
resume-requires-clause-there c =
    let s = c.requires.there.0 in
    let e = c.requires.there.1 in (
      written_at s (told s c.args.hit),
      there-written c.args.at s
          (told s c.args.hit) c.args.state.now.saved c.keep-2.new.self e (c.in_ok-keep.ensures.ok s e),
    )

pub returns-clause-moved : goal.returns-clause-moved
returns-clause-moved c = on_ok c.resume.result _ _
    (λ moved. λ s e complete.
    let old = c.args.state.now in
    let x = told s c.args.hit in
    let kept = c.in_ok-keep.ensures.ok s e in
    let there = there-written c.args.at s x old.saved c.keep-2.new.self e kept in
    answer-changes (2 ^ 32 + 1) (actor_of c.args.parts.now) old c.resume.new.state c.keep-2.new.self
    c.forget.new.told s x c.args.out.now c.withdrawn.new.out c.resume.new.out kept
    complete (sym complete) (not-true _ (sym (c.changes.ensures s e) ∙ c.if-not-changes.false))
    (c.in_ok-withdrawn.ensures.ok (written_at s x) there) (moved (written_at s x) there))
    c.resume.ensures.moved
