use Rattle.std.proofs.Common.{sym, ◌∙◌, ◌+◌, ◌^◌}
use Rattle.pm_saved.specs.Senses.{add_kept}
use Rattle.pm_saved.specs.Spots.{Spot}
use Rattle.pm_saved.specs.declared.kept.KeptHit.{KeptHit}
use Rattle.pm_saved.specs.declared.kept.KeptSense.{KeptSense}
use Rattle.pm_saved.proofs.Failing.{on_ok}
use Rattle.pm_alp.specs.States.{actor_of, written_at}
use Rattle.pm_alp.proofs.Going.{ready-written}
use Rattle.pm_alp.proofs.Taking.{query-waits, read-answered, there-written}
use Rattle.pm_alp.proofs.Told.{told-written}
use Rattle.pm_alp.proofs.takes.give_at.Goals as goal

-- the sense with the hit
abbrev told : Spot → KeptHit → KeptSense
told s h = record s.sense { hits = add_kept h s.sense.hits }

pub returns-then-complete-clause-moved : goal.returns-then-complete-clause-moved
returns-then-complete-clause-moved c = on_ok c.give_again.result _ _
    (λ moved. λ s e. moved s e (sym (c.complete.ensures s e) ∙ c.if-complete.true))
    c.give_again.ensures.moved

pub resume-requires-clause-ready : goal.resume-requires-clause-ready
resume-requires-clause-ready c =
    let s = c.requires.there.0 in
    let e = c.requires.there.1 in
    let old = c.args.state.now in
    ready-written old c.keep.new.self c.forget.new.told c.args.at s (told s c.args.hit) c.requires.ready e
    (c.in_ok-keep.ensures.ok s e)
    (told-written old.saved.steps c.args.at s (told s c.args.hit) old.told c.forget.new.told c.requires.ready.told e
    c.forget.ensures)

pub resume-requires-clause-there : goal.resume-requires-clause-there
resume-requires-clause-there c =
    let s = c.requires.there.0 in
    let e = c.requires.there.1 in (
      written_at s (told s c.args.hit),
      there-written c.args.at s
          (told s c.args.hit) c.args.state.now.saved c.keep.new.self e (c.in_ok-keep.ensures.ok s e),
    )

pub returns-in-One-clause-moved : goal.returns-in-One-clause-moved
returns-in-One-clause-moved c = on_ok c.resume.result _ _
    (λ moved. λ s e.
    let old = c.args.state.now in
    let x = told s c.args.hit in
    let kept = c.in_ok-keep.ensures.ok s e in
    let there = there-written c.args.at s x old.saved c.keep.new.self e kept in
    read-answered (2 ^ 32 + 1) (actor_of c.args.parts.now) old c.resume.new.state c.keep.new.self
    c.forget.new.told s x c.in-One.var c.args.out.now c.resume.new.out kept
    (sym (c.complete.ensures s e) ∙ c.if-complete.false) (sym c.in-One.is
    ∙ c.query.ensures (written_at s x) there) (moved (written_at s x) there))
    c.resume.ensures.moved

pub returns-in-Class-clause-moved : goal.returns-in-Class-clause-moved
returns-in-Class-clause-moved c = λ s e.
    let x = told s c.args.hit in
    let old = c.args.state.now in
    let kept = c.in_ok-keep.ensures.ok s e in
    let there = there-written c.args.at s x old.saved c.keep.new.self e kept in
    query-waits (2 ^ 32 + 1) (actor_of c.args.parts.now) old c.keep.new.self c.forget.new.told c.args.at s x
    c.in-Class.class c.in-Class.window c.args.out.now c.requires.ready e kept c.forget.ensures
    (sym (c.complete.ensures s e) ∙ c.if-complete.false) (sym c.in-Class.is
    ∙ c.query.ensures (written_at s x) there)
