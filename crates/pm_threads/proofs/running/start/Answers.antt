use Rattle.std.proofs.Common.{None, refl, subst, sym}
use Rattle.pm_kernel.specs.Engines.{HasStaged}
use Rattle.pm_kernel.proofs.Staging.{stage_nothing}
use Rattle.pm_kernel.proofs.Starting.{first_commits, first_stands}
use Rattle.pm_kernel.proofs.Written.{start_nothing, start_starved, start_written}
use Rattle.pm_threads.proofs.running.start.Goals as goal

pub returns-then-not-is_over-clause-text : goal.returns-then-not-is_over-clause-text
returns-then-not-is_over-clause-text g c =
    let p = c.args.plan.now in
    let s = c.args.settings.now in
    let old = c.args.crew.now in
    start_nothing p s old old (g.K.Sink.holds c.args.out.now)
    (stage_nothing p s old old (first_stands p c.requires.valid s old c.requires.first) refl)

pub returns-in-Ok-clause-text : goal.returns-in-Ok-clause-text
returns-in-Ok-clause-text g c =
    let p = c.args.plan.now in
    let s = c.args.settings.now in
    let old = c.args.crew.now in
    let new = c.stage.new.self in
    let es = c.as_slice.result.now in
    start_written p s old new _ _ c.write_entries.result es
    (first_commits p c.requires.valid s old c.requires.first new c.in-Ok.done.made es
    (subst (λ z. HasStaged None c.in-Ok.done.made z old new) (sym c.as_slice.ensures) c.in-Ok.ensures.done)
    c.in-Ok.ensures.most)
    c.write_entries.ensures.all c.write_entries.ensures.lacks

pub returns-in-Err-clause-text : goal.returns-in-Err-clause-text
returns-in-Err-clause-text g c =
    let p = c.args.plan.now in
    let s = c.args.settings.now in
    let old = c.args.crew.now in
    let new = c.stage.new.self in
    start_starved p s old new (g.K.Sink.holds c.args.out.now)
    (stage_nothing p s old new (first_stands p c.requires.valid s old c.requires.first) c.in-Err.ensures.kept)
