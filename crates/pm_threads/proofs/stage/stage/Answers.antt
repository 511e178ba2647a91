use Rattle.std.proofs.Common.{Some, arith, refl, subst, sym}
use Rattle.std.specs.Prelude.{IfSome}
use Rattle.pm_kernel.proofs.Staging.{as_within, least_timely, positive, stage_commits, stage_more, stage_nothing, stage_window}
use Rattle.pm_kernel.proofs.Written.{text_nothing, text_written}
use Rattle.pm_kernel.specs.Engines.{HasStaged, IsMore}
use Rattle.pm_kernel.specs.Runs.{IsTimelyLine, IsWithin}
use Rattle.pm_sim.specs.Ready.{IsAbove, window_at}
use Rattle.pm_threads.proofs.stage.stage.Goals as goal

pub window_of-window-requires-clause-timely : goal.window_of-window-requires-clause-timely
window_of-window-requires-clause-timely g c =
    subst IsTimelyLine (sym c.least.ensures)
    (least_timely c.args.plan.now c.args.settings.now c.args.crew.now c.requires.valid
    c.requires.stands c.requires.mail)

pub returns-in-Ok-clause-more : goal.returns-in-Ok-clause-more
returns-in-Ok-clause-more g c = λ n e.
    let r = (c.stage_of.ensures.more n).0 e in
    let p = c.args.plan.now in
    let s = c.args.settings.now in
    let old = c.args.crew.now in
    let new = c.stage.new.self in
    let k = Some c.window_of-window.result in
    let done = c.in-Ok.done in
    let most = c.in-Ok.ensures.most in
    let size = c.min.ensures in
    let left = c.requires.left in
    subst (λ m. IsMore p s m old new) (sym r.1)
    (stage_more p c.requires.valid s old new k done.made done.entries c.requires.stands c.in-Ok.ensures.done
    (omega (arith, most, size)) (omega (arith, most, size, left))
    (stage_window p c.requires.valid s old new k done.made done.entries c.requires.stands c.in-Ok.ensures.done
    s.window c.requires.begun
    (as_within s.window _ _ (subst (λ l. IfSome s.window (λ w. IsWithin c.window_of-window.result (window_at w l)))
    c.least.ensures c.window_of-window.ensures.within))))

pub returns-in-Ok-clause-most : goal.returns-in-Ok-clause-most
returns-in-Ok-clause-most g c = λ n e.
    let r = (c.stage_of.ensures.more n).0 e in
    let most = c.in-Ok.ensures.most in
    let size = c.min.ensures in
    let some = c.requires.some in
    let epoch = c.requires.epoch in
    let above = subst (IsAbove c.window_of-window.result) c.least.ensures c.window_of-window.ensures.above in
    let moved = positive c.in-Ok.done.made (λ none. c.requires.mail
    (c.in-Ok.ensures.moves none (omega (arith, size, some, epoch)) above)) in
    let same = r.1 in
    (omega (arith, moved, same), omega (arith, most, size, same))

pub returns-in-Ok-clause-text : goal.returns-in-Ok-clause-text
returns-in-Ok-clause-text g c =
    let p = c.args.plan.now in
    let s = c.args.settings.now in
    let old = c.args.crew.now in
    let new = c.stage.new.self in
    let k = Some c.window_of-window.result in
    let done = c.in-Ok.done in
    let most = c.in-Ok.ensures.most in
    let size = c.min.ensures in
    let left = c.requires.left in
    let es = c.as_slice.result.now in
    let staged = subst (λ z. HasStaged k done.made z old new) (sym c.as_slice.ensures) c.in-Ok.ensures.done in
    text_written p s old new _ _ c.args.counts.now c.write_entries-wrote.new.counts c.stage_of.result c.write_entries-wrote.result
    es
    (λ n e. ((c.stage_of.ensures.more n).0 e).0) (λ e. c.stage_of.ensures.fault.0 e)
    (stage_commits p c.requires.valid s old new k done.made es c.requires.stands staged
    (omega (arith, most, size)) (omega (arith, most, size, left))
    (stage_window p c.requires.valid s old new k done.made es c.requires.stands staged
    s.window c.requires.begun
    (as_within s.window _ _ (subst (λ l. IfSome s.window (λ w. IsWithin c.window_of-window.result (window_at w l)))
    c.least.ensures c.window_of-window.ensures.within))))
    (λ e. (c.write_entries-wrote.ensures.counts e, c.write_entries-wrote.ensures.all e)) c.write_entries-wrote.ensures.lacks

pub returns-in-Err-clause-text : goal.returns-in-Err-clause-text
returns-in-Err-clause-text g c =
    text_nothing c.args.plan.now c.args.settings.now c.args.crew.now c.stage.new.self
    _ _ c.args.counts.now _
    (stage_nothing c.args.plan.now c.args.settings.now c.args.crew.now c.stage.new.self
    c.requires.stands c.in-Err.ensures.kept) refl
