use Rattle.std.proofs.Common.{◌∙◌, ◌<◌, ◌≤◌, None, arith}
use Rattle.pm_lowest.proofs.Going.{come_goes, come_spent, delivered_underway}
use Rattle.pm_lowest.proofs.Written.{deliver_commits, written_still}
use Rattle.pm_lowest.proofs.run.step.Goals as goal

pub returns-then-made-course-clause-come : goal.returns-then-made-course-clause-come
returns-then-made-course-clause-come g c =
    let t = c.if-made-course.true in
    let m = c.made.ensures.made in
    let e = c.open.ensures.budget in
    come_spent c.args.plan.now c.args.course.now.budget c.requires.valid c.open.new.course c.in_ok-to.ensures.underway
    c.in_ok-to.to c.in_ok-to.from c.in_ok-to.ensures.next (omega (arith, t, m, e))

pub returns-in-Ok-clause-underway : goal.returns-in-Ok-clause-underway
returns-in-Ok-clause-underway g c =
    let t = c.if-made-course.false in
    let m = c.made.ensures.made in
    let e = c.open.ensures.budget in
    delivered_underway c.args.plan.now c.args.course.now.budget c.requires.valid c.open.new.course
    c.in_ok-to.ensures.underway c.in_ok-to.to c.in_ok-to.from c.in_ok-to.ensures.next c.deliver.new.self
    c.deliver.ensures.budget (omega (arith, t, m, e)) c.in-Ok.ensures.world c.in-Ok.ensures.journal

pub returns-in-Ok-clause-come : goal.returns-in-Ok-clause-come
returns-in-Ok-clause-come g c =
    let t = c.if-made-course.false in
    let m = c.made.ensures.made in
    let e = c.open.ensures.budget in
    come_goes c.args.plan.now c.args.course.now.budget c.requires.valid c.deliver.new.self
    (delivered_underway c.args.plan.now c.args.course.now.budget c.requires.valid c.open.new.course
    c.in_ok-to.ensures.underway c.in_ok-to.to c.in_ok-to.from c.in_ok-to.ensures.next c.deliver.new.self
    c.deliver.ensures.budget (omega (arith, t, m, e)) c.in-Ok.ensures.world c.in-Ok.ensures.journal)

pub returns-in-Ok-clause-written : goal.returns-in-Ok-clause-written
returns-in-Ok-clause-written g c =
    written_still c.args.plan.now c.args.counts.now c.open.new.counts _ _ c.args.course.now.journal.items
    c.open.new.course.journal.items c.deliver.new.self.journal.items None None c.in_ok-to.ensures.written
    (deliver_commits c.args.plan.now c.open.new.course.journal.items c.deliver.new.self.journal.items c.in_ok-to.to
    c.in_ok-to.from c.in-Ok.ensures.journal) (λ h. h) (λ h. h)
