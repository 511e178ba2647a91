use Rattle.std.proofs.Common.{◌∙◌, None, Some, inl, inr, sym}
use Rattle.pm_lowest.proofs.Going.{closed_next, closed_underway, come_done, come_failed, come_goes, next_here, passed_on, undone, unspent}
use Rattle.pm_lowest.specs.Courses.{HasCome}
use Rattle.pm_lowest.proofs.run.open.Goals as goal

pub returns-in_err-close-clause-come : goal.returns-in_err-close-clause-come
returns-in_err-close-clause-come g c =
    let p = c.args.plan.now in
    let b = c.args.course.now.budget in
    let f = c.in_err-close.field-0.0 in
    let e = c.in_err-close.ensures in
    passed_on (HasCome p b c.close.new.course.journal.items) c.from_residual.result f c.from_residual.ensures.1
    (come_failed p b c.requires.valid c.args.course.now c.requires.underway c.close.new.course (Some f) e.budget e.some
    (undone f e.failed) (unspent f e.failed) (inl (c.least_link.ensures.none c.in_default.is)))

pub returns-in_default-clause-come : goal.returns-in_default-clause-come
returns-in_default-clause-come g c =
    come_done c.args.plan.now c.args.course.now.budget c.requires.valid c.args.course.now c.requires.underway
    c.close.new.course c.close.ensures.budget c.in_ok-close.ensures.closed (c.least_link.ensures.none c.in_default.is)

pub returns-then-not-is_due-clause-next : goal.returns-then-not-is_due-clause-next
returns-then-not-is_due-clause-next g c =
    next_here c.args.plan.now c.args.course.now.budget c.requires.valid c.args.course.now c.requires.underway
    c.in-Some.link.0 c.in-Some.link.1 c.in-Some.ensures.some (sym c.is_due.ensures ∙ c.if-not-is_due.true)

pub returns-in_err-close-2-clause-come : goal.returns-in_err-close-2-clause-come
returns-in_err-close-2-clause-come g c =
    let p = c.args.plan.now in
    let b = c.args.course.now.budget in
    let f = c.in_err-close-2.field-0.0 in
    let e = c.in_err-close-2.ensures in
    passed_on (HasCome p b c.close-2.new.course.journal.items) c.from_residual-in_err-close-2.result f
    c.from_residual-in_err-close-2.ensures.1
    (come_failed p b c.requires.valid c.args.course.now c.requires.underway c.close-2.new.course (Some f) e.budget e.some
    (undone f e.failed) (unspent f e.failed)
    (inr (c.in-Some.link.0, c.in-Some.link.1, c.in-Some.ensures.some, sym c.is_due.ensures ∙ c.if-not-is_due.false)))

pub returns-clause-underway : goal.returns-clause-underway
returns-clause-underway g c =
    closed_underway c.args.plan.now c.args.course.now.budget c.requires.valid c.args.course.now c.requires.underway
    c.close-2.new.course c.close-2.ensures.budget c.in_ok-close-2.ensures.closed
    c.in-Some.link.0 c.in-Some.link.1 c.in-Some.ensures.some (sym c.is_due.ensures ∙ c.if-not-is_due.false)

pub returns-clause-next : goal.returns-clause-next
returns-clause-next g c =
    closed_next c.args.plan.now c.args.course.now.budget c.requires.valid c.args.course.now c.requires.underway
    c.close-2.new.course c.close-2.ensures.budget c.in_ok-close-2.ensures.closed
    c.in-Some.link.0 c.in-Some.link.1 c.in-Some.ensures.some

pub returns-clause-come : goal.returns-clause-come
returns-clause-come g c =
    come_goes c.args.plan.now c.args.course.now.budget c.requires.valid c.close-2.new.course
    (closed_underway c.args.plan.now c.args.course.now.budget c.requires.valid c.args.course.now c.requires.underway
    c.close-2.new.course c.close-2.ensures.budget c.in_ok-close-2.ensures.closed
    c.in-Some.link.0 c.in-Some.link.1 c.in-Some.ensures.some (sym c.is_due.ensures ∙ c.if-not-is_due.false))
