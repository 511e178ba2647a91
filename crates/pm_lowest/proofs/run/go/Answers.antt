use Rattle.std.proofs.Common.{◌∙◌, ◌≡◌, ◌≤◌, ◌-◌, ◌<◌, None, Some, arith, refl, subst, sym}
use Rattle.pm_lowest.proofs.Written.{written_begun, written_on}
use Rattle.pm_lowest.specs.Courses.{HasCome, IsUnderway}
use Rattle.pm_lowest.proofs.run.go.Goals as goal

pub steps-init : goal.steps-init
steps-init g c = record {
  underway = c.requires.underway;
  budget = refl;
  written = written_begun c.args.plan.now c.args.counts.now _ c.args.course.now.journal.items;
  faults = omega arith;
  stalls = omega arith;
}

pub steps-smaller : goal.steps-smaller
steps-smaller g c =
    let m = c.in-Ok.ensures.made in
    let w = c.in-Ok.ensures.underway.going.within in
    let b = c.step.ensures.budget in
    omega (arith, m, w, b)

pub steps-preserved : goal.steps-preserved
steps-preserved g c =
    let p = c.args.plan.now in
    let i = c.steps.invariant in
    record {
      underway = subst (λ n. IsUnderway p n c.step.new.course) (sym c.step.ensures.budget) c.in-Ok.ensures.underway;
      budget = c.step.ensures.budget ∙ i.budget;
      written = written_on p c.args.counts.now c.steps.counts c.step.new.counts _ _ _ _ _ _ None i.written
          c.in-Ok.ensures.written;
      faults = let a = i.faults in let b = c.step.ensures.faults in omega (arith, a, b);
      stalls = let a = i.stalls in let b = c.step.ensures.stalls in omega (arith, a, b);
    }

pub returns-in-Err-clause-come : goal.returns-in-Err-clause-come
returns-in-Err-clause-come g c =
    subst (λ n. HasCome c.args.plan.now n c.step.new.course.journal.items (Some c.in-Err.outcome))
    c.steps.invariant.budget c.in-Err.ensures.come

pub returns-in-Err-clause-written : goal.returns-in-Err-clause-written
returns-in-Err-clause-written g c =
    written_on c.args.plan.now c.args.counts.now c.steps.counts c.step.new.counts _ _ _ _ _ _ (Some c.in-Err.outcome)
    c.steps.invariant.written c.in-Err.ensures.written
