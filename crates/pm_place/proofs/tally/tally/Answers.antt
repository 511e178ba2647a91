use Rattle.std.proofs.Common.{◌≡◌, ◌∙◌, ap, sym, subst, arith, refl, [], length}
use Rattle.pm_plan.specs.declared.plan.Plan.{Plan}
use Rattle.pm_model.specs.Runs.{rest}
use Rattle.pm_place.proofs.Noted.{count-done, count-more, some-left}
use Rattle.pm_place.proofs.tally.tally.Goals as goal

pub steps-preserved : goal.steps-preserved
steps-preserved c =
    let w = c.in-Step.ensures.step refl in
    record {
      plan = c.in-Step.ensures.plan ∙ c.steps.invariant.plan;
      counts = count-more c.args.plan.now w.0 (rest c.args.plan.now c.steps.seq.state) (rest c.args.plan.now c.note_step.new.seq.state) _ _ _ w.1 w.2 c.steps.invariant.counts;
      steps = omega (arith, ap length w.1, c.steps.invariant.steps);
      most = omega (arith, c.steps-test.true);
    }

pub returns-in-End-clause-counts : goal.returns-in-End-clause-counts
returns-in-End-clause-counts c =
    let e = c.in-End.ensures.end refl in
    e.1 ∙ count-done c.args.plan.now (rest c.args.plan.now c.steps.seq.state) _ _ e.0 c.steps.invariant.counts

pub returns-in-End-clause-within : goal.returns-in-End-clause-within
returns-in-End-clause-within c =
    let e = c.in-End.ensures.end refl in
    omega (arith, ap length e.0, c.steps.invariant.steps, c.steps-test.true)

pub returns-then-done-clause-counts : goal.returns-then-done-clause-counts
returns-then-done-clause-counts c =
    let none = rw c.steps.invariant.plan at (c.done.ensures.left.0 c.if-done.true) in
    count-done c.args.plan.now (rest c.args.plan.now c.steps.seq.state) _ _ none c.steps.invariant.counts

pub returns-then-done-clause-within : goal.returns-then-done-clause-within
returns-then-done-clause-within c =
    let none = rw c.steps.invariant.plan at (c.done.ensures.left.0 c.if-done.true) in
    omega (arith, ap length none, c.steps.invariant.steps, c.steps.invariant.most)

pub returns-else-done-clause-spent : goal.returns-else-done-clause-spent
returns-else-done-clause-spent c = λ _.
    let some = some-left (rest c.args.plan.now c.steps.seq.state) (λ none.
    let all = c.done.ensures.left.1 (subst (λ (p : Plan). rest p c.steps.seq.state ≡ []) (sym c.steps.invariant.plan) none) in
    cc (all, c.if-done.false)) in
    omega (arith, some, c.steps.invariant.steps, c.steps-test.false)
