use Rattle.std.proofs.Common.{◌∙◌, ◌+◌, ◌<◌, length, arith, subst, sym, refl}
use Rattle.pm_model.specs.Entries.{run_below}
use Rattle.pm_resume.specs.Cuts.{before}
use Rattle.pm_plan.specs.declared.plan.Plan.{Plan}
use Rattle.pm_resume.proofs.Reaches.{reached_more, spent_at_end, there_at_end}
use Rattle.pm_resume.specs.Reached.{HasDone, HasReached}
use Rattle.pm_resume.proofs.advance.advance.Goals as goal

pub loop-left-init : goal.loop-left-init
loop-left-init c = record { plan = refl; steps = (0, omega arith, c.requires) }

pub loop-left-preserved : goal.loop-left-preserved
loop-left-preserved c =
    let d = c.loop-left.invariant.steps in
    let more = c.in_ok-step_before.ensures.went d.0 d.2 c.if-not-branch.false in
    record {
      plan = c.step_before.ensures.plan ∙ c.loop-left.invariant.plan;
      steps = (d.0 + 1, omega (arith, d.1), subst (λ (p : Plan). HasDone p c.args.from (d.0 + 1) c.step_before.new.seq.state) (sym c.step_before.ensures.plan) more);
    }

pub returns-then-not-branch-clause-plan : goal.returns-then-not-branch-clause-plan
returns-then-not-branch-clause-plan c = c.step_before.ensures.plan ∙ c.loop-left.invariant.plan

pub returns-in_err-step_before-clause-plan : goal.returns-in_err-step_before-clause-plan
returns-in_err-step_before-clause-plan c = c.step_before.ensures.plan ∙ c.loop-left.invariant.plan

pub returns-then-not-branch-clause-there : goal.returns-then-not-branch-clause-there
returns-then-not-branch-clause-there c = λ _.
    let d = c.loop-left.invariant.steps in
    let r = c.in_ok-step_before.ensures.there d.0 d.2 c.if-not-branch.true in
    subst (λ (p : Plan). HasReached p c.args.from c.args.budget c.step_before.new.seq.state) c.loop-left.invariant.plan
    (reached_more c.loop-left.seq.plan c.args.from d.0 c.args.budget c.step_before.new.seq.state r (omega (arith, d.1)))

pub returns-clause-there : goal.returns-clause-there
returns-clause-there c = λ end.
    let d = c.loop-left.invariant.steps in
    subst (λ (p : Plan). HasReached p c.args.from c.args.budget c.loop-left.seq.state) c.loop-left.invariant.plan
    (there_at_end c.loop-left.seq.plan c.args.from c.args.budget d.0 c.loop-left.seq.state c.acts_before.result d.2 c.acts_before.ensures (omega (arith, d.1)) end)

pub returns-clause-spent : goal.returns-clause-spent
returns-clause-spent c = λ end.
    let d = c.loop-left.invariant.steps in
    subst (λ (p : Plan). c.args.budget < length (run_below p (before c.args.from))) c.loop-left.invariant.plan
    (spent_at_end c.loop-left.seq.plan c.args.from c.args.budget d.0 c.loop-left.seq.state c.acts_before.result d.2 c.acts_before.ensures (omega (arith, d.1)) end)
