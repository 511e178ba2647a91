use Rattle.std.proofs.Common.{◌∙◌, refl, arith}
use Rattle.pm_model.specs.Runs.{rest}
use Rattle.pm_top.proofs.Written.{sofar-cut, sofar-first, sofar-wrote, sofar-end, sofar-fault, sofar-lacks, sofar-short, sofar-stop, sofar-tail}
use Rattle.pm_top.proofs.run.write_run.Goals as goal

pub steps-preserved : goal.steps-preserved
steps-preserved g c =
    let w = c.in-Wrote.ensures.wrote refl in
    record {
      plan = c.in-Wrote.ensures.plan ∙ c.steps.invariant.plan;
      so_far = sofar-wrote c.args.plan.now w.0 (rest c.args.plan.now c.write_step.new.seq.state) _ _ _ _ (rw w.1 at c.steps.invariant.so_far) w.2;
      most = omega (arith, c.steps-test.true);
      faults = omega (arith, c.steps.invariant.faults, c.in-Wrote.ensures.faults);
      stalls = omega (arith, c.steps.invariant.stalls, c.in-Wrote.ensures.stalls);
    }

pub returns-in-End-clause-part : goal.returns-in-End-clause-part
returns-in-End-clause-part g c =
    let e = c.in-End.ensures.end refl in
    sofar-end _ _ _ _ _ (rw e.0 at c.steps.invariant.so_far) (rw e.1 at c.write_end.ensures.part)

pub returns-in-WriteFault-clause-part : goal.returns-in-WriteFault-clause-part
returns-in-WriteFault-clause-part g c =
    let f = c.in-WriteFault.ensures.fault refl in
    sofar-fault _ f.0 f.1 _ _ _ _ (rw f.2 at c.steps.invariant.so_far) f.3

pub returns-in-WriteFault-clause-lacks : goal.returns-in-WriteFault-clause-lacks
returns-in-WriteFault-clause-lacks g c =
    let f = c.in-WriteFault.ensures.fault refl in
    λ _ _. sofar-lacks _ f.0 f.1 _ _ _ _ c.args.budget (rw f.2 at c.steps.invariant.so_far) c.steps-test.true f.3

pub returns-in-Memory-clause-part : goal.returns-in-Memory-clause-part
returns-in-Memory-clause-part g c =
    let m = c.in-Memory.ensures.memory refl in
    rw m (sofar-stop _ _ _ _ _ c.steps.invariant.so_far)

pub returns-then-done-clause-part : goal.returns-then-done-clause-part
returns-then-done-clause-part g c =
    let none = rw c.steps.invariant.plan at (c.done.ensures.left.0 c.if-done.true) in
    sofar-end _ _ _ _ _ (rw none at c.steps.invariant.so_far) c.write_end-then-done.ensures.part

pub returns-clause-part : goal.returns-clause-part
returns-clause-part g c = sofar-stop _ _ _ _ _ c.steps.invariant.so_far

pub returns-in-Err-clause-unfinished : goal.returns-in-Err-clause-unfinished
returns-in-Err-clause-unfinished g c = λ _. sofar-short _ _ _ _ _ (sofar-first c.args.plan.now (g.K.Sink.holds c.args.out.now))

pub returns-in-End-clause-unfinished : goal.returns-in-End-clause-unfinished
returns-in-End-clause-unfinished g c =
    let e = c.in-End.ensures.end refl in
    λ h. sofar-tail _ _ _ _ _ (rw e.0 at c.steps.invariant.so_far) (rw e.1 at (c.write_end.ensures.unfinished h))

pub returns-in-WriteFault-clause-unfinished : goal.returns-in-WriteFault-clause-unfinished
returns-in-WriteFault-clause-unfinished g c =
    let f = c.in-WriteFault.ensures.fault refl in
    λ _. sofar-cut _ f.0 f.1 _ _ _ _ (rw f.2 at c.steps.invariant.so_far) f.3

pub returns-in-Memory-clause-unfinished : goal.returns-in-Memory-clause-unfinished
returns-in-Memory-clause-unfinished g c =
    let m = c.in-Memory.ensures.memory refl in
    λ _. rw m (sofar-short _ _ _ _ _ c.steps.invariant.so_far)

pub returns-then-done-clause-unfinished : goal.returns-then-done-clause-unfinished
returns-then-done-clause-unfinished g c =
    let none = rw c.steps.invariant.plan at (c.done.ensures.left.0 c.if-done.true) in
    λ h. sofar-tail _ _ _ _ _ (rw none at c.steps.invariant.so_far) (c.write_end-then-done.ensures.unfinished h)

pub returns-clause-unfinished : goal.returns-clause-unfinished
returns-clause-unfinished g c = λ _. sofar-short _ _ _ _ _ c.steps.invariant.so_far
