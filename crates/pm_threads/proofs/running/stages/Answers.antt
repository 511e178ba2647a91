use Rattle.std.proofs.Common.{◌∙◌, ap, arith, inl, inr, refl, sym}
use Rattle.pm_kernel.proofs.Running.{counts_append, over_done, ran_short, so_far_more}
use Rattle.pm_kernel.proofs.Staging.{if_some}
use Rattle.pm_kernel.specs.Counts.{counted_on, no_counts}
use Rattle.pm_threads.proofs.running.stages.Goals as goal

pub loop-left-preserved : goal.loop-left-preserved
loop-left-preserved g c =
    let p = c.args.plan.now in
    let s = c.args.settings.now in
    let t = c.in-More.ensures.text in
    let w = t.4 c.in-More.made refl in
    let more = c.in-More.ensures.more c.in-More.made refl in
    let m = more.made_more in
    let left = c.loop-left.invariant.left in
    let most = (c.in-More.ensures.most c.in-More.made refl).1 in
    record {
      stands = more.stands;
      left = omega (arith, m, left, most);
      begun = if_some _ s.window more.begun;
      over = λ _. more.begun;
      entries = so_far_more p s c.args.crew.now c.loop-left.crew c.stage.new.crew _ _ _ t.0
          c.loop-left.invariant.entries t.1 w.1;
      counts = w.0 ∙ (ap (λ z. counted_on z t.0) c.loop-left.invariant.counts
          ∙ (counts_append no_counts _ t.0 ∙ ap (counted_on no_counts) (sym t.1.entries)));
      faults = let a = c.loop-left.invariant.faults in let b = c.stage.ensures.faults in omega (arith, a, b);
      stalls = let a = c.loop-left.invariant.stalls in let b = c.stage.ensures.stalls in omega (arith, a, b);
    }

pub returns-in-WriteFault-clause-text : goal.returns-in-WriteFault-clause-text
returns-in-WriteFault-clause-text g c =
    let t = c.in-WriteFault.ensures.text in
    ran_short c.args.plan.now c.args.settings.now c.args.crew.now c.loop-left.crew c.stage.new.crew _ _ _ t.0 _
    (inl refl) c.loop-left.invariant.entries t.1 t.2 (λ _. t.3 refl)

pub returns-in-Memory-clause-text : goal.returns-in-Memory-clause-text
returns-in-Memory-clause-text g c =
    let t = c.in-Memory.ensures.text in
    ran_short c.args.plan.now c.args.settings.now c.args.crew.now c.loop-left.crew c.stage.new.crew _ _ _ t.0 _
    (inr refl) c.loop-left.invariant.entries t.1 t.2 (λ e. absurd (cc))

pub returns-then-is_over-clause-done : goal.returns-then-is_over-clause-done
returns-then-is_over-clause-done g c = λ _.
    let over = c.is_over-2.ensures.0 c.if-is_over.true in
    over_done c.args.plan.now c.args.settings.now c.loop-left.crew c.requires.valid c.loop-left.invariant.stands
    (c.loop-left.invariant.over over) over
