use Rattle.std.proofs.Common.{ap, refl, Err}
use Rattle.pm_top.proofs.Prints.{quits-memory, text-none}
use Rattle.pm_top.proofs.Writings.{ended-illegal, ended-plan, ended-retired, ended-run, ended-spent, spent-none, text-written}
use Rattle.pm_top.specs.Printed.{IsPlacingText}
use Rattle.pm_top.specs.declared.outcome.Ending.TheVariants as ending
use Rattle.pm_top.proofs.texts.write_place.Goals as goal

pub returns-in-Ok-placing_text-clause-printed : goal.returns-in-Ok-placing_text-clause-printed
returns-in-Ok-placing_text-clause-printed g c =
    let w = c.write_text.ensures in
    let p = c.in-Ok.ensures in
    record {
      printed = text-written (IsPlacingText c.args.plan.now) _ (record {
        placing = c.in-Ok.placing;
        least = record { placement = p.placement; parts = p.costs; sum = p.total; cost = p.cost; least = p.least; lesser = p.ties };
        text = c.in-Ok-placing_text.ensures;
      }) c.write_text.result _ _ w.ended (rw c.as_slice.ensures.value at w.done) (rw c.as_slice.ensures.value at w.fault);
      within = λ _. p.within;
      more = λ h. absurd (ended-spent c.write_text.result w.ended h);
    }

pub returns-in-Ok-placing_text-clause-ran : goal.returns-in-Ok-placing_text-clause-ran
returns-in-Ok-placing_text-clause-ran g c = ended-run c.write_text.result c.write_text.ensures.ended

pub returns-in-Ok-placing_text-clause-plan : goal.returns-in-Ok-placing_text-clause-plan
returns-in-Ok-placing_text-clause-plan g c = λ f. ended-plan c.write_text.result f c.write_text.ensures.ended

pub returns-in-Err-Memory-clause-printed : goal.returns-in-Err-Memory-clause-printed
returns-in-Err-Memory-clause-printed g c = record {
  printed = text-none (IsPlacingText c.args.plan.now) ending.Memory (g.K.Sink.holds c.args.out.now) quits-memory;
  within = λ h. absurd (cc h);
  more = λ h. absurd (cc h);
}

pub returns-in-Err-BudgetSpent-clause-printed : goal.returns-in-Err-BudgetSpent-clause-printed
returns-in-Err-BudgetSpent-clause-printed g c = record {
  printed = spent-none (IsPlacingText c.args.plan.now) (g.K.Sink.holds c.args.out.now);
  within = λ h. absurd (cc h);
  more = λ _. c.in-Err-BudgetSpent.ensures.spent (ap Err c.in-Err-BudgetSpent.field-0-is);
}

pub returns-in-Ok-placing_text-clause-retired : goal.returns-in-Ok-placing_text-clause-retired
returns-in-Ok-placing_text-clause-retired g c = λ agent. ended-retired c.write_text.result agent c.write_text.ensures.ended

pub returns-in-Ok-placing_text-clause-illegal : goal.returns-in-Ok-placing_text-clause-illegal
returns-in-Ok-placing_text-clause-illegal g c = λ line. ended-illegal c.write_text.result line c.write_text.ensures.ended
