use Rattle.std.proofs.Common.{◌≡◌, ◌∙◌, ◌<◌, ◌^◌, ℕ, refl, subst, sym}
use Rattle.pm_top.proofs.Prints.{quits-memory, text-none}
use Rattle.pm_top.proofs.Writings.{cut-moves, ended-illegal, ended-plan, ended-retired, ended-run, ended-spent, retired-none, spent-none, text-written}
use Rattle.pm_top.specs.Printed.{IsRestText}
use Rattle.pm_top.specs.declared.outcome.Ending.TheVariants as ending
use Rattle.pm_top.proofs.texts.write_cut.Goals as goal

pub returns-in-Ok-print_plan-clause-printed : goal.returns-in-Ok-print_plan-clause-printed
returns-in-Ok-print_plan-clause-printed g c =
    let w = c.write_text.ensures in
    let s = c.args.settings.now in
    record {
      printed = text-written (IsRestText c.args.plan.now s.from s.run.budget) _ (record {
        plan = c.in-Ok.rest;
        is = c.in-Ok.ensures.made;
        rest = c.in-Ok.ensures.goes_on;
        text = c.in-Ok-print_plan.ensures.again;
      }) c.write_text.result _ _ w.ended (rw c.as_bytes.ensures.value at w.done) (rw c.as_bytes.ensures.value at w.fault);
      spent = λ h. absurd (ended-spent c.write_text.result w.ended h);
      retired = λ agent h. absurd (ended-retired c.write_text.result agent w.ended h);
    }

pub returns-in-Ok-print_plan-clause-ran : goal.returns-in-Ok-print_plan-clause-ran
returns-in-Ok-print_plan-clause-ran g c = ended-run c.write_text.result c.write_text.ensures.ended

pub returns-in-Ok-print_plan-clause-plan : goal.returns-in-Ok-print_plan-clause-plan
returns-in-Ok-print_plan-clause-plan g c = λ f. ended-plan c.write_text.result f c.write_text.ensures.ended

pub returns-in-Ok-print_plan-clause-illegal : goal.returns-in-Ok-print_plan-clause-illegal
returns-in-Ok-print_plan-clause-illegal g c = λ line. ended-illegal c.write_text.result line c.write_text.ensures.ended

pub print_plan-requires-clause-move_after : goal.print_plan-requires-clause-move_after
print_plan-requires-clause-move_after g c =
    subst (λ (n : ℕ). n < 2 ^ 63) (sym (cut-moves c.args.plan.now c.in-Ok.rest _ _ c.in-Ok.ensures.made)) c.requires.moves
