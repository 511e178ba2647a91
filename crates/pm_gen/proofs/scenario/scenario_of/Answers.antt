use Rattle.std.proofs.Common.{◌≡◌, true, length, ◌<◌, ◌^◌, ap, inl, inr, subst, sym, ◌∙◌}
use Rattle.pm_plan.specs.Plans.{all_vars, plan_of, rules_fit}
use Rattle.pm_plan.specs.declared.parts.PlanParts.{PlanParts}
use Rattle.pm_gen.proofs.Programs.{rules_do_fit, vars_few}
use Rattle.pm_gen.proofs.Refusals.{never_refused}
use Rattle.pm_gen.proofs.scenario.scenario_of.Goals as goal

pub make-requires-clause-few : goal.make-requires-clause-few
make-requires-clause-few c =
    subst (λ (p : PlanParts). length (all_vars p.classes) < 2 ^ 32) (sym c.in_ok-parts.ensures) (vars_few c.args.number)

pub make-requires-clause-rules : goal.make-requires-clause-rules
make-requires-clause-rules c =
    subst (λ (p : PlanParts). rules_fit p.classes p.agents ≡ true) (sym c.in_ok-parts.ensures)
    (rules_do_fit c.args.number)

pub unreachable-requires : goal.unreachable-requires
unreachable-requires c =
    elim c.in-Err.ensures.refused [
      | inl memory ↦ c.in_default.not-Memory memory
      | inr refused ↦ never_refused c.args.number c.in-Err.fault (ap plan_of (sym c.in_ok-parts.ensures) ∙ refused)
    ]
