use Rattle.std.proofs.Common.{◌≡◌, ◌∙◌, ◌⊎◌, inl, inr, ap, sym, length, Err}
use Rattle.pm_plan.specs.Plans.{plan_of, all_vars}
use Rattle.pm_plan.specs.declared.fault.PlanFault.TheVariants as fault
use Rattle.pm_plan.proofs.Made.{passed_ok, passed_err, passed_on, same_counts, count_refused, later_refused, plan_made, few_parts}
use Rattle.pm_plan.proofs.plan.Plan.make.Goals as goal

pub returns-in_err-check_counts-clause-refused : goal.returns-in_err-check_counts-clause-refused
returns-in_err-check_counts-clause-refused c =
    let f = c.in_err-check_counts.field-0.0 in
    let e = passed_err _ _ (sym c.in_err-check_counts.ensures) in
    let same = same_counts _ _ _ _ _ _ _ _ c.len.ensures c.len-2.ensures (c.count_vars-vars.ensures ∙ ap (λ cs. length (all_vars cs)) c.as_slice.ensures) c.len-3.ensures in
    passed_on (λ g. (g ≡ fault.Memory) ⊎ (plan_of c.args.parts ≡ Err g)) c.from_residual.result f c.from_residual.ensures.1 (inr (count_refused c.args.parts f (sym same ∙ e)))

pub check-requires : goal.check-requires
check-requires c =
    let same = same_counts _ _ _ _ _ _ _ _ c.len.ensures c.len-2.ensures (c.count_vars-vars.ensures ∙ ap (λ cs. length (all_vars cs)) c.as_slice.ensures) c.len-3.ensures in
    few_parts c.args.parts c.in_ok-plan.plan c.in_ok-plan.ensures.made (sym same ∙ passed_ok _ _ (sym c.check_counts.ensures ∙ c.in_ok-check_counts.was))

pub returns-in_err-check-clause-refused : goal.returns-in_err-check-clause-refused
returns-in_err-check-clause-refused c =
    let f = c.in_err-check.field-0.0 in
    let same = same_counts _ _ _ _ _ _ _ _ c.len.ensures c.len-2.ensures (c.count_vars-vars.ensures ∙ ap (λ cs. length (all_vars cs)) c.as_slice.ensures) c.len-3.ensures in
    let counted = sym same ∙ passed_ok _ _ (sym c.check_counts.ensures ∙ c.in_ok-check_counts.was) in
    passed_on (λ g. (g ≡ fault.Memory) ⊎ (plan_of c.args.parts ≡ Err g)) c.from_residual-in_err-check.result f c.from_residual-in_err-check.ensures.1 (elim c.check.ensures [
      | inl m ↦ inl (let e = sym c.in_err-check.was ∙ m in cc)
      | inr r ↦ inr (later_refused c.args.parts c.in_ok-plan.plan f c.in_ok-plan.ensures.made counted (passed_err _ _ (sym r ∙ c.in_err-check.was)))
    ])

pub returns-clause-made : goal.returns-clause-made
returns-clause-made c =
    let same = same_counts _ _ _ _ _ _ _ _ c.len.ensures c.len-2.ensures (c.count_vars-vars.ensures ∙ ap (λ cs. length (all_vars cs)) c.as_slice.ensures) c.len-3.ensures in
    let counted = sym same ∙ passed_ok _ _ (sym c.check_counts.ensures ∙ c.in_ok-check_counts.was) in
    plan_made c.args.parts c.in_ok-plan.plan c.in_ok-plan.ensures.made counted (elim c.check.ensures [
      | inl m ↦ absurd (let e = sym c.in_ok-check.was ∙ m in cc)
      | inr r ↦ passed_ok _ _ (sym r ∙ c.in_ok-check.was)
    ])

pub returns-clause-valid : goal.returns-clause-valid
returns-clause-valid c = record { parts = c.args.parts; made = returns-clause-made c; rules = c.requires.rules; pairs = c.in_ok-plan.ensures.pairs }
