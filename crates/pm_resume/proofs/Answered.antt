-- What a cut answers.
use Rattle.std.proofs.Common.{◌≡◌, ◌∙◌, ℕ, ◌<◌, true, false, Option, Some, None, Ok, Err, length, nat_lt, cond, ap, sym, subst, arith}
use Rattle.std.proofs.lemmas.Bool.Decides.{nat_tests}
use Rattle.pm_plan.specs.Plans.{HavePairs, IsValid}
use Rattle.pm_plan.specs.declared.plan.Plan.{Plan}
use Rattle.pm_model.specs.Entries.{run_below}
use Rattle.pm_model.specs.Runs.{sequential_run}
use Rattle.pm_model.specs.declared.State.{State}
use Rattle.pm_resume.proofs.Makes.{resumed_valid}
use Rattle.pm_resume.proofs.Resumes.{resumed_run}
use Rattle.pm_resume.specs.Cuts.{before, cut_of, going_on, resumed, run_from, state_below, stuck, unless_stuck}
use Rattle.pm_resume.specs.Reached.{HasReached}
use Rattle.pm_resume.specs.declared.CutFault.TheVariants as fault

-- more steps lie before the time than the budget allows
pub cut_spent : (plan q : Plan) (from budget : ℕ) → q ≡ plan → budget < length (run_below q (before from)) → cut_of plan from budget ≡ Err fault.BudgetSpent
unfolding cut_of
cut_spent plan q from budget same more =
    let lt : budget < length (run_below plan (before from)) = subst (λ (p : Plan). budget < length (run_below p (before from))) same more in
    let t : nat_lt budget (length (run_below plan (before from))) ≡ true = grind (arith, nat_tests, lt) in
    ap (λ b. cond b (Err fault.BudgetSpent) (going_on plan (state_below plan (before from)))) t

same_plan : (plan q : Plan) (from budget : ℕ) (s : State) → q ≡ plan → HasReached q from budget s → HasReached plan from budget s
same_plan plan q from budget s same r = subst (λ (p : Plan). HasReached p from budget s) same r

-- else it is the plan that goes on from the state
pub cut_goes_on : (plan q : Plan) (from budget : ℕ) (s : State) → q ≡ plan → HasReached q from budget s → cut_of plan from budget ≡ going_on plan s
unfolding cut_of
cut_goes_on plan q from budget s same there =
    let r = same_plan plan q from budget s same there in
    let few = r.few in
    let t : nat_lt budget (length (run_below plan (before from))) ≡ false = grind (arith, nat_tests, few) in
    ap (λ b. cond b (Err fault.BudgetSpent) (going_on plan (state_below plan (before from)))) t
    ∙ ap (going_on plan) r.state

pub cut_stuck : (plan q : Plan) (from budget agent : ℕ) (s : State) → q ≡ plan → HasReached q from budget s → stuck plan s ≡ Some agent
    → cut_of plan from budget ≡ Err (fault.Retired agent)
cut_stuck plan q from budget agent s same there is =
    cut_goes_on plan q from budget s same there ∙ ap (λ (o : Option ℕ). unless_stuck o (resumed plan s)) is

pub cut_made : (plan q new : Plan) (from budget : ℕ) (s : State) → q ≡ plan → HasReached q from budget s → stuck plan s ≡ None → new ≡ resumed plan s
    → cut_of plan from budget ≡ Ok new
cut_made plan q new from budget s same there none is =
    cut_goes_on plan q from budget s same there ∙ ap (λ (o : Option ℕ). unless_stuck o (resumed plan s)) none ∙ ap Ok (sym is)

pub cut_run : (plan q new : Plan) (from budget : ℕ) (s : State) → q ≡ plan → HasReached q from budget s → new ≡ resumed plan s
    → sequential_run new ≡ run_from plan from
cut_run plan q new from budget s same there is =
    let r = same_plan plan q from budget s same there in
    ap sequential_run is ∙ resumed_run plan s r.timely r.shape ∙ r.left

pub cut_valid : (plan q new : Plan) (from budget : ℕ) (s : State) → IsValid plan → q ≡ plan → HasReached q from budget s → stuck plan s ≡ None → new ≡ resumed plan s
    → HavePairs new.vars → IsValid new
cut_valid plan q new from budget s valid same there none is pairs =
    let r = same_plan plan q from budget s same there in
    subst IsValid (sym is) (resumed_valid plan s valid r.timely r.shape none (subst (λ (p : Plan). HavePairs p.vars) is pairs))
