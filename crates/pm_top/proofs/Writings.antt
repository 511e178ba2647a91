-- What was written of a text that was made whole.
use Rattle.std.proofs.Common.{◌≡◌, ◌≢◌, ◌⊎◌, ◌∙◌, ap, sym, inl, inr, refl, ℕ, Bool, true, false, if◌then◌else◌, nat_lt, List, length, Option, Some, None, Result, Ok, Err}
use Rattle.std.specs.Io.KnownBytes.{Appends}
use Rattle.pm_io.specs.Causes.{AppendsPart}
use Rattle.pm_model.specs.Entries.{run_below}
use Rattle.pm_model.specs.declared.State.{State}
use Rattle.pm_plan.specs.declared.plan.Plan.{Plan}
use Rattle.pm_resume.specs.Cuts.{before, cut_of, resumed, state_below, stuck, unless_stuck}
use Rattle.pm_resume.specs.declared.CutFault.{CutFault}
use Rattle.pm_resume.specs.declared.CutFault.TheVariants as fault
use Rattle.pm_top.proofs.Prints.{text-none}
use Rattle.pm_top.specs.Headline.{EndsRun}
use Rattle.pm_top.specs.Printed.{IsTextPrinted}
use Rattle.pm_scenario.specs.declared.fault.ScenarioFault.{ScenarioFault}
use Rattle.pm_top.specs.declared.outcome.Ending.{Ending}
use Rattle.pm_top.specs.declared.outcome.Ending.TheVariants as ending

ok-same : (p q : Plan) → Path (Result Plan CutFault) (Ok p) (Ok q) → p ≡ q
ok-same p q e = cc

err-ok : (f : CutFault) (q : Plan) → Path (Result Plan CutFault) (Err f) (Ok q) → ⊥
err-ok f q e = cc

-- the endings of a write
abbrev pub Ended : Ending → Type 0
Ended e = (e ≡ ending.Done) ⊎ (e ≡ ending.WriteFault)

pub ended-run : (e : Ending) → Ended e → EndsRun e
ended-run e (inl h) = rw h tt
ended-run e (inr h) = rw h tt

pub ended-plan : (e : Ending) (f : ScenarioFault) → Ended e → e ≢ ending.Refused f
ended-plan e f (inl h) = λ r. cc (h, r)
ended-plan e f (inr h) = λ r. cc (h, r)

pub ended-spent : (e : Ending) → Ended e → e ≢ ending.BudgetSpent
ended-spent e (inl h) = λ r. cc (h, r)
ended-spent e (inr h) = λ r. cc (h, r)

pub ended-retired : (e : Ending) (agent : ℕ) → Ended e → e ≢ ending.Retired agent
ended-retired e agent (inl h) = λ r. cc (h, r)
ended-retired e agent (inr h) = λ r. cc (h, r)

pub ended-illegal : (e : Ending) (line : ℕ) → Ended e → e ≢ ending.Illegal line
ended-illegal e line (inl h) = λ r. cc (h, r)
ended-illegal e line (inr h) = λ r. cc (h, r)

neither : {A : Type 0} (e : Ending) → Ended e → e ≢ ending.Done → e ≢ ending.WriteFault → A
neither e (inl h) done fault = absurd (done h)
neither e (inr h) done fault = absurd (fault h)

pub text-written : (IsText : List ℕ → Type 0) (b : List ℕ) → IsText b → (e : Ending) (old new : Option (List ℕ)) → Ended e
    → (e ≡ ending.Done → Appends old new b) → (e ≡ ending.WriteFault → AppendsPart old new b) → IsTextPrinted IsText e old new
text-written IsText b is e old new ended done fault = record {
  done = λ h. (b, is, done h);
  fault = λ h. (b, is, fault h);
  nothing = λ d f. neither e ended d f;
}

-- nothing was written where the budget is spent, or an agent retired
pub spent-none : (IsText : List ℕ → Type 0) (old : Option (List ℕ)) → IsTextPrinted IsText ending.BudgetSpent old old
spent-none IsText old = record { done = λ h. absurd (cc h); fault = λ h. absurd (cc h); nothing = λ _ _. refl }

pub retired-none : (IsText : List ℕ → Type 0) (agent : ℕ) (old : Option (List ℕ)) → IsTextPrinted IsText (ending.Retired agent) old old
retired-none IsText agent old = record { done = λ h. absurd (cc h); fault = λ h. absurd (cc h); nothing = λ _ _. refl }

-- a cut keeps after how many uses a variable moves
resumed-moves : (p : Plan) (s : State) → (resumed p s).move_after ≡ p.move_after
unfolding resumed
resumed-moves p s = refl

unstuck-moves : (a : Option ℕ) (p q : Plan) → unless_stuck a p ≡ Ok q → q.move_after ≡ p.move_after
unstuck-moves None p q h = ap (λ (x : Plan). x.move_after) (sym (ok-same p q h))
unstuck-moves (Some a) p q h = absurd (err-ok (fault.Retired a) q h)

if-moves : (b : Bool) (p q : Plan) (a : Option ℕ) → (if b then Err fault.BudgetSpent else unless_stuck a p) ≡ Ok q → q.move_after ≡ p.move_after
if-moves true p q a h = absurd (err-ok fault.BudgetSpent q h)
if-moves false p q a h = unstuck-moves a p q h

pub cut-moves : (p q : Plan) (from budget : ℕ) → cut_of p from budget ≡ Ok q → q.move_after ≡ p.move_after
unfolding cut_of
cut-moves p q from budget h =
    let s = state_below p (before from) in
    if-moves (nat_lt budget (length (run_below p (before from)))) (resumed p s) q (stuck p s) h ∙ resumed-moves p s
