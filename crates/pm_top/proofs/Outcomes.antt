-- Which outcome an ending comes of.
use Rattle.std.proofs.Common.{◌≡◌, ◌≢◌, refl, ℕ}
use Rattle.pm_kernel.specs.declared.ran.Outcome.{Outcome}
use Rattle.pm_kernel.specs.declared.ran.Outcome.TheVariants as outcome
use Rattle.pm_scenario.specs.declared.fault.ScenarioFault.{ScenarioFault}
use Rattle.pm_top.specs.Endings.{ending_of}
use Rattle.pm_top.specs.Headline.{EndsRun}
use Rattle.pm_top.specs.declared.outcome.Ending.TheVariants as ending

pub of-done : (o : Outcome) → ending_of o ≡ ending.Done → o ≡ outcome.Done
of-done outcome.Done h = refl
of-done outcome.BudgetSpent h = absurd (cc h)
of-done outcome.WriteFault h = absurd (cc h)
of-done outcome.Memory h = absurd (cc h)

pub of-spent : (o : Outcome) → ending_of o ≡ ending.BudgetSpent → o ≡ outcome.BudgetSpent
of-spent outcome.Done h = absurd (cc h)
of-spent outcome.BudgetSpent h = refl
of-spent outcome.WriteFault h = absurd (cc h)
of-spent outcome.Memory h = absurd (cc h)

pub of-fault : (o : Outcome) → ending_of o ≡ ending.WriteFault → o ≡ outcome.WriteFault
of-fault outcome.Done h = absurd (cc h)
of-fault outcome.BudgetSpent h = absurd (cc h)
of-fault outcome.WriteFault h = refl
of-fault outcome.Memory h = absurd (cc h)

pub not-done : (o : Outcome) → ending_of o ≢ ending.Done → o ≢ outcome.Done
not-done outcome.Done h = λ _. h refl
not-done outcome.BudgetSpent h = λ e. cc e
not-done outcome.WriteFault h = λ e. cc e
not-done outcome.Memory h = λ e. cc e

pub not-refused : (o : Outcome) (f : ScenarioFault) → ending_of o ≢ ending.Refused f
not-refused outcome.Done f = λ e. cc e
not-refused outcome.BudgetSpent f = λ e. cc e
not-refused outcome.WriteFault f = λ e. cc e
not-refused outcome.Memory f = λ e. cc e

-- a run's ending begins with the whole input
pub of-run : (o : Outcome) → EndsRun (ending_of o)
of-run outcome.Done = tt
of-run outcome.BudgetSpent = tt
of-run outcome.WriteFault = tt
of-run outcome.Memory = tt

pub not-retired : (o : Outcome) (agent : ℕ) → ending_of o ≢ ending.Retired agent
not-retired outcome.Done agent = λ e. cc e
not-retired outcome.BudgetSpent agent = λ e. cc e
not-retired outcome.WriteFault agent = λ e. cc e
not-retired outcome.Memory agent = λ e. cc e

pub not-illegal : (o : Outcome) (line : ℕ) → ending_of o ≢ ending.Illegal line
not-illegal outcome.Done line = λ e. cc e
not-illegal outcome.BudgetSpent line = λ e. cc e
not-illegal outcome.WriteFault line = λ e. cc e
not-illegal outcome.Memory line = λ e. cc e
