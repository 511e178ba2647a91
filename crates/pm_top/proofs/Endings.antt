-- Which ending comes.
use Rattle.std.proofs.Common.{◌≡◌, ◌≢◌, ◌⊎◌, inl, inr, refl}
use Rattle.pm_top.specs.Headline.{EndsRun, WritesNothing}
use Rattle.pm_top.specs.Endings.{Accepts}
use Rattle.pm_scenario.specs.declared.fault.ScenarioFault.{ScenarioFault}
use Rattle.pm_top.specs.declared.outcome.Ending.{Ending}
use Rattle.pm_top.specs.declared.outcome.Ending.TheVariants as ending

-- a run that writes nothing was refused
pub runs-nothing : (e : Ending) → EndsRun e → WritesNothing e → (f : ScenarioFault) × (e ≡ ending.Refused f)
runs-nothing ending.Done r n = absurd n
runs-nothing ending.Words r n = absurd r
runs-nothing (ending.Refused f) r n = (f, refl)
runs-nothing ending.TooLong r n = absurd r
runs-nothing ending.InputTooLong r n = absurd r
runs-nothing (ending.Illegal line) r n = absurd n
runs-nothing ending.BudgetSpent r n = absurd n
runs-nothing ending.ReadFault r n = absurd r
runs-nothing ending.WriteFault r n = absurd n
runs-nothing ending.Memory r n = absurd n
runs-nothing (ending.Retired agent) r n = absurd n

-- a run that isn't refused ends as a scenario alone can, or for want of memory
pub runs-accepted : (e : Ending) → EndsRun e → ((f : ScenarioFault) → e ≢ ending.Refused f) → Accepts e ⊎ (e ≡ ending.Memory)
runs-accepted ending.Done r n = inl tt
runs-accepted ending.Words r n = absurd r
runs-accepted (ending.Refused f) r n = absurd (n f refl)
runs-accepted ending.TooLong r n = absurd r
runs-accepted ending.InputTooLong r n = absurd r
runs-accepted (ending.Illegal line) r n = inl tt
runs-accepted ending.BudgetSpent r n = inl tt
runs-accepted ending.ReadFault r n = absurd r
runs-accepted ending.WriteFault r n = inl tt
runs-accepted ending.Memory r n = inr refl
runs-accepted (ending.Retired agent) r n = inl tt
