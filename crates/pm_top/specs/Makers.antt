-- What makes the run of a plan, whether on threads or on one.
use Rattle.std.specs.Prelude.{◌≡◌, ◌⊎◌, ℕ, ◌≤◌, List, Option}
use Rattle.std.specs.Fn.{Once}
use Rattle.std.specs.Io.KnownBytes.{Appends}
use denote.Ref.{Bor, MutBor}
use Rattle.pm_base.specs.declared.run.RunSettings.{RunSettings}
use Rattle.pm_io.specs.Causes.{AppendsPart, AppendsPrefix}
use Rattle.pm_kernel.specs.Counts.{counted_on, no_counts}
use Rattle.pm_kernel.specs.Runs.{IsDone, IsJournal, IsSpent, text_of}
use Rattle.pm_kernel.specs.declared.ran.Outcome.TheVariants as outcome
use Rattle.pm_kernel.specs.declared.ran.Ran.{Ran}
use Rattle.pm_plan.specs.Plans.{IsValid}
use Rattle.pm_plan.specs.declared.plan.Plan.{Plan}
use Rattle.pm_sim.specs.Worlds.{committed}
use Rattle.pm_top.specs.Speech.{Fails, SinkSight}
use Rattle.pm_words.specs.Ranges.{IsInRange}

-- a plan's run came to this, and wrote of what its journal commits: all where it is done or its budget is spent, else a
-- part
pub record CameTo (p : Plan) (s : RunSettings) (r : Ran) (old new : SinkSight) : Type 0 where
  pub journal : IsJournal p s r.journal
  pub whole : (r.outcome ≡ outcome.Done) ⊎ (r.outcome ≡ outcome.BudgetSpent) → Appends old.holds new.holds (text_of p r.journal)
  pub part : AppendsPrefix old.holds new.holds (text_of p r.journal)
  pub lacks : r.outcome ≡ outcome.WriteFault → AppendsPart old.holds new.holds (text_of p r.journal)
  pub done : r.outcome ≡ outcome.Done → IsDone p r.journal
  pub spent : r.outcome ≡ outcome.BudgetSpent → IsSpent p s r.journal
  pub counts : r.outcome ≡ outcome.Done → r.counts ≡ counted_on no_counts (committed p r.journal)
  pub cause : r.outcome ≡ outcome.WriteFault → Fails old new
  pub faults : old.faults ≤ new.faults
  pub stalls : old.stalls ≤ new.stalls

-- a function that may be called once with a valid plan, settings in their ranges and a sink, and makes the run
pub record Makes {F K : Type 0} (g : Once F (Bor Plan × (Bor RunSettings × (MutBor K × Unit {0}))) (Ran × (MutBor K × Unit {0})))
    (sees : K → SinkSight) (make : F) : Type 0 where
  pub takes : (p : Bor Plan) (s : Bor RunSettings) (o : MutBor K) → IsValid p.now → IsInRange s.now
      → g.pre make (p, (s, (o, tt)))
  pub gives : (p : Bor Plan) (s : Bor RunSettings) (o : MutBor K) (r : Ran) (o' : MutBor K) → IsValid p.now → IsInRange s.now
      → g.post make (p, (s, (o, tt))) (r, (o', tt)) → CameTo p.now s.now r (sees o.now) (sees o'.now)
