-- What was written of a lowest run, by its outcome.
use Rattle.std.proofs.Common.{◌≡◌, ◌≢◌, ◌⊎◌, ◌∙◌, ℕ, ◌+◌, ◌≤◌, inl, inr, List, [], ◌++◌, Option, ap, arith, sym}
use Rattle.std.specs.Io.KnownBytes.{Appends}
use Rattle.pm_base.specs.declared.run.Event.{Event}
use Rattle.pm_calm.proofs.Endings.{lowest_ends, part_commits, part_legal}
use Rattle.pm_calm.proofs.Runs.{part_calm}
use Rattle.pm_calm.specs.Calm.{CommitsSequential}
use Rattle.pm_calm.specs.Lowest.{LowestRun, PartOfLowest, lowest}
use Rattle.pm_io.specs.Causes.{AppendsPart, AppendsPrefix}
use Rattle.pm_kernel.specs.Counts.{counted_on, no_counts}
use Rattle.pm_kernel.specs.Runs.{IsDone, IsSpent, text_of}
use Rattle.pm_kernel.specs.declared.ran.Outcome.{Outcome}
use Rattle.pm_kernel.specs.declared.ran.Outcome.TheVariants as outcome
use Rattle.pm_kernel.specs.declared.writing.Counts.{Counts}
use Rattle.pm_lowest.specs.Runs.{IsBudgetSpent}
use Rattle.pm_model.specs.Traces.{end_line}
use Rattle.pm_plan.specs.Plans.{IsValid}
use Rattle.pm_plan.specs.declared.plan.Plan.{Plan}
use Rattle.pm_sim.proofs.Heads.{made_append}
use Rattle.pm_sim.proofs.Promised.{committed-stays}
use Rattle.pm_sim.specs.Journals.{made}
use Rattle.pm_sim.specs.Worlds.{committed}
use Rattle.pm_top.proofs.Committing.{IsWritten, wrote-done, wrote-stopped}
use Rattle.pm_top.proofs.Outcomes.{of-done, of-spent}
use Rattle.pm_top.specs.Endings.{ending_of}
use Rattle.pm_top.specs.Outputs.{asked_lines}
use Rattle.pm_top.specs.Printed.{IsLowestPrinted}
use Rattle.pm_words.specs.declared.settings.Settings.{Settings}

module _ (s : Settings) (p : Plan) (j : List Event) (valid : IsValid p) (part : PartOfLowest s.run.budget p j) where
  -- it has no more deliveries than the whole run
  few : made j ≤ s.run.budget
  few =
      let a = made_append j part.0 in
      let e = ap made part.1 in
      elim (lowest_ends s.run.budget p valid) [
        | inl h ↦ (let q = h.0 in omega (arith, a, e, q))
        | inr h ↦ (let q = h.0 in omega (arith, a, e, q))
      ]

  commits : CommitsSequential p j
  commits = part_commits s.run.budget p j valid part

  lowest-printed : (o : Outcome) (old new : Option (List ℕ))
      → ((o ≡ outcome.Done) ⊎ (o ≡ outcome.BudgetSpent) → LowestRun s.run.budget p j)
      → IsWritten s p (ending_of o) j old new → IsLowestPrinted s p (ending_of o) j old new
  lowest-printed o old new whole w = record {
    journal = part;
    lowest = λ h. whole (elim h [ inl e ↦ inl (of-done o e) | inr e ↦ inr (of-spent o e) ]);
    legal = part_legal s.run.budget p j valid part;
    few = few;
    calm = λ h. part_calm s.run.budget p j valid part;
    sequential = commits.below;
    stays = λ k rest h. (_, ap (committed p) h ∙ committed-stays p k rest);
    done = w.done;
    whole = w.whole;
    spent = w.spent;
    lines = w.lines;
    part = w.part;
    unfinished = w.unfinished;
    lacks = w.lacks;
  }

  pub low-stopped : (old new : Option (List ℕ)) (o : Outcome) → o ≢ outcome.Done
      → ((o ≡ outcome.Done) ⊎ (o ≡ outcome.BudgetSpent) → LowestRun s.run.budget p j)
      → (o ≡ outcome.BudgetSpent → IsBudgetSpent s.run.budget p j)
      → ((o ≡ outcome.Done) ⊎ (o ≡ outcome.BudgetSpent) → Appends old new (text_of p j))
      → (o ≡ outcome.WriteFault → AppendsPart old new (text_of p j))
      → AppendsPrefix old new (text_of p j) → IsLowestPrinted s p (ending_of o) j old new
  low-stopped old new o undone run spent whole lacks some = lowest-printed o old new run
      (wrote-stopped s p j valid commits.below commits.all old new o undone
      (λ h. let x = spent h in record { made_all = x.made_all; more = x.more }) whole lacks some)

  pub low-done : (c : Counts) (old now new : Option (List ℕ)) → LowestRun s.run.budget p j → IsDone p j
      → Appends old now (text_of p j) → c ≡ counted_on no_counts (committed p j) → (o : Outcome) → o ≢ outcome.BudgetSpent
      → (o ≡ outcome.Done → Appends now new (end_line c.steps ++ asked_lines s.journal j))
      → (o ≢ outcome.Done → AppendsPart now new (end_line c.steps ++ asked_lines s.journal j))
      → IsLowestPrinted s p (ending_of o) j old new
  low-done c old now new run done grew count o unspent full some = lowest-printed o old new (λ h. run)
      (wrote-done s p j valid commits.below commits.all c old now new done grew count o unspent full some)
