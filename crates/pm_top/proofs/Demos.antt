-- What was written of a generated run, by its outcome.
use Rattle.std.proofs.Common.{◌≡◌, ◌≢◌, ◌⊎◌, ◌∙◌, ap, subst, sym, refl, inl, inr, ℕ, ◌+◌, ◌<◌, ◌^◌, List, [], ◌++◌, append-nil, length, Option, Some, None, Result, Ok, Err, false, arith}
use Rattle.std.specs.Io.KnownBytes.{Appends}
use Rattle.pm_base.specs.declared.rows.Entry.{Entry}
use Rattle.pm_base.specs.declared.run.Event.{Event}
use Rattle.pm_io.specs.Causes.{AppendsPart}
use Rattle.pm_kernel.specs.Counts.{counted, counted_on, hits_in, no_counts, writes_in}
use Rattle.pm_kernel.specs.declared.writing.Counts.{Counts}
use Rattle.pm_kernel.specs.Runs.{IsDone, left_by}
use Rattle.pm_kernel.specs.declared.ran.Outcome.{Outcome}
use Rattle.pm_kernel.specs.declared.ran.Outcome.TheVariants as outcome
use Rattle.pm_model.proofs.Below.{run-short}
use Rattle.pm_model.specs.Runs.{sequential_run}
use Rattle.pm_model.specs.Traces.{trace}
use Rattle.pm_plan.proofs.Valid.{valid_limits}
use Rattle.pm_gen.specs.Generated.{generated}
use Rattle.pm_plan.specs.Plans.{IsValid, numbered, plan_of, refusal, unless_refused}
use Rattle.pm_plan.specs.declared.fault.PlanFault.{PlanFault}
use Rattle.pm_plan.specs.declared.parts.PlanParts.{PlanParts}
use Rattle.pm_plan.specs.declared.plan.Plan.{Plan}
use Rattle.pm_sim.proofs.Kernel.{journal_law}
use Rattle.pm_sim.specs.Journals.{made}
use Rattle.pm_sim.specs.Worlds.{committed}
use Rattle.pm_top.proofs.Committing.{count-is}
use Rattle.pm_top.proofs.Outcomes.{not-done, of-done, of-spent}
use Rattle.pm_top.proofs.Written.{part-none, told-some}
use Rattle.pm_top.specs.Demo.{demo_line, sum_from, told_line}
use Rattle.pm_top.specs.Endings.{ending_of}
use Rattle.pm_top.specs.Printed.{IsDemoPrinted, IsRunPrinted}
use Rattle.pm_top.specs.declared.outcome.Ending.{Ending}
use Rattle.pm_top.specs.declared.outcome.Ending.TheVariants as ending
use Rattle.pm_words.specs.declared.settings.Settings.{Settings}

-- the same run, whose trace alone goes into memory
abbrev pub quiet : Settings → Settings
quiet s = record s { journal = false }

plus-none : (n : ℕ) → 0 + n ≡ n
plus-none n = omega arith

-- what was told of a run is told of its plan, where all is committed
line-is : (s : Settings) (p : Plan) (j : List Event) (c : Counts) (sum : ℕ) → IsValid p → committed p j ≡ sequential_run p → c ≡ counted_on no_counts (committed p j)
    → sum ≡ sum_from 0 (trace p) → told_line s.seed c.steps c.hits c.writes sum ≡ demo_line s.seed p
line-is s p j c sum valid all count e =
    let counts : c ≡ counted_on no_counts (sequential_run p) = count ∙ ap (counted_on no_counts) all in
    let es : List Entry = sequential_run p in
    ap (λ (d : Counts). told_line s.seed d.steps d.hits d.writes sum) counts
    ∙ ap (λ n. told_line s.seed n (counted (0 + hits_in es)) (counted (0 + writes_in es)) sum) (count-is es (run-short p (valid_limits p valid)))
    ∙ ap (λ n. told_line s.seed (length es) (counted n) (counted (0 + writes_in es)) sum) (plus-none (hits_in es))
    ∙ ap (λ n. told_line s.seed (length es) (counted (hits_in es)) (counted n) sum) (plus-none (writes_in es))
    ∙ ap (λ n. told_line s.seed (length es) (counted (hits_in es)) (counted (writes_in es)) n) e

module _ (s : Settings) (p : Plan) (j : List Event) (valid : IsValid p) where
  -- an ending of the run at which nothing is told
  pub demo-stopped : (e f : Ending) (first text old : Option (List ℕ)) → IsRunPrinted (quiet s) p e j first text → f ≢ ending.Done → f ≢ ending.WriteFault
      → (f ≡ ending.BudgetSpent → e ≡ ending.BudgetSpent) → IsDemoPrinted s p f j old old
  demo-stopped e f first text old run undone well spent = record {
    journal = run.journal;
    sequential = run.sequential;
    stays = run.stays;
    done = λ h. absurd (neither h);
    whole = λ h. absurd (undone h);
    spent = λ h. run.spent (spent h);
    nothing = λ _. refl;
    unfinished = λ _. part-none old (demo_line s.seed p) (told-some s.seed _ _ _ _);
  } where
    neither : (f ≡ ending.Done) ⊎ (f ≡ ending.WriteFault) → ⊥
    neither (inl h) = undone h
    neither (inr h) = well h

  module _ (c : Counts) (first text : List ℕ) (run : IsRunPrinted (quiet s) p ending.Done j (Some first) (Some text)) (empty : first ≡ [])
      (count : c ≡ counted_on no_counts (committed p j)) (sum : ℕ) (is : sum ≡ sum_from 0 text) where
    all : committed p j ≡ sequential_run p
    all = (journal_law p s.run.epoch (made j) j valid run.journal.journal).done_all (run.done refl).line

    text-is : text ≡ trace p
    text-is = run.whole refl ∙ ap (λ v. v ++ (trace p ++ [])) empty ∙ append-nil (trace p)

    told-is : told_line s.seed c.steps c.hits c.writes sum ≡ demo_line s.seed p
    told-is = line-is s p j c sum valid all count (is ∙ ap (sum_from 0) text-is)

    pub demo-told : (o : Outcome) (old new : Option (List ℕ)) → o ≢ outcome.BudgetSpent
        → (o ≡ outcome.Done → Appends old new (told_line s.seed c.steps c.hits c.writes sum))
        → (o ≢ outcome.Done → AppendsPart old new (told_line s.seed c.steps c.hits c.writes sum))
        → IsDemoPrinted s p (ending_of o) j old new
    demo-told o old new unspent whole part = record {
      journal = run.journal;
      sequential = run.sequential;
      stays = run.stays;
      done = λ _. run.done refl;
      whole = λ h. subst (Appends old new) told-is (whole (of-done o h));
      spent = λ h. absurd (unspent (of-spent o h));
      nothing = λ h. absurd (unspent (of-spent o h));
      unfinished = λ h. subst (AppendsPart old new) told-is (part (not-done o h));
    }

-- a generated plan says after how many uses a variable moves
ok-plan : (p q : Plan) → Path (Result Plan PlanFault) (Ok p) (Ok q) → p ≡ q
ok-plan p q e = cc

err-plan : (f : PlanFault) (q : Plan) → Path (Result Plan PlanFault) (Err f) (Ok q) → ⊥
err-plan f q e = cc

unrefused : (r : Option PlanFault) (p q : Plan) → unless_refused r p ≡ Ok q → p ≡ q
unrefused None p q h = ok-plan p q h
unrefused (Some f) p q h = absurd (err-plan f q h)

numbered-moves : (parts : PlanParts) → (numbered parts).move_after ≡ parts.move_after
unfolding numbered
numbered-moves parts = refl

four-moves : (seed : ℕ) → (generated seed).move_after ≡ 4
unfolding generated
four-moves seed = refl

plan-moves : (parts : PlanParts) (p : Plan) → plan_of parts ≡ Ok p → p.move_after ≡ parts.move_after
unfolding plan_of
plan-moves parts p h = ap (λ (x : Plan). x.move_after) (sym (unrefused (refusal (numbered parts)) (numbered parts) p h)) ∙ numbered-moves parts

pub generated-moves : (seed : ℕ) (p : Plan) → plan_of (generated seed) ≡ Ok p → p.move_after < 2 ^ 63
generated-moves seed p h = omega (arith, plan-moves (generated seed) p h, four-moves seed)
