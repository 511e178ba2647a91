-- What was written of an optimistic run, by its outcome.
use Rattle.std.proofs.Common.{◌≡◌, ◌≢◌, ◌⊎◌, ◌∙◌, ap, sym, subst, refl, inl, inr, ℕ, ◌+◌, ◌-◌, ◌^◌, ◌<◌, List, ◌++◌, length, length-append, append_assoc, Option, arith}
use Rattle.std.proofs.Math.Nat.{min-eq_left}
use Rattle.std.proofs.lemmas.Grind.{flat_map-append}
use Rattle.std.proofs.lemmas.List.{take_at}
use Rattle.std.specs.Io.KnownBytes.{Appends}
use Rattle.pm_base.specs.declared.rows.Entry.{Entry}
use Rattle.pm_base.specs.declared.run.Event.{Event}
use Rattle.pm_base.specs.declared.stamp.Line.TheVariants as the_line
use Rattle.pm_io.specs.Causes.{AppendsPart, AppendsPrefix}
use Rattle.pm_io.proofs.Known.{appends-append, prefix-all, prefix-part}
use Rattle.pm_kernel.specs.Counts.{counted, counted_on, no_counts}
use Rattle.pm_kernel.specs.declared.writing.Counts.{Counts}
use Rattle.pm_kernel.specs.Runs.{IsDone, IsJournal, IsSpent, left_by, text_of}
use Rattle.pm_kernel.specs.declared.ran.Outcome.{Outcome}
use Rattle.pm_kernel.specs.declared.ran.Outcome.TheVariants as outcome
use Rattle.pm_model.proofs.Below.{run-cut, run-short}
use Rattle.pm_model.specs.Entries.{IsCutAt, run_below}
use Rattle.pm_model.specs.Runs.{sequential_run}
use Rattle.pm_model.specs.Traces.{end_line, line, trace_text}
use Rattle.pm_plan.proofs.Valid.{valid_limits}
use Rattle.pm_plan.specs.Plans.{IsValid}
use Rattle.pm_plan.specs.declared.plan.Plan.{Plan}
use Rattle.pm_sim.proofs.Kernel.{journal_law}
use Rattle.pm_sim.specs.Journals.{JournalLaw, made}
use Rattle.pm_sim.specs.Worlds.{committed}
use Rattle.pm_top.proofs.Written.{end-some, part-after}
use Rattle.pm_top.specs.Endings.{ending_of}
use Rattle.pm_top.specs.Outputs.{asked_lines, run_output}
use Rattle.pm_top.specs.Printed.{IsRunPrinted, LacksCommitted, PrintsCommitted}
use Rattle.pm_top.specs.declared.outcome.Ending.{Ending}
use Rattle.pm_top.specs.declared.outcome.Ending.TheVariants as ending
use Rattle.pm_words.specs.declared.settings.Settings.{Settings}

-- a prefix of a first part lacks a byte of the whole, where more follows
pub prefix-short : (old new : Option (List ℕ)) (xs ys : List ℕ) → AppendsPrefix old new xs → 0 < length ys → AppendsPart old new (xs ++ ys)
prefix-short old new xs ys a some =
    let whole : xs ++ ys ≡ a.0 ++ (a.1 ++ ys) = ap (λ v. v ++ ys) a.2 ∙ append_assoc a.0 a.1 ys in (
      length a.0,
      omega (arith, some, ap length whole, length-append a.0 (a.1 ++ ys), length-append a.1 ys),
      rw (whole, take_at a.0 (a.1 ++ ys) (length a.0) refl) a.3,
    )

-- a count that is below its type's end is exact
pub count-is : (xs : List Entry) → length xs < 2 ^ 64 → (counted_on no_counts xs).steps ≡ length xs
count-is xs few =
    let plain : 0 + length xs ≡ length xs = omega arith in
    ap counted plain ∙ min-eq_left (omega (arith, few))

-- what out grew by in a run with this journal
pub record IsWritten (s : Settings) (p : Plan) (e : Ending) (j : List Event) (old new : Option (List ℕ)) : Type 0 where
  pub done : e ≡ ending.Done → IsDone p j
  pub whole : e ≡ ending.Done → Appends old new (run_output s.journal p j)
  pub spent : e ≡ ending.BudgetSpent → IsSpent p s.run j
  pub lines : e ≡ ending.BudgetSpent → Appends old new (text_of p j)
  pub part : PrintsCommitted s p j old new
  pub unfinished : e ≢ ending.Done → AppendsPart old new (run_output s.journal p j)
  pub lacks : e ≡ ending.WriteFault → LacksCommitted s p j old new

module _ (s : Settings) (p : Plan) (j : List Event) (valid : IsValid p)
    (sequential : committed p j ≡ run_below p (left_by p j).line)
    (all : (left_by p j).line ≡ the_line.End → committed p j ≡ sequential_run p) where
  cut : IsCutAt p (left_by p j).line
  cut = run-cut p (left_by p j).line (valid_limits p valid)

  -- the run is what was committed, and what is left of it
  parts : sequential_run p ≡ committed p j ++ cut.left
  parts = cut.parts ∙ ap (λ es. es ++ cut.left) (sym sequential)

  -- what follows the lines of what was committed
  behind : List ℕ
  behind = (trace_text p cut.left ++ end_line (length (sequential_run p))) ++ asked_lines s.journal j

  output-is : run_output s.journal p j ≡ text_of p j ++ behind
  unfolding behind
  output-is =
      ap (λ es. (trace_text p es ++ end_line (length (sequential_run p))) ++ asked_lines s.journal j) parts
      ∙ ap (λ v. (v ++ end_line (length (sequential_run p))) ++ asked_lines s.journal j) (flat_map-append (line p) (committed p j) cut.left)
      ∙ ap (λ v. v ++ asked_lines s.journal j) (append_assoc (text_of p j) (trace_text p cut.left) (end_line (length (sequential_run p))))
      ∙ append_assoc (text_of p j) (trace_text p cut.left ++ end_line (length (sequential_run p))) (asked_lines s.journal j)

  behind-some : 0 < length behind
  unfolding behind
  behind-some = omega (
    arith,
    end-some (length (sequential_run p)),
    length-append (trace_text p cut.left ++ end_line (length (sequential_run p))) (asked_lines s.journal j),
    length-append (trace_text p cut.left) (end_line (length (sequential_run p))),
  )

  short : (old new : Option (List ℕ)) → AppendsPrefix old new (text_of p j) → AppendsPart old new (run_output s.journal p j)
  short old new a = rw output-is (prefix-short old new (text_of p j) behind a behind-some)

  wrote-spent : (old new : Option (List ℕ)) → IsSpent p s.run j → Appends old new (text_of p j) → IsWritten s p ending.BudgetSpent j old new
  wrote-spent old new spent a = record {
    done = λ h. absurd (cc h);
    whole = λ h. absurd (cc h);
    spent = λ _. spent;
    lines = λ _. a;
    part = inl (prefix-all old new (text_of p j) a);
    unfinished = λ _. short old new (prefix-all old new (text_of p j) a);
    lacks = λ h. absurd (cc h);
  }

  wrote-fault : (old new : Option (List ℕ)) → AppendsPart old new (text_of p j) → IsWritten s p ending.WriteFault j old new
  wrote-fault old new a = record {
    done = λ h. absurd (cc h);
    whole = λ h. absurd (cc h);
    spent = λ h. absurd (cc h);
    lines = λ h. absurd (cc h);
    part = inl (prefix-part old new (text_of p j) a);
    unfinished = λ _. short old new (prefix-part old new (text_of p j) a);
    lacks = λ _. inl a;
  }

  wrote-memory : (old new : Option (List ℕ)) → AppendsPrefix old new (text_of p j) → IsWritten s p ending.Memory j old new
  wrote-memory old new a = record {
    done = λ h. absurd (cc h);
    whole = λ h. absurd (cc h);
    spent = λ h. absurd (cc h);
    lines = λ h. absurd (cc h);
    part = inl a;
    unfinished = λ _. short old new a;
    lacks = λ h. absurd (cc h);
  }

  pub wrote-stopped : (old new : Option (List ℕ)) (o : Outcome) → o ≢ outcome.Done → (o ≡ outcome.BudgetSpent → IsSpent p s.run j)
      → ((o ≡ outcome.Done) ⊎ (o ≡ outcome.BudgetSpent) → Appends old new (text_of p j))
      → (o ≡ outcome.WriteFault → AppendsPart old new (text_of p j))
      → AppendsPrefix old new (text_of p j) → IsWritten s p (ending_of o) j old new
  wrote-stopped old new outcome.Done undone spent whole lacks part = absurd (undone refl)
  wrote-stopped old new outcome.BudgetSpent undone spent whole lacks part = wrote-spent old new (spent refl) (whole (inr refl))
  wrote-stopped old new outcome.WriteFault undone spent whole lacks part = wrote-fault old new (lacks refl)
  wrote-stopped old new outcome.Memory undone spent whole lacks part = wrote-memory old new part

  -- where all is committed, the output is the lines of it, the end line with their number and the journal's lines
  end-is : (c : Counts) → IsDone p j → c ≡ counted_on no_counts (committed p j)
      → run_output s.journal p j ≡ text_of p j ++ (end_line c.steps ++ asked_lines s.journal j)
  end-is c done e =
      let same : committed p j ≡ sequential_run p = all done.line in
      let few : length (committed p j) < 2 ^ 64 = subst (λ es. length es < 2 ^ 64) (sym same) (run-short p (valid_limits p valid)) in
      let count : c.steps ≡ length (sequential_run p) = ap (λ (d : Counts). d.steps) e ∙ count-is (committed p j) few ∙ ap length same in
      ap (λ es. (trace_text p es ++ end_line (length (sequential_run p))) ++ asked_lines s.journal j) (sym same)
      ∙ ap (λ n. (text_of p j ++ end_line n) ++ asked_lines s.journal j) (sym count)
      ∙ append_assoc (text_of p j) (end_line c.steps) (asked_lines s.journal j)

  module _ (c : Counts) (old now new : Option (List ℕ)) (done : IsDone p j) (grew : Appends old now (text_of p j))
      (count : c ≡ counted_on no_counts (committed p j)) where
    whole : Appends now new (end_line c.steps ++ asked_lines s.journal j) → Appends old new (run_output s.journal p j)
    whole a = rw (end-is c done count) (appends-append old now new (text_of p j) (end_line c.steps ++ asked_lines s.journal j) grew a)

    lacking : AppendsPart now new (end_line c.steps ++ asked_lines s.journal j) → AppendsPart old new (run_output s.journal p j)
    lacking a = rw (end-is c done count) (part-after old now new (text_of p j) (end_line c.steps ++ asked_lines s.journal j) grew a)

    pub wrote-done : (o : Outcome) → o ≢ outcome.BudgetSpent
        → (o ≡ outcome.Done → Appends now new (end_line c.steps ++ asked_lines s.journal j))
        → (o ≢ outcome.Done → AppendsPart now new (end_line c.steps ++ asked_lines s.journal j))
        → IsWritten s p (ending_of o) j old new
    wrote-done outcome.Done unspent all some = record {
      done = λ _. done;
      whole = λ _. whole (all refl);
      spent = λ h. absurd (cc h);
      lines = λ h. absurd (cc h);
      part = inr (done.line, prefix-all old new (run_output s.journal p j) (whole (all refl)));
      unfinished = λ h. absurd (h refl);
      lacks = λ h. absurd (cc h);
    }
    wrote-done outcome.BudgetSpent unspent all some = absurd (unspent refl)
    wrote-done outcome.WriteFault unspent all some =
        let part : AppendsPart old new (run_output s.journal p j) = lacking (some (λ h. cc h)) in
        record {
          done = λ h. absurd (cc h);
          whole = λ h. absurd (cc h);
          spent = λ h. absurd (cc h);
          lines = λ h. absurd (cc h);
          part = inr (done.line, prefix-part old new (run_output s.journal p j) part);
          unfinished = λ _. part;
          lacks = λ _. inr (done.line, part);
        }
    wrote-done outcome.Memory unspent all some =
        let part : AppendsPart old new (run_output s.journal p j) = lacking (some (λ h. cc h)) in
        record {
          done = λ h. absurd (cc h);
          whole = λ h. absurd (cc h);
          spent = λ h. absurd (cc h);
          lines = λ h. absurd (cc h);
          part = inr (done.line, prefix-part old new (run_output s.journal p j) part);
          unfinished = λ _. part;
          lacks = λ h. absurd (cc h);
        }

-- an optimistic run's journal committed the sequential run below its line, and that stays
module _ (s : Settings) (p : Plan) (j : List Event) (valid : IsValid p) (is : IsJournal p s.run j) where
  tells : JournalLaw p j
  tells = journal_law p s.run.epoch (made j) j valid is.journal

  ran : (e : Ending) (old new : Option (List ℕ)) → IsWritten s p e j old new → IsRunPrinted s p e j old new
  ran e old new w = record {
    journal = is;
    sequential = tells.sequential;
    stays = λ k rest h. (_, tells.stays k rest h);
    done = w.done;
    whole = w.whole;
    spent = w.spent;
    lines = w.lines;
    part = w.part;
    unfinished = w.unfinished;
    lacks = w.lacks;
  }

  pub ran-stopped : (old new : Option (List ℕ)) (o : Outcome) → o ≢ outcome.Done → (o ≡ outcome.BudgetSpent → IsSpent p s.run j)
      → ((o ≡ outcome.Done) ⊎ (o ≡ outcome.BudgetSpent) → Appends old new (text_of p j))
      → (o ≡ outcome.WriteFault → AppendsPart old new (text_of p j))
      → AppendsPrefix old new (text_of p j) → IsRunPrinted s p (ending_of o) j old new
  ran-stopped old new o undone spent whole lacks part =
      ran (ending_of o) old new (wrote-stopped s p j valid tells.sequential tells.done_all old new o undone spent whole lacks part)

  pub ran-done : (c : Counts) (old now new : Option (List ℕ)) → IsDone p j → Appends old now (text_of p j)
      → c ≡ counted_on no_counts (committed p j) → (o : Outcome) → o ≢ outcome.BudgetSpent
      → (o ≡ outcome.Done → Appends now new (end_line c.steps ++ asked_lines s.journal j))
      → (o ≢ outcome.Done → AppendsPart now new (end_line c.steps ++ asked_lines s.journal j))
      → IsRunPrinted s p (ending_of o) j old new
  ran-done c old now new done grew count o unspent full some = ran (ending_of o) old new
      (wrote-done s p j valid tells.sequential tells.done_all c old now new done grew count o unspent full some)
