use Rattle.std.proofs.Common.{◌≡◌, ◌∙◌, ap, refl, sym, map, string_bytes, Option, Some, None, IfSome}
use Rattle.pm_top.proofs.Complete.{completes, input-limits, limits, refuses, within-given, Kinds, Told}
use Rattle.pm_top.proofs.Stopped.{each, firsts, kept, memory-served, seconds, words-served}
use Rattle.pm_top.specs.Headline.{given}
use Rattle.pm_top.specs.Readings.{IsUnfit}
use Rattle.pm_top.specs.Serving.{settings_served}
use Rattle.pm_words.specs.Words.{reads, settings_of}
use Rattle.pm_words.specs.declared.settings.Settings.{Settings}
use Rattle.pm_top.proofs.program.serve.Goals as goal

some-none : (s : Settings) → Path (Option Settings) (Some s) None → ⊥
some-none s e = cc

pub returns-in-Err-Words-clause-served : goal.returns-in-Err-Words-clause-served
returns-in-Err-Words-clause-served g c =
    let none : settings_served c.args.threads (settings_of (map string_bytes c.args.words.now.items)) ≡ None = c.in-Err-Words.ensures.refused c.in-Err-Words.field-0-is in
    rw (c.report_of.ensures.ending, c.report_of.ensures.journal, c.still.ensures.ending, c.still.ensures.journal, none)
    (words-served _ _ _ _ (rw c.still.ensures.ending at c.report_of.ensures.told))

pub returns-in-Err-Memory-clause-served : goal.returns-in-Err-Memory-clause-served
returns-in-Err-Memory-clause-served g c =
    let report = c.report_of-in-Err-Memory.ensures in
    let still = c.still-in-Err-Memory.ensures in
    rw (report.ending, report.journal, still.ending, still.journal) (memory-served _ _ _ _ _ (rw still.ending at report.told))

pub returns-clause-untouched : goal.returns-clause-untouched
returns-clause-untouched g c = λ none. absurd (some-none c.in-Ok.settings (sym c.in-Ok.ensures.ok ∙ none))

pub returns-clause-served : goal.returns-clause-served
returns-clause-served g c =
    let run = c.run_mode-worked.ensures in
    let e = c.run_mode-worked.result.ending in
    let s = c.in-Ok.settings in
    let held = g.S.Source.held c.args.input.now in
    let named : settings_served c.args.threads (settings_of (map string_bytes c.args.words.now.items)) ≡ Some s = c.in-Ok.ensures.ok in
    let text = given s.mode held in
    let told : Told s.mode e text = record {
      words = run.words;
      refused = run.refused;
      too_long = λ h. (run.too_long h).0;
      long_input = λ h. (run.long_input h).0;
      accepted = run.accepted;
    } in
    let kinds : Kinds s.mode e = record { budget = run.budget; retired = run.retired; illegal = run.illegal } in
    rw (c.report_of-2.ensures.ending, c.report_of-2.ensures.journal, named) (record {
      printed = run.printed;
      journal = record {
        runs = run.journal;
        nothing = λ h. (run.nothing h).0;
        unfit = firsts (IsUnfit s.mode) _ _ text run.unfit;
      };
      caused = record {
        words = λ h. absurd (run.words h);
        no_words = λ h. absurd (some-none s h);
        by_mode = record {
          refused = run.refused;
          too_long = run.too_long;
          long_input = run.long_input;
          budget = run.budget;
          retired = run.retired;
          illegal = run.illegal;
          accepted = run.accepted;
          read = run.read;
          unread = λ h. (ap (λ i. record { held = g.S.Source.held i; faults = g.S.Source.faults i }) (run.unread h).0, (run.unread h).1);
        };
        read_fault = run.read_fault;
        write_fault = run.write_fault;
      };
      told = c.report_of-2.ensures.told;
      complete = record {
        refuses = refuses s.mode e text told;
        limits = limits s.mode e text told;
        input_limits = input-limits s.mode e text told;
        completes = λ good well. completes s.mode e text told (λ h. good (run.read_fault h)) (λ h. well (run.write_fault h));
        within = λ good well. within-given (reads s.mode) e s held _ _ _ told (λ h. good (run.read_fault h)) (λ h. well (run.write_fault h)) kinds run.printed;
      };
    })

pub returns-clause-nothing : goal.returns-clause-nothing
returns-clause-nothing g c = λ h. (c.run_mode-worked.ensures.nothing (rw c.report_of-2.ensures.ending at h)).1

pub returns-clause-unfit : goal.returns-clause-unfit
returns-clause-unfit g c =
    rw c.in-Ok.ensures.ok (seconds (IsUnfit c.in-Ok.settings.mode) _ _ (given c.in-Ok.settings.mode (g.S.Source.held c.args.input.now)) c.run_mode-worked.ensures.unfit)

pub returns-in-Err-Words-clause-unfit : goal.returns-in-Err-Words-clause-unfit
returns-in-Err-Words-clause-unfit g c =
    each (λ s. IfSome (given s.mode (g.S.Source.held c.args.input.now)) (λ b. IsUnfit s.mode b → c.args.out.now ≡ c.args.out.now))
    (settings_served c.args.threads (settings_of (map string_bytes c.args.words.now.items))) (λ s. kept (given s.mode (g.S.Source.held c.args.input.now)) (λ b unfit. refl))

pub returns-in-Err-Memory-clause-unfit : goal.returns-in-Err-Memory-clause-unfit
returns-in-Err-Memory-clause-unfit g c =
    each (λ s. IfSome (given s.mode (g.S.Source.held c.args.input.now)) (λ b. IsUnfit s.mode b → c.args.out.now ≡ c.args.out.now))
    (settings_served c.args.threads (settings_of (map string_bytes c.args.words.now.items))) (λ s. kept (given s.mode (g.S.Source.held c.args.input.now)) (λ b unfit. refl))
