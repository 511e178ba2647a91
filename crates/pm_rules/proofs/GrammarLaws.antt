-- A text is accepted exactly where it is of the grammar, with its tree.
use Rattle.std.proofs.Common.{◌≡◌, ◌∙◌, ap, refl, sym, subst, arith, ℕ, ◌+◌, ◌-◌, ◌≤◌, Bool, true, false, List, [], ◌∷◌, Option, Some, None, length, ◌⊎◌, Result, Ok, Err}
use Rattle.std.specs.List.{AllByRecursion}
use Rattle.std.specs.Prelude.{map}
use Rattle.std.proofs.lemmas.List.{length-map}
use Rattle.std.proofs.lemmas.Option.{same_Some}
use Rattle.pm_base.specs.Fits.{fits}
use Rattle.pm_base.specs.Layouts.{var_count}
use Rattle.pm_base.specs.declared.program.Program.{Program}
use Rattle.pm_rules.specs.Grammar.{IsRule, IsShort, IsTable, Row, drops_else, or_none, rows_from, without_idle_else}
use Rattle.pm_tokens.specs.Lexing.{lex}
use Rattle.pm_tokens.specs.Lines.{lines_of, code}
use Rattle.pm_rules.specs.Nesting.{AreFine, all_said, draft_of, draft_says}
use Rattle.pm_rules.specs.Reading.{Table, class_rows}
use Rattle.pm_rules.specs.Rules.{after_lines, empty, finished, go_on, is_empty, parsed, scope_of}
use Rattle.pm_rules.specs.Spelling.{program_says, program_scope, spell_said}
use Rattle.pm_tokens.specs.Tokens.{Tok}
use Rattle.pm_rules.specs.declared.draft.Draft.{Draft}
use Rattle.pm_rules.specs.declared.fault.RuleFault.{RuleFault}
use Rattle.pm_rules.specs.declared.fault.RuleFault.TheVariants as fault
use Rattle.pm_rules.specs.declared.said.Said.{Said}
use Rattle.pm_rules.specs.declared.said.Said.TheVariants as said
use Rattle.pm_rules.proofs.CanonicalLaws.{program_canonical}
use Rattle.pm_rules.proofs.SoundLaws.{IsSound, fine_parts, fine_read, read_fine, read_spelled, sound_all}
use Rattle.pm_rules.proofs.IdleLaws.{taken_said}
use Rattle.pm_rules.proofs.BackwardLaws.{nothing_in}
use Rattle.pm_rules.proofs.MatchedLaws.{idle_back, idle_same, taken_match}
use Rattle.pm_rules.proofs.NestingLaws.{program_whole}
use Rattle.pm_rules.proofs.ProgramLaws.{empty_sound, fine_fits, fits_fine}
use Rattle.pm_rules.proofs.RowLaws.{gone_on, has_rows, lines_go_as_rows, read_rows, rows_read, rows_split}

-- rows have rising numbers, so that short ones are few
rows_few : (lines : List (List ℕ)) (n : ℕ) (rows : List Row) → rows_from n lines ≡ Some rows → AllByRecursion IsShort rows → length rows ≤ 201 - n
rows_few [] n rows is short = rw (← same_Some [] rows is) (omega arith)
rows_few (l ∷ ls) n rows is short = by_tokens (lex (code l)) is (λ rs more all. rows_few ls (n + 1) rs more all)
  where
    by_tokens : (toks : Option (List Tok)) → or_none n toks (rows_from (n + 1) ls) ≡ Some rows →
        ((rs : List Row) → rows_from (n + 1) ls ≡ Some rs → AllByRecursion IsShort rs → length rs ≤ 201 - (n + 1)) → length rows ≤ 201 - n
    by_tokens None is more = cc
    by_tokens (Some []) is more = omega (arith, more rows is short)
    by_tokens (Some (k ∷ ks)) is more =
        let split = rows_split n k ks (rows_from (n + 1) ls) rows is in
        let all : AllByRecursion IsShort (record { number = n; tokens = k ∷ ks } ∷ split.0) = subst (λ (rs : List Row). AllByRecursion IsShort rs) split.2 short in
        omega (arith, ap (λ (rs : List Row). length rs) split.2, more split.0 split.1 all.1, all.0.number)

drops_less : (s : Said) (ss : List Said) → length (drops_else s ss) ≤ length ss + 1
drops_less (said.Reg w z) ss = omega arith
drops_less (said.Sense w s) ss = omega arith
drops_less (said.Does s) ss = omega arith
drops_less (said.If test) ss = omega arith
drops_less said.End ss = omega arith
drops_less said.Else [] = omega arith
drops_less said.Else (said.Reg w z ∷ ss) = omega arith
drops_less said.Else (said.Sense w s ∷ ss) = omega arith
drops_less said.Else (said.Does s ∷ ss) = omega arith
drops_less said.Else (said.If test ∷ ss) = omega arith
drops_less said.Else (said.Else ∷ ss) = omega arith
drops_less said.Else (said.End ∷ ss) = omega arith

-- without needless `else`s there are no more lines
fewer : (ss : List Said) → length (without_idle_else ss) ≤ length ss
fewer [] = omega arith
fewer (s ∷ ss) = omega (arith, drops_less s (without_idle_else ss), fewer ss)

same_draft : (e : Draft) (p : Program) → e.frames ≡ [] → record { regs = e.regs; senses = e.senses; body = e.body } ≡ p → e ≡ draft_of p
same_draft e p none is = rw (← is, ← none) refl

-- a draft without open `if`s is that of its program
ended_draft : (n : ℕ) (e : Draft) (p : Program) (b : Bool) → is_empty e.frames ≡ b → finished n e ≡ Ok p → e ≡ draft_of p
unfolding finished
ended_draft n e p true none is = same_draft e p (nothing_in e.frames none) (the_same _ p (rw none at is))
  where
    the_same : (q p : Program) → Path (Result Program RuleFault) (Ok q) (Ok p) → q ≡ p
    the_same q p is = cc
ended_draft n e p false some is = absurd (never (rw some at is))
  where
    never : Path (Result Program RuleFault) (Err (fault.Nesting n)) (Ok p) → ⊥
    never is = cc

-- what is accepted is a rule
pub accepted_rule : (t : Table) (version : ℕ) (text : List ℕ) (p : Program) → length t.vars ≡ var_count (class_rows t) → parsed t version text ≡ Ok p →
    IsRule t version text p
unfolding parsed
accepted_rule t version text p count is =
    let passed = gone_on (finished (length (lines_of text) + 1)) (after_lines t version 1 (lines_of text) empty) p is in
    let end : passed.0 ≡ draft_of p = ended_draft (length (lines_of text) + 1) passed.0 p (is_empty passed.0.frames) refl passed.2 in
    let rows = has_rows t version (lines_of text) 1 empty (draft_of p) (passed.1 ∙ ap (λ (d : Draft). Ok d) end) in
    let read = rows_read t version rows.0 empty (draft_of p) rows.3 in
    let fine = read_fine t version rows.0 read.0 empty read.1 read.2 rows.2 in
    let parts = fine_parts t version read.0 empty fine in
    let says : without_idle_else read.0 ≡ program_says p = taken_said read.0 empty parts.0 parts.1
    ∙ ap (λ (d : Draft). without_idle_else (draft_says d)) read.3 ∙ program_canonical p in
    let canonical : AreFine t version empty (program_says p) = subst (AreFine t version empty) says (idle_back t version read.0 empty fine) in
    let sound : IsSound (draft_of p) = subst IsSound read.3 (sound_all t version read.0 empty fine empty_sound) in
    let spelled = read_spelled t version rows.0 read.0 empty read.1 fine ∙ ap (λ (d : Draft). map (spell_said (scope_of t d)) read.0) read.3 in
    let few : length (program_says p) ≤ 200 = omega (
      arith,
      ap (λ (ss : List Said). length ss) says,
      fewer read.0,
      ap (λ (ts : List (List Tok)). length ts) spelled,
      length-map rows.0 (λ (r : Row). r.tokens),
      length-map read.0 (spell_said (program_scope t p)),
      rows_few (lines_of text) 1 rows.0 rows.1 rows.2,
    ) in
    let fit = fine_fits t version p count canonical sound few in
    record {
      rows = rows.0;
      said = read.0;
      lexed = rows.1;
      spelled = spelled;
      matched = taken_match read.0 empty parts.0 (ap (λ (d : Draft). d.frames) read.3);
      says = says;
      short = rows.2;
      fits = fit.0;
      of_version = fit.1;
    }

finished_whole : (n : ℕ) (p : Program) → finished n (draft_of p) ≡ Ok p
unfolding finished
finished_whole n p = refl

-- each rule is accepted
pub rule_accepted : (t : Table) (version : ℕ) (text : List ℕ) (p : Program) → (version ≡ 1) ⊎ (version ≡ 2) → IsTable t → IsRule t version text p →
    parsed t version text ≡ Ok p
unfolding parsed
rule_accepted t version text p which table rule =
    let canonical = fits_fine t version p which table.count rule.fits rule.of_version in
    let same = idle_same t version rule.said empty rule.matched (subst (AreFine t version empty) (sym rule.says) canonical) in
    let end : all_said rule.said empty ≡ draft_of p = same.1 ∙ ap (λ (ss : List Said). all_said ss empty) rule.says ∙ program_whole p in
    let read = fine_read t version rule.rows rule.said empty table empty_sound same.0
    (rule.spelled ∙ ap (λ (d : Draft). map (spell_said (scope_of t d)) rule.said) (sym end)) in
    let rows = read_rows t version rule.rows rule.said empty read (fine_parts t version rule.said empty same.0).0 in
    let lines : after_lines t version 1 (lines_of text) empty ≡ Ok (draft_of p) =
    lines_go_as_rows t version (lines_of text) 1 rule.rows empty rule.lexed rule.short ∙ rows ∙ ap (λ (d : Draft). Ok d) end in
    ap (λ (o : Result Draft RuleFault). go_on (finished (length (lines_of text) + 1)) o) lines ∙ finished_whole (length (lines_of text) + 1) p

-- what is accepted fits
pub accepted_fits : (t : Table) (version : ℕ) (text : List ℕ) (p : Program) → parsed t version text ≡ Ok p → length t.vars ≡ var_count (class_rows t) →
    fits p (record { classes = class_rows t }) ≡ true
accepted_fits t version text p is count = (accepted_rule t version text p count is).fits
