-- The printed form of a program is a rule, with that program as its tree.
use Rattle.std.proofs.Common.{◌≡◌, ◌∙◌, ap, refl, sym, subst, arith, inr, ℕ, ◌≤◌, true, List, [], ◌∷◌, length, Ok}
use Rattle.std.specs.List.{AllByRecursion}
use Rattle.std.specs.Prelude.{map}
use Rattle.std.proofs.lemmas.List.{length-map}
use Rattle.pm_base.specs.Fits.{fits}
use Rattle.pm_base.specs.declared.program.Program.{Program}
use Rattle.pm_rules.specs.Grammar.{IsOfVersion, IsRule, IsTable}
use Rattle.pm_rules.specs.Nesting.{AreFine, all_said, draft_of}
use Rattle.pm_print.specs.Printing.{IsNamed, numbered, program_sized}
use Rattle.pm_rules.specs.Reading.{Table}
use Rattle.pm_rules.specs.Rules.{empty, parsed, scope_of, with_said}
use Rattle.pm_rules.specs.Spelling.{program_says, program_scope, spell_said}
use Rattle.pm_print.specs.Printed.{printed}
use Rattle.pm_tokens.specs.Tokens.{Tok}
use Rattle.pm_rules.specs.declared.draft.Draft.{Draft}
use Rattle.pm_rules.specs.declared.said.Said.{Said}
use Rattle.pm_rules.proofs.CanonicalLaws.{program_canonical}
use Rattle.pm_rules.proofs.GrammarLaws.{rule_accepted}
use Rattle.pm_rules.proofs.MatchedLaws.{taken_match}
use Rattle.pm_rules.proofs.NestingLaws.{program_whole}
use Rattle.pm_print.proofs.PrintingBodies.{program-written}
use Rattle.pm_print.proofs.PrintingRows.{numbered-short, numbered-tokens, rows-printed}
use Rattle.pm_rules.proofs.ProgramLaws.{fits_fine, fits_lines, layout_of, program_counted}
use Rattle.pm_rules.proofs.SoundLaws.{fine_parts, grown_all, spelled_later}

-- the lines of fine statements, spelled in the scope of all of them, are short
fine_short : (t : Table) (version : ℕ) (ss : List Said) (d : Draft) → AreFine t version d ss →
    AllByRecursion (λ (ts : List Tok). length ts ≤ 64) (map (spell_said (scope_of t (all_said ss d))) ss)
fine_short t version [] d fine = tt
fine_short t version (s ∷ ss) d fine =
    let same = spelled_later t version d (all_said (s ∷ ss) d) s (grown_all (s ∷ ss) d) fine.0.sayable in
    (subst (λ (ts : List Tok). length ts ≤ 64) (sym same) fine.0.short, fine_short t version ss (with_said s d) fine.1)

two_is_not_one : {A : Type 0} → Path ℕ 2 1 → A
two_is_not_one e = cc

-- the printed form of a program that fits is a rule
pub printed_rule : (t : Table) (p : Program) → IsTable t → IsNamed t → fits p (layout_of t) ≡ true → program_sized p ≡ true → IsRule t 2 (printed t p) p
printed_rule t p table named fit sized =
    let ss = program_says p in
    let of_two : IsOfVersion 2 p = λ e. two_is_not_one e in
    let fine = fits_fine t 2 p (inr refl) table.count fit of_two in
    let end : all_said ss empty ≡ draft_of p = program_whole p in
    let lines = map (spell_said (program_scope t p)) ss in
    let short = subst (λ (d : Draft). AllByRecursion (λ (ts : List Tok). length ts ≤ 64) (map (spell_said (scope_of t d)) ss)) end (fine_short t 2 ss empty fine) in
    record {
      rows = numbered 1 lines;
      said = ss;
      lexed = rows-printed t p (program-written t p named table.count fit sized);
      spelled = numbered-tokens 1 lines;
      matched = taken_match ss empty (fine_parts t 2 ss empty fine).0 (ap (λ (d : Draft). d.frames) end);
      says = program_canonical p;
      short = numbered-short 1 lines (omega (arith, length-map ss (spell_said (program_scope t p)), program_counted p, fits_lines p (layout_of t) fit)) short;
      fits = fit;
      of_version = of_two;
    }

-- and reads back
pub printed_again : (t : Table) (p : Program) → IsTable t → IsNamed t → fits p (layout_of t) ≡ true → program_sized p ≡ true →
    parsed t 2 (printed t p) ≡ Ok p
printed_again t p table named fit sized = rule_accepted t 2 (printed t p) p (inr refl) table (printed_rule t p table named fit sized)

-- the same of a text that is the printed form
pub printed_back : (t : Table) (p : Program) (s : List ℕ) → s ≡ printed t p → program_sized p ≡ true → IsTable t → IsNamed t → fits p (layout_of t) ≡ true →
    parsed t 2 s ≡ Ok p
printed_back t p s is sized table named fit = ap (λ (x : List ℕ). parsed t 2 x) is ∙ printed_again t p table named fit sized
