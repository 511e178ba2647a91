-- A refusal is the fault of the first faulty line.
use Rattle.std.proofs.Common.{◌≡◌, ◌∙◌, ap, refl, sym, arith, inl, inr, ℕ, ◌+◌, Bool, true, false, List, [], ◌∷◌, ◌++◌, length, Result, Ok, Err}
use Rattle.pm_base.specs.declared.program.Program.{Program}
use Rattle.pm_rules.specs.Grammar.{IsFirstFault}
use Rattle.pm_tokens.specs.Lines.{lines_of}
use Rattle.pm_rules.specs.Reading.{Table}
use Rattle.pm_rules.specs.Rules.{after_line, after_lines, empty, finished, go_on, is_empty, parsed}
use Rattle.pm_rules.specs.declared.draft.Draft.{Draft}
use Rattle.pm_rules.specs.declared.fault.RuleFault.{RuleFault}
use Rattle.pm_rules.specs.declared.fault.RuleFault.TheVariants as fault

-- lines and then other lines
lines-append : (t : Table) (version : ℕ) (a b : List (List ℕ)) (n : ℕ) (d : Draft) →
    after_lines t version n (a ++ b) d ≡ go_on (after_lines t version (n + length a) b) (after_lines t version n a d)
unfolding after_lines
lines-append t version [] b n d = ap (λ (k : ℕ). after_lines t version k b d) (omega arith)
lines-append t version (l ∷ a) b n d = step (after_line t version n l d) (λ c. lines-append t version a b (n + 1) c)
  where
    step : (o : Result Draft RuleFault) →
        ((c : Draft) → after_lines t version (n + 1) (a ++ b) c ≡ go_on (after_lines t version (n + 1 + length a) b) (after_lines t version (n + 1) a c)) →
        go_on (after_lines t version (n + 1) (a ++ b)) o ≡ go_on (after_lines t version (n + length (l ∷ a)) b) (go_on (after_lines t version (n + 1) a) o)
    step (Ok c) more = more c ∙ ap (λ (k : ℕ). go_on (after_lines t version k b) (after_lines t version (n + 1) a c)) (omega arith)
    step (Err f) more = refl

-- the first line of these that has a fault
record Faulty (t : Table) (version n : ℕ) (lines : List (List ℕ)) (d : Draft) (f : RuleFault) : Type 0 where
  before : List (List ℕ)
  line : List ℕ
  more : List (List ℕ)
  draft : Draft
  split : lines ≡ before ++ line ∷ more
  passed : after_lines t version n before d ≡ Ok draft
  faulty : after_line t version (n + length before) line draft ≡ Err f

further : (t : Table) (version n : ℕ) (l : List ℕ) (ls : List (List ℕ)) (d c : Draft) (f : RuleFault) → after_line t version n l d ≡ Ok c →
    Faulty t version (n + 1) ls c f → Faulty t version n (l ∷ ls) d f
unfolding after_lines
further t version n l ls d c f first more = record {
  before = l ∷ more.before;
  line = more.line;
  more = more.more;
  draft = more.draft;
  split = ap (λ (ks : List (List ℕ)). l ∷ ks) more.split;
  passed = ap (λ (o : Result Draft RuleFault). go_on (after_lines t version (n + 1) more.before) o) first ∙ more.passed;
  faulty = ap (λ (k : ℕ). after_line t version k more.line more.draft) (omega arith) ∙ more.faulty;
}

same_fault : (e f : RuleFault) → Path (Result Draft RuleFault) (Err e) (Err f) → e ≡ f
same_fault e f is = cc

first_faulty : (t : Table) (version : ℕ) (lines : List (List ℕ)) (n : ℕ) (d : Draft) (f : RuleFault) → after_lines t version n lines d ≡ Err f →
    Faulty t version n lines d f
unfolding after_lines
first_faulty t version [] n d f is = cc
first_faulty t version (l ∷ ls) n d f is = step (after_line t version n l d) refl is (λ c more. first_faulty t version ls (n + 1) c f more)
  where
    step : (o : Result Draft RuleFault) → after_line t version n l d ≡ o → go_on (after_lines t version (n + 1) ls) o ≡ Err f →
        ((c : Draft) → after_lines t version (n + 1) ls c ≡ Err f → Faulty t version (n + 1) ls c f) → Faulty t version n (l ∷ ls) d f
    step (Ok c) first is more = further t version n l ls d c f first (more c is)
    step (Err e) first is more = record {
      before = [];
      line = l;
      more = ls;
      draft = d;
      split = refl;
      passed = refl;
      faulty = ap (λ (k : ℕ). after_line t version k l d) (omega arith) ∙ first ∙ is;
    }

unclosed_fault : (n : ℕ) (d : Draft) (b : Bool) (f : RuleFault) → is_empty d.frames ≡ b → finished n d ≡ Err f → (b ≡ false) × (f ≡ fault.Nesting n)
unfolding finished
unclosed_fault n d true f none is = absurd (never (rw none at is))
  where
    never : Path (Result Program RuleFault) (Ok (record { regs = d.regs; senses = d.senses; body = d.body })) (Err f) → ⊥
    never is = cc
unclosed_fault n d false f some is = (refl, the_same (fault.Nesting n) f (rw some at is))
  where
    the_same : (e f : RuleFault) → Path (Result Program RuleFault) (Err e) (Err f) → f ≡ e
    the_same e f is = cc

same_refusal : (e f : RuleFault) → Path (Result Program RuleFault) (Err e) (Err f) → e ≡ f
same_refusal e f is = cc

-- what is refused has that first fault
pub refused_first : (t : Table) (version : ℕ) (text : List ℕ) (f : RuleFault) → parsed t version text ≡ Err f → IsFirstFault t version text f
unfolding parsed
refused_first t version text f is = step (after_lines t version 1 (lines_of text) empty) refl is
  where
    step : (o : Result Draft RuleFault) → after_lines t version 1 (lines_of text) empty ≡ o → go_on (finished (length (lines_of text) + 1)) o ≡ Err f →
        IsFirstFault t version text f
    step (Ok d) passed is =
        let end = unclosed_fault (length (lines_of text) + 1) d (is_empty d.frames) f refl is in
        inr (record { draft = d; passed = passed; unclosed = end.0; is = end.1 })
    step (Err e) passed is =
        let first = first_faulty t version (lines_of text) 1 empty f (passed ∙ ap (λ (g : RuleFault). Err g) (same_refusal e f is)) in
        inl (record {
          before = first.before;
          line = first.line;
          more = first.more;
          draft = first.draft;
          lines = first.split;
          passed = first.passed;
          faulty = ap (λ (k : ℕ). after_line t version k first.line first.draft) (omega arith) ∙ first.faulty;
        })

open_end : (n : ℕ) (d : Draft) → is_empty d.frames ≡ false → finished n d ≡ Err (fault.Nesting n)
unfolding finished
open_end n d some = rw some refl

-- what has that first fault is refused for it
pub first_refused : (t : Table) (version : ℕ) (text : List ℕ) (f : RuleFault) → IsFirstFault t version text f → parsed t version text ≡ Err f
unfolding parsed after_lines
first_refused t version text f (inl fault) =
    let lines : after_lines t version 1 (lines_of text) empty ≡ Err f =
    ap (λ (ls : List (List ℕ)). after_lines t version 1 ls empty) fault.lines
    ∙ lines-append t version fault.before (fault.line ∷ fault.more) 1 empty
    ∙ ap (λ (o : Result Draft RuleFault). go_on (after_lines t version (1 + length fault.before) (fault.line ∷ fault.more)) o) fault.passed
    ∙ ap (λ (k : ℕ). go_on (after_lines t version (1 + length fault.before + 1) fault.more) (after_line t version k fault.line fault.draft)) (omega arith)
    ∙ ap (λ (o : Result Draft RuleFault). go_on (after_lines t version (1 + length fault.before + 1) fault.more) o) fault.faulty in
    ap (λ (o : Result Draft RuleFault). go_on (finished (length (lines_of text) + 1)) o) lines
first_refused t version text f (inr end) =
    ap (λ (o : Result Draft RuleFault). go_on (finished (length (lines_of text) + 1)) o) end.passed
    ∙ open_end (length (lines_of text) + 1) end.draft end.unclosed ∙ ap (λ (g : RuleFault). Err g) (sym end.is)
