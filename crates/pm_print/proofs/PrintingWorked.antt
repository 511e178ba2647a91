-- The printed form, one level at a time, and that of the worked program.
use Rattle.std.proofs.Common.{◌≡◌, ap, sym, ◌∙◌, rules, List, [], ◌∷◌, ◌++◌, map, ℤ, ℕ}
use Rattle.std.specs.Prelude.{codes}
use Rattle.std.specs.Fmt.{digits}
use Rattle.pm_base.specs.declared.program.Expr.{Expr, the_lemmas}
use Rattle.pm_base.specs.declared.program.Expr.TheVariants.{Num, Reg, Part, Bin}
use Rattle.pm_base.specs.declared.program.Field.{Field}
use Rattle.pm_base.specs.declared.program.Op.{Op}
use Rattle.pm_base.specs.declared.program.Place.{Place}
use Rattle.pm_base.specs.declared.program.Stmt.{Stmt}
use Rattle.pm_base.specs.declared.program.Stmt.TheFolds.{fold-roll-Stmt}
use Rattle.pm_base.specs.declared.program.Stmt.TheOpen.{Stmt-F}
use Rattle.pm_base.specs.declared.program.Stmt.TheVariants as stmt
use Rattle.pm_rules.specs.Reading.{Scope}
use Rattle.pm_rules.specs.Samples.{worked_printed, worked_program, worked_table}
use Rattle.pm_rules.specs.Spelling.{concat, else_said, field_word, name_in, op_token, says, says_step, spell, spell_change, spell_does, spell_does_step}
use Rattle.pm_print.specs.Printed.{printed}
use Rattle.pm_tokens.specs.Tokens.{Tok, name, number, symbol}
use Rattle.pm_rules.specs.declared.said.Said.{Said}
use Rattle.pm_rules.specs.declared.said.Said.TheVariants as said
use Rattle.pm_tokens.specs.declared.token.Symbol.TheVariants as symbols

spell-Num : (sc : Scope) (z : ℤ) → spell sc (Num z) ≡ number z ∷ []
spell-Num sc z = search (rules, the_lemmas)

spell-Reg : (sc : Scope) (r : ℕ) → spell sc (Reg r) ≡ name (name_in sc.regs r) ∷ []
spell-Reg sc r = search (rules, the_lemmas)

spell-Part : (sc : Scope) (k : ℕ) (f : Field) →
    spell sc (Part k f) ≡ name (name_in sc.senses k) ∷ symbol symbols.Dot ∷ name (field_word f) ∷ []
spell-Part sc k f = search (rules, the_lemmas)

spell-Bin : (sc : Scope) (o : Op) (a b : Expr) →
    spell sc (Bin o a b) ≡
    symbol symbols.Open ∷ (spell sc a ++ (op_token o ∷ (spell sc b ++ symbol symbols.Close ∷ [])))
spell-Bin sc o a b = search (rules, the_lemmas)

says-Set : (place : Place) (x y : Expr) → says (stmt.Set place x y) ≡ said.Does (stmt.Set place x y) ∷ []
says-Set place x y =
    ap says (sym (stmt.rolls-Set place x y)) ∙ fold-roll-Stmt (List Said) says_step (Stmt-F.Set place x y)

says-If : (test : Expr) (first second : List Stmt) →
    says (stmt.If test first second) ≡
    said.If test ∷ (concat (map says first) ++ (else_said (map says second) ++ said.End ∷ []))
says-If test first second =
    ap says (sym (stmt.rolls-If test first second)) ∙ fold-roll-Stmt (List Said) says_step (Stmt-F.If test first second)

spell_does-Set : (sc : Scope) (place : Place) (x y : Expr) →
    spell_does sc (stmt.Set place x y) ≡ spell_change sc (codes "set") place x y
spell_does-Set sc place x y = ap (spell_does sc) (sym (stmt.rolls-Set place x y))
    ∙ fold-roll-Stmt (List Tok) (spell_does_step sc) (Stmt-F.Set place x y)

pub worked-printed : printed worked_table worked_program ≡ worked_printed
unfolding printed digits
worked-printed = simp (says-If, says-Set, spell_does-Set, spell-Bin, spell-Part, spell-Reg, spell-Num)
