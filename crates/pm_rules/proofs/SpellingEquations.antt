-- What the definitions give at each variant.
use Rattle.std.proofs.Common.{◌≡◌, rules, ℕ, ◌+◌, true, false, List, [], ◌∷◌, ◌++◌, length, ℤ, nat_lt, codes}
use Rattle.std.specs.Prelude.{◌==◌, ◌&&◌}
use Rattle.pm_base.specs.Fits.{change_known, is_known, tokens_of}
use Rattle.pm_base.specs.declared.fits.Known.{Known}
use Rattle.pm_base.specs.declared.program.Expr.{Expr, the_lemmas}
use Rattle.pm_base.specs.declared.program.Expr.TheVariants.{Num, Now, Me, Reg, Part, Bin}
use Rattle.pm_base.specs.declared.program.Field.{Field}
use Rattle.pm_base.specs.declared.program.Op.{Op}
use Rattle.pm_base.specs.declared.program.Place.{Place}
use Rattle.pm_base.specs.declared.program.Stmt.{Stmt, the_lemmas as stmt_lemmas}
use Rattle.pm_base.specs.declared.program.Stmt.TheVariants.{Let, If, Set, Add, Wait}
use Rattle.pm_rules.specs.Reading.{Scope, class_rows}
use Rattle.pm_rules.specs.Sayable.{known_in, does_sayable}
use Rattle.pm_rules.specs.Spelling.{field_word, name_in, op_token, spell, spell_change, spell_does}
use Rattle.pm_tokens.specs.Tokens.{name, number, symbol}
use Rattle.pm_tokens.specs.declared.token.Symbol.TheVariants as symbols

pub spell-Num : (sc : Scope) (z : ℤ) → spell sc (Num z) ≡ number z ∷ []
spell-Num sc z = search (rules, the_lemmas)

pub spell-Now : (sc : Scope) → spell sc Now ≡ name (codes "now") ∷ []
spell-Now sc = search (rules, the_lemmas)

pub spell-Me : (sc : Scope) → spell sc Me ≡ name (codes "me") ∷ []
spell-Me sc = search (rules, the_lemmas)

pub spell-Reg : (sc : Scope) (r : ℕ) → spell sc (Reg r) ≡ name (name_in sc.regs r) ∷ []
spell-Reg sc r = search (rules, the_lemmas)

pub spell-Part : (sc : Scope) (k : ℕ) (f : Field) →
    spell sc (Part k f) ≡ name (name_in sc.senses k) ∷ symbol symbols.Dot ∷ name (field_word f) ∷ []
spell-Part sc k f = search (rules, the_lemmas)

pub spell-Bin : (sc : Scope) (o : Op) (a b : Expr) →
    spell sc (Bin o a b) ≡
    symbol symbols.Open ∷ (spell sc a ++ (op_token o ∷ (spell sc b ++ symbol symbols.Close ∷ [])))
spell-Bin sc o a b = search (rules, the_lemmas)

pub known-Num : (k : Known) (z : ℤ) → is_known k (Num z) ≡ true
known-Num k z = search (rules, the_lemmas)

pub known-Now : (k : Known) → is_known k Now ≡ true
known-Now k = search (rules, the_lemmas)

pub known-Me : (k : Known) → is_known k Me ≡ true
known-Me k = search (rules, the_lemmas)

pub known-Reg : (k : Known) (r : ℕ) → is_known k (Reg r) ≡ nat_lt r k.regs
known-Reg k r = search (rules, the_lemmas)

pub known-Part : (k : Known) (s : ℕ) (f : Field) → is_known k (Part s f) ≡ nat_lt s k.senses
known-Part k s f = search (rules, the_lemmas)

pub known-Bin : (k : Known) (o : Op) (a b : Expr) → is_known k (Bin o a b) ≡ (is_known k a && is_known k b)
known-Bin k o a b = search (rules, the_lemmas)

pub tokens-Num : (z : ℤ) → tokens_of (Num z) ≡ 1
tokens-Num z = search (rules, the_lemmas)

pub tokens-Now : tokens_of Now ≡ 1
tokens-Now = search (rules, the_lemmas)

pub tokens-Me : tokens_of Me ≡ 1
tokens-Me = search (rules, the_lemmas)

pub tokens-Reg : (r : ℕ) → tokens_of (Reg r) ≡ 1
tokens-Reg r = search (rules, the_lemmas)

pub tokens-Part : (k : ℕ) (f : Field) → tokens_of (Part k f) ≡ 3
tokens-Part k f = search (rules, the_lemmas)

pub tokens-Bin : (o : Op) (a b : Expr) → tokens_of (Bin o a b) ≡ 3 + tokens_of a + tokens_of b
tokens-Bin o a b = search (rules, the_lemmas)

pub does-Let : (sc : Scope) (reg : ℕ) (e : Expr) →
    spell_does sc (Let reg e) ≡ name (codes "let") ∷ name (name_in sc.regs reg) ∷ symbol symbols.Assign ∷ spell sc e
does-Let sc reg e = search (rules, stmt_lemmas)

pub does-Set : (sc : Scope) (place : Place) (x y : Expr) →
    spell_does sc (Set place x y) ≡ spell_change sc (codes "set") place x y
does-Set sc place x y = search (rules, stmt_lemmas)

pub does-Add : (sc : Scope) (place : Place) (x y : Expr) →
    spell_does sc (Add place x y) ≡ spell_change sc (codes "add") place x y
does-Add sc place x y = search (rules, stmt_lemmas)

pub does-Wait : (sc : Scope) (e : Expr) → spell_does sc (Wait e) ≡ name (codes "wait") ∷ spell sc e
does-Wait sc e = search (rules, stmt_lemmas)

pub sayable-Let : (sc : Scope) (version reg : ℕ) (e : Expr) →
    does_sayable sc version (Let reg e) ≡ (nat_lt reg (length sc.regs) && is_known (known_in sc) e)
sayable-Let sc version reg e = search (rules, stmt_lemmas)

pub sayable-If : (sc : Scope) (version : ℕ) (test : Expr) (first second : List Stmt) →
    does_sayable sc version (If test first second) ≡ false
sayable-If sc version test first second = search (rules, stmt_lemmas)

pub sayable-Set : (sc : Scope) (version : ℕ) (place : Place) (x y : Expr) →
    does_sayable sc version (Set place x y) ≡ change_known (class_rows sc.table) (known_in sc) place x y
sayable-Set sc version place x y = search (rules, stmt_lemmas)

pub sayable-Add : (sc : Scope) (version : ℕ) (place : Place) (x y : Expr) →
    does_sayable sc version (Add place x y) ≡
    (version == 2 && change_known (class_rows sc.table) (known_in sc) place x y)
sayable-Add sc version place x y = search (rules, stmt_lemmas)

pub sayable-Wait : (sc : Scope) (version : ℕ) (e : Expr) → does_sayable sc version (Wait e) ≡ is_known (known_in sc) e
sayable-Wait sc version e = search (rules, stmt_lemmas)
