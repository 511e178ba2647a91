-- What is spelled is read: whole lines.
use Rattle.std.proofs.Common.{◌≡◌, refl, ap, sym, ◌∙◌, arith, ℕ, ◌≤◌, ◌<◌, true, List, ◌∷◌, ◌++◌, length, ℤ, Some, None, codes}
use Rattle.pm_base.specs.Fits.{change_known, change_tokens, is_known, sense_known, sense_tokens, tokens_of}
use Rattle.pm_base.specs.declared.program.Expr.{Expr}
use Rattle.pm_base.specs.declared.program.Place.{Place}
use Rattle.pm_base.specs.declared.program.Sense.{Sense}
use Rattle.pm_base.specs.declared.program.Sense.TheVariants as sense
use Rattle.pm_base.specs.declared.program.Stmt.{Stmt}
use Rattle.pm_base.specs.declared.program.Stmt.TheVariants.{Let, Set, Add, Wait}
use Rattle.pm_rules.specs.Reading.{Scope, after, class_names, class_rows, is_dot, is_left, name_at}
use Rattle.pm_rules.specs.Sayable.{IsScope, does_sayable, is_sayable, known_in}
use Rattle.pm_rules.specs.Spelling.{spell, spell_does, spell_place, spell_said, spell_sense}
use Rattle.pm_rules.specs.Statements.{add_line, after_word, assigned, change, declared, if_line, is_free, let_line, number_at, only, read_line, reg_line, scan_line, set_line, statement, two, wait_line, window}
use Rattle.pm_tokens.specs.Tokens.{Tok, symbol}
use Rattle.pm_rules.specs.declared.said.Said.{Said}
use Rattle.pm_rules.specs.declared.said.Said.TheVariants as said
use Rattle.pm_tokens.specs.declared.token.Symbol.TheVariants as symbols
use Rattle.pm_rules.proofs.KnownParts.{add_parts, below, both, change_parts, if_unsayable, let_parts, scan_parts}
use Rattle.pm_rules.proofs.ReadAgain.{begins_alone_without_dot, begins_without_dot, expression_alone, expression_read, number_again, place_alone, place_read, same_length}
use Rattle.pm_rules.proofs.SpellingCounts.{change_counted, expression_counted, sense_counted}
use Rattle.pm_rules.proofs.SpellingEquations.{does-Let, does-Set, does-Add, does-Wait, sayable-Set, sayable-Wait}
use Rattle.pm_rules.proofs.Variants.{every_statement}

reg_read : (sc : Scope) (version : ℕ) (w : List ℕ) (z : ℤ) → is_free w ≡ true →
    statement sc version (spell_said sc (said.Reg w z)) ≡ Some (said.Reg w z, true)
unfolding statement after_word reg_line declared name_at number_at
reg_read sc version w z free = rw free refl

read_read : (sc : Scope) (version : ℕ) (w : List ℕ) (p : Place) → IsScope sc → is_free w ≡ true →
    sense_known (class_rows sc.table) (known_in sc) (sense.Read p) ≡ true → sense_tokens (sense.Read p) ≤ 64 →
    statement sc version (spell_sense sc w (sense.Read p)) ≡ Some (said.Sense w (sense.Read p), true)
unfolding statement after_word read_line assigned declared name_at after
read_read sc version w p d free known low = rw (free, place_alone sc d p known (omega arith)) refl

scan_read : (sc : Scope) (version : ℕ) (w : List ℕ) (class : ℕ) (x0 x1 y0 y1 : Expr) → IsScope sc → is_free w ≡ true →
    sense_known (class_rows sc.table) (known_in sc) (sense.Scan class x0 x1 y0 y1) ≡ true →
    sense_tokens (sense.Scan class x0 x1 y0 y1) ≤ 64 →
    statement sc version (spell_sense sc w (sense.Scan class x0 x1 y0 y1)) ≡
    Some (said.Sense w (sense.Scan class x0 x1 y0 y1), true)
unfolding statement after_word scan_line assigned declared name_at after window two
scan_read sc version w class x0 x1 y0 y1 d free known low =
    let parts = scan_parts (class_rows sc.table) (known_in sc) class x0 x1 y0 y1 known in
    let there : class < length (class_names sc.table) =
    omega (arith, same_length sc.table, below class (length (class_rows sc.table)) parts.class_there) in
    let first =
    expression_read sc d x0 64 (spell sc x1 ++ (spell sc y0 ++ spell sc y1)) parts.x0_known (omega arith)
    (begins_without_dot sc x1 (spell sc y0 ++ spell sc y1)) in
    let second =
    expression_read sc d x1 64 (spell sc y0 ++ spell sc y1) parts.x1_known (omega arith)
    (begins_without_dot sc y0 (spell sc y1)) in
    let third =
    expression_read sc d y0 64 (spell sc y1) parts.y0_known (omega arith) (begins_alone_without_dot sc y1) in
    let fourth = expression_alone sc d y1 parts.y1_known (omega arith) in
    rw (free, first, second, third, fourth, number_again (class_names sc.table) d.classes class there) refl

sense_read : (sc : Scope) (version : ℕ) (w : List ℕ) (s : Sense) → IsScope sc → is_free w ≡ true →
    sense_known (class_rows sc.table) (known_in sc) s ≡ true → sense_tokens s ≤ 64 →
    statement sc version (spell_sense sc w s) ≡ Some (said.Sense w s, true)
sense_read sc version w (sense.Read p) d free known low = read_read sc version w p d free known low
sense_read sc version w (sense.Scan class x0 x1 y0 y1) d free known low =
    scan_read sc version w class x0 x1 y0 y1 d free known low

if_read : (sc : Scope) (version : ℕ) (test : Expr) → IsScope sc → is_known (known_in sc) test ≡ true →
    tokens_of test ≤ 64 →
    statement sc version (spell_said sc (said.If test)) ≡ Some (said.If test, true)
unfolding statement after_word if_line only
if_read sc version test d known low = rw (expression_alone sc d test known low) refl

abbrev IsReadLine : Scope → ℕ → Stmt → Type 0
IsReadLine sc version s =
    does_sayable sc version s ≡ true → length (spell_does sc s) ≤ 64 → statement sc version (spell_does sc s) ≡ Some
    (said.Does s, true)

let_read : (sc : Scope) (version : ℕ) → IsScope sc → (reg : ℕ) (e : Expr) → IsReadLine sc version (Let reg e)
unfolding statement after_word let_line name_at after
let_read sc version d reg e known low =
    let parts = let_parts sc version reg e known in
    let fits : tokens_of e ≤ 64 =
    omega (arith, low, ap (λ (ts : List Tok). length ts) (does-Let sc reg e), expression_counted sc e) in
    rw (
      does-Let sc reg e,
      expression_alone sc d e parts.1 fits,
      number_again sc.regs d.regs reg (below reg (length sc.regs) parts.0),
    ) refl

wait_read : (sc : Scope) (version : ℕ) → IsScope sc → (e : Expr) → IsReadLine sc version (Wait e)
unfolding statement after_word wait_line only
wait_read sc version d e known low =
    let fits : tokens_of e ≤ 64 =
    omega (arith, low, ap (λ (ts : List Tok). length ts) (does-Wait sc e), expression_counted sc e) in
    rw (does-Wait sc e, expression_alone sc d e (sym (sayable-Wait sc version e) ∙ known) fits) refl

assign_no_bracket : (ts : List Tok) → after is_left (symbol symbols.Assign ∷ ts) ≡ None
unfolding after
assign_no_bracket ts = refl

comma_no_dot : (ts : List Tok) → after is_dot (symbol symbols.Comma ∷ ts) ≡ None
unfolding after
comma_no_dot ts = refl

-- PLACE = EXPR , EXPR
change_read : (sc : Scope) → IsScope sc → (p : Place) (x y : Expr) →
    change_known (class_rows sc.table) (known_in sc) p x y ≡ true →
    change_tokens p x y ≤ 64 →
    change sc (spell_place sc p ++ (symbol symbols.Assign ∷ (spell sc x ++ (symbol symbols.Comma ∷ spell sc y)))) ≡
    Some ((p, (x, y)), true)
unfolding change after
change_read sc d p x y known low =
    let parts = change_parts (class_rows sc.table) (known_in sc) p x y known in
    let tail = spell sc x ++ (symbol symbols.Comma ∷ spell sc y) in
    rw (
      place_read sc d p (symbol symbols.Assign ∷ tail) parts.place_there (omega arith) (assign_no_bracket tail),
      expression_read sc d x 64 (symbol symbols.Comma ∷ spell sc y) parts.x_known (omega arith)
          (comma_no_dot (spell sc y)),
      expression_alone sc d y parts.y_known (omega arith),
    ) refl

set_read : (sc : Scope) (version : ℕ) → IsScope sc → (p : Place) (x y : Expr) → IsReadLine sc version (Set p x y)
unfolding statement after_word set_line
set_read sc version d p x y known low =
    let fits : change_tokens p x y ≤ 64 =
    omega (
      arith,
      low,
      ap (λ (ts : List Tok). length ts) (does-Set sc p x y),
      change_counted sc
          (codes "set") p x y,
    ) in
    rw (does-Set sc p x y, change_read sc d p x y (sym (sayable-Set sc version p x y) ∙ known) fits) refl

add_read : (sc : Scope) (version : ℕ) → IsScope sc → (p : Place) (x y : Expr) → IsReadLine sc version (Add p x y)
unfolding statement after_word add_line
add_read sc version d p x y known low =
    let parts = add_parts sc version p x y known in
    let fits : change_tokens p x y ≤ 64 =
    omega (
      arith,
      low,
      ap (λ (ts : List Tok). length ts) (does-Add sc p x y),
      change_counted sc
          (codes "add") p x y,
    ) in
    rw (does-Add sc p x y, parts.0, change_read sc d p x y parts.1 fits) refl

does_read : (sc : Scope) (version : ℕ) → IsScope sc → (s : Stmt) → IsReadLine sc version s
does_read sc version d = every_statement (IsReadLine sc version) (record {
  let_ = let_read sc version d;
  if_ = λ test first second known low. absurd (if_unsayable sc version test _ _ known);
  set = set_read sc version d;
  add = add_read sc version d;
  wait = wait_read sc version d;
})

else_read : (sc : Scope) (version : ℕ) → statement sc version (spell_said sc said.Else) ≡ Some (said.Else, true)
unfolding statement after_word
else_read sc version = refl

end_read : (sc : Scope) (version : ℕ) → statement sc version (spell_said sc said.End) ≡ Some (said.End, true)
unfolding statement after_word
end_read sc version = refl

-- a spelled line of at most 64 tokens is read
pub line_read : (sc : Scope) (version : ℕ) → IsScope sc → (s : Said) → is_sayable sc version s ≡ true →
    length (spell_said sc s) ≤ 64 →
    statement sc version (spell_said sc s) ≡ Some (s, true)
line_read sc version d (said.Reg w z) known low = reg_read sc version w z known
line_read sc version d (said.Sense w s) known low =
    let parts = both (is_free w) (sense_known (class_rows sc.table) (known_in sc) s) known in
    sense_read sc version w s d parts.0 parts.1 (omega (arith, low, sense_counted sc w s))
line_read sc version d (said.Does s) known low = does_read sc version d s known low
line_read sc version d (said.If test) known low =
    if_read sc version test d known (omega (arith, low, expression_counted sc test))
line_read sc version d said.Else known low = else_read sc version
line_read sc version d said.End known low = end_read sc version
