-- What is spelled in a scope is spelled so in every scope that has more behind.
use Rattle.std.proofs.Common.{◌≡◌, refl, sym, ◌∙◌, ℕ, true, List, [], ◌++◌, length, get_or, nat_lt, codes}
use Rattle.std.proofs.lemmas.List.{get_or_append_left}
use Rattle.pm_base.specs.Fits.{change_known, is_known, place_known, sense_known}
use Rattle.pm_base.specs.declared.program.Expr.{Expr}
use Rattle.pm_base.specs.declared.program.Expr.TheVariants.{Reg, Part, Bin}
use Rattle.pm_base.specs.declared.program.Field.{Field}
use Rattle.pm_base.specs.declared.program.Op.{Op}
use Rattle.pm_base.specs.declared.program.Place.{Place}
use Rattle.pm_base.specs.declared.program.Place.TheVariants.{Var, Member}
use Rattle.pm_base.specs.declared.program.Sense.{Sense}
use Rattle.pm_base.specs.declared.program.Sense.TheVariants as sense
use Rattle.pm_base.specs.declared.program.Stmt.{Stmt}
use Rattle.pm_base.specs.declared.program.Stmt.TheVariants.{Let, Set, Add, Wait}
use Rattle.pm_rules.specs.Reading.{Scope, class_rows}
use Rattle.pm_rules.specs.Sayable.{does_sayable, extended, is_sayable, known_in}
use Rattle.pm_rules.specs.Spelling.{spell, spell_change, spell_does, spell_place, spell_said, spell_sense}
use Rattle.pm_rules.specs.Statements.{is_free}
use Rattle.pm_rules.specs.declared.said.Said.{Said}
use Rattle.pm_rules.specs.declared.said.Said.TheVariants as said
use Rattle.pm_rules.proofs.SpellingEquations.{spell-Num, spell-Now, spell-Me, spell-Reg, spell-Part, spell-Bin, known-Reg, known-Part, does-Let, does-Set, does-Add, does-Wait, sayable-Set, sayable-Wait}
use Rattle.pm_rules.proofs.KnownParts.{add_parts, below, bin_parts, both, change_parts, if_unsayable, let_parts, member_parts, scan_parts}
use Rattle.pm_rules.proofs.Variants.{every_expression, every_statement}

name_kept : (names more : List (List ℕ)) (k : ℕ) → nat_lt k (length names) ≡ true →
    get_or (names ++ more) k [] ≡ get_or names k []
name_kept names more k e = get_or_append_left names more [] k (below k (length names) e)

abbrev IsKept : Scope → List (List ℕ) → List (List ℕ) → Expr → Type 0
IsKept sc regs senses e = is_known (known_in sc) e ≡ true → spell (extended sc regs senses) e ≡ spell sc e

reg_kept : (sc : Scope) (regs senses : List (List ℕ)) (r : ℕ) → IsKept sc regs senses (Reg r)
reg_kept sc regs senses r known =
    rw (
      spell-Reg (extended sc regs senses) r,
      spell-Reg sc r,
      name_kept sc.regs regs r
          (sym (known-Reg (known_in sc) r) ∙ known),
    ) refl

part_kept : (sc : Scope) (regs senses : List (List ℕ)) (k : ℕ) (f : Field) → IsKept sc regs senses (Part k f)
part_kept sc regs senses k f known =
    rw (
      spell-Part (extended sc regs senses) k f,
      spell-Part sc k f,
      name_kept sc.senses senses k
          (sym (known-Part (known_in sc) k f) ∙ known),
    ) refl

bin_kept : (sc : Scope) (regs senses : List (List ℕ)) (o : Op) (a b : Expr) → IsKept sc regs senses a →
    IsKept sc regs senses b →
    IsKept sc regs senses (Bin o a b)
bin_kept sc regs senses o a b ka kb known =
    let parts = bin_parts (known_in sc) o a b known in
    rw (spell-Bin (extended sc regs senses) o a b, spell-Bin sc o a b, ka parts.0, kb parts.1) refl

-- an expression
pub expression_kept : (sc : Scope) (regs senses : List (List ℕ)) (e : Expr) → is_known (known_in sc) e ≡ true →
    spell (extended sc regs senses) e ≡ spell sc e
expression_kept sc regs senses = every_expression (IsKept sc regs senses) (record {
  num = λ z known. rw (spell-Num (extended sc regs senses) z, spell-Num sc z) refl;
  now = λ known. rw (spell-Now (extended sc regs senses), spell-Now sc) refl;
  me = λ known. rw (spell-Me (extended sc regs senses), spell-Me sc) refl;
  reg = reg_kept sc regs senses;
  part = part_kept sc regs senses;
  bin = bin_kept sc regs senses;
})

-- a place
pub place_kept : (sc : Scope) (regs senses : List (List ℕ)) (p : Place) →
    place_known (class_rows sc.table) (known_in sc) p ≡ true →
    spell_place (extended sc regs senses) p ≡ spell_place sc p
place_kept sc regs senses (Var v) known = refl
place_kept sc regs senses (Member class at) known =
    rw (expression_kept sc regs senses at (member_parts (class_rows sc.table) (known_in sc) class at known).1) refl

-- a sense
pub sense_kept : (sc : Scope) (regs senses : List (List ℕ)) (w : List ℕ) (s : Sense) →
    sense_known (class_rows sc.table) (known_in sc) s ≡ true →
    spell_sense (extended sc regs senses) w s ≡ spell_sense sc w s
sense_kept sc regs senses w (sense.Read p) known = rw (place_kept sc regs senses p known) refl
sense_kept sc regs senses w (sense.Scan class x0 x1 y0 y1) known =
    let parts = scan_parts (class_rows sc.table) (known_in sc) class x0 x1 y0 y1 known in
    rw (
      expression_kept sc regs senses x0 parts.x0_known,
      expression_kept sc regs senses x1 parts.x1_known,
      expression_kept sc regs senses y0 parts.y0_known,
      expression_kept sc regs senses y1 parts.y1_known,
    ) refl

change_kept : (sc : Scope) (regs senses : List (List ℕ)) (w : List ℕ) (p : Place) (x y : Expr) →
    change_known (class_rows sc.table) (known_in sc) p x y ≡ true →
    spell_change (extended sc regs senses) w p x y ≡ spell_change sc w p x y
change_kept sc regs senses w p x y known =
    let parts = change_parts (class_rows sc.table) (known_in sc) p x y known in
    rw (
      place_kept sc regs senses p parts.place_there,
      expression_kept sc regs senses x parts.x_known,
      expression_kept sc regs senses y parts.y_known,
    ) refl

abbrev DoesKept : Scope → List (List ℕ) → List (List ℕ) → ℕ → Stmt → Type 0
DoesKept sc regs senses version s =
    does_sayable sc version s ≡ true → spell_does (extended sc regs senses) s ≡ spell_does sc s

let_kept : (sc : Scope) (regs senses : List (List ℕ)) (version reg : ℕ) (e : Expr) →
    DoesKept sc regs senses version (Let reg e)
let_kept sc regs senses version reg e known =
    let parts = let_parts sc version reg e known in
    rw (
      does-Let (extended sc regs senses) reg e,
      does-Let sc reg e,
      name_kept sc.regs regs reg parts.0,
      expression_kept sc regs senses e parts.1,
    ) refl

set_kept : (sc : Scope) (regs senses : List (List ℕ)) (version : ℕ) (p : Place) (x y : Expr) →
    DoesKept sc regs senses version (Set p x y)
set_kept sc regs senses version p x y known =
    does-Set (extended sc regs senses) p x y
    ∙ change_kept sc regs senses (codes "set") p x y (sym (sayable-Set sc version p x y) ∙ known)
    ∙ sym (does-Set sc p x y)

add_kept : (sc : Scope) (regs senses : List (List ℕ)) (version : ℕ) (p : Place) (x y : Expr) →
    DoesKept sc regs senses version (Add p x y)
add_kept sc regs senses version p x y known =
    does-Add (extended sc regs senses) p x y
    ∙ change_kept sc regs senses (codes "add") p x y (add_parts sc version p x y known).1
    ∙ sym (does-Add sc p x y)

wait_kept : (sc : Scope) (regs senses : List (List ℕ)) (version : ℕ) (e : Expr) →
    DoesKept sc regs senses version (Wait e)
wait_kept sc regs senses version e known =
    rw (
      does-Wait (extended sc regs senses) e,
      does-Wait sc e,
      expression_kept sc regs senses e (sym (sayable-Wait sc version e) ∙ known),
    ) refl

does_kept : (sc : Scope) (regs senses : List (List ℕ)) (version : ℕ) (s : Stmt) → DoesKept sc regs senses version s
does_kept sc regs senses version = every_statement (DoesKept sc regs senses version) (record {
  let_ = let_kept sc regs senses version;
  if_ = λ test first second known. absurd (if_unsayable sc version test _ _ known);
  set = set_kept sc regs senses version;
  add = add_kept sc regs senses version;
  wait = wait_kept sc regs senses version;
})

-- a line
pub said_kept : (sc : Scope) (regs senses : List (List ℕ)) (version : ℕ) (s : Said) → is_sayable sc version s ≡ true →
    spell_said (extended sc regs senses) s ≡ spell_said sc s
said_kept sc regs senses version (said.Reg w z) known = refl
said_kept sc regs senses version (said.Sense w s) known =
    sense_kept sc regs senses w s (both (is_free w) (sense_known (class_rows sc.table) (known_in sc) s) known).1
said_kept sc regs senses version (said.Does s) known = does_kept sc regs senses version s known
said_kept sc regs senses version (said.If test) known = rw (expression_kept sc regs senses test known) refl
said_kept sc regs senses version said.Else known = refl
said_kept sc regs senses version said.End known = refl
