-- What is spelled is read: expressions and places.
use Rattle.std.proofs.Common.{◌≡◌, refl, ap, sym, ◌∙◌, subst, arith, ℕ, zero, suc, ◌≤◌, ◌<◌, Bool, true, false, List, [], ◌∷◌, ◌++◌, length, get_or, nat_lt, ℤ, Some, None, append_assoc, append-nil, codes}
use Rattle.std.specs.Prelude.{not}
use Rattle.std.specs.Str.{bytes_eq}
use Rattle.std.proofs.lemmas.Grind.{common_steps}
use Rattle.std.proofs.lemmas.List.{length-map}
use Rattle.pm_base.specs.Fits.{is_known, place_known, place_tokens, tokens_of}
use Rattle.pm_base.specs.Layouts.{class_row}
use Rattle.pm_base.specs.Names.{is_name, is_reserved}
use Rattle.pm_base.specs.declared.layout.ClassRow.{ClassRow}
use Rattle.pm_base.specs.declared.program.Expr.{Expr}
use Rattle.pm_base.specs.declared.program.Expr.TheVariants.{Num, Now, Me, Reg, Part, Bin}
use Rattle.pm_base.specs.declared.program.Field.{Field}
use Rattle.pm_base.specs.declared.program.Field.TheVariants as field
use Rattle.pm_base.specs.declared.program.Op.{Op}
use Rattle.pm_base.specs.declared.program.Op.TheVariants as op
use Rattle.pm_base.specs.declared.program.Place.{Place}
use Rattle.pm_base.specs.declared.program.Place.TheVariants.{Var, Member}
use Rattle.pm_rules.specs.Grammar.{AreDistinct}
use Rattle.pm_rules.specs.Reading.{Scope, Table, after, class_names, class_rows, closed, expr, expression, field_at, indexed, is_dot, is_left, joined, name_at, named, number_in, operator, part, place, register, variable}
use Rattle.pm_rules.specs.Sayable.{IsScope, known_in}
use Rattle.pm_rules.specs.Spelling.{field_word, op_token, spell, spell_place}
use Rattle.pm_rules.specs.Statements.{is_free}
use Rattle.pm_tokens.specs.Tokens.{Tok, name, symbol}
use Rattle.pm_tokens.specs.declared.token.Symbol.TheVariants as symbols
use Rattle.pm_rules.proofs.KnownParts.{below, bin_parts, both, member_parts}
use Rattle.pm_rules.proofs.SpellingEquations.{spell-Num, spell-Now, spell-Me, spell-Reg, spell-Part, spell-Bin, known-Reg, known-Part, tokens-Num, tokens-Now, tokens-Me, tokens-Reg, tokens-Part, tokens-Bin}
use Rattle.pm_rules.proofs.Variants.{every_expression}

operator_again : (o : Op) (ts : List Tok) → operator (op_token o ∷ ts) ≡ Some (o, ts)
unfolding operator
operator_again op.Add ts = refl
operator_again op.Sub ts = refl
operator_again op.Mul ts = refl
operator_again op.Div ts = refl
operator_again op.Rem ts = refl
operator_again op.Min ts = refl
operator_again op.Max ts = refl
operator_again op.Less ts = refl
operator_again op.AtMost ts = refl
operator_again op.Equal ts = refl
operator_again op.Differ ts = refl

field_again : (f : Field) (ts : List Tok) → field_at (name (field_word f) ∷ ts) ≡ Some (f, ts)
unfolding field_at
field_again field.N ts = refl
field_again field.I ts = refl
field_again field.X ts = refl
field_again field.Y ts = refl
field_again field.Sx ts = refl
field_again field.Sy ts = refl

operator_no_dot : (o : Op) (ts : List Tok) → after is_dot (op_token o ∷ ts) ≡ None
unfolding after
operator_no_dot op.Add ts = refl
operator_no_dot op.Sub ts = refl
operator_no_dot op.Mul ts = refl
operator_no_dot op.Div ts = refl
operator_no_dot op.Rem ts = refl
operator_no_dot op.Min ts = refl
operator_no_dot op.Max ts = refl
operator_no_dot op.Less ts = refl
operator_no_dot op.AtMost ts = refl
operator_no_dot op.Equal ts = refl
operator_no_dot op.Differ ts = refl

-- no expression begins with a dot
pub begins_without_dot : (sc : Scope) (e : Expr) (rest : List Tok) → after is_dot (spell sc e ++ rest) ≡ None
unfolding after
begins_without_dot sc = every_expression (λ e. (rest : List Tok) → after is_dot (spell sc e ++ rest) ≡ None) (record {
  num = λ z rest. rw (spell-Num sc z) refl;
  now = λ rest. rw (spell-Now sc) refl;
  me = λ rest. rw (spell-Me sc) refl;
  reg = λ r rest. rw (spell-Reg sc r) refl;
  part = λ k f rest. rw (spell-Part sc k f) refl;
  bin = λ o a b ra rb rest. rw (spell-Bin sc o a b) refl;
})

pub begins_alone_without_dot : (sc : Scope) (e : Expr) → after is_dot (spell sc e) ≡ None
begins_alone_without_dot sc e =
    subst (λ (ts : List Tok). after is_dot ts ≡ None) (append-nil (spell sc e)) (begins_without_dot sc e [])

-- the number of a name that stands once
pub number_again : (names : List (List ℕ)) → AreDistinct names → (k : ℕ) → k < length names →
    number_in names (get_or names k []) ≡ (k, true)
unfolding number_in
number_again names d k h = rw (d k h) refl

not_false : (r : Bool) → not r ≡ true → r ≡ false
not_false true e = cc
not_false false e = refl

not_reserved : (w : List ℕ) → is_free w ≡ true → is_reserved w ≡ false
unfolding is_free
not_reserved w e = not_false (is_reserved w) (both (is_name w) (not (is_reserved w)) e).1

not_now : (w : List ℕ) → is_reserved w ≡ false → bytes_eq w (codes "now") ≡ false
unfolding is_reserved
not_now w e = grind (arith, common_steps)

not_me : (w : List ℕ) → is_reserved w ≡ false → bytes_eq w (codes "me") ≡ false
unfolding is_reserved
not_me w e = grind (arith, common_steps)

-- it is read again from as many levels on as it has tokens, whatever follows but a dot
abbrev pub IsReadAgain : Scope → Expr → Type 0
IsReadAgain sc e =
    (n : ℕ) (rest : List Tok) → is_known (known_in sc) e ≡ true → tokens_of e ≤ n → after is_dot rest ≡ None →
    expression sc n (spell sc e ++ rest) ≡ Some ((e, true), rest)

num_again : (sc : Scope) (z : ℤ) → IsReadAgain sc (Num z)
unfolding expression
num_again sc z zero rest known low nodot = absurd (omega (arith, tokens-Num z))
num_again sc z (suc n) rest known low nodot = rw (spell-Num sc z) refl

now_again : (sc : Scope) → IsReadAgain sc Now
unfolding expression named
now_again sc zero rest known low nodot = absurd (omega (arith, tokens-Now))
now_again sc (suc n) rest known low nodot = rw (spell-Now sc) refl

me_again : (sc : Scope) → IsReadAgain sc Me
unfolding expression named
me_again sc zero rest known low nodot = absurd (omega (arith, tokens-Me))
me_again sc (suc n) rest known low nodot = rw (spell-Me sc) refl

reg_again : (sc : Scope) → IsScope sc → (r : ℕ) → IsReadAgain sc (Reg r)
unfolding expression named register
reg_again sc d r zero rest known low nodot = absurd (omega (arith, tokens-Reg r))
reg_again sc d r (suc n) rest known low nodot =
    let h : r < length sc.regs = below r (length sc.regs) (sym (known-Reg (known_in sc) r) ∙ known) in
    let free = not_reserved (get_or sc.regs r []) (d.free_regs r h) in
    rw (
      spell-Reg sc r,
      not_now (get_or sc.regs r []) free,
      not_me (get_or sc.regs r []) free,
      free,
      nodot,
      number_again sc.regs d.regs r h,
    ) refl

part_again : (sc : Scope) → IsScope sc → (k : ℕ) (f : Field) → IsReadAgain sc (Part k f)
unfolding expression named after part
part_again sc d k f zero rest known low nodot = absurd (omega (arith, tokens-Part k f))
part_again sc d k f (suc n) rest known low nodot =
    let h : k < length sc.senses = below k (length sc.senses) (sym (known-Part (known_in sc) k f) ∙ known) in
    let free = not_reserved (get_or sc.senses k []) (d.free_senses k h) in
    rw (
      spell-Part sc k f,
      not_now (get_or sc.senses k []) free,
      not_me (get_or sc.senses k []) free,
      free,
      field_again f rest,
      number_again sc.senses d.senses k h,
    ) refl

pub regroup : (a b rest : List Tok) (o : Tok) →
    (a ++ (o ∷ (b ++ symbol symbols.Close ∷ []))) ++ rest ≡ a ++ (o ∷ (b ++ (symbol symbols.Close ∷ rest)))
regroup a b rest o =
    append_assoc a (o ∷ (b ++ symbol symbols.Close ∷ [])) rest ∙ ap (λ (t : List Tok). a ++ (o ∷ t))
    (append_assoc b (symbol symbols.Close ∷ []) rest)

closed_again : (o : Op) (a b : Expr) (rest : List Tok) →
    closed o (a, true) (b, true) (symbol symbols.Close ∷ rest) ≡ Some ((Bin o a b, true), rest)
unfolding closed after joined
closed_again o a b rest = refl

close_no_dot : (ts : List Tok) → after is_dot (symbol symbols.Close ∷ ts) ≡ None
unfolding after
close_no_dot ts = refl

bin_again : (sc : Scope) (o : Op) (a b : Expr) → IsReadAgain sc a → IsReadAgain sc b → IsReadAgain sc (Bin o a b)
unfolding expression
bin_again sc o a b ra rb zero rest known low nodot = absurd (omega (arith, tokens-Bin o a b))
bin_again sc o a b ra rb (suc n) rest known low nodot =
    let parts = bin_parts (known_in sc) o a b known in
    let low_a : tokens_of a ≤ n = omega (arith, tokens-Bin o a b) in
    let low_b : tokens_of b ≤ n = omega (arith, tokens-Bin o a b) in
    let tail = symbol symbols.Close ∷ rest in
    let first = ra n (op_token o ∷ (spell sc b ++ tail)) parts.0 low_a (operator_no_dot o (spell sc b ++ tail)) in
    let second = rb n tail parts.1 low_b (close_no_dot rest) in
    rw (
      spell-Bin sc o a b,
      regroup (spell sc a) (spell sc b) rest (op_token o),
      first,
      operator_again o (spell sc b ++ tail),
      second,
    ) (closed_again o a b rest)

-- a spelled expression is read, and what stands behind it is left
pub expression_read : (sc : Scope) → IsScope sc → (e : Expr) → IsReadAgain sc e
expression_read sc d = every_expression (IsReadAgain sc) (record {
  num = num_again sc;
  now = now_again sc;
  me = me_again sc;
  reg = reg_again sc d;
  part = part_again sc d;
  bin = bin_again sc;
})

no_dot_at_end : after is_dot [] ≡ None
unfolding after
no_dot_at_end = refl

-- one with nothing behind it
pub expression_alone : (sc : Scope) → IsScope sc → (e : Expr) → is_known (known_in sc) e ≡ true → tokens_of e ≤ 64 →
    expr sc (spell sc e) ≡ Some ((e, true), [])
expression_alone sc d e known low =
    subst (λ (ts : List Tok). expression sc 64 ts ≡ Some ((e, true), [])) (append-nil (spell sc e))
    (expression_read sc d e 64 [] known low no_dot_at_end)

-- a class with a member is there
pub class_there : (rows : List ClassRow) (k : ℕ) → nat_lt 0 (class_row rows k).count ≡ true → k < length rows
class_there [] k e = cc
class_there (r ∷ rs) zero e = omega arith
class_there (r ∷ rs) (suc k) e = omega (arith, class_there rs k e)

pub same_length : (t : Table) → length (class_names t) ≡ length (class_rows t)
same_length t =
    length-map t.classes (λ (c : List ℕ × ClassRow). c.0) ∙ sym
    (length-map t.classes (λ (c : List ℕ × ClassRow). c.1))

var_again : (sc : Scope) → IsScope sc → (v : ℕ) (rest : List Tok) → nat_lt v (length sc.table.vars) ≡ true →
    after is_left rest ≡ None →
    place sc (spell_place sc (Var v) ++ rest) ≡ Some ((Var v, true), rest)
unfolding place name_at variable
var_again sc d v rest known nobracket =
    rw (nobracket, number_again sc.table.vars d.vars v (below v (length sc.table.vars) known)) refl

member_again : (sc : Scope) → IsScope sc → (class : ℕ) (at : Expr) (rest : List Tok) →
    place_known (class_rows sc.table) (known_in sc) (Member class at) ≡ true → place_tokens (Member class at) ≤ 64 →
    place sc (spell_place sc (Member class at) ++ rest) ≡ Some ((Member class at, true), rest)
unfolding place name_at after indexed
member_again sc d class at rest known low =
    let parts = member_parts (class_rows sc.table) (known_in sc) class at known in
    let there : class < length (class_names sc.table) =
    omega (arith, same_length sc.table, class_there (class_rows sc.table) class parts.0) in
    let index = expression_read sc d at 64 (symbol symbols.RightBracket ∷ rest) parts.1 (omega arith) refl in
    rw (
      append_assoc (spell sc at) (symbol symbols.RightBracket ∷ []) rest,
      index,
      number_again (class_names sc.table) d.classes class there,
      parts.0,
    ) refl

-- a spelled place is read, whatever follows but a bracket
pub place_read : (sc : Scope) → IsScope sc → (p : Place) (rest : List Tok) →
    place_known (class_rows sc.table) (known_in sc) p ≡ true →
    place_tokens p ≤ 64 → after is_left rest ≡ None → place sc (spell_place sc p ++ rest) ≡ Some ((p, true), rest)
place_read sc d (Var v) rest known low nobracket = var_again sc d v rest known nobracket
place_read sc d (Member class at) rest known low nobracket = member_again sc d class at rest known low

no_bracket_at_end : after is_left [] ≡ None
unfolding after
no_bracket_at_end = refl

pub place_alone : (sc : Scope) → IsScope sc → (p : Place) → place_known (class_rows sc.table) (known_in sc) p ≡ true →
    place_tokens p ≤ 64 →
    place sc (spell_place sc p) ≡ Some ((p, true), [])
place_alone sc d p known low =
    subst (λ (ts : List Tok). place sc ts ≡ Some ((p, true), [])) (append-nil (spell_place sc p))
    (place_read sc d p [] known low no_bracket_at_end)
