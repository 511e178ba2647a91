-- The tokens of an expression, a place and a sense are writable: their names are names, their numbers have 64 bits.
use Rattle.std.proofs.Common.{◌≡◌, refl, sym, subst, ◌∙◌, arith, ℕ, zero, suc, ◌<◌, ◌≤◌, ◌^◌, nat_lt}
use Rattle.std.proofs.Common.{Bool, true, false, ◌&&◌, ℤ, pos, negsuc, List, [], ◌∷◌, ◌++◌, length, append_assoc}
use Rattle.std.specs.Prelude.{codes, FitsSigned}
use Rattle.std.specs.Int.{w64}
use Rattle.std.specs.List.{AllByRecursion}
use Rattle.std.proofs.lemmas.Bool.Decides.{nat_tests}
use Rattle.pm_base.specs.Fits.{change_known, is_known, known_step, place_known, sense_known}
use Rattle.pm_base.specs.Layouts.{class_row}
use Rattle.pm_base.specs.Names.{is_name}
use Rattle.pm_base.specs.declared.fits.Known.{Known}
use Rattle.pm_base.specs.declared.layout.ClassRow.{ClassRow}
use Rattle.pm_base.specs.declared.program.Expr.{Expr}
use Rattle.pm_base.specs.declared.program.Expr.TheFolds.{fold-roll-Expr, ind-Expr, map-Expr}
use Rattle.pm_base.specs.declared.program.Expr.TheOpen.{Expr-F}
use Rattle.pm_base.specs.declared.program.Expr.TheViews.{roll-Expr}
use Rattle.pm_base.specs.declared.program.Field.{Field}
use Rattle.pm_base.specs.declared.program.Field.TheVariants as field
use Rattle.pm_base.specs.declared.program.Op.{Op}
use Rattle.pm_base.specs.declared.program.Op.TheVariants as op
use Rattle.pm_base.specs.declared.program.Place.{Place}
use Rattle.pm_base.specs.declared.program.Place.TheVariants.{Var, Member}
use Rattle.pm_base.specs.declared.program.Sense.{Sense}
use Rattle.pm_base.specs.declared.program.Sense.TheVariants as sense
use Rattle.pm_print.specs.Printing.{AreNames, AreWritable, IsNamed, IsWritable}
use Rattle.pm_print.specs.Printing.{change_sized, in_i64, is_sized, place_sized, sense_sized, sized_step}
use Rattle.pm_rules.specs.Reading.{Scope, class_names}
use Rattle.pm_rules.specs.Spelling.{field_word, name_in, op_token, spell, spell_change, spell_place, spell_sense}
use Rattle.pm_rules.specs.Spelling.{spell_step}
use Rattle.pm_tokens.specs.Tokens.{Tok, symbol}
use Rattle.pm_tokens.specs.declared.token.Symbol.TheVariants as symbols

pub both : (x y : Bool) → (x && y) ≡ true → (x ≡ true) × (y ≡ true)
both true true e = (refl, refl)
both true false e = cc
both false y e = cc

pub below : (r n : ℕ) → nat_lt r n ≡ true → r < n
below r n e = grind (arith, nat_tests)

pub all_both : {A : Type 0} (P : A → Type 0) (xs ys : List A) → AllByRecursion P xs → AllByRecursion P ys →
    AllByRecursion P (xs ++ ys)
all_both P [] ys h k = k
all_both P (x ∷ xs) ys h k = (h.0, all_both P xs ys h.1 k)

join : (a b : List Tok) → AreWritable a → AreWritable b → AreWritable (a ++ b)
join a b h k = all_both IsWritable a b h k

-- the names that stand for numbers are names, and there is one for each number that may be used
pub record Covers (sc : Scope) (classes : List ClassRow) (k : Known) : Type 0 where
  pub named : IsNamed sc.table
  pub regs : AreNames sc.regs
  pub senses : AreNames sc.senses
  pub var_count : k.vars ≤ length sc.table.vars
  pub class_count : length classes ≤ length (class_names sc.table)
  pub reg_count : k.regs ≤ length sc.regs
  pub sense_count : k.senses ≤ length sc.senses

name_at : (names : List (List ℕ)) (k : ℕ) → AreNames names → k < length names → is_name (name_in names k) ≡ true
name_at [] k all h = absurd (omega arith)
name_at (w ∷ ws) zero all h = all.0
name_at (w ∷ ws) (suc k) all h = name_at ws k all.1 (omega arith)

has_member : (classes : List ClassRow) (class : ℕ) → nat_lt 0 (class_row classes class).count ≡ true →
    class < length classes
has_member [] class e = cc
has_member (c ∷ cs) zero e = omega arith
has_member (c ∷ cs) (suc class) e = let low = has_member cs class e in omega (arith, low)

pub reg_at : {sc : Scope} {classes : List ClassRow} {k : Known} → Covers sc classes k → (r : ℕ) →
    nat_lt r k.regs ≡ true → is_name (name_in sc.regs r) ≡ true
reg_at {sc} {classes} {k} c r e = name_at sc.regs r c.regs (omega (arith, below r k.regs e, c.reg_count))

sense_at : {sc : Scope} {classes : List ClassRow} {k : Known} → Covers sc classes k → (s : ℕ) →
    nat_lt s k.senses ≡ true → is_name (name_in sc.senses s) ≡ true
sense_at {sc} {classes} {k} c s e = name_at sc.senses s c.senses (omega (arith, below s k.senses e, c.sense_count))

var_at : {sc : Scope} {classes : List ClassRow} {k : Known} → Covers sc classes k → (v : ℕ) →
    nat_lt v k.vars ≡ true → is_name (name_in sc.table.vars v) ≡ true
var_at {sc} {classes} {k} c v e = name_at sc.table.vars v c.named.vars (omega (arith, below v k.vars e, c.var_count))

class_at : {sc : Scope} {classes : List ClassRow} {k : Known} → Covers sc classes k → (class : ℕ) →
    class < length classes → is_name (name_in (class_names sc.table) class) ≡ true
class_at {sc} c class low = name_at (class_names sc.table) class c.named.classes (omega (arith, low, c.class_count))

pub fits_i64 : (z : ℤ) → in_i64 z ≡ true → FitsSigned w64 z
fits_i64 (pos n) e = let low = below n (2 ^ 63) e in omega (arith, low)
fits_i64 (negsuc n) e = let low = below n (2 ^ 63) e in omega (arith, low)

op_writable : (o : Op) → IsWritable (op_token o)
unfolding is_name
op_writable op.Add = tt
op_writable op.Sub = tt
op_writable op.Mul = tt
op_writable op.Div = tt
op_writable op.Rem = tt
op_writable op.Min = refl
op_writable op.Max = refl
op_writable op.Less = tt
op_writable op.AtMost = tt
op_writable op.Equal = tt
op_writable op.Differ = tt

field_writable : (f : Field) → is_name (field_word f) ≡ true
unfolding is_name
field_writable field.N = refl
field_writable field.I = refl
field_writable field.X = refl
field_writable field.Y = refl
field_writable field.Sx = refl
field_writable field.Sy = refl

now_word : is_name (codes "now") ≡ true
unfolding is_name
now_word = refl

me_word : is_name (codes "me") ≡ true
unfolding is_name
me_word = refl

read_word : is_name (codes "read") ≡ true
unfolding is_name
read_word = refl

scan_word : is_name (codes "scan") ≡ true
unfolding is_name
scan_word = refl

abbrev IsSpelled : Scope → Known → Expr → Type 0
IsSpelled sc k e = is_known k e ≡ true → is_sized e ≡ true → AreWritable (spell sc e)

-- one level of an expression
level : (sc : Scope) (k : Known) (x : Expr-F Expr) →
    (known_step k (map-Expr Expr Bool (is_known k) x) ≡ true → sized_step (map-Expr Expr Bool is_sized x) ≡ true →
    AreWritable (spell_step sc (map-Expr Expr (List Tok) (spell sc) x))) → IsSpelled sc k (roll-Expr x)
level sc k x f known sized = subst AreWritable (sym (fold-roll-Expr (List Tok) (spell_step sc) x))
    (f (sym (fold-roll-Expr Bool (known_step k) x) ∙ known) (sym (fold-roll-Expr Bool sized_step x) ∙ sized))

bin_writable : (a b : List Tok) (o : Op) → AreWritable a → AreWritable b →
    AreWritable (symbol symbols.Open ∷ (a ++ (op_token o ∷ (b ++ symbol symbols.Close ∷ []))))
bin_writable a b o h k = (tt, join a _ h (op_writable o, join b _ k (tt, tt)))

expr_case : {sc : Scope} {classes : List ClassRow} {k : Known} → Covers sc classes k →
    (y : Expr-F ((e : Expr) × IsSpelled sc k e)) →
    IsSpelled sc k (roll-Expr (map-Expr ((e : Expr) × IsSpelled sc k e) Expr (λ e. e.0) y))
expr_case {sc} {classes} {k} c (Expr-F.Num z) = level sc k (Expr-F.Num z) (λ known sized. (fits_i64 z sized, tt))
expr_case {sc} {classes} {k} c Expr-F.Now = level sc k Expr-F.Now (λ known sized. (now_word, tt))
expr_case {sc} {classes} {k} c Expr-F.Me = level sc k Expr-F.Me (λ known sized. (me_word, tt))
expr_case {sc} {classes} {k} c (Expr-F.Reg r) = level sc k (Expr-F.Reg r) (λ known sized. (reg_at c r known, tt))
expr_case {sc} {classes} {k} c (Expr-F.Part s f) =
    level sc k (Expr-F.Part s f) (λ known sized. (sense_at c s known, (tt, (field_writable f, tt))))
expr_case {sc} {classes} {k} c (Expr-F.Bin o a b) = level sc k (Expr-F.Bin o a.0 b.0) (λ known sized.
    let knowns = both (is_known k a.0) (is_known k b.0) known in
    let sizes = both (is_sized a.0) (is_sized b.0) sized in
    bin_writable (spell sc a.0) (spell sc b.0) o (a.1 knowns.0 sizes.0) (b.1 knowns.1 sizes.1))

pub expr_writable : {sc : Scope} {classes : List ClassRow} {k : Known} → Covers sc classes k → (e : Expr) →
    IsSpelled sc k e
expr_writable {sc} {classes} {k} c = ind-Expr (IsSpelled sc k)
    (λ x y is. subst (λ (z : Expr-F Expr). IsSpelled sc k (roll-Expr z)) is (expr_case c y))

place_writable : {sc : Scope} {classes : List ClassRow} {k : Known} → Covers sc classes k → (place : Place) →
    place_known classes k place ≡ true → place_sized place ≡ true → AreWritable (spell_place sc place)
place_writable {sc} {classes} {k} c (Var v) known sized = (var_at c v known, tt)
place_writable {sc} {classes} {k} c (Member class at) known sized =
    let knowns = both (nat_lt 0 (class_row classes class).count) (is_known k at) known in
    let low = has_member classes class knowns.0 in
    (class_at c class low, (tt, join (spell sc at) _ (expr_writable c at knowns.1 sized) (tt, tt)))

two_writable : {sc : Scope} {classes : List ClassRow} {k : Known} → Covers sc classes k → (a b : Expr) →
    (is_known k a && is_known k b) ≡ true → (is_sized a && is_sized b) ≡ true →
    AreWritable (spell sc a ++ spell sc b)
two_writable {sc} {classes} {k} c a b known sized =
    let knowns = both (is_known k a) (is_known k b) known in
    let sizes = both (is_sized a) (is_sized b) sized in
    join (spell sc a) (spell sc b) (expr_writable c a knowns.0 sizes.0) (expr_writable c b knowns.1 sizes.1)

window_writable : {sc : Scope} {classes : List ClassRow} {k : Known} → Covers sc classes k → (x0 x1 y0 y1 : Expr) →
    (is_known k x0 && is_known k x1) ≡ true → (is_known k y0 && is_known k y1) ≡ true →
    ((is_sized x0 && is_sized x1) && (is_sized y0 && is_sized y1)) ≡ true →
    AreWritable (spell sc x0 ++ (spell sc x1 ++ (spell sc y0 ++ spell sc y1)))
window_writable {sc} c x0 x1 y0 y1 across along sized =
    let sizes = both (is_sized x0 && is_sized x1) (is_sized y0 && is_sized y1) sized in
    subst AreWritable (append_assoc (spell sc x0) (spell sc x1) (spell sc y0 ++ spell sc y1))
    (join (spell sc x0 ++ spell sc x1) (spell sc y0 ++ spell sc y1)
    (two_writable c x0 x1 across sizes.0) (two_writable c y0 y1 along sizes.1))

pub sense_writable : {sc : Scope} {classes : List ClassRow} {k : Known} → Covers sc classes k → (w : List ℕ) →
    is_name w ≡ true → (s : Sense) → sense_known classes k s ≡ true → sense_sized s ≡ true →
    AreWritable (spell_sense sc w s)
sense_writable {sc} {classes} {k} c w n (sense.Read place) known sized =
    (read_word, (n, (tt, place_writable c place known sized)))
sense_writable {sc} {classes} {k} c w n (sense.Scan class x0 x1 y0 y1) known sized =
    let across = is_known k x0 && is_known k x1 in
    let outer = both (nat_lt class (length classes) && across) (is_known k y0 && is_known k y1) known in
    let inner = both (nat_lt class (length classes)) across outer.0 in
    let low = below class (length classes) inner.0 in
    (scan_word, (n, (tt, (class_at c class low, window_writable c x0 x1 y0 y1 inner.1 outer.1 sized))))

pub change_writable : {sc : Scope} {classes : List ClassRow} {k : Known} → Covers sc classes k → (w : List ℕ) →
    is_name w ≡ true → (place : Place) (x y : Expr) → change_known classes k place x y ≡ true →
    change_sized place x y ≡ true → AreWritable (spell_change sc w place x y)
change_writable {sc} {classes} {k} c w n place x y known sized =
    let outer = both (place_known classes k place) (is_known k x && is_known k y) known in
    let inner = both (is_known k x) (is_known k y) outer.1 in
    let sizes = both (place_sized place) (is_sized x && is_sized y) sized in
    let parts = both (is_sized x) (is_sized y) sizes.1 in (
      n,
      join (spell_place sc place) _ (place_writable c place outer.0 sizes.0)
          (tt, join (spell sc x) _ (expr_writable c x inner.0 parts.0) (tt, expr_writable c y inner.1 parts.1)),
    )
