-- What is known of the parts of what is known.
use Rattle.std.proofs.Common.{◌≡◌, refl, sym, ◌∙◌, arith, ℕ, ◌<◌, Bool, true, false, List, length, nat_lt}
use Rattle.std.specs.Prelude.{◌&&◌, ◌==◌}
use Rattle.std.proofs.lemmas.Bool.Decides.{nat_tests}
use Rattle.pm_base.specs.Fits.{change_known, is_known, place_known, sense_known}
use Rattle.pm_base.specs.Layouts.{class_row}
use Rattle.pm_base.specs.declared.fits.Known.{Known}
use Rattle.pm_base.specs.declared.layout.ClassRow.{ClassRow}
use Rattle.pm_base.specs.declared.program.Expr.{Expr}
use Rattle.pm_base.specs.declared.program.Expr.TheVariants.{Bin}
use Rattle.pm_base.specs.declared.program.Op.{Op}
use Rattle.pm_base.specs.declared.program.Place.{Place}
use Rattle.pm_base.specs.declared.program.Place.TheVariants.{Member}
use Rattle.pm_base.specs.declared.program.Sense.TheVariants as sense
use Rattle.pm_base.specs.declared.program.Stmt.{Stmt}
use Rattle.pm_base.specs.declared.program.Stmt.TheVariants.{Let, If, Add}
use Rattle.pm_rules.specs.Reading.{Scope, class_rows}
use Rattle.pm_rules.specs.Sayable.{does_sayable, known_in}
use Rattle.pm_rules.proofs.SpellingEquations.{known-Bin, sayable-Let, sayable-If, sayable-Add}

pub both : (x y : Bool) → (x && y) ≡ true → (x ≡ true) × (y ≡ true)
both true true e = (refl, refl)
both true false e = cc
both false y e = cc

pub below : (k n : ℕ) → nat_lt k n ≡ true → k < n
below k n e = grind (arith, nat_tests)

pub bin_parts : (k : Known) (o : Op) (a b : Expr) → is_known k (Bin o a b) ≡ true →
    (is_known k a ≡ true) × (is_known k b ≡ true)
bin_parts k o a b known = both (is_known k a) (is_known k b) (sym (known-Bin k o a b) ∙ known)

pub member_parts : (rows : List ClassRow) (k : Known) (class : ℕ) (at : Expr) →
    place_known rows k (Member class at) ≡ true →
    (nat_lt 0 (class_row rows class).count ≡ true) × (is_known k at ≡ true)
member_parts rows k class at known = both (nat_lt 0 (class_row rows class).count) (is_known k at) known

pub record ScanParts (rows : List ClassRow) (k : Known) (class : ℕ) (x0 x1 y0 y1 : Expr) : Type 0 where
  pub class_there : nat_lt class (length rows) ≡ true
  pub x0_known : is_known k x0 ≡ true
  pub x1_known : is_known k x1 ≡ true
  pub y0_known : is_known k y0 ≡ true
  pub y1_known : is_known k y1 ≡ true

pub scan_parts : (rows : List ClassRow) (k : Known) (class : ℕ) (x0 x1 y0 y1 : Expr) →
    sense_known rows k (sense.Scan class x0 x1 y0 y1) ≡ true → ScanParts rows k class x0 x1 y0 y1
scan_parts rows k class x0 x1 y0 y1 known =
    let parts =
    both (nat_lt class (length rows) && (is_known k x0 && is_known k x1)) (is_known k y0 && is_known k y1) known in
    let front = both (nat_lt class (length rows)) (is_known k x0 && is_known k x1) parts.0 in
    let across = both (is_known k x0) (is_known k x1) front.1 in
    let along = both (is_known k y0) (is_known k y1) parts.1 in
    record { class_there = front.0; x0_known = across.0; x1_known = across.1; y0_known = along.0; y1_known = along.1 }

pub record ChangeParts (rows : List ClassRow) (k : Known) (p : Place) (x y : Expr) : Type 0 where
  pub place_there : place_known rows k p ≡ true
  pub x_known : is_known k x ≡ true
  pub y_known : is_known k y ≡ true

pub change_parts : (rows : List ClassRow) (k : Known) (p : Place) (x y : Expr) → change_known rows k p x y ≡ true →
    ChangeParts rows k p x y
change_parts rows k p x y known =
    let parts = both (place_known rows k p) (is_known k x && is_known k y) known in
    let values = both (is_known k x) (is_known k y) parts.1 in
    record { place_there = parts.0; x_known = values.0; y_known = values.1 }

pub let_parts : (sc : Scope) (version reg : ℕ) (e : Expr) → does_sayable sc version (Let reg e) ≡ true →
    (nat_lt reg (length sc.regs) ≡ true) × (is_known (known_in sc) e ≡ true)
let_parts sc version reg e known =
    both (nat_lt reg (length sc.regs)) (is_known (known_in sc) e) (sym (sayable-Let sc version reg e) ∙ known)

pub add_parts : (sc : Scope) (version : ℕ) (p : Place) (x y : Expr) → does_sayable sc version (Add p x y) ≡ true →
    ((version == 2) ≡ true) × (change_known (class_rows sc.table) (known_in sc) p x y ≡ true)
add_parts sc version p x y known =
    both (version == 2) (change_known (class_rows sc.table) (known_in sc) p x y)
    (sym (sayable-Add sc version p x y) ∙ known)

pub if_unsayable : (sc : Scope) (version : ℕ) (test : Expr) (first second : List Stmt) →
    ¬ (does_sayable sc version (If test first second) ≡ true)
if_unsayable sc version test first second known =
    let never : false ≡ true = sym (sayable-If sc version test first second) ∙ known in cc
