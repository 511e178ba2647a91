-- Laws of every expression and of every statement, from one for each variant.
use Rattle.std.proofs.Common.{◌≡◌, sym, subst, ℕ, List, ℤ}
use Rattle.std.specs.Prelude.{map}
use Rattle.pm_base.specs.declared.program.Expr.{Expr}
use Rattle.pm_base.specs.declared.program.Expr.TheOpen.{Expr-F}
use Rattle.pm_base.specs.declared.program.Expr.TheViews.{roll-Expr}
use Rattle.pm_base.specs.declared.program.Expr.TheFolds.{ind-Expr, map-Expr}
use Rattle.pm_base.specs.declared.program.Expr.TheVariants.{Num, Now, Me, Reg, Part, Bin, rolls-Num, rolls-Now, rolls-Me, rolls-Reg, rolls-Part, rolls-Bin}
use Rattle.pm_base.specs.declared.program.Field.{Field}
use Rattle.pm_base.specs.declared.program.Op.{Op}
use Rattle.pm_base.specs.declared.program.Place.{Place}
use Rattle.pm_base.specs.declared.program.Stmt.{Stmt}
use Rattle.pm_base.specs.declared.program.Stmt.TheOpen.{Stmt-F}
use Rattle.pm_base.specs.declared.program.Stmt.TheViews.{roll-Stmt}
use Rattle.pm_base.specs.declared.program.Stmt.TheFolds.{ind-Stmt, map-Stmt}
use Rattle.pm_base.specs.declared.program.Stmt.TheVariants.{Let, If, Set, Add, Wait, rolls-Let, rolls-If, rolls-Set, rolls-Add, rolls-Wait}

-- what a law of expressions needs
pub record OfEach (P : Expr → Type 0) : Type 0 where
  pub num : (z : ℤ) → P (Num z)
  pub now : P Now
  pub me : P Me
  pub reg : (r : ℕ) → P (Reg r)
  pub part : (k : ℕ) (f : Field) → P (Part k f)
  pub bin : (o : Op) (a b : Expr) → P a → P b → P (Bin o a b)

again : (P : Expr → Type 0) (x : Expr-F Expr) (e : Expr) → roll-Expr x ≡ e → P e → P (roll-Expr x)
again P x e is h = subst P (sym is) h

cases : (P : Expr → Type 0) → OfEach P → (y : Expr-F ((e : Expr) × P e)) →
    P (roll-Expr (map-Expr ((e : Expr) × P e) Expr (λ e. e.0) y))
cases P each (Expr-F.Num z) = again P _ (Num z) (rolls-Num z) (each.num z)
cases P each Expr-F.Now = again P _ Now rolls-Now each.now
cases P each Expr-F.Me = again P _ Me rolls-Me each.me
cases P each (Expr-F.Reg r) = again P _ (Reg r) (rolls-Reg r) (each.reg r)
cases P each (Expr-F.Part k f) = again P _ (Part k f) (rolls-Part k f) (each.part k f)
cases P each (Expr-F.Bin o a b) = again P _ (Bin o a.0 b.0) (rolls-Bin o a.0 b.0) (each.bin o a.0 b.0 a.1 b.1)

pub every_expression : (P : Expr → Type 0) → OfEach P → (e : Expr) → P e
every_expression P each = ind-Expr P (λ x y is. subst (λ (z : Expr-F Expr). P (roll-Expr z)) is (cases P each y))

-- a statement of which the law holds
abbrev pub Holding : (Stmt → Type 0) → Type 0
Holding P = (s : Stmt) × P s

abbrev pub those : (P : Stmt → Type 0) → List (Holding P) → List Stmt
those P hs = map (λ (h : Holding P). h.0) hs

-- what a law of statements needs
pub record OfEachStmt (P : Stmt → Type 0) : Type 0 where
  pub let_ : (reg : ℕ) (e : Expr) → P (Let reg e)
  pub if_ : (test : Expr) (first second : List (Holding P)) → P (If test (those P first) (those P second))
  pub set : (place : Place) (x y : Expr) → P (Set place x y)
  pub add : (place : Place) (x y : Expr) → P (Add place x y)
  pub wait : (e : Expr) → P (Wait e)

stmt_again : (P : Stmt → Type 0) (x : Stmt-F Stmt) (s : Stmt) → roll-Stmt x ≡ s → P s → P (roll-Stmt x)
stmt_again P x s is h = subst P (sym is) h

stmt_cases : (P : Stmt → Type 0) → OfEachStmt P → (y : Stmt-F (Holding P)) →
    P (roll-Stmt (map-Stmt (Holding P) Stmt (λ h. h.0) y))
stmt_cases P each (Stmt-F.Let reg e) = stmt_again P _ (Let reg e) (rolls-Let reg e) (each.let_ reg e)
stmt_cases P each (Stmt-F.If test first second) =
    stmt_again P _ (If test (those P first) (those P second)) (rolls-If test (those P first) (those P second))
    (each.if_ test first second)
stmt_cases P each (Stmt-F.Set place x y) = stmt_again P _ (Set place x y) (rolls-Set place x y) (each.set place x y)
stmt_cases P each (Stmt-F.Add place x y) = stmt_again P _ (Add place x y) (rolls-Add place x y) (each.add place x y)
stmt_cases P each (Stmt-F.Wait e) = stmt_again P _ (Wait e) (rolls-Wait e) (each.wait e)

pub every_statement : (P : Stmt → Type 0) → OfEachStmt P → (s : Stmt) → P s
every_statement P each = ind-Stmt P (λ x y is. subst (λ (z : Stmt-F Stmt). P (roll-Stmt z)) is (stmt_cases P each y))
