-- What each statement does.
use Rattle.std.proofs.Common.{◌≡◌, ◌∙◌, ap, refl, sym, ℕ, ◌+◌, ◌<◌, List, [], ◌∷◌, ◌++◌, set, length, take, get_or}
use Rattle.std.specs.Prelude.{if◌then◌else◌, map}
use Rattle.std.proofs.lemmas.List.{take_more, map-append}
use Rattle.pm_base.specs.declared.program.Expr.{Expr}
use Rattle.pm_base.specs.declared.program.Place.{Place}
use Rattle.pm_base.specs.declared.program.Stmt.{Stmt}
use Rattle.pm_base.specs.declared.program.Stmt.TheVariants.{Let, If, Set, Add, Wait, rolls-Let, rolls-If, rolls-Set, rolls-Add, rolls-Wait}
use Rattle.pm_base.specs.declared.program.Stmt.TheOpen.{Stmt-F}
use Rattle.pm_base.specs.declared.program.Stmt.TheViews.{roll-Stmt}
use Rattle.pm_base.specs.declared.program.Stmt.TheFolds.{fold-roll-Stmt}
use Rattle.pm_base.specs.declared.value.Change.TheVariants as change
use Rattle.pm_step.specs.Arithmetic.{is_zero}
use Rattle.pm_step.specs.Expressions.{Sight, value}
use Rattle.pm_step.specs.Steps.{all_of, does, does_all, does_step, pair, sight_at, with_change}
use Rattle.pm_step.specs.declared.Deeds.{Deeds}

-- a statement does what its one level does
pub does-roll : (s : Sight) (x : Stmt-F Stmt) (c : Stmt) (d : Deeds) → roll-Stmt x ≡ c → does s c d ≡ does s (roll-Stmt x) d
does-roll s x c d e = ap (λ (c : Stmt). does s c d) (sym e)

pub does-Let : (s : Sight) (reg : ℕ) (e : Expr) (d : Deeds) → does s (Let reg e) d ≡ record d { regs = set d.regs reg (value (sight_at s d) e) }
does-Let s reg e d = does-roll s (Stmt-F.Let reg e) (Let reg e) d (rolls-Let reg e) ∙ ap (λ (f : Deeds → Deeds). f d) (fold-roll-Stmt (Deeds → Deeds) (does_step s) (Stmt-F.Let reg e))

pub does-If : (s : Sight) (test : Expr) (first second : List Stmt) (d : Deeds) →
    does s (If test first second) d ≡ (if is_zero (value (sight_at s d) test) then does_all s second d else does_all s first d)
does-If s test first second d = does-roll s (Stmt-F.If test first second) (If test first second) d (rolls-If test first second) ∙ ap (λ (f : Deeds → Deeds). f d) (fold-roll-Stmt (Deeds → Deeds) (does_step s) (Stmt-F.If test first second))

pub does-Set : (s : Sight) (place : Place) (x y : Expr) (d : Deeds) →
    does s (Set place x y) d ≡ with_change s place (change.Set (pair (sight_at s d) x y)) d
does-Set s place x y d = does-roll s (Stmt-F.Set place x y) (Set place x y) d (rolls-Set place x y) ∙ ap (λ (f : Deeds → Deeds). f d) (fold-roll-Stmt (Deeds → Deeds) (does_step s) (Stmt-F.Set place x y))

pub does-Add : (s : Sight) (place : Place) (x y : Expr) (d : Deeds) →
    does s (Add place x y) d ≡ with_change s place (change.Add (pair (sight_at s d) x y)) d
does-Add s place x y d = does-roll s (Stmt-F.Add place x y) (Add place x y) d (rolls-Add place x y) ∙ ap (λ (f : Deeds → Deeds). f d) (fold-roll-Stmt (Deeds → Deeds) (does_step s) (Stmt-F.Add place x y))

pub does-Wait : (s : Sight) (e : Expr) (d : Deeds) → does s (Wait e) d ≡ record d { wait = value (sight_at s d) e }
does-Wait s e d = does-roll s (Stmt-F.Wait e) (Wait e) d (rolls-Wait e) ∙ ap (λ (f : Deeds → Deeds). f d) (fold-roll-Stmt (Deeds → Deeds) (does_step s) (Stmt-F.Wait e))

pub all_of-append : (fs gs : List (Deeds → Deeds)) (d : Deeds) → all_of (fs ++ gs) d ≡ all_of gs (all_of fs d)
all_of-append [] gs d = refl
all_of-append (f ∷ fs) gs d = all_of-append fs gs (f d)

-- one more statement
pub does_all-more : (s : Sight) (cs : List Stmt) (i : ℕ) (d : Deeds) (c : Stmt) → i < length cs → c ≡ get_or cs i c →
    does_all s (take (i + 1) cs) d ≡ does s c (does_all s (take i cs) d)
does_all-more s cs i d c h e =
    rw (take_more cs i c h, map-append (does s) (take i cs) (get_or cs i c ∷ []), all_of-append (map (does s) (take i cs)) (does s (get_or cs i c) ∷ []) d)
    (ap (λ (y : Stmt). does s y (does_all s (take i cs) d)) (sym e))
