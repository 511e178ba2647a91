-- Every statement leaves the writes in rising order.
use Rattle.std.proofs.Common.{◌≡◌, ap, subst, sym, Bool, true, false, List, [], ◌∷◌}
use Rattle.std.specs.Prelude.{if◌then◌else◌, map}
use Rattle.pm_base.specs.declared.program.Stmt.{Stmt}
use Rattle.pm_base.specs.declared.program.Stmt.TheFolds.{fold-roll-Stmt, ind-Stmt, map-Stmt}
use Rattle.pm_base.specs.declared.program.Stmt.TheOpen.{Stmt-F}
use Rattle.pm_base.specs.declared.program.Stmt.TheViews.{roll-Stmt}
use Rattle.pm_step.specs.Arithmetic.{is_zero}
use Rattle.pm_step.specs.Expressions.{Sight, value}
use Rattle.pm_step.specs.Steps.{does, does_all, does_step, sight_at, IsRising}
use Rattle.pm_step.specs.declared.Deeds.{Deeds}
use Rattle.pm_step.proofs.Writes.{rising-written}

abbrev KeepsRising : Sight → Stmt → Type 0
KeepsRising s c = (d : Deeds) → IsRising d.writes → IsRising (does s c d).writes

-- what one level does
level : (s : Sight) (x : Stmt-F Stmt) (d : Deeds) (e : Deeds) → does s (roll-Stmt x) d ≡ e → IsRising e.writes → IsRising (does s (roll-Stmt x) d).writes
level s x d e same up = subst (λ (d : Deeds). IsRising d.writes) (sym same) up

list_rises : (s : Sight) (cs : List ((c : Stmt) × KeepsRising s c)) (d : Deeds) → IsRising d.writes → IsRising (does_all s (map (λ c. c.0) cs) d).writes
list_rises s [] d up = up
list_rises s (c ∷ cs) d up = list_rises s cs (does s c.0 d) (c.1 d up)

either : (b : Bool) (d e : Deeds) → IsRising d.writes → IsRising e.writes → IsRising (if b then d else e).writes
either true d e h k = h
either false d e h k = k

keeps : (s : Sight) (y : Stmt-F ((c : Stmt) × KeepsRising s c)) → KeepsRising s (roll-Stmt (map-Stmt ((c : Stmt) × KeepsRising s c) Stmt (λ c. c.0) y))
keeps s (Stmt-F.Let reg e) d up = level s (Stmt-F.Let reg e) d _ (ap (λ (f : Deeds → Deeds). f d) (fold-roll-Stmt (Deeds → Deeds) (does_step s) (Stmt-F.Let reg e))) up
keeps s (Stmt-F.If test first second) d up =
    level s (Stmt-F.If test (map (λ c. c.0) first) (map (λ c. c.0) second)) d _ (ap (λ (f : Deeds → Deeds). f d) (fold-roll-Stmt (Deeds → Deeds) (does_step s) (Stmt-F.If test (map (λ c. c.0) first) (map (λ c. c.0) second))))
    (either (is_zero (value (sight_at s d) test)) _ _ (list_rises s second d up) (list_rises s first d up))
keeps s (Stmt-F.Set place x y) d up = level s (Stmt-F.Set place x y) d _ (ap (λ (f : Deeds → Deeds). f d) (fold-roll-Stmt (Deeds → Deeds) (does_step s) (Stmt-F.Set place x y))) (rising-written d.writes _ up)
keeps s (Stmt-F.Add place x y) d up = level s (Stmt-F.Add place x y) d _ (ap (λ (f : Deeds → Deeds). f d) (fold-roll-Stmt (Deeds → Deeds) (does_step s) (Stmt-F.Add place x y))) (rising-written d.writes _ up)
keeps s (Stmt-F.Wait e) d up = level s (Stmt-F.Wait e) d _ (ap (λ (f : Deeds → Deeds). f d) (fold-roll-Stmt (Deeds → Deeds) (does_step s) (Stmt-F.Wait e))) up

-- a statement leaves the writes in rising order
pub rising-does : (s : Sight) (c : Stmt) (d : Deeds) → IsRising d.writes → IsRising (does s c d).writes
rising-does s = ind-Stmt (KeepsRising s) (λ x y is. subst (λ (z : Stmt-F Stmt). KeepsRising s (roll-Stmt z)) is (keeps s y))

pub rising-does_all : (s : Sight) (cs : List Stmt) (d : Deeds) → IsRising d.writes → IsRising (does_all s cs d).writes
rising-does_all s [] d up = up
rising-does_all s (c ∷ cs) d up = rising-does_all s cs (does s c d) (rising-does s c d up)
