-- A whole step: it acts after at most as many queries as its rule has senses, and waits at least 1.
use Rattle.std.proofs.Common.{◌≡◌, ℕ, zero, suc, ◌+◌, ◌≤◌, List, [], ◌∷◌, ◌++◌, length, length-append, Some, None, refl, ap, subst, arith}
use Rattle.std.proofs.lemmas.Option.{same_Some}
use Rattle.pm_base.specs.declared.rows.Act.{Act}
use Rattle.pm_base.specs.declared.value.Hit.{Hit}
use Rattle.pm_step.specs.declared.Next.{Next}
use Rattle.pm_step.specs.declared.Next.TheVariants as next
use Rattle.pm_step.specs.Expressions.{sight}
use Rattle.pm_step.proofs.StepLaws.{asks_in, waits}
use Rattle.pm_model.specs.Hits.{hits}
use Rattle.pm_model.specs.declared.Deed.{Deed}
use Rattle.pm_model.specs.Runs.{Scene, deed, deed_from, step_at}

waits-from : (left : ℕ) (scene : Scene) (answers : List (List Hit)) (n : Next) (d : Deed) → step_at scene answers ≡ n
    → deed_from left scene answers n ≡ Some d → 1 ≤ d.act.wait
waits-from left scene answers (next.Act act) d e h =
    let same : act ≡ d.act = ap (λ (x : Deed). x.act) (same_Some _ _ h) in
    subst (λ (a : Act). 1 ≤ a.wait) same (waits scene.program (sight scene.classes scene.stamp scene.regs answers) act e)
waits-from zero scene answers (next.Ask q) d e h = absurd (cc h)
waits-from (suc left) scene answers (next.Ask q) d e h =
    waits-from left scene (answers ++ hits scene.classes scene.values q ∷ []) _ d refl h

-- the wait of a whole step is at least 1
pub deed-waits : (scene : Scene) (d : Deed) → deed scene ≡ Some d → 1 ≤ d.act.wait
deed-waits scene d h = waits-from (length scene.program.senses) scene [] _ d refl h

acts-from : (left : ℕ) (scene : Scene) (answers : List (List Hit)) (n : Next) → step_at scene answers ≡ n
    → length scene.program.senses ≤ length answers + left → deed_from left scene answers n ≡ None → ⊥
acts-from left scene answers (next.Act act) e le h = cc h
acts-from zero scene answers (next.Ask q) e le h =
    omega (arith, le, asks_in scene.program (sight scene.classes scene.stamp scene.regs answers) q e)
acts-from (suc left) scene answers (next.Ask q) e le h =
    acts-from left scene (answers ++ hits scene.classes scene.values q ∷ []) _ refl
    (omega (arith, le, length-append answers (hits scene.classes scene.values q ∷ []))) h

-- a step acts in the end
pub deed-acts : (scene : Scene) → deed scene ≡ None → ⊥
deed-acts scene h = acts-from (length scene.program.senses) scene [] _ refl (omega arith) h
