-- A whole step, one query at a time.
use Rattle.std.proofs.Common.{◌≡◌, ℕ, suc, ◌-◌, ◌<◌, List, [], ◌∷◌, ◌++◌, length, length-append, Option, Some, ap, ◌∙◌, arith}
use Rattle.pm_base.specs.declared.rows.Act.{Act}
use Rattle.pm_base.specs.declared.value.Hit.{Hit}
use Rattle.pm_base.specs.declared.value.Query.{Query}
use Rattle.pm_step.specs.declared.Next.TheVariants as next
use Rattle.pm_model.specs.Hits.{hits}
use Rattle.pm_model.specs.declared.Deed.{Deed}
use Rattle.pm_model.specs.Runs.{Scene, deed, deed_from, step_at}

-- what is left of a whole step after these answers
unfoldable pub deed_after : Scene → List (List Hit) → Option Deed
deed_after scene answers = deed_from (length scene.program.senses - length answers) scene answers (step_at scene answers)

pub deed-first : (scene : Scene) → deed scene ≡ deed_after scene []
unfolding deed_after
deed-first scene = let e : length scene.program.senses ≡ length scene.program.senses - 0 = omega arith in ap (λ n. deed_from n scene [] (step_at scene [])) e

pub deed-acts-after : (scene : Scene) (answers : List (List Hit)) (act : Act) → step_at scene answers ≡ next.Act act
    → deed_after scene answers ≡ Some (record { answers = answers; act = act })
unfolding deed_after
deed-acts-after scene answers act e = ap (deed_from (length scene.program.senses - length answers) scene answers) e

asks-one : (left more : ℕ) (scene : Scene) (answers : List (List Hit)) (q : Query) → left ≡ suc more
    → deed_from left scene answers (next.Ask q)
    ≡ deed_from more scene (answers ++ hits scene.classes scene.values q ∷ []) (step_at scene (answers ++ hits scene.classes scene.values q ∷ []))
asks-one left more scene answers q e = ap (λ n. deed_from n scene answers (next.Ask q)) e

pub deed-asks-after : (scene : Scene) (answers : List (List Hit)) (q : Query) → step_at scene answers ≡ next.Ask q
    → length answers < length scene.program.senses
    → deed_after scene answers ≡ deed_after scene (answers ++ hits scene.classes scene.values q ∷ [])
unfolding deed_after
deed-asks-after scene answers q e lt =
    let more = answers ++ hits scene.classes scene.values q ∷ [] in
    ap (deed_from (length scene.program.senses - length answers) scene answers) e
    ∙ asks-one (length scene.program.senses - length answers) (length scene.program.senses - length more) scene answers q
    (omega (arith, lt, length-append answers (hits scene.classes scene.values q ∷ [])))
