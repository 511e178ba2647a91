-- Past the last cost there is no line.
use Rattle.std.proofs.Common.{◌≡◌, refl, ap, ◌∙◌, ℕ, ◌≤◌, List, [], ◌∷◌, length, drop}
use Rattle.std.proofs.lemmas.List.{drop_all}
use Rattle.pm_plan.specs.declared.plan.Plan.{Plan}
use Rattle.pm_place.specs.Texts.{place_lines}

no-costs : (plan : Plan) (var : ℕ) (at : List ℕ) → place_lines plan var at [] ≡ []
no-costs plan var [] = refl
no-costs plan var (clp ∷ at) = refl

pub lines-past : (plan : Plan) (var : ℕ) (at costs : List ℕ) (i : ℕ) → length costs ≤ i → place_lines plan var at (drop i costs) ≡ []
lines-past plan var at costs i le = ap (place_lines plan var at) (drop_all i costs le) ∙ no-costs plan var at
