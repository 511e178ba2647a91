-- The text of a placing.
use Rattle.std.specs.Prelude.{ℕ, ◌+◌, List, [], ◌∷◌, ◌++◌, codes, decimal, slice_get, Some, None}
use Rattle.pm_plan.specs.declared.plan.Plan.{Plan}
use Rattle.pm_model.specs.Traces.{var_name}
use Rattle.pm_place.specs.declared.placing.Placing.{Placing}

-- the name of that communication process
abbrev pub clp_name : Plan → ℕ → List ℕ
clp_name plan clp = elim (slice_get plan.clps clp) as (λ _. List ℕ) [ None ↦ [] | Some row ↦ row.name ]

-- `place VAR CLP COST`
abbrev pub place_line : Plan → ℕ → ℕ → ℕ → List ℕ
place_line plan var clp cost =
    codes "place " ++ var_name plan var ++ codes " " ++ clp_name plan clp ++ codes " " ++ decimal cost ++ codes "\n"

-- the lines of the variables from that number on, which are at these processes and cost so much
abbrev pub place_lines : Plan → ℕ → List ℕ → List ℕ → List ℕ
place_lines plan var [] costs = []
place_lines plan var (clp ∷ at) [] = []
place_lines plan var (clp ∷ at) (cost ∷ costs) = place_line plan var clp cost ++ place_lines plan (var + 1) at costs

-- `total N`
abbrev pub total_line : ℕ → List ℕ
total_line total = codes "total " ++ decimal total ++ codes "\n"

-- a line for each variable in order, and the line of their sum
abbrev pub placing_text : Plan → Placing → List ℕ
placing_text plan p = place_lines plan 0 p.at p.costs ++ total_line p.total
