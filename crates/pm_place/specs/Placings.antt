-- What a placement of the variables costs, and which one costs least.
use Rattle.std.specs.Prelude.{◌≡◌, ℕ, ◌+◌, ◌==◌, ◌<◌, ◌≤◌, List, [], ◌∷◌, length, get_or, slice_get, Option, Some, None}
use Rattle.std.specs.List.{AllByRecursion, filter, sum_by}
use Rattle.pm_plan.specs.Plans.{parents}
use Rattle.pm_plan.specs.Trees.{path_len}
use Rattle.pm_plan.specs.declared.plan.Plan.{Plan}
use Rattle.pm_place.specs.Accesses.{Access, run_accesses}
use Rattle.pm_place.specs.declared.placing.Placing.{Placing}

-- a placement: a communication process for each variable
pub record IsPlacement (plan : Plan) (at : List ℕ) : Type 0 where
  pub each : length at ≡ length plan.vars
  pub there : AllByRecursion (λ clp. clp < length plan.clps) at

-- the edges between the process that an access comes from and that one
abbrev pub edges_to : Plan → ℕ → Access → ℕ
edges_to plan clp a = path_len (parents plan.clps) a.home clp

-- the edges to the process that the variable is at; none where it is at none
abbrev pub edges_to_place : Plan → Option ℕ → Access → ℕ
edges_to_place plan None a = 0
edges_to_place plan (Some clp) a = edges_to plan clp a

-- what an access costs under a placement
abbrev pub edges : Plan → List ℕ → Access → ℕ
edges plan at a = edges_to_place plan (slice_get at a.var) a

-- the cost of a placement: the edges that all reads and writes of the sequential run go over
abbrev pub cost : Plan → List ℕ → ℕ
cost plan at = sum_by (edges plan at) (run_accesses plan)

-- the part of that cost of one variable, where it is at that process
abbrev pub part : Plan → ℕ → ℕ → ℕ
part plan var clp = sum_by (edges_to plan clp) (filter (λ (a : Access). a.var == var) (run_accesses plan))

-- the part of each variable from that number on, which are at these processes
abbrev pub parts_from : Plan → ℕ → List ℕ → List ℕ
parts_from plan var [] = []
parts_from plan var (clp ∷ at) = part plan var clp ∷ parts_from plan (var + 1) at

-- the part of each variable in the cost of a placement
abbrev pub parts : Plan → List ℕ → List ℕ
parts plan at = parts_from plan 0 at

-- no placement costs less
abbrev pub CostsLeast : Plan → ℕ → Type 0
CostsLeast plan total = (at : List ℕ) → IsPlacement plan at → total ≤ cost plan at

-- at each process with a lesser number a variable has a greater part in the cost
abbrev pub PrefersLesser : Plan → Placing → Type 0
PrefersLesser plan p = (var clp : ℕ) → var < length p.at → clp < get_or p.at var 0 →
    get_or p.costs var 0 < part plan var clp
