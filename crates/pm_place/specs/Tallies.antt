-- How often each variable is accessed from each process, and what that costs at one process.
use Rattle.std.specs.Prelude.{◌≡◌, ℕ, ◌+◌, ◌-◌, ◌*◌, ◌^◌, ◌<◌, ◌≤◌, min}
use Rattle.std.specs.Prelude.{List, [], ◌∷◌, length, get_or, map, replicate, set}
use Rattle.std.specs.List.{range_with_len}
use Rattle.pm_plan.specs.Plans.{parents}
use Rattle.pm_plan.specs.Trees.{path_len}
use Rattle.pm_plan.specs.declared.plan.Plan.{Plan}
use Rattle.pm_place.specs.Accesses.{Access}

-- one more at that place, up to the end of 64 bits
abbrev pub raised : List ℕ → ℕ → List ℕ
raised counts at = set counts at (min (get_or counts at 0 + 1) (2 ^ 64 - 1))

-- the counts of each variable, by the process that it is accessed from, after one more access
abbrev pub noted : Access → List (List ℕ) → List (List ℕ)
noted a rows = set rows a.var (raised (get_or rows a.var []) a.home)

-- and after all of these
abbrev pub noted_all : List Access → List (List ℕ) → List (List ℕ)
noted_all [] rows = rows
noted_all (a ∷ more) rows = noted_all more (noted a rows)

-- no access yet
abbrev pub no_counts : Plan → List (List ℕ)
no_counts plan = replicate (length plan.vars) (replicate (length plan.clps) 0)

-- each count times the edges that stand at its place, all added up
abbrev pub dot : List ℕ → List ℕ → ℕ
dot [] edges = 0
dot (n ∷ counts) [] = 0
dot (n ∷ counts) (d ∷ edges) = n * d + dot counts edges

-- the edges from each process to that one
abbrev pub distances_to : Plan → ℕ → List ℕ
distances_to plan clp = map (λ home. path_len (parents plan.clps) home clp) (range_with_len 0 (length plan.clps))

-- the edges to each process, from each process
abbrev pub distances : Plan → List (List ℕ)
distances plan = map (distances_to plan) (range_with_len 0 (length plan.clps))

-- what these accesses cost where their variable is at that process
abbrev pub cost_at : List ℕ → List (List ℕ) → ℕ → ℕ
cost_at counts distances clp = dot counts (get_or distances clp [])

-- the process at which these accesses cost least, the first of them, and what they cost there
pub record IsBest (counts : List ℕ) (distances : List (List ℕ)) (at cost : ℕ) : Type 0 where
  pub there : at < length distances
  pub here : cost ≡ cost_at counts distances at
  pub least : (clp : ℕ) → clp < length distances → cost ≤ cost_at counts distances clp
  pub first : (clp : ℕ) → clp < at → cost < cost_at counts distances clp
