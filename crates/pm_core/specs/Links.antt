-- The links of a plan, each by the numbers of its receiver and its sender.
use Rattle.std.specs.Prelude.{ℕ, zero, suc, ◌==◌, ◌<◌, ◌≡◌, ◌⊎◌, ◌↔◌, if◌then◌else◌, List, [], ◌∷◌, ◌++◌, map}
use Rattle.std.specs.List.{AllByRecursion}
use Rattle.pm_plan.specs.declared.plan.AgentRow.{AgentRow}
use Rattle.pm_plan.specs.declared.plan.Plan.{Plan}
use Rattle.pm_sim.specs.Links.{link_keys}
use Rattle.pm_sim.specs.Sims.{In}
use Rattle.pm_sim.specs.Worlds.{clps_of, first_world, ports, process}

-- of these agents, the first of them process number k, the numbers of those whose home is c
abbrev pub homed_at : ℕ → ℕ → List AgentRow → List ℕ
homed_at c k [] = []
homed_at c k (a ∷ more) = if a.home == c then k ∷ homed_at c (suc k) more else homed_at c (suc k) more

-- who sends to a communication process: its neighbours in the tree, then the agents whose home it is, by number
abbrev pub senders : Plan → ℕ → List ℕ
senders p c = ports p c ++ homed_at c (clps_of p) p.agents

-- the links to a process from these senders
abbrev pub links_from : ℕ → List ℕ → List (ℕ × ℕ)
links_from to from = map (λ k. (to, k)) from

-- the links to n communication processes from number c on
abbrev pub links_to_clps : Plan → ℕ → ℕ → List (ℕ × ℕ)
links_to_clps p c zero = []
links_to_clps p c (suc n) = links_from c (senders p c) ++ links_to_clps p (suc c) n

-- the links to these agents, the first of them process number k: from its home, and from itself
abbrev pub links_to_agents : ℕ → List AgentRow → List (ℕ × ℕ)
links_to_agents k [] = []
links_to_agents k (a ∷ more) = (k, a.home) ∷ ((k, k) ∷ links_to_agents (suc k) more)

-- the links of a plan
abbrev pub links : Plan → List (ℕ × ℕ)
links p = links_to_clps p 0 (clps_of p) ++ links_to_agents (clps_of p) p.agents

-- a link comes before another: its receiver does, or it is the same and its sender does
abbrev pub IsBefore : ℕ × ℕ → ℕ × ℕ → Type 0
IsBefore a b = (a.0 < b.0) ⊎ ((a.0 ≡ b.0) × (a.1 < b.1))

-- each link comes before all later ones
abbrev pub AreAscending : List (ℕ × ℕ) → Type 0
AreAscending [] = Unit {0}
AreAscending (l ∷ ls) = AllByRecursion (IsBefore l) ls × AreAscending ls

-- the links of a plan are ascending, and are exactly those of its first world
pub record LinksAre (p : Plan) : Type 0 where
  pub ascending : AreAscending (links p)
  pub exact : (to from : ℕ) → In (to, from) (links p) ↔ In (process p to, process p from) (link_keys (first_world p).links)
