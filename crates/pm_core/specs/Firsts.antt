-- The processes of a plan at first.
use Rattle.std.specs.Prelude.{ℕ, zero, suc, ◌^◌, false, List, [], ◌∷◌, ◌++◌, map, Option}
use Rattle.pm_alp.specs.States.{Fixed}
use Rattle.pm_alp.specs.Views.{Process as AlpView}
use Rattle.pm_clp.specs.Views.{ClpView}
use Rattle.pm_message.specs.declared.Message.{Message}
use Rattle.pm_plan.specs.declared.plan.AgentRow.{AgentRow}
use Rattle.pm_plan.specs.declared.plan.Plan.{Plan}
use Rattle.pm_sim.specs.Worlds.{clp_first, clps_of, first_actor, hub_of, rule_of}
use Rattle.pm_core.specs.Mails.{wake_at}
use Rattle.pm_core.specs.declared.process.Process.{Process}
use Rattle.pm_core.specs.declared.process.Process.TheVariants as process

-- a communication process at first: its place in the plan, its first state, and no delivery
abbrev pub first_clp : Plan → ℕ → ClpView
first_clp p c = record { hub = hub_of p c; clp = clp_first p c; limit = 2 ^ 32; made = 0; spoilt = false }

-- n of them, from number c on
abbrev pub first_clps : Plan → ℕ → ℕ → List ClpView
first_clps p c zero = []
first_clps p c (suc n) = first_clp p c ∷ first_clps p (suc c) n

-- what stays of the process of an agent
abbrev pub fixed_at : Plan → ℕ → AgentRow → Fixed
fixed_at p i a = record { number = i; horizon = p.horizon; rule = rule_of p a }

-- an agent's process at first: its first state, and no delivery
abbrev pub first_alp : Plan → ℕ → AgentRow → AlpView
first_alp p i a = record { fixed = fixed_at p i a; agent = first_actor p i a; made = 0; spoilt = false }

-- the processes of these agents, from agent i on
abbrev pub first_alps : Plan → ℕ → List AgentRow → List AlpView
first_alps p i [] = []
first_alps p i (a ∷ more) = first_alp p i a ∷ first_alps p (suc i) more

-- the agents' first Wakes: none where an agent starts past the horizon
abbrev pub first_wakes : List AlpView → List (Option Message)
first_wakes alps = map (λ (a : AlpView). wake_at a.agent.awaited) alps

-- all processes at first, in order of number
abbrev pub first_processes : Plan → List Process
first_processes p =
    map process.Clp (first_clps p 0 (clps_of p)) ++ map process.Alp (first_alps p 0 p.agents)
