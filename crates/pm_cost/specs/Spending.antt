-- What a range query costs: the deliveries of its Asks and of its Finishes.
use Rattle.std.specs.Prelude.{ℕ, zero, suc, ◌+◌, ◌*◌, ◌≤◌, Bool, false, ◌||◌, if◌then◌else◌}
use Rattle.std.specs.Prelude.{List, [], ◌∷◌, get_or, Option, Some, None}
use Rattle.pm_base.specs.Stamps.{num_eq}
use Rattle.pm_base.specs.declared.run.Event.{Event}
use Rattle.pm_base.specs.declared.run.Event.TheVariants as event
use Rattle.pm_base.specs.declared.stamp.Num.{Num}
use Rattle.pm_base.specs.declared.value.Query.TheVariants as query
use Rattle.pm_message.specs.declared.Message.{Message}
use Rattle.pm_message.specs.declared.Message.TheVariants as message
use Rattle.pm_plan.specs.declared.plan.Plan.{Plan}
use Rattle.pm_queries.specs.declared.registered.Registered.{Registered}
use Rattle.pm_sim.specs.Journals.{Delivers}
use Rattle.pm_sim.specs.Reached.{Reached}
use Rattle.pm_sim.specs.Sims.{one_if, tally}
use Rattle.pm_sim.specs.Worlds.{Mail, Taken, World, after_event, after_events, clps_of, commit, mail, no_clp, process, take_from}

-- the sum of f over the numbers below n
abbrev pub total : ℕ → (ℕ → ℕ) → ℕ
total zero f = 0
total (suc n) f = f n + total n f

-- a Finish is still to be sent where a port is waited for
abbrev pub waits_rest : List ℕ → ℕ
waits_rest [] = 0
waits_rest (d ∷ ds) = 1

-- what the query with the number may still cost at a process with these registered queries: the deliveries of an Ask
-- and of a Finish where it isn't registered, of a Finish where it waits
abbrev pub reg_rest : Num → List Registered → ℕ
reg_rest m [] = 2
reg_rest m (r ∷ rs) = if num_eq m r.num then waits_rest r.waits else reg_rest m rs

-- the message is a Finish of the query with the number
abbrev pub is_end : Num → Message → Bool
is_end m (message.Finish k z) = num_eq m k
is_end m (message.Wake k z) = false
is_end m (message.Ask k z q) = false
is_end m (message.Put r_n r_t v r_c) = false
is_end m (message.Cut r_n r_t v) = false
is_end m (message.Give g) = false
is_end m (message.Move v z r) = false
is_end m (message.Grow k z u w) = false

-- the message is an Ask of the range query with the number
abbrev pub is_asked : Num → Message → Bool
is_asked m (message.Ask k z (query.Class j u)) = num_eq m k
is_asked m (message.Ask k z (query.One v)) = false
is_asked m (message.Finish k z) = false
is_asked m (message.Wake k z) = false
is_asked m (message.Put r_n r_t v r_c) = false
is_asked m (message.Cut r_n r_t v) = false
is_asked m (message.Give g) = false
is_asked m (message.Move v z r) = false
is_asked m (message.Grow k z u w) = false

-- the Finishes of the query that are on their way
abbrev pub ends_in : Num → World → ℕ
ends_in m w = tally (λ (x : Mail). is_end m x.message) (mail w.links)

-- what the query may still cost in a world
abbrev pub query_rest : Plan → Num → World → ℕ
query_rest p m w = total (clps_of p) (λ c. reg_rest m (get_or w.clps c no_clp).queries) + ends_in m w

-- one where a message is taken that is an Ask or a Finish of the query
abbrev pub spent_one : Num → Option Taken → ℕ
spent_one m None = 0
spent_one m (Some t) = one_if (is_asked m t.message || is_end m t.message) 0

-- how many Asks and Finishes of the query are delivered along a run
abbrev pub spent : Plan → Num → World → List Event → ℕ
spent p m w [] = 0
spent p m w (event.Deliver to from ∷ es) = spent_one m (take_from (process p to) (process p from) w.links)
    + spent p m (after_event p w (event.Deliver to from)) es
spent p m w (event.Commit l ∷ es) = spent p m (commit w l) es

-- what deliveries alone cost a query: what they spend is no longer left, and what was left at first is at most an Ask
-- and a Finish for each communication process, and the Finishes on their way
pub record QuerySpends (p : Plan) (m : Num) (w : World) (es : List Event) : Type 0 where
  pub falls : query_rest p m (after_events p w es) + spent p m w es ≤ query_rest p m w
  pub most : query_rest p m w ≤ 2 * clps_of p + ends_in m w
  pub spends : spent p m w es ≤ 2 * clps_of p + ends_in m w

-- so it is from each world that a legal run reaches
abbrev pub QueryCosts : Plan → ℕ → World → Num → List Event → Type 0
QueryCosts p n w m es = Reached p n w → Delivers es → QuerySpends p m w es
