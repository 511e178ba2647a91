-- Which messages a communication process takes: those that can stand in a link to it.
use Rattle.pm_queries.specs.Queries.{has}
use Rattle.std.specs.Prelude.{ℕ, ◌^◌, Bool, true, false, not, ◌&&◌, ◌||◌, nat_lt, length}
use Rattle.std.specs.List.{list_all}
use Rattle.pm_base.specs.Layouts.{var_count}
use Rattle.pm_base.specs.Stamps.{is_below}
use Rattle.pm_base.specs.Windows.{is_inverted}
use Rattle.pm_base.specs.declared.rows.CutRow.{CutRow}
use Rattle.pm_base.specs.declared.rows.Parts.{Parts}
use Rattle.pm_base.specs.declared.rows.PutRow.{PutRow}
use Rattle.pm_base.specs.declared.rows.ReadRow.{ReadRow}
use Rattle.pm_base.specs.declared.stamp.Num.{Num}
use Rattle.pm_base.specs.declared.value.Query.{Query}
use Rattle.pm_base.specs.declared.value.Query.TheVariants as query
use Rattle.pm_message.specs.Messages.{stamp_of}
use Rattle.pm_message.specs.declared.Message.{Message}
use Rattle.pm_message.specs.declared.Message.TheVariants as message
use Rattle.pm_routes.specs.declared.way.Way.{Way}
use Rattle.pm_routes.specs.declared.way.Way.TheVariants as way
use Rattle.pm_clp.specs.Clps.{ClpState, Hub, way_of}

-- the number's agent exists
abbrev pub has_agent : Hub → Num → Bool
has_agent h n = nat_lt n.agent (length h.to_agents)

-- the variable exists
abbrev pub has_var : Hub → ℕ → Bool
has_var h v = nat_lt v (var_count h.classes)

-- the class exists
abbrev pub has_class : Hub → ℕ → Bool
has_class h k = nat_lt k (length h.classes)

-- what the query asks for exists
abbrev pub has_query : Hub → Query → Bool
has_query h (query.One v) = has_var h v
has_query h (query.Class k w) = has_class h k

-- the process is a tree neighbour
abbrev pub is_port : Hub → ℕ → Bool
is_port h from = has from h.ports

-- the process is a tree neighbour, or an agent whose home is here: the process towards some agent
abbrev pub is_linked : Hub → ℕ → Bool
is_linked h from = is_port h from || has from h.to_agents

-- the variable is here
abbrev pub is_here : Way → Bool
is_here way.Here = true
is_here (way.Port d) = false

-- the agents of all rows exist
abbrev pub has_agents : Hub → Parts → Bool
has_agents h r =
    list_all (λ (p : PutRow). has_agent h p.num) r.puts
    && (list_all (λ (c : CutRow). has_agent h c.num) r.cuts && list_all (λ (q : ReadRow). has_agent h q.num) r.reads)

-- each turn is a number of 32 bits
abbrev pub has_low_turns : Parts → Bool
has_low_turns r = list_all (λ (q : ReadRow). nat_lt q.turn (2 ^ 32)) r.reads

-- what the message names exists; a Grow comes from a tree neighbour and its window isn't inverted; a Move comes from a
-- tree neighbour, for a variable that isn't here, with low turns; a Wake is never taken
abbrev pub fits : Hub → ClpState → ℕ → Message → Bool
fits h s from (message.Wake n t) = false
fits h s from (message.Ask n t q) = has_agent h n && has_query h q
fits h s from (message.Put n t v c) = has_agent h n && has_var h v
fits h s from (message.Cut n t v) = has_agent h n && has_var h v
fits h s from (message.Give g) = has_agent h g.num && has_var h g.var
fits h s from (message.Finish n t) = has_agent h n
fits h s from (message.Grow k f u w) = has_class h k && (is_port h from && not (is_inverted w))
fits h s from (message.Move v t r) =
    (has_var h v && not (is_here (way_of v s))) && (is_port h from && (has_agents h r && has_low_turns r))

-- the process takes the message from there, after so many deliveries: those are few, the sender is linked to it, the
-- message's stamp isn't below its line, and the message fits
abbrev pub takes : Hub → ℕ → ClpState → ℕ → Message → Bool
takes h made s from m =
    (nat_lt made 20000000 && is_linked h from) && (not (is_below (stamp_of m) s.line) && fits h s from m)
