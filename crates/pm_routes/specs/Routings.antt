-- The ways to the variables, and how often each variable was asked for from where.
use Rattle.std.specs.Prelude.{ℕ, suc, ◌+◌, ◌-◌, ◌^◌, ◌<◌, ◌≤◌, ◌≡◌, ◌==◌, ◌&&◌}
use Rattle.std.specs.Prelude.{Bool, nat_lt, nat_le, min, if◌then◌else◌, List, [], ◌∷◌, length, get_or, set}
use Rattle.std.specs.Prelude.{slice_get, replicate, Option}
use Rattle.std.specs.List.{Contains}
use Rattle.pm_routes.specs.declared.way.Way.{Way}
use Rattle.pm_routes.specs.declared.way.Way.TheVariants as way

-- a way for each variable, the tree ports, how many counts move a variable (0 for never), and for each variable its
-- counts: one for each port, in the order of the ports, and the local one behind them
pub record Routing : Type 0 where
  pub ways : List Way
  pub ports : List ℕ
  pub move_after : ℕ
  pub counts : List (List ℕ)

-- a routing of these ways, ports, threshold and counts
abbrev pub routing : List Way → List ℕ → ℕ → List (List ℕ) → Routing
routing ways ports move_after counts = record { ways = ways; ports = ports; move_after = move_after; counts = counts }

-- where a port's count stands: at the first place of the port, or behind all ports, where the local count stands
abbrev pub place_of : List ℕ → ℕ → ℕ
place_of [] port = 0
place_of (p ∷ ps) port = if p == port then 0 else suc (place_of ps port)

-- the way of a variable, none where there is no such variable
abbrev pub way_at : Routing → ℕ → Option Way
way_at r var = slice_get r.ways var

-- the counts of a variable, none where there is no such variable
abbrev pub counts_at : Routing → ℕ → List ℕ
counts_at r var = get_or r.counts var []

-- how often the variable was asked for from there: one count for each port, and one for all that are no port
abbrev pub count_at : Routing → ℕ → ℕ → ℕ
count_at r var from = get_or (counts_at r var) (place_of r.ports from) 0

-- all of these counts together
abbrev pub total : List ℕ → ℕ
total [] = 0
total (n ∷ ns) = n + total ns

-- the variable's other counts together
abbrev pub others_at : Routing → ℕ → ℕ → ℕ
others_at r var from = total (set (counts_at r var) (place_of r.ports from) 0)

-- no count yet, for so many ports
abbrev pub no_counts : List ℕ → List ℕ
no_counts ports = replicate (suc (length ports)) 0

-- these ways, with each variable not yet asked for from anywhere
abbrev pub first_routing : List Way → List ℕ → ℕ → Routing
first_routing ways ports move_after = routing ways ports move_after (replicate (length ways) (no_counts ports))

-- the variable left by that port: its way is the port, and its counts stay as they were
abbrev pub left : Routing → ℕ → ℕ → Routing
left r var port = record r { ways = set r.ways var (way.Port port) }

-- the variable arrived: its way is Here, and it was not yet asked for from anywhere
abbrev pub arrived : Routing → ℕ → Routing
arrived r var = record r { ways = set r.ways var way.Here; counts = set r.counts var (no_counts r.ports) }

-- one more at that place, and no more than a number of 64 bits
abbrev pub raised : List ℕ → ℕ → List ℕ
raised counts place = set counts place (min (get_or counts place 0 + 1) (2 ^ 64 - 1))

-- the variable was asked for once more from there
abbrev pub counted : Routing → ℕ → ℕ → Routing
counted r var from = record r { counts = set r.counts var (raised (counts_at r var) (place_of r.ports from)) }

-- a count adds one there, and all other counts stay
pub record CountsOne (r : Routing) (var from : ℕ) : Type 0 where
  pub there : var < length r.counts → place_of r.ports from < length (counts_at r var) →
      count_at (counted r var from) var from ≡ min (count_at r var from + 1) (2 ^ 64 - 1)
  pub other_ports : (port : ℕ) → (place_of r.ports port ≡ place_of r.ports from → ⊥) →
      var < length r.counts → count_at (counted r var from) var port ≡ count_at r var port
  pub other_variables : (v port : ℕ) → (v ≡ var → ⊥) →
      count_at (counted r var from) v port ≡ count_at r v port

-- the variable belongs at that port: variables move, and its count there has reached the threshold and is more than
-- all its other counts together
pub record IsDrawn (r : Routing) (var from : ℕ) : Type 0 where
  pub port : Contains r.ports from
  pub moving : 0 < r.move_after
  pub often : r.move_after ≤ count_at r var from
  pub most : others_at r var from < count_at r var from

-- its test
abbrev pub is_drawn : Routing → ℕ → ℕ → Bool
is_drawn r var from =
    nat_lt (place_of r.ports from) (length r.ports)
    && (nat_lt 0 r.move_after
    && (nat_le r.move_after (count_at r var from) && nat_lt (others_at r var from) (count_at r var from)))
