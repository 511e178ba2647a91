-- Worked rows: what a process with two tree ports, 0 and 5, does with single messages. Agent 0 is at home here, as
-- process 9; agent 1 is behind port 0. Class 0 has one variable or two, class 1 has none.
use Rattle.std.specs.Prelude.{ℕ, ◌≡◌, true, List, [], ◌∷◌, pos, Option, Some, None}
use Rattle.pm_base.specs.Windows.{point_of, whole}
use Rattle.pm_base.specs.declared.layout.ClassRow.{ClassRow}
use Rattle.pm_base.specs.declared.rows.GiveRow.{GiveRow}
use Rattle.pm_base.specs.declared.rows.Parts.{Parts}
use Rattle.pm_base.specs.declared.rows.PutRow.{PutRow}
use Rattle.pm_base.specs.declared.stamp.Line.TheVariants as line
use Rattle.pm_base.specs.declared.stamp.Num.{Num}
use Rattle.pm_base.specs.declared.stamp.Stamp.{Stamp}
use Rattle.pm_base.specs.declared.value.Change.TheVariants as change
use Rattle.pm_base.specs.declared.value.Query.TheVariants as query
use Rattle.pm_base.specs.declared.value.Value.{Value}
use Rattle.pm_base.specs.declared.value.Window.{Window}
use Rattle.pm_message.specs.declared.Message.{Message}
use Rattle.pm_message.specs.declared.Message.TheVariants as message
use Rattle.pm_routes.specs.declared.way.Way.{Way}
use Rattle.pm_routes.specs.declared.way.Way.TheVariants as way
use Rattle.pm_clp.specs.Clps.{ClpSends, ClpState, Hub, clp_after, clp_committed, first_clp, first_parts}
use Rattle.pm_queries.specs.declared.registered.Sent.{Sent}

-- the moment of this time and agent
abbrev pub at : ℕ → ℕ → Stamp
at t a = record { time = t; agent = a }

-- the number of this agent and count
abbrev pub num : ℕ → ℕ → Num
num a s = record { agent = a; seq = s }

-- a value on the first axis
abbrev pub val : ℕ → Value
val x = record { x = pos x; y = pos 0 }

-- the values between two on the first axis
abbrev pub across : ℕ → ℕ → Window
across a b = record { x0 = pos a; x1 = pos b; y0 = pos 0; y1 = pos 0 }

-- a message to a process
abbrev pub to : ℕ → Message → Sent
to d m = record { to = d; message = m }

-- a place whose class 0 has so many variables
abbrev pub place : ℕ → Hub
place n = record {
  ports = 0 ∷ 5 ∷ [];
  to_agents = 9 ∷ 0 ∷ [];
  classes = record { first = 0; count = n } ∷ record { first = n; count = 0 } ∷ [];
}

-- one variable that is here, and moves after so many counts
abbrev pub home : ℕ → ClpState
home move_after = first_clp (place 1) (way.Here ∷ []) (val 0 ∷ []) move_after

-- one variable behind port 0
abbrev pub away : ClpState
away = first_clp (place 1) (way.Port 0 ∷ []) (val 0 ∷ []) 1

-- two variables, one behind each port
abbrev pub apart : ClpState
apart = first_clp (place 2) (way.Port 0 ∷ way.Port 5 ∷ []) (val 0 ∷ val 0 ∷ []) 1

-- what is sent at a message from that process
abbrev pub sends : ℕ → ℕ → Message → ClpState → List Sent
sends n from m s = (clp_after (place n) from m s).sent

-- the state after it
abbrev pub after : ℕ → ℕ → Message → ClpState → ClpState
after n from m s = (clp_after (place n) from m s).clp

-- agent 1 writes 7 at (3,1)
abbrev pub write : Message
write = message.Put (num 1 1) (at 3 1) 0 (change.Set (val 7))

-- and takes it back
abbrev pub withdrawal : Message
withdrawal = message.Cut (num 1 1) (at 3 1) 0

-- agent 0 asks for class k at (5,0)
abbrev pub asks : ℕ → Window → Message
asks k w = message.Ask (num 0 1) (at 5 0) (query.Class k w)

-- agent 0 reads the variable at (5,0)
abbrev pub reads : Message
reads = message.Ask (num 0 1) (at 5 0) (query.One 0)

-- its hit, with its turn
abbrev pub hit : ℕ → ℕ → Sent
hit turn x = to 9 (message.Give (record { num = num 0 1; stamp = at 5 0; var = 0; turn = turn; hit = Some (val x) }))

-- the query of agent 0 is done
abbrev pub done : Message
done = message.Finish (num 0 1) (at 5 0)

-- from the stamp on, up to the other, the variable is x
abbrev pub grows : Stamp → Option Stamp → ℕ → Message
grows from until x = message.Grow 0 from until (point_of (val x))

-- a record with one write of 4 at (1,1)
abbrev pub written : Parts
written = record {
  base = val 0;
  puts = record { num = num 1 1; stamp = at 1 1; change = change.Set (val 4) } ∷ [];
  cuts = [];
  reads = [];
}

-- the record of the variable that agent 1 wrote
abbrev pub moved : Parts
moved = record {
  base = val 0;
  puts = record { num = num 1 1; stamp = at 3 1; change = change.Set (val 7) } ∷ [];
  cuts = [];
  reads = [];
}

-- a record with agent 1's write and its withdrawal
abbrev pub undone : Parts
undone = record {
  base = val 0;
  puts = record { num = num 1 1; stamp = at 3 1; change = change.Set (val 7) } ∷ [];
  cuts = record { num = num 1 1; stamp = at 3 1 } ∷ [];
  reads = [];
}

-- agent 0 writes x at (5,0)
abbrev pub own_write : ℕ → Message
own_write x = message.Put (num 0 2) (at 5 0) 0 (change.Set (val x))

-- the process after a Commit at this moment
abbrev pub committed : Stamp → ClpState → ClpState
committed t s = clp_committed (line.At t) s

-- moves
pub record SampleMoves : Type 0 where
  -- a write from port 0 is told at both ports, and draws the record there
  pub drawn : sends 1 0 write (home 1) ≡ to 0 (grows (at 3 1) None 7) ∷ to 5 (grows (at 3 1) None 7) ∷
      to 0 (message.Move 0 (at 0 0) moved) ∷ []
  -- where it doesn't move, the record stays
  pub stays : sends 1 0 write (home 0) ≡ to 0 (grows (at 3 1) None 7) ∷ to 5 (grows (at 3 1) None 7) ∷ []
  -- once it left, a write goes on to where it is
  pub goes_on : sends 1 9 (own_write 8) (after 1 0 write (home 1)) ≡ to 0 (own_write 8) ∷ []
  pub cut_goes_on : sends 1 9 withdrawal (after 1 0 write (home 1)) ≡ to 0 withdrawal ∷ []
  -- the line is the floor of what leaves
  pub floor : sends 1 0 write (committed (at 2 0) (home 1)) ≡ to 0 (grows (at 3 1) None 7) ∷
      to 5 (grows (at 3 1) None 7) ∷ to 0 (message.Move 0 (at 2 0) moved) ∷ []
  -- a record that comes is watched at once by the query that is registered
  pub passes : sends 1 0 (message.Move 0 (at 0 0) written) (after 1 9 (asks 0 whole) away) ≡ hit 1 4 ∷ []
  -- and then is here; the port that it came from knows its values, and isn't told of one of them again
  pub arrives : sends 1 9 (own_write 4) (after 1 0 (message.Move 0 (at 0 0) written) away) ≡
      to 5 (grows (at 5 0) None 4) ∷ []

-- class queries
pub record SampleQueries : Type 0 where
  -- it goes on where a value may stand in its window
  pub goes_on : sends 1 9 (asks 0 whole) away ≡ to 0 (asks 0 whole) ∷ []
  -- else it is done at once
  pub pruned : sends 1 9 (asks 0 (across 40 60)) away ≡ to 9 done ∷ []
  -- so it is where a value may stand there later than at its stamp alone
  pub too_late : sends 1 9 (asks 0 (across 40 60)) (after 1 0 (grows (at 9 0) None 50) away) ≡ to 9 done ∷ []
  -- and goes out later, when more may stand there, of which the other port is told
  pub caught_up : sends 1 0 (grows (at 0 0) None 50) (after 1 9 (asks 0 (across 40 60)) away) ≡
      to 0 (asks 0 (across 40 60)) ∷ to 5 (grows (at 0 0) None 50) ∷ []
  -- once only
  pub once : sends 1 0 (grows (at 0 0) None 50)
      (after 1 0 (grows (at 0 0) None 50) (after 1 9 (asks 0 (across 40 60)) away)) ≡ []
  -- a Grow that tells nothing new sends nothing
  pub nothing_new : sends 1 0 (grows (at 2 0) None 50) (after 1 0 (grows (at 0 0) None 50) away) ≡ []
  -- asked again it does nothing
  pub known : clp_after (place 1) 9 (asks 0 whole) (after 1 9 (asks 0 whole) away) ≡
      record { clp = after 1 9 (asks 0 whole) away; sent = [] }
  -- it is done when the last port is
  pub not_last : sends 2 0 done (after 2 9 (asks 0 whole) apart) ≡ []
  pub last : sends 2 5 done (after 2 0 done (after 2 9 (asks 0 whole) apart)) ≡ to 9 done ∷ []
  pub not_twice : sends 2 0 done (after 2 0 done (after 2 9 (asks 0 whole) apart)) ≡ []
  -- an inverted window holds nothing
  pub inverted : sends 1 9 (asks 0 (across 5 0)) (home 0) ≡ to 9 done ∷ []
  -- a class without members has no hits
  pub empty : sends 1 9 (asks 1 whole) (home 0) ≡ to 9 done ∷ []

-- writes and withdrawals
pub record SampleWrites : Type 0 where
  -- a read sees a write that comes late, and its withdrawal, of which no port has to be told
  pub late : sends 1 0 write (after 1 9 reads (home 0)) ≡
      hit 2 7 ∷ to 0 (grows (at 3 1) None 7) ∷ to 5 (grows (at 3 1) None 7) ∷ []
  pub withdrawn : sends 1 0 withdrawal (after 1 0 write (after 1 9 reads (home 0))) ≡ hit 3 0 ∷ []
  -- a withdrawal before its write
  pub early : sends 1 0 write (after 1 0 withdrawal (after 1 9 reads (home 0))) ≡ []
  -- the record is the same in either order
  pub put_first : (after 1 0 withdrawal (after 1 0 write (home 0))).records ≡ Some undone ∷ []
  pub cut_first : (after 1 0 write (after 1 0 withdrawal (home 0))).records ≡ Some undone ∷ []
  -- a write that was received already does nothing
  pub again : sends 1 0 write (after 1 0 write (after 1 9 reads (home 0))) ≡ []
  -- a query's hits, and that it is done
  pub asked : sends 1 9 (asks 0 whole) (home 0) ≡ hit 1 0 ∷ to 9 done ∷ []
  -- it sees a write below its stamp and none at it
  pub below : sends 1 0 write (after 1 9 (asks 0 whole) (home 0)) ≡
      hit 2 7 ∷ to 0 (grows (at 3 1) None 7) ∷ to 5 (grows (at 3 1) None 7) ∷ []
  pub own : sends 1 9 (own_write 8) (after 1 9 (asks 0 whole) (home 0)) ≡
      to 0 (grows (at 5 0) None 8) ∷ to 5 (grows (at 5 0) None 8) ∷ []

-- Commits
pub record SampleCommits : Type 0 where
  -- at the end a record is its last value
  pub forgets : (clp_committed line.End (after 1 0 write (after 1 9 reads (home 0)))).records ≡
      Some (first_parts (val 7)) ∷ []
  -- what isn't below the line stays
  pub keeps : (committed (at 3 1) (after 1 0 write (home 0))).records ≡ (after 1 0 write (home 0)).records
  pub query_stays : (committed (at 5 0) (after 1 9 (asks 0 whole) away)).queries ≡
      (after 1 9 (asks 0 whole) away).queries
  pub query_goes : (committed (at 5 1) (after 1 9 (asks 0 whole) away)).queries ≡ []
