-- Worked plans, with an event list for each and the entries of its sequential run.
use Rattle.std.specs.Prelude.{ℕ, ℤ, pos, negsuc, List, [], ◌∷◌, ◌++◌, map, Some, None, codes}
use Rattle.pm_base.specs.declared.program.Expr.{Expr}
use Rattle.pm_base.specs.declared.program.Expr.TheVariants as expr
use Rattle.pm_base.specs.declared.program.Field.TheVariants as field
use Rattle.pm_base.specs.declared.program.Op.TheVariants as op
use Rattle.pm_base.specs.declared.program.Place.TheVariants.{Var}
use Rattle.pm_base.specs.declared.program.Program.{Program}
use Rattle.pm_base.specs.declared.program.Sense.TheVariants as sense
use Rattle.pm_base.specs.declared.program.SenseRow.{SenseRow}
use Rattle.pm_base.specs.declared.program.Stmt.{Stmt}
use Rattle.pm_base.specs.declared.program.Stmt.TheVariants as stmt
use Rattle.pm_base.specs.declared.rows.Entry.{Entry}
use Rattle.pm_base.specs.declared.run.Event.{Event}
use Rattle.pm_base.specs.declared.run.Event.TheVariants as event
use Rattle.pm_base.specs.declared.stamp.Line.TheVariants as line
use Rattle.pm_base.specs.declared.value.Change.TheVariants as change
use Rattle.pm_base.specs.declared.value.Hit.{Hit}
use Rattle.pm_base.specs.declared.value.Value.{Value}
use Rattle.pm_base.specs.declared.value.Write.{Write}
use Rattle.pm_plan.specs.declared.plan.AgentRow.{AgentRow}
use Rattle.pm_plan.specs.declared.plan.ClpRow.{ClpRow}
use Rattle.pm_plan.specs.declared.plan.Plan.{Plan}
use Rattle.pm_plan.specs.declared.plan.VarRow.{VarRow}

-- a number as an expression
abbrev pub num : ℕ → Expr
num n = expr.Num (pos n)

-- a sense that reads a variable
abbrev pub read : ℕ → SenseRow
read v = record { name = codes "a"; sense = sense.Read (Var v) }

-- a sense that asks the class for the values in a window
abbrev pub scan : ℕ → ℕ → ℕ → ℕ → SenseRow
scan x0 x1 y0 y1 = record { name = codes "s"; sense = sense.Scan 0 (num x0) (num x1) (num y0) (num y1) }

-- a body that sets a variable to (x, 0)
abbrev pub set_to : ℕ → ℕ → List Stmt
set_to v x = stmt.Set (Var v) (num x) (num 0) ∷ []

-- a body that adds to a variable
abbrev pub add_to : ℕ → ℤ → ℤ → List Stmt
add_to v x y = stmt.Add (Var v) (expr.Num x) (expr.Num y) ∷ []

-- a rule without registers
abbrev pub rule : List SenseRow → List Stmt → Program
rule senses body = record { regs = []; senses = senses; body = body }

-- an agent that starts at 0, with its name, its home and its rule
abbrev pub agent : List ℕ → ℕ → List SenseRow → List Stmt → AgentRow
agent name h senses body = record { name = name; home = h; start = 0; program = rule senses body }

-- one communication process
abbrev pub root : List ClpRow
root = record { name = codes "root"; parent = None } ∷ []

-- two communication processes, the second below the first
abbrev pub root_and_left : List ClpRow
root_and_left = record { name = codes "root"; parent = None } ∷ record { name = codes "left"; parent = Some 0 } ∷ []

-- the value (x, 0)
abbrev pub val : ℕ → Value
val x = record { x = pos x; y = pos 0 }

-- a variable with its name, its place and its first value (x, 0)
abbrev pub var : List ℕ → ℕ → ℕ → VarRow
var name at x = record { name = name; at = at; value = val x }

-- a plan of horizon 0 with one class, which has all n variables
abbrev pub plan : ℕ → List ClpRow → ℕ → List VarRow → List AgentRow → Plan
plan move_after clps n vars agents = record {
  horizon = 0;
  move_after = move_after;
  clps = clps;
  layout = record { classes = record { first = 0; count = n } ∷ [] };
  classes = codes "cell" ∷ [];
  vars = vars;
  agents = agents;
}

-- a delivery for each pair of receiver and sender
abbrev pub deliveries : List (ℕ × ℕ) → List Event
deliveries es = map (λ (e : ℕ × ℕ). event.Deliver e.0 e.1) es

-- these deliveries, and then a Commit at the end
abbrev pub all_then_commit : List (ℕ × ℕ) → List Event
all_then_commit es = deliveries es ++ event.Commit line.End ∷ []

-- the entry of an agent's step at time 0
abbrev pub entry : ℕ → List (List Hit) → List Write → Entry
entry a answers writes = record { stamp = record { time = 0; agent = a }; answers = answers; writes = writes }

-- a hit of the value (x, 0)
abbrev pub hit : ℕ → ℕ → Hit
hit v x = record { var = v; value = val x }

-- a write of the value (x, 0)
abbrev pub write : ℕ → ℕ → Write
write v x = record { var = v; change = change.Set (val x) }

-- w sets c0, r reads it
abbrev pub late_write : Plan
late_write = plan 0 root 1 (var (codes "c0") 0 0 ∷ [])
    (agent (codes "w") 0 [] (set_to 0 5) ∷ agent (codes "r") 0 (read 0 ∷ []) [] ∷ [])

-- r reads before w's write comes, and is rolled back by it
abbrev pub late_write_deliveries : List (ℕ × ℕ)
late_write_deliveries = (2, 2) ∷ (0, 2) ∷ (2, 0) ∷ (1, 1) ∷ (0, 1) ∷ (2, 0) ∷ []

-- the same with a Commit at the end
abbrev pub late_write_run : List Event
late_write_run = all_then_commit late_write_deliveries

-- w writes 5, and r reads it
abbrev pub late_write_entries : List Entry
late_write_entries = entry 0 [] (write 0 5 ∷ []) ∷ entry 1 ((hit 0 5 ∷ []) ∷ []) [] ∷ []

-- the same with a Commit below which w's step is alone
abbrev pub first_commit_run : List Event
first_commit_run = deliveries late_write_deliveries ++ event.Commit (line.At (record { time = 0; agent = 1 })) ∷ []

-- and then a Commit at the end
abbrev pub second_commit : List Event
second_commit = event.Commit line.End ∷ []

-- a body that sets the first variable to x where 1 was read, else the second to y
abbrev pub choosing : ℕ → ℕ → ℕ → ℕ → List Stmt
choosing v x w y = stmt.If (expr.Bin op.Equal (expr.Part 0 field.X) (num 1)) (set_to v x) (set_to w y) ∷ []

-- w sets c0, m reads it and sets c2 or c1, r reads c1
abbrev pub withdrawn_write : Plan
withdrawn_write = plan 0 root 3 (var (codes "c0") 0 0 ∷ var (codes "c1") 0 0 ∷ var (codes "c2") 0 0 ∷ [])
    (agent (codes "w") 0 [] (set_to 0 1) ∷ agent (codes "m") 0 (read 0 ∷ []) (choosing 2 7 1 7)
    ∷ agent (codes "r") 0 (read 1 ∷ []) [] ∷ [])

-- m sets c1, which r reads; then w's write comes, m is rolled back and withdraws its own, and r is rolled back by that
abbrev pub withdrawn_write_run : List Event
withdrawn_write_run = all_then_commit ((2, 2) ∷ (0, 2) ∷ (2, 0) ∷ (0, 2) ∷ (3, 3) ∷ (0, 3) ∷ (3, 0) ∷ (1, 1) ∷ (0, 1)
    ∷ (2, 0) ∷ (0, 2) ∷ (0, 2) ∷ (3, 0) ∷ [])

-- w writes 1, m reads it and sets c2, and r reads the first value of c1
abbrev pub withdrawn_write_entries : List Entry
withdrawn_write_entries =
    entry 0 [] (write 0 1 ∷ []) ∷ entry 1 ((hit 0 1 ∷ []) ∷ []) (write 2 7 ∷ [])
    ∷ entry 2 ((hit 1 0 ∷ []) ∷ []) [] ∷ []

-- the same agents at the lower of two communication processes, with c1 at the upper one, where variables move at once
abbrev pub overtaken_cut : Plan
overtaken_cut = plan 1 root_and_left 4
    (var (codes "c0") 1 0 ∷ var (codes "c1") 0 0 ∷ var (codes "c2") 1 0 ∷ var (codes "hi") 1 9 ∷ [])
    (agent (codes "w") 1 [] (set_to 0 1) ∷ agent (codes "m") 1 (read 0 ∷ []) (choosing 2 7 1 7)
    ∷ agent (codes "k") 1 (read 1 ∷ []) [] ∷ [])

-- m's write of c1 is on its way to the upper process while c1 moves down, and the withdrawal comes to c1 before it
abbrev pub overtaken_cut_run : List Event
overtaken_cut_run = all_then_commit ((3, 3) ∷ (1, 3) ∷ (3, 1) ∷ (4, 4) ∷ (1, 4) ∷ (1, 3) ∷ (0, 1) ∷ (1, 0) ∷ (1, 0)
    ∷ (2, 2) ∷ (1, 2) ∷ (3, 1) ∷ (1, 3) ∷ (0, 1) ∷ (1, 0) ∷ (1, 3) ∷ (4, 1) ∷ (0, 1) ∷ [])

-- a asks the class at the lower process, b reads c0, which stands at the upper one and moves at once
abbrev pub moving_query : Plan
moving_query = plan 1 root_and_left 1 (var (codes "c0") 0 1 ∷ [])
    (agent (codes "a") 1 (scan 0 5 0 5 ∷ []) [] ∷ agent (codes "b") 1 (read 0 ∷ []) [] ∷ [])

-- a's query goes up while c0 comes down
abbrev pub moving_query_run : List Event
moving_query_run = all_then_commit ((3, 3) ∷ (1, 3) ∷ (0, 1) ∷ (2, 2) ∷ (1, 2) ∷ (0, 1) ∷ (1, 0) ∷ (1, 0) ∷ (1, 0)
    ∷ (2, 1) ∷ (2, 1) ∷ (3, 1) ∷ [])

-- both see c0
abbrev pub moving_query_entries : List Entry
moving_query_entries = entry 0 ((hit 0 1 ∷ []) ∷ []) [] ∷ entry 1 ((hit 0 1 ∷ []) ∷ []) [] ∷ []

-- w sets c0 at the upper process, r asks at the lower one for values near the one that w writes
abbrev pub pruned_window : Plan
pruned_window = plan 0 root_and_left 1 (var (codes "c0") 0 0 ∷ [])
    (agent (codes "w") 0 [] (set_to 0 50) ∷ agent (codes "r") 1 (scan 40 60 0 0 ∷ []) [] ∷ [])

-- r's query isn't sent up, since nothing there is in its window; w's write is told down, and the query catches up
abbrev pub pruned_window_run : List Event
pruned_window_run = all_then_commit ((3, 3) ∷ (1, 3) ∷ (3, 1) ∷ (2, 2) ∷ (0, 2) ∷ (1, 0) ∷ (0, 1) ∷ (1, 0) ∷ (1, 0)
    ∷ (3, 1) ∷ [])

-- w writes 50, and r finds it
abbrev pub pruned_window_entries : List Entry
pruned_window_entries = entry 0 [] (write 0 50 ∷ []) ∷ entry 1 ((hit 0 50 ∷ []) ∷ []) [] ∷ []

-- the same with r before w
abbrev pub early_query : Plan
early_query = plan 0 root_and_left 1 (var (codes "c0") 0 0 ∷ [])
    (agent (codes "r") 1 (scan 40 60 0 0 ∷ []) [] ∷ agent (codes "w") 0 [] (set_to 0 50) ∷ [])

-- the lower process knows of w's write when r's query comes, and doesn't send it up, since the write is later
abbrev pub early_query_run : List Event
early_query_run = all_then_commit ((3, 3) ∷ (0, 3) ∷ (1, 0) ∷ (2, 2) ∷ (1, 2) ∷ (2, 1) ∷ [])

-- r finds nothing, and w writes 50
abbrev pub early_query_entries : List Entry
early_query_entries = entry 0 ([] ∷ []) [] ∷ entry 1 [] (write 0 50 ∷ []) ∷ []

-- a write that adds
abbrev pub add : ℕ → ℤ → ℤ → Write
add v x y = record { var = v; change = change.Add (record { x = x; y = y }) }

-- u and v add to c0, and r reads it
abbrev pub adders : Plan
adders = plan 0 root 1 (var (codes "c0") 0 0 ∷ [])
    (agent (codes "u") 0 [] (add_to 0 (pos 3) (pos 0)) ∷ agent (codes "v") 0 [] (add_to 0 (pos 4) (negsuc 0))
    ∷ agent (codes "r") 0 (read 0 ∷ []) [] ∷ [])

-- r reads first, then what v adds comes, and then what u adds
abbrev pub adders_run : List Event
adders_run = all_then_commit ((3, 3) ∷ (0, 3) ∷ (3, 0) ∷ (2, 2) ∷ (0, 2) ∷ (1, 1) ∷ (0, 1) ∷ (3, 0) ∷ (3, 0) ∷ [])

-- r reads the sum
abbrev pub adders_entries : List Entry
adders_entries = entry 0 [] (add 0 (pos 3) (pos 0) ∷ []) ∷ entry 1 [] (add 0 (pos 4) (negsuc 0) ∷ [])
    ∷ entry 2 ((record { var = 0; value = record { x = pos 7; y = negsuc 0 } } ∷ []) ∷ []) [] ∷ []
