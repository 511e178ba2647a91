-- Worked lowest runs, as lists of events.
use Rattle.std.specs.Prelude.{ℕ, List, [], ◌∷◌, ◌++◌, codes}
use Rattle.pm_base.specs.declared.program.Expr.TheVariants as expr
use Rattle.pm_base.specs.declared.program.Field.TheVariants as field
use Rattle.pm_base.specs.declared.program.Op.TheVariants as op
use Rattle.pm_base.specs.declared.program.Place.TheVariants.{Var}
use Rattle.pm_base.specs.declared.program.Stmt.{Stmt}
use Rattle.pm_base.specs.declared.program.Stmt.TheVariants as stmt
use Rattle.pm_base.specs.declared.run.Event.{Event}
use Rattle.pm_base.specs.declared.run.Event.TheVariants as event
use Rattle.pm_base.specs.declared.stamp.Line.TheVariants as line
use Rattle.pm_plan.specs.declared.plan.Plan.{Plan}
use Rattle.pm_sim.specs.Samples.{agent, deliveries, num, plan, read, root, var}

-- a Commit at the moment of an agent
abbrev pub commit_at : ℕ → ℕ → List Event
commit_at t a = event.Commit (line.At (record { time = t; agent = a })) ∷ []

-- the Commit of all
abbrev pub commit_end : List Event
commit_end = event.Commit line.End ∷ []

-- a body that sets the first variable to (a.x + 1, 0)
abbrev pub one_more : List Stmt
one_more = stmt.Set (Var 0) (expr.Bin op.Add (expr.Part 0 field.X) (num 1)) (num 0) ∷ []

-- one agent counts up at times 0, 1 and 2
abbrev pub counting : Plan
counting = record (plan 0 root 1 (var (codes "c0") 0 0 ∷ []) (agent (codes "ant") 0 (read 0 ∷ []) one_more ∷ []))
    { horizon = 2 }

-- each step: the Wake, the Ask, the Give and the Put
abbrev pub one_step : List Event
one_step = deliveries ((1, 1) ∷ (0, 1) ∷ (1, 0) ∷ (0, 1) ∷ [])

-- its lowest run
abbrev pub counting_lowest : List Event
counting_lowest =
    commit_at 0 0 ++ one_step ++ (commit_at 1 0 ++ one_step ++ (commit_at 2 0 ++ one_step ++ commit_end))

-- w's write comes before r's read
abbrev pub late_write_lowest : List Event
late_write_lowest =
    commit_at 0 0 ++ (deliveries ((1, 1) ∷ (0, 1) ∷ [])
    ++ (commit_at 0 1 ++ (deliveries ((2, 2) ∷ (0, 2) ∷ (2, 0) ∷ []) ++ commit_end)))

-- with two deliveries w's write stands at the root
abbrev pub pruned_window_two : List Event
pruned_window_two = commit_at 0 0 ++ deliveries ((2, 2) ∷ (0, 2) ∷ [])

-- with three it was told down, and w's step is committed
abbrev pub pruned_window_three : List Event
pruned_window_three = commit_at 0 0 ++ (deliveries ((2, 2) ∷ (0, 2) ∷ (1, 0) ∷ []) ++ commit_at 0 1)

-- with nine r hasn't heard yet that its query is over
abbrev pub pruned_window_nine : List Event
pruned_window_nine =
    pruned_window_three ++ deliveries ((3, 3) ∷ (1, 3) ∷ (0, 1) ∷ (1, 0) ∷ (1, 0) ∷ (3, 1) ∷ [])

-- with ten it has
abbrev pub pruned_window_lowest : List Event
pruned_window_lowest = pruned_window_nine ++ (deliveries ((3, 1) ∷ []) ++ commit_end)
