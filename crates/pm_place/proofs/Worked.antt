-- The runs of the worked plans, turn by turn, and what placements cost.
use Rattle.std.proofs.Common.{◌≡◌, ℕ, ◌+◌, ◌≤◌, List, [], ◌∷◌, length, Option, Some, None, refl, ap, ◌∙◌, arith, pos}
use Rattle.std.specs.List.{sum_by}
use Rattle.pm_base.specs.declared.rows.Entry.{Entry}
use Rattle.pm_base.specs.declared.value.Change.TheVariants as change
use Rattle.pm_base.specs.declared.value.Value.{Value}
use Rattle.pm_plan.specs.declared.plan.AgentRow.{AgentRow}
use Rattle.pm_plan.specs.declared.plan.Plan.{Plan}
use Rattle.pm_plan.specs.Limits.{IsWithinLimits}
use Rattle.pm_step.proofs.ExpressionLaws.{value-Num}
use Rattle.pm_step.proofs.StatementLaws.{does-Set}
use Rattle.pm_step.specs.Steps.{step, written}
use Rattle.pm_model.proofs.Starts.{starts-timely}
use Rattle.pm_model.proofs.Turns.{rest-done, rest-step, turn-falls}
use Rattle.pm_model.specs.Hits.{hits}
use Rattle.pm_model.specs.Runs.{Moved, IsTimely, rest, sequential_run, sequential_start, sequential_turn}
use Rattle.pm_model.specs.declared.AgentState.{AgentState}
use Rattle.pm_model.specs.declared.State.{State}
use Rattle.pm_place.specs.Accesses.{accesses_in}
use Rattle.pm_place.specs.Examples.{branching, one_reader, two_readers}
use Rattle.pm_place.specs.Placings.{cost, edges}

within : (agents : List AgentRow) → length agents ≤ 3 → IsWithinLimits (branching agents)
within agents a = record {
  horizon = omega arith;
  clps = omega arith;
  classes = omega arith;
  vars = omega arith;
  agents = omega (arith, a);
  layout = record { few = omega arith; follow = (refl, omega arith) };
}

-- an agent that acts next at that time
abbrev due : Option ℕ → AgentState
due next = record { regs = []; next = next }

-- c0 is 5
abbrev five : Value
five = record { x = pos 5; y = pos 0 }

abbrev after : List AgentState → State
after agents = record { values = five ∷ []; agents = agents }

-- the entry of the writer, and of a reader
abbrev writes : ℕ → Entry
writes t = record { stamp = record { time = t; agent = 0 }; answers = []; writes = record { var = 0; change = change.Set five } ∷ [] }

abbrev reads : ℕ → ℕ → Entry
reads t a = record { stamp = record { time = t; agent = a }; answers = (record { var = 0; value = five } ∷ []) ∷ []; writes = [] }

abbrev moved : Entry → List AgentState → Moved
moved e agents = record { entry = e; state = after agents }

-- the entries of a turn and of what follows
goes : (plan : Plan) (s : State) (m : Moved) (es : List Entry) → IsTimely plan s → sequential_turn plan s ≡ Some m
    → (IsTimely plan m.state → rest plan m.state ≡ es) → rest plan s ≡ m.entry ∷ es
goes plan s m es ok t more = rest-step plan s m t ok ∙ ap (λ r. m.entry ∷ r) (more (turn-falls plan s m t ok).1)

-- with two readers
abbrev m1 : Moved
m1 = moved (writes 0) (due (Some 1) ∷ due (Some 0) ∷ due (Some 0) ∷ [])

abbrev m2 : Moved
m2 = moved (reads 0 1) (due (Some 1) ∷ due (Some 1) ∷ due (Some 0) ∷ [])

abbrev m3 : Moved
m3 = moved (reads 0 2) (due (Some 1) ∷ due (Some 1) ∷ due (Some 1) ∷ [])

abbrev m4 : Moved
m4 = moved (writes 1) (due None ∷ due (Some 1) ∷ due (Some 1) ∷ [])

abbrev m5 : Moved
m5 = moved (reads 1 1) (due None ∷ due None ∷ due (Some 1) ∷ [])

abbrev m6 : Moved
m6 = moved (reads 1 2) (due None ∷ due None ∷ due None ∷ [])

t1 : sequential_turn two_readers (sequential_start two_readers) ≡ Some m1
unfolding step hits written
t1 = simp (does-Set, value-Num)

t2 : sequential_turn two_readers m1.state ≡ Some m2
unfolding step hits written
t2 = refl

t3 : sequential_turn two_readers m2.state ≡ Some m3
unfolding step hits written
t3 = refl

t4 : sequential_turn two_readers m3.state ≡ Some m4
unfolding step hits written
t4 = simp (does-Set, value-Num)

t5 : sequential_turn two_readers m4.state ≡ Some m5
unfolding step hits written
t5 = refl

t6 : sequential_turn two_readers m5.state ≡ Some m6
unfolding step hits written
t6 = refl

abbrev two_entries : List Entry
two_entries = writes 0 ∷ reads 0 1 ∷ reads 0 2 ∷ writes 1 ∷ reads 1 1 ∷ reads 1 2 ∷ []

two_run : sequential_run two_readers ≡ two_entries
two_run =
    goes two_readers _ m1 _ (starts-timely two_readers (within two_readers.agents (omega arith))) t1 (λ ok.
    goes two_readers _ m2 _ ok t2 (λ ok.
    goes two_readers _ m3 _ ok t3 (λ ok.
    goes two_readers _ m4 _ ok t4 (λ ok.
    goes two_readers _ m5 _ ok t5 (λ ok.
    goes two_readers _ m6 _ ok t6 (λ _. rest-done two_readers _ refl))))))

-- with one reader
abbrev n1 : Moved
n1 = moved (writes 0) (due (Some 1) ∷ due (Some 0) ∷ [])

abbrev n2 : Moved
n2 = moved (reads 0 1) (due (Some 1) ∷ due (Some 1) ∷ [])

abbrev n3 : Moved
n3 = moved (writes 1) (due None ∷ due (Some 1) ∷ [])

abbrev n4 : Moved
n4 = moved (reads 1 1) (due None ∷ due None ∷ [])

u1 : sequential_turn one_reader (sequential_start one_reader) ≡ Some n1
unfolding step hits written
u1 = simp (does-Set, value-Num)

u2 : sequential_turn one_reader n1.state ≡ Some n2
unfolding step hits written
u2 = refl

u3 : sequential_turn one_reader n2.state ≡ Some n3
unfolding step hits written
u3 = simp (does-Set, value-Num)

u4 : sequential_turn one_reader n3.state ≡ Some n4
unfolding step hits written
u4 = refl

abbrev one_entries : List Entry
one_entries = writes 0 ∷ reads 0 1 ∷ writes 1 ∷ reads 1 1 ∷ []

one_run : sequential_run one_reader ≡ one_entries
one_run =
    goes one_reader _ n1 _ (starts-timely one_reader (within one_reader.agents (omega arith))) u1 (λ ok.
    goes one_reader _ n2 _ ok u2 (λ ok.
    goes one_reader _ n3 _ ok u3 (λ ok.
    goes one_reader _ n4 _ ok u4 (λ _. rest-done one_reader _ refl))))

costs : (plan : Plan) (at : List ℕ) (es : List Entry) → sequential_run plan ≡ es → cost plan at ≡ sum_by (edges plan at) (accesses_in plan es)
costs plan at es e = ap (λ es. sum_by (edges plan at) (accesses_in plan es)) e

pub two_at_root : cost two_readers (0 ∷ []) ≡ 6
two_at_root = costs two_readers (0 ∷ []) two_entries two_run ∙ refl

pub two_at_west : cost two_readers (1 ∷ []) ≡ 8
two_at_west = costs two_readers (1 ∷ []) two_entries two_run ∙ refl

pub two_at_east : cost two_readers (2 ∷ []) ≡ 4
two_at_east = costs two_readers (2 ∷ []) two_entries two_run ∙ refl

pub one_at_root : cost one_reader (0 ∷ []) ≡ 4
one_at_root = costs one_reader (0 ∷ []) one_entries one_run ∙ refl

pub one_at_west : cost one_reader (1 ∷ []) ≡ 4
one_at_west = costs one_reader (1 ∷ []) one_entries one_run ∙ refl

pub one_at_east : cost one_reader (2 ∷ []) ≡ 4
one_at_east = costs one_reader (2 ∷ []) one_entries one_run ∙ refl
