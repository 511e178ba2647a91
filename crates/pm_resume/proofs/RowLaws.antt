-- The counter and the agent of one step, cut.
use Rattle.std.proofs.Common.{◌≡◌, ℕ, ◌+◌, List, [], ◌∷◌, ◌++◌, length, Option, true, false, Some, None, Ok, Err, refl, ap, ◌∙◌, arith, pos, cond, nat_lt}
use Rattle.std.specs.Fmt.{digits}
use Rattle.std.specs.List.{filter}
use Rattle.std.specs.Prelude.{codes}
use Rattle.pm_base.specs.Stamps.{is_below}
use Rattle.pm_base.specs.declared.rows.Entry.{Entry}
use Rattle.pm_base.specs.declared.value.Change.TheVariants as change
use Rattle.pm_base.specs.declared.value.Hit.{Hit}
use Rattle.pm_base.specs.declared.value.Write.{Write}
use Rattle.pm_plan.specs.Limits.{IsWithinLimits}
use Rattle.pm_plan.specs.declared.plan.Plan.{Plan}
use Rattle.pm_step.proofs.ExpressionLaws.{value-Num, value-Part, value-Bin}
use Rattle.pm_step.proofs.StatementLaws.{does-Set, does-Wait}
use Rattle.pm_step.specs.Steps.{step, written}
use Rattle.pm_model.proofs.ExampleLaws.{counter-run}
use Rattle.pm_model.proofs.Starts.{starts-timely}
use Rattle.pm_model.proofs.Turns.{rest-done, rest-step}
use Rattle.pm_model.specs.Entries.{run_below}
use Rattle.pm_model.specs.Examples.{counter}
use Rattle.pm_model.specs.Hits.{hits}
use Rattle.pm_model.specs.Runs.{Moved, sequential_run, sequential_start, sequential_turn}
use Rattle.pm_model.specs.Traces.{end_line, trace, trace_text}
use Rattle.pm_model.specs.declared.State.{State}
use Rattle.pm_resume.specs.Cuts.{after_turn, before, cut_of, first_retired, going_on, resumed, state_after, state_below}
use Rattle.pm_resume.specs.Rows.{counter_from, one_step}
use Rattle.pm_resume.specs.declared.CutFault.TheVariants as fault

-- the answer of c0 at x
abbrev answer : ℕ → List Hit
answer x = record { var = 0; value = record { x = pos x; y = pos 0 } } ∷ []

-- the write of c0 to x
abbrev write : ℕ → Write
write x = record { var = 0; change = change.Set (record { x = pos x; y = pos 0 }) }

-- the state where c0 is x, and the agent acts next at that time
abbrev at : ℕ → Option ℕ → State
at x next = record { values = record { x = pos x; y = pos 0 } ∷ []; agents = record { regs = []; next = next } ∷ [] }

-- the counter's turn at a time
abbrev count_at : ℕ → Option ℕ → Moved
count_at t next = record {
  entry = record { stamp = record { time = t; agent = 0 }; answers = answer t ∷ []; writes = write (t + 1) ∷ [] };
  state = at (t + 1) next;
}

turn-0 : sequential_turn counter (at 0 (Some 0)) ≡ Some (count_at 0 (Some 1))
unfolding step hits written
turn-0 = simp (does-Set, value-Num, value-Part, value-Bin)

turn-1 : sequential_turn counter (at 1 (Some 1)) ≡ Some (count_at 1 (Some 2))
unfolding step hits written
turn-1 = simp (does-Set, value-Num, value-Part, value-Bin)

turn-2 : sequential_turn counter (at 2 (Some 2)) ≡ Some (count_at 2 None)
unfolding step hits written
turn-2 = simp (does-Set, value-Num, value-Part, value-Bin)

turned : (plan : Plan) (s r : State) (m : Moved) → s ≡ r → sequential_turn plan r ≡ Some m → after_turn plan s ≡ m.state
turned plan s r m e h = ap (after_turn plan) e ∙ ap (λ (o : Option Moved). elim o as (λ _. State) [ None ↦ r | Some n ↦ n.state ]) h

after-1 : state_after counter 1 ≡ at 1 (Some 1)
after-1 = turned counter (sequential_start counter) (at 0 (Some 0)) (count_at 0 (Some 1)) refl turn-0

after-2 : state_after counter 2 ≡ at 2 (Some 2)
after-2 = turned counter (state_after counter 1) (at 1 (Some 1)) (count_at 1 (Some 2)) after-1 turn-1

after-3 : state_after counter 3 ≡ at 3 None
after-3 = turned counter (state_after counter 2) (at 2 (Some 2)) (count_at 2 None) after-2 turn-2

below-2 : length (run_below counter (before 2)) ≡ 2
unfolding run_below
below-2 = ap (λ es. length (filter (λ (e : Entry). is_below e.stamp (before 2)) es)) counter-run

below-3 : length (run_below counter (before 3)) ≡ 3
unfolding run_below
below-3 = ap (λ es. length (filter (λ (e : Entry). is_below e.stamp (before 3)) es)) counter-run

-- a cut whose budget is enough, and one whose budget isn't
cut-is : (plan : Plan) (from budget n : ℕ) (s : State) → length (run_below plan (before from)) ≡ n → state_after plan n ≡ s → nat_lt budget n ≡ false
    → cut_of plan from budget ≡ going_on plan s
unfolding cut_of state_below
cut-is plan from budget n s e f g =
    ap (λ k. cond (nat_lt budget k) (Err fault.BudgetSpent) (going_on plan (state_after plan k))) e
    ∙ ap (λ b. cond b (Err fault.BudgetSpent) (going_on plan (state_after plan n))) g
    ∙ ap (going_on plan) f

cut-spent : (plan : Plan) (from budget n : ℕ) → length (run_below plan (before from)) ≡ n → nat_lt budget n ≡ true → cut_of plan from budget ≡ Err fault.BudgetSpent
unfolding cut_of state_below
cut-spent plan from budget n e g =
    ap (λ k. cond (nat_lt budget k) (Err fault.BudgetSpent) (going_on plan (state_after plan k))) e
    ∙ ap (λ b. cond b (Err fault.BudgetSpent) (going_on plan (state_after plan n))) g

goes-2 : going_on counter (at 2 (Some 2)) ≡ Ok (counter_from 2)
unfolding resumed
goes-2 = refl

goes-3 : going_on counter (at 3 None) ≡ Ok (counter_from 3)
unfolding resumed
goes-3 = refl

pub third : cut_of counter 2 9 ≡ Ok (counter_from 2)
third = cut-is counter 2 9 2 (at 2 (Some 2)) below-2 after-2 refl ∙ goes-2

pub over : cut_of counter 3 9 ≡ Ok (counter_from 3)
over = cut-is counter 3 9 3 (at 3 None) below-3 after-3 refl ∙ goes-3

pub spent : cut_of counter 3 2 ≡ Err fault.BudgetSpent
spent = cut-spent counter 3 2 3 below-3 refl

within : (t : ℕ) → IsWithinLimits (counter_from t)
within t = record {
  horizon = omega arith;
  clps = omega arith;
  classes = omega arith;
  vars = omega arith;
  agents = omega arith;
  layout = record { few = omega arith; follow = (refl, omega arith) };
}

later-turn : sequential_turn (counter_from 2) (at 2 (Some 2)) ≡ Some (count_at 2 None)
unfolding step hits written
later-turn = simp (does-Set, value-Num, value-Part, value-Bin)

later-run : sequential_run (counter_from 2) ≡ (count_at 2 None).entry ∷ []
later-run =
    rest-step (counter_from 2) (at 2 (Some 2)) (count_at 2 None) later-turn (starts-timely (counter_from 2) (within 2))
    ∙ ap (λ es. (count_at 2 None).entry ∷ es) (rest-done (counter_from 2) (at 3 None) refl)

traced : (plan : Plan) (es : List Entry) → sequential_run plan ≡ es → trace plan ≡ trace_text plan es ++ end_line (length es)
traced plan es e = ap (λ es. trace_text plan es ++ end_line (length es)) e

pub later-trace : trace (counter_from 2) ≡ codes "2 ant [c0=2,0] c0:=3,0\nend 1\n"
unfolding digits
later-trace = traced (counter_from 2) _ later-run ∙ refl

pub over-trace : trace (counter_from 3) ≡ codes "end 0\n"
unfolding digits
over-trace = traced (counter_from 3) [] (rest-done (counter_from 3) (sequential_start (counter_from 3)) refl) ∙ refl

-- the agent of one step

abbrev retires : Moved
retires = record { entry = record { stamp = record { time = 0; agent = 0 }; answers = []; writes = [] }; state = at 0 None }

one-turn : sequential_turn one_step (at 0 (Some 0)) ≡ Some retires
unfolding step hits written
one-turn = simp (does-Wait, value-Num)

one-limits : IsWithinLimits one_step
one-limits = record {
  horizon = omega arith;
  clps = omega arith;
  classes = omega arith;
  vars = omega arith;
  agents = omega arith;
  layout = record { few = omega arith; follow = (refl, omega arith) };
}

one-run : sequential_run one_step ≡ retires.entry ∷ []
one-run =
    rest-step one_step (at 0 (Some 0)) retires one-turn (starts-timely one_step one-limits)
    ∙ ap (λ es. retires.entry ∷ es) (rest-done one_step (at 0 None) refl)

one-below : length (run_below one_step (before 1)) ≡ 1
unfolding run_below
one-below = ap (λ es. length (filter (λ (e : Entry). is_below e.stamp (before 1)) es)) one-run

one-after : state_after one_step 1 ≡ at 0 None
one-after = turned one_step (sequential_start one_step) (at 0 (Some 0)) retires refl one-turn

one-stuck : going_on one_step (at 0 None) ≡ Err (fault.Retired 0)
unfolding first_retired
one-stuck = refl

pub stuck : cut_of one_step 1 9 ≡ Err (fault.Retired 0)
stuck = cut-is one_step 1 9 1 (at 0 None) one-below one-after refl ∙ one-stuck
