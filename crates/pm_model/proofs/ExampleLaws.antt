-- The runs of the small plans, turn by turn.
use Rattle.std.proofs.Common.{◌≡◌, ℕ, ◌+◌, ◌≤◌, List, [], ◌∷◌, ◌++◌, length, Option, Some, None, refl, ap, ◌∙◌, arith, pos}
use Rattle.std.specs.Fmt.{digits}
use Rattle.std.specs.Prelude.{codes}
use Rattle.pm_base.specs.declared.rows.Entry.{Entry}
use Rattle.pm_base.specs.declared.value.Change.TheVariants as change
use Rattle.pm_base.specs.declared.value.Hit.{Hit}
use Rattle.pm_base.specs.declared.value.Value.{Value}
use Rattle.pm_base.specs.declared.value.Write.{Write}
use Rattle.pm_plan.specs.declared.plan.AgentRow.{AgentRow}
use Rattle.pm_plan.specs.declared.plan.Plan.{Plan}
use Rattle.pm_plan.specs.Limits.{IsWithinLimits}
use Rattle.pm_step.proofs.ExpressionLaws.{value-Num, value-Part, value-Bin}
use Rattle.pm_step.proofs.StatementLaws.{does-Set}
use Rattle.pm_step.specs.Steps.{step, written}
use Rattle.pm_model.proofs.Starts.{starts-timely}
use Rattle.pm_model.proofs.Turns.{rest-done, rest-step, turn-falls}
use Rattle.pm_model.specs.Examples.{counter, small_plan, tie_read_first, tie_write_first}
use Rattle.pm_model.specs.Hits.{hits}
use Rattle.pm_model.specs.Runs.{Moved, IsTimely, rest, sequential_run, sequential_start, sequential_turn}
use Rattle.pm_model.specs.Traces.{end_line, trace, trace_text}
use Rattle.pm_model.specs.declared.AgentState.{AgentState}
use Rattle.pm_model.specs.declared.State.{State}

within : (horizon : ℕ) (agents : List AgentRow) → horizon ≤ 2 → length agents ≤ 2 → IsWithinLimits (small_plan horizon agents)
within horizon agents h a = record {
  horizon = omega (arith, h);
  clps = omega arith;
  classes = omega arith;
  vars = omega arith;
  agents = omega (arith, a);
  layout = record { few = omega arith; follow = (refl, omega arith) };
}

-- the answer of c0 at x
abbrev answer : ℕ → List Hit
answer x = record { var = 0; value = record { x = pos x; y = pos 0 } } ∷ []

-- the write of c0 to x
abbrev write : ℕ → Write
write x = record { var = 0; change = change.Set (record { x = pos x; y = pos 0 }) }

-- the values where c0 is x
abbrev at : ℕ → List Value
at x = record { x = pos x; y = pos 0 } ∷ []

-- the counter's turn at a time
abbrev count_at : ℕ → Option ℕ → Moved
count_at t next = record {
  entry = record { stamp = record { time = t; agent = 0 }; answers = answer t ∷ []; writes = write (t + 1) ∷ [] };
  state = record { values = at (t + 1); agents = record { regs = []; next = next } ∷ [] };
}

counts-0 : sequential_turn counter (sequential_start counter) ≡ Some (count_at 0 (Some 1))
unfolding step hits written
counts-0 = simp (does-Set, value-Num, value-Part, value-Bin)

counts-1 : sequential_turn counter (count_at 0 (Some 1)).state ≡ Some (count_at 1 (Some 2))
unfolding step hits written
counts-1 = simp (does-Set, value-Num, value-Part, value-Bin)

counts-2 : sequential_turn counter (count_at 1 (Some 2)).state ≡ Some (count_at 2 None)
unfolding step hits written
counts-2 = simp (does-Set, value-Num, value-Part, value-Bin)

-- the entries of a turn and of what follows
goes : (plan : Plan) (s : State) (m : Moved) (es : List Entry) → IsTimely plan s → sequential_turn plan s ≡ Some m
    → (IsTimely plan m.state → rest plan m.state ≡ es) → rest plan s ≡ m.entry ∷ es
goes plan s m es ok t more = rest-step plan s m t ok ∙ ap (λ r. m.entry ∷ r) (more (turn-falls plan s m t ok).1)

pub counter-run : sequential_run counter ≡ (count_at 0 (Some 1)).entry ∷ (count_at 1 (Some 2)).entry ∷ (count_at 2 None).entry ∷ []
counter-run =
    goes counter _ (count_at 0 (Some 1)) _ (starts-timely counter (within 2 counter.agents (omega arith) (omega arith))) counts-0 (λ ok.
    goes counter _ (count_at 1 (Some 2)) _ ok counts-1 (λ ok.
    goes counter _ (count_at 2 None) _ ok counts-2 (λ _. rest-done counter _ refl)))

traced : (plan : Plan) (es : List Entry) → sequential_run plan ≡ es → trace plan ≡ trace_text plan es ++ end_line (length es)
traced plan es e = ap (λ es. trace_text plan es ++ end_line (length es)) e

pub counter-trace : trace counter ≡ codes "0 ant [c0=0,0] c0:=1,0\n1 ant [c0=1,0] c0:=2,0\n2 ant [c0=2,0] c0:=3,0\nend 3\n"
unfolding digits
counter-trace = traced counter _ counter-run ∙ refl

-- the turn of the agent that writes 5, and that of the one that reads
abbrev writes : ℕ → List AgentState → Moved
writes a agents = record {
  entry = record { stamp = record { time = 0; agent = a }; answers = []; writes = write 5 ∷ [] };
  state = record { values = at 5; agents = agents };
}

abbrev reads : ℕ → ℕ → List AgentState → Moved
reads a x agents = record {
  entry = record { stamp = record { time = 0; agent = a }; answers = answer x ∷ []; writes = [] };
  state = record { values = at x; agents = agents };
}

-- an agent that is due at 0, and one that is retired
abbrev waiting : AgentState
waiting = record { regs = []; next = Some 0 }

abbrev retired : AgentState
retired = record { regs = []; next = None }

write-first-0 : sequential_turn tie_write_first (sequential_start tie_write_first) ≡ Some (writes 0 (retired ∷ waiting ∷ []))
unfolding step hits written
write-first-0 = simp (does-Set, value-Num)

write-first-1 : sequential_turn tie_write_first (writes 0 (retired ∷ waiting ∷ [])).state ≡ Some (reads 1 5 (retired ∷ retired ∷ []))
unfolding step hits written
write-first-1 = refl

write-first-run : sequential_run tie_write_first ≡ (writes 0 (retired ∷ waiting ∷ [])).entry ∷ (reads 1 5 (retired ∷ retired ∷ [])).entry ∷ []
write-first-run =
    goes tie_write_first _ (writes 0 (retired ∷ waiting ∷ [])) _ (starts-timely tie_write_first (within 0 tie_write_first.agents (omega arith) (omega arith))) write-first-0 (λ ok.
    goes tie_write_first _ (reads 1 5 (retired ∷ retired ∷ [])) _ ok write-first-1 (λ _. rest-done tie_write_first _ refl))

pub write-first-trace : trace tie_write_first ≡ codes "0 w c0:=5,0\n0 r [c0=5,0]\nend 2\n"
unfolding digits
write-first-trace = traced tie_write_first _ write-first-run ∙ refl

read-first-0 : sequential_turn tie_read_first (sequential_start tie_read_first) ≡ Some (reads 0 0 (retired ∷ waiting ∷ []))
unfolding step hits written
read-first-0 = refl

read-first-1 : sequential_turn tie_read_first (reads 0 0 (retired ∷ waiting ∷ [])).state ≡ Some (writes 1 (retired ∷ retired ∷ []))
unfolding step hits written
read-first-1 = simp (does-Set, value-Num)

read-first-run : sequential_run tie_read_first ≡ (reads 0 0 (retired ∷ waiting ∷ [])).entry ∷ (writes 1 (retired ∷ retired ∷ [])).entry ∷ []
read-first-run =
    goes tie_read_first _ (reads 0 0 (retired ∷ waiting ∷ [])) _ (starts-timely tie_read_first (within 0 tie_read_first.agents (omega arith) (omega arith))) read-first-0 (λ ok.
    goes tie_read_first _ (writes 1 (retired ∷ retired ∷ [])) _ ok read-first-1 (λ _. rest-done tie_read_first _ refl))

pub read-first-trace : trace tie_read_first ≡ codes "0 r [c0=0,0]\n0 w c0:=5,0\nend 2\n"
unfolding digits
read-first-trace = traced tie_read_first _ read-first-run ∙ refl
