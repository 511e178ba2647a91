-- When the step asks, when it acts, and how long it waits.
use Rattle.std.proofs.Common.{◌≡◌, ◌∙◌, ap, refl, subst, sym, arith, true, false, ℕ, zero, suc, ◌<◌, ◌≤◌, List, [], ◌∷◌, length, Option, Some, None, ℤ, pos, negsuc, slice_get}
use Rattle.std.specs.Prelude.{nat_lt, is_some}
use Rattle.std.proofs.lemmas.Bool.Decides.{nat_tests}
use Rattle.pm_base.specs.declared.program.Program.{Program}
use Rattle.pm_base.specs.declared.program.SenseRow.{SenseRow}
use Rattle.pm_base.specs.declared.rows.Act.{Act}
use Rattle.pm_base.specs.declared.value.Query.{Query}
use Rattle.pm_step.specs.declared.Next.TheVariants as next
use Rattle.pm_step.specs.Expressions.{Sight}
use Rattle.pm_step.specs.Steps.{act_of, ask_or_act, at_least_one, does_all, is_ask, no_deeds, step, ForAct, IsRising}
use Rattle.pm_step.proofs.Rising.{rising-does_all}

get-below : {X : Type 0} (xs : List X) (k : ℕ) (x : X) → slice_get xs k ≡ Some x → k < length xs
get-below [] k x h = cc
get-below (y ∷ ys) zero x h = omega arith
get-below (y ∷ ys) (suc k) x h = let less : k < length ys = get-below ys k x h in omega arith

get-past : {X : Type 0} (xs : List X) (k : ℕ) → length xs ≤ k → slice_get xs k ≡ None
get-past [] k h = refl
get-past (y ∷ ys) zero h = absurd (omega arith)
get-past (y ∷ ys) (suc k) h = get-past ys k (omega arith)

asks-there : (program : Program) (s : Sight) (found : Option SenseRow) (query : Query) → ask_or_act s program found ≡ next.Ask query →
    (row : SenseRow) × (found ≡ Some row)
asks-there program s (Some row) query h = (row, refl)
asks-there program s None query h = cc

-- a step that asks has a sense left
pub asks_in : (program : Program) (s : Sight) (query : Query) → step program s ≡ next.Ask query → length s.answers < length program.senses
unfolding step
asks_in program s query h =
    let row : (row : SenseRow) × (slice_get program.senses (length s.answers) ≡ Some row) = asks-there program s _ query h in
    get-below program.senses (length s.answers) row.0 row.1

-- with all answers, the step acts
pub acts_after : (program : Program) (s : Sight) → length program.senses ≤ length s.answers →
    step program s ≡ next.Act (act_of (does_all s program.body (no_deeds s.regs)))
unfolding step
acts_after program s h = ap (ask_or_act s program) (get-past program.senses (length s.answers) h)

at_least_one-positive : (z : ℤ) → 1 ≤ at_least_one z
at_least_one-positive (pos zero) = omega arith
at_least_one-positive (pos (suc n)) = omega arith
at_least_one-positive (negsuc n) = omega arith

found-waits : (program : Program) (s : Sight) (found : Option SenseRow) → ForAct (λ act. 1 ≤ act.wait) (ask_or_act s program found)
found-waits program s (Some row) = tt
found-waits program s None = at_least_one-positive (does_all s program.body (no_deeds s.regs)).wait

pub step-waits : (program : Program) (s : Sight) → ForAct (λ act. 1 ≤ act.wait) (step program s)
unfolding step
step-waits program s = found-waits program s (slice_get program.senses (length s.answers))

-- an agent waits at least 1
pub waits : (program : Program) (s : Sight) (act : Act) → step program s ≡ next.Act act → 1 ≤ act.wait
waits program s act h = subst (ForAct (λ a. 1 ≤ a.wait)) h (step-waits program s)

found-asks : (program : Program) (s : Sight) (found : Option SenseRow) → is_ask (ask_or_act s program found) ≡ is_some found
found-asks program s (Some row) = refl
found-asks program s None = refl

none_below : (k : ℕ) → nat_lt k 0 ≡ false
none_below k = grind (arith, nat_tests)

none_past : (n : ℕ) → nat_lt 0 (suc n) ≡ true
none_past n = grind (arith, nat_tests)

next_below : (k n : ℕ) → nat_lt k n ≡ nat_lt (suc k) (suc n)
next_below k n = grind (arith, nat_tests)

is_some-get : {X : Type 0} (xs : List X) (k : ℕ) → is_some (slice_get xs k) ≡ nat_lt k (length xs)
is_some-get [] k = sym (none_below k)
is_some-get (y ∷ ys) zero = sym (none_past (length ys))
is_some-get (y ∷ ys) (suc k) = is_some-get ys k ∙ next_below k (length ys)

-- the step asks exactly where there is a sense left
pub step-asks : (program : Program) (s : Sight) → is_ask (step program s) ≡ nat_lt (length s.answers) (length program.senses)
unfolding step
step-asks program s = found-asks program s (slice_get program.senses (length s.answers)) ∙ is_some-get program.senses (length s.answers)

found-rises : (program : Program) (s : Sight) (found : Option SenseRow) → ForAct (λ act. IsRising act.writes) (ask_or_act s program found)
found-rises program s (Some row) = tt
found-rises program s None = rising-does_all s program.body (no_deeds s.regs) (λ i j d le lt. absurd (omega arith))

-- the writes of a step stand in rising order
pub step-rises : (program : Program) (s : Sight) → ForAct (λ act. IsRising act.writes) (step program s)
unfolding step
step-rises program s = found-rises program s (slice_get program.senses (length s.answers))
