-- What mode `demo` writes.
use Rattle.std.specs.Prelude.{ℕ, Result, List, [], ◌∷◌, ◌++◌, ◌+◌, ◌*◌, ◌^◌, ◌%◌, length, codes, decimal}
use Rattle.pm_gen.specs.Generated.{generated}
use Rattle.pm_kernel.specs.Counts.{counted, hits_in, writes_in}
use Rattle.pm_model.specs.Runs.{sequential_run}
use Rattle.pm_model.specs.Traces.{trace}
use Rattle.pm_plan.specs.Plans.{plan_of}
use Rattle.pm_plan.specs.declared.fault.PlanFault.{PlanFault}
use Rattle.pm_plan.specs.declared.plan.Plan.{Plan}

-- the plan of the generated scenario of a number
abbrev pub generated_plan : ℕ → Result Plan PlanFault
generated_plan seed = plan_of (generated seed)

-- the number that a text comes to, from this one on: each byte makes it 31 times itself and the byte, modulo 2^64
abbrev pub sum_from : ℕ → List ℕ → ℕ
sum_from n [] = n
sum_from n (b ∷ bs) = sum_from ((n * 31 + b) % 2 ^ 64) bs

-- `demo SEED steps N hits H writes W sum D`
abbrev pub told_line : ℕ → ℕ → ℕ → ℕ → ℕ → List ℕ
told_line seed steps hits writes sum =
    (codes "demo " ++ decimal seed) ++ ((codes " steps " ++ decimal steps) ++ ((codes " hits " ++ decimal hits)
    ++ ((codes " writes " ++ decimal writes) ++ ((codes " sum " ++ decimal sum) ++ codes "\n"))))

-- the line of a plan's run: its steps, the hits of their answers, their writes, and the number that its trace comes to
abbrev pub demo_line : ℕ → Plan → List ℕ
demo_line seed p = told_line seed (length (sequential_run p)) (counted (hits_in (sequential_run p)))
    (counted (writes_in (sequential_run p))) (sum_from 0 (trace p))
