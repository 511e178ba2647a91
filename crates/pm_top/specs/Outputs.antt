-- What each mode writes of a plan.
use Rattle.std.specs.Prelude.{ℕ, Bool, if◌then◌else◌, List, [], ◌++◌, length, take, codes, decimal}
use Rattle.pm_base.specs.declared.run.Event.{Event}
use Rattle.pm_history.specs.Journals.{journal_text}
use Rattle.pm_model.specs.Runs.{sequential_run}
use Rattle.pm_model.specs.Traces.{trace, trace_text}
use Rattle.pm_plan.specs.declared.plan.Plan.{Plan}

-- `ok clps A classes B vars C agents D`
abbrev pub check_line : Plan → List ℕ
check_line p =
    (codes "ok clps " ++ decimal (length p.clps)) ++ ((codes " classes " ++ decimal (length p.classes))
    ++ ((codes " vars " ++ decimal (length p.vars)) ++ ((codes " agents " ++ decimal (length p.agents)) ++ codes "\n")))

-- the lines of the first steps of a plan's run
abbrev pub first_lines : ℕ → Plan → List ℕ
first_lines n p = trace_text p (take n (sequential_run p))

-- a journal's lines where they are asked for, else nothing
abbrev pub asked_lines : Bool → List Event → List ℕ
asked_lines asked j = if asked then journal_text j else []

-- the whole output of an optimistic run with this journal: the trace, then the journal's lines where they are asked for
abbrev pub run_output : Bool → Plan → List Event → List ℕ
run_output asked p j = trace p ++ asked_lines asked j
