-- What is promised of runs.
use Rattle.std.specs.Prelude.{◌≡◌, ◌++◌, true, List, [], ◌∷◌}
use Rattle.pm_base.specs.declared.run.Event.{Event}
use Rattle.pm_base.specs.declared.run.Event.TheVariants as event
use Rattle.pm_base.specs.declared.stamp.Line.TheVariants as line
use Rattle.pm_model.specs.Entries.{run_below}
use Rattle.pm_model.specs.Runs.{sequential_run}
use Rattle.pm_plan.specs.declared.plan.Plan.{Plan}
use Rattle.pm_sim.specs.Worlds.{after_events, committed, committed_from, first_world, is_legal_run, mail}

-- whatever is delivered and committed, what was committed is the sequential run below the line
abbrev pub CommittedIsSequential : Plan → List Event → Type 0
CommittedIsSequential p es =
    is_legal_run p (first_world p) es ≡ true →
    committed p es ≡ run_below p (after_events p (first_world p) es).line

-- what was committed stays a prefix
abbrev pub CommittedStays : Plan → List Event → List Event → Type 0
CommittedStays p es fs =
    committed p (es ++ fs) ≡
    committed p es ++ committed_from p (after_events p (first_world p) es) fs

-- where nothing is on its way, a Commit at the end commits all of the sequential run
abbrev pub AllIsCommitted : Plan → List Event → Type 0
AllIsCommitted p es =
    is_legal_run p (first_world p) es ≡ true →
    mail (after_events p (first_world p) es).links ≡ [] →
    committed p (es ++ event.Commit line.End ∷ []) ≡ sequential_run p

-- and that Commit may stand there
abbrev pub EndIsLegal : Plan → List Event → Type 0
EndIsLegal p es =
    is_legal_run p (first_world p) es ≡ true →
    mail (after_events p (first_world p) es).links ≡ [] →
    is_legal_run p (first_world p) (es ++ event.Commit line.End ∷ []) ≡ true
