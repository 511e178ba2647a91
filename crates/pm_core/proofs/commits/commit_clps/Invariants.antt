use Rattle.std.proofs.Common.{◌≡◌, ◌++◌, map, take, drop}
use Rattle.pm_core.specs.Commits.{clp_at}
use Rattle.pm_core.proofs.commits.commit_clps.Given as goal

abbrev pub invariant-loop-clp : goal.invariant-loop-clp
invariant-loop-clp l =
    l.clp-items
    ≡ map (clp_at l.line) (take l.clp-index l.initial.clp-items) ++ drop l.clp-index l.initial.clp-items
