use Rattle.std.proofs.Common.{◌≡◌, ◌-◌}
use Rattle.pm_sim.specs.Worlds.{clps_of}
use Rattle.pm_core.specs.Mails.{opened_tree}
use Rattle.pm_core.proofs.posts.open_tree.Given as goal

abbrev pub invariant-loop-clp : goal.invariant-loop-clp
invariant-loop-clp l =
    opened_tree l.plan l.clp (clps_of l.plan - l.clp) l.mail ≡ opened_tree l.plan 0 (clps_of l.plan) l.initial.mail
