use Rattle.std.proofs.Common.{◌≡◌, ◌++◌, drop}
use Rattle.pm_core.specs.Firsts.{first_alps}
use Rattle.pm_core.specs.Mails.{opened_agents}
use Rattle.pm_core.proofs.firsts.first_alps.Given as goal

abbrev pub invariant-loop-i : goal.invariant-loop-i
invariant-loop-i l = record {
  processes : l.all.items ++ first_alps l.plan l.i (drop l.i l.row-items) ≡ first_alps l.plan 0 l.row-items;
  mail : opened_agents l.plan l.i (drop l.i l.row-items) l.mail ≡ opened_agents l.plan 0 l.row-items l.initial.mail;
}
