use Rattle.std.proofs.Common.{rules}
use Rattle.pm_links.proofs.Waits.{still_kept}
use Rattle.pm_links.proofs.in_end.InEnd.next.Goals as goal

pub invariant_of-self : goal.invariant_of-self
invariant_of-self g c = record {
  kept = still_kept c.pop_front.result _ _ _ c.pop_front.ensures.items c.args.self.now.kept;
  room = search rules;
}
