use Rattle.std.proofs.Common.{◌≡◌, ◌∙◌, ap, subst, None}
use Rattle.std.proofs.Math.ListN.{get_or-map}
use Rattle.pm_clp.specs.Clps.{rec_at}
use Rattle.pm_clp.specs.Kept.{Kept, parts_in}
use Rattle.pm_clp.proofs.records.Records.next.Goals as goal

pub returns-clause-skipped : goal.returns-clause-skipped
returns-clause-skipped c v a b =
    subst (λ (k : Kept). rec_at k.recs v ≡ None) c.self.view_is
    (get_or-map parts_in c.self.inside.each.items v None ∙ ap parts_in ((c.self.invariant.slots v).here (c.next.ensures.least v a b)))
