use Rattle.std.proofs.Common.{◌≡◌, set, subst, arith}
use Rattle.pm_clp.specs.Kept.{kept_of, parts_in}
use Rattle.pm_clp.proofs.Keeping.{set_view}
use Rattle.pm_clp.specs.Laid.{in_set}
use Rattle.pm_clp.proofs.Slots.{laid-take}
use Rattle.pm_clp.proofs.records.Records.take.Goals as goal

pub invariant_of-self : goal.invariant_of-self
invariant_of-self c =
    let i = c.self.inside in
    laid-take i.each.items i.limit c.args.var c.take.new.self (in_set i.here) (in_set i.busy) (in_set c.remove.new.self) (in_set c.remove-2.new.self) c.self.invariant (omega arith)
    c.take.ensures.after c.remove.ensures c.remove-2.ensures

pub returns-clause-kept : goal.returns-clause-kept
returns-clause-kept c =
    let now = c.args.self.now in
    let each = c.self.inside.each.items in
    subst (λ z. kept_of (set each c.args.var c.take.new.self) c.self.inside.limit ≡ record { recs = set now.recs c.args.var (parts_in z); limit = now.limit })
    c.take.ensures.after (set_view each c.args.var c.take.new.self c.self.inside.limit now c.self.view_is)
