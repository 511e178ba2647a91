use Rattle.std.proofs.Common.{◌≡◌, set, subst, sym, Some, arith}
use Rattle.pm_clp.specs.Kept.{kept_of, parts_in}
use Rattle.pm_clp.proofs.Keeping.{set_view}
use Rattle.pm_clp.specs.Laid.{in_set}
use Rattle.pm_clp.proofs.Slots.{laid-install}
use Rattle.pm_clp.proofs.records.Records.install.Goals as goal

pub invariant_of-self-2 : goal.invariant_of-self-2
invariant_of-self-2 c =
    let i = c.self.inside in
    laid-install i.each.items i.limit c.args.var c.install_in.new.kept c.args.held (in_set i.here) (in_set i.busy) (in_set c.add.new.self) (in_set c.add-2.new.self) c.self.invariant (omega arith)
    c.install_in.ensures c.requires.var c.requires.turns c.in_ok-add.ensures.ok c.in_ok-add-2.ensures.ok

pub returns-clause-ok : goal.returns-clause-ok
returns-clause-ok c =
    let now = c.args.self.now in
    let each = c.self.inside.each.items in
    subst (λ z. kept_of (set each c.args.var c.install_in.new.kept) c.self.inside.limit ≡ record { recs = set now.recs c.args.var (parts_in z); limit = now.limit })
    c.install_in.ensures (set_view each c.args.var c.install_in.new.kept c.self.inside.limit now c.self.view_is)
