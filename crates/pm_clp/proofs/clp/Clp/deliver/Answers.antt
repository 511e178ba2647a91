use Rattle.std.proofs.Common.{◌≡◌, false, true, subst, sym}
use Rattle.pm_clp.specs.Takes.{takes}
use Rattle.pm_clp.specs.Views.{ClpView, hub_of, state_of}
use Rattle.pm_clp.proofs.Fitting.{takes_fits}
use Rattle.pm_clp.proofs.clp.Clp.deliver.Goals as goal

pub act-requires-clause-fits : goal.act-requires-clause-fits
act-requires-clause-fits c =
    let i = c.self.inside in
    let taken = subst (λ (v : ClpView). v.spoilt ≡ false → takes v.hub v.made v.clp c.args.from c.args.message
    ≡ true) (sym c.self.view_is) c.requires in
    takes_fits (hub_of i.ports i.to_agents i.layout) (state_of i.records i.routes i.line i.queries i.bound i.told)
    c.args.from i.made c.args.message
    (taken c.if-self.false)
