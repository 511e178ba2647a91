use Rattle.std.proofs.Common.{◌∙◌, ap, sym, subst}
use Rattle.pm_routes.specs.Routings.{place_of}
use Rattle.pm_clp.specs.Clps.{catch_up}
use Rattle.pm_clp.specs.Views.{ClpView, Did, hub_of, state_of}
use Rattle.pm_clp.proofs.Leaves.{caught-did, on_ok_both}
use Rattle.pm_clp.proofs.clp.Clp.catch_up.Goals as goal

pub returns-clause-did : goal.returns-clause-did
returns-clause-did c =
    let i = c.self.inside in
    let h = hub_of i.ports i.to_agents i.layout in
    let place = c.place_of-place.ensures ∙ ap (λ (v : ClpView). place_of v.hub.ports c.args.port)
    (sym c.self.view_is) in
    on_ok_both c.catch_up.result
    (λ queries sent. subst (λ (z : ClpView). Did z
    (record {
      hub = h;
      clp = state_of i.records i.routes i.line c.catch_up.new.self i.bound i.told;
      limit = i.records.limit;
      made = i.made;
      spoilt = i.spoilt;
    }) c.args.out.now c.catch_up.new.out (catch_up z.hub c.args.port c.args.class)) c.self.view_is
    (caught-did h (state_of i.records i.routes i.line i.queries i.bound i.told) i.records.limit i.made i.spoilt
    c.args.port c.args.class c.place_of-place.result
    c.catch_up.new.self c.args.out.now c.catch_up.new.out place queries sent))
    c.catch_up.ensures.queries c.catch_up.ensures.sent
