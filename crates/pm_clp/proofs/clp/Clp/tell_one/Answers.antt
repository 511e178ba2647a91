use Rattle.std.proofs.Common.{◌∙◌, ap, sym, subst}
use Rattle.pm_routes.specs.Routings.{place_of}
use Rattle.pm_clp.specs.Clps.{tell_one}
use Rattle.pm_clp.specs.Views.{ClpView, Did, hub_of, state_of}
use Rattle.pm_clp.proofs.Steps.{on_ok}
use Rattle.pm_clp.proofs.Telling.{told_did}
use Rattle.pm_clp.proofs.clp.Clp.tell_one.Goals as goal

pub returns-clause-did : goal.returns-clause-did
returns-clause-did c =
    let i = c.self.inside in
    let h = hub_of i.ports i.to_agents i.layout in
    let place = c.place_of-place.ensures ∙ ap (λ (v : ClpView). place_of v.hub.ports c.args.port)
    (sym c.self.view_is) in
    on_ok c.push_if.result
    (λ sent. subst (λ (z : ClpView). Did z
    (record {
      hub = h;
      clp = state_of i.records i.routes i.line i.queries i.bound c.grow.new.self;
      limit = i.records.limit;
      made = i.made;
      spoilt = i.spoilt;
    }) c.args.out.now c.push_if.new.out
    (tell_one z.hub c.args.class c.args.from c.args.until c.args.window c.args.port)) c.self.view_is
    (told_did h (state_of i.records i.routes i.line i.queries i.bound i.told) i.records.limit i.made i.spoilt
    c.args.class c.args.from c.args.until c.args.window c.args.port c.place_of-place.result
    c.grow.new.self c.in_ok-grew.grew c.args.out.now c.push_if.new.out place c.in_ok-grew.ensures.table
    c.in_ok-grew.ensures.value c.in_ok-grew.ensures.same sent))
    c.push_if.ensures.sent
