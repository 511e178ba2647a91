use Rattle.std.proofs.Common.{subst, ap, ◌∙◌, ◌++◌, map}
use Rattle.pm_clp.specs.Clps.{at_record, take_cut}
use Rattle.pm_clp.specs.Views.{ClpView, DidRaise, hub_of, state_of, give_to}
use Rattle.pm_clp.proofs.Steps.{on_ok, raised-did}
use Rattle.pm_clp.proofs.clp.Clp.record_cut.Goals as goal

pub returns-clause-did : goal.returns-clause-did
returns-clause-did c =
    let i = c.self.inside in
    let f = take_cut c.args.var c.args.row in
    on_ok c.send_gives.result
    (λ sent. subst (λ (z : ClpView). DidRaise z
    (record {
      hub = hub_of i.ports i.to_agents i.layout;
      clp = state_of c.cut.new.self i.routes i.line i.queries i.bound i.told;
      limit = c.cut.new.self.limit;
      made =
          i.made;
      spoilt = i.spoilt;
    })
    c.args.out.now c.send_gives.new.out (at_record z.hub c.args.var f)) c.self.view_is
    (raised-did (hub_of i.ports i.to_agents i.layout) (state_of i.records i.routes i.line i.queries i.bound i.told)
    i.records.limit i.made i.spoilt f
    c.args.var c.cut.new.self c.in_ok-gives.gives c.args.out.now c.send_gives.new.out c.in_ok-gives.ensures.ok
    c.in_ok-gives.ensures.gives
    (sent ∙ ap (λ z. c.args.out.now ++ map (give_to i.to_agents) z) c.as_slice.ensures)))
    c.send_gives.ensures.sent
