use Rattle.std.proofs.Common.{◌++◌, ◌∷◌, [], ◌∙◌, ap, ap₂, sym, subst, None}
use Rattle.pm_message.specs.declared.Message.TheVariants as message
use Rattle.pm_periods.specs.Periods.{periods_from}
use Rattle.pm_routes.specs.Routings.{place_of}
use Rattle.pm_clp.specs.Clps.{class_at}
use Rattle.pm_clp.specs.Views.{ClpView, Did, hub_of, sent_off, state_of}
use Rattle.pm_clp.proofs.Steps.{grown_off, on_ok}
use Rattle.pm_clp.proofs.clp.Clp.send_off.Goals as goal

pub returns-clause-did : goal.returns-clause-did
returns-clause-did c =
    let i = c.self.inside in
    let h = hub_of i.ports i.to_agents i.layout in
    let place = c.place_of-place.ensures ∙ ap (λ (v : ClpView). place_of v.hub.ports c.args.port)
    (sym c.self.view_is) in
    let class = c.class_of-class.ensures.value in
    let grown = grown_off i.ports c.args.port c.class_of-class.result (class_at h c.args.var)
    c.place_of-place.result c.as_slice.result.now
    (periods_from c.args.held.parts None) i.bound c.grow_periods.new.self c.in_ok-grow_periods.ensures place class
    (c.as_slice.ensures ∙ c.in_ok-periods.ensures) in
    on_ok c.push.result
    (λ sent. subst (λ (z : ClpView). Did z
    (record {
      hub = h;
      clp = state_of i.records c.leave.new.self i.line i.queries c.grow_periods.new.self i.told;
      limit = i.records.limit;
      made = i.made;
      spoilt = i.spoilt;
    }) c.args.out.now c.push.new.self (sent_off z.hub c.args.var c.args.port c.args.held.parts)) c.self.view_is
    (record {
      state = ap₂ (λ r b. record {
        hub = h;
        clp = state_of i.records r i.line i.queries b i.told;
        limit = i.records.limit;
        made = i.made;
        spoilt = i.spoilt;
      })
          c.leave.ensures grown;
      sent = sent ∙ ap₂ (λ f p. c.args.out.now ++ record { to = c.args.port; message = message.Move c.args.var f p }
          ∷ [])
          c.floor_of-floor.ensures c.in_ok-parts.ensures;
    }))
    c.push.ensures.ok
