use Rattle.std.proofs.Common.{◌∙◌, ◌^◌, ap, sym, subst, None}
use Rattle.pm_periods.specs.Periods.{periods_from}
use Rattle.pm_periods.specs.Records.{Record, settled}
use Rattle.pm_routes.specs.Routings.{place_of}
use Rattle.pm_clp.specs.Clps.{class_at}
use Rattle.pm_clp.specs.Kept.{TurnsUpTo}
use Rattle.pm_clp.specs.Views.{ClpView, hub_of}
use Rattle.pm_clp.proofs.Steps.{grown_off, on_ok, put_in}
use Rattle.pm_clp.proofs.Turns.{settled_turns}
use Rattle.pm_clp.proofs.clp.Clp.install.Goals as goal

pub install-requires-clause-turns : goal.install-requires-clause-turns
install-requires-clause-turns c =
    subst (λ (r : Record). TurnsUpTo (2 ^ 32) r.parts) (sym c.in_ok-held.ensures)
    (settled_turns (2 ^ 32) c.args.parts.now c.requires.turns)

pub returns-clause-did : goal.returns-clause-did
returns-clause-did c =
    let i = c.self.inside in
    let h = hub_of i.ports i.to_agents i.layout in
    let r = settled c.args.parts.now in
    let place = c.place_of-place.ensures ∙ ap (λ (v : ClpView). place_of v.hub.ports c.args.from)
    (sym c.self.view_is) in
    let class = c.class_of-class.ensures ∙ ap (λ (v : ClpView). class_at v.hub c.args.var) (sym c.self.view_is) in
    let periods = c.as_slice.ensures ∙ c.in_ok-periods.ensures
    ∙ ap (λ (q : Record). periods_from q.parts None) c.in_ok-held.ensures in
    let told = grown_off i.ports c.args.from c.class_of-class.result (class_at h c.args.var) c.place_of-place.result
    c.as_slice.result.now
    (periods_from r None) i.told c.grow_periods.new.self c.in_ok-grow_periods.ensures place class periods in
    on_ok c.install.result
    (λ kept. put_in h i.records i.routes i.line i.queries i.bound i.told c.install.new.self c.arrive.new.self
    c.grow_periods.new.self i.made i.spoilt c.args.from c.args.var
    c.in_ok-held.held.parts r c.args.self.now c.self.view_is kept c.arrive.ensures told
    (ap (λ (q : Record). q.parts) c.in_ok-held.ensures))
    c.install.ensures.ok
