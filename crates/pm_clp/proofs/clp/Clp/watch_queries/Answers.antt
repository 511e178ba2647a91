use Rattle.std.proofs.Common.{◌≡◌, ◌∙◌, ◌+◌, ◌<◌, ◌≤◌, List, suc, arith, subst, length, drop, slice_get}
use Rattle.pm_queries.specs.Queries.{class_queries}
use Rattle.pm_queries.proofs.Grown.{grown_then}
use Rattle.pm_queries.specs.declared.registered.Registered.{Registered}
use Rattle.pm_clp.specs.Clps.{Hub}
use Rattle.pm_clp.specs.Views.{Did, Leads, watch_at, watch_each}
use Rattle.pm_clp.proofs.Acts.{watched_did, watched_on}
use Rattle.pm_clp.proofs.Stays.{watch_queries-keep}
use Rattle.pm_clp.proofs.Steps.{did-hub}
use Rattle.pm_clp.proofs.clp.Clp.watch_queries.Goals as goal

pub loop-at-preserved : goal.loop-at-preserved
loop-at-preserved c =
    let h = c.args.self.now.hub in
    let v = c.args.var in
    let k = c.class_of-class.result in
    let at = c.loop-at.at in
    let qs : List Registered = class_queries k c.args.self.now.clp.queries in
    let now = c.loop-at.self in
    let new = c.watch_query.new.self in
    let did : Did now new c.loop-at.out c.watch_query.new.out
    (watch_at now.hub v (slice_get (class_queries k now.clp.queries) at)) = c.in_ok-watch_query.ensures.did in
    let here : Did now new c.loop-at.out c.watch_query.new.out
    (watch_at h v (slice_get (class_queries k now.clp.queries) at)) =
    subst (λ (g : Hub). Did now new c.loop-at.out c.watch_query.new.out
    (watch_at g v (slice_get (class_queries k now.clp.queries) at))) c.loop-at.invariant.hub did in
    let step : Did now new c.loop-at.out c.watch_query.new.out (watch_at h v (slice_get qs at)) =
    subst (λ (l : List Registered). Did now new c.loop-at.out c.watch_query.new.out
    (watch_at h v (slice_get (class_queries k l) at))) c.loop-at.invariant.queries here in
    let below : at < length qs = subst (λ n. at < n) c.query_count-at-end.ensures c.loop-at-test.true in
    let on : suc at ≡ at + 1 = omega arith in
    record {
      hub = did-hub now new c.loop-at.out c.watch_query.new.out _ did ∙ c.loop-at.invariant.hub;
      stays = c.watch_query.ensures.stays ∙ c.loop-at.invariant.stays;
      grown = grown_then c.args.out.now c.loop-at.out c.watch_query.new.out c.loop-at.invariant.grown
          c.watch_query.ensures.grown;
      queries = watch_queries-keep now new c.loop-at.out c.watch_query.new.out h v (slice_get qs at) step
          ∙ c.loop-at.invariant.queries;
      leads = subst (λ n. Leads new c.watch_query.new.out (watch_each h v (drop n qs)) c.args.self.now
          c.args.out.now (watch_each h v qs)) on
          (watched_on now new c.args.self.now c.loop-at.out c.watch_query.new.out c.args.out.now h v qs at
          (watch_each h v qs) below step c.loop-at.invariant.leads);
    }

pub returns-clause-did : goal.returns-clause-did
returns-clause-did c =
    let k = c.class_of-class.result in
    let past : length (class_queries k c.args.self.now.clp.queries) ≤ c.loop-at.at =
    subst (λ n. n ≤ c.loop-at.at) c.query_count-at-end.ensures c.loop-at-test.false in
    watched_did c.loop-at.self c.args.self.now c.loop-at.out c.args.out.now c.args.var k c.loop-at.at
    c.class_of-class.ensures past c.loop-at.invariant.leads
