use Rattle.std.proofs.Common.{◌≡◌, ◌+◌, ◌-◌, ◌≤◌, ◌<◌, ◌∙◌, ℕ, suc, arith, ap, refl, subst}
use Rattle.pm_queries.proofs.Grown.{grown_same, grown_then}
use Rattle.pm_clp.specs.Clps.{ClpState, ClpSends, Hub, at_record, take_watch, watch_all}
use Rattle.pm_clp.specs.Views.{Did, Leads}
use Rattle.pm_clp.proofs.Steps.{did-hub, leads-end, leads-step}
use Rattle.pm_clp.proofs.Watching.{leads-same, leads-start, skipped}
use Rattle.pm_clp.proofs.clp.Clp.watch_class.Goals as goal

pub loop-at-init : goal.loop-at-init
loop-at-init c =
    let now = c.args.self.now in
    let row = c.args.row in
    let walk : ℕ → ℕ → ClpState → ClpSends = watch_all now.hub c.args.num c.args.stamp c.args.window in
    let end : ℕ = row.first + row.count in
    let at = c.next_here-at.result in
    let count : row.count ≡ end - row.first = omega arith in
    let pass : walk row.first (end - row.first) now.clp ≡ walk at (end - at) now.clp =
    skipped now.hub c.args.num c.args.stamp c.args.window row.first at end now.clp c.next_here-at.ensures.from c.next_here-at.ensures.until c.next_here-at.ensures.skipped in
    record {
      hub = refl;
      stays = refl;
      grown = grown_same c.args.out.now;
      within = c.next_here-at.ensures.until;
      leads = leads-same now now c.args.out.now c.args.out.now (walk row.first row.count) (walk at (end - at)) (walk row.first row.count)
          (ap (λ n. walk row.first n now.clp) count ∙ pass) (leads-start now c.args.out.now (walk row.first row.count));
    }

pub loop-at-preserved : goal.loop-at-preserved
loop-at-preserved c =
    let h = c.args.self.now.hub in
    let row = c.args.row in
    let walk : ℕ → ℕ → ClpState → ClpSends = watch_all h c.args.num c.args.stamp c.args.window in
    let end : ℕ = row.first + row.count in
    let at = c.loop-at.at in
    let next = c.next_here-at-in-loop-at.result in
    let now = c.loop-at.self in
    let new = c.record_watch.new.self in
    let did : Did now new c.loop-at.out c.record_watch.new.out (at_record now.hub at (take_watch at c.args.num c.args.stamp c.args.window)) =
    c.in_ok-record_watch.ensures.did in
    let less : end - at ≡ suc (end - (at + 1)) = omega arith in
    let on : suc at ≡ at + 1 = omega arith in
    let whole : ClpState → ClpSends = walk row.first row.count in
    let leads = subst (λ n. Leads now c.loop-at.out (walk at n) c.args.self.now c.args.out.now whole) less c.loop-at.invariant.leads in
    let step = subst (λ (z : Hub). Did now new c.loop-at.out c.record_watch.new.out (at_record z at (take_watch at c.args.num c.args.stamp c.args.window)))
    c.loop-at.invariant.hub did in
    let went = subst (λ i. Leads new c.record_watch.new.out (walk i (end - (at + 1))) c.args.self.now c.args.out.now whole) on
    (leads-step now new c.args.self.now c.loop-at.out c.record_watch.new.out c.args.out.now
    (at_record h at (take_watch at c.args.num c.args.stamp c.args.window)) (walk (suc at) (end - (at + 1))) whole step leads) in
    let pass : walk (at + 1) (end - (at + 1)) new.clp ≡ walk next (end - next) new.clp =
    skipped h c.args.num c.args.stamp c.args.window (at + 1) next end new.clp c.next_here-at-in-loop-at.ensures.from c.next_here-at-in-loop-at.ensures.until
    c.next_here-at-in-loop-at.ensures.skipped in
    record {
      hub = did-hub now new c.loop-at.out c.record_watch.new.out _ did ∙ c.loop-at.invariant.hub;
      stays = c.record_watch.ensures.stays ∙ c.loop-at.invariant.stays;
      grown = grown_then c.args.out.now c.loop-at.out c.record_watch.new.out c.loop-at.invariant.grown
          c.record_watch.ensures.grown;
      within = c.next_here-at-in-loop-at.ensures.until;
      leads = leads-same new c.args.self.now c.record_watch.new.out c.args.out.now (walk (at + 1) (end - (at + 1))) (walk next (end - next)) whole pass went;
    }

pub returns-clause-did : goal.returns-clause-did
returns-clause-did c =
    let row = c.args.row in
    let walk : ℕ → ℕ → ClpState → ClpSends = watch_all c.args.self.now.hub c.args.num c.args.stamp c.args.window in
    let none : (row.first + row.count) - c.loop-at.at ≡ 0 = omega arith in
    leads-end c.loop-at.self c.args.self.now c.loop-at.out c.args.out.now (walk row.first row.count)
    (subst (λ n. Leads c.loop-at.self c.loop-at.out (walk c.loop-at.at n) c.args.self.now c.args.out.now (walk row.first row.count)) none
    c.loop-at.invariant.leads)
