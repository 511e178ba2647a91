use Rattle.std.proofs.Common.{◌+◌, ◌≡◌, ◌∙◌, ap, arith, false, length, refl, subst, sym}
use Rattle.pm_plan.specs.Plans.{IsValid}
use Rattle.pm_plan.proofs.Valid.{valid_limits}
use Rattle.pm_sim.specs.Reached.{Reached}
use Rattle.pm_sim.specs.Worlds.{clps_of}
use Rattle.pm_core.specs.Leasts.{IsBest}
use Rattle.pm_core.specs.Mails.{links_of}
use Rattle.pm_core.specs.Views.{WorldView}
use Rattle.pm_core.proofs.LeastLinks.{is_best, no_mail}
use Rattle.pm_core.proofs.world.World.least_link.Goals as goal

pub overflow_cast-clps : goal.overflow_cast-clps
overflow_cast-clps c =
    let l = (valid_limits c.self.inside.processes.plan.now c.self.invariant.valid).clps in
    omega (arith, l, c.len-clps.ensures)

pub returns-in-Some-clause-some : goal.returns-in-Some-clause-some
returns-in-Some-clause-some c =
    let s = c.self.inside in
    let v = c.args.self.now in
    let same : v.world.links ≡ links_of v.plan s.mail =
    subst (λ (z : WorldView). z.world.links ≡ links_of z.plan s.mail) c.self.view_is refl in
    let well : s.spoilt ≡ false = subst (λ (z : WorldView). z.spoilt ≡ false) (sym c.self.view_is) c.requires in
    let valid : IsValid v.plan = subst (λ (z : WorldView). IsValid z.plan) c.self.view_is c.self.invariant.valid in
    let reached : Reached v.plan s.made v.world = subst (λ (z : WorldView). Reached z.plan s.made z.world) c.self.view_is
    (c.self.invariant.stands well).reached in
    let clps : c.len-clps.result ≡ clps_of v.plan =
    c.len-clps.ensures ∙ ap (λ (z : WorldView). clps_of z.plan) c.self.view_is in
    let best : IsBest s.mail (clps_of v.plan) (clps_of v.plan + length v.plan.agents) c.least_front.result =
    subst (λ z. IsBest s.mail (clps_of v.plan) z c.least_front.result) c.count.ensures
    (subst (λ z. IsBest s.mail z c.count.result c.least_front.result) clps c.least_front.ensures) in
    is_best v s.mail same s.made valid reached c.least_front.result c.in-Some.front c.in-Some.is best

pub returns-in-None-clause-none : goal.returns-in-None-clause-none
returns-in-None-clause-none c = λ e.
    let s = c.self.inside in
    let v = c.args.self.now in
    let same : v.world.links ≡ links_of v.plan s.mail =
    subst (λ (z : WorldView). z.world.links ≡ links_of z.plan s.mail) c.self.view_is refl in
    let well : s.spoilt ≡ false = subst (λ (z : WorldView). z.spoilt ≡ false) (sym c.self.view_is) c.requires in
    let valid : IsValid v.plan = subst (λ (z : WorldView). IsValid z.plan) c.self.view_is c.self.invariant.valid in
    let reached : Reached v.plan s.made v.world = subst (λ (z : WorldView). Reached z.plan s.made z.world) c.self.view_is
    (c.self.invariant.stands well).reached in
    let clps : c.len-clps.result ≡ clps_of v.plan =
    c.len-clps.ensures ∙ ap (λ (z : WorldView). clps_of z.plan) c.self.view_is in
    let best : IsBest s.mail (clps_of v.plan) (clps_of v.plan + length v.plan.agents) c.least_front.result =
    subst (λ z. IsBest s.mail (clps_of v.plan) z c.least_front.result) c.count.ensures
    (subst (λ z. IsBest s.mail z c.count.result c.least_front.result) clps c.least_front.ensures) in
    no_mail v s.mail same s.made valid reached c.least_front.result c.in-None.is best
