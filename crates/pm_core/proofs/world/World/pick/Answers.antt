use Rattle.std.proofs.Common.{◌≡◌, ◌∙◌, None, Some, false, refl, subst, sym, ◌-◌}
use Rattle.pm_plan.specs.Plans.{IsValid}
use Rattle.pm_mail.specs.Links.{first_of, waiting}
use Rattle.pm_sim.specs.Reached.{Reached}
use Rattle.pm_sim.specs.Worlds.{clps_of, home}
use Rattle.pm_core.specs.Mails.{links_of}
use Rattle.pm_core.specs.Picks.{IsFree, IsLeast}
use Rattle.pm_core.specs.Views.{WorldView}
use Rattle.pm_core.proofs.Picking.{all_held, home_free, home_least, is_free, is_least, nothing_waits}
use Rattle.pm_core.proofs.world.World.pick.Goals as goal

pub returns-in_default-clause-none : goal.returns-in_default-clause-none
returns-in_default-clause-none c = λ e.
    let s = c.self.inside in
    let v = c.args.self.now in
    let same : v.world.links ≡ links_of v.plan s.mail =
    subst (λ (z : WorldView). z.world.links ≡ links_of z.plan s.mail) c.self.view_is refl in
    nothing_waits v s.mail same c.args.window c.args.to c.in_default.ensures.none

pub returns-then-not-holds_back-clause-some : goal.returns-then-not-holds_back-clause-some
returns-then-not-holds_back-clause-some c =
    let s = c.self.inside in
    let v = c.args.self.now in
    let same : v.world.links ≡ links_of v.plan s.mail =
    subst (λ (z : WorldView). z.world.links ≡ links_of z.plan s.mail) c.self.view_is refl in
    is_free v s.mail same c.args.window c.args.to c.in-Some.from c.in-Some-first.message.now
    (sym c.in-Some-first.ensures) (sym c.holds_back.ensures ∙ c.if-not-holds_back.true)

pub returns-then-not-holds_back-clause-least : goal.returns-then-not-holds_back-clause-least
returns-then-not-holds_back-clause-least c =
    let s = c.self.inside in
    let v = c.args.self.now in
    let same : v.world.links ≡ links_of v.plan s.mail =
    subst (λ (z : WorldView). z.world.links ≡ links_of z.plan s.mail) c.self.view_is refl in
    is_least v s.mail same c.args.window c.args.to c.in-Some.from c.in-Some.ensures.least

pub returns-in-Some-first-2-clause-least : goal.returns-in-Some-first-2-clause-least
returns-in-Some-first-2-clause-least c =
    let s = c.self.inside in
    let v = c.args.self.now in
    let same : v.world.links ≡ links_of v.plan s.mail =
    subst (λ (z : WorldView). z.world.links ≡ links_of z.plan s.mail) c.self.view_is refl in
    let well : s.spoilt ≡ false = subst (λ (z : WorldView). z.spoilt ≡ false) (sym c.self.view_is) c.requires in
    let valid : IsValid v.plan = subst (λ (z : WorldView). IsValid z.plan) c.self.view_is c.self.invariant.valid in
    let reached : Reached v.plan s.made v.world =
    subst (λ (z : WorldView). Reached z.plan s.made z.world) c.self.view_is
    (c.self.invariant.stands well).reached in
    subst (IsLeast v c.args.window c.args.to) (sym c.home_of-home.ensures)
    (home_least v s.mail same c.args.window c.args.to s.made valid reached c.in-Some.from c.in-Some-first.message.now
    (sym c.in-Some-first.ensures) (sym c.holds_back.ensures ∙ c.if-not-holds_back.false))

pub returns-in-Some-first-2-clause-some : goal.returns-in-Some-first-2-clause-some
returns-in-Some-first-2-clause-some c =
    let s = c.self.inside in
    let v = c.args.self.now in
    let same : v.world.links ≡ links_of v.plan s.mail =
    subst (λ (z : WorldView). z.world.links ≡ links_of z.plan s.mail) c.self.view_is refl in
    let well : s.spoilt ≡ false = subst (λ (z : WorldView). z.spoilt ≡ false) (sym c.self.view_is) c.requires in
    let valid : IsValid v.plan = subst (λ (z : WorldView). IsValid z.plan) c.self.view_is c.self.invariant.valid in
    let reached : Reached v.plan s.made v.world = subst (λ (z : WorldView). Reached z.plan s.made z.world) c.self.view_is
    (c.self.invariant.stands well).reached in
    let there : first_of (waiting c.args.to (home v.plan (c.args.to - clps_of v.plan)) s.mail)
    ≡ Some c.in-Some-first-2.field-0.now = subst
    (λ z. first_of (waiting c.args.to z s.mail) ≡ Some c.in-Some-first-2.field-0.now) c.home_of-home.ensures
    (sym c.in-Some-first-2.ensures) in
    subst (IsFree v c.args.window c.args.to) (sym c.home_of-home.ensures)
    (home_free v s.mail same c.args.window c.args.to s.made valid reached c.in-Some.from c.in-Some-first.message.now
    (sym c.in-Some-first.ensures) (sym c.holds_back.ensures ∙ c.if-not-holds_back.false)
    c.in-Some-first-2.field-0.now there)

pub returns-in-None-clause-none : goal.returns-in-None-clause-none
returns-in-None-clause-none c = λ e.
    let s = c.self.inside in
    let v = c.args.self.now in
    let same : v.world.links ≡ links_of v.plan s.mail =
    subst (λ (z : WorldView). z.world.links ≡ links_of z.plan s.mail) c.self.view_is refl in
    let well : s.spoilt ≡ false = subst (λ (z : WorldView). z.spoilt ≡ false) (sym c.self.view_is) c.requires in
    let valid : IsValid v.plan = subst (λ (z : WorldView). IsValid z.plan) c.self.view_is c.self.invariant.valid in
    let reached : Reached v.plan s.made v.world = subst (λ (z : WorldView). Reached z.plan s.made z.world) c.self.view_is
    (c.self.invariant.stands well).reached in
    let none : first_of (waiting c.args.to (home v.plan (c.args.to - clps_of v.plan)) s.mail) ≡ None =
    subst (λ z. first_of (waiting c.args.to z s.mail) ≡ None) c.home_of-home.ensures (sym c.in-None.ensures) in
    all_held v s.mail same c.args.window c.args.to s.made valid reached c.in-Some.from c.in-Some-first.message.now
    (sym c.in-Some-first.ensures) (sym c.holds_back.ensures ∙ c.if-not-holds_back.false) none
