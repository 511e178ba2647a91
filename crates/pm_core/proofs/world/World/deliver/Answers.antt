use Rattle.std.proofs.Common.{◌≡◌, ◌<◌, ◌∙◌, None, Some, ap, false, subst, sym, true}
use Rattle.pm_mail.specs.Links.{first_of, waiting}
use Rattle.pm_core.specs.Steps.{Arrived}
use Rattle.pm_core.specs.Views.{IsWorld, WorldView, delivered, has_mail, world_of}
use Rattle.pm_core.proofs.Carries.{taken_none}
use Rattle.pm_core.proofs.Delivering.{can_arrive, is_delivered, is_empty, is_there, is_world, view}
use Rattle.pm_core.proofs.world.World.deliver.Goals as goal

pub invariant_of-self : goal.invariant_of-self
invariant_of-self c =
    let s = c.self.inside in
    let none : first_of (waiting c.args.to c.args.from s.mail) ≡ None = sym c.take.ensures.message ∙ c.in_default.is in
    let same : c.take.new.self ≡ s.mail = c.take.ensures.links ∙ taken_none c.args.to c.args.from s.mail none in
    subst (λ z. IsWorld s.processes (world_of s.processes z s.line) s.made s.spoilt) (sym same) c.self.invariant

pub returns-in_default-clause-told : goal.returns-in_default-clause-told
returns-in_default-clause-told c =
    let s = c.self.inside in
    let none : first_of (waiting c.args.to c.args.from s.mail) ≡ None = sym c.take.ensures.message ∙ c.in_default.is in
    subst (λ v. false ≡ has_mail v c.args.to c.args.from) c.self.view_is
    (sym (is_empty s.processes s.mail s.line c.args.to c.args.from none))

pub returns-in_default-clause-done : goal.returns-in_default-clause-done
returns-in_default-clause-done c = λ h. absurd (let e = returns-in_default-clause-told c in
    let g : false ≡ true = e ∙ h in cc)

pub returns-in_default-clause-nothing : goal.returns-in_default-clause-nothing
returns-in_default-clause-nothing c = λ h.
    let s = c.self.inside in
    let none : first_of (waiting c.args.to c.args.from s.mail) ≡ None = sym c.take.ensures.message ∙ c.in_default.is in
    let same : c.take.new.self ≡ s.mail = c.take.ensures.links ∙ taken_none c.args.to c.args.from s.mail none in
    ap (λ z. view s.processes.plan.now (world_of s.processes z s.line) s.made s.spoilt) same ∙ c.self.view_is

pub arrive-requires : goal.arrive-requires
arrive-requires c =
    let s = c.self.inside in
    let first : first_of (waiting c.args.to c.args.from s.mail) ≡ Some c.in-Some.message =
    sym c.take.ensures.message ∙ c.in-Some.is in
    let few : s.made < 20000000 = subst (λ (v : WorldView). v.made < 20000000) (sym c.self.view_is) c.requires in
    can_arrive s.processes s.mail s.line s.made c.self.invariant.valid (c.self.invariant.stands c.if-self.false)
    c.args.to c.args.from c.in-Some.message few first

pub invariant_of-self-2 : goal.invariant_of-self-2
invariant_of-self-2 c =
    let s = c.self.inside in
    let m = c.in-Some.message in
    let first : first_of (waiting c.args.to c.args.from s.mail) ≡ Some m = sym c.take.ensures.message ∙ c.in-Some.is in
    let few : s.made < 20000000 = subst (λ (v : WorldView). v.made < 20000000) (sym c.self.view_is) c.requires in
    is_world s.processes c.arrive.new.self s.mail c.arrive.new.mail s.line s.made c.args.to c.args.from m
    c.self.invariant.valid (c.self.invariant.stands c.if-self.false) few first c.in_ok-arrive.ensures.plan
    (subst (λ z. Arrived s.processes c.arrive.new.self z c.arrive.new.mail c.args.to c.args.from m)
    c.take.ensures.links c.in_ok-arrive.ensures.did)

pub returns-clause-told : goal.returns-clause-told
returns-clause-told c =
    let s = c.self.inside in
    let first : first_of (waiting c.args.to c.args.from s.mail) ≡ Some c.in-Some.message =
    sym c.take.ensures.message ∙ c.in-Some.is in
    subst (λ v. true ≡ has_mail v c.args.to c.args.from) c.self.view_is
    (sym (is_there s.processes s.mail s.line c.args.to c.args.from c.in-Some.message first))

pub returns-clause-done : goal.returns-clause-done
returns-clause-done c = λ h.
    let s = c.self.inside in
    let m = c.in-Some.message in
    let first : first_of (waiting c.args.to c.args.from s.mail) ≡ Some m = sym c.take.ensures.message ∙ c.in-Some.is in
    let few : s.made < 20000000 = subst (λ (v : WorldView). v.made < 20000000) (sym c.self.view_is) c.requires in
    is_delivered s.processes c.arrive.new.self s.mail c.arrive.new.mail s.line s.made c.args.to c.args.from m s.spoilt
    c.self.invariant.valid (c.self.invariant.stands c.if-self.false) few first c.in_ok-arrive.ensures.plan
    (subst (λ z. Arrived s.processes c.arrive.new.self z c.arrive.new.mail c.args.to c.args.from m)
    c.take.ensures.links c.in_ok-arrive.ensures.did) c.if-self.false
    ∙ ap (λ v. delivered v c.args.to c.args.from) c.self.view_is

pub returns-clause-nothing : goal.returns-clause-nothing
returns-clause-nothing c = λ h. absurd (let e = returns-clause-told c in let g : true ≡ false = e ∙ h in cc)
