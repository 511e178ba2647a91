use Rattle.std.proofs.Common.{◌∙◌, ap, sym, map, arith}
use Rattle.std.proofs.lemmas.List.{length-map}
use Rattle.pm_mail.specs.Inner.{link_of, place_of}
use Rattle.pm_mail.specs.Links.{first_of, taken, waiting}
use Rattle.pm_mail.proofs.Places.{place-low, place-taken, taken-new, taken-there, waiting-new, waiting-there}
use Rattle.pm_mail.proofs.lanes.Lanes.take.Goals as goal

pub take_at-requires : goal.take_at-requires
take_at-requires c =
    let i = c.self.inside in
    let here = ap (place_of c.args.to c.args.from) c.self.view_is ∙ sym (c.in-Some.ensures) in
    let low = place-low c.args.to c.args.from c.in-Some.at (map link_of i.lanes.items) here in
    let same = length-map i.lanes.items link_of in
    omega (arith, low, same)

pub invariant_of-self : goal.invariant_of-self
invariant_of-self c = λ e.
    c.self.invariant e ∙ sym (ap (place_of e.to e.from) c.take_at.ensures.links
    ∙ place-taken e.to e.from c.in-Some.at (map link_of c.self.inside.lanes.items))

pub returns-in-Some-clause-message : goal.returns-in-Some-clause-message
returns-in-Some-clause-message c =
    let ls = map link_of c.self.inside.lanes.items in
    let here = ap (place_of c.args.to c.args.from) c.self.view_is ∙ sym (c.in-Some.ensures) in
    c.take_at.ensures.message ∙ ap first_of (sym (waiting-there c.args.to c.args.from c.in-Some.at ls here)
    ∙ ap (waiting c.args.to c.args.from) c.self.view_is)

pub returns-in-Some-clause-links : goal.returns-in-Some-clause-links
returns-in-Some-clause-links c =
    let ls = map link_of c.self.inside.lanes.items in
    let here = ap (place_of c.args.to c.args.from) c.self.view_is ∙ sym (c.in-Some.ensures) in
    c.take_at.ensures.links ∙ (sym (taken-there c.args.to c.args.from c.in-Some.at ls here)
    ∙ ap (taken c.args.to c.args.from) c.self.view_is)

pub returns-in-None-clause-message : goal.returns-in-None-clause-message
returns-in-None-clause-message c =
    sym (ap first_of (waiting-new c.args.to c.args.from c.args.self.now (sym c.in-None.ensures)))

pub returns-in-None-clause-links : goal.returns-in-None-clause-links
returns-in-None-clause-links c = sym (taken-new c.args.to c.args.from c.args.self.now (sym c.in-None.ensures))
