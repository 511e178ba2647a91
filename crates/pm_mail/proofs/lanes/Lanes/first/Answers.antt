use Rattle.std.proofs.Common.{◌∙◌, ap, sym, map, arith}
use Rattle.std.proofs.lemmas.List.{length-map}
use Rattle.pm_mail.specs.Inner.{link_of, place_of}
use Rattle.pm_mail.specs.Links.{first_of, waiting}
use Rattle.pm_mail.proofs.Places.{front-first, lane-messages, place-low, waiting-new, waiting-there}
use Rattle.pm_mail.proofs.lanes.Lanes.first.Goals as goal

pub index-requires : goal.index-requires
index-requires c =
    let i = c.self.inside in
    let here = ap (place_of c.args.to c.args.from) c.self.view_is ∙ sym (c.in-Some.ensures) in
    let low = place-low c.args.to c.args.from c.in-Some.at (map link_of i.lanes.items) here in
    let same = length-map i.lanes.items link_of in
    let size = i.lanes.ok in
    omega (arith, low, same, size)

pub returns-in-Some : goal.returns-in-Some
returns-in-Some c =
    let i = c.self.inside in
    let here = ap (place_of c.args.to c.args.from) c.self.view_is ∙ sym (c.in-Some.ensures) in
    let low = place-low c.args.to c.args.from c.in-Some.at (map link_of i.lanes.items) here in
    let same = length-map i.lanes.items link_of in
    let x = c.index.result.now in
    front-first c.front.result x.waiting.items _ x.waiting.ok.0 c.front.ensures.variant c.front.ensures.lookup
    ∙ ap first_of (sym (lane-messages c.in-Some.at i.lanes.items x (omega (arith, low, same)) c.index.ensures)
    ∙ (sym (waiting-there c.args.to c.args.from c.in-Some.at (map link_of i.lanes.items) here)
    ∙ ap (waiting c.args.to c.args.from) c.self.view_is))

pub returns-in-None : goal.returns-in-None
returns-in-None c = sym (ap first_of (waiting-new c.args.to c.args.from c.args.self.now (sym c.in-None.ensures)))
