use Rattle.std.proofs.Common.{◌∙◌, ◌∷◌, ◌++◌, [], List, ap, sym, map, arith}
use Rattle.std.proofs.lemmas.List.{length-map}
use Rattle.pm_mail.specs.Inner.{link_of, place_of}
use Rattle.pm_mail.specs.Links.{posted}
use Rattle.pm_message.specs.declared.Message.{Message}
use Rattle.pm_mail.proofs.Places.{place-low, place-posted, on_ok, posted-new, posted-there}
use Rattle.pm_mail.proofs.lanes.Lanes.post.Goals as goal

pub push_at-requires : goal.push_at-requires
push_at-requires c =
    let i = c.self.inside in
    let here = ap (place_of c.args.to c.args.from) c.self.view_is ∙ sym (c.in-Some.ensures) in
    let low = place-low c.args.to c.args.from c.in-Some.at (map link_of i.lanes.items) here in
    let same = length-map i.lanes.items link_of in
    omega (arith, low, same)

pub invariant_of-self-in-Some : goal.invariant_of-self-in-Some
invariant_of-self-in-Some c = λ e.
    c.self.invariant e ∙ sym (ap (place_of e.to e.from) c.in_ok-push_at-in-Some.ensures.ok
    ∙ place-posted e.to e.from c.in-Some.at c.args.message (map link_of c.self.inside.lanes.items))

pub returns-in_ok-push_at-in-Some-clause-ok : goal.returns-in_ok-push_at-in-Some-clause-ok
returns-in_ok-push_at-in-Some-clause-ok c =
    let ls = map link_of c.self.inside.lanes.items in
    let here = ap (place_of c.args.to c.args.from) c.self.view_is ∙ sym (c.in-Some.ensures) in
    c.in_ok-push_at-in-Some.ensures.ok ∙ (sym (posted-there c.args.to c.args.from c.args.message c.in-Some.at ls here)
    ∙ ap (posted c.args.to c.args.from c.args.message) c.self.view_is)

pub returns-in_ok-push_back-in-None-clause-ok : goal.returns-in_ok-push_back-in-None-clause-ok
returns-in_ok-push_back-in-None-clause-ok c =
    let items =
    c.in_ok-push_back-in-None.ensures.items ∙ ap (λ ms. ms ++ c.args.message ∷ []) c.new-waiting.ensures.items in
    on_ok c.append.result _ _ (λ h. h
    ∙ (ap (λ (ms : List Message). c.args.self.now
    ++ (record { to = c.args.to; from = c.args.from; messages = ms }) ∷ []) items
    ∙ sym (posted-new c.args.to c.args.from c.args.message c.args.self.now (sym c.in-None.ensures))))
    c.append.ensures.ok
