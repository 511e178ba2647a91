use Rattle.std.specs.BTreeMap.{get}
use Rattle.std.proofs.Common.{arith, ◌≡◌, ◌∙◌, ◌==◌, ◌&&◌, ap, sym, length, cond, Some}
use Rattle.std.proofs.lemmas.List.{length-map}
use Rattle.pm_mail.specs.Inner.{ends_cmp, link_of, links_of, place_of}
use Rattle.pm_mail.specs.Links.{Link}
use Rattle.pm_mail.specs.declared.lane.Ends.{Ends}
use Rattle.pm_mail.proofs.Places.{ends-same, links_appended, or_last, place-append, place-new, same-ends}
use Rattle.pm_mail.proofs.lanes.Lanes.append.Goals as goal

pub invariant_of-self-2 : goal.invariant_of-self-2
invariant_of-self-2 c = λ e.
    let u = c.in_ok-insert.ensures.updates in
    let old = links_of c.self.inside in
    let new : Link = record { to = c.args.to; from = c.args.from; messages = c.args.waiting.items } in
    let ends : Ends = record { to = c.args.to; from = c.args.from } in
    let here = c.args.to == e.to && c.args.from == e.from in
    let size : length old ≡ c.len.result =
    (let a = length-map c.self.inside.lanes.items link_of in let b = c.self.inside.lanes.ok in let d =
    c.reserve.ensures.len in let f = c.len.ensures in omega (arith, a, b, d, f)) in
    let none : place_of c.args.to c.args.from old ≡ _ =
    ap (place_of c.args.to c.args.from) c.self.view_is ∙ c.requires in
    u.0 e ∙ (ap (λ b. cond b (Some c.len.result) (get ends_cmp c.self.inside.places e)) (same-ends ends e)
    ∙ (ap (cond here (Some c.len.result)) (c.self.invariant e)
    ∙ (place-new
    here (place_of e.to e.from old) c.len.result (λ h. ends-same c.args.to c.args.from e.to e.from old h none)
    ∙ sym (ap (place_of e.to e.from) (links_appended c.reserve.new.self.items
    c.self.inside.lanes.items c.push.new.self.items _ c.reserve.ensures.items c.in_ok-push.ensures.items)
    ∙ (place-append e.to e.from old new ∙ ap (λ n. or_last (place_of e.to e.from old) n here) size)))))
