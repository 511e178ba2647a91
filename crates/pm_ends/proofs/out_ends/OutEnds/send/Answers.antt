use Rattle.std.proofs.Common.{◌<◌, ◌∙◌, ◌++◌, ◌∷◌, [], List, ap, arith, length, refl, subst, sym}
use Rattle.std.proofs.lemmas.Bool.{false≢true}
use Rattle.pm_links.specs.Links.{sent}
use Rattle.pm_ends.specs.declared.out_ends.OutSide.{OutSide}
use Rattle.pm_ends.specs.Ends.{sent_to}
use Rattle.pm_ends.specs.Sides.{IsPlaceOf}
use Rattle.pm_ends.proofs.Held.{on_err, on_ok, out_then, outs_rising, outs_same, sent_else, sent_none, sent_there}
use Rattle.pm_ends.proofs.out_ends.OutEnds.send.Goals as goal

pub returns-in_default-clause-ok : goal.returns-in_default-clause-ok
returns-in_default-clause-ok c =
    let v = c.self.inside.ends in
    let at : IsPlaceOf c.args.to v.items c.place-at.result =
    subst (λ (xs : List OutSide). IsPlaceOf c.args.to xs c.place-at.result) c.as_slice.ensures.value c.place-at.ensures
    in
    sym (sent_none c.args.to c.args.post v.items c.place-at.result c.self.invariant at
    (λ d lt. absurd (false≢true (c.in_default.ensures.variant.1 (omega (arith, lt, v.ok.0))))))
    ∙ ap (sent_to c.args.to c.args.post) c.self.view_is

pub returns-then-side-to-clause-ok : goal.returns-then-side-to-clause-ok
returns-then-side-to-clause-ok c =
    let v = c.self.inside.ends in
    let d = c.in-Some.side.now in
    let at : IsPlaceOf c.args.to v.items c.place-at.result =
    subst (λ (xs : List OutSide). IsPlaceOf c.args.to xs c.place-at.result) c.as_slice.ensures.value c.place-at.ensures
    in
    outs_same v.items c.place-at.result d d c.in-Some.ensures.value refl
    ∙ sym (sent_else c.args.to c.args.post v.items c.place-at.result d c.in-Some.ensures.value c.self.invariant at
    c.if-side-to.true)
    ∙ ap (sent_to c.args.to c.args.post) c.self.view_is

pub invariant_of-self-2 : goal.invariant_of-self-2
invariant_of-self-2 c = outs_rising c.self.inside.ends.items c.place-at.result c.in-Some.side.now _
    c.in-Some.ensures.value refl
    c.self.invariant

pub returns-clause-ok : goal.returns-clause-ok
returns-clause-ok c =
    let v = c.self.inside.ends in
    let d = c.in-Some.side.now in
    let at : IsPlaceOf c.args.to v.items c.place-at.result =
    subst (λ (xs : List OutSide). IsPlaceOf c.args.to xs c.place-at.result) c.as_slice.ensures.value c.place-at.ensures
    in
    let lt : c.place-at.result < length v.items = omega (arith, c.in-Some.ensures.variant.0 refl, v.ok.0) in
    on_ok c.send.result _ _ (λ e. sent_there c.args.to c.args.post v.items c.place-at.result d _
    c.in-Some.ensures.value at lt c.if-side-to.false
    (out_then d (record { to = d.to; end = c.send.new.self })
    (sent d.end ++ c.args.post ∷ []) refl c.send.ensures.link e)
    ∙ ap (sent_to c.args.to c.args.post) c.self.view_is) c.send.ensures.ok

pub returns-clause-err : goal.returns-clause-err
returns-clause-err c =
    let v = c.self.inside.ends in
    let d = c.in-Some.side.now in
    on_err c.send.result _ _ (λ e. outs_same v.items c.place-at.result d
    (record { to = d.to; end = c.send.new.self }) c.in-Some.ensures.value
    (out_then d (record { to = d.to; end = c.send.new.self }) (sent d.end) refl c.send.ensures.link e)
    ∙ c.self.view_is) c.send.ensures.err
