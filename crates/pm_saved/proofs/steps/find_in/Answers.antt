use Rattle.std.proofs.Common.{refl, ◌≡◌, arith, true, ap, ◌∙◌, subst, sym, slice_get, is_some, length, ◌<◌, List}
use Rattle.std.proofs.Common.{Option, Some}
use Rattle.std.proofs.lemmas.Option.{slice_get_read}
use Rattle.pm_saved.specs.Inner.{Fits, SensesRise}
use Rattle.pm_saved.specs.Spots.{Spot}
use Rattle.pm_saved.specs.declared.kept.KeptSense.{KeptSense}
use Rattle.pm_saved.proofs.Numbers.{IsFound, absent_at, found_at, steps-fit}
use Rattle.pm_saved.proofs.steps.find_in.Goals as goal

pub returns-in-Some-clause-place : goal.returns-in-Some-clause-place
returns-in-Some-clause-place c =
    let q = c.args.steps.now in
    let there : slice_get q.items c.step_place-step.result ≡ Some c.in-Some.held.now =
    slice_get_read q.items q.len c.step_place-step.result c.in-Some.held.now q.ok.0
    (c.in-Some.ensures.variant.0 refl) c.in-Some.ensures.lookup in
    let found : IsFound c.args.num c.in-Some.held.now.senses.items c.place_in.result =
    subst (λ (z : List KeptSense). IsFound c.args.num z c.place_in.result) c.as_slice.ensures.value
    (record { place = c.place_in.ensures.place; variant = c.place_in.ensures.variant }) in
    (found_at c.args.num q.items c.requires.0 c.requires.1 c.step_place-step.result c.step_place-step.ensures.place
    c.in-Some.held.now there c.place_in.result found _ c.at_step.ensures).place

pub returns-in-Some-clause-variant : goal.returns-in-Some-clause-variant
returns-in-Some-clause-variant c =
    let q = c.args.steps.now in
    let there : slice_get q.items c.step_place-step.result ≡ Some c.in-Some.held.now =
    slice_get_read q.items q.len c.step_place-step.result c.in-Some.held.now q.ok.0
    (c.in-Some.ensures.variant.0 refl) c.in-Some.ensures.lookup in
    let found : IsFound c.args.num c.in-Some.held.now.senses.items c.place_in.result =
    subst (λ (z : List KeptSense). IsFound c.args.num z c.place_in.result) c.as_slice.ensures.value
    (record { place = c.place_in.ensures.place; variant = c.place_in.ensures.variant }) in
    (found_at c.args.num q.items c.requires.0 c.requires.1 c.step_place-step.result c.step_place-step.ensures.place
    c.in-Some.held.now there c.place_in.result found _ c.at_step.ensures).variant

pub place_in-requires : goal.place_in-requires
place_in-requires c =
    let q = c.args.steps.now in
    let x = c.in-Some.held.now in
    let lt : c.step_place-step.result < length q.items = omega (arith, c.in-Some.ensures.variant.0 refl, q.ok.0) in
    let k = steps-fit 0 q.items c.requires.0 c.step_place-step.result x c.requires.1 lt in (
      k.0,
      x.next,
      subst (λ (z : List KeptSense). SensesRise k.0 z x.next) (sym c.as_slice.ensures.value)
          (subst (Fits k.0) (sym c.in-Some.ensures.lookup) k.1),
    )

pub returns-in-None-clause-place : goal.returns-in-None-clause-place
returns-in-None-clause-place c =
    let q = c.args.steps.now in
    absent_at c.args.num q.items c.requires.0 c.requires.1 c.step_place-step.result c.step_place-step.ensures.place
    q.len q.ok.0 c.in-None.ensures.variant.1

pub returns-in-None-clause-variant : goal.returns-in-None-clause-variant
returns-in-None-clause-variant c =
    let q = c.args.steps.now in
    ap (λ (o : Option Spot). is_some o)
    (absent_at c.args.num q.items c.requires.0 c.requires.1 c.step_place-step.result
    c.step_place-step.ensures.place q.len q.ok.0 c.in-None.ensures.variant.1)
