use Rattle.std.proofs.Common.{◌≡◌, ◌∙◌, ap, sym, subst, ℕ, true, false, is_some, slice_get, Option, Some, None}
use Rattle.std.specs.Option.{option_map}
use Rattle.pm_base.specs.Stamps.{num_eq}
use Rattle.pm_saved.specs.Inner.{sense_place}
use Rattle.pm_saved.specs.Spots.{find_sense, sense_at}
use Rattle.pm_saved.specs.declared.kept.KeptSense.{KeptSense}
use Rattle.pm_saved.proofs.Numbers.{sense-found, sense-missing}
use Rattle.pm_saved.proofs.held.place_in.Goals as goal

pub returns-then-is_same-clause-place : goal.returns-then-is_same-clause-place
returns-then-is_same-clause-place c =
    let f = sense-found c.args.num c.requires.0 c.args.senses.now c.requires.1 c.requires.2 c.sense_place-at.result
    c.sense_place-at.ensures.place _ (sym c.num_at.ensures ∙ c.in-Some.is) _ (sym c.is_same.ensures
    ∙ c.if-is_same.true) in f.place

pub returns-then-is_same-clause-variant : goal.returns-then-is_same-clause-variant
returns-then-is_same-clause-variant c =
    let f = sense-found c.args.num c.requires.0 c.args.senses.now c.requires.1 c.requires.2 c.sense_place-at.result
    c.sense_place-at.ensures.place _ (sym c.num_at.ensures ∙ c.in-Some.is) _ (sym c.is_same.ensures
    ∙ c.if-is_same.true) in f.variant

pub returns-else-is_same-clause-place : goal.returns-else-is_same-clause-place
returns-else-is_same-clause-place c =
    let f = sense-found c.args.num c.requires.0 c.args.senses.now c.requires.1 c.requires.2 c.sense_place-at.result
    c.sense_place-at.ensures.place _ (sym c.num_at.ensures ∙ c.in-Some.is) _ (sym c.is_same.ensures
    ∙ c.if-is_same.false) in f.place

pub returns-else-is_same-clause-variant : goal.returns-else-is_same-clause-variant
returns-else-is_same-clause-variant c =
    let f = sense-found c.args.num c.requires.0 c.args.senses.now c.requires.1 c.requires.2 c.sense_place-at.result
    c.sense_place-at.ensures.place _ (sym c.num_at.ensures ∙ c.in-Some.is) _ (sym c.is_same.ensures
    ∙ c.if-is_same.false) in f.variant

pub returns-in-None-clause-place : goal.returns-in-None-clause-place
returns-in-None-clause-place c =
    (sense-missing c.args.num c.requires.0 c.args.senses.now c.requires.1 c.requires.2 c.sense_place-at.result
    c.sense_place-at.ensures.place (sym c.num_at.ensures ∙ c.in-None.is)).place

pub returns-in-None-clause-variant : goal.returns-in-None-clause-variant
returns-in-None-clause-variant c =
    (sense-missing c.args.num c.requires.0 c.args.senses.now c.requires.1 c.requires.2 c.sense_place-at.result
    c.sense_place-at.ensures.place (sym c.num_at.ensures ∙ c.in-None.is)).variant
