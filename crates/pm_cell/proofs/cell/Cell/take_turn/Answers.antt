use Rattle.std.proofs.Common.{◌≡◌, ◌∙◌, ap, refl, subst, sym, true, false, is_err}
use Rattle.pm_cell.specs.Cores.{core}
use Rattle.pm_cell.specs.Helds.{Held, view_of}
use Rattle.pm_cell.specs.Stands.{CellLooked}
use Rattle.pm_cell.specs.Turns.{HeardIt, StaysAt, is_ready}
use Rattle.pm_cell.specs.Views.{nobody}
use Rattle.pm_cell.proofs.Heard.{err_when, ok_when}
use Rattle.pm_cell.proofs.Rows.{looked_came}
use Rattle.pm_cell.proofs.Settles.{held_looked}
use Rattle.pm_cell.proofs.Turns.{chosen_from, heard_soonest, heard_turned, lost_came, none_idle, turned_came}
use Rattle.pm_cell.proofs.cell.Cell.take_turn.Goals as goal

pub returns-in_default-clause-looked : goal.returns-in_default-clause-looked
returns-in_default-clause-looked c = λ _. held_looked c.args.self.now c.take_next.new.self
    (record { same = c.take_next.ensures.same; grew = c.in_default.ensures.item.0 })

pub returns-in_default-clause-came : goal.returns-in_default-clause-came
returns-in_default-clause-came c =
    looked_came (core c.args.self.now.plan) nobody (view_of c.args.self.now) (view_of c.take_next.new.self)
    (returns-in_default-clause-looked c refl)

pub returns-in_default-clause-idle : goal.returns-in_default-clause-idle
returns-in_default-clause-idle c = λ _. none_idle c.take_next.new.self c.in_default.ensures.item.1

pub returns-then-is_err-clause-came : goal.returns-then-is_err-clause-came
returns-then-is_err-clause-came c =
    let a = c.args.self.now in
    let m = c.take_next.new.self in
    let d = c.hear.new.self in
    let x = c.in-Some.post in
    let from = c.in-Some.from in
    let took = chosen_from a from x m.inns c.in-Some.ensures.item in
    let is : m ≡ record a { inns = m.inns } = c.take_next.ensures.same in
    let stays = subst (λ (z : Held). StaysAt z d) is c.hear.ensures.stays in
    let bad : is_err c.hear.result ≡ true = sym c.is_err.ensures.value ∙ c.if-is_err.true in
    lost_came a from x m.inns d took stays (err_when c.hear.result _ bad c.hear.ensures.spoils)
    (err_when c.hear.result _ bad c.hear.ensures.story ∙ ap (λ (z : Held). z.story) is)

pub returns-clause-heard : goal.returns-clause-heard
returns-clause-heard c = λ _.
    let a = c.args.self.now in
    let m = c.take_next.new.self in
    let d = c.hear.new.self in
    let x = c.in-Some.post in
    let from = c.in-Some.from in
    let chosen = c.in-Some.ensures.item in
    let is : m ≡ record a { inns = m.inns } = c.take_next.ensures.same in
    let stays = subst (λ (z : Held). StaysAt z d) is c.hear.ensures.stays in
    let good : is_err c.hear.result ≡ false = sym c.is_err.ensures.value ∙ c.if-is_err.false in
    let sound : a.spoilt ≡ false = sym (ap (λ (z : Held). z.spoilt) c.self.view_is) ∙ c.if-self.false in
    heard_turned a from x m.inns d (chosen_from a from x m.inns chosen) stays sound chosen.took.ready
    (subst (λ (z : Held). HeardIt from x z d) is (ok_when c.hear.result _ good c.hear.ensures.heard))

pub returns-clause-soonest : goal.returns-clause-soonest
returns-clause-soonest c = λ _.
    let a = c.args.self.now in
    let m = c.take_next.new.self in
    let d = c.hear.new.self in
    let x = c.in-Some.post in
    let from = c.in-Some.from in
    let chosen = c.in-Some.ensures.item in
    let is : m ≡ record a { inns = m.inns } = c.take_next.ensures.same in
    let stays = subst (λ (z : Held). StaysAt z d) is c.hear.ensures.stays in
    let good : is_err c.hear.result ≡ false = sym c.is_err.ensures.value ∙ c.if-is_err.false in
    heard_soonest a from x m.inns d (chosen_from a from x m.inns chosen) stays chosen
    (subst (λ (z : Held). HeardIt from x z d) is (ok_when c.hear.result _ good c.hear.ensures.heard))

pub returns-clause-came : goal.returns-clause-came
returns-clause-came c =
    turned_came (core c.args.self.now.plan) (view_of c.args.self.now) (view_of c.hear.new.self)
    (returns-clause-heard c refl)

pub hear-requires-clause-ready : goal.hear-requires-clause-ready
hear-requires-clause-ready c = subst (λ (z : Held). is_ready (view_of z) c.in-Some.from c.in-Some.post ≡ true)
    (sym c.take_next.ensures.same) c.in-Some.ensures.item.took.ready
