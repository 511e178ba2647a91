use Rattle.std.proofs.Common.{◌≡◌, ◌<◌, List, length, subst, ◌∙◌, arith, sym}
use lib.ListN.{get_elem?}
use Rattle.std.specs.Mem.Slots.{slots_items}
use Rattle.pm_turn.specs.Rule.{FitsMark, AllFit}
use Rattle.pm_turn.proofs.Steps.{closes}
use Rattle.pm_turn.proofs.Places.{inside_of, one_value}
use Rattle.pm_turn.proofs.turns.Turns.close.Goals as goal

pub emptied-requires-clause-full : goal.emptied-requires-clause-full
emptied-requires-clause-full g c =
    let marks = c.args.self.table.shared.key.value in
    let values = c.close_with-closed.ensures.values in
    let counts = c.close_with-closed.ensures.counts in
    let none = c.requires.all in (
      values.1,
      λ i lt.
          let inside : i < length marks = omega (arith, lt, counts.1, c.args.self.slots) in
          let v = closes g.T.Marked.fits marks _ _ _ _ values.2 none.0 none.1 i inside in
          (v.0, v.1),
    )

pub returns : goal.returns
returns g c =
    let T : Type 0 = g.row.T.Denot in
    let fits : T → T → Type 0 = g.T.Marked.fits in
    let marks : List T = c.args.self.table.shared.key.value in
    let values = c.close_with-closed.ensures.values in
    let counts = c.close_with-closed.ensures.counts in
    let none = c.requires.all in
    let xs = slots_items c.close_with-closed.result.slots in
    let long : length c.emptied.result.items ≡ length marks = c.emptied.ensures.len ∙ counts.1 ∙ c.args.self.slots in
    let fit : AllFit fits marks c.emptied.result.items = (
      long,
      λ i x e.
          let inside : i < length marks = omega (arith, inside_of c.emptied.result.items i x e, long) in
          let v = closes fits marks _ _ _ _ values.2 none.0 none.1 i inside in
          let same = one_value (get_elem? xs i) v.0 x v.1 (c.emptied.ensures.each i x e) in
          subst (λ (y : T). FitsMark fits marks i y) same v.2,
    ) in
    subst (λ (ys : List T). AllFit fits marks ys) (sym c.from_vec.ensures) fit
