use Rattle.std.proofs.Common.{◌≡◌, [], ◌∷◌, ◌++◌, map, ap, ◌∙◌, arith}
use mathlib.Core.Option.{some}
use lib.ListN.{get_elem?}
use Rattle.pm_turn.proofs.room.Room.new.Goals as goal

pub new-requires : goal.new-requires
new-requires g c =
    let list = c.in_ok-with_capacity.field-0 in
    let e : c.push_reserved.new.self.items ≡ list ∷ [] = c.push_reserved.ensures.items
    ∙ ap (λ l. l ++ list ∷ []) c.in_ok-slots.ensures.items in (
      list,
      ap (λ l. get_elem? (map some l) 0) e,
      c.in_ok-with_capacity.ensures.len,
      omega (arith, c.in_ok-with_capacity.ensures.exact),
    )
