use Rattle.std.proofs.Common.{◌≡◌, ℕ, ◌<◌, false, get_or, Some}
use Rattle.std.specs.Vec.{vec_capacity, vec_len}
use mathlib.Core.Option.{some}
use lib.ListN.{get_elem?}
use Rattle.std.specs.Mem.Slots.{slots_items, slots_filled, slots_len}
use Rattle.std.specs.Mem.Slots.Ownership.{Filled}
use Rattle.pm_turn.proofs.slots.emptied.Given as goal

abbrev pub invariant-loop-i : goal.invariant-loop-i
invariant-loop-i g l =
    Filled (slots_filled l.closed.slots) l.i (slots_len l.closed.slots)
    × ((k : ℕ) → k < l.i → get_or (slots_filled l.closed.slots) k false ≡ false)
    × (slots_items l.closed.slots ≡ slots_items l.fn.closed.slots)
    × (slots_len l.closed.slots ≡ slots_len l.fn.closed.slots)
    × (vec_len l.room ≡ l.i) × (vec_capacity l.room ≡ vec_capacity l.fn.room)
    × ((k : ℕ) (x : _) → get_elem? l.room.items k ≡ some x
    → get_elem? (slots_items l.fn.closed.slots) k ≡ some (Some x))
