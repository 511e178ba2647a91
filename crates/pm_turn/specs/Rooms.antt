-- What is known of a list that was put away.
use Rattle.std.specs.Prelude.{◌≡◌, ℕ, ◌≤◌, List}
use Rattle.std.specs.Vec.{vec_len, vec_capacity}
use Rattle.std.specs.declared.vec.Vec.{Vec}
use Rattle.std.specs.declared.alloc.Global.{Global}
use mathlib.Core.Option.{Option, some}
use lib.ListN.{get_elem?}

-- slot 0 has an empty list with room for so many items
abbrev pub IsRoom : {T : Type 0} → ℕ → List (Option (Vec T Global)) → Type 0
IsRoom {T = T} count homes =
    (v : Vec T Global) × (get_elem? homes 0 ≡ some (some v)) × (vec_len v ≡ 0) × (count ≤ vec_capacity v)
