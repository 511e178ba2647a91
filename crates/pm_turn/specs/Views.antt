-- What a seat knows, and how each kind of step changes it.
use Rattle.std.specs.Prelude.{ℕ, ◌+◌, ◌-◌, List, [], ◌∷◌, Option}
use Rattle.atomic_table.specs.Table.{Me, rest}
use Rattle.pm_turn.specs.declared.view.View.{View}

-- the list without its first item
abbrev pub tail : List ℕ → List ℕ
tail [] = []
tail (x ∷ xs) = xs

module _ {T : Type 0} where
  -- a new seat with these marks and so many shares
  abbrev pub opened_with : List T → ℕ → View T
  opened_with marks n =
      record { marker = record {}; holds = []; tries = 0; last = 0; shares = n; marks = marks }

  -- the first seat, which has all shares
  abbrev pub opened : List T → View T
  opened marks = opened_with marks 4294967296

  -- a seat that gave a share away
  abbrev pub halved : View T → View T
  halved v = record v { shares = v.shares - 1 }

  -- a seat that took in another one's shares
  abbrev pub joined : View T → View T → View T
  joined v w = record v { shares = v.shares + w.shares }

  -- a seat that was taken in
  abbrev pub spent : View T
  spent = opened_with [] 0

  -- a seat that gave the turn back that it took last
  abbrev pub given : Me (Option T) (View T) → Me (Option T) (View T)
  given m = (record m.0 { holds = tail m.0.holds }, rest m.1)
