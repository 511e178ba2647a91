-- The one journal of several histories.
use Rattle.std.specs.Prelude.{ℕ, ◌<◌, ◌==◌, ◌&&◌, ◌||◌, nat_lt, Bool, if◌then◌else◌, List, [], ◌∷◌, ◌++◌, map}
use Rattle.std.specs.List.{AllByRecursion}
use Rattle.pm_base.specs.declared.run.Event.{Event}
use Rattle.pm_base.specs.declared.run.Event.TheVariants.{Deliver}
use Rattle.pm_history.specs.declared.histories.Heard.{Heard}
use Rattle.pm_history.specs.Stories.{Story}

-- each clock is above all clocks before it
abbrev pub IsRising : List Heard → Type 0
IsRising [] = Unit {0}
IsRising (h ∷ hs) = AllByRecursion (λ x. h.clock < x.clock) hs × IsRising hs

-- a receipt with its process: clock, process, whose message it was
abbrev pub Tagged : Type 0
Tagged = ℕ × ℕ × ℕ

-- a receipt of that process
abbrev pub tag : ℕ → Heard → Tagged
tag p h = (h.clock, p, h.from)

-- all receipts of these histories, one history after the other
abbrev pub tags : List Story → List Tagged
tags [] = []
tags (s ∷ ss) = map (tag s.process) s.heard ++ tags ss

-- by clock, then by process, then by whose message it was
abbrev pub is_before : Tagged → Tagged → Bool
is_before d e = nat_lt d.0 e.0 || (d.0 == e.0 && (nat_lt d.1 e.1 || (d.1 == e.1 && nat_lt d.2 e.2)))

-- put at its place into a list in order
abbrev pub placed : Tagged → List Tagged → List Tagged
placed e [] = e ∷ []
placed e (x ∷ xs) = if is_before x e then x ∷ placed e xs else e ∷ (x ∷ xs)

-- the same receipts in order
abbrev pub in_order : List Tagged → List Tagged
in_order [] = []
in_order (e ∷ es) = placed e (in_order es)

-- the delivery that a receipt tells of
abbrev pub deliver : Tagged → Event
deliver e = Deliver e.1 e.2

-- one delivery for each receipt, in order
abbrev pub merged : List Story → List Event
merged ss = map deliver (in_order (tags ss))
