-- A variable that is asked for from two ports and from here.
use Rattle.std.specs.Prelude.{ℕ, ◌≡◌, true, false, List, [], ◌∷◌}
use Rattle.pm_routes.specs.declared.way.Way.TheVariants as way
use Rattle.pm_routes.specs.Routings.{Routing, first_routing, counted, is_drawn}

-- two counts move a variable; the ports are 0 and 3, and 9 is none
abbrev pub sample : Routing
sample = first_routing (way.Here ∷ []) (0 ∷ 3 ∷ []) 2

-- after these counts of variable 0
abbrev pub after : List ℕ → Routing
after [] = sample
after (from ∷ more) = counted (after more) 0 from

-- the latest count first
pub record SampleCounts : Type 0 where
  pub once : is_drawn (after (3 ∷ [])) 0 3 ≡ false
  pub twice : is_drawn (after (3 ∷ 3 ∷ [])) 0 3 ≡ true
  pub behind : is_drawn (after (3 ∷ 9 ∷ 9 ∷ [])) 0 3 ≡ false
  pub level : is_drawn (after (3 ∷ 3 ∷ 9 ∷ 9 ∷ [])) 0 3 ≡ false
  pub ahead : is_drawn (after (3 ∷ 3 ∷ 3 ∷ 9 ∷ 9 ∷ [])) 0 3 ≡ true
  pub no_port : is_drawn (after (9 ∷ 9 ∷ [])) 0 9 ≡ false
