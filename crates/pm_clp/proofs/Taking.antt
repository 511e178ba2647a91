-- Whether a process is a tree neighbour.
use Rattle.std.proofs.Common.{◌≡◌, ℕ, ◌<◌, Bool, List, [], ◌∷◌, length, nat_lt, refl, arith, subst, sym, ◌∙◌, ap}
use Rattle.std.proofs.lemmas.Bool.Decides.{nat_tests}
use Rattle.pm_queries.specs.Queries.{has}
use Rattle.pm_routes.specs.Routings.{place_of}

-- the place of a port is below the number of ports exactly where the port is there
pub place_low : (ps : List ℕ) (d : ℕ) → nat_lt (place_of ps d) (length ps) ≡ has d ps
place_low [] d = grind (arith, nat_tests)
place_low (p ∷ ps) d = grind (arith, nat_tests, place_low ps d)

pub port_told : (ps qs : List ℕ) (d place n : ℕ) → place ≡ place_of qs d → qs ≡ ps → n ≡ length ps → nat_lt place n ≡ has d ps
port_told ps qs d place n e q l = rw (e, q, l) (place_low ps d)
