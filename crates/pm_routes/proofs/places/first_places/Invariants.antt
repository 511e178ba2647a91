use Rattle.std.proofs.Common.{◌≡◌, ℕ, ◌+◌, drop, length}
use Rattle.std.specs.Option.{unwrap_or}
use Rattle.std.specs.Ordering.{nat_cmp}
use Rattle.std.specs.BTreeMap.{get}
use Rattle.pm_routes.specs.Routings.{place_of}
use Rattle.pm_routes.proofs.places.first_places.Given as goal

abbrev pub invariant-loop-place : goal.invariant-loop-place
invariant-loop-place l = (port : ℕ) → unwrap_or (get nat_cmp l.first port) (length l.ports) ≡ l.place + place_of (drop l.place l.ports) port
