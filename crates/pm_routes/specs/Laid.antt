-- How the counts are laid out.
use Rattle.std.specs.Prelude.{ℕ, suc, ◌<◌, ◌^◌, ◌≡◌, List, [], length, get_or, Option}
use Rattle.std.specs.Option.{unwrap_or}
use Rattle.pm_routes.specs.Routings.{place_of, total}

-- each count is a number of 64 bits, as is how many there are, and their sum is kept
pub record IsSummed (counts : List ℕ) (together : ℕ) : Type 0 where
  pub few : length counts < 2 ^ 64
  pub small : (k : ℕ) → get_or counts k 0 < 2 ^ 64
  pub sum : together ≡ total counts

-- each variable has its counts, one for each port and the local one
pub record IsLaid {W : Type 0} (ways : List W) (ports : List ℕ) (counts : List (List ℕ)) : Type 0 where
  pub each : length counts ≡ length ways
  pub rows : (var : ℕ) → var < length ways → length (get_or counts var []) ≡ suc (length ports)

-- a look-up that knows the place of each port
abbrev pub KnowsPlaces : (ℕ → Option ℕ) → List ℕ → Type 0
KnowsPlaces look ports = (port : ℕ) → unwrap_or (look port) (length ports) ≡ place_of ports port
