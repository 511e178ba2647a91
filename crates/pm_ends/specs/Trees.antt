-- Which of a process's in-ends has the first item, and the tree that keeps it.
use Rattle.std.specs.Prelude.{ℕ, zero, suc, ◌+◌, ◌-◌, ◌*◌, ◌/◌, ◌<◌, ◌≡◌, ◌⊎◌, ◌&&◌, ◌||◌, Bool, true, false, not, nat_le, nat_lt}
use Rattle.std.specs.Prelude.{if◌then◌else◌, List, length, get_or, Option, Some, None, option_map}
use Rattle.pm_base.specs.Stamps.{stamp_lt}
use Rattle.pm_base.specs.declared.stamp.Stamp.{Stamp}
use Rattle.pm_ends.specs.Ends.{Inn, first_at, post_stamp}
use Rattle.pm_ends.specs.Numbers.{nth}

-- the moment of the first item that waits at the end of that place
abbrev pub moment_at : List Inn → ℕ → Option Stamp
moment_at xs i = option_map post_stamp (first_at (nth xs i))

-- the end of that place is the soonest: its first item has the least moment of all first items, and no end before it
-- has that moment
pub record IsSoonest (xs : List Inn) (i : ℕ) : Type 0 where
  pub stamp : Stamp
  pub here : moment_at xs i ≡ Some stamp
  pub least : (j : ℕ) (t : Stamp) → moment_at xs j ≡ Some t → stamp_lt t stamp ≡ false
  pub first : (j : ℕ) (t : Stamp) → j < i → moment_at xs j ≡ Some t → stamp_lt stamp t ≡ true

-- an item of one moment and place comes no later than one of another: by moment, then by place; and every item before
-- none
abbrev pub leads : Option Stamp → ℕ → Option Stamp → ℕ → Bool
leads s a None b = true
leads None a (Some t) b = false
leads (Some s) a (Some t) b = stamp_lt s t || (not (stamp_lt t s) && nat_le a b)

-- the same of the first items at two places
abbrev pub leads_at : List Inn → ℕ → ℕ → Bool
leads_at xs a b = leads (moment_at xs a) a (moment_at xs b) b

-- of two places the one whose first item comes first
abbrev pub sooner : List Inn → ℕ → ℕ → ℕ
sooner xs a b = if leads_at xs a b then a else b

-- of an end and what the tree keeps at place i, if there is such a place, the one whose first item comes first
abbrev pub better : List Inn → List ℕ → ℕ → ℕ → ℕ
better xs best a i = if nat_lt i (length best) then sooner xs a (get_or best i 0) else a

-- of the end at place k and what the tree keeps right below, the one whose first item comes first
abbrev pub winner : List Inn → List ℕ → ℕ → ℕ
winner xs best k = better xs best (better xs best k (2 * k + 1)) (2 * k + 2)

-- the places are a tree: below place k stand 2k + 1 and 2k + 2, so this one stands above place k
abbrev pub up : ℕ → ℕ
up k = (k - 1) / 2

-- so many steps up
abbrev pub ups : ℕ → ℕ → ℕ
ups zero k = k
ups (suc d) k = ups d (up k)

-- place i is place k, or stands below it
abbrev pub StandsUnder : ℕ → ℕ → Type 0
StandsUnder k i = (d : ℕ) × (ups d i ≡ k)

-- what the tree keeps at place k comes no later than the end there, and than what it keeps right below
pub record IsMended (xs : List Inn) (best : List ℕ) (k : ℕ) : Type 0 where
  pub own : leads_at xs (get_or best k 0) k ≡ true
  pub below : (c : ℕ) → c < length best → up c ≡ k → leads_at xs (get_or best k 0) (get_or best c 0) ≡ true

-- the tree keeps at each place an end that stands there or below
pub record IsLaid (xs : List Inn) (best : List ℕ) : Type 0 where
  pub long : length best ≡ length xs
  pub under : (k : ℕ) → k < length best → StandsUnder k (get_or best k 0)

-- and one that comes no later than any of those
pub record IsTree (xs : List Inn) (best : List ℕ) : Type 0 where
  pub laid : IsLaid xs best
  pub mended : (k : ℕ) → k < length best → IsMended xs best k

-- the same but for place i and those above it
pub record IsTreeBut (xs : List Inn) (best : List ℕ) (i : ℕ) : Type 0 where
  pub laid : IsLaid xs best
  pub mended : (k : ℕ) → k < length best → IsMended xs best k ⊎ StandsUnder k i

-- the same but for those above place i
pub record IsTreeTo (xs : List Inn) (best : List ℕ) (i : ℕ) : Type 0 where
  pub laid : IsLaid xs best
  pub mended : (k : ℕ) → k < length best → IsMended xs best k ⊎ (StandsUnder k i × (k ≡ i → ⊥))
