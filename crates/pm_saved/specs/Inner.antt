-- How kept steps are held, so that a number is found by two searches.
use Rattle.std.specs.Prelude.{ℕ, ◌+◌, ◌<◌, ◌≤◌, ◌==◌, ◌&&◌, nat_lt, nat_le, Bool, true, false, is_some}
use Rattle.std.specs.Prelude.{if◌then◌else◌, List, [], ◌∷◌, map, Option, Some, None}
use Rattle.std.specs.List.{AllByRecursion}
use Rattle.std.specs.Option.{option_map}
use Rattle.pm_base.specs.Changes.{value_eq}
use Rattle.pm_base.specs.Stamps.{is_below}
use Rattle.pm_base.specs.declared.stamp.Line.{Line}
use Rattle.pm_base.specs.declared.value.Value.{Value}
use Rattle.pm_saved.specs.Searches.{passing}
use Rattle.pm_saved.specs.Spots.{InStep, sense_at}
use Rattle.pm_saved.specs.declared.held.Held.{Held}
use Rattle.pm_saved.specs.declared.kept.KeptHit.{KeptHit}
use Rattle.pm_saved.specs.declared.kept.KeptSense.{KeptSense}
use Rattle.pm_saved.specs.declared.kept.KeptStep.{KeptStep}
use Rattle.pm_saved.specs.declared.spot.Spot.{Spot as Place}

-- each hit is of a lesser variable than those after it
abbrev pub HitsRise : List KeptHit → Type 0
HitsRise [] = Unit {0}
HitsRise (k ∷ ks) = AllByRecursion (λ j. k.var < j.var) ks × HitsRise ks

-- how many hits are of lesser variables
abbrev pub place_of : ℕ → List KeptHit → ℕ
place_of var ks = passing (λ k. nat_lt k.var var) ks

-- the hit, where it is of this variable
abbrev pub only : ℕ → Option KeptHit → Option KeptHit
only var None = None
only var (Some k) = if k.var == var then Some k else None

-- what is kept for a variable
abbrev pub kept_for : ℕ → List KeptHit → Option KeptHit
kept_for var [] = None
kept_for var (k ∷ ks) = if k.var == var then Some k else kept_for var ks

-- two hits tell the same
abbrev pub same_hit : Option Value → Option Value → Bool
same_hit None None = true
same_hit None (Some w) = false
same_hit (Some v) None = false
same_hit (Some v) (Some w) = value_eq v w

-- these senses asked under numbers from n on that rise and end before m, and the hits of each rise
abbrev pub SensesRise : ℕ → List KeptSense → ℕ → Type 0
SensesRise n [] m = n ≤ m
SensesRise n (x ∷ xs) m = (n ≤ x.num.seq) × HitsRise x.hits × SensesRise (x.num.seq + 1) xs m

-- the place in full of a sense that was found in its step
abbrev pub place_in : List KeptSense → Option ℕ → Option InStep
place_in senses None = None
place_in senses (Some j) = sense_at j senses

-- how many senses asked under lesser numbers
abbrev pub sense_place : ℕ → List KeptSense → ℕ
sense_place seq senses = passing (λ s. nat_lt s.num.seq seq) senses

-- the step as contracts see it
abbrev pub step_of : Held → KeptStep
step_of h = record { stamp = h.stamp; senses = h.senses.items; act = h.act }

-- these steps as contracts see them
abbrev pub steps_of : List Held → List KeptStep
steps_of hs = map step_of hs

-- the senses of the step asked under numbers from n on and before its end, that rise
abbrev pub Fits : ℕ → Held → Type 0
Fits n h = SensesRise n h.senses.items h.next

-- the numbers of these steps rise from n on: each step's begin where those of the one before it end, and all end by m
abbrev pub NumbersRise : ℕ → List Held → ℕ → Type 0
NumbersRise n [] m = n ≤ m
NumbersRise n (h ∷ hs) m = Fits n h × NumbersRise h.next hs m

-- how many steps' senses all asked under lesser numbers, by the steps' ends
abbrev pub step_place : ℕ → List Held → ℕ
step_place seq hs = passing (λ h. nat_le h.next seq) hs

-- the place in this step of what was found in it
abbrev pub in_step : ℕ → Option ℕ → Option Place
in_step i r = option_map (λ j. record { step = i; sense = j }) r

-- the step is below the line and has ended
abbrev pub is_ready : Line → Held → Bool
is_ready l h = is_below h.stamp l && is_some h.act
