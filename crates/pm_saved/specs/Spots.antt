-- Where a number stands among the kept steps.
use Rattle.std.specs.Prelude.{◌≡◌, ℕ, zero, suc, if◌then◌else◌, List, [], ◌∷◌, Option, Some, None}
use Rattle.pm_base.specs.Stamps.{num_eq}
use Rattle.pm_base.specs.declared.stamp.Num.{Num}
use Rattle.pm_saved.specs.declared.kept.KeptSense.{KeptSense}
use Rattle.pm_saved.specs.declared.kept.KeptStep.{KeptStep}
use Rattle.pm_saved.specs.declared.spot.Spot.{Spot as Place}

-- a sense's place among all kept steps: the steps before its step, that step, its senses before it, it, those after it,
-- and the steps after its step
pub record Spot : Type 0 where
  pub front : List KeptStep
  pub here : KeptStep
  pub before : List KeptSense
  pub sense : KeptSense
  pub later : List KeptSense
  pub rest : List KeptStep

-- a sense's place in its step: the senses before it, it, and those after it
pub record InStep : Type 0 where
  pub before : List KeptSense
  pub sense : KeptSense
  pub later : List KeptSense

-- the same place, with one more sense before it
abbrev pub in_front : KeptSense → Option InStep → Option InStep
in_front x None = None
in_front x (Some i) = Some (record i { before = x ∷ i.before })

-- the place of the first sense of this number; None where there is none
abbrev pub find_sense : Num → List KeptSense → Option InStep
find_sense n [] = None
find_sense n (x ∷ xs) =
    if num_eq n x.num then Some (record { before = []; sense = x; later = xs }) else in_front x (find_sense n xs)

-- the same place, with one more step before it
abbrev pub step_in_front : KeptStep → Option Spot → Option Spot
step_in_front x None = None
step_in_front x (Some i) = Some (record i { front = x ∷ i.front })

-- the place in the first step, where there is one, else the place among the steps after it
abbrev pub spot_in : KeptStep → List KeptStep → Option InStep → Option Spot → Option Spot
spot_in x xs (Some i) other =
    Some (record { front = []; here = x; before = i.before; sense = i.sense; later = i.later; rest = xs })
spot_in x xs None other = step_in_front x other

-- the place of the first sense of this number among all kept steps; None where there is none
abbrev pub find : Num → List KeptStep → Option Spot
find n [] = None
find n (x ∷ xs) = spot_in x xs (find_sense n x.senses) (find n xs)

-- the sense at this place in its step, counted from 0; None past the end
abbrev pub sense_at : ℕ → List KeptSense → Option InStep
sense_at j [] = None
sense_at zero (x ∷ xs) = Some (record { before = []; sense = x; later = xs })
sense_at (suc j) (x ∷ xs) = in_front x (sense_at j xs)

-- the sense at this place in this step, both counted from 0; None past the end
abbrev pub step_at : ℕ → ℕ → List KeptStep → Option Spot
step_at i j [] = None
step_at zero j (x ∷ xs) = spot_in x xs (sense_at j x.senses) None
step_at (suc i) j (x ∷ xs) = step_in_front x (step_at i j xs)

-- the place in full, where there is such a sense
abbrev pub spot_at : Place → List KeptStep → Option Spot
spot_at at steps = step_at at.step at.sense steps

-- the place in full of what was found
abbrev pub spot_of : Option Place → List KeptStep → Option Spot
spot_of None steps = None
spot_of (Some at) steps = spot_at at steps

-- this is so at the place, where there is such a sense
abbrev pub AtSpot : List KeptStep → Place → (Spot → Type 0) → Type 0
AtSpot steps at P = (s : Spot) → spot_at at steps ≡ Some s → P s
