-- What the laws of kept steps say.
use Rattle.std.specs.Prelude.{◌≡◌, true, List, [], ◌∷◌, ◌++◌, Some}
use Rattle.pm_base.specs.Stamps.{is_below}
use Rattle.pm_base.specs.declared.rows.Entry.{Entry}
use Rattle.pm_base.specs.declared.stamp.Line.{Line}
use Rattle.pm_base.specs.declared.stamp.Num.{Num}
use Rattle.pm_saved.specs.Spots.{Spot}
use Rattle.pm_saved.specs.declared.kept.KeptAct.{KeptAct}
use Rattle.pm_saved.specs.declared.kept.KeptStep.{KeptStep}

-- the place is that of the number: its parts are the kept steps, and its sense has the number
pub record StandsAt (n : Num) (steps : List KeptStep) (s : Spot) : Type 0 where
  pub steps_are : steps ≡ s.front ++ s.here ∷ s.rest
  pub senses_are : s.here.senses ≡ s.before ++ s.sense ∷ s.later
  pub num_is : s.sense.num ≡ n

-- a line handed out the entry of this step: the step is below it and has acted
pub record IsHandedOut (l : Line) (s : KeptStep) (e : Entry) : Type 0 where
  pub below : is_below s.stamp l ≡ true
  pub act : KeptAct
  pub acted : s.act ≡ Some act
  pub entry_is : act.entry ≡ e

-- the entries are those of the steps, each handed out
abbrev pub AreHandedOut : Line → List KeptStep → List Entry → Type 0
AreHandedOut l [] [] = Unit {0}
AreHandedOut l [] (e ∷ es) = ⊥
AreHandedOut l (s ∷ ss) [] = ⊥
AreHandedOut l (s ∷ ss) (e ∷ es) = IsHandedOut l s e × AreHandedOut l ss es
