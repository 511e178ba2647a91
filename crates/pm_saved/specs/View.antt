-- What contracts see of what is saved.
use Rattle.pm_saved.specs.Inner.{NumbersRise, steps_of}
use Rattle.pm_saved.specs.Steps.{Kept}
use Rattle.pm_saved.specs.declared.saved.Saved.TheInside.{Inside}

-- the registers before the kept steps, these steps, and the end of the numbers
abbrev pub kept_of : Inside → Kept
kept_of s = record { base = s.base; steps = steps_of s.steps.items; used = s.next }

-- the numbers of the kept senses rise and end before that end
abbrev pub IsSound : Inside → Type 0
IsSound s = NumbersRise 0 s.steps.items s.next
