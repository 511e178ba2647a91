-- The kept steps of an agent: its registers along them, what is withdrawn of them, and what a line hands out.
use Rattle.std.specs.Prelude.{◌≡◌, ℕ, ◌+◌, Bool, true, false, if◌then◌else◌}
use Rattle.std.specs.Prelude.{List, [], ◌∷◌, ◌++◌, drop, Option, Some, None, ℤ}
use Rattle.pm_base.specs.Stamps.{is_below}
use Rattle.pm_base.specs.declared.rows.Entry.{Entry}
use Rattle.pm_base.specs.declared.stamp.Line.{Line}
use Rattle.pm_base.specs.declared.stamp.Num.{Num}
use Rattle.pm_base.specs.declared.stamp.Stamp.{Stamp}
use Rattle.pm_base.specs.declared.value.Write.{Write}
use Rattle.pm_message.specs.declared.Message.{Message}
use Rattle.pm_message.specs.declared.Message.TheVariants as message
use Rattle.pm_saved.specs.Spots.{Spot}
use Rattle.pm_saved.specs.declared.kept.KeptAct.{KeptAct}
use Rattle.pm_saved.specs.declared.kept.KeptSense.{KeptSense}
use Rattle.pm_saved.specs.declared.kept.KeptStep.{KeptStep}

-- the registers after a step that ended so, or before it, where it hasn't ended
abbrev pub regs_of : List ℤ → Option KeptAct → List ℤ
regs_of regs None = regs
regs_of regs (Some a) = a.regs

-- the registers after the last of these steps that has ended
abbrev pub regs_after : List ℤ → List KeptStep → List ℤ
regs_after regs [] = regs
regs_after regs (s ∷ ss) = regs_after (regs_of regs s.act) ss

-- the anti-messages of a step's writes: one for each, with its number, the step's stamp and the write's variable
abbrev pub cuts_of : Stamp → List Num → List Write → List Message
cuts_of s [] ws = []
cuts_of s (n ∷ ns) [] = []
cuts_of s (n ∷ ns) (w ∷ ws) = message.Cut n s w.var ∷ cuts_of s ns ws

-- the same, none where the step hasn't ended
abbrev pub act_cuts : Stamp → Option KeptAct → List Message
act_cuts s None = []
act_cuts s (Some a) = cuts_of s a.nums a.entry.writes

-- the anti-messages of all writes of these steps, in order of step and variable
abbrev pub withdrawn : List KeptStep → List Message
withdrawn [] = []
withdrawn (s ∷ ss) = act_cuts s.stamp s.act ++ withdrawn ss

-- a step's entry before those of later steps, where the step is past the line and has ended; else nothing is handed out
abbrev pub hand_one : Bool → KeptStep → Option KeptAct → List Entry → List Entry
hand_one past s None rest = []
hand_one false s (Some a) rest = []
hand_one true s (Some a) rest = a.entry ∷ rest

-- the entries that a line hands out: those of the steps below it, from the first on, up to one that hasn't ended
abbrev pub hand_out : Line → List KeptStep → List Entry
hand_out l [] = []
hand_out l (s ∷ ss) = hand_one (is_below s.stamp l) s s.act (hand_out l ss)

-- the step and those after it stay, unless its entry is handed out
abbrev pub keep_one : Bool → KeptStep → Option KeptAct → List KeptStep → List KeptStep → List KeptStep
keep_one past s None ss rest = s ∷ ss
keep_one false s (Some a) ss rest = s ∷ ss
keep_one true s (Some a) ss rest = rest

-- the steps that are left after a line handed out what it does
abbrev pub left_of : Line → List KeptStep → List KeptStep
left_of l [] = []
left_of l (s ∷ ss) = keep_one (is_below s.stamp l) s s.act ss (left_of l ss)

-- the registers stay, unless the step's entry is handed out
abbrev pub base_one : Bool → List ℤ → Option KeptAct → List ℤ → List ℤ
base_one past regs None rest = regs
base_one false regs (Some a) rest = regs
base_one true regs (Some a) rest = rest

-- the registers before the steps that are left
abbrev pub base_of : Line → List ℤ → List KeptStep → List ℤ
base_of l regs [] = regs
base_of l regs (s ∷ ss) = base_one (is_below s.stamp l) regs s.act (base_of l (regs_of regs s.act) ss)

-- what is kept: the registers before the kept steps, these steps in order, and an end of the numbers under which senses
-- asked so far, of dropped steps too
pub record Kept : Type 0 where
  pub base : List ℤ
  pub steps : List KeptStep
  pub used : ℕ

-- nothing is kept yet
abbrev pub nothing_kept : List ℤ → Kept
nothing_kept regs = record { base = regs; steps = []; used = 0 }

-- a step that has sensed nothing yet
abbrev pub opened : Stamp → KeptStep
opened s = record { stamp = s; senses = []; act = None }

-- what is kept with one more step
abbrev pub with_step : KeptStep → Kept → Kept
with_step s k = record k { steps = k.steps ++ s ∷ [] }

-- this is so of the last step and those before it, where there is a step
abbrev pub AtLast : List KeptStep → (List KeptStep → KeptStep → Type 0) → Type 0
AtLast steps P = (front : List KeptStep) (last : KeptStep) → steps ≡ front ++ last ∷ [] → P front last

-- what is kept with one more sense of the last step
abbrev pub with_asked : List KeptStep → KeptStep → KeptSense → Kept → Kept
with_asked front last x k = record k {
  steps = front ++ record last { senses = last.senses ++ x ∷ [] } ∷ [];
  used = x.num.seq + 1;
}

-- what is kept after the last step ended so
abbrev pub with_act : List KeptStep → KeptStep → KeptAct → Kept → Kept
with_act front last a k = record k { steps = front ++ record last { act = Some a } ∷ [] }

-- what is kept with this sense in the place of the one there
abbrev pub with_sense : Spot → KeptSense → Kept → Kept
with_sense s x k = record k { steps = s.front ++ record s.here { senses = s.before ++ x ∷ s.later } ∷ s.rest }

-- what is kept up to the sense at this place: its step hasn't ended
abbrev pub cut_to : Spot → Kept → Kept
cut_to s k = record k { steps = s.front ++ record s.here { senses = s.before ++ s.sense ∷ []; act = None } ∷ [] }

-- how the first kept step ended, where it is below the line and has ended
abbrev pub first_ready : Line → List KeptStep → Option KeptAct
first_ready l [] = None
first_ready l (s ∷ ss) = if is_below s.stamp l then s.act else None

-- what is kept after the first step, which ended so, was given out: its registers are the base
abbrev pub without_first : Option KeptAct → Kept → Kept
without_first None k = k
without_first (Some a) k = record k { base = a.regs; steps = drop 1 k.steps }

-- more messages were sent: what was there stays
abbrev pub HasGrown : List Message → List Message → Type 0
HasGrown old new = (more : List Message) × (new ≡ old ++ more)
