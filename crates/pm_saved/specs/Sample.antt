-- One kept step, of agent 1 at time 0: it asked for variable 0 and wrote variable 1.
use Rattle.std.specs.Prelude.{◌≡◌, ℕ, true, List, [], ◌∷◌, Some, None, pos}
use Rattle.pm_base.specs.declared.stamp.Line.TheVariants as line
use Rattle.pm_base.specs.declared.stamp.Num.{Num}
use Rattle.pm_base.specs.declared.stamp.Stamp.{Stamp}
use Rattle.pm_base.specs.declared.value.Change.TheVariants as change
use Rattle.pm_base.specs.declared.value.Query.TheVariants as query
use Rattle.pm_base.specs.declared.value.Value.{Value}
use Rattle.pm_message.specs.declared.Message.TheVariants as message
use Rattle.pm_saved.specs.Spots.{Spot, find}
use Rattle.pm_saved.specs.Steps.{Kept, cut_to, first_ready, hand_out, withdrawn}
use Rattle.pm_saved.specs.declared.kept.KeptSense.{KeptSense}
use Rattle.pm_saved.specs.declared.kept.KeptStep.{KeptStep}

-- the moment of the step
abbrev pub moment : Stamp
moment = record { time = 0; agent = 1 }

-- the agent's number of this seq
abbrev pub num : ℕ → Num
num seq = record { agent = 1; seq = seq }

-- the value whose second coordinate is 0
abbrev pub pair : ℕ → Value
pair x = record { x = pos x; y = pos 0 }

-- the sense, under number (1,1), and its hit (0,0)
abbrev pub asked : KeptSense
asked = record {
  num = num 1;
  query = query.One 0;
  complete = true;
  hits = record { var = 0; turn = 1; hit = Some (pair 0) } ∷ [];
}

-- the step, which set variable 1 to (7,0) under number (1,2)
abbrev pub acted : KeptStep
acted = record {
  stamp = moment;
  senses = asked ∷ [];
  act = Some (record {
    entry = record {
      stamp = moment;
      answers = (record { var = 0; value = pair 0 } ∷ []) ∷ [];
      writes = record { var = 1; change = change.Set (pair 7) } ∷ [];
    };
    nums = num 2 ∷ [];
    regs = [];
    wait = 1;
  });
}

-- the same step, where it has only sensed
abbrev pub sensed : KeptStep
sensed = record { stamp = moment; senses = asked ∷ []; act = None }

-- where its sense stands
abbrev pub spot : Spot
spot = record { front = []; here = acted; before = []; sense = asked; later = []; rest = [] }

-- what is kept: these steps
abbrev pub kept : List KeptStep → Kept
kept steps = record { base = []; steps = steps; used = 2 }

-- the sense is found in the step; there the one write is withdrawn, under its own number and at the step's moment;
-- after the step was cut back to its sense it stands without its end, and the end of time hands nothing out, as it
-- would before
pub record SampleSaved : Type 0 where
  pub found : find (num 1) (acted ∷ []) ≡ Some spot
  pub withdraws : withdrawn (acted ∷ []) ≡ message.Cut (num 2) moment 1 ∷ []
  pub cut : cut_to spot (kept (acted ∷ [])) ≡ kept (sensed ∷ [])
  pub waits : first_ready line.End (sensed ∷ []) ≡ None
  pub ready : hand_out line.End (acted ∷ []) ≡ record {
    stamp = moment;
    answers = (record { var = 0; value = pair 0 } ∷ []) ∷ [];
    writes = record { var = 1; change = change.Set (pair 7) } ∷ [];
  } ∷ []
