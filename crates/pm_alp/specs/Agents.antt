-- An agent: its kept steps, and what it does with a message.
use Rattle.std.specs.Prelude.{ℕ, ◌+◌, nat_le, Bool, true, false, if◌then◌else◌}
use Rattle.std.specs.Prelude.{List, [], ◌∷◌, ◌++◌, length, Option, Some, None, ℤ}
use Rattle.pm_base.specs.Stamps.{num_eq}
use Rattle.pm_base.specs.declared.layout.ClassRow.{ClassRow}
use Rattle.pm_base.specs.declared.program.Program.{Program}
use Rattle.pm_base.specs.declared.rows.Act.{Act}
use Rattle.pm_base.specs.declared.rows.GiveRow.{GiveRow}
use Rattle.pm_base.specs.declared.stamp.Line.{Line}
use Rattle.pm_base.specs.declared.stamp.Num.{Num}
use Rattle.pm_base.specs.declared.stamp.Stamp.{Stamp}
use Rattle.pm_base.specs.declared.value.Hit.{Hit}
use Rattle.pm_base.specs.declared.value.Query.{Query}
use Rattle.pm_base.specs.declared.value.Query.TheVariants as query
use Rattle.pm_base.specs.declared.value.Write.{Write}
use Rattle.pm_message.specs.declared.Message.{Message}
use Rattle.pm_message.specs.declared.Message.TheVariants as message
use Rattle.pm_model.specs.Runs.{later}
use Rattle.pm_step.specs.Expressions.{sight}
use Rattle.pm_step.specs.Steps.{step}
use Rattle.pm_step.specs.declared.Next.{Next}
use Rattle.pm_step.specs.declared.Next.TheVariants as next
use Rattle.pm_saved.specs.Senses.{add_kept, answer, answers, hits_eq, kept_turn}
use Rattle.pm_saved.specs.Spots.{Spot, find}
use Rattle.pm_saved.specs.Steps.{base_of, left_of, regs_after, withdrawn}
use Rattle.pm_saved.specs.declared.kept.KeptAct.{KeptAct}
use Rattle.pm_saved.specs.declared.kept.KeptSense.{KeptSense}
use Rattle.pm_saved.specs.declared.kept.KeptStep.{KeptStep}
use Rattle.pm_alp.specs.declared.agent.Agent.{Agent}
use Rattle.pm_alp.specs.declared.agent.Awaited.{Awaited}

-- a rule and the classes that it speaks of
pub record Rule : Type 0 where
  pub program : Program
  pub classes : List ClassRow

-- what an agent does after these answers, at this stamp, with these registers
abbrev pub step_of : Rule → Stamp → List ℤ → List (List Hit) → Next
step_of r s regs answers = step r.program (sight r.classes s regs answers)

-- what an agent knows of itself: its number, the last time at which it may act, and what its rule does at a stamp, with
-- these registers and answers
pub record Actor : Type 0 where
  pub agent : ℕ
  pub horizon : ℕ
  pub acts : Stamp → List ℤ → List (List Hit) → Next

-- an agent after a message, and what it sends, in order
pub record Sends : Type 0 where
  pub agent : Agent
  pub sent : List Message

-- an agent that keeps nothing and awaits nothing
abbrev pub no_agent : Agent
no_agent = record { base = []; steps = []; awaited = None; seq = 0 }

-- the puts of these writes, numbered from n on
abbrev pub puts_of : ℕ → Stamp → ℕ → List Write → List Message
puts_of a s n [] = []
puts_of a s n (w ∷ ws) = message.Put (record { agent = a; seq = n }) s w.var w.change ∷ puts_of a s (n + 1) ws

-- the numbers of these writes, from n on
abbrev pub nums_of : ℕ → ℕ → List Write → List Num
nums_of a n [] = []
nums_of a n (w ∷ ws) = record { agent = a; seq = n } ∷ nums_of a (n + 1) ws

-- how a step at s with these senses ends, its writes numbered from seq on
abbrev pub act_of : ℕ → Stamp → List KeptSense → ℕ → Act → KeptAct
act_of a s senses seq d = record {
  entry = record { stamp = s; answers = answers senses; writes = d.writes };
  nums = nums_of a seq d.writes;
  regs = d.regs;
  wait = d.wait;
}

-- the step at s with these senses, ended so
abbrev pub acted_step : ℕ → Stamp → List KeptSense → ℕ → Act → KeptStep
acted_step a s senses seq d = record { stamp = s; senses = senses; act = Some (act_of a s senses seq d) }

-- the Wake that is awaited after such a step, where the agent acts again: its number comes after those of the writes
abbrev pub next_wake : Bool → ℕ → Stamp → ℕ → Act → Option Awaited
next_wake false a s seq d = None
next_wake true a s seq d = Some (record {
  num = record { agent = a; seq = seq + length d.writes };
  stamp = record { time = later s.time d.wait; agent = a };
})

-- the message of an awaited Wake
abbrev pub wake_of : Option Awaited → List Message
wake_of None = []
wake_of (Some w) = message.Wake w.num w.stamp ∷ []

-- the next number's seq after such a Wake
abbrev pub next_seq : Bool → ℕ → ℕ
next_seq false n = n
next_seq true n = n + 1

-- the agent after a step that ended so, and what it sends: a put for each write, then the Wake of its next step, where
-- the last argument says that it acts again
abbrev pub act_sends : ℕ → List ℤ → List KeptStep → Stamp → List KeptSense → ℕ → Act → Bool → Sends
act_sends a base front s senses seq d b = record {
  agent = record {
    base = base;
    steps = front ++ acted_step a s senses seq d ∷ [];
    awaited = next_wake b a s seq d;
    seq = next_seq b (seq + length d.writes);
  };
  sent = puts_of a s seq d.writes ++ wake_of (next_wake b a s seq d);
}

-- a sense that was just asked
abbrev pub asking : ℕ → ℕ → Query → KeptSense
asking a seq q = record { num = record { agent = a; seq = seq }; query = q; complete = false; hits = [] }

-- the agent after its rule said what comes next in its last step, at s with these complete senses: it asks, or it acts,
-- and acts again where the next time is within the horizon
abbrev pub went_on : Actor → List ℤ → List KeptStep → Stamp → List KeptSense → ℕ → Next → Sends
went_on p base front s senses seq (next.Ask q) = record {
  agent = record {
    base = base;
    steps = front ++ record { stamp = s; senses = senses ++ asking p.agent seq q ∷ []; act = None } ∷ [];
    awaited = None;
    seq = seq + 1;
  };
  sent = message.Ask (record { agent = p.agent; seq = seq }) s q ∷ [];
}
went_on p base front s senses seq (next.Act d) =
    act_sends p.agent base front s senses seq d (nat_le (later s.time d.wait) p.horizon)

-- going on in the last step, at s with these complete senses, behind these steps: the rule says what comes next
abbrev pub go_on : Actor → List ℤ → List KeptStep → Stamp → List KeptSense → ℕ → Sends
go_on p base front s senses seq =
    went_on p base front s senses seq (p.acts s (regs_after base front) (answers senses))

-- the agent as it is, and nothing sent
abbrev pub no_sends : Agent → Sends
no_sends a = record { agent = a; sent = [] }

-- the same with these messages sent first
abbrev pub first_sends : List Message → Sends → Sends
first_sends ms r = record r { sent = ms ++ r.sent }

-- the agent with this sense in the place of the one there
abbrev pub kept_in : Agent → Spot → KeptSense → Agent
kept_in a p x = record a { steps = p.front ++ record p.here { senses = p.before ++ x ∷ p.later } ∷ p.rest }

-- a rollback to this sense, which stands complete in the place of the one there: all that came after it is dropped, the
-- writes from its step on are withdrawn, and the agent goes on
abbrev pub rolled_back : Actor → Agent → Spot → KeptSense → Sends
rolled_back p a spot x =
    first_sends (withdrawn (spot.here ∷ spot.rest)) (go_on p a.base spot.front spot.here.stamp (spot.before ++ x ∷ []) a.seq)

-- a hit of an incomplete sense, which stands with it in the place of the one there: a single read is complete, and the
-- agent goes on; a query of a class waits for more
abbrev pub at_open : Actor → Agent → Spot → Query → KeptSense → Sends
at_open p a spot (query.One v) x =
    go_on p a.base spot.front spot.here.stamp (spot.before ++ record x { complete = true } ∷ []) a.seq
at_open p a spot (query.Class k w) x = no_sends (kept_in a spot x)

-- a hit with a new turn, which the sense has in the place of the one there: where that is complete, the agent rolls back
-- to it if its answer changed
abbrev pub with_hit : Actor → Agent → Spot → KeptSense → Sends
with_hit p a spot x =
    if spot.sense.complete
    then (if hits_eq (answer x.hits) (answer spot.sense.hits) then no_sends (kept_in a spot x) else rolled_back p a spot x)
    else at_open p a spot spot.sense.query x

-- a hit that is given to the sense at this place: nothing happens where no sense has the number, or where a hit of this
-- variable is kept whose turn is not lower
abbrev pub on_give : Actor → Agent → GiveRow → Option Spot → Sends
on_give p a r None = no_sends a
on_give p a r (Some spot) =
    if nat_le r.turn (kept_turn r.var spot.sense.hits) then no_sends a
    else with_hit p a spot (record spot.sense {
      hits = add_kept (record { var = r.var; turn = r.turn; hit = r.hit }) spot.sense.hits;
    })

-- a Wake: where it is the awaited one, a new step begins at its stamp
abbrev pub on_wake : Actor → Agent → Num → Option Awaited → Sends
on_wake p a n None = no_sends a
on_wake p a n (Some w) = if num_eq n w.num then go_on p a.base a.steps w.stamp [] a.seq else no_sends a

-- the end of a sense of this query, which is complete already or not: a query of a class that isn't complete becomes so,
-- and the agent goes on
abbrev pub finished : Bool → Actor → Agent → Spot → Query → Sends
finished true p a spot q = no_sends a
finished false p a spot (query.One v) = no_sends a
finished false p a spot (query.Class k w) =
    go_on p a.base spot.front spot.here.stamp (spot.before ++ record spot.sense { complete = true } ∷ []) a.seq

-- the end of the sense at this place
abbrev pub on_finish : Actor → Agent → Option Spot → Sends
on_finish p a None = no_sends a
on_finish p a (Some spot) = finished spot.sense.complete p a spot spot.sense.query

-- the agent after a message, and what it sends
abbrev pub agent_after : Actor → Agent → Message → Sends
agent_after p a (message.Wake n s) = on_wake p a n a.awaited
agent_after p a (message.Give r) = on_give p a r (find r.num a.steps)
agent_after p a (message.Ask n s q) = no_sends a
agent_after p a (message.Put n s v c) = no_sends a
agent_after p a (message.Cut n s v) = no_sends a
agent_after p a (message.Finish n s) = on_finish p a (find n a.steps)
agent_after p a (message.Move v s r) = no_sends a
agent_after p a (message.Grow k s u w) = no_sends a

-- the agent after a line was committed: the steps that it hands out are gone, and the registers are those after them
abbrev pub agent_committed : Line → Agent → Agent
agent_committed l a = record a { base = base_of l a.base a.steps; steps = left_of l a.steps }
