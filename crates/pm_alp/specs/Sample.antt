-- Worked rows: what agent 1 does with single messages. It may act up to time 9.
use Rattle.std.specs.Prelude.{◌≡◌, ℕ, true, List, [], ◌∷◌, length, ℤ, pos, Option, Some, None}
use Rattle.pm_base.specs.Windows.{whole}
use Rattle.pm_base.specs.declared.rows.Entry.{Entry}
use Rattle.pm_base.specs.declared.stamp.Line.TheVariants as line
use Rattle.pm_base.specs.declared.stamp.Num.{Num}
use Rattle.pm_base.specs.declared.stamp.Stamp.{Stamp}
use Rattle.pm_base.specs.declared.value.Change.TheVariants as change
use Rattle.pm_base.specs.declared.value.Hit.{Hit}
use Rattle.pm_base.specs.declared.value.Query.TheVariants as query
use Rattle.pm_base.specs.declared.value.Value.{Value}
use Rattle.pm_message.specs.declared.Message.{Message}
use Rattle.pm_message.specs.declared.Message.TheVariants as message
use Rattle.pm_saved.specs.Steps.{hand_out}
use Rattle.pm_saved.specs.declared.kept.KeptStep.{KeptStep}
use Rattle.pm_step.specs.declared.Next.{Next}
use Rattle.pm_step.specs.declared.Next.TheVariants as next
use Rattle.pm_alp.specs.Agents.{Actor, agent_after, agent_committed}
use Rattle.pm_alp.specs.States.{awaited_at}
use Rattle.pm_alp.specs.declared.agent.Agent.{Agent}

-- the agent's moment at this time
abbrev pub at : ℕ → Stamp
at t = record { time = t; agent = 1 }

-- the agent's number of this seq
abbrev pub num : ℕ → Num
num n = record { agent = 1; seq = n }

-- a value on the first axis
abbrev pub val : ℕ → Value
val x = record { x = pos x; y = pos 0 }

-- the value of the first hit, 0 where there is none
abbrev pub seen : List Hit → Value
seen [] = val 0
seen (h ∷ hs) = h.value

-- a step that sets this variable, remembers this number, and waits 1
abbrev pub does : ℕ → Value → ℤ → Next
does v x r = next.Act (record { writes = record { var = v; change = change.Set x } ∷ []; regs = r ∷ []; wait = 1 })

-- in each step the agent reads variable 0, sets variable 1 to what it saw, and remembers it
abbrev pub copies : Stamp → List ℤ → List (List Hit) → Next
copies s regs [] = next.Ask (query.One 0)
copies s regs (a ∷ rest) = does 1 (seen a) (seen a).x

-- in each step it reads variable 0, then variable 2, and sets variable 1 to what it saw last
abbrev pub looks_twice : Stamp → List ℤ → List (List Hit) → Next
looks_twice s regs [] = next.Ask (query.One 0)
looks_twice s regs (a ∷ []) = next.Ask (query.One 2)
looks_twice s regs (a ∷ (b ∷ bs)) = does 1 (seen b) (seen a).x

-- in each step it asks for all of class 0, and sets variable 9 to the number of hits
abbrev pub counts : Stamp → List ℤ → List (List Hit) → Next
counts s regs [] = next.Ask (query.Class 0 whole)
counts s regs (a ∷ rest) = does 9 (val (length a)) (pos (length a))

-- an agent with this rule
abbrev pub by : (Stamp → List ℤ → List (List Hit) → Next) → Actor
by rule = record { agent = 1; horizon = 9; acts = rule }

-- the same, where it may act at time 0 alone
abbrev pub once : Actor
once = record { agent = 1; horizon = 0; acts = copies }

-- before its first step, at time 0
abbrev pub start : Agent
start = record { base = pos 0 ∷ []; steps = []; awaited = awaited_at 1 9 0 0; seq = 1 }

-- the agent after these messages
abbrev pub after : Actor → Agent → List Message → Agent
after p a [] = a
after p a (m ∷ ms) = after p (agent_after p a m).agent ms

-- what it sends at a message
abbrev pub sends : Actor → Agent → Message → List Message
sends p a m = (agent_after p a m).sent

-- its Wake of this seq and time
abbrev pub wake : ℕ → ℕ → Message
wake n t = message.Wake (num n) (at t)

-- a hit of this variable with its turn, for the sense of this seq, at this time
abbrev pub hit : ℕ → ℕ → ℕ → ℕ → Option Value → Message
hit n t v turn x = message.Give (record { num = num n; stamp = at t; var = v; turn = turn; hit = x })

-- the put of this variable under this seq, at this time
abbrev pub put : ℕ → ℕ → ℕ → ℕ → Message
put n t v x = message.Put (num n) (at t) v (change.Set (val x))

-- and its anti-message
abbrev pub cut : ℕ → ℕ → ℕ → Message
cut n t v = message.Cut (num n) (at t) v

-- the entry of a step that read x of variable 0 and set variable 1 to it
abbrev pub copied : ℕ → ℕ → Entry
copied t x = record {
  stamp = at t;
  answers = (record { var = 0; value = val x } ∷ []) ∷ [];
  writes = record { var = 1; change = change.Set (val x) } ∷ [];
}

-- that step at time t, where it asked under seq n and was given x with this turn, and its put has seq m
abbrev pub copy : ℕ → ℕ → ℕ → ℕ → ℕ → KeptStep
copy t n turn x m = record {
  stamp = at t;
  senses = record {
    num = num n;
    query = query.One 0;
    complete = true;
    hits = record { var = 0; turn = turn; hit = Some (val x) } ∷ [];
  } ∷ [];
  act = Some (record { entry = copied t x; nums = num m ∷ []; regs = pos x ∷ []; wait = 1 });
}

-- three steps, at times 0, 1 and 2, each of which saw 4
abbrev pub three : Agent
three = after (by copies) start (wake 0 0 ∷ hit 1 0 0 1 (Some (val 4)) ∷ wake 3 1 ∷ hit 4 1 0 1 (Some (val 4)) ∷
    wake 6 2 ∷ hit 7 2 0 1 (Some (val 4)) ∷ [])

-- then the second one's hit changes
abbrev pub back : Agent
back = after (by copies) three (hit 4 1 0 2 (Some (val 5)) ∷ [])

-- a step that saw 4 and then 6
abbrev pub twice : Agent
twice = after (by looks_twice) start (wake 0 0 ∷ hit 1 0 0 1 (Some (val 4)) ∷ hit 2 0 2 1 (Some (val 6)) ∷ [])

-- a query of the class, which has two hits so far
abbrev pub asked : Agent
asked = after (by counts) start (wake 0 0 ∷ hit 1 0 2 1 (Some (val 4)) ∷ hit 1 0 3 1 (Some (val 6)) ∷ [])

-- the end of its hits
abbrev pub done : Message
done = message.Finish (num 1) (at 0)

-- steps, and a rollback to the second of three
pub record SampleRollbacks : Type 0 where
  -- a step asks, and acts once it has its hit
  pub asks : sends (by copies) start (wake 0 0) ≡ message.Ask (num 1) (at 0) (query.One 0) ∷ []
  pub acts : sends (by copies) (after (by copies) start (wake 0 0 ∷ [])) (hit 1 0 0 1 (Some (val 4))) ≡
      put 2 0 1 4 ∷ wake 3 1 ∷ []
  pub keeps : three ≡ record {
    base = pos 0 ∷ [];
    steps = copy 0 1 1 4 2 ∷ copy 1 4 1 4 5 ∷ copy 2 7 1 4 8 ∷ [];
    awaited = awaited_at 1 9 9 3;
    seq = 10;
  }
  -- what the second step and the third wrote is withdrawn, and the second one acts anew, under new numbers
  pub withdraws : sends (by copies) three (hit 4 1 0 2 (Some (val 5))) ≡
      cut 5 1 1 ∷ cut 8 2 1 ∷ put 10 1 1 5 ∷ wake 11 2 ∷ []
  -- the first step stays, the third is gone
  pub goes_back : back ≡ record {
    base = pos 0 ∷ [];
    steps = copy 0 1 1 4 2 ∷ copy 1 4 2 5 10 ∷ [];
    awaited = awaited_at 1 9 11 2;
    seq = 12;
  }
  -- a turn that is no higher, and a hit that tells the same, change nothing that was sent
  pub older : agent_after (by copies) three (hit 4 1 0 1 (Some (val 5))) ≡ record { agent = three; sent = [] }
  pub same : sends (by copies) three (hit 4 1 0 2 (Some (val 4))) ≡ []
  -- hits for the dropped step and its Wake do nothing, the new Wake does
  pub gone : agent_after (by copies) back (hit 7 2 0 2 (Some (val 5))) ≡ record { agent = back; sent = [] }
  pub dropped : agent_after (by copies) back (wake 9 3) ≡ record { agent = back; sent = [] }
  pub goes_on : sends (by copies) back (wake 11 2) ≡ message.Ask (num 12) (at 2) (query.One 0) ∷ []

-- a rollback in the middle of a step
pub record SampleSenses : Type 0 where
  -- the second sense is asked when the first has its hit
  pub second : sends (by looks_twice) (after (by looks_twice) start (wake 0 0 ∷ [])) (hit 1 0 0 1 (Some (val 4))) ≡
      message.Ask (num 2) (at 0) (query.One 2) ∷ []
  -- to the second: the first stays as it is
  pub to_second : sends (by looks_twice) twice (hit 2 0 2 2 (Some (val 7))) ≡ cut 3 0 1 ∷ put 5 0 1 7 ∷ wake 6 1 ∷ []
  -- to the first: the second is asked anew
  pub to_first : sends (by looks_twice) twice (hit 1 0 0 2 (Some (val 5))) ≡
      cut 3 0 1 ∷ message.Ask (num 5) (at 0) (query.One 2) ∷ []

-- a query of a class that is done late
pub record SampleQueries : Type 0 where
  -- nothing is done before its end, which may come late
  pub waits : sends (by counts) asked (hit 1 0 5 1 (Some (val 8))) ≡ []
  pub late : sends (by counts) asked done ≡ put 2 0 9 2 ∷ wake 3 1 ∷ []
  -- a hit that was taken back before doesn't count
  pub taken_back : sends (by counts) (after (by counts) asked (hit 1 0 2 2 None ∷ [])) done ≡
      put 2 0 9 1 ∷ wake 3 1 ∷ []
  -- a hit after the end rolls back, and the end comes no second time
  pub more : sends (by counts) (after (by counts) asked (done ∷ [])) (hit 1 0 5 1 (Some (val 8))) ≡
      cut 2 0 9 ∷ put 4 0 9 3 ∷ wake 5 1 ∷ []
  pub no_more : sends (by counts) (after (by counts) asked (done ∷ [])) done ≡ []

-- what ends
pub record SampleEnds : Type 0 where
  -- a line hands out the steps below it, whose last one's registers are then the base
  pub hands_out : hand_out (line.At (at 2)) three.steps ≡ copied 0 4 ∷ copied 1 4 ∷ []
  pub commits : agent_committed (line.At (at 2)) three ≡ record {
    base = pos 4 ∷ [];
    steps = copy 2 7 1 4 8 ∷ [];
    awaited = awaited_at 1 9 9 3;
    seq = 10;
  }
  -- past the horizon no Wake is sent, nor awaited
  pub retires : sends once (after once start (wake 0 0 ∷ [])) (hit 1 0 0 1 (Some (val 4))) ≡ put 2 0 1 4 ∷ []
  pub retired : (after once start (wake 0 0 ∷ hit 1 0 0 1 (Some (val 4)) ∷ [])).awaited ≡ None
