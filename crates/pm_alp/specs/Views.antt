-- What contracts see of an agent's process.
use Rattle.std.specs.Prelude.{◌≡◌, ℕ, ◌+◌, ◌*◌, ◌<◌, ◌≤◌, ◌^◌, nat_le, Bool, false}
use Rattle.std.specs.Prelude.{List, [], drop, map, Option, Some, None}
use Rattle.pm_base.specs.Layouts.{IsLayout}
use Rattle.pm_base.specs.Stamps.{num_eq}
use Rattle.pm_base.specs.declared.program.RegRow.{RegRow}
use Rattle.pm_base.specs.declared.stamp.Num.{Num}
use Rattle.pm_message.specs.declared.Message.{Message}
use Rattle.pm_saved.specs.declared.kept.KeptAct.{KeptAct}
use Rattle.pm_alp.specs.Agents.{agent_after, next_seq}
use Rattle.pm_alp.specs.States.{Fixed, IsReady, actor, agent_of, awaited_at, fixed_of}
use Rattle.pm_alp.specs.declared.agent.Agent.{Agent}
use Rattle.pm_alp.specs.declared.agent.Awaited.{Awaited}
use Rattle.pm_alp.specs.declared.alp.Alp.TheInside.{Inside}

-- what stays of the process, its agent, how many deliveries were made at it, and whether memory was wanting in one
pub record Process : Type 0 where
  pub fixed : Fixed
  pub agent : Agent
  pub made : ℕ
  pub spoilt : Bool

-- the same of a process as it is held
abbrev pub process_of : Inside → Process
process_of a = record {
  fixed = fixed_of a.parts;
  agent = agent_of a.state;
  made = a.made;
  spoilt = a.spoilt;
}

-- an agent at first: its declared registers, no kept step, and its first Wake at its start
abbrev pub first_agent : Fixed → ℕ → Agent
first_agent f start = record {
  base = map (λ (r : RegRow). r.start) f.rule.program.regs;
  steps = [];
  awaited = awaited_at f.number f.horizon 0 start;
  seq = next_seq (nat_le start f.horizon) 0;
}

-- its process at first: no delivery was made
abbrev pub first_process : Fixed → ℕ → Process
first_process f start = record { fixed = f; agent = first_agent f start; made = 0; spoilt = false }

-- the process after a delivery of this message for which there was memory
abbrev pub delivered : Message → Process → Process
delivered m p = record {
  fixed = p.fixed;
  agent = (agent_after (actor p.fixed) p.agent m).agent;
  made = p.made + 1;
  spoilt = false;
}

-- the messages of that delivery, in order
abbrev pub sent_by : Message → Process → List Message
sent_by m p = (agent_after (actor p.fixed) p.agent m).sent

-- the process with the agent in this state
abbrev pub with_agent : Agent → Process → Process
with_agent a p = record p { agent = a }

-- the agent after the first kept step, which ended so, was given out: its registers are the base
abbrev pub gave_out : Option KeptAct → Agent → Agent
gave_out None a = a
gave_out (Some k) a = record a { base = k.regs; steps = drop 1 a.steps }

-- whether the awaited Wake has this number
abbrev pub is_awaited : Num → Option Awaited → Bool
is_awaited n None = false
is_awaited n (Some w) = num_eq n w.num

-- unless memory was wanting, the state is ready, and each delivery used at most 2^32 + 1 numbers
pub record IsSound (a : Inside) : Type 0 where
  pub layout : IsLayout a.parts.layout.now
  pub horizon : a.parts.horizon < 2 ^ 63
  pub ready : a.spoilt ≡ false → IsReady a.state
  pub few : a.spoilt ≡ false → a.state.seq ≤ 1 + a.made * (2 ^ 32 + 1)
