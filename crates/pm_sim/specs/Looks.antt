-- What stands at the processes and in the links of a world.
use Rattle.std.specs.Prelude.{List, get_or, map, ℕ}
use Rattle.pm_message.specs.declared.Message.{Message}
use Rattle.pm_alp.specs.Agents.{no_agent}
use Rattle.pm_alp.specs.declared.agent.Agent.{Agent}
use Rattle.pm_clp.specs.Clps.{ClpState}
use Rattle.pm_sim.specs.Worlds.{Mail, World, mail, no_clp}

-- the state of the CLP of this number
abbrev pub clp_of : World → ℕ → ClpState
clp_of w c = get_or w.clps c no_clp

-- the state of the agent of this number
abbrev pub agent_of : World → ℕ → Agent
agent_of w a = get_or w.agents a no_agent

-- the messages on their way
abbrev pub messages_of : World → List Message
messages_of w = map (λ (x : Mail). x.message) (mail w.links)
