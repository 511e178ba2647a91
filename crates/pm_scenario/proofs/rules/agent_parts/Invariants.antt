use Rattle.std.proofs.Common.{◌≡◌, true, length, drop}
use Rattle.std.specs.List.{list_all}
use Rattle.pm_base.specs.Fits.{fits}
use Rattle.pm_rules.specs.Reading.{class_rows}
use Rattle.pm_plan.specs.declared.parts.AgentPart.{AgentPart}
use Rattle.pm_scenario.specs.Forms.{with_front}
use Rattle.pm_scenario.specs.Scenarios.{agent_parts}
use Rattle.pm_scenario.proofs.rules.agent_parts.Given as goal

abbrev pub invariant-loop-agent : goal.invariant-loop-agent
invariant-loop-agent l = record {
  count : l.index ≡ length l.yielded;
  same : agent_parts l.names l.version 0 l.fn.agents ≡ with_front l.parts (agent_parts l.names l.version l.index (drop l.index l.fn.agents));
  fit : list_all (λ (a : AgentPart). fits a.program (record { classes = class_rows l.names })) l.parts ≡ true;
}
