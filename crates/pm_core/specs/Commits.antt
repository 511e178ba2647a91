-- What a Commit makes of the processes.
use Rattle.std.specs.Prelude.{List}
use Rattle.std.specs.List.{flat_map}
use Rattle.pm_base.specs.declared.rows.Entry.{Entry}
use Rattle.pm_base.specs.declared.stamp.Line.{Line}
use Rattle.pm_alp.specs.Agents.{agent_committed}
use Rattle.pm_clp.specs.Clps.{clp_committed}
use Rattle.pm_clp.specs.Views.{ClpView}
use Rattle.pm_saved.specs.Steps.{hand_out}
use Rattle.pm_alp.specs.Views.{with_agent}
use Rattle.pm_alp.specs.Views.{Process as AlpView}

-- a communication process after a Commit
abbrev pub clp_at : Line → ClpView → ClpView
clp_at l v = record v { clp = clp_committed l v.clp }

-- an agent's process after a Commit
abbrev pub alp_at : Line → AlpView → AlpView
alp_at l v = with_agent (agent_committed l v.agent) v

-- the entries that agents' processes hand out, one process after another
abbrev pub handed_by : Line → List AlpView → List Entry
handed_by l alps = flat_map (λ (v : AlpView). hand_out l v.agent.steps) alps
