use Rattle.std.proofs.Common.{◌≡◌, ◌+◌, drop, true}
use Rattle.pm_replay.specs.Parts.{scenario_len}
use Rattle.pm_replay.proofs.parting.scenario_len.Given as goal

abbrev pub invariant-loop-i : goal.invariant-loop-i
invariant-loop-i l = scenario_len true l.input ≡ scenario_len l.starts (drop l.i l.input) + l.i
