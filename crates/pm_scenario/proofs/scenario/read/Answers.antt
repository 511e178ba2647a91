use Rattle.std.proofs.Common.{rules}
use Rattle.pm_scenario.proofs.Fewness.{few_of}
use Rattle.pm_scenario.proofs.scenario.read.Goals as goal

pub parts_of-requires : goal.parts_of-requires
parts_of-requires c = record { few = few_of c.args.bytes.now c.in_ok-draft.draft c.requires.few (search rules) }
