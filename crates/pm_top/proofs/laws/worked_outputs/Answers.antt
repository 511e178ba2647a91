use Rattle.pm_model.proofs.ExampleLaws.{counter-trace}
use Rattle.pm_top.proofs.Worked.{counter-first, counter-parts, counter-steps, pair-parts}
use Rattle.pm_top.proofs.laws.worked_outputs.Goals as goal

pub returns : goal.returns
returns c = record {
  parts = counter-parts;
  pair = pair-parts;
  trace = counter-trace;
  steps = counter-steps;
  first = counter-first;
}
