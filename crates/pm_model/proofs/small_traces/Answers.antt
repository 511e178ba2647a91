use Rattle.pm_model.proofs.ExampleLaws.{counter-trace, read-first-trace, write-first-trace}
use Rattle.pm_model.proofs.small_traces.Goals as goal

pub returns : goal.returns
returns c = record { counter = counter-trace; write_first = write-first-trace; read_first = read-first-trace }
