use Rattle.pm_model.specs.Runs.{rest}
use Rattle.pm_top.proofs.run.write_step.Goals as goal

pub returns-clause-fault : goal.returns-clause-fault
returns-clause-fault g c = λ _. (
  c.in-Ok-Some.entry,
  rest c.args.plan.now c.step.new.self.state,
  rw (c.requires, c.in-Ok-Some.field-0-is) at c.in-Ok-Some.ensures.left,
  rw (c.as_slice.ensures.value, c.in-Ok.ensures) at c.in-Err-write_whole.ensures.part,
)
