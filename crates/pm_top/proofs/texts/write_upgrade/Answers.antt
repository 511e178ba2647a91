use Rattle.pm_top.proofs.Prints.{quits-memory, text-none}
use Rattle.pm_top.proofs.Writings.{ended-illegal, ended-plan, ended-retired, ended-run, ended-spent, text-written}
use Rattle.pm_top.specs.Printed.{IsTextOf}
use Rattle.pm_top.specs.declared.outcome.Ending.TheVariants as ending
use Rattle.pm_top.proofs.texts.write_upgrade.Goals as goal

pub returns-in-Ok-clause-printed : goal.returns-in-Ok-clause-printed
returns-in-Ok-clause-printed g c =
    let w = c.write_text.ensures in
    text-written (IsTextOf c.args.plan.now) _ c.in-Ok.ensures.again c.write_text.result _ _ w.ended (rw c.as_bytes.ensures.value at w.done) (rw c.as_bytes.ensures.value at w.fault)

pub returns-in-Ok-clause-ran : goal.returns-in-Ok-clause-ran
returns-in-Ok-clause-ran g c = ended-run c.write_text.result c.write_text.ensures.ended

pub returns-in-Ok-clause-plan : goal.returns-in-Ok-clause-plan
returns-in-Ok-clause-plan g c = λ f. ended-plan c.write_text.result f c.write_text.ensures.ended

pub returns-in-Ok-clause-unspent : goal.returns-in-Ok-clause-unspent
returns-in-Ok-clause-unspent g c = ended-spent c.write_text.result c.write_text.ensures.ended

pub returns-in-Err-clause-printed : goal.returns-in-Err-clause-printed
returns-in-Err-clause-printed g c = text-none (IsTextOf c.args.plan.now) ending.Memory (g.K.Sink.holds c.args.out.now) quits-memory

pub returns-in-Ok-clause-retired : goal.returns-in-Ok-clause-retired
returns-in-Ok-clause-retired g c = λ agent. ended-retired c.write_text.result agent c.write_text.ensures.ended

pub returns-in-Ok-clause-illegal : goal.returns-in-Ok-clause-illegal
returns-in-Ok-clause-illegal g c = λ line. ended-illegal c.write_text.result line c.write_text.ensures.ended
