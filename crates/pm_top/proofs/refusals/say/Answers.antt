use Rattle.pm_top.proofs.Speaking.{speaks-whole}
use Rattle.pm_top.proofs.refusals.say.Goals as goal

pub returns : goal.returns
returns g c =
    let line = c.as_bytes.ensures.value in
    speaks-whole c.write_whole.result _ _ c.args.text.now (rw line at c.write_whole.ensures.ok) (rw line at c.write_whole.ensures.part)
    c.write_whole.ensures.cause c.write_whole.ensures.faults c.write_whole.ensures.stalls
