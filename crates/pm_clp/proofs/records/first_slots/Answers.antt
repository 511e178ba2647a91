use Rattle.std.proofs.Common.{◌≡◌}
use Rattle.pm_clp.proofs.Keeping.{made_all}
use Rattle.pm_clp.proofs.records.first_slots.Goals as goal

pub returns : goal.returns
returns c = made_all c.args.ways.now c.args.values.now c.loop-v.v c.loop-v.each.items c.loop-v.invariant c.loop-v-test.false
