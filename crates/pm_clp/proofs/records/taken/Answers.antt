use Rattle.std.proofs.Common.{◌≡◌, ◌<◌, arith}
use Rattle.pm_clp.specs.Laid.{in_set}
use Rattle.pm_clp.proofs.Slots.{taken-more, taken_all}
use Rattle.pm_clp.proofs.records.taken.Goals as goal

pub loop-v-preserved : goal.loop-v-preserved
loop-v-preserved c =
    taken-more c.args.each.now c.loop-v.v c.index-each-v.result (in_set c.loop-v.here) (in_set c.mark.new.here) c.loop-v.invariant c.in_ok-mark.ensures.others c.in_ok-mark.ensures.this
    c.index-each-v.is (omega arith)
