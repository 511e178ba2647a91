use Rattle.pm_alp.proofs.Puttings.{IsPutting}
use Rattle.pm_alp.proofs.state.send_puts.Given as goal

abbrev pub invariant-loop-write : goal.invariant-loop-write
invariant-loop-write l = IsPutting l.fn.first l.stamp l.writes l.write-index l.num l.nums l.fn.out l.out
