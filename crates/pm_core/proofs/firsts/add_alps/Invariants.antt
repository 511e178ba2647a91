use Rattle.std.proofs.Common.{◌≡◌, ◌++◌, map}
use Rattle.pm_core.specs.declared.process.Process.TheVariants as process
use Rattle.pm_core.proofs.firsts.add_alps.Given as goal

abbrev pub invariant-loop-alp : goal.invariant-loop-alp
invariant-loop-alp l = l.all ≡ l.fn.all ++ map process.Alp l.yielded
