use Rattle.std.proofs.Common.{◌≡◌, ◌++◌, map}
use Rattle.pm_core.specs.declared.process.Process.TheVariants as process
use Rattle.pm_core.proofs.firsts.add_clps.Given as goal

abbrev pub invariant-loop-clp : goal.invariant-loop-clp
invariant-loop-clp l = l.all ≡ l.fn.all ++ map process.Clp l.yielded
