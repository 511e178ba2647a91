use Rattle.std.proofs.Common.{◌≡◌, ◌+◌, drop}
use Rattle.pm_base.specs.Layouts.{class_of}
use Rattle.pm_base.proofs.layout.class_of.Given as goal

abbrev pub invariant-loop-k : goal.invariant-loop-k
invariant-loop-k l = class_of l.classes l.var ≡ class_of (drop l.k l.classes) l.var + l.k
