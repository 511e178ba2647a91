use Rattle.std.proofs.Common.{◌≡◌, take}
use Rattle.pm_top.specs.Demo.{sum_from}
use Rattle.pm_top.proofs.demo.sum_of.Given as goal

abbrev pub invariant-loop-byte : goal.invariant-loop-byte
invariant-loop-byte l = l.sum ≡ sum_from 0 (take l.byte-index l.text)
