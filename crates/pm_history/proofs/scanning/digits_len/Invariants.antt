use Rattle.std.proofs.Common.{◌≡◌, ◌+◌, drop}
use Rattle.pm_history.specs.Scans.{digits_len}
use Rattle.pm_history.proofs.scanning.digits_len.Given as goal

abbrev pub invariant-loop-i : goal.invariant-loop-i
invariant-loop-i l = digits_len l.text ≡ digits_len (drop l.i l.text) + l.i
