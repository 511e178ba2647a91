use Rattle.std.proofs.Common.{◌≡◌, ◌+◌, drop}
use Rattle.pm_tokens.specs.Lexing.{digits_len}
use Rattle.pm_tokens.proofs.lexing.digits_len.Given as goal

abbrev pub invariant-loop-i : goal.invariant-loop-i
invariant-loop-i l = digits_len l.text ≡ digits_len (drop l.i l.text) + l.i
