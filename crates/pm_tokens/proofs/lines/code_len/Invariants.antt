use Rattle.std.proofs.Common.{◌≡◌, ◌+◌, drop}
use Rattle.pm_tokens.specs.Lines.{code_len}
use Rattle.pm_tokens.proofs.lines.code_len.Given as goal

abbrev pub invariant-loop-i : goal.invariant-loop-i
invariant-loop-i l = code_len l.line ≡ code_len (drop l.i l.line) + l.i
