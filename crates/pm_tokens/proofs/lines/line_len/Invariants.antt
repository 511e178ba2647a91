use Rattle.std.proofs.Common.{◌≡◌, ◌+◌, drop}
use Rattle.pm_tokens.specs.Lines.{line_len}
use Rattle.pm_tokens.proofs.lines.line_len.Given as goal

abbrev pub invariant-loop-i : goal.invariant-loop-i
invariant-loop-i l = line_len l.text ≡ line_len (drop l.i l.text) + l.i
