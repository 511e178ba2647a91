use Rattle.std.proofs.Common.{◌≡◌, ◌+◌, drop}
use Rattle.pm_tokens.specs.Lexing.{word_len}
use Rattle.pm_tokens.proofs.lexing.word_len.Given as goal

abbrev pub invariant-loop-i : goal.invariant-loop-i
invariant-loop-i l = word_len l.text ≡ word_len (drop l.i l.text) + l.i
