use Rattle.std.proofs.Common.{◌≡◌, length}
use Rattle.pm_tokens.specs.Tokens.{toks}
use Rattle.pm_tokens.specs.Lexing.{lex, behind}
use Rattle.pm_tokens.proofs.lexing.lex.Given as goal

abbrev pub invariant-loop-b : goal.invariant-loop-b
invariant-loop-b l = lex l.text ≡ behind (toks l.out.items) (lex l.rest)

abbrev pub decreases-loop-b : goal.decreases-loop-b
decreases-loop-b l = length l.rest
