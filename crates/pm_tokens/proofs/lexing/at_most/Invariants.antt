use Rattle.std.proofs.Common.{◌≡◌, ◌≤◌, drop}
use Rattle.pm_tokens.specs.Lexing.{value_after}
use Rattle.pm_tokens.proofs.lexing.at_most.Given as goal

abbrev pub invariant-loop-c : goal.invariant-loop-c
invariant-loop-c l = record { value : value_after 0 l.text ≡ value_after l.n (drop l.c-index l.text); most : l.n ≤ l.most }
