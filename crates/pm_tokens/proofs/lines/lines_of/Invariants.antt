use Rattle.std.proofs.Common.{◌≡◌, ◌++◌, map, length}
use Rattle.pm_tokens.specs.Lines.{lines_of, line_len}
use Rattle.pm_tokens.proofs.lines.lines_of.Given as goal

abbrev pub invariant-loop-len : goal.invariant-loop-len
invariant-loop-len l = record {
  so_far : lines_of l.text ≡ map (λ x. x.now) l.out.items ++ lines_of l.rest;
  len : l.len ≡ line_len l.rest;
}

abbrev pub decreases-loop-len : goal.decreases-loop-len
decreases-loop-len l = length l.rest
