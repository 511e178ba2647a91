use Rattle.std.proofs.Common.{◌≡◌, map}
use Rattle.std.specs.List.{range_with_len}
use Rattle.pm_gen.specs.Draws.{state_after}
use Rattle.pm_gen.specs.Generated.{mark}
use Rattle.pm_gen.proofs.parts.marks.Given as goal

abbrev pub invariant-loop-k : goal.invariant-loop-k
invariant-loop-k l = record {
  parts : l.marks ≡ map (λ k. mark (state_after l.fn.draws.state k) k) (range_with_len 0 l.k);
  state : l.draws.state ≡ state_after l.fn.draws.state l.k;
}
