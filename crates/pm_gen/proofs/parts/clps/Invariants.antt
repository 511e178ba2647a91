use Rattle.std.proofs.Common.{◌≡◌, ◌+◌, ◌∷◌, map}
use Rattle.std.specs.List.{range_with_len}
use Rattle.pm_gen.specs.Draws.{state_after}
use Rattle.pm_gen.specs.Generated.{child, root}
use Rattle.pm_gen.proofs.parts.clps.Given as goal

abbrev pub invariant-loop-k : goal.invariant-loop-k
invariant-loop-k l = record {
  parts : l.clps ≡ root ∷ map (λ k. child (state_after l.fn.draws.state k) (k + 1)) (range_with_len 0 l.k);
  state : l.draws.state ≡ state_after l.fn.draws.state l.k;
}
