use Rattle.std.proofs.Common.{◌≡◌, ◌*◌, map}
use Rattle.std.specs.List.{range_with_len}
use Rattle.pm_gen.specs.Draws.{state_after}
use Rattle.pm_gen.specs.Generated.{agent}
use Rattle.pm_gen.proofs.rules.agents_with.Given as goal

abbrev pub invariant-loop-k : goal.invariant-loop-k
invariant-loop-k l = record {
  parts : l.agents ≡ map (λ k. agent (state_after l.fn.draws.state (3 * k)) k) (range_with_len 0 l.k);
  state : l.draws.state ≡ state_after l.fn.draws.state (3 * l.k);
}
