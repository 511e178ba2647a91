use Rattle.std.proofs.Common.{◌≡◌, ◌++◌, drop}
use Rattle.pm_saved.specs.Senses.{answer}
use Rattle.pm_saved.proofs.hits.answer.Given as goal

abbrev pub invariant-loop-k : goal.invariant-loop-k
invariant-loop-k l = l.all ++ answer (drop l.k-index l.hits) ≡ answer l.hits
