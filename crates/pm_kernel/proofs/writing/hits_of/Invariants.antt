use Rattle.std.proofs.Common.{◌≡◌, length, take}
use Rattle.std.specs.List.{flat_map}
use Rattle.pm_kernel.specs.Counts.{counted}
use Rattle.pm_kernel.proofs.writing.hits_of.Given as goal

abbrev pub invariant-loop-answer : goal.invariant-loop-answer
invariant-loop-answer l = l.hits ≡ counted (length (flat_map (λ a. a) (take l.answer-index l.answers)))
