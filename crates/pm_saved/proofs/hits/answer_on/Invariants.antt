use Rattle.std.proofs.Common.{◌≡◌, ◌++◌, take}
use Rattle.pm_saved.specs.Senses.{answers}
use Rattle.pm_saved.proofs.hits.answer_on.Given as goal

abbrev pub invariant-loop-sense : goal.invariant-loop-sense
invariant-loop-sense l = l.all ≡ l.fn.all ++ answers (take l.sense-index l.others)
