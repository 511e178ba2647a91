use Rattle.std.proofs.Common.{◌≡◌, ◌++◌, take}
use Rattle.std.specs.List.{flat_map}
use Rattle.pm_model.specs.Traces.{answer_text}
use Rattle.pm_trace.proofs.text.add_answers.Given as goal

abbrev pub invariant-loop-hits : goal.invariant-loop-hits
invariant-loop-hits l = l.out.items ≡ l.initial.out.items ++ flat_map (answer_text l.plan) (take l.hits-index l.answers)
