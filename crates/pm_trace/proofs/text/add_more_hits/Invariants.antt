use Rattle.std.proofs.Common.{◌≡◌, ◌++◌, take, codes}
use Rattle.std.specs.List.{flat_map}
use Rattle.pm_model.specs.Traces.{hit_text}
use Rattle.pm_trace.proofs.text.add_more_hits.Given as goal

abbrev pub invariant-loop-hit : goal.invariant-loop-hit
invariant-loop-hit l = l.out.items ≡ l.initial.out.items ++ flat_map (λ h. codes ";" ++ hit_text l.plan h) (take l.hit-index l.hits)
