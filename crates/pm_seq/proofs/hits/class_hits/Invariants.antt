use Rattle.std.proofs.Common.{◌≡◌}
use Rattle.pm_base.specs.declared.value.Query.TheVariants as query
use Rattle.pm_model.proofs.HitLaws.{hits_to}
use Rattle.pm_seq.proofs.hits.class_hits.Given as goal

abbrev pub invariant-loop-var : goal.invariant-loop-var
invariant-loop-var l = l.hits ≡ hits_to l.layout.classes l.values (query.Class l.class l.window) l.var
