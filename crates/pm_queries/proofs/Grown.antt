-- A list of what is sent that grows.
use Rattle.std.proofs.Common.{List, [], ◌++◌, ap, sym, ◌∙◌, append_assoc}
use Rattle.std.proofs.lemmas.List.{append-nil}
use Rattle.pm_queries.specs.Queries.{HasGrown}
use Rattle.pm_queries.specs.declared.registered.Sent.{Sent}

pub grown_same : (x : List Sent) → HasGrown x x
grown_same x = ([], sym (append-nil x))

pub grown_then : (x y z : List Sent) → HasGrown x y → HasGrown y z → HasGrown x z
grown_then x y z g h = (g.0 ++ h.0, h.1 ∙ (ap (λ l. l ++ h.0) g.1 ∙ append_assoc x g.0 h.0))
