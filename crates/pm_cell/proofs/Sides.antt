-- A list behind another.
use Rattle.std.proofs.Common.{List, ◌++◌, ap, sym, ◌∙◌, append_assoc}
use Rattle.pm_ends.specs.Numbers.{Begins}

pub begins_behind : {X : Type 0} (r xs ys : List X) → Begins xs ys → Begins (r ++ xs) (r ++ ys)
begins_behind r xs ys p = (p.0, ap (λ z. r ++ z) p.1 ∙ sym (append_assoc r xs p.0))
