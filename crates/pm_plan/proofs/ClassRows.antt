-- One more class.
use Rattle.std.proofs.Common.{◌≡◌, ap, ◌∙◌, arith, ℕ, ◌+◌, List, [], ◌∷◌, ◌++◌, length, length-append, append-nil}
use Rattle.std.proofs.lemmas.Grind.{flat_map-append}
use Rattle.pm_base.specs.declared.layout.ClassRow.{ClassRow}
use Rattle.pm_plan.specs.Plans.{class_rows, all_vars}
use Rattle.pm_plan.specs.declared.parts.ClassPart.{ClassPart}

abbrev row : ℕ → ℕ → ClassRow
row first count = record { first = first; count = count }

rows-from : (n m : ℕ) (cs : List ClassPart) (c : ClassPart) → m ≡ n + length (all_vars cs) → class_rows n (cs ++ c ∷ []) ≡ class_rows n cs ++ (row m (length c.vars)) ∷ []
rows-from n m [] c e = ap (λ k. row k (length c.vars) ∷ []) (omega (arith, e))
rows-from n m (d ∷ cs) c e =
    ap (λ rs. row n (length d.vars) ∷ rs) (rows-from (n + length d.vars) m cs c (let l = length-append d.vars (all_vars cs) in omega (arith, e, l)))

pub class_rows-push : (m : ℕ) (cs : List ClassPart) (c : ClassPart) → m ≡ length (all_vars cs) → class_rows 0 (cs ++ c ∷ []) ≡ class_rows 0 cs ++ (record { first = m; count = length c.vars }) ∷ []
class_rows-push m cs c e = rows-from 0 m cs c (omega (arith, e))

pub all_vars-push : (cs : List ClassPart) (c : ClassPart) → all_vars (cs ++ c ∷ []) ≡ all_vars cs ++ c.vars
all_vars-push cs c = flat_map-append (λ p. p.vars) cs (c ∷ []) ∙ ap (λ z. all_vars cs ++ z) (append-nil c.vars)

pub all_vars-count : (cs : List ClassPart) (c : ClassPart) → length (all_vars (cs ++ c ∷ [])) ≡ length (all_vars cs) + length c.vars
all_vars-count cs c = ap length (all_vars-push cs c) ∙ length-append (all_vars cs) c.vars
