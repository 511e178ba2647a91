-- The classes with their names, as a layout and as a list that grows.
use Rattle.std.proofs.Common.{◌≡◌, refl, ap, sym, ◌∙◌, arith, ℕ, ◌+◌, ◌≤◌, ◌<◌, List, [], ◌∷◌, ◌++◌, length, map, take, get_or, length-append, append-nil}
use Rattle.std.proofs.lemmas.Grind.{flat_map-append}
use Rattle.std.proofs.lemmas.List.{take_more, length-map}
use Rattle.std.proofs.lemmas.List.Folds.{length-flat_map-take}
use Rattle.pm_base.specs.Layouts.{var_count}
use Rattle.pm_base.specs.declared.layout.ClassRow.{ClassRow}
use Rattle.pm_plan.specs.Plans.{class_rows, all_vars}
use Rattle.pm_plan.specs.declared.parts.ClassPart.{ClassPart}
use Rattle.pm_rules.specs.Reading as reading
use Rattle.pm_scenario.specs.Scenarios.{named_rows, table_of, var_names}

abbrev row : ℕ → ℕ → ClassRow
row first count = record { first = first; count = count }

rows-from : (n m : ℕ) (cs : List ClassPart) (c : ClassPart) → m ≡ n + length (all_vars cs) → named_rows n (cs ++ c ∷ []) ≡ named_rows n cs ++ (c.name, row m (length c.vars)) ∷ []
rows-from n m [] c e = ap (λ k. (c.name, row k (length c.vars)) ∷ []) (omega (arith, e))
rows-from n m (d ∷ cs) c e =
    ap (λ rs. (d.name, row n (length d.vars)) ∷ rs) (rows-from (n + length d.vars) m cs c (let l = length-append d.vars (all_vars cs) in omega (arith, e, l)))

all_vars-push : (cs : List ClassPart) (c : ClassPart) → all_vars (cs ++ c ∷ []) ≡ all_vars cs ++ c.vars
all_vars-push cs c = flat_map-append (λ p. p.vars) cs (c ∷ []) ∙ ap (λ z. all_vars cs ++ z) (append-nil c.vars)

-- the rows of one more class
pub rows_more : (m : ℕ) (cs : List ClassPart) (i : ℕ) (c : ClassPart) → i < length cs → c ≡ get_or cs i c → m ≡ length (all_vars (take i cs)) →
    named_rows 0 (take (i + 1) cs) ≡ named_rows 0 (take i cs) ++ (c.name, (record { first = m; count = length c.vars })) ∷ []
rows_more m cs i c h is e = rw (take_more cs i c h, ← is) (rows-from 0 m (take i cs) c (omega (arith, e)))

-- and its variables
pub vars_more : (cs : List ClassPart) (i : ℕ) (c : ClassPart) → i < length cs → c ≡ get_or cs i c →
    length (all_vars (take (i + 1) cs)) ≡ length (all_vars (take i cs)) + length c.vars
vars_more cs i c h is = rw (take_more cs i c h, ← is) (ap length (all_vars-push (take i cs) c) ∙ length-append (all_vars (take i cs)) c.vars)

pub vars_most : (cs : List ClassPart) (i : ℕ) (c : ClassPart) → i < length cs → c ≡ get_or cs i c →
    length (all_vars (take i cs)) + length c.vars ≤ length (all_vars cs)
vars_most cs i c h is =
    let most : length (all_vars (take i cs)) + length (get_or cs i c).vars ≤ length (all_vars cs) = length-flat_map-take (λ p. p.vars) cs i c h in
    let same : length c.vars ≡ length (get_or cs i c).vars = ap (λ p. length p.vars) is in
    omega (arith, most, same)

rows_of : (n : ℕ) (cs : List ClassPart) → map (λ c. c.1) (named_rows n cs) ≡ class_rows n cs
rows_of n [] = refl
rows_of n (c ∷ cs) = ap (λ rs. row n (length c.vars) ∷ rs) (rows_of (n + length c.vars) cs)

-- the layout that the names have is the plan's
pub table_rows : (cs : List ClassPart) → reading.class_rows (table_of cs) ≡ class_rows 0 cs
table_rows cs = rows_of 0 cs

counted : (n : ℕ) (cs : List ClassPart) → var_count (class_rows n cs) ≡ length (all_vars cs)
counted n [] = refl
counted n (c ∷ cs) =
    let e = counted (n + length c.vars) cs in
    let l = length-append c.vars (all_vars cs) in
    omega (arith, e, l)

pub table_vars : (cs : List ClassPart) → length (var_names cs) ≡ var_count (reading.class_rows (table_of cs))
table_vars cs = rw (table_rows cs) (length-map (all_vars cs) (λ v. v.name) ∙ sym (counted 0 cs))

rows-count : (n : ℕ) (cs : List ClassPart) → length (named_rows n cs) ≡ length cs
rows-count n [] = refl
rows-count n (c ∷ cs) = let e = rows-count (n + length c.vars) cs in omega (arith, e)

pub table_count : (cs : List ClassPart) → length (named_rows 0 cs) ≡ length cs
table_count cs = rows-count 0 cs
