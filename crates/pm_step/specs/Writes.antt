-- Where a write to a variable stands.
use Rattle.std.specs.Prelude.{ℕ, Bool, false, ◌==◌, nat_lt, List, [], ◌∷◌, length}
use Rattle.std.specs.List.{filter}
use Rattle.pm_base.specs.declared.value.Write.{Write}

-- how many writes are to lesser variables
abbrev pub place_of : ℕ → List Write → ℕ
place_of var ws = length (filter (λ w. nat_lt w.var var) ws)

-- whether the first of these writes is to this variable
abbrev pub begins_with : ℕ → List Write → Bool
begins_with var [] = false
begins_with var (w ∷ ws) = w.var == var
