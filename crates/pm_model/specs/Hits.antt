-- What a query is answered.
use Rattle.std.specs.Prelude.{ℕ, zero, suc, ◌+◌, ◌==◌, ◌&&◌, nat_le, nat_lt, Bool, if◌then◌else◌}
use Rattle.std.specs.Prelude.{List, [], ◌∷◌, ◌++◌, slice_get, Option, Some, None}
use Rattle.std.specs.List.{filter}
use Rattle.pm_base.specs.Layouts.{class_row}
use Rattle.pm_base.specs.Windows.{inside}
use Rattle.pm_base.specs.declared.layout.ClassRow.{ClassRow}
use Rattle.pm_base.specs.declared.value.Hit.{Hit}
use Rattle.pm_base.specs.declared.value.Query.{Query}
use Rattle.pm_base.specs.declared.value.Query.TheVariants as query
use Rattle.pm_base.specs.declared.value.Value.{Value}
use Rattle.pm_base.specs.declared.value.Window.{Window}

-- the variables from number k on, each with its value
abbrev pub numbered : ℕ → List Value → List Hit
numbered k [] = []
numbered k (v ∷ vs) = record { var = k; value = v } ∷ numbered (k + 1) vs

-- the variable is a member of the class
abbrev pub is_member : ClassRow → ℕ → Bool
is_member row var = nat_le row.first var && nat_lt var (row.first + row.count)

-- the query asks for that variable where it has that value
abbrev pub is_asked : List ClassRow → Query → Hit → Bool
is_asked classes (query.One var) h = h.var == var
is_asked classes (query.Class class w) h = is_member (class_row classes class) h.var && inside h.value w

-- the variables that a query asks for, in order of number
unfoldable pub hits : List ClassRow → List Value → Query → List Hit
hits classes values q = filter (is_asked classes q) (numbered 0 values)

-- the variable of this number with its value, where it has one
abbrev pub shown : ℕ → Option Value → List Hit
shown n None = []
shown n (Some v) = record { var = n; value = v } ∷ []

-- the same, where its value is inside the window
abbrev pub shown_in : Window → ℕ → Option Value → List Hit
shown_in w n None = []
shown_in w n (Some v) = if inside v w then record { var = n; value = v } ∷ [] else []

-- so many variables from number n on, one after another
abbrev pub shown_from : Window → List Value → ℕ → ℕ → List Hit
shown_from w values n zero = []
shown_from w values n (suc c) = shown_in w n (slice_get values n) ++ shown_from w values (n + 1) c
