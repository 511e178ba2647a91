-- How much a communication process keeps.
use Rattle.std.specs.Prelude.{ℕ, ◌+◌, ◌-◌, ◌^◌, List, [], ◌∷◌, length, min, Option, Some, None}
use Rattle.pm_base.specs.declared.rows.Parts.{Parts}
use Rattle.pm_clp.specs.Clps.{ClpState}

-- the rows of a record, where there is one: its puts, cuts and reads
abbrev pub rows_in : Option Parts → ℕ
rows_in None = 0
rows_in (Some r) = length r.puts + (length r.cuts + length r.reads)

-- the rows of these records
abbrev pub rows_of : List (Option Parts) → ℕ
rows_of [] = 0
rows_of (r ∷ rs) = rows_in r + rows_of rs

-- the rows and the registered queries of a process, at most the end of 64 bits
abbrev pub size_of : ClpState → ℕ
size_of s = min (rows_of s.records + length s.queries) (2 ^ 64 - 1)
