-- How many steps, hits and writes were committed.
use Rattle.std.specs.Prelude.{List, length, min, ℕ, ◌+◌, ◌-◌, ◌^◌}
use Rattle.std.specs.List.{flat_map}
use Rattle.pm_base.specs.declared.rows.Entry.{Entry}
use Rattle.pm_kernel.specs.declared.writing.Counts.{Counts}

-- a count that stops at its type's end
abbrev pub counted : ℕ → ℕ
counted n = min n (2 ^ 64 - 1)

-- how many hits there are in the answers of these entries
abbrev pub hits_in : List Entry → ℕ
hits_in es = length (flat_map (λ (e : Entry). flat_map (λ a. a) e.answers) es)

-- how many writes there are in these entries
abbrev pub writes_in : List Entry → ℕ
writes_in es = length (flat_map (λ (e : Entry). e.writes) es)

-- the counts with those of these entries
abbrev pub counted_on : Counts → List Entry → Counts
counted_on c es = record {
  steps = counted (c.steps + length es);
  hits = counted (c.hits + hits_in es);
  writes = counted (c.writes + writes_in es);
}

-- nothing was committed
abbrev pub no_counts : Counts
no_counts = record { steps = 0; hits = 0; writes = 0 }
