-- Where the numbers that a record knows stand: for each the stamp of its row.
use Rattle.std.specs.Prelude.{◌≡◌, ◌||◌, Bool, not, true, if◌then◌else◌, List, [], ◌∷◌, Option, Some, None}
use Rattle.std.specs.declared.cmp.Ordering.{Ordering}
use Rattle.std.specs.Ordering.{nat_cmp, ordering_then}
use Rattle.pm_base.specs.Stamps.{is_below, num_eq}
use Rattle.pm_base.specs.declared.rows.Parts.{Parts}
use Rattle.pm_base.specs.declared.rows.PutRow.{PutRow}
use Rattle.pm_base.specs.declared.stamp.Line.{Line}
use Rattle.pm_base.specs.declared.stamp.Num.{Num}
use Rattle.pm_base.specs.declared.stamp.Stamp.{Stamp}
use Rattle.pm_periods.specs.Rows.{cut_key, key_lt, put_key, read_key, value_key}
use Rattle.pm_periods.specs.declared.rows.RowKey.{RowKey}

-- what comparing two numbers answers
abbrev pub num_cmp : Num → Num → Ordering
num_cmp a b = ordering_then (nat_cmp a.agent b.agent) (nat_cmp a.seq b.seq)

-- the stamp of the first row of this number
abbrev pub stamp_of : {X : Type 0} → (X → RowKey) → Num → List X → Option Stamp
stamp_of key n [] = None
stamp_of key n (x ∷ xs) = if num_eq n (key x).num then Some (key x).stamp else stamp_of key n xs

-- the stamp where it isn't below the line, or is kept all the same
abbrev pub stamp_kept : Line → Bool → Option Stamp → Option Stamp
stamp_kept l b None = None
stamp_kept l b (Some s) = if not (is_below s l) || b then Some s else None

-- the three look-ups tell where the parts' puts, cuts and reads stand
pub record AreKnown (r : Parts) (put_at cut_at read_at : Num → Option Stamp) : Type 0 where
  pub puts : (n : Num) → put_at n ≡ stamp_of put_key n r.puts
  pub cuts : (n : Num) → cut_at n ≡ stamp_of cut_key n r.cuts
  pub reads : (n : Num) → read_at n ≡ stamp_of read_key n r.reads

-- a write, where there is one, changes the value before this one does; the base is there before each
abbrev pub goes_before : PutRow → Option PutRow → Bool
goes_before p None = true
goes_before p (Some q) = key_lt (value_key q) (value_key p)
