-- One record, of variable 4, from (0,0) on: it is read, written late, written where the read doesn't see it, one write
-- is withdrawn, and it is trimmed.
use Rattle.std.specs.Prelude.{◌≡◌, ℕ, List, [], ◌∷◌, pos, Some, None}
use Rattle.pm_base.specs.Windows.{whole}
use Rattle.pm_base.specs.declared.rows.CutRow.{CutRow}
use Rattle.pm_base.specs.declared.rows.GiveRow.{GiveRow}
use Rattle.pm_base.specs.declared.rows.Parts.{Parts}
use Rattle.pm_base.specs.declared.rows.PutRow.{PutRow}
use Rattle.pm_base.specs.declared.rows.ReadRow.{ReadRow}
use Rattle.pm_base.specs.declared.stamp.Line.TheVariants as line
use Rattle.pm_base.specs.declared.stamp.Stamp.{Stamp}
use Rattle.pm_base.specs.declared.value.Change.TheVariants as change
use Rattle.pm_base.specs.declared.value.Value.{Value}
use Rattle.pm_periods.specs.Periods.{periods_from}
use Rattle.pm_periods.specs.Records.{after_cut, after_put, after_watch, cut_row, first_read, gives_of_cut, gives_of_put}
use Rattle.pm_periods.specs.Records.{gives_of_watch, record_value, trimmed}

-- the moment of this time and agent
abbrev pub at : ℕ → ℕ → Stamp
at time agent = record { time = time; agent = agent }

-- the value whose second coordinate is 0
abbrev pub pair : ℕ → Value
pair x = record { x = pos x; y = pos 0 }

-- the record of value (0,0) that has received nothing
abbrev pub fresh : Parts
fresh = record { base = pair 0; puts = []; cuts = []; reads = [] }

-- a read at (5,1) of any value
abbrev pub read : ReadRow
read = first_read (record { agent = 1; seq = 1 }) (at 5 1) whole

-- the hit that this read is given
abbrev pub given : ℕ → ℕ → List GiveRow
given turn x = record { num = read.num; stamp = read.stamp; var = 4; turn = turn; hit = Some (pair x) } ∷ []

-- a write of (7,0) at (3,0), which is received after the read that sees it
abbrev pub late : PutRow
late = record { num = record { agent = 0; seq = 1 }; stamp = at 3 0; change = change.Set (pair 7) }

-- a write of (8,0) at the stamp of the read, which doesn't see it
abbrev pub unseen : PutRow
unseen = record { num = record { agent = 1; seq = 2 }; stamp = at 5 1; change = change.Set (pair 8) }

-- the withdrawal of the late write
abbrev pub withdrawal : CutRow
withdrawal = cut_row late.num late.stamp

-- two writes at one stamp: the count of the first one's number is 9 and its agent 0, of the second one's 7 and 1
abbrev pub ninth : PutRow
ninth = record { num = record { agent = 0; seq = 9 }; stamp = at 3 0; change = change.Set (pair 5) }

-- the second one comes first, whatever its agent
abbrev pub seventh : PutRow
seventh = record { num = record { agent = 1; seq = 7 }; stamp = at 3 0; change = change.Set (pair 2) }

-- a read that sees both
abbrev pub tie_read : ReadRow
tie_read = first_read (record { agent = 2; seq = 1 }) (at 4 2) whole

-- the record after both
abbrev pub was_tied : Parts
was_tied = after_put seventh (after_put ninth fresh)

-- the record after the read
abbrev pub was_read : Parts
was_read = after_watch read fresh

-- and after the late write
abbrev pub was_written : Parts
was_written = after_put late was_read

-- and after the write that the read doesn't see
abbrev pub was_written_again : Parts
was_written_again = after_put unseen was_written

-- and after the withdrawal of the late write
abbrev pub was_withdrawn : Parts
was_withdrawn = after_cut withdrawal was_written_again

-- what the record gives at each of these rows: (0,0) to the read, (7,0) after the late write, nothing for the unseen
-- one, (0,0) again after the withdrawal, nothing for a read that is known; then what is seen at (6,0), the periods
-- after (4,0), and what is left below (6,0); and what a read sees of two writes at one stamp
pub record SampleRecord : Type 0 where
  pub reads : gives_of_watch 4 read fresh ≡ given 1 0
  pub writes : gives_of_put 4 late was_read ≡ given 2 7
  pub unseen : gives_of_put 4 unseen was_written ≡ []
  pub withdraws : gives_of_cut 4 withdrawal was_written_again ≡ given 3 0
  pub known : gives_of_watch 4 read was_withdrawn ≡ []
  pub value : record_value was_withdrawn (at 6 0) ≡ pair 8
  pub periods : periods_from was_withdrawn (Some (at 4 0)) ≡
      record { when = record { from = Some (at 4 0); until = Some (at 5 1) }; value = pair 0 } ∷
      (record { when = record { from = Some (at 5 1); until = None }; value = pair 8 } ∷ [])
  pub tie : gives_of_watch 4 tie_read was_tied ≡
      record { num = tie_read.num; stamp = tie_read.stamp; var = 4; turn = 1; hit = Some (pair 5) } ∷ []
  pub trims : trimmed (line.At (at 6 0)) was_withdrawn ≡ record { base = pair 8; puts = []; cuts = []; reads = [] }
