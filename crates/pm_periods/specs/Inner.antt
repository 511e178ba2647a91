-- What a `VarRecord` holds: its live puts as periods with their reads, its cuts with the puts that they name.
use Rattle.std.specs.Prelude.{◌≡◌, ◌++◌, false, List, [], map}
use Rattle.std.specs.List.{AllByRecursion}
use Rattle.std.specs.BTreeMap.{get}
use Rattle.pm_base.specs.declared.rows.Parts.{Parts}
use Rattle.pm_base.specs.declared.rows.PutRow.{PutRow}
use Rattle.pm_periods.specs.Known.{AreKnown, num_cmp}
use Rattle.pm_periods.specs.Laid.{AreLaid, AreOrdered, BeginAtBase, IsNamed, Stand, base_of, cut_of, puts_of, reads_of}
use Rattle.pm_periods.specs.Laid.{withdrawn_of}
use Rattle.pm_periods.specs.Records.{IsSettled, Record}
use Rattle.pm_periods.specs.Rows.{AreDistinct, add_rows, cut_key, has_num, put_key}
use Rattle.pm_periods.specs.declared.held.Held.{Held}
use Rattle.pm_periods.specs.declared.record.VarRecord.TheInside.{Inside}
use Rattle.pm_periods.specs.declared.record.Withdrawal.{Withdrawal}

-- the base and the rows that these periods and withdrawals hold
abbrev pub parts_by : List Held → List Withdrawal → Parts
parts_by hs ws = record {
  base = base_of hs;
  puts = add_rows put_key [] (puts_of hs ++ withdrawn_of ws);
  cuts = map cut_of ws;
  reads = reads_of hs;
}

-- the record's base and rows
abbrev pub parts_of : Inside → Parts
parts_of r = parts_by r.periods.items r.withdrawals.items

-- the record that contracts see: the variable's number, and the parts
abbrev pub record_of : Inside → Record
record_of r = record { var = r.var; parts = parts_of r }

-- the periods stand in the order in which their writes change the value, each read in its period with its hit; no write
-- of a period is withdrawn, each other one is, and each number stands once
pub record AreSound (hs : List Held) (ws : List Withdrawal) : Type 0 where
  pub begins : BeginAtBase hs
  pub stand : Stand hs
  pub laid : AreLaid (base_of hs) hs
  pub order : AreOrdered hs
  pub once : AreDistinct put_key (puts_of hs ++ withdrawn_of ws)
  pub live : AllByRecursion (λ (p : PutRow). has_num cut_key p.num (map cut_of ws) ≡ false) (puts_of hs)
  pub named : AllByRecursion (λ (w : Withdrawal). IsNamed w.cut.num w.put) ws

-- they are a settled record's, and where each number stands is known
pub record IsSound (r : Inside) : Type 0 where
  pub settled : IsSettled (parts_of r)
  pub sound : AreSound r.periods.items r.withdrawals.items
  pub known : AreKnown (parts_of r) (get num_cmp r.put_stamps) (get num_cmp r.cut_stamps) (get num_cmp r.read_stamps)
