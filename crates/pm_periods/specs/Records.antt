-- One variable's record: what its puts, cuts and reads mean.
use Rattle.std.specs.Prelude.{◌≡◌, ℕ, ◌+◌, ◌<◌, ◌^◌, ◌-◌, min, ◌&&◌, ◌||◌, Bool, true}
use Rattle.std.specs.Prelude.{false, not, if◌then◌else◌, List, [], ◌∷◌, length, map, filter, Option, Some}
use Rattle.std.specs.Prelude.{None}
use Rattle.std.specs.List.{AllByRecursion}
use Rattle.pm_base.specs.Changes.{applied, value_eq}
use Rattle.pm_base.specs.Stamps.{is_below}
use Rattle.pm_base.specs.Windows.{inside}
use Rattle.pm_base.specs.declared.rows.CutRow.{CutRow}
use Rattle.pm_base.specs.declared.rows.GiveRow.{GiveRow}
use Rattle.pm_base.specs.declared.rows.Parts.{Parts}
use Rattle.pm_base.specs.declared.rows.PutRow.{PutRow}
use Rattle.pm_base.specs.declared.rows.ReadRow.{ReadRow}
use Rattle.pm_base.specs.declared.stamp.Line.{Line}
use Rattle.pm_base.specs.declared.stamp.Line.TheVariants as line
use Rattle.pm_base.specs.declared.stamp.Num.{Num}
use Rattle.pm_base.specs.declared.stamp.Stamp.{Stamp}
use Rattle.pm_base.specs.declared.value.Value.{Value}
use Rattle.pm_base.specs.declared.value.Window.{Window}
use Rattle.pm_periods.specs.Rows.{AreDistinct, IsInOrder, add_row, add_rows, cut_key, has_num, put_key, read_key}
use Rattle.pm_periods.specs.Rows.{rows_in_order, value_key}

-- the record of the variable of this number
pub record Record : Type 0 where
  pub var : ℕ
  pub parts : Parts

-- a put is live where no received cut names it
abbrev pub is_live : List CutRow → PutRow → Bool
is_live cuts p = not (has_num cut_key p.num cuts)

-- the put is live and below the line, so that what is seen at the line has its change
abbrev pub is_seen : List CutRow → Line → PutRow → Bool
is_seen cuts line p = is_live cuts p && is_below p.stamp line

-- the changes of these puts, one after another
abbrev pub value_after : List PutRow → Value → Value
value_after [] v = v
value_after (p ∷ ps) v = value_after ps (applied p.change v)

-- the order in which puts change the value: by stamp, then by the count of their numbers, then by agent, so that of two
-- puts with one stamp and one count the one of the greater agent is the later
abbrev pub in_value_order : List PutRow → List PutRow
in_value_order ps = add_rows value_key [] ps

-- puts of one stamp have one agent
abbrev pub HaveOneAgent : List PutRow → Type 0
HaveOneAgent [] = Unit {0}
HaveOneAgent (p ∷ ps) = AllByRecursion (λ q. q.stamp ≡ p.stamp → q.num.agent ≡ p.num.agent) ps × HaveOneAgent ps

-- the base after the changes of the live puts below the line, in the order in which puts change the value
abbrev pub value_below : Parts → Line → Value
value_below r l = value_after (in_value_order (filter (is_seen r.cuts l) r.puts)) r.base

-- what a read at this stamp sees: a put at that very stamp isn't seen
abbrev pub record_value : Parts → Stamp → Value
record_value r s = value_below r (line.At s)

-- a value that is seen is a hit where it is inside the read's window
abbrev pub hit_in : Value → Window → Option Value
hit_in v w = if inside v w then Some v else None

-- a read's hit, by what is seen at each stamp: what it sees, where that is inside its window
abbrev pub hit_by : (Stamp → Value) → ReadRow → Option Value
hit_by sees q = hit_in (sees q.stamp) q.window

-- a read's hit in this record
abbrev pub record_hit : Parts → ReadRow → Option Value
record_hit r q = hit_by (record_value r) q

-- the two hits tell the same: neither tells a value, or both tell the same one
abbrev pub hit_eq : Option Value → Option Value → Bool
hit_eq None None = true
hit_eq None (Some w) = false
hit_eq (Some v) None = false
hit_eq (Some v) (Some w) = value_eq v w

-- the read was last given another hit
abbrev pub is_stale : (Stamp → Value) → ReadRow → Bool
is_stale sees q = not (hit_eq (hit_by sees q) q.hit)

-- the hit that it was given last
abbrev pub last_give : ℕ → ReadRow → GiveRow
last_give var q = record { num = q.num; stamp = q.stamp; var = var; turn = q.turn; hit = q.hit }

-- the hit that it is given now, with a turn one higher
abbrev pub next_give : ℕ → (Stamp → Value) → ReadRow → GiveRow
next_give var sees q = record { num = q.num; stamp = q.stamp; var = var; turn = q.turn + 1; hit = hit_by sees q }

-- the read after it was given this hit, where it was: that hit is its last one, with a turn one higher
abbrev pub given_when : Bool → Option Value → ReadRow → ReadRow
given_when false h q = q
given_when true h q = record { num = q.num; stamp = q.stamp; window = q.window; turn = q.turn + 1; hit = h }

-- the read after it was given the hit that it has now, where its last one is another
abbrev pub fresh_read : (Stamp → Value) → ReadRow → ReadRow
fresh_read sees q = given_when (is_stale sees q) (hit_by sees q) q

-- the hits of these reads that changed, in their order
abbrev pub changed_of : ℕ → (Stamp → Value) → List ReadRow → List GiveRow
changed_of var sees reads = map (next_give var sees) (filter (is_stale sees) reads)

-- the changed hits of a record's reads
abbrev pub changed_hits : ℕ → Parts → List GiveRow
changed_hits var r = changed_of var (record_value r) r.reads

-- the record after they were given
abbrev pub refreshed : Parts → Parts
refreshed r = record { base = r.base; puts = r.puts; cuts = r.cuts; reads = map (fresh_read (record_value r)) r.reads }

-- a row that was received already changes nothing, and gives nothing
abbrev pub refreshed_unless : Bool → Parts → Parts → Parts
refreshed_unless known old new = if known then old else refreshed new

-- the hits that change as a row is received: none where a row of its number was received before
abbrev pub changed_unless : Bool → ℕ → Parts → List GiveRow
changed_unless known var new = if known then [] else changed_hits var new

-- the record with one more put, no hit given yet
abbrev pub with_put : PutRow → Parts → Parts
with_put p r = record { base = r.base; puts = add_row put_key p r.puts; cuts = r.cuts; reads = r.reads }

-- the record after a put was received: the reads whose hit it changed were given the new one; a put that was received
-- before changes nothing
abbrev pub after_put : PutRow → Parts → Parts
after_put p r = refreshed_unless (has_num put_key p.num r.puts) r (with_put p r)

-- the hits that receiving this put gives
abbrev pub gives_of_put : ℕ → PutRow → Parts → List GiveRow
gives_of_put var p r = changed_unless (has_num put_key p.num r.puts) var (with_put p r)

-- the withdrawal of the put of this number and stamp
abbrev pub cut_row : Num → Stamp → CutRow
cut_row n s = record { num = n; stamp = s }

-- the record with one more cut, no hit given yet
abbrev pub with_cut : CutRow → Parts → Parts
with_cut c r = record { base = r.base; puts = r.puts; cuts = add_row cut_key c r.cuts; reads = r.reads }

-- the record after a cut was received: the put of its number is live no more, now or when it comes, and the reads whose
-- hit this changed were given the new one; a cut that was received before changes nothing
abbrev pub after_cut : CutRow → Parts → Parts
after_cut c r = refreshed_unless (has_num cut_key c.num r.cuts) r (with_cut c r)

-- the hits that receiving this cut gives
abbrev pub gives_of_cut : ℕ → CutRow → Parts → List GiveRow
gives_of_cut var c r = changed_unless (has_num cut_key c.num r.cuts) var (with_cut c r)

-- a read that was given no hit yet
abbrev pub first_read : Num → Stamp → Window → ReadRow
first_read n s w = record { num = n; stamp = s; window = w; turn = 0; hit = None }

-- the record with one more read, no hit given yet
abbrev pub with_read : ReadRow → Parts → Parts
with_read q r = record { base = r.base; puts = r.puts; cuts = r.cuts; reads = add_row read_key q r.reads }

-- the record after a read was received: it was given its first hit, where it has one; a read that is known already
-- changes nothing
abbrev pub after_watch : ReadRow → Parts → Parts
after_watch q r = refreshed_unless (has_num read_key q.num r.reads) r (with_read q r)

-- the hits that receiving this read gives: its own first one, where it has one
abbrev pub gives_of_watch : ℕ → ReadRow → Parts → List GiveRow
gives_of_watch var q r = changed_unless (has_num read_key q.num r.reads) var (with_read q r)

-- the record of the variable of this number with these parts
abbrev pub record_with : ℕ → Parts → Record
record_with var parts = record { var = var; parts = parts }

-- the record that begins with this value and has received nothing
abbrev pub empty_record : ℕ → Value → Record
empty_record var v = record { var = var; parts = record { base = v; puts = []; cuts = []; reads = [] } }

-- the same record of the variable with these parts
abbrev pub with_parts : Record → Parts → Record
with_parts r parts = record { var = r.var; parts = parts }

-- what isn't below the line stays
abbrev pub put_stays : Line → PutRow → Bool
put_stays l p = not (is_below p.stamp l)

-- a read that isn't below the line stays too
abbrev pub read_stays : Line → ReadRow → Bool
read_stays l q = not (is_below q.stamp l)

-- and a cut that names a put that stays
abbrev pub cut_stays : Line → List PutRow → CutRow → Bool
cut_stays l puts c = not (is_below c.stamp l) || has_num put_key c.num puts

-- what is seen at the line becomes the base
abbrev pub trimmed : Line → Parts → Parts
trimmed l r = record {
  base = value_below r l;
  puts = filter (put_stays l) r.puts;
  cuts = filter (cut_stays l (filter (put_stays l) r.puts)) r.cuts;
  reads = filter (read_stays l) r.reads;
}

-- the read with the hit that it has now, in place of the one that it was last given, its turn as it was
abbrev pub with_hit : (Stamp → Value) → ReadRow → ReadRow
with_hit sees q = record { num = q.num; stamp = q.stamp; window = q.window; turn = q.turn; hit = hit_by sees q }

-- the parts with each list in order, the first row of each number
abbrev pub parts_in_order : Parts → Parts
parts_in_order r = record {
  base = r.base;
  puts = rows_in_order put_key r.puts;
  cuts = rows_in_order cut_key r.cuts;
  reads = rows_in_order read_key r.reads;
}

-- the parts with each read's hit as it is in this record, its turn as it was
abbrev pub with_present_hits : Parts → Parts
with_present_hits r = record {
  base = r.base;
  puts = r.puts;
  cuts = r.cuts;
  reads = map (with_hit (record_value r)) r.reads;
}

-- any parts as a record: each list in order, each number once, and each read with the hit that it has in this record
abbrev pub settled : Parts → Parts
settled r = with_present_hits (parts_in_order r)

-- each list is in order, no number stands twice in one, and each read was last given the hit that it has
pub record IsSettled (r : Parts) : Type 0 where
  pub puts : IsInOrder put_key r.puts
  pub cuts : IsInOrder cut_key r.cuts
  pub reads : IsInOrder read_key r.reads
  pub puts_once : AreDistinct put_key r.puts
  pub cuts_once : AreDistinct cut_key r.cuts
  pub reads_once : AreDistinct read_key r.reads
  pub hits : AllByRecursion (λ q. q.hit ≡ record_hit r q) r.reads

-- each read can be given one more hit
abbrev pub HaveTurns : List ReadRow → Type 0
HaveTurns reads = AllByRecursion (λ (q : ReadRow). q.turn < 2 ^ 63) reads

-- how many rows there are, at most the end of 64 bits
abbrev pub kept_of : Parts → ℕ
kept_of r = min (length r.puts + length r.cuts + length r.reads) (2 ^ 64 - 1)
