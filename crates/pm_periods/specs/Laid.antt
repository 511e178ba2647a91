-- The periods that a record holds: what they hold, where each read stands, and what is seen in them.
use Rattle.std.specs.Prelude.{◌≡◌, ℕ, ◌++◌, Bool, true, false, not, pos, Option, Some, None, if◌then◌else◌, ◌||◌, is_some, List, [], ◌∷◌, map, filter}
use Rattle.std.specs.List.{AllByRecursion}
use Rattle.std.specs.Option.{option_to_list}
use Rattle.pm_base.specs.Changes.{applied}
use Rattle.pm_base.specs.Stamps.{is_below, num_eq, stamp_lt}
use Rattle.pm_base.specs.declared.rows.CutRow.{CutRow}
use Rattle.pm_base.specs.declared.rows.GiveRow.{GiveRow}
use Rattle.pm_base.specs.declared.rows.PutRow.{PutRow}
use Rattle.pm_base.specs.declared.rows.ReadRow.{ReadRow}
use Rattle.pm_base.specs.declared.stamp.Line.{Line}
use Rattle.pm_base.specs.declared.stamp.Line.TheVariants as line
use Rattle.pm_base.specs.declared.stamp.Num.{Num}
use Rattle.pm_base.specs.declared.stamp.Stamp.{Stamp}
use Rattle.pm_base.specs.declared.value.Value.{Value}
use Rattle.pm_periods.specs.Records.{changed_of, fresh_read, hit_in, put_stays, read_stays, value_after}
use Rattle.pm_periods.specs.Rows.{add_row, cut_key, key_lt, read_key, value_key}
use Rattle.pm_periods.specs.declared.held.Held.{Held}
use Rattle.pm_periods.specs.declared.record.Withdrawal.{Withdrawal}
use Rattle.pm_periods.specs.declared.rows.RowKey.{RowKey}

-- the writes that begin these periods
abbrev pub puts_of : List Held → List PutRow
puts_of [] = []
puts_of (h ∷ hs) = option_to_list h.put ++ puts_of hs

-- the reads made in them
abbrev pub reads_of : List Held → List ReadRow
reads_of [] = []
reads_of (h ∷ hs) = h.reads ++ reads_of hs

-- what is seen in the first of them
abbrev pub base_of : List Held → Value
base_of [] = record { x = pos 0; y = pos 0 }
base_of (h ∷ hs) = h.value

-- the cut of a withdrawal
abbrev pub cut_of : Withdrawal → CutRow
cut_of w = w.cut

-- a withdrawal stands where its cut does
abbrev pub withdrawal_key : Withdrawal → RowKey
withdrawal_key w = cut_key w.cut

-- the puts that are withdrawn
abbrev pub withdrawn_of : List Withdrawal → List PutRow
withdrawn_of [] = []
withdrawn_of (w ∷ ws) = option_to_list w.put ++ withdrawn_of ws

-- a value after a write, where there is one
abbrev pub changed : Option PutRow → Value → Value
changed None v = v
changed (Some p) v = applied p.change v

-- a read at the stamp sees the write, where there is one
abbrev pub Sees : Option PutRow → Stamp → Type 0
Sees None s = Unit {0}
Sees (Some p) s = stamp_lt p.stamp s ≡ true

-- there is a write, and a read at the stamp doesn't see it
abbrev pub Unseen : Option PutRow → Stamp → Type 0
Unseen None s = ⊥
Unseen (Some p) s = stamp_lt p.stamp s ≡ false

-- a read at the stamp sees no write of these periods
abbrev pub SeesNone : List Held → Stamp → Type 0
SeesNone hs s = AllByRecursion (λ (h : Held). Unseen h.put s) hs

-- each read sees the write of its period and those before it, and none behind it
abbrev pub Stand : List Held → Type 0
Stand [] = Unit {0}
Stand (h ∷ hs) =
    AllByRecursion (λ (q : ReadRow). Sees h.put q.stamp) (h.reads ++ reads_of hs) × AllByRecursion (λ (q : ReadRow). SeesNone hs q.stamp) h.reads × Stand hs

-- each period has the value that its write makes of the one before it, and each of its reads was last given the hit of
-- that value
abbrev pub AreLaid : Value → List Held → Type 0
AreLaid v [] = Unit {0}
AreLaid v (h ∷ hs) =
    (h.value ≡ changed h.put v) × AllByRecursion (λ (q : ReadRow). q.hit ≡ hit_in h.value q.window) h.reads × AreLaid h.value hs

-- the same, whatever is seen before them
abbrev pub AreLinked : List Held → Type 0
AreLinked [] = Unit {0}
AreLinked (h ∷ hs) = AllByRecursion (λ (q : ReadRow). q.hit ≡ hit_in h.value q.window) h.reads × AreLaid h.value hs

-- the first period has no write
abbrev pub BeginAtBase : List Held → Type 0
BeginAtBase [] = ⊥
BeginAtBase (h ∷ hs) = h.put ≡ None

-- there is a write, and it doesn't change the value before the other one, if there is that
abbrev pub IsNotBefore : Option PutRow → Option PutRow → Type 0
IsNotBefore None o = ⊥
IsNotBefore (Some q) None = Unit {0}
IsNotBefore (Some q) (Some p) = key_lt (value_key q) (value_key p) ≡ false

-- the periods stand in the order in which their writes change the value; each but the first has one
abbrev pub AreOrdered : List Held → Type 0
AreOrdered [] = Unit {0}
AreOrdered (h ∷ hs) = AllByRecursion (λ (k : Held). IsNotBefore k.put h.put) hs × AreOrdered hs

-- a value after the writes below the line
abbrev pub value_under : Line → List PutRow → Value → Value
value_under l ps v = value_after (filter (λ (p : PutRow). is_below p.stamp l) ps) v

-- the put that is withdrawn has the number that its cut names
abbrev pub IsNamed : Num → Option PutRow → Type 0
IsNamed n None = Unit {0}
IsNamed n (Some p) = p.num ≡ n

-- whether there is a write, of that number
abbrev pub is_of : Num → Option PutRow → Bool
is_of n None = false
is_of n (Some p) = num_eq n p.num

-- the period with this value, each of its reads given the hit of it
abbrev pub renewed_one : Value → Held → Held
renewed_one v h = record { put = h.put; value = v; reads = map (fresh_read (λ _. v)) h.reads }

-- the periods where this value is seen before them
abbrev pub renewed : Value → List Held → List Held
renewed v [] = []
renewed v (h ∷ hs) = renewed_one (changed h.put v) h ∷ renewed (changed h.put v) hs

-- the hits that change so
abbrev pub told : ℕ → Value → List Held → List GiveRow
told var v [] = []
told var v (h ∷ hs) = changed_of var (λ _. changed h.put v) h.reads ++ told var (changed h.put v) hs

-- whether the write of a period changes the value after this one
abbrev pub is_later : PutRow → Option PutRow → Bool
is_later p None = false
is_later p (Some q) = key_lt (value_key p) (value_key q)

-- the write of the period changes the value no later than this one, if it has one
abbrev pub IsUpToPut : PutRow → Held → Type 0
IsUpToPut p h = is_later p h.put ≡ false

-- and it changes it later
abbrev pub IsBehindPut : PutRow → Held → Type 0
IsBehindPut p h = is_later p h.put ≡ true

-- whether a period begins below the line
abbrev pub begins_below : Line → Option PutRow → Bool
begins_below l None = true
begins_below l (Some p) = is_below p.stamp l

-- the period with these reads
abbrev pub with_reads : List ReadRow → Held → Held
with_reads qs h = record { put = h.put; value = h.value; reads = qs }

-- the period that a write begins where this value is seen before it
abbrev pub begun : PutRow → Value → List ReadRow → Held
begun p v qs = record { put = Some p; value = applied p.change v; reads = map (fresh_read (λ _. applied p.change v)) qs }

-- the periods, once a write began one: it takes the reads that see it out of the period before it
pub record Begin (var : ℕ) (p : PutRow) (old new : List Held) (gives : List GiveRow) : Type 0 where
  pub before : List Held
  pub period : Held
  pub behind : List Held
  pub early : List ReadRow
  pub late : List ReadRow
  pub was : old ≡ before ++ period ∷ behind
  pub split : period.reads ≡ early ++ late
  pub unseen : AllByRecursion (λ (q : ReadRow). stamp_lt p.stamp q.stamp ≡ false) early
  pub seen : AllByRecursion (λ (q : ReadRow). stamp_lt p.stamp q.stamp ≡ true) late
  pub up_to : AllByRecursion (IsUpToPut p) (before ++ period ∷ [])
  pub later : AllByRecursion (IsBehindPut p) behind
  pub is : new ≡ before ++ with_reads early period ∷ (begun p period.value late ∷ renewed (applied p.change period.value) behind)
  pub gives_are : gives ≡ changed_of var (λ _. applied p.change period.value) late ++ told var (applied p.change period.value) behind

-- the cut of that number with the put that it names
abbrev pub withdrawal : CutRow → PutRow → Withdrawal
withdrawal c p = record { cut = c; put = Some p }

-- the periods, once the write of one is withdrawn: its reads fall to the one before it
pub record End (var : ℕ) (p : PutRow) (old new : List Held) (gives : List GiveRow) : Type 0 where
  pub before : List Held
  pub period : Held
  pub ended : Held
  pub behind : List Held
  pub was : old ≡ before ++ period ∷ (ended ∷ behind)
  pub put : ended.put ≡ Some p
  pub is : new ≡ before ++ with_reads (period.reads ++ map (fresh_read (λ _. period.value)) ended.reads) period ∷ renewed period.value behind
  pub gives_are : gives ≡ changed_of var (λ _. period.value) ended.reads ++ told var period.value behind

-- the periods with one read more, put in its place in the last period that begins below its stamp
pub record Entered (row : ReadRow) (old new : List Held) : Type 0 where
  pub before : List Held
  pub period : Held
  pub behind : List Held
  pub was : old ≡ before ++ period ∷ behind
  pub seen : AllByRecursion (λ (h : Held). begins_below (line.At row.stamp) h.put ≡ true) (before ++ period ∷ [])
  pub later : AllByRecursion (λ (h : Held). begins_below (line.At row.stamp) h.put ≡ false) behind
  pub is : new ≡ before ++ with_reads (add_row read_key row period.reads) period ∷ behind

-- the period that becomes the first at the line: what is seen at the line is the base then
abbrev pub trimmed_period : Line → Held → Held
trimmed_period l h = record { put = None; value = h.value; reads = filter (read_stays l) h.reads }

-- the periods after what is below the line was forgotten
pub record Trim (l : Line) (old new : List Held) : Type 0 where
  pub before : List Held
  pub period : Held
  pub behind : List Held
  pub was : old ≡ before ++ period ∷ behind
  pub below : AllByRecursion (λ (h : Held). begins_below l h.put ≡ true) (before ++ period ∷ [])
  pub later : AllByRecursion (λ (h : Held). begins_below l h.put ≡ false) behind
  pub is : new ≡ trimmed_period l period ∷ behind

-- the put where it isn't below the line
abbrev pub put_kept : Line → Option PutRow → Option PutRow
put_kept l None = None
put_kept l (Some p) = if put_stays l p then Some p else None

-- a withdrawal without its put where that is below the line
abbrev pub trimmed_withdrawal : Line → Withdrawal → Withdrawal
trimmed_withdrawal l w = record { cut = w.cut; put = put_kept l w.put }

-- the cut isn't below the line, or its put is kept
abbrev pub withdrawal_stays : Line → Withdrawal → Bool
withdrawal_stays l w = not (is_below w.cut.stamp l) || is_some w.put
