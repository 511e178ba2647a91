-- What a record is after a period was begun or ended, or a withdrawn write or an early cut came.
use Rattle.std.proofs.Common.{◌≡◌, ℕ, zero, suc, ◌<◌, ◌≤◌, take, nat_lt, Bool, true, false, cond, not, ◌||◌, Option, None, Some, List, [], ◌∷◌, ◌++◌, length, get_or, map, refl, arith, append_assoc, ap, sym, ◌∙◌, subst}
use Rattle.std.specs.List.{AllByRecursion}
use Rattle.std.specs.Option.{option_to_list}
use Rattle.std.proofs.lemmas.Bool.{or_parts}
use Rattle.std.proofs.lemmas.Bool.Decides.{nat_tests}
use Rattle.pm_base.specs.Changes.{applied}
use Rattle.pm_base.specs.Stamps.{num_eq, stamp_lt}
use Rattle.pm_base.specs.declared.rows.CutRow.{CutRow}
use Rattle.pm_base.specs.declared.rows.GiveRow.{GiveRow}
use Rattle.pm_base.specs.declared.rows.Parts.{Parts}
use Rattle.pm_base.specs.declared.rows.PutRow.{PutRow}
use Rattle.pm_base.specs.declared.rows.ReadRow.{ReadRow}
use Rattle.pm_base.specs.declared.stamp.Line.{Line}
use Rattle.pm_base.specs.declared.stamp.Line.TheVariants as line
use Rattle.pm_base.specs.declared.stamp.Num.{Num}
use Rattle.pm_base.specs.declared.stamp.Stamp.{Stamp}
use Rattle.pm_base.specs.declared.value.Value.{Value}
use Rattle.pm_periods.specs.Inner.{AreSound, parts_by}
use Rattle.pm_periods.specs.Laid.{AreLaid, AreOrdered, Begin, BeginAtBase, IsBehindPut, IsNamed, IsUpToPut, Stand, base_of, begun, cut_of, is_later, is_of, puts_of, reads_of, renewed, told, value_under, withdrawn_of}
use Rattle.pm_periods.specs.Records.{after_put, changed_hits, changed_of, fresh_read, gives_of_put, is_live, record_value, refreshed, value_below, with_put}
use Rattle.pm_periods.specs.Rows.{AreDistinct, add_row, add_rows, cut_key, has_num, put_key}
use Rattle.pm_periods.specs.declared.held.Held.{Held}
use Rattle.pm_periods.specs.declared.record.Withdrawal.{Withdrawal}
use Rattle.pm_periods.proofs.Keys.{num_eq-self}
use Rattle.pm_periods.proofs.Laid.{each_join, renewed-laid, renewed-ordered, renewed-puts, renewed-stand, renewed_reads}
use Rattle.pm_periods.proofs.Receipts.{each_append, each_to}
use Rattle.pm_periods.proofs.Sorting.{apart_from, has_num-sorted}
use Rattle.pm_periods.proofs.Splits.{add_rows-among, begun-ordered, begun-puts, begun-reads, begun-renewed, begun-stand, distinct-among, has_num-append, lower, puts-ordered, puts_of-append, upper, value_of-puts}

pub each_all : {X : Type 0} (P : X → Type 0) → ((x : X) → P x) → (xs : List X) → AllByRecursion P xs
each_all P f [] = tt
each_all P f (x ∷ xs) = (f x, each_all P f xs)

distinct-prefix : (xs ys : List PutRow) → AreDistinct put_key (xs ++ ys) → AreDistinct put_key xs
distinct-prefix [] ys d = tt
distinct-prefix (x ∷ xs) ys d = ((or_parts (has_num put_key x.num xs) (has_num put_key x.num ys) (sym (has_num-append put_key x.num xs ys) ∙ d.0)).0, distinct-prefix xs ys d.1)

or_swap : (a b c : Bool) → (a || (b || c)) ≡ ((a || b) || c)
or_swap true b c = refl
or_swap false b c = refl

pub has_one : (n : Num) (o : Option PutRow) (ps : List PutRow) → has_num put_key n (option_to_list o ++ ps) ≡ (is_of n o || has_num put_key n ps)
has_one n None ps = refl
has_one n (Some p) ps = refl

-- no period before the place is begun by a put of that number, and the one there is, if there is one
pub place_has : (n : Num) (hs : List Held) (at : ℕ) → at ≤ length hs → ((d : Held) → at < length hs → is_of n (get_or hs at d).put ≡ true) → AllByRecursion (λ (h : Held). is_of n h.put ≡ false) (take at hs) → has_num put_key n (puts_of hs) ≡ nat_lt at (length hs)
place_has n [] zero le f a = refl
place_has n [] (suc at) le f a = absurd (omega arith)
place_has n (h ∷ hs) zero le f a = has_one n h.put (puts_of hs) ∙ (ap (λ b. b || has_num put_key n (puts_of hs)) (f h (omega arith)) ∙ (let e : nat_lt 0 (suc (length hs)) ≡ true = grind (arith, nat_tests) in sym e))
place_has n (h ∷ hs) (suc at) le f a =
    let again = place_has n hs at (omega arith) (λ d lt. f d (omega arith)) a.1 in
    has_one n h.put (puts_of hs) ∙ (ap (λ b. b || has_num put_key n (puts_of hs)) a.0 ∙ (again ∙ one_up at (length hs)))
  where
    one_up : (a b : ℕ) → nat_lt a b ≡ nat_lt (suc a) (suc b)
    one_up a b = grind (arith, nat_tests)

-- the withdrawn puts are live no more
dead_in : (all ws : List Withdrawal) → ((n : Num) → has_num cut_key n (map cut_of ws) ≡ true → has_num cut_key n (map cut_of all) ≡ true) → AllByRecursion (λ (w : Withdrawal). IsNamed w.cut.num w.put) ws
    → AllByRecursion (λ (p : PutRow). is_live (map cut_of all) p ≡ false) (withdrawn_of ws)
dead_in all [] h a = tt
dead_in all (w ∷ ws) h a = one w.put a.0 (dead_in all ws (λ n e. h n (or_right (num_eq n w.cut.num) (has_num cut_key n (map cut_of ws)) e)) a.1)
  where
    or_right : (a b : Bool) → b ≡ true → (a || b) ≡ true
    or_right true b e = refl
    or_right false b e = e

    or_left : (a b : Bool) → a ≡ true → (a || b) ≡ true
    or_left true b e = refl
    or_left false b e = absurd cc

    one : (o : Option PutRow) → IsNamed w.cut.num o → AllByRecursion (λ (p : PutRow). is_live (map cut_of all) p ≡ false) (withdrawn_of ws) → AllByRecursion (λ (p : PutRow). is_live (map cut_of all) p ≡ false) (option_to_list o ++ withdrawn_of ws)
    one None b c = c
    one (Some p) b c = (ap not (h p.num (or_left (num_eq p.num w.cut.num) (has_num cut_key p.num (map cut_of ws)) (ap (λ n. num_eq n w.cut.num) b ∙ num_eq-self w.cut.num))), c)

pub dead_of : (ws : List Withdrawal) → AllByRecursion (λ (w : Withdrawal). IsNamed w.cut.num w.put) ws → AllByRecursion (λ (p : PutRow). is_live (map cut_of ws) p ≡ false) (withdrawn_of ws)
dead_of ws a = dead_in ws ws (λ n e. e) a

pub live_of : (cuts : List CutRow) (ps : List PutRow) → AllByRecursion (λ (p : PutRow). has_num cut_key p.num cuts ≡ false) ps → AllByRecursion (λ (p : PutRow). is_live cuts p ≡ true) ps
live_of cuts ps a = each_to (λ (p : PutRow). has_num cut_key p.num cuts ≡ false) (λ (p : PutRow). is_live cuts p ≡ true) (λ p e. ap not e) ps a

pub puts_once : (hs : List Held) (ws : List Withdrawal) → AreDistinct put_key (puts_of hs ++ withdrawn_of ws) → AreDistinct put_key (puts_of hs)
puts_once hs ws d = distinct-prefix (puts_of hs) (withdrawn_of ws) d

-- what a sound record sees is what its periods' writes make
pub sound_sees : (hs : List Held) (ws : List Withdrawal) → AreSound hs ws → (l : Line) → value_below (parts_by hs ws) l ≡ value_under l (puts_of hs) (base_of hs)
sound_sees hs ws s l = value_of-puts (base_of hs) (puts_of hs) (withdrawn_of ws) (map cut_of ws) (reads_of hs) l (puts-ordered hs s.order) (distinct-prefix (puts_of hs) (withdrawn_of ws) s.once) (live_of (map cut_of ws) (puts_of hs) s.live) (dead_of ws s.named)

-- Periods that stand in order, whatever their values, once the base is seen before them: the record is refreshed.
module _ (var : ℕ) (base : Value) (mid : List Held) (ws : List Withdrawal) (r1 : Parts) (stand : Stand mid) (order : AreOrdered mid) (once : AreDistinct put_key (puts_of mid ++ withdrawn_of ws)) (live : AllByRecursion (λ (p : PutRow). has_num cut_key p.num (map cut_of ws) ≡ false) (puts_of mid))
    (named : AllByRecursion (λ (w : Withdrawal). IsNamed w.cut.num w.put) ws) (is : r1 ≡ record { base = base; puts = add_rows put_key [] (puts_of mid ++ withdrawn_of ws); cuts = map cut_of ws; reads = reads_of mid })
    (begins : BeginAtBase (renewed base mid)) (first : base_of (renewed base mid) ≡ base) where
  refreshed_sees : (s : Stamp) → record_value r1 s ≡ value_under (line.At s) (puts_of mid) base
  refreshed_sees s = ap (λ z. record_value z s) is ∙ value_of-puts base (puts_of mid) (withdrawn_of ws) (map cut_of ws) (reads_of mid) (line.At s) (puts-ordered mid order) (distinct-prefix (puts_of mid) (withdrawn_of ws) once) (live_of (map cut_of ws) (puts_of mid) live) (dead_of ws named)

  reads : (reads_of (renewed base mid) ≡ map (fresh_read (record_value r1)) (reads_of mid)) × (told var base mid ≡ changed_of var (record_value r1) (reads_of mid))
  reads = renewed_reads var (record_value r1) base mid stand (each_all (λ (q : ReadRow). record_value r1 q.stamp ≡ value_under (line.At q.stamp) (puts_of mid) base) (λ q. refreshed_sees q.stamp) (reads_of mid))

  pub renewed_parts : parts_by (renewed base mid) ws ≡ refreshed r1
  renewed_parts =
      let puts = ap (λ z. add_rows put_key [] (z ++ withdrawn_of ws)) (renewed-puts base mid) ∙ sym (ap (λ (z : Parts). z.puts) is) in
      let is_base = first ∙ sym (ap (λ (z : Parts). z.base) is) in
      let cuts = sym (ap (λ (z : Parts). z.cuts) is) in
      let now = (reads).0 ∙ ap (map (fresh_read (record_value r1))) (sym (ap (λ (z : Parts). z.reads) is)) in
      λ i. record { base = is_base i; puts = puts i; cuts = cuts i; reads = now i }

  pub renewed_gives : told var base mid ≡ changed_hits var r1
  renewed_gives = (reads).1 ∙ ap (changed_of var (record_value r1)) (sym (ap (λ (z : Parts). z.reads) is))

  pub renewed_sound : AreSound (renewed base mid) ws
  renewed_sound = record {
    begins = begins;
    stand = renewed-stand base mid stand;
    laid = subst (λ z. AreLaid z (renewed base mid)) (sym first) (renewed-laid base mid);
    order = renewed-ordered base mid order;
    once = subst (λ z. AreDistinct put_key (z ++ withdrawn_of ws)) (sym (renewed-puts base mid)) once;
    live = subst (AllByRecursion (λ (p : PutRow). has_num cut_key p.num (map cut_of ws) ≡ false)) (sym (renewed-puts base mid)) live;
    named = named;
  }

pub base_mid : (xs : List Held) (h k : Held) (ys zs : List Held) → h.value ≡ k.value → base_of (xs ++ h ∷ ys) ≡ base_of (xs ++ k ∷ zs)
base_mid [] h k ys zs e = e
base_mid (x ∷ xs) h k ys zs e = refl

pub begins_mid : (xs : List Held) (h k : Held) (ys zs : List Held) → h.put ≡ k.put → BeginAtBase (xs ++ h ∷ ys) → BeginAtBase (xs ++ k ∷ zs)
begins_mid [] h k ys zs e b = sym e ∙ b
begins_mid (x ∷ xs) h k ys zs e b = b

-- A write begins a period.
module _ (var : ℕ) (before : List Held) (period : Held) (behind : List Held) (early late : List ReadRow) (split : period.reads ≡ early ++ late) (ws : List Withdrawal) (s : AreSound (before ++ period ∷ behind) ws) (p : PutRow)
    (fresh : has_num put_key p.num (puts_of (before ++ period ∷ behind) ++ withdrawn_of ws) ≡ false) (uncut : has_num cut_key p.num (map cut_of ws) ≡ false)
    (unseen : AllByRecursion (λ (q : ReadRow). stamp_lt p.stamp q.stamp ≡ false) early) (seen : AllByRecursion (λ (q : ReadRow). stamp_lt p.stamp q.stamp ≡ true) late)
    (up_to : AllByRecursion (IsUpToPut p) (before ++ period ∷ [])) (later : AllByRecursion (IsBehindPut p) behind) where
  abbrev old : List Held
  old = before ++ period ∷ behind

  abbrev mid : List Held
  mid = before ++ lower p period early late split ∷ (upper p period early late split ∷ behind)

  abbrev r : Parts
  r = parts_by old ws

  abbrev front : List PutRow
  front = puts_of (before ++ period ∷ [])

  abbrev rest : List PutRow
  rest = puts_of behind ++ withdrawn_of ws

  old_puts : puts_of old ++ withdrawn_of ws ≡ front ++ rest
  old_puts = ap (λ z. puts_of z ++ withdrawn_of ws) (sym (append_assoc before (period ∷ []) behind)) ∙ (ap (λ z. z ++ withdrawn_of ws) (puts_of-append (before ++ period ∷ []) behind) ∙ append_assoc front (puts_of behind) (withdrawn_of ws))

  mid_puts : puts_of mid ++ withdrawn_of ws ≡ front ++ p ∷ rest
  mid_puts = ap (λ z. z ++ withdrawn_of ws) (begun-puts p period early late split before behind) ∙ append_assoc front (p ∷ puts_of behind) (withdrawn_of ws)

  none : has_num put_key p.num (front ++ rest) ≡ false
  none = ap (has_num put_key p.num) (sym old_puts) ∙ fresh

  listed : add_rows put_key [] (puts_of mid ++ withdrawn_of ws) ≡ add_row put_key p (add_rows put_key [] (puts_of old ++ withdrawn_of ws))
  listed =
      let behind_it = (or_parts (has_num put_key p.num front) (has_num put_key p.num rest) (sym (has_num-append put_key p.num front rest) ∙ none)).1 in
      ap (add_rows put_key []) mid_puts ∙ (add_rows-among put_key p front rest (apart_from p rest behind_it) ∙ ap (λ z. add_row put_key p (add_rows put_key [] z)) (sym old_puts))

  last_up_to : (xs : List Held) → AllByRecursion (IsUpToPut p) (xs ++ period ∷ []) → is_later p period.put ≡ false
  last_up_to [] a = a.0
  last_up_to (x ∷ xs) a = last_up_to xs a.1

  abbrev tail : List Held
  tail = begun p period.value late ∷ renewed (applied p.change period.value) behind

  begun_is : renewed (base_of old) mid ≡ before ++ lower p period early late split ∷ tail
  begun_is = (begun-renewed p period early late split var (base_of old) before behind s.laid).0

  live_mid : AllByRecursion (λ (q : PutRow). has_num cut_key q.num (map cut_of ws) ≡ false) (puts_of mid)
  live_mid =
      let all = subst (AllByRecursion (λ (q : PutRow). has_num cut_key q.num (map cut_of ws) ≡ false)) (ap puts_of (sym (append_assoc before (period ∷ []) behind)) ∙ puts_of-append (before ++ period ∷ []) behind) s.live in
      let two = each_append (λ (q : PutRow). has_num cut_key q.num (map cut_of ws) ≡ false) front (puts_of behind) all in
      subst (AllByRecursion (λ (q : PutRow). has_num cut_key q.num (map cut_of ws) ≡ false)) (sym (begun-puts p period early late split before behind)) (each_join (λ (q : PutRow). has_num cut_key q.num (map cut_of ws) ≡ false) front (p ∷ puts_of behind) two.0 (uncut, two.1))

  -- the record, and what is given
  pub put_whole : (parts_by (renewed (base_of old) mid) ws ≡ after_put p r) × (told var (base_of old) mid ≡ gives_of_put var p r) × AreSound (renewed (base_of old) mid) ws
  put_whole =
      let base = base_of old in
      let stand = begun-stand p period early late split unseen seen before behind (last_up_to before up_to) later s.stand in
      let order = begun-ordered p period early late split before behind up_to later s.order in
      let once = subst (AreDistinct put_key) (sym mid_puts) (distinct-among put_key p front rest (subst (AreDistinct put_key) old_puts s.once) none) in
      let is : with_put p r ≡ record { base = base; puts = add_rows put_key [] (puts_of mid ++ withdrawn_of ws); cuts = map cut_of ws; reads = reads_of mid } =
      λ i. record { base = base; puts = sym listed i; cuts = map cut_of ws; reads = sym (begun-reads p period early late split before behind) i } in
      let first : base_of (renewed base mid) ≡ base = ap base_of begun_is ∙ base_mid before (lower p period early late split) period tail behind refl in
      let begins : BeginAtBase (renewed base mid) = subst BeginAtBase (sym begun_is) (begins_mid before period (lower p period early late split) behind tail refl s.begins) in
      let known : has_num put_key p.num r.puts ≡ false = has_num-sorted put_key put_key p.num (puts_of old ++ withdrawn_of ws) ∙ fresh in (
        renewed_parts var base mid ws (with_put p r) stand order once live_mid s.named is begins first ∙ ap (λ b. cond b r (refreshed (with_put p r))) (sym known),
        renewed_gives var base mid ws (with_put p r) stand order once live_mid s.named is begins first ∙ ap (λ b. cond b [] (changed_hits var (with_put p r))) (sym known),
        renewed_sound var base mid ws (with_put p r) stand order once live_mid s.named is begins first,
      )

-- a record with one more live put
pub begin_whole : (var : ℕ) (hs : List Held) (ws : List Withdrawal) → AreSound hs ws → (p : PutRow) → has_num put_key p.num (puts_of hs ++ withdrawn_of ws) ≡ false → has_num cut_key p.num (map cut_of ws) ≡ false
    → (new : List Held) (gives : List GiveRow) → Begin var p hs new gives → (parts_by new ws ≡ after_put p (parts_by hs ws)) × (gives ≡ gives_of_put var p (parts_by hs ws)) × AreSound new ws
begin_whole var hs ws s p fresh uncut new gives b =
    let old : List Held = b.before ++ b.period ∷ b.behind in
    let s' = subst (λ z. AreSound z ws) b.was s in
    let fresh' = subst (λ z. has_num put_key p.num (puts_of z ++ withdrawn_of ws) ≡ false) b.was fresh in
    let all = put_whole var b.before b.period b.behind b.early b.late b.split ws s' p fresh' uncut b.unseen b.seen b.up_to b.later in
    let begun = begun-renewed p b.period b.early b.late b.split var (base_of old) b.before b.behind s'.laid in
    let new_is = b.is ∙ sym begun.0 in (
      ap (λ z. parts_by z ws) new_is ∙ (all.0 ∙ ap (λ z. after_put p (parts_by z ws)) (sym b.was)),
      b.gives_are ∙ (sym begun.1 ∙ (all.1 ∙ ap (λ z. gives_of_put var p (parts_by z ws)) (sym b.was))),
      subst (λ z. AreSound z ws) (sym new_is) all.2,
    )
