-- What a record is after a withdrawn write came, a cut before its write, or the cut of a live one.
use Rattle.std.proofs.Common.{◌≡◌, ℕ, zero, suc, ◌<◌, ◌≤◌, nat_lt, take, Bool, true, false, cond, not, ◌||◌, ◌&&◌, Option, None, Some, List, [], ◌∷◌, ◌++◌, length, get_or, set, map, refl, arith, append_assoc, ap, ap₂, sym, ◌∙◌, subst}
use Rattle.std.specs.List.{AllByRecursion}
use Rattle.std.specs.Option.{option_to_list}
use Rattle.std.proofs.lemmas.Bool.{or_parts}
use Rattle.std.proofs.lemmas.Bool.Decides.{nat_tests}
use Rattle.std.proofs.lemmas.List.{map-append}
use Rattle.pm_base.specs.Stamps.{num_eq, stamp_lt}
use Rattle.pm_base.specs.declared.rows.CutRow.{CutRow}
use Rattle.pm_base.specs.declared.rows.GiveRow.{GiveRow}
use Rattle.pm_base.specs.declared.rows.Parts.{Parts}
use Rattle.pm_base.specs.declared.rows.PutRow.{PutRow}
use Rattle.pm_base.specs.declared.rows.ReadRow.{ReadRow}
use Rattle.pm_base.specs.declared.stamp.Line.TheVariants as line
use Rattle.pm_base.specs.declared.stamp.Num.{Num}
use Rattle.pm_base.specs.declared.stamp.Stamp.{Stamp}
use Rattle.pm_base.specs.declared.value.Value.{Value}
use Rattle.pm_periods.specs.Inner.{AreSound, parts_by}
use Rattle.pm_periods.specs.Laid.{AreOrdered, BeginAtBase, End, IsNamed, IsNotBefore, Sees, SeesNone, Stand, base_of, changed, cut_of, is_of, puts_of, reads_of, renewed, renewed_one, told, with_reads, withdrawal, withdrawal_key, withdrawn_of}
use Rattle.pm_periods.specs.Places.{number_place}
use Rattle.pm_periods.specs.Records.{IsSettled, after_cut, after_put, changed_hits, changed_of, fresh_read, gives_of_cut, gives_of_put, hit_in, in_value_order, is_live, record_hit, record_value, refreshed, value_after, with_cut, with_put}
use Rattle.pm_periods.specs.Rows.{AreDistinct, IsInOrder, add_row, add_rows, cut_key, has_num, key_lt, put_key}
use Rattle.pm_periods.specs.declared.held.Held.{Held}
use Rattle.pm_periods.specs.declared.record.Withdrawal.{Withdrawal}
use Rattle.pm_periods.specs.declared.rows.RowKey.{RowKey}
use Rattle.pm_periods.proofs.Hits.{changed_of-append, fresh_all}
use Rattle.pm_periods.proofs.Keys.{num_eq-flip, num_eq-same, num_eq-self}
use Rattle.pm_periods.proofs.Laid.{each_join, end_value, laid-split, renewed-behind}
use Rattle.pm_periods.proofs.Numbers.{each_apart}
use Rattle.pm_periods.proofs.Ordered.{each_row, has_as_place, has_num-add_row}
use Rattle.pm_periods.proofs.Receipts.{each_append, each_to, map_add_row, seen_otherwise, value_without}
use Rattle.pm_periods.proofs.Sorting.{apart_from, has_num-sorted}
use Rattle.pm_periods.proofs.Splits.{add_rows-among, distinct-among, distinct-without, has_num-append, puts_of-append}
use Rattle.pm_periods.proofs.Wholes.{base_mid, begins_mid, place_has, renewed_gives, renewed_parts, renewed_sound}

pub withdrawn-append : (xs ys : List Withdrawal) → withdrawn_of (xs ++ ys) ≡ withdrawn_of xs ++ withdrawn_of ys
withdrawn-append [] ys = refl
withdrawn-append (x ∷ xs) ys = ap (λ z. option_to_list x.put ++ z) (withdrawn-append xs ys) ∙ sym (append_assoc (option_to_list x.put) (withdrawn_of xs) (withdrawn_of ys))

-- what changes nothing that is seen gives nothing
pub unseen_receipt : (var : ℕ) (r r1 : Parts) → ((s : Stamp) → record_value r1 s ≡ record_value r s) → r1.reads ≡ r.reads → AllByRecursion (λ (q : ReadRow). q.hit ≡ record_hit r q) r.reads
    → (refreshed r1 ≡ record { base = r1.base; puts = r1.puts; cuts = r1.cuts; reads = r.reads }) × (changed_hits var r1 ≡ [])
unseen_receipt var r r1 same e hits =
    let hits' = each_to (λ (q : ReadRow). q.hit ≡ record_hit r q) (λ (q : ReadRow). q.hit ≡ record_hit r1 q) (λ q h. h ∙ ap (λ v. hit_in v q.window) (sym (same q.stamp))) r.reads hits in
    let all = fresh_all var (record_value r1) r.reads hits' in
    ((λ i. record { base = r1.base; puts = r1.puts; cuts = r1.cuts; reads = (ap (map (fresh_read (record_value r1))) e ∙ all.0) i }), ap (changed_of var (record_value r1)) e ∙ all.1)

-- The write of a cut that came before it.

pub withheld : (p : PutRow) (ws : List Withdrawal) (d : Withdrawal) → number_place withdrawal_key p.num ws < length ws → has_num put_key p.num (withdrawn_of ws) ≡ false → AllByRecursion (λ (w : Withdrawal). IsNamed w.cut.num w.put) ws
    → (xs : List Withdrawal) × (w : Withdrawal) × (ys : List Withdrawal) × (ws ≡ xs ++ w ∷ ys) × (w.put ≡ None) × (w.cut.num ≡ p.num)
    × (set ws (number_place withdrawal_key p.num ws) (record { cut = (get_or ws (number_place withdrawal_key p.num ws) d).cut; put = Some p }) ≡ xs ++ withdrawal w.cut p ∷ ys)
withheld p [] d lt e a = absurd (omega arith)
withheld p (w ∷ ws) d lt e a = by (num_eq p.num w.cut.num) refl lt (λ l. withheld p ws d l (later w.put e) a.1)
  where
    later : (o : Option PutRow) → has_num put_key p.num (option_to_list o ++ withdrawn_of ws) ≡ false → has_num put_key p.num (withdrawn_of ws) ≡ false
    later None f = f
    later (Some q) f = (or_parts (num_eq p.num q.num) (has_num put_key p.num (withdrawn_of ws)) f).1

    free : (o : Option PutRow) → num_eq p.num w.cut.num ≡ true → IsNamed w.cut.num o → has_num put_key p.num (option_to_list o ++ withdrawn_of ws) ≡ false → o ≡ None
    free None f n h = refl
    free (Some q) f n h = absurd (let g = (or_parts (num_eq p.num q.num) (has_num put_key p.num (withdrawn_of ws)) h).0 in let k : num_eq p.num q.num ≡ true = ap (num_eq p.num) n ∙ f in cc)

    Goal : Bool → Type 0
    Goal b = (xs : List Withdrawal) × (v : Withdrawal) × (ys : List Withdrawal) × ((w ∷ ws) ≡ xs ++ v ∷ ys) × (v.put ≡ None) × (v.cut.num ≡ p.num)
        × (set (w ∷ ws) (cond b 0 (suc (number_place withdrawal_key p.num ws))) (record { cut = (get_or (w ∷ ws) (cond b 0 (suc (number_place withdrawal_key p.num ws))) d).cut; put = Some p }) ≡ xs ++ withdrawal v.cut p ∷ ys)

    Again : Type 0
    Again = (xs : List Withdrawal) × (v : Withdrawal) × (ys : List Withdrawal) × (ws ≡ xs ++ v ∷ ys) × (v.put ≡ None) × (v.cut.num ≡ p.num)
        × (set ws (number_place withdrawal_key p.num ws) (record { cut = (get_or ws (number_place withdrawal_key p.num ws) d).cut; put = Some p }) ≡ xs ++ withdrawal v.cut p ∷ ys)

    by : (b : Bool) → num_eq p.num w.cut.num ≡ b → cond b 0 (suc (number_place withdrawal_key p.num ws)) < length (w ∷ ws) → (number_place withdrawal_key p.num ws < length ws → Again) → Goal b
    by true f l again = ([], w, ws, refl, free w.put f a.0 e, sym (num_eq-same p.num w.cut.num f), refl)
    by false f l again = (let g = again (omega arith) in (w ∷ g.0, g.1, g.2, ap (λ z. w ∷ z) g.3, g.4, g.5, ap (λ z. w ∷ z) g.6))

module _ (var : ℕ) (hs : List Held) (xs : List Withdrawal) (w : Withdrawal) (ys : List Withdrawal) (free : w.put ≡ None) (p : PutRow) (of : w.cut.num ≡ p.num) (settled : IsSettled (parts_by hs (xs ++ w ∷ ys))) (s : AreSound hs (xs ++ w ∷ ys))
    (fresh : has_num put_key p.num (puts_of hs ++ withdrawn_of (xs ++ w ∷ ys)) ≡ false) where
  abbrev ws : List Withdrawal
  ws = xs ++ w ∷ ys

  abbrev ws' : List Withdrawal
  ws' = xs ++ withdrawal w.cut p ∷ ys

  abbrev front : List PutRow
  front = puts_of hs ++ withdrawn_of xs

  old_puts : puts_of hs ++ withdrawn_of ws ≡ front ++ withdrawn_of ys
  old_puts = ap (λ z. puts_of hs ++ z) (withdrawn-append xs (w ∷ ys) ∙ ap (λ o. withdrawn_of xs ++ (option_to_list o ++ withdrawn_of ys)) free) ∙ sym (append_assoc (puts_of hs) (withdrawn_of xs) (withdrawn_of ys))

  new_puts : puts_of hs ++ withdrawn_of ws' ≡ front ++ p ∷ withdrawn_of ys
  new_puts = ap (λ z. puts_of hs ++ z) (withdrawn-append xs (withdrawal w.cut p ∷ ys)) ∙ sym (append_assoc (puts_of hs) (withdrawn_of xs) (p ∷ withdrawn_of ys))

  none : has_num put_key p.num (front ++ withdrawn_of ys) ≡ false
  none = ap (has_num put_key p.num) (sym old_puts) ∙ fresh

  cuts_same : map cut_of ws' ≡ map cut_of ws
  cuts_same = map-append cut_of xs (withdrawal w.cut p ∷ ys) ∙ sym (map-append cut_of xs (w ∷ ys))

  has_cut : (zs : List Withdrawal) → has_num cut_key p.num (map cut_of (zs ++ w ∷ ys)) ≡ true
  has_cut [] = ap (λ b. b || has_num cut_key p.num (map cut_of ys)) (ap (num_eq p.num) of ∙ num_eq-self p.num)
  has_cut (z ∷ zs) = ap (λ b. num_eq p.num z.cut.num || b) (has_cut zs) ∙ or_true (num_eq p.num z.cut.num)
    where
      or_true : (a : Bool) → (a || true) ≡ true
      or_true true = refl
      or_true false = refl

  named_again : (zs : List Withdrawal) → AllByRecursion (λ (v : Withdrawal). IsNamed v.cut.num v.put) (zs ++ w ∷ ys) → AllByRecursion (λ (v : Withdrawal). IsNamed v.cut.num v.put) (zs ++ withdrawal w.cut p ∷ ys)
  named_again [] a = (sym of, a.1)
  named_again (z ∷ zs) a = (a.0, named_again zs a.1)

  pub withheld_whole : (parts_by hs ws' ≡ after_put p (parts_by hs ws)) × ([] ≡ gives_of_put var p (parts_by hs ws)) × AreSound hs ws'
  withheld_whole =
      let r = parts_by hs ws in
      let known : has_num put_key p.num r.puts ≡ false = has_num-sorted put_key put_key p.num (puts_of hs ++ withdrawn_of ws) ∙ fresh in
      let apart = (or_parts (has_num put_key p.num front) (has_num put_key p.num (withdrawn_of ys)) (sym (has_num-append put_key p.num front (withdrawn_of ys)) ∙ none)).1 in
      let listed : add_rows put_key [] (puts_of hs ++ withdrawn_of ws') ≡ add_row put_key p (add_rows put_key [] (puts_of hs ++ withdrawn_of ws)) =
      ap (add_rows put_key []) new_puts ∙ (add_rows-among put_key p front (withdrawn_of ys) (apart_from p (withdrawn_of ys) apart) ∙ ap (λ z. add_row put_key p (add_rows put_key [] z)) (sym old_puts)) in
      let dead : is_live (map cut_of ws) p ≡ false = ap not (has_cut xs) in
      let same : (t : Stamp) → record_value (with_put p r) t ≡ record_value r t = λ t. value_without p r (line.At t) (ap (λ b. b && stamp_lt p.stamp t) dead) in
      let done = unseen_receipt var r (with_put p r) same refl settled.hits in (
        (λ i. record { base = base_of hs; puts = listed i; cuts = cuts_same i; reads = reads_of hs }) ∙ (sym done.0 ∙ ap (λ b. cond b r (refreshed (with_put p r))) (sym known)),
        sym done.1 ∙ ap (λ b. cond b [] (changed_hits var (with_put p r))) (sym known),
        record {
          begins = s.begins;
          stand = s.stand;
          laid = s.laid;
          order = s.order;
          once = subst (AreDistinct put_key) (sym new_puts) (distinct-among put_key p front (withdrawn_of ys) (subst (AreDistinct put_key) old_puts s.once) none);
          live = subst (λ z. AllByRecursion (λ (q : PutRow). has_num cut_key q.num z ≡ false) (puts_of hs)) (sym cuts_same) s.live;
          named = named_again xs s.named;
        },
      )

-- A cut that comes before its write.

-- a row's place among others
pub row-placed : {X : Type 0} (key : X → RowKey) (r : X) (xs : List X) → (fs : List X) × (bs : List X) × (xs ≡ fs ++ bs) × (add_row key r xs ≡ fs ++ r ∷ bs)
row-placed key r [] = ([], [], refl, refl)
row-placed {X = X} key r (x ∷ xs) = by (key_lt (key r) (key x)) (row-placed key r xs)
  where
    by : (b : Bool) → (fs : List X) × (bs : List X) × (xs ≡ fs ++ bs) × (add_row key r xs ≡ fs ++ r ∷ bs) → (fs : List X) × (bs : List X) × ((x ∷ xs) ≡ fs ++ bs) × (cond b (r ∷ (x ∷ xs)) (x ∷ add_row key r xs) ≡ fs ++ r ∷ bs)
    by true again = ([], x ∷ xs, refl, refl)
    by false again = (x ∷ again.0, again.1, ap (λ z. x ∷ z) again.2, ap (λ z. x ∷ z) again.3)

pub withdrawn-none : (n : Num) (ws : List Withdrawal) → AllByRecursion (λ (w : Withdrawal). IsNamed w.cut.num w.put) ws → has_num cut_key n (map cut_of ws) ≡ false → has_num put_key n (withdrawn_of ws) ≡ false
withdrawn-none n [] a e = refl
withdrawn-none n (w ∷ ws) a e = (let o = or_parts (num_eq n w.cut.num) (has_num cut_key n (map cut_of ws)) e in one w.put a.0 o.0 (withdrawn-none n ws a.1 o.1))
  where
    one : (o : Option PutRow) → IsNamed w.cut.num o → num_eq n w.cut.num ≡ false → has_num put_key n (withdrawn_of ws) ≡ false → has_num put_key n (option_to_list o ++ withdrawn_of ws) ≡ false
    one None b f again = again
    one (Some q) b f again = ap₂ (λ x y. x || y) (ap (num_eq n) b ∙ f) again

pub cuts-added : (w : Withdrawal) (ws : List Withdrawal) → map cut_of (add_row withdrawal_key w ws) ≡ add_row cut_key w.cut (map cut_of ws)
cuts-added w ws = map_add_row cut_of withdrawal_key cut_key (λ v. refl) w ws

live-added : (c : CutRow) (cuts : List CutRow) (ps : List PutRow) → has_num put_key c.num ps ≡ false → AllByRecursion (λ (p : PutRow). has_num cut_key p.num cuts ≡ false) ps → AllByRecursion (λ (p : PutRow). has_num cut_key p.num (add_row cut_key c cuts) ≡ false) ps
live-added c cuts [] e a = tt
live-added c cuts (p ∷ ps) e a =
    let o = or_parts (num_eq c.num p.num) (has_num put_key c.num ps) e in
    (has_num-add_row cut_key p.num c cuts ∙ ap₂ (λ x y. x || y) (num_eq-flip c.num p.num o.0) a.0, live-added c cuts ps o.1 a.1)

pub early_whole : (var : ℕ) (hs : List Held) (ws : List Withdrawal) → IsSettled (parts_by hs ws) → AreSound hs ws → (c : CutRow) → has_num cut_key c.num (map cut_of ws) ≡ false → has_num put_key c.num (puts_of hs) ≡ false
    → (parts_by hs (add_row withdrawal_key (record { cut = c; put = None }) ws) ≡ after_cut c (parts_by hs ws)) × ([] ≡ gives_of_cut var c (parts_by hs ws)) × AreSound hs (add_row withdrawal_key (record { cut = c; put = None }) ws)
early_whole var hs ws settled s c new unput =
    let r = parts_by hs ws in
    let w : Withdrawal = record { cut = c; put = None } in
    let ws' = add_row withdrawal_key w ws in
    let placed = row-placed withdrawal_key w ws in
    let same_puts : withdrawn_of ws' ≡ withdrawn_of ws = ap withdrawn_of placed.3 ∙ (withdrawn-append placed.0 (w ∷ placed.1) ∙ (sym (withdrawn-append placed.0 placed.1) ∙ ap withdrawn_of (sym placed.2))) in
    let none : has_num put_key c.num r.puts ≡ false = has_num-sorted put_key put_key c.num (puts_of hs ++ withdrawn_of ws) ∙ (has_num-append put_key c.num (puts_of hs) (withdrawn_of ws) ∙ ap₂ (λ x y. x || y) unput (withdrawn-none c.num ws s.named new)) in
    let same : (t : Stamp) → record_value (with_cut c r) t ≡ record_value r t =
    λ t. ap (λ z. value_after (in_value_order z) (base_of hs)) (seen_otherwise c (map cut_of ws) t r.puts
    (each_to (λ (q : PutRow). num_eq c.num q.num ≡ false) (λ (q : PutRow). num_eq c.num q.num ≡ true → stamp_lt q.stamp t ≡ false) (λ q f e. absurd cc) r.puts (each_apart put_key c.num r.puts none))) in
    let done = unseen_receipt var r (with_cut c r) same refl settled.hits in (
      (λ i. record { base = base_of hs; puts = ap (λ z. add_rows put_key [] (puts_of hs ++ z)) same_puts i; cuts = cuts-added w ws i; reads = reads_of hs }) ∙ (sym done.0 ∙ ap (λ b. cond b r (refreshed (with_cut c r))) (sym new)),
      sym done.1 ∙ ap (λ b. cond b [] (changed_hits var (with_cut c r))) (sym new),
      record {
        begins = s.begins;
        stand = s.stand;
        laid = s.laid;
        order = s.order;
        once = subst (λ z. AreDistinct put_key (puts_of hs ++ z)) (sym same_puts) s.once;
        live = subst (λ z. AllByRecursion (λ (q : PutRow). has_num cut_key q.num z ≡ false) (puts_of hs)) (sym (cuts-added w ws)) (live-added c (map cut_of ws) (puts_of hs) unput s.live);
        named = each_row withdrawal_key (λ (v : Withdrawal). IsNamed v.cut.num v.put) w ws tt s.named;
      },
    )

-- The cut of a live write: its period's reads fall to the one before it.
module _ (var : ℕ) (before : List Held) (period ended : Held) (behind : List Held) (ws : List Withdrawal) (s : AreSound (before ++ period ∷ (ended ∷ behind)) ws) (p : PutRow) (put : ended.put ≡ Some p) (c : CutRow) (new : has_num cut_key c.num (map cut_of ws) ≡ false) (of : num_eq c.num p.num ≡ true) where
  abbrev lived : List Held
  lived = before ++ period ∷ (ended ∷ behind)

  abbrev joint : Held
  joint = with_reads (period.reads ++ ended.reads) period

  abbrev joined : List Held
  joined = before ++ joint ∷ behind

  abbrev cut_ws : List Withdrawal
  cut_ws = add_row withdrawal_key (withdrawal c p) ws

  abbrev base : Value
  base = base_of lived

  joined-reads : (xs : List Held) → reads_of (xs ++ joint ∷ behind) ≡ reads_of (xs ++ period ∷ (ended ∷ behind))
  joined-reads [] = append_assoc period.reads ended.reads (reads_of behind)
  joined-reads (x ∷ xs) = ap (λ z. x.reads ++ z) (joined-reads xs)

  none_less : (xs : List Held) (t : Stamp) → SeesNone (xs ++ period ∷ (ended ∷ behind)) t → SeesNone (xs ++ joint ∷ behind) t
  none_less [] t a = (a.0, a.1.1)
  none_less (x ∷ xs) t a = (a.0, none_less xs t a.1)

  joined-stand : (xs : List Held) → Stand (xs ++ period ∷ (ended ∷ behind)) → Stand (xs ++ joint ∷ behind)
  joined-stand [] st = (
    subst (AllByRecursion (λ (q : ReadRow). Sees period.put q.stamp)) (sym (joined-reads [])) st.0,
    each_join (λ (q : ReadRow). SeesNone behind q.stamp) period.reads ended.reads (each_to (λ (q : ReadRow). SeesNone (ended ∷ behind) q.stamp) (λ (q : ReadRow). SeesNone behind q.stamp) (λ q a. a.1) period.reads st.1) st.2.1,
    st.2.2,
  )
  joined-stand (x ∷ xs) st = (
    subst (λ z. AllByRecursion (λ (q : ReadRow). Sees x.put q.stamp) (x.reads ++ z)) (sym (joined-reads xs)) st.0,
    each_to (λ (q : ReadRow). SeesNone (xs ++ period ∷ (ended ∷ behind)) q.stamp) (λ (q : ReadRow). SeesNone (xs ++ joint ∷ behind) q.stamp) (λ q a. none_less xs q.stamp a) x.reads st.1,
    joined-stand xs st.2,
  )

  joined-ordered : (xs : List Held) → AreOrdered (xs ++ period ∷ (ended ∷ behind)) → AreOrdered (xs ++ joint ∷ behind)
  joined-ordered [] o = (o.0.1, o.1.1)
  joined-ordered (x ∷ xs) o = (less xs o.0, joined-ordered xs o.1)
    where
      less : (zs : List Held) → AllByRecursion (λ (k : Held). IsNotBefore k.put x.put) (zs ++ period ∷ (ended ∷ behind)) → AllByRecursion (λ (k : Held). IsNotBefore k.put x.put) (zs ++ joint ∷ behind)
      less [] a = (a.0, a.1.1)
      less (z ∷ zs) a = (a.0, less zs a.1)

  abbrev head : List PutRow
  head = puts_of (before ++ period ∷ [])

  lived_puts : puts_of lived ≡ head ++ p ∷ puts_of behind
  lived_puts = ap puts_of (sym (append_assoc before (period ∷ []) (ended ∷ behind))) ∙ (puts_of-append (before ++ period ∷ []) (ended ∷ behind) ∙ ap (λ o. head ++ (option_to_list o ++ puts_of behind)) put)

  joined_head : (xs : List Held) → puts_of (xs ++ joint ∷ behind) ≡ puts_of (xs ++ period ∷ []) ++ puts_of behind
  joined_head [] = one period.put
    where
      one : (o : Option PutRow) → option_to_list o ++ puts_of behind ≡ (option_to_list o ++ []) ++ puts_of behind
      one None = refl
      one (Some k) = refl
  joined_head (x ∷ xs) = ap (λ z. option_to_list x.put ++ z) (joined_head xs) ∙ sym (append_assoc (option_to_list x.put) (puts_of (xs ++ period ∷ [])) (puts_of behind))

  -- what another value makes of them
  joined-renewed : (renewed base joined ≡ before ++ with_reads (period.reads ++ map (fresh_read (λ _. period.value)) ended.reads) period ∷ renewed period.value behind)
      × (told var base joined ≡ changed_of var (λ _. period.value) ended.reads ++ told var period.value behind)
  joined-renewed =
      let laid = laid-split base before (period ∷ (ended ∷ behind)) s.laid in
      let v = end_value base before in
      let w = changed period.put v in
      let again = renewed-behind var base before (joint ∷ behind) laid.0 in
      let is : w ≡ period.value = sym laid.1.0 in
      let kept = fresh_all var (λ _. period.value) period.reads laid.1.1 in
      let reads : map (fresh_read (λ _. period.value)) (period.reads ++ ended.reads) ≡ period.reads ++ map (fresh_read (λ _. period.value)) ended.reads =
      map-append (fresh_read (λ _. period.value)) period.reads ended.reads ∙ ap (λ z. z ++ map (fresh_read (λ _. period.value)) ended.reads) kept.0 in
      let given : changed_of var (λ _. period.value) (period.reads ++ ended.reads) ≡ changed_of var (λ _. period.value) ended.reads =
      changed_of-append var (λ _. period.value) period.reads ended.reads ∙ ap (λ z. z ++ changed_of var (λ _. period.value) ended.reads) kept.1 in (
        again.0 ∙ (ap (λ z. before ++ (renewed_one z joint ∷ renewed z behind)) is ∙ ap (λ z. before ++ (with_reads z period ∷ renewed period.value behind)) reads),
        again.1 ∙ (ap (λ z. changed_of var (λ _. z) (period.reads ++ ended.reads) ++ told var z behind) is ∙ ap (λ z. z ++ told var period.value behind) given),
      )

  pub end_whole_in : (parts_by (renewed base joined) cut_ws ≡ after_cut c (parts_by lived ws)) × (told var base joined ≡ gives_of_cut var c (parts_by lived ws)) × AreSound (renewed base joined) cut_ws
  end_whole_in =
      let r = parts_by lived ws in
      let w = withdrawal c p in
      let placed = row-placed withdrawal_key w ws in
      let wa = withdrawn_of placed.0 in
      let wb = withdrawn_of placed.1 in
      let ws_puts : withdrawn_of ws ≡ wa ++ wb = ap withdrawn_of placed.2 ∙ withdrawn-append placed.0 placed.1 in
      let cut_puts : withdrawn_of cut_ws ≡ wa ++ p ∷ wb = ap withdrawn_of placed.3 ∙ withdrawn-append placed.0 (w ∷ placed.1) in
      let joined_puts = joined_head before in
      let all : List PutRow = head ++ (puts_of behind ++ withdrawn_of ws) in
      let was : puts_of lived ++ withdrawn_of ws ≡ head ++ p ∷ (puts_of behind ++ withdrawn_of ws) = ap (λ z. z ++ withdrawn_of ws) lived_puts ∙ append_assoc head (p ∷ puts_of behind) (withdrawn_of ws) in
      let without = distinct-without put_key p head (puts_of behind ++ withdrawn_of ws) (subst (AreDistinct put_key) was s.once) in
      let front : List PutRow = (head ++ puts_of behind) ++ wa in
      let split : all ≡ front ++ wb = ap (λ z. head ++ (puts_of behind ++ z)) ws_puts ∙ (sym (append_assoc head (puts_of behind) (wa ++ wb)) ∙ sym (append_assoc (head ++ puts_of behind) wa wb)) in
      let now : puts_of joined ++ withdrawn_of cut_ws ≡ front ++ p ∷ wb = ap₂ (λ x y. x ++ y) joined_puts cut_puts ∙ sym (append_assoc (head ++ puts_of behind) wa (p ∷ wb)) in
      let none : has_num put_key p.num (front ++ wb) ≡ false = ap (has_num put_key p.num) (sym split) ∙ without.1 in
      let behind_it = (or_parts (has_num put_key p.num head) (has_num put_key p.num (puts_of behind ++ withdrawn_of ws)) (sym (has_num-append put_key p.num head (puts_of behind ++ withdrawn_of ws)) ∙ without.1)).1 in
      let after_it = (or_parts (has_num put_key p.num front) (has_num put_key p.num wb) (sym (has_num-append put_key p.num front wb) ∙ none)).1 in
      let listed : add_rows put_key [] (puts_of joined ++ withdrawn_of cut_ws) ≡ add_rows put_key [] (puts_of lived ++ withdrawn_of ws) =
      ap (add_rows put_key []) now ∙ (add_rows-among put_key p front wb (apart_from p wb after_it) ∙ (ap (λ z. add_row put_key p (add_rows put_key [] z)) (sym split)
      ∙ (sym (add_rows-among put_key p head (puts_of behind ++ withdrawn_of ws) (apart_from p (puts_of behind ++ withdrawn_of ws) behind_it)) ∙ ap (add_rows put_key []) (sym was)))) in
      let cuts = cuts-added w ws in
      let is : with_cut c r ≡ record { base = base; puts = add_rows put_key [] (puts_of joined ++ withdrawn_of cut_ws); cuts = map cut_of cut_ws; reads = reads_of joined } =
      λ i. record { base = base; puts = sym listed i; cuts = sym cuts i; reads = sym (joined-reads before) i } in
      let order = joined-ordered before s.order in
      let stand = joined-stand before s.stand in
      let once = subst (AreDistinct put_key) (sym now) (distinct-among put_key p front wb (subst (AreDistinct put_key) split without.0) none) in
      let same_num : c.num ≡ p.num = num_eq-same c.num p.num of in
      let live_were = subst (AllByRecursion (λ (q : PutRow). has_num cut_key q.num (map cut_of ws) ≡ false)) lived_puts s.live in
      let two = each_append (λ (q : PutRow). has_num cut_key q.num (map cut_of ws) ≡ false) head (p ∷ puts_of behind) live_were in
      let live_are = each_join (λ (q : PutRow). has_num cut_key q.num (map cut_of ws) ≡ false) head (puts_of behind) two.0 two.1.1 in
      let not_p : has_num put_key c.num (head ++ puts_of behind) ≡ false =
      (let o = or_parts (has_num put_key p.num head) (has_num put_key p.num (puts_of behind ++ withdrawn_of ws)) (sym (has_num-append put_key p.num head (puts_of behind ++ withdrawn_of ws)) ∙ without.1) in
      let o' = or_parts (has_num put_key p.num (puts_of behind)) (has_num put_key p.num (withdrawn_of ws)) (sym (has_num-append put_key p.num (puts_of behind) (withdrawn_of ws)) ∙ o.1) in
      ap (λ n. has_num put_key n (head ++ puts_of behind)) same_num ∙ (has_num-append put_key p.num head (puts_of behind) ∙ ap₂ (λ x y. x || y) o.0 o'.0)) in
      let live = subst (AllByRecursion (λ (q : PutRow). has_num cut_key q.num (map cut_of cut_ws) ≡ false)) (sym joined_puts) (subst (λ z. AllByRecursion (λ (q : PutRow). has_num cut_key q.num z ≡ false) (head ++ puts_of behind)) (sym cuts) (live-added c (map cut_of ws) (head ++ puts_of behind) not_p live_are)) in
      let named = each_row withdrawal_key (λ (v : Withdrawal). IsNamed v.cut.num v.put) w ws (sym same_num) s.named in
      let kept : Held = with_reads (period.reads ++ map (fresh_read (λ _. period.value)) ended.reads) period in
      let first : base_of (renewed base joined) ≡ base = ap base_of joined-renewed.0 ∙ base_mid before kept period (renewed period.value behind) (ended ∷ behind) refl in
      let begins : BeginAtBase (renewed base joined) = subst BeginAtBase (sym joined-renewed.0) (begins_mid before period kept (ended ∷ behind) (renewed period.value behind) refl s.begins) in (
        renewed_parts var base joined cut_ws (with_cut c r) stand order once live named is begins first ∙ ap (λ b. cond b r (refreshed (with_cut c r))) (sym new),
        renewed_gives var base joined cut_ws (with_cut c r) stand order once live named is begins first ∙ ap (λ b. cond b [] (changed_hits var (with_cut c r))) (sym new),
        renewed_sound var base joined cut_ws (with_cut c r) stand order once live named is begins first,
      )

  pub end_renewed : (renewed base joined ≡ before ++ with_reads (period.reads ++ map (fresh_read (λ _. period.value)) ended.reads) period ∷ renewed period.value behind)
      × (told var base joined ≡ changed_of var (λ _. period.value) ended.reads ++ told var period.value behind)
  end_renewed = joined-renewed

-- a record with one live put less
pub end_whole : (var : ℕ) (hs : List Held) (ws : List Withdrawal) → AreSound hs ws → (c : CutRow) → has_num cut_key c.num (map cut_of ws) ≡ false → (p : PutRow) → num_eq c.num p.num ≡ true
    → (new : List Held) (gives : List GiveRow) → End var p hs new gives → (ws' : List Withdrawal) → ws' ≡ add_row withdrawal_key (withdrawal c p) ws
    → (parts_by new ws' ≡ after_cut c (parts_by hs ws)) × (gives ≡ gives_of_cut var c (parts_by hs ws)) × AreSound new ws'
end_whole var hs ws s c uncut p of new gives e ws' is_ws =
    let s' = subst (λ z. AreSound z ws) e.was s in
    let all = end_whole_in var e.before e.period e.ended e.behind ws s' p e.put c uncut of in
    let ends = end_renewed var e.before e.period e.ended e.behind ws s' p e.put c uncut of in
    let new_is = e.is ∙ sym ends.0 in (
      ap₂ parts_by new_is is_ws ∙ (all.0 ∙ ap (λ z. after_cut c (parts_by z ws)) (sym e.was)),
      e.gives_are ∙ (sym ends.1 ∙ (all.1 ∙ ap (λ z. gives_of_cut var c (parts_by z ws)) (sym e.was))),
      subst (λ z. AreSound z ws') (sym new_is) (subst (AreSound (renewed (base_of (e.before ++ e.period ∷ (e.ended ∷ e.behind))) (e.before ++ with_reads (e.period.reads ++ e.ended.reads) e.period ∷ e.behind))) (sym is_ws) all.2),
    )

-- By the places that the code finds.

pub has_cuts : (n : Num) (ws : List Withdrawal) → has_num cut_key n (map cut_of ws) ≡ has_num withdrawal_key n ws
has_cuts n [] = refl
has_cuts n (w ∷ ws) = ap (λ b. num_eq n w.cut.num || b) (has_cuts n ws)

pub cuts-order : (ws : List Withdrawal) → IsInOrder cut_key (map cut_of ws) → IsInOrder withdrawal_key ws
cuts-order [] o = tt
cuts-order (w ∷ ws) o = (go ws o.0, cuts-order ws o.1)
  where
    go : (vs : List Withdrawal) → AllByRecursion (λ (c : CutRow). key_lt (cut_key c) (cut_key w.cut) ≡ false) (map cut_of vs) → AllByRecursion (λ (v : Withdrawal). key_lt (withdrawal_key v) (withdrawal_key w) ≡ false) vs
    go [] a = tt
    go (v ∷ vs) a = (a.0, go vs a.1)

-- no cut has the number where its place is past the end
pub cut_unknown : (n : Num) (ws : List Withdrawal) → length ws ≤ number_place withdrawal_key n ws → has_num cut_key n (map cut_of ws) ≡ false
cut_unknown n ws le = has_cuts n ws ∙ (has_as_place withdrawal_key n ws ∙ past (number_place withdrawal_key n ws) (length ws) le)
  where
    past : (a b : ℕ) → b ≤ a → nat_lt a b ≡ false
    past a b le = grind (arith, nat_tests, le)

pub cut_known : (n : Num) (ws : List Withdrawal) → number_place withdrawal_key n ws < length ws → has_num cut_key n (map cut_of ws) ≡ true
cut_known n ws lt = has_cuts n ws ∙ (has_as_place withdrawal_key n ws ∙ low (number_place withdrawal_key n ws) (length ws) lt)
  where
    low : (a b : ℕ) → a < b → nat_lt a b ≡ true
    low a b lt = grind (arith, nat_tests, lt)

pub put_unknown : (n : Num) (hs : List Held) (at : ℕ) → at ≤ length hs → length hs ≤ at → AllByRecursion (λ (h : Held). is_of n h.put ≡ false) (take at hs) → has_num put_key n (puts_of hs) ≡ false
put_unknown n hs at le ge a = place_has n hs at le (λ d lt. absurd (omega (arith, lt, ge))) a ∙ past at (length hs) ge
  where
    past : (a b : ℕ) → b ≤ a → nat_lt a b ≡ false
    past a b le = grind (arith, nat_tests, le)

pub not_first : (n : Num) (hs : List Held) (at : ℕ) → BeginAtBase hs → ((d : Held) → is_of n (get_or hs at d).put ≡ true) → 0 < at
not_first n [] at b f = absurd b
not_first n (h ∷ hs) zero b f = absurd (let e : is_of n h.put ≡ false = ap (is_of n) b in let g = f h in cc)
not_first n (h ∷ hs) (suc at) b f = omega arith

pub held_whole : (var : ℕ) (hs : List Held) (ws : List Withdrawal) → IsSettled (parts_by hs ws) → AreSound hs ws → (p : PutRow) → has_num put_key p.num (puts_of hs ++ withdrawn_of ws) ≡ false → (at : ℕ) → at ≡ number_place withdrawal_key p.num ws → at < length ws
    → (ws' : List Withdrawal) → ((d : Withdrawal) → ws' ≡ set ws at (withdrawal (get_or ws at d).cut p)) → (parts_by hs ws' ≡ after_put p (parts_by hs ws)) × ([] ≡ gives_of_put var p (parts_by hs ws)) × AreSound hs ws'
held_whole var hs ws settled s p fresh at is lt ws' set_is =
    let d : Withdrawal = record { cut = record { num = p.num; stamp = p.stamp }; put = None } in
    let unput = (or_parts (has_num put_key p.num (puts_of hs)) (has_num put_key p.num (withdrawn_of ws)) (sym (has_num-append put_key p.num (puts_of hs) (withdrawn_of ws)) ∙ fresh)).1 in
    let g = withheld p ws d (subst (λ z. z < length ws) is lt) unput s.named in
    let new_is : ws' ≡ g.0 ++ withdrawal g.1.cut p ∷ g.2 = set_is d ∙ (ap (λ z. set ws z (withdrawal (get_or ws z d).cut p)) is ∙ g.6) in
    let all = withheld_whole var hs g.0 g.1 g.2 g.4 p g.5 (subst (λ z. IsSettled (parts_by hs z)) g.3 settled) (subst (AreSound hs) g.3 s) (subst (λ z. has_num put_key p.num (puts_of hs ++ withdrawn_of z) ≡ false) g.3 fresh) in (
      ap (parts_by hs) new_is ∙ (all.0 ∙ ap (λ z. after_put p (parts_by hs z)) (sym g.3)),
      all.1 ∙ ap (λ z. gives_of_put var p (parts_by hs z)) (sym g.3),
      subst (AreSound hs) (sym new_is) all.2,
    )
