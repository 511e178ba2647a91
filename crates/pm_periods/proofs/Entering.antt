-- What a record is after a read came.
use Rattle.std.proofs.Common.{◌≡◌, ℕ, ◌==◌, Bool, true, false, cond, Option, None, Some, List, [], ◌∷◌, ◌++◌, map, refl, arith, append_assoc, ap, ap₂, sym, ◌∙◌, subst}
use Rattle.std.specs.List.{AllByRecursion}
use Rattle.std.specs.Option.{option_to_list}
use Rattle.std.proofs.lemmas.Bool.Decides.{nat_tests}
use Rattle.pm_base.specs.Stamps.{stamp_lt}
use Rattle.pm_base.specs.declared.rows.GiveRow.{GiveRow}
use Rattle.pm_base.specs.declared.rows.Parts.{Parts}
use Rattle.pm_base.specs.declared.rows.PutRow.{PutRow}
use Rattle.pm_base.specs.declared.rows.ReadRow.{ReadRow}
use Rattle.pm_base.specs.declared.stamp.Line.TheVariants as line
use Rattle.pm_base.specs.declared.stamp.Num.{Num}
use Rattle.pm_base.specs.declared.stamp.Stamp.{Stamp}
use Rattle.pm_base.specs.declared.value.Value.{Value}
use Rattle.pm_base.specs.declared.value.Window.{Window}
use Rattle.pm_periods.specs.Inner.{AreSound, parts_by}
use Rattle.pm_periods.specs.Laid.{AreLaid, AreOrdered, Entered, IsNotBefore, Sees, SeesNone, Stand, Unseen, base_of, begins_below, cut_of, puts_of, reads_of, value_under, with_reads, withdrawn_of}
use Rattle.pm_periods.specs.declared.record.Withdrawal.{Withdrawal}
use Rattle.pm_periods.specs.Records.{IsSettled, after_watch, changed_of, first_read, fresh_read, gives_of_watch, hit_in, is_stale, last_give, next_give, record_value, refreshed, with_read}
use Rattle.pm_periods.specs.Rows.{AreDistinct, add_row, add_rows, cut_key, has_num, key_lt, put_key, read_key}
use Rattle.pm_periods.specs.declared.held.Held.{Held}
use Rattle.pm_periods.specs.declared.rows.RowKey.{RowKey}
use Rattle.pm_periods.proofs.Hits.{changed_of-one, fresh_all, fresh_read-hit, fresh_read-key}
use Rattle.pm_periods.proofs.Laid.{each_join, end_value, value_reached}
use Rattle.pm_periods.proofs.Ordered.{each_row}
use Rattle.pm_periods.proofs.Receipts.{each_append, each_to, filter_one, first_hit, map_add_row, none_stale}
use Rattle.pm_periods.proofs.Splits.{reads_of-append}
use Rattle.pm_periods.proofs.Wholes.{base_mid, begins_mid, sound_sees}

module _ (var : ℕ) (r : Parts) (s : IsSettled r) (n : Num) (at : Stamp) (w : Window) (new : has_num read_key n r.reads ≡ false) where
  abbrev q0 : ReadRow
  q0 = first_read n at w

  pub watch_parts : (v : Value) → v ≡ record_value r at → (row : ReadRow) → row ≡ fresh_read (λ _. v) q0 → (reads' : List ReadRow) → reads' ≡ add_row read_key row r.reads
      → record { base = r.base; puts = r.puts; cuts = r.cuts; reads = reads' } ≡ after_watch q0 r
  watch_parts v is_v row is_row reads' added =
      let sees = record_value r in
      let row_is : row ≡ fresh_read sees q0 = is_row ∙ ap (λ z. fresh_read (λ _. z) q0) is_v in
      let same = (fresh_all var sees r.reads s.hits).0 in
      let all : reads' ≡ map (fresh_read sees) (add_row read_key q0 r.reads) = added ∙ (ap₂ (λ y z. add_row read_key y z) row_is (sym same) ∙ sym (map_add_row (fresh_read sees) read_key read_key (fresh_read-key sees) q0 r.reads)) in
      ap (λ z. record { base = r.base; puts = r.puts; cuts = r.cuts; reads = z }) all ∙ ap (λ b. cond b r (refreshed (with_read q0 r))) (sym new)

  pub watch_gives : (v : Value) → v ≡ record_value r at → (row : ReadRow) → row ≡ fresh_read (λ _. v) q0 → (give : Option GiveRow) → give ≡ cond (row.turn == 0) None (Some (last_give var row)) → option_to_list give ≡ gives_of_watch var q0 r
  watch_gives v is_v row is_row give e =
      let sees = record_value r in
      let one : changed_of var (λ _. v) (q0 ∷ []) ≡ changed_of var sees (q0 ∷ []) = ap (λ z. changed_of var (λ _. z) (q0 ∷ [])) is_v ∙ changed_of-one var sees q0 in
      first_hit var v n at w give (e ∙ ap (λ (z : ReadRow). cond (z.turn == 0) None (Some (last_give var z))) is_row)
      ∙ (one ∙ (ap (map (next_give var sees)) (sym (filter_one read_key (is_stale sees) q0 r.reads (none_stale sees r.reads s.hits))) ∙ ap (λ b. cond b [] (changed_of var sees (add_row read_key q0 r.reads))) (sym new)))

-- a read that was given the hit of what is seen has it
pub fresh_hit : (sees : Stamp → Value) (v : Value) (q : ReadRow) → v ≡ sees q.stamp → (fresh_read (λ _. v) q).hit ≡ hit_in (sees (fresh_read (λ _. v) q).stamp) (fresh_read (λ _. v) q).window
fresh_hit sees v q e = fresh_read-hit (λ _. v) q ∙ ap (λ z. hit_in z (fresh_read (λ _. v) q).window) (e ∙ ap sees (sym (ap (λ k. k.stamp) (fresh_read-key (λ _. v) q))))

-- a row is put in its place among those that it stands between
pub add_between : {X : Type 0} (key : X → RowKey) (r : X) (xs ys zs : List X) → AllByRecursion (λ x. key_lt (key r) (key x) ≡ false) xs → AllByRecursion (λ z. key_lt (key r) (key z) ≡ true) zs → add_row key r (xs ++ (ys ++ zs)) ≡ xs ++ (add_row key r ys ++ zs)
add_between key r [] [] [] a b = refl
add_between key r [] [] (z ∷ zs) a b = ap (λ c. cond c (r ∷ (z ∷ zs)) (z ∷ add_row key r zs)) b.0
add_between key r [] (y ∷ ys) zs a b = by (key_lt (key r) (key y)) (add_between key r [] ys zs tt b)
  where
    by : (c : Bool) → add_row key r (ys ++ zs) ≡ add_row key r ys ++ zs → cond c (r ∷ (y ∷ (ys ++ zs))) (y ∷ add_row key r (ys ++ zs)) ≡ cond c (r ∷ (y ∷ ys)) (y ∷ add_row key r ys) ++ zs
    by true again = refl
    by false again = ap (λ z. y ∷ z) again
add_between key r (x ∷ xs) ys zs a b = ap (λ c. cond c (r ∷ (x ∷ (xs ++ (ys ++ zs)))) (x ∷ add_row key r (xs ++ (ys ++ zs)))) a.0 ∙ ap (λ z. x ∷ z) (add_between key r xs ys zs a.1 b)

module _ (row : ReadRow) (period : Held) (behind : List Held) (later : AllByRecursion (λ (h : Held). begins_below (line.At row.stamp) h.put ≡ false) behind) where
  abbrev grown : Held
  grown = with_reads (add_row read_key row period.reads) period

  sees_if : (o : Option PutRow) → begins_below (line.At row.stamp) o ≡ true → Sees o row.stamp
  sees_if None e = tt
  sees_if (Some p) e = e

  unseen_if : (o : Option PutRow) → begins_below (line.At row.stamp) o ≡ false → Unseen o row.stamp
  unseen_if None e = absurd cc
  unseen_if (Some p) e = e

  none_seen : SeesNone behind row.stamp
  none_seen = each_to (λ (h : Held). begins_below (line.At row.stamp) h.put ≡ false) (λ (h : Held). Unseen h.put row.stamp) (λ h e. unseen_if h.put e) behind later

  -- reads behind stand after it
  after_one : (o : Option PutRow) (q : ReadRow) → begins_below (line.At row.stamp) o ≡ false → Sees o q.stamp → key_lt (read_key row) (read_key q) ≡ true
  after_one None q e f = absurd cc
  after_one (Some p) q e f = (let g : stamp_lt row.stamp q.stamp ≡ true = grind (arith, nat_tests, e, f) in rw g refl)

  behind_after : (ys : List Held) → AllByRecursion (λ (h : Held). begins_below (line.At row.stamp) h.put ≡ false) ys → Stand ys → AllByRecursion (λ (q : ReadRow). key_lt (read_key row) (read_key q) ≡ true) (reads_of ys)
  behind_after [] a s = tt
  behind_after (y ∷ ys) a s = each_to (λ (q : ReadRow). Sees y.put q.stamp) (λ (q : ReadRow). key_lt (read_key row) (read_key q) ≡ true) (λ q f. after_one y.put q a.0 f) (y.reads ++ reads_of ys) s.0

  -- reads before don't
  before_one : (o : Option PutRow) (q : ReadRow) → begins_below (line.At row.stamp) o ≡ true → Unseen o q.stamp → key_lt (read_key row) (read_key q) ≡ false
  before_one None q e f = absurd f
  before_one (Some p) q e f =
      (let g : stamp_lt row.stamp q.stamp ≡ false = grind (arith, nat_tests, e, f) in
      let h : stamp_lt q.stamp row.stamp ≡ true = grind (arith, nat_tests, e, f) in rw (g, h) refl)

  own_unseen : (zs : List Held) (q : ReadRow) → SeesNone (zs ++ period ∷ behind) q.stamp → Unseen period.put q.stamp
  own_unseen [] q a = a.0
  own_unseen (z ∷ zs) q a = own_unseen zs q a.1

  before_up_to : (xs : List Held) → begins_below (line.At row.stamp) period.put ≡ true → Stand (xs ++ period ∷ behind) → AllByRecursion (λ (q : ReadRow). key_lt (read_key row) (read_key q) ≡ false) (reads_of xs)
  before_up_to [] e s = tt
  before_up_to (x ∷ xs) e s =
      each_join (λ (q : ReadRow). key_lt (read_key row) (read_key q) ≡ false) x.reads (reads_of xs)
      (each_to (λ (q : ReadRow). SeesNone (xs ++ period ∷ behind) q.stamp) (λ (q : ReadRow). key_lt (read_key row) (read_key q) ≡ false) (λ q a. before_one period.put q e (own_unseen xs q a)) x.reads s.1)
      (before_up_to xs e s.2)

  last_of : (xs : List Held) → AllByRecursion (λ (h : Held). begins_below (line.At row.stamp) h.put ≡ true) (xs ++ period ∷ []) → begins_below (line.At row.stamp) period.put ≡ true
  last_of [] a = a.0
  last_of (x ∷ xs) a = last_of xs a.1

  stand_of : (xs : List Held) → Stand (xs ++ period ∷ behind) → Stand behind
  stand_of [] s = s.2
  stand_of (x ∷ xs) s = stand_of xs s.2

  pub grown-reads : (xs : List Held) → AllByRecursion (λ (h : Held). begins_below (line.At row.stamp) h.put ≡ true) (xs ++ period ∷ []) → Stand (xs ++ period ∷ behind) → reads_of (xs ++ grown ∷ behind) ≡ add_row read_key row (reads_of (xs ++ period ∷ behind))
  grown-reads xs a s =
      reads_of-append xs (grown ∷ behind) ∙ (sym (add_between read_key row (reads_of xs) period.reads (reads_of behind) (before_up_to xs (last_of xs a) s) (behind_after behind later (stand_of xs s)))
      ∙ ap (add_row read_key row) (sym (reads_of-append xs (period ∷ behind))))

  none_same : (xs : List Held) (t : Stamp) → SeesNone (xs ++ period ∷ behind) t → SeesNone (xs ++ grown ∷ behind) t
  none_same [] t a = (a.0, a.1)
  none_same (x ∷ xs) t a = (a.0, none_same xs t a.1)

  pub grown-stand : (xs : List Held) → AllByRecursion (λ (h : Held). begins_below (line.At row.stamp) h.put ≡ true) (xs ++ period ∷ []) → Stand (xs ++ period ∷ behind) → Stand (xs ++ grown ∷ behind)
  grown-stand [] a s =
      let two = each_append (λ (q : ReadRow). Sees period.put q.stamp) period.reads (reads_of behind) s.0 in (
        each_join (λ (q : ReadRow). Sees period.put q.stamp) (add_row read_key row period.reads) (reads_of behind) (each_row read_key (λ (q : ReadRow). Sees period.put q.stamp) row period.reads (sees_if period.put a.0) two.0) two.1,
        each_row read_key (λ (q : ReadRow). SeesNone behind q.stamp) row period.reads none_seen s.1,
        s.2,
      )
  grown-stand (x ∷ xs) a s =
      let two = each_append (λ (q : ReadRow). Sees x.put q.stamp) x.reads (reads_of (xs ++ period ∷ behind)) s.0 in (
        each_join (λ (q : ReadRow). Sees x.put q.stamp) x.reads (reads_of (xs ++ grown ∷ behind)) two.0
            (subst (AllByRecursion (λ (q : ReadRow). Sees x.put q.stamp)) (sym (grown-reads xs a.1 s.2)) (each_row read_key (λ (q : ReadRow). Sees x.put q.stamp) row (reads_of (xs ++ period ∷ behind)) (sees_if x.put a.0) two.1)),
        each_to (λ (q : ReadRow). SeesNone (xs ++ period ∷ behind) q.stamp) (λ (q : ReadRow). SeesNone (xs ++ grown ∷ behind) q.stamp) (λ q e. none_same xs q.stamp e) x.reads s.1,
        grown-stand xs a.1 s.2,
      )

  pub grown-laid : (v : Value) (xs : List Held) → row.hit ≡ hit_in (end_value v (xs ++ period ∷ [])) row.window → AreLaid v (xs ++ period ∷ behind) → AreLaid v (xs ++ grown ∷ behind)
  grown-laid v [] e a = (a.0, each_row read_key (λ (q : ReadRow). q.hit ≡ hit_in period.value q.window) row period.reads e a.1, a.2)
  grown-laid v (x ∷ xs) e a = (a.0, a.1, grown-laid x.value xs e a.2)

  pub grown-ordered : (xs : List Held) → AreOrdered (xs ++ period ∷ behind) → AreOrdered (xs ++ grown ∷ behind)
  grown-ordered [] o = (o.0, o.1)
  grown-ordered (x ∷ xs) o = (same xs o.0, grown-ordered xs o.1)
    where
      same : (zs : List Held) → AllByRecursion (λ (k : Held). IsNotBefore k.put x.put) (zs ++ period ∷ behind) → AllByRecursion (λ (k : Held). IsNotBefore k.put x.put) (zs ++ grown ∷ behind)
      same [] a = (a.0, a.1)
      same (z ∷ zs) a = (a.0, same zs a.1)

  pub grown-puts : (xs : List Held) → puts_of (xs ++ grown ∷ behind) ≡ puts_of (xs ++ period ∷ behind)
  grown-puts [] = refl
  grown-puts (x ∷ xs) = ap (λ z. option_to_list x.put ++ z) (grown-puts xs)

-- a record with one read more, which has its hit
pub entered_whole : (hs : List Held) (ws : List Withdrawal) → AreSound hs ws → (row : ReadRow) → row.hit ≡ hit_in (record_value (parts_by hs ws) row.stamp) row.window → (new : List Held) → Entered row hs new
    → (parts_by new ws ≡ record { base = base_of hs; puts = (parts_by hs ws).puts; cuts = (parts_by hs ws).cuts; reads = add_row read_key row (reads_of hs) }) × AreSound new ws
entered_whole hs ws s row hit new e =
    let old : List Held = e.before ++ e.period ∷ e.behind in
    let s' = subst (λ z. AreSound z ws) e.was s in
    let stand = s'.stand in
    let one = append_assoc e.before (e.period ∷ []) e.behind in
    let value : record_value (parts_by hs ws) row.stamp ≡ end_value (base_of old) (e.before ++ e.period ∷ []) =
    sound_sees hs ws s (line.At row.stamp) ∙ (ap (λ z. value_under_of z) e.was ∙ (ap (λ z. value_under_at (base_of old) z) (sym one)
    ∙ value_reached (line.At row.stamp) (e.before ++ e.period ∷ []) e.behind (base_of old) (subst (AreLaid (base_of old)) (sym one) s'.laid) e.seen e.later)) in
    let g = grown row e.period e.behind e.later in
    let made : List Held = e.before ++ g ∷ e.behind in
    let base : base_of made ≡ base_of old = base_mid e.before g e.period e.behind e.behind refl in
    let puts = grown-puts row e.period e.behind e.later e.before in
    let reads = grown-reads row e.period e.behind e.later e.before e.seen stand in
    let sound : AreSound made ws = record {
      begins = begins_mid e.before e.period g e.behind e.behind refl s'.begins;
      stand = grown-stand row e.period e.behind e.later e.before e.seen stand;
      laid = subst (λ z. AreLaid z made) (sym base) (grown-laid row e.period e.behind e.later (base_of old) e.before (hit ∙ ap (λ z. hit_in z row.window) value) s'.laid);
      order = grown-ordered row e.period e.behind e.later e.before s'.order;
      once = subst (λ z. AreDistinct put_key (z ++ withdrawn_of ws)) (sym puts) s'.once;
      live = subst (AllByRecursion (λ (p : PutRow). has_num cut_key p.num (map cut_of ws) ≡ false)) (sym puts) s'.live;
      named = s'.named;
    } in
    let back = sym e.was in (
      ap (λ z. parts_by z ws) e.is ∙ ((λ i. record { base = base i; puts = ap (λ z. add_rows put_key [] (z ++ withdrawn_of ws)) puts i; cuts = map cut_of ws; reads = reads i })
          ∙ ap (λ z. record { base = base_of z; puts = (parts_by z ws).puts; cuts = (parts_by z ws).cuts; reads = add_row read_key row (reads_of z) }) back),
      subst (λ z. AreSound z ws) (sym e.is) sound,
    )
  where
    value_under_at : Value → List Held → Value
    value_under_at v z = value_under (line.At row.stamp) (puts_of z) v

    value_under_of : List Held → Value
    value_under_of z = value_under (line.At row.stamp) (puts_of z) (base_of z)
