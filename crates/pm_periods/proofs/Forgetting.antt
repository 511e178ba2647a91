-- What a record is after what is below a line was forgotten.
use Rattle.std.proofs.Common.{◌≡◌, inl, inr, Bool, true, false, cond, not, ◌||◌, is_some, Option, None, Some, List, [], ◌∷◌, ◌++◌, map, filter, refl, arith, append_assoc, ap, ap₂, sym, ◌∙◌, subst}
use Rattle.std.specs.List.{AllByRecursion}
use Rattle.std.specs.Option.{option_to_list}
use Rattle.std.proofs.lemmas.Bool.{cases_Bool, or_parts}
use Rattle.std.proofs.lemmas.Bool.Decides.{nat_tests}
use Rattle.std.proofs.lemmas.List.Elements.{filter-append}
use Rattle.pm_base.specs.Stamps.{is_below, num_eq, stamp_lt}
use Rattle.pm_base.specs.declared.rows.CutRow.{CutRow}
use Rattle.pm_base.specs.declared.rows.PutRow.{PutRow}
use Rattle.pm_base.specs.declared.rows.ReadRow.{ReadRow}
use Rattle.pm_base.specs.declared.stamp.Line.{Line}
use Rattle.pm_base.specs.declared.stamp.Num.{Num}
use Rattle.pm_base.specs.declared.value.Value.{Value}
use Rattle.pm_periods.specs.Inner.{AreSound, parts_by}
use Rattle.pm_periods.specs.Laid.{AreLaid, AreOrdered, IsNamed, IsNotBefore, Sees, SeesNone, Stand, Trim, Unseen, base_of, begins_below, cut_of, is_of, put_kept, puts_of, reads_of, trimmed_period, trimmed_withdrawal, value_under, withdrawal_stays, withdrawn_of}
use Rattle.pm_periods.specs.Records.{IsSettled, cut_stays, hit_in, put_stays, read_stays, trimmed}
use Rattle.pm_periods.specs.Rows.{AreDistinct, add_rows, cut_key, has_num, put_key}
use Rattle.pm_periods.specs.declared.held.Held.{Held}
use Rattle.pm_periods.specs.declared.record.Withdrawal.{Withdrawal}
use Rattle.pm_periods.proofs.Keys.{num_eq-flip, num_eq-same, num_eq-self}
use Rattle.pm_periods.proofs.Laid.{each_two, end_value, laid-split, value_reached}
use Rattle.pm_periods.proofs.Ordered.{each_filter, filter_all, filter_distinct, has_num_less}
use Rattle.pm_periods.proofs.Receipts.{each_append, each_to}
use Rattle.pm_periods.proofs.Sorting.{filter_add_rows, has_num-sorted}
use Rattle.pm_periods.proofs.Splits.{has_num-append, puts_of-append, reads_of-append}
use Rattle.pm_periods.proofs.Walks.{not_below-later}
use Rattle.pm_periods.proofs.Wholes.{each_all, sound_sees}

filter_none : {X : Type 0} (P : X → Bool) (xs : List X) → AllByRecursion (λ x. P x ≡ false) xs → filter P xs ≡ []
filter_none P [] a = refl
filter_none P (x ∷ xs) a = ap (λ b. cond b (x ∷ filter P xs) (filter P xs)) a.0 ∙ filter_none P xs a.1

end_last : (v : Value) (xs : List Held) (h : Held) → end_value v (xs ++ h ∷ []) ≡ h.value
end_last v [] h = refl
end_last v (x ∷ xs) h = end_last x.value xs h

pub trimmed_as : (l : Line) (w : Withdrawal) (o : Option PutRow) → o ≡ put_kept l w.put → record { cut = w.cut; put = o } ≡ trimmed_withdrawal l w
trimmed_as l w o e = ap (λ z. record { cut = w.cut; put = z }) e

-- the withdrawn puts that are left
withdrawn_left : (l : Line) (ws : List Withdrawal) → withdrawn_of (filter (withdrawal_stays l) (map (trimmed_withdrawal l) ws)) ≡ filter (put_stays l) (withdrawn_of ws)
withdrawn_left l [] = refl
withdrawn_left l (w ∷ ws) = one w.put (withdrawn_left l ws)
  where
    rest : List Withdrawal
    rest = filter (withdrawal_stays l) (map (trimmed_withdrawal l) ws)

    mk : Option PutRow → Withdrawal
    mk o = record { cut = w.cut; put = o }

    gone : (b : Bool) → withdrawn_of (cond b (mk None ∷ rest) rest) ≡ withdrawn_of rest
    gone true = refl
    gone false = refl

    here : (b : Bool) (p : PutRow) → withdrawn_of (cond (b || true) (mk (Some p) ∷ rest) rest) ≡ p ∷ withdrawn_of rest
    here true p = refl
    here false p = refl

    Same : Type 0
    Same = withdrawn_of rest ≡ filter (put_stays l) (withdrawn_of ws)

    one : (o : Option PutRow) → Same → withdrawn_of (cond (not (is_below w.cut.stamp l) || is_some (put_kept l o)) (mk (put_kept l o) ∷ rest) rest) ≡ filter (put_stays l) (option_to_list o ++ withdrawn_of ws)
    one None again = gone (not (is_below w.cut.stamp l) || false) ∙ again
    one (Some p) again = by (put_stays l p)
      where
        by : (b : Bool) → withdrawn_of (cond (not (is_below w.cut.stamp l) || is_some (cond b (Some p) None)) (mk (cond b (Some p) None) ∷ rest) rest) ≡ cond b (p ∷ filter (put_stays l) (withdrawn_of ws)) (filter (put_stays l) (withdrawn_of ws))
        by true = here (not (is_below w.cut.stamp l)) p ∙ ap (λ z. p ∷ z) again
        by false = gone (not (is_below w.cut.stamp l) || false) ∙ again

-- a cut names a put that is left where its own is
abbrev Told : Line → List PutRow → Withdrawal → Type 0
Told l ps w = has_num put_key w.cut.num ps ≡ is_some (put_kept l w.put)

own_put : (l : Line) (n : Num) (o : Option PutRow) → IsNamed n o → is_of n (put_kept l o) ≡ is_some (put_kept l o)
own_put l n None a = refl
own_put l n (Some p) a = by (put_stays l p)
  where
    by : (b : Bool) → is_of n (cond b (Some p) None) ≡ is_some (cond b (Some p) None)
    by true = ap (λ m. num_eq n m) a ∙ num_eq-self n
    by false = refl

other_put : (l : Line) (m n : Num) (o : Option PutRow) → IsNamed m o → num_eq n m ≡ false → is_of n (put_kept l o) ≡ false
other_put l m n None a e = refl
other_put l m n (Some p) a e = by (put_stays l p)
  where
    by : (b : Bool) → is_of n (cond b (Some p) None) ≡ false
    by true = ap (num_eq n) a ∙ e
    by false = refl

stay_one : (l : Line) (n : Num) (o : Option PutRow) (ps : List PutRow) → has_num put_key n (filter (put_stays l) (option_to_list o ++ ps)) ≡ (is_of n (put_kept l o) || has_num put_key n (filter (put_stays l) ps))
stay_one l n None ps = refl
stay_one l n (Some p) ps = by (put_stays l p)
  where
    by : (b : Bool) → has_num put_key n (cond b (p ∷ filter (put_stays l) ps) (filter (put_stays l) ps)) ≡ (is_of n (cond b (Some p) None) || has_num put_key n (filter (put_stays l) ps))
    by true = refl
    by false = refl

none_of : (l : Line) (n : Num) (ws : List Withdrawal) → AllByRecursion (λ (w : Withdrawal). IsNamed w.cut.num w.put) ws → has_num cut_key n (map cut_of ws) ≡ false → has_num put_key n (filter (put_stays l) (withdrawn_of ws)) ≡ false
none_of l n [] a e = refl
none_of l n (w ∷ ws) a e =
    let o = or_parts (num_eq n w.cut.num) (has_num cut_key n (map cut_of ws)) e in
    stay_one l n w.put (withdrawn_of ws) ∙ ap₂ (λ x y. x || y) (other_put l w.cut.num n w.put a.0 o.0) (none_of l n ws a.1 o.1)

told_all : (l : Line) (ws : List Withdrawal) → AllByRecursion (λ (w : Withdrawal). IsNamed w.cut.num w.put) ws → AreDistinct cut_key (map cut_of ws) → AllByRecursion (Told l (filter (put_stays l) (withdrawn_of ws))) ws
told_all l [] a d = tt
told_all l (w ∷ ws) a d = (
  stay_one l w.cut.num w.put (withdrawn_of ws) ∙ (ap₂ (λ x y. x || y) (own_put l w.cut.num w.put a.0) (none_of l w.cut.num ws a.1 d.0) ∙ or_false (is_some (put_kept l w.put))),
  others ws d.0 (told_all l ws a.1 d.1),
)
  where
    or_false : (b : Bool) → (b || false) ≡ b
    or_false true = refl
    or_false false = refl

    others : (vs : List Withdrawal) → has_num cut_key w.cut.num (map cut_of vs) ≡ false → AllByRecursion (Told l (filter (put_stays l) (withdrawn_of ws))) vs → AllByRecursion (Told l (filter (put_stays l) (option_to_list w.put ++ withdrawn_of ws))) vs
    others [] e t = tt
    others (v ∷ vs) e t =
        let o = or_parts (num_eq w.cut.num v.cut.num) (has_num cut_key w.cut.num (map cut_of vs)) e in
        (stay_one l v.cut.num w.put (withdrawn_of ws) ∙ (ap (λ b. b || has_num put_key v.cut.num (filter (put_stays l) (withdrawn_of ws))) (other_put l w.cut.num v.cut.num w.put a.0 (num_eq-flip w.cut.num v.cut.num o.0)) ∙ t.0), others vs o.1 t.1)

-- cuts that stay
cuts_left : (l : Line) (S : List PutRow) (ws : List Withdrawal) → AllByRecursion (λ (w : Withdrawal). has_num put_key w.cut.num S ≡ is_some (put_kept l w.put)) ws
    → map cut_of (filter (withdrawal_stays l) (map (trimmed_withdrawal l) ws)) ≡ filter (cut_stays l S) (map cut_of ws)
cuts_left l S [] a = refl
cuts_left l S (w ∷ ws) a = ap (λ b. map cut_of (cond (not (is_below w.cut.stamp l) || b) (trimmed_withdrawal l w ∷ filter (withdrawal_stays l) (map (trimmed_withdrawal l) ws)) (filter (withdrawal_stays l) (map (trimmed_withdrawal l) ws)))) (sym a.0)
    ∙ by (not (is_below w.cut.stamp l) || has_num put_key w.cut.num S) (cuts_left l S ws a.1)
  where
    by : (b : Bool) → map cut_of (filter (withdrawal_stays l) (map (trimmed_withdrawal l) ws)) ≡ filter (cut_stays l S) (map cut_of ws)
        → map cut_of (cond b (trimmed_withdrawal l w ∷ filter (withdrawal_stays l) (map (trimmed_withdrawal l) ws)) (filter (withdrawal_stays l) (map (trimmed_withdrawal l) ws))) ≡ cond b (w.cut ∷ filter (cut_stays l S) (map cut_of ws)) (filter (cut_stays l S) (map cut_of ws))
    by true again = ap (λ z. w.cut ∷ z) again
    by false again = again

-- no live put has the number of a cut
unlive : (ps : List PutRow) (cuts : List CutRow) (n : Num) → AllByRecursion (λ (p : PutRow). has_num cut_key p.num cuts ≡ false) ps → has_num cut_key n cuts ≡ true → has_num put_key n ps ≡ false
unlive [] cuts n a e = refl
unlive (p ∷ ps) cuts n a e = ap₂ (λ x y. x || y) other (unlive ps cuts n a.1 e)
  where
    other : num_eq n p.num ≡ false
    other = elim (cases_Bool (num_eq n p.num)) [
      | inr f ↦ f
      | inl f ↦ absurd (let g : has_num cut_key n cuts ≡ false = ap (λ m. has_num cut_key m cuts) (num_eq-same n p.num f) ∙ a.0 in cc)
    ]

each_known : (all ws : List Withdrawal) → ((n : Num) → has_num cut_key n (map cut_of ws) ≡ true → has_num cut_key n (map cut_of all) ≡ true) → AllByRecursion (λ (w : Withdrawal). has_num cut_key w.cut.num (map cut_of all) ≡ true) ws
each_known all [] h = tt
each_known all (w ∷ ws) h = (h w.cut.num (ap (λ b. b || has_num cut_key w.cut.num (map cut_of ws)) (num_eq-self w.cut.num)), each_known all ws (λ n e. h n (or_right (num_eq n w.cut.num) (has_num cut_key n (map cut_of ws)) e)))
  where
    or_right : (a b : Bool) → b ≡ true → (a || b) ≡ true
    or_right true b e = refl
    or_right false b e = e

named_left : (l : Line) (ws : List Withdrawal) → AllByRecursion (λ (w : Withdrawal). IsNamed w.cut.num w.put) ws → AllByRecursion (λ (w : Withdrawal). IsNamed w.cut.num w.put) (filter (withdrawal_stays l) (map (trimmed_withdrawal l) ws))
named_left l ws a = each_filter (λ (w : Withdrawal). IsNamed w.cut.num w.put) (withdrawal_stays l) (map (trimmed_withdrawal l) ws) (go ws a)
  where
    one : (n : Num) (o : Option PutRow) → IsNamed n o → IsNamed n (put_kept l o)
    one n None b = tt
    one n (Some p) b = by (put_stays l p)
      where
        by : (c : Bool) → IsNamed n (cond c (Some p) None)
        by true = b
        by false = tt

    go : (vs : List Withdrawal) → AllByRecursion (λ (w : Withdrawal). IsNamed w.cut.num w.put) vs → AllByRecursion (λ (w : Withdrawal). IsNamed w.cut.num w.put) (map (trimmed_withdrawal l) vs)
    go [] b = tt
    go (v ∷ vs) b = (one v.cut.num v.put b.0, go vs b.1)

module _ (l : Line) where
  below_puts : (hs : List Held) → AllByRecursion (λ (h : Held). begins_below l h.put ≡ true) hs → filter (put_stays l) (puts_of hs) ≡ []
  below_puts [] a = refl
  below_puts (h ∷ hs) a = one h.put a.0 (below_puts hs a.1)
    where
      one : (o : Option PutRow) → begins_below l o ≡ true → filter (put_stays l) (puts_of hs) ≡ [] → filter (put_stays l) (option_to_list o ++ puts_of hs) ≡ []
      one None e again = again
      one (Some p) e again = ap (λ b. cond (not b) (p ∷ filter (put_stays l) (puts_of hs)) (filter (put_stays l) (puts_of hs))) e ∙ again

  later_puts : (hs : List Held) → AllByRecursion (λ (h : Held). begins_below l h.put ≡ false) hs → filter (put_stays l) (puts_of hs) ≡ puts_of hs
  later_puts [] a = refl
  later_puts (h ∷ hs) a = one h.put a.0 (later_puts hs a.1)
    where
      one : (o : Option PutRow) → begins_below l o ≡ false → filter (put_stays l) (puts_of hs) ≡ puts_of hs → filter (put_stays l) (option_to_list o ++ puts_of hs) ≡ option_to_list o ++ puts_of hs
      one None e again = again
      one (Some p) e again = ap (λ b. cond (not b) (p ∷ filter (put_stays l) (puts_of hs)) (filter (put_stays l) (puts_of hs))) e ∙ ap (λ z. p ∷ z) again

  later_one : (o : Option PutRow) (q : ReadRow) → begins_below l o ≡ false → Sees o q.stamp → read_stays l q ≡ true
  later_one None q e f = absurd cc
  later_one (Some p) q e f = ap not (not_below-later p.stamp q.stamp l (let g : stamp_lt q.stamp p.stamp ≡ false = grind (arith, nat_tests, f) in g) e)

  later_reads : (hs : List Held) → AllByRecursion (λ (h : Held). begins_below l h.put ≡ false) hs → Stand hs → filter (read_stays l) (reads_of hs) ≡ reads_of hs
  later_reads hs a s = filter_all (read_stays l) (reads_of hs) (go hs a s)
    where
      go : (ks : List Held) → AllByRecursion (λ (h : Held). begins_below l h.put ≡ false) ks → Stand ks → AllByRecursion (λ (q : ReadRow). read_stays l q ≡ true) (reads_of ks)
      go [] b t = tt
      go (k ∷ ks) b t = each_to (λ (q : ReadRow). Sees k.put q.stamp) (λ (q : ReadRow). read_stays l q ≡ true) (λ q f. later_one k.put q b.0 f) (k.reads ++ reads_of ks) t.0

  module _ (period : Held) (behind : List Held) (low : begins_below l period.put ≡ true) where
    early_one : (o : Option PutRow) (q : ReadRow) → begins_below l o ≡ true → Unseen o q.stamp → read_stays l q ≡ false
    early_one None q e f = absurd f
    early_one (Some p) q e f = elim (cases_Bool (is_below q.stamp l)) [
      | inl g ↦ ap not g
      | inr g ↦ absurd (let h = not_below-later q.stamp p.stamp l f g in cc)
    ]

    own_unseen : (zs : List Held) (q : ReadRow) → SeesNone (zs ++ period ∷ behind) q.stamp → Unseen period.put q.stamp
    own_unseen [] q a = a.0
    own_unseen (z ∷ zs) q a = own_unseen zs q a.1

    early_reads : (xs : List Held) → Stand (xs ++ period ∷ behind) → filter (read_stays l) (reads_of xs) ≡ []
    early_reads [] s = refl
    early_reads (x ∷ xs) s =
        filter-append (read_stays l) x.reads (reads_of xs)
        ∙ ap₂ (λ y z. y ++ z) (filter_none (read_stays l) x.reads (each_to (λ (q : ReadRow). SeesNone (xs ++ period ∷ behind) q.stamp) (λ (q : ReadRow). read_stays l q ≡ false) (λ q a. early_one period.put q low (own_unseen xs q a)) x.reads s.1)) (early_reads xs s.2)

    stand_at : (xs : List Held) → Stand (xs ++ period ∷ behind) → Stand (period ∷ behind)
    stand_at [] s = s
    stand_at (x ∷ xs) s = stand_at xs s.2

    order_at : (xs : List Held) → AreOrdered (xs ++ period ∷ behind) → AreOrdered (period ∷ behind)
    order_at [] o = o
    order_at (x ∷ xs) o = order_at xs o.1

  last_low : (xs : List Held) (period : Held) → AllByRecursion (λ (h : Held). begins_below l h.put ≡ true) (xs ++ period ∷ []) → begins_below l period.put ≡ true
  last_low [] period a = a.0
  last_low (x ∷ xs) period a = last_low xs period a.1

  not_before_none : (o o' : Option PutRow) → IsNotBefore o o' → IsNotBefore o None
  not_before_none None o' a = absurd a
  not_before_none (Some p) o' a = tt

  pub trim_whole : (hs : List Held) (ws : List Withdrawal) → IsSettled (parts_by hs ws) → AreSound hs ws → (new : List Held) → Trim l hs new → (ws' : List Withdrawal) → ws' ≡ filter (withdrawal_stays l) (map (trimmed_withdrawal l) ws)
      → (parts_by new ws' ≡ trimmed l (parts_by hs ws)) × AreSound new ws'
  trim_whole hs ws settled s0 new t ws' is_ws =
      let xs = t.before in
      let period = t.period in
      let behind = t.behind in
      let old : List Held = xs ++ period ∷ behind in
      let s = subst (λ z. AreSound z ws) t.was s0 in
      let one = append_assoc xs (period ∷ []) behind in
      let low = last_low xs period t.below in
      let kept : List Withdrawal = filter (withdrawal_stays l) (map (trimmed_withdrawal l) ws) in
      let first = trimmed_period l period in
      let made : List Held = first ∷ behind in
      let W = withdrawn_of ws in
      let all = puts_of old ++ W in
      let value = sound_sees old ws s l ∙ (ap (λ z. value_under l (puts_of z) (base_of old)) (sym one) ∙ (value_reached l (xs ++ period ∷ []) behind (base_of old) (subst (AreLaid (base_of old)) (sym one) s.laid) t.below t.later ∙ end_last (base_of old) xs period)) in
      let puts_left : filter (put_stays l) (puts_of old) ≡ puts_of behind =
      ap (λ z. filter (put_stays l) (puts_of z)) (sym one) ∙ (ap (filter (put_stays l)) (puts_of-append (xs ++ period ∷ []) behind) ∙ (filter-append (put_stays l) (puts_of (xs ++ period ∷ [])) (puts_of behind) ∙ ap₂ (λ x y. x ++ y) (below_puts (xs ++ period ∷ []) t.below) (later_puts behind t.later))) in
      let all_left : filter (put_stays l) all ≡ puts_of behind ++ withdrawn_of kept = filter-append (put_stays l) (puts_of old) W ∙ ap₂ (λ x y. x ++ y) puts_left (sym (withdrawn_left l ws)) in
      let S = filter (put_stays l) (add_rows put_key [] all) in
      let listed : add_rows put_key [] (puts_of behind ++ withdrawn_of kept) ≡ S = ap (add_rows put_key []) (sym all_left) ∙ sym (filter_add_rows put_key (put_stays l) [] all tt) in
      let reads_left : filter (read_stays l) (reads_of old) ≡ first.reads ++ reads_of behind =
      ap (filter (read_stays l)) (reads_of-append xs (period ∷ behind)) ∙ (filter-append (read_stays l) (reads_of xs) (period.reads ++ reads_of behind)
      ∙ ap₂ (λ x y. x ++ y) (early_reads period behind low xs s.stand) (filter-append (read_stays l) period.reads (reads_of behind) ∙ ap (λ z. first.reads ++ z) (later_reads behind t.later (stand_at period behind low xs s.stand).2))) in
      let in_S : (n : Num) → has_num cut_key n (map cut_of ws) ≡ true → has_num put_key n S ≡ has_num put_key n (filter (put_stays l) W) =
      λ n e. ap (has_num put_key n) (sym listed) ∙ (has_num-sorted put_key put_key n (puts_of behind ++ withdrawn_of kept) ∙ (ap (has_num put_key n) (sym all_left ∙ filter-append (put_stays l) (puts_of old) W)
      ∙ (has_num-append put_key n (filter (put_stays l) (puts_of old)) (filter (put_stays l) W) ∙ ap (λ b. b || has_num put_key n (filter (put_stays l) W)) (has_num_less put_key n (put_stays l) (puts_of old) (unlive (puts_of old) (map cut_of ws) n s.live e))))) in
      let once_cuts : AreDistinct cut_key (map cut_of ws) = settled.cuts_once in
      let cuts : map cut_of kept ≡ filter (cut_stays l S) (map cut_of ws) = cuts_left l S ws
      (each_two (λ (w : Withdrawal). has_num cut_key w.cut.num (map cut_of ws) ≡ true) (Told l (filter (put_stays l) W)) (λ (w : Withdrawal). has_num put_key w.cut.num S ≡ is_some (put_kept l w.put)) (λ w e f. in_S w.cut.num e ∙ f) ws (each_known ws ws (λ n e. e)) (told_all l ws s.named once_cuts)) in
      let parts : parts_by made kept ≡ trimmed l (parts_by old ws) = λ i. record { base = sym value i; puts = listed i; cuts = cuts i; reads = sym reads_left i } in
      let stand = stand_at period behind low xs s.stand in
      let order = order_at period behind low xs s.order in
      let laid = (laid-split (base_of old) xs (period ∷ behind) s.laid).1 in
      let two = each_append (λ (p : PutRow). has_num cut_key p.num (map cut_of ws) ≡ false) (puts_of (xs ++ period ∷ [])) (puts_of behind) (subst (AllByRecursion (λ (p : PutRow). has_num cut_key p.num (map cut_of ws) ≡ false)) (ap puts_of (sym one) ∙ puts_of-append (xs ++ period ∷ []) behind) s.live) in
      let sound : AreSound made kept = record {
        begins = refl;
        stand = (each_all (λ (q : ReadRow). Sees None q.stamp) (λ q. tt) (first.reads ++ reads_of behind), each_filter (λ (q : ReadRow). SeesNone behind q.stamp) (read_stays l) period.reads stand.1, stand.2);
        laid = (refl, each_filter (λ (q : ReadRow). q.hit ≡ hit_in period.value q.window) (read_stays l) period.reads laid.1, laid.2);
        order = (each_to (λ (k : Held). IsNotBefore k.put period.put) (λ (k : Held). IsNotBefore k.put None) (λ k a. not_before_none k.put period.put a) behind order.0, order.1);
        once = subst (AreDistinct put_key) all_left (filter_distinct put_key (put_stays l) all s.once);
        live = subst (λ z. AllByRecursion (λ (p : PutRow). has_num cut_key p.num z ≡ false) (puts_of behind)) (sym cuts) (each_to (λ (p : PutRow). has_num cut_key p.num (map cut_of ws) ≡ false) (λ (p : PutRow). has_num cut_key p.num (filter (cut_stays l S) (map cut_of ws)) ≡ false) (λ p e. has_num_less cut_key p.num (cut_stays l S) (map cut_of ws) e) (puts_of behind) two.1);
        named = named_left l ws s.named;
      } in (
        ap₂ parts_by t.is is_ws ∙ (parts ∙ ap (λ z. trimmed l (parts_by z ws)) (sym t.was)),
        subst (λ z. AreSound z ws') (sym t.is) (subst (AreSound made) (sym is_ws) sound),
      )
