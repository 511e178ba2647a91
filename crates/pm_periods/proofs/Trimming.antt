-- Trimming keeps what is seen at every stamp not below the line.
use Rattle.std.proofs.Common.{◌≡◌, Bool, true, false, cond, not, ◌||◌, ◌&&◌, List, [], ◌∷◌, filter, refl, arith, ap, ap₂, sym, ◌∙◌}
use Rattle.std.specs.List.{AllByRecursion}
use Rattle.std.proofs.lemmas.Bool.Decides.{nat_tests}
use Rattle.pm_base.specs.Changes.{applied}
use Rattle.pm_base.specs.Stamps.{is_below, stamp_lt}
use Rattle.pm_base.specs.declared.rows.CutRow.{CutRow}
use Rattle.pm_base.specs.declared.rows.Parts.{Parts}
use Rattle.pm_base.specs.declared.rows.PutRow.{PutRow}
use Rattle.pm_base.specs.declared.stamp.Line.{Line}
use Rattle.pm_base.specs.declared.stamp.Line.TheVariants as line
use Rattle.pm_base.specs.declared.stamp.Num.{Num}
use Rattle.pm_base.specs.declared.stamp.Stamp.{Stamp}
use Rattle.pm_base.specs.declared.value.Value.{Value}
use Rattle.pm_periods.specs.Records.{IsSettled, cut_stays, hit_in, in_value_order, is_live, is_seen, put_stays, read_stays, record_hit, record_value, trimmed, value_after}
use Rattle.pm_base.specs.Stamps.{num_eq}
use Rattle.pm_periods.specs.Rows.{IsInOrder, cut_key, has_num, key_lt, put_key, read_key, value_key}
use Rattle.pm_periods.proofs.Keys.{num_eq-same, num_eq-self, up_to-stamp}
use Rattle.pm_periods.proofs.Ordered.{add_rows-in_order, filter_distinct, filter_in_order}
use Rattle.pm_periods.proofs.Sorting.{each_rows, filter_add_rows}
use Rattle.pm_periods.proofs.Receipts.{and_false}
use Rattle.pm_periods.proofs.Walks.{both_true, not_below-later}

below-before : (p s : Stamp) (l : Line) → is_below p l ≡ true → is_below s l ≡ false → stamp_lt p s ≡ true
below-before p s (line.At t) e f = grind (arith, nat_tests, e, f)
below-before p s line.End e f = absurd cc

or_right : (a b : Bool) → b ≡ true → (a || b) ≡ true
or_right true b e = refl
or_right false b e = e

each_map : {X : Type 0} (P Q : X → Type 0) → ((x : X) → P x → Q x) → (xs : List X) → AllByRecursion P xs → AllByRecursion Q xs
each_map P Q f [] a = tt
each_map P Q f (x ∷ xs) a = (f x a.0, each_map P Q f xs a.1)

-- the rows that pass a test pass it
passed : {X : Type 0} (P : X → Bool) (Q : X → Type 0) (xs : List X) → AllByRecursion (λ x. P x ≡ true → Q x) xs → AllByRecursion Q (filter P xs)
passed P Q [] a = tt
passed P Q (x ∷ xs) a = by (P x) refl (passed P Q xs a.1)
  where
    by : (b : Bool) → P x ≡ b → AllByRecursion Q (filter P xs) → AllByRecursion Q (cond b (x ∷ filter P xs) (filter P xs))
    by true e again = (a.0 e, again)
    by false e again = again

-- a cut of a put that stays, stays
cut_kept : (n : Num) (l : Line) (stay : List PutRow) (cs : List CutRow) → has_num put_key n stay ≡ true → has_num cut_key n (filter (cut_stays l stay) cs) ≡ has_num cut_key n cs
cut_kept n l stay [] h = refl
cut_kept n l stay (c ∷ cs) h = by (num_eq n c.num) refl (cut_kept n l stay cs h)
  where
    by : (b : Bool) → num_eq n c.num ≡ b → has_num cut_key n (filter (cut_stays l stay) cs) ≡ has_num cut_key n cs → has_num cut_key n (filter (cut_stays l stay) (c ∷ cs)) ≡ (b || has_num cut_key n cs)
    by true e again =
        let k : cut_stays l stay c ≡ true = or_right (not (is_below c.stamp l)) (has_num put_key c.num stay) (ap (λ z. has_num put_key z stay) (sym (num_eq-same n c.num e)) ∙ h) in
        ap (λ b. has_num cut_key n (cond b (c ∷ filter (cut_stays l stay) cs) (filter (cut_stays l stay) cs))) k ∙ ap (λ b. b || has_num cut_key n (filter (cut_stays l stay) cs)) e
    by false e again = either (cut_stays l stay c)
      where
        either : (b : Bool) → has_num cut_key n (cond b (c ∷ filter (cut_stays l stay) cs) (filter (cut_stays l stay) cs)) ≡ has_num cut_key n cs
        either true = ap₂ (λ x y. x || y) e again
        either false = again

-- each row that passes a test is among those that do
among : (P : PutRow → Bool) (ps : List PutRow) → AllByRecursion (λ p. P p ≡ true → has_num put_key p.num (filter P ps) ≡ true) ps
among P [] = tt
among P (p ∷ ps) = (head, each_map (λ q. P q ≡ true → has_num put_key q.num (filter P ps) ≡ true) (λ q. P q ≡ true → has_num put_key q.num (filter P (p ∷ ps)) ≡ true) (λ q h e. more q (P p) (h e)) ps (among P ps))
  where
    head : P p ≡ true → has_num put_key p.num (filter P (p ∷ ps)) ≡ true
    head e = ap (λ b. has_num put_key p.num (cond b (p ∷ filter P ps) (filter P ps))) e ∙ ap (λ b. b || has_num put_key p.num (filter P ps)) (num_eq-self p.num)

    more : (q : PutRow) (b : Bool) → has_num put_key q.num (filter P ps) ≡ true → has_num put_key q.num (cond b (p ∷ filter P ps) (filter P ps)) ≡ true
    more q true h = or_right (num_eq q.num p.num) (has_num put_key q.num (filter P ps)) h
    more q false h = h

live_alike : (l : Line) (cuts : List CutRow) (ps : List PutRow) → AllByRecursion (λ p. put_stays l p ≡ true → is_live (filter (cut_stays l (filter (put_stays l) ps)) cuts) p ≡ is_live cuts p) ps
live_alike l cuts ps = each_map (λ p. put_stays l p ≡ true → has_num put_key p.num (filter (put_stays l) ps) ≡ true) (λ p. put_stays l p ≡ true → is_live (filter (cut_stays l (filter (put_stays l) ps)) cuts) p ≡ is_live cuts p)
    (λ p h e. ap not (cut_kept p.num l (filter (put_stays l) ps) cuts (h e))) ps (among (put_stays l) ps)

-- past the line every put stays, and none is folded into the base
all_stay : (l : Line) (s : Stamp) (cuts cuts' : List CutRow) (ps : List PutRow) → AllByRecursion (λ p. is_below p.stamp l ≡ false) ps → AllByRecursion (λ p. put_stays l p ≡ true → is_live cuts' p ≡ is_live cuts p) ps
    → (filter (is_seen cuts' (line.At s)) (filter (put_stays l) ps) ≡ filter (is_seen cuts (line.At s)) ps) × (filter (is_seen cuts l) ps ≡ [])
all_stay l s cuts cuts' [] a b = (refl, refl)
all_stay l s cuts cuts' (p ∷ ps) a b =
    let again = all_stay l s cuts cuts' ps a.1 b.1 in
    let stays : put_stays l p ≡ true = ap not a.0 in
    let seen : is_seen cuts' (line.At s) p ≡ is_seen cuts (line.At s) p = ap (λ z. z && stamp_lt p.stamp s) (b.0 stays) in
    let none : is_seen cuts l p ≡ false = and_false (is_live cuts p) (is_below p.stamp l) a.0 in (
      ap (λ z. filter (is_seen cuts' (line.At s)) (cond z (p ∷ filter (put_stays l) ps) (filter (put_stays l) ps))) stays
          ∙ ap₂ (λ z y. cond z (p ∷ y) y) seen again.0,
      ap (λ z. cond z (p ∷ filter (is_seen cuts l) ps) (filter (is_seen cuts l) ps)) none ∙ again.1,
    )

trim_value : (l : Line) (s : Stamp) (cuts cuts' : List CutRow) (ps : List PutRow) (v : Value) → is_below s l ≡ false → IsInOrder value_key ps → AllByRecursion (λ p. put_stays l p ≡ true → is_live cuts' p ≡ is_live cuts p) ps
    → value_after (filter (is_seen cuts' (line.At s)) (filter (put_stays l) ps)) (value_after (filter (is_seen cuts l) ps) v) ≡ value_after (filter (is_seen cuts (line.At s)) ps) v
trim_value l s cuts cuts' [] v e o a = refl
trim_value l s cuts cuts' (p ∷ ps) v e o a = by (is_below p.stamp l) refl (trim_value l s cuts cuts' ps (applied p.change v) e o.1 a.1) (trim_value l s cuts cuts' ps v e o.1 a.1)
  where
    Rest : Value → Type 0
    Rest x = value_after (filter (is_seen cuts' (line.At s)) (filter (put_stays l) ps)) (value_after (filter (is_seen cuts l) ps) x) ≡ value_after (filter (is_seen cuts (line.At s)) ps) x

    later : (qs : List PutRow) → is_below p.stamp l ≡ false → AllByRecursion (λ q. key_lt (value_key q) (value_key p) ≡ false) qs → AllByRecursion (λ q. is_below q.stamp l ≡ false) qs
    later [] f b = tt
    later (q ∷ qs) f b = (not_below-later p.stamp q.stamp l (up_to-stamp (value_key p) (value_key q) b.0) f, later qs f b.1)

    by : (b : Bool) → is_below p.stamp l ≡ b → Rest (applied p.change v) → Rest v
        → value_after (filter (is_seen cuts' (line.At s)) (filter (put_stays l) (p ∷ ps))) (value_after (filter (is_seen cuts l) (p ∷ ps)) v) ≡ value_after (filter (is_seen cuts (line.At s)) (p ∷ ps)) v
    by true f live dead =
        let gone : put_stays l p ≡ false = ap not f in
        let low : is_seen cuts l p ≡ is_live cuts p = both_true (is_live cuts p) (is_below p.stamp l) f in
        let seen : is_seen cuts (line.At s) p ≡ is_live cuts p = both_true (is_live cuts p) (stamp_lt p.stamp s) (below-before p.stamp s l f e) in
        ap (λ z. value_after (filter (is_seen cuts' (line.At s)) (cond z (p ∷ filter (put_stays l) ps) (filter (put_stays l) ps))) (value_after (filter (is_seen cuts l) (p ∷ ps)) v)) gone
        ∙ (ap (λ z. value_after (filter (is_seen cuts' (line.At s)) (filter (put_stays l) ps)) (value_after (cond z (p ∷ filter (is_seen cuts l) ps) (filter (is_seen cuts l) ps)) v)) low
        ∙ (either (is_live cuts p) live dead ∙ ap (λ z. value_after (cond z (p ∷ filter (is_seen cuts (line.At s)) ps) (filter (is_seen cuts (line.At s)) ps)) v) (sym seen)))
      where
        either : (b : Bool) → Rest (applied p.change v) → Rest v → value_after (filter (is_seen cuts' (line.At s)) (filter (put_stays l) ps)) (value_after (cond b (p ∷ filter (is_seen cuts l) ps) (filter (is_seen cuts l) ps)) v)
            ≡ value_after (cond b (p ∷ filter (is_seen cuts (line.At s)) ps) (filter (is_seen cuts (line.At s)) ps)) v
        either true live' dead' = live'
        either false live' dead' = dead'
    by false f live dead =
        let stay = all_stay l s cuts cuts' (p ∷ ps) (f, later ps f o.0) a in
        ap₂ (λ x y. value_after x (value_after y v)) stay.0 stay.1

pub trim_keeps : (r : Parts) (l : Line) (s : Stamp) → IsInOrder put_key r.puts → is_below s l ≡ false → record_value (trimmed l r) s ≡ record_value r s
trim_keeps r l s o e =
    let cuts = filter (cut_stays l (filter (put_stays l) r.puts)) r.cuts in
    let seen = is_seen cuts (line.At s) in
    ap₂ (λ x y. value_after x (value_after y r.base)) (ordered seen (filter (put_stays l) r.puts) ∙ ap (filter seen) (ordered (put_stays l) r.puts)) (ordered (is_seen r.cuts l) r.puts)
    ∙ (trim_value l s r.cuts cuts (in_value_order r.puts) r.base e (add_rows-in_order value_key [] r.puts tt)
    (each_rows value_key (λ p. put_stays l p ≡ true → is_live cuts p ≡ is_live r.cuts p) [] r.puts tt (live_alike l r.cuts r.puts))
    ∙ ap (λ x. value_after x r.base) (sym (ordered (is_seen r.cuts (line.At s)) r.puts)))
  where
    ordered : (P : PutRow → Bool) (ps : List PutRow) → in_value_order (filter P ps) ≡ filter P (in_value_order ps)
    ordered P ps = sym (filter_add_rows value_key P [] ps tt)

pub trimmed-settled : (r : Parts) (l : Line) → IsSettled r → IsSettled (trimmed l r)
trimmed-settled r l s = record {
  puts = filter_in_order put_key (put_stays l) r.puts s.puts;
  cuts = filter_in_order cut_key (cut_stays l (filter (put_stays l) r.puts)) r.cuts s.cuts;
  reads = filter_in_order read_key (read_stays l) r.reads s.reads;
  puts_once = filter_distinct put_key (put_stays l) r.puts s.puts_once;
  cuts_once = filter_distinct cut_key (cut_stays l (filter (put_stays l) r.puts)) r.cuts s.cuts_once;
  reads_once = filter_distinct read_key (read_stays l) r.reads s.reads_once;
  hits = passed (read_stays l) (λ q. q.hit ≡ record_hit (trimmed l r) q) r.reads
      (each_map (λ q. q.hit ≡ record_hit r q) (λ q. read_stays l q ≡ true → q.hit ≡ record_hit (trimmed l r) q) (λ q h e. h ∙ ap (λ v. hit_in v q.window) (sym (trim_keeps r l q.stamp s.puts (unless (is_below q.stamp l) e)))) r.reads s.hits);
}
  where
    unless : (b : Bool) → not b ≡ true → b ≡ false
    unless true e = absurd cc
    unless false e = refl
