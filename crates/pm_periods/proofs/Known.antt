-- What a record knows of its numbers, and what each receipt makes of that.
use Rattle.std.proofs.Common.{◌≡◌, inl, inr, Bool, true, false, not, cond, ◌||◌, List, [], ◌∷◌}
use Rattle.std.proofs.Common.{◌++◌, map, filter, Option, Some, None, refl, arith, ap, ap₂}
use Rattle.std.proofs.Common.{sym, ◌∙◌, subst}
use Rattle.std.specs.List.{AllByRecursion}
use Rattle.std.specs.Option.{is_some}
use Rattle.std.specs.BTreeMap.{is_at}
use Rattle.std.specs.List.{IsDistinct}
use Rattle.std.specs.Map.{keys_of, lookup}
use Rattle.std.specs.Ordering.{eq_by_cmp}
use Rattle.std.proofs.lemmas.Map.Keys.{IsDistinct-head, IsDistinct-tail}
use Rattle.std.proofs.lemmas.Bool.{cases_Bool, false≢true, or_parts}
use Rattle.std.proofs.lemmas.Bool.Decides.{nat_tests}
use Rattle.pm_base.specs.Stamps.{is_below, num_eq}
use Rattle.pm_base.specs.declared.rows.CutRow.{CutRow}
use Rattle.pm_base.specs.declared.rows.Parts.{Parts}
use Rattle.pm_base.specs.declared.rows.PutRow.{PutRow}
use Rattle.pm_base.specs.declared.rows.ReadRow.{ReadRow}
use Rattle.pm_base.specs.declared.stamp.Line.{Line}
use Rattle.pm_base.specs.declared.stamp.Num.{Num}
use Rattle.pm_base.specs.declared.stamp.Stamp.{Stamp}
use Rattle.pm_periods.specs.Known.{AreKnown, num_cmp, stamp_kept, stamp_of}
use Rattle.pm_periods.specs.Records.{IsSettled, after_cut, after_put, after_watch, cut_stays, fresh_read, put_stays}
use Rattle.pm_periods.specs.Records.{record_value, read_stays, refreshed, trimmed, with_cut, with_put, with_read}
use Rattle.pm_periods.specs.Rows.{AreDistinct, add_row, cut_key, has_num, key_lt, put_key, read_key}
use Rattle.pm_periods.specs.declared.rows.RowKey.{RowKey}
use Rattle.pm_periods.proofs.Hits.{fresh_read-key}
use Rattle.pm_periods.proofs.Keys.{num_eq-same}
use Rattle.pm_periods.proofs.Ordered.{has_num_less}
use Rattle.pm_periods.proofs.Splits.{has_num-append}

-- comparing tells whether two numbers are one
pub num-is : (a b : Num) → is_at (num_cmp a) b ≡ num_eq b a
num-is a b = grind (arith, nat_tests)

module _ {X : Type 0} (key : X → RowKey) where
  pub stamp-has : (n : Num) (xs : List X) → is_some (stamp_of key n xs) ≡ has_num key n xs
  stamp-has n [] = refl
  stamp-has n (x ∷ xs) = (let again = stamp-has n xs in elim
      (cases_Bool (num_eq n (key x).num)) [ inl e ↦ rw e refl | inr e ↦ rw e again ])

  pub stamp-none : (n : Num) (xs : List X) → has_num key n xs ≡ false → stamp_of key n xs ≡ None
  stamp-none n [] f = refl
  stamp-none n (x ∷ xs) f = (let o = or_parts (num_eq n (key x).num) (has_num key n xs) f in let e =
      o.0 in rw e (stamp-none n xs o.1))

  pub stamp-add : (n : Num) (r : X) (xs : List X) → has_num key (key r).num xs ≡ false
      → stamp_of key n (add_row key r xs) ≡ cond (num_eq n (key r).num) (Some (key r).stamp) (stamp_of key n xs)
  stamp-add n r [] f = refl
  stamp-add n r (x ∷ xs) f = elim (cases_Bool (key_lt (key r) (key x))) [
    | inl e ↦ rw e refl
    | inr e ↦
        let o = or_parts (num_eq (key r).num (key x).num) (has_num key (key r).num xs) f in
        rw e (ap (λ z. cond (num_eq n (key x).num) (Some (key x).stamp) z) (stamp-add n r xs o.1)
        ∙ by (num_eq n (key x).num) (num_eq n (key r).num) refl refl o.0)
  ]
    where
      by : (a b : Bool) → num_eq n (key x).num ≡ a → num_eq n (key r).num ≡ b → num_eq (key r).num (key x).num ≡ false
          → cond a (Some (key x).stamp) (cond b (Some (key r).stamp) (stamp_of key n xs))
          ≡ cond b (Some (key r).stamp) (cond a (Some (key x).stamp) (stamp_of key n xs))
      by true true p q o = absurd (false≢true (sym o
          ∙ (ap (λ m. num_eq m (key x).num) (sym (num_eq-same n (key r).num q)) ∙ p)))
      by true false p q o = refl
      by false true p q o = refl
      by false false p q o = refl

  -- what is left of distinct numbers, where a row of this number stays as its stamp tells
  pub stamp-filter : (n : Num) (l : Line) (b : Bool) (p : X → Bool)
      → ((x : X) → num_eq n (key x).num ≡ true → p x ≡ (not (is_below (key x).stamp l) || b)) → (xs : List X)
      → AreDistinct key xs
      → stamp_of key n (filter p xs) ≡ stamp_kept l b (stamp_of key n xs)
  stamp-filter n l b p f [] d = refl
  stamp-filter n l b p f (x ∷ xs) d = by (p x) (num_eq n (key x).num) refl refl (stamp-filter n l b p f xs d.1)
    where
      gone : num_eq n (key x).num ≡ true → stamp_of key n (filter p xs) ≡ None
      gone e = stamp-none n (filter p xs) (has_num_less key n p xs
          (ap (λ m. has_num key m xs) (num_eq-same n (key x).num e) ∙ d.0))

      by : (a c : Bool) → p x ≡ a → num_eq n (key x).num ≡ c
          → stamp_of key n (filter p xs) ≡ stamp_kept l b (stamp_of key n xs)
          → stamp_of key n (cond a (x ∷ filter p xs) (filter p xs))
          ≡ stamp_kept l b (cond c (Some (key x).stamp) (stamp_of key n xs))
      by true true e g again = rw g (ap (λ z. cond z (Some (key x).stamp) None) (sym e ∙ f x g))
      by true false e g again = rw g again
      by false true e g again = gone g ∙ ap (λ z. cond z (Some (key x).stamp) None) (sym e ∙ f x g)
      by false false e g again = again

  pub stamp-map : (n : Num) (f : X → X) → ((x : X) → key (f x) ≡ key x) → (xs : List X)
      → stamp_of key n (map f xs) ≡ stamp_of key n xs
  stamp-map n f same [] = refl
  stamp-map n f same (x ∷ xs) = ap₂ (λ k z. cond (num_eq n k.num) (Some k.stamp) z) (same x) (stamp-map n f same xs)

pub or_false : (b : Bool) → b ≡ (b || false)
or_false true = refl
or_false false = refl

-- ---- look-ups

no_look : (n : Num) (p : Num × Stamp → Bool) (es : List (Num × Stamp))
    → AllByRecursion (λ m. is_at (num_cmp n) m ≡ false) (keys_of es) → lookup (is_at (num_cmp n)) (filter p es) ≡ None
no_look n p [] a = refl
no_look n p (e ∷ es) a = by (p e) (no_look n p es a.1)
  where
    by : (b : Bool) → lookup (is_at (num_cmp n)) (filter p es) ≡ None
        → lookup (is_at (num_cmp n)) (cond b (e ∷ filter p es) (filter p es)) ≡ None
    by true again = (let f = a.0 in rw f again)
    by false again = again

-- what is left of a map, where the entry of this number stays as its stamp tells
pub look-kept : (n : Num) (l : Line) (b : Bool) (p : Num × Stamp → Bool)
    → ((e : Num × Stamp) → num_eq e.0 n ≡ true → p e ≡ (not (is_below e.1 l) || b)) → (es : List (Num × Stamp))
    → IsDistinct (eq_by_cmp num_cmp) (keys_of es)
    → lookup (is_at (num_cmp n)) (filter p es) ≡ stamp_kept l b (lookup (is_at (num_cmp n)) es)
look-kept n l b p f [] d = refl
look-kept n l b p f (e ∷ es) d = by (p e) (is_at (num_cmp n) e.0) refl refl
    (look-kept n l b p f es (IsDistinct-tail (eq_by_cmp num_cmp) e.0 (keys_of es) d))
  where
    gone : is_at (num_cmp n) e.0 ≡ true → lookup (is_at (num_cmp n)) (filter p es) ≡ None
    gone g = no_look n p es (subst (λ m. AllByRecursion (λ k. is_at (num_cmp m) k ≡ false) (keys_of es))
        (num_eq-same e.0 n (sym (num-is n e.0) ∙ g)) (IsDistinct-head (eq_by_cmp num_cmp) e.0 (keys_of es) d))

    by : (a c : Bool) → p e ≡ a → is_at (num_cmp n) e.0 ≡ c
        → lookup (is_at (num_cmp n)) (filter p es) ≡ stamp_kept l b (lookup (is_at (num_cmp n)) es)
        → lookup (is_at (num_cmp n)) (cond a (e ∷ filter p es) (filter p es))
        ≡ stamp_kept l b (cond c (Some e.1) (lookup (is_at (num_cmp n)) es))
    by true true h g again = rw g (ap (λ z. cond z (Some e.1) None) (sym h ∙ f e (sym (num-is n e.0) ∙ g)))
    by true false h g again = rw g again
    by false true h g again = gone g ∙ ap (λ z. cond z (Some e.1) None) (sym h ∙ f e (sym (num-is n e.0) ∙ g))
    by false false h g again = again

-- ---- what a record knows after each receipt

abbrev Look : Type 0
Look = Num → Option Stamp

-- one row more is known
abbrev pub Learns : Look → Look → Num → Stamp → Type 0
Learns old new n s = (m : Num) → new m ≡ cond (num_eq m n) (Some s) (old m)

pub known-alike : (r : Parts) (P C R P' C' R' : Look) → AreKnown r P C R → ((n : Num) → P' n ≡ P n)
    → ((n : Num) → C' n ≡ C n) → ((n : Num) → R' n ≡ R n) → AreKnown r P' C' R'
known-alike r P C R P' C' R' k f g h = record {
  puts = λ n. f n ∙ k.puts n;
  cuts = λ n. g n ∙ k.cuts n;
  reads =
      λ n. h n ∙ k.reads n;
}

-- what was learned is forgotten again
pub unlearned : (old new gone : Look) (n : Num) (s : Stamp) → old n ≡ None → Learns old new n s
    → ((m : Num) → gone m ≡ cond (num_eq m n) None (new m)) → (m : Num) → gone m ≡ old m
unlearned old new gone n s none f g m = g m ∙ (ap (cond (num_eq m n) None) (f m) ∙ by (num_eq m n) refl)
  where
    by : (b : Bool) → num_eq m n ≡ b → cond b None (cond b (Some s) (old m)) ≡ old m
    by true e = sym (ap old (num_eq-same m n e) ∙ none)
    by false e = refl

known-refreshed : (r : Parts) (P C R : Look) → AreKnown r P C R → AreKnown (refreshed r) P C R
known-refreshed r P C R k = record {
  puts = k.puts;
  cuts = k.cuts;
  reads = λ n. k.reads n ∙ sym (stamp-map read_key n (fresh_read (record_value r))
      (fresh_read-key (record_value r)) r.reads);
}

-- how a look-up grows by a row
learned : {X : Type 0} (key : X → RowKey) (old new : Look) (x : X) (xs : List X) → has_num key (key x).num xs ≡ false
    → ((n : Num) → old n ≡ stamp_of key n xs) → Learns old new (key x).num (key x).stamp → (n : Num)
    → new n ≡ stamp_of key n (add_row key x xs)
learned key old new x xs e k f n = f n ∙ (ap (cond (num_eq n (key x).num) (Some (key x).stamp)) (k n)
    ∙ sym (stamp-add key n x xs e))

-- by the key that the code made
pub learns-at : (old new : Look) (k l : RowKey) → k ≡ l → Learns old new k.num k.stamp → Learns old new l.num l.stamp
learns-at old new k l e f = subst (λ (z : RowKey). Learns old new z.num z.stamp) e f

-- the same of whether numbers are known, where the row comes last
pub firsts-known : {X : Type 0} (key : X → RowKey) (x : X) (first next : List X) (old new : Look)
    → ((n : Num) → is_some (old n) ≡ has_num key n first) → Learns old new (key x).num (key x).stamp
    → next ≡ first ++ x ∷ []
    → (n : Num) → is_some (new n) ≡ has_num key n next
firsts-known key x first next old new k f e n = ap is_some (f n)
    ∙ (by (num_eq n (key x).num) ∙ (sym (has_num-append key n first (x ∷ [])) ∙ ap (has_num key n) (sym e)))
  where
    or_true : (b : Bool) → true ≡ (b || true)
    or_true true = refl
    or_true false = refl

    by : (b : Bool) → is_some (cond b (Some (key x).stamp) (old n)) ≡ (has_num key n first || (b || false))
    by true = or_true (has_num key n first)
    by false = k n ∙ or_false (has_num key n first)

pub known-put : (p : PutRow) (r : Parts) (P C R P' : Look) → AreKnown r P C R → has_num put_key p.num r.puts ≡ false
    → Learns P P' p.num p.stamp → AreKnown (after_put p r) P' C R
known-put p r P C R P' k e f =
    subst (λ b. AreKnown (cond b r (refreshed (with_put p r))) P' C R) (sym e)
    (known-refreshed (with_put p r) P' C R (record {
      puts = learned put_key P P' p r.puts e k.puts f;
      cuts =
          k.cuts;
      reads = k.reads;
    }))

pub known-cut : (c : CutRow) (r : Parts) (P C R C' : Look) → AreKnown r P C R → has_num cut_key c.num r.cuts ≡ false
    → Learns C C' c.num c.stamp → AreKnown (after_cut c r) P C' R
known-cut c r P C R C' k e f =
    subst (λ b. AreKnown (cond b r (refreshed (with_cut c r))) P C' R) (sym e)
    (known-refreshed (with_cut c r) P C' R (record {
      puts = k.puts;
      cuts =
          learned cut_key C C' c r.cuts e k.cuts f;
      reads = k.reads;
    }))

pub known-read : (q : ReadRow) (r : Parts) (P C R R' : Look) → AreKnown r P C R
    → has_num read_key q.num r.reads ≡ false → Learns R R' q.num q.stamp → AreKnown (with_read q r) P C R'
known-read q r P C R R' k e f = record {
  puts = k.puts;
  cuts = k.cuts;
  reads =
      learned read_key R R' q r.reads e k.reads f;
}

pub known-watch : (q : ReadRow) (r : Parts) (P C R R' : Look) → AreKnown r P C R
    → has_num read_key q.num r.reads ≡ false → Learns R R' q.num q.stamp → AreKnown (after_watch q r) P C R'
known-watch q r P C R R' k e f = subst (λ b. AreKnown (cond b r (refreshed (with_read q r))) P C R') (sym e)
    (known-refreshed (with_read q r) P C R' (known-read q r P C R R' k e f))

pub known-trim : (l : Line) (r : Parts) (P C R P' C' R' : Look) → IsSettled r → AreKnown r P C R
    → ((n : Num) → P' n ≡ stamp_kept l false (P n)) → ((n : Num) → C' n ≡ stamp_kept l (is_some (P' n)) (C n))
    → ((n : Num) → R' n ≡ stamp_kept l false (R n))
    → AreKnown (trimmed l r) P' C' R'
known-trim l r P C R P' C' R' s k f g h = record {
  puts = puts;
  cuts = λ n. g n ∙ (ap (stamp_kept l (is_some (P' n))) (k.cuts n)
      ∙ sym (stamp-filter cut_key n l (is_some (P' n)) (cut_stays l kept)
      (λ c e. ap (λ b. not (is_below c.stamp l) || b) (there n c.num e)) r.cuts s.cuts_once));
  reads = λ n. h n ∙ (ap (stamp_kept l false) (k.reads n)
      ∙ sym (stamp-filter read_key n l false (read_stays l)
      (λ q e. or_false (not (is_below q.stamp l))) r.reads s.reads_once));
}
  where
    kept : List PutRow
    kept = filter (put_stays l) r.puts

    puts : (n : Num) → P' n ≡ stamp_of put_key n kept
    puts n = f n ∙ (ap (stamp_kept l false) (k.puts n)
        ∙ sym (stamp-filter put_key n l false (put_stays l)
        (λ p e. or_false (not (is_below p.stamp l))) r.puts s.puts_once))

    there : (n m : Num) → num_eq n m ≡ true → has_num put_key m kept ≡ is_some (P' n)
    there n m e = ap (λ z. has_num put_key z kept) (sym (num_eq-same n m e))
        ∙ (sym (stamp-has put_key n kept) ∙ ap is_some (sym (puts n)))
