-- A scope of names that fit: distinct names that may be declared.
use Rattle.std.proofs.Common.{◌≡◌, refl, sym, ◌∙◌, ap, arith, ℕ, zero, suc, ◌+◌, ◌≤◌, ◌<◌, Bool, true, false, List, [], ◌∷◌, ◌++◌, length, get_or, nat_lt, Some}
use Rattle.std.specs.Prelude.{◌^◌, not, ◌&&◌, ◌||◌}
use Rattle.std.specs.Str.{bytes_eq}
use Rattle.std.proofs.lemmas.Slice.Eq.{bytes_eq-Decides}
use Rattle.std.proofs.lemmas.Bool.Decides.{nat_tests}
use Rattle.pm_base.specs.Fits.{has_name, names_fit}
use Rattle.pm_base.specs.Names.{is_name, is_reserved}
use Rattle.pm_rules.specs.Grammar.{AreDistinct, IsTable}
use Rattle.pm_rules.specs.Reading.{Table, number_from, number_of}
use Rattle.pm_rules.specs.Sayable.{IsScope}
use Rattle.pm_rules.specs.Statements.{is_free}
use Rattle.pm_rules.proofs.KnownParts.{both}

not_true : (b : Bool) → not b ≡ true → b ≡ false
not_true true e = cc
not_true false e = refl

neither : (a b : Bool) → (a || b) ≡ false → (a ≡ false) × (b ≡ false)
neither true b e = cc
neither false b e = (refl, e)

-- what is so of the first of names that fit
pub record FirstFits (n : List ℕ) (ns : List (List ℕ)) : Type 0 where
  pub free : is_free n ≡ true
  pub absent : has_name n ns ≡ false
  pub rest : names_fit ns ≡ true

pub first_fits : (n : List ℕ) (ns : List (List ℕ)) → names_fit (n ∷ ns) ≡ true → FirstFits n ns
unfolding is_free
first_fits n ns e =
    let outer = both ((is_name n && not (is_reserved n)) && not (has_name n ns)) (names_fit ns) e in
    let inner = both (is_name n && not (is_reserved n)) (not (has_name n ns)) outer.0 in
    record { free = inner.0; absent = not_true (has_name n ns) inner.1; rest = outer.1 }

pub names_made : (n : List ℕ) (ns : List (List ℕ)) → FirstFits n ns → names_fit (n ∷ ns) ≡ true
unfolding is_free
names_made n ns f = rw (f.free, f.absent, f.rest) refl

absent_left : (n : List ℕ) (xs ys : List (List ℕ)) → has_name n (xs ++ ys) ≡ false → has_name n xs ≡ false
absent_left n [] ys e = refl
absent_left n (x ∷ xs) ys e =
    let parts = neither (bytes_eq x n) (has_name n (xs ++ ys)) e in rw (parts.0, absent_left n xs ys parts.1) refl

-- the first names of names that fit, fit
pub names_left : (xs ys : List (List ℕ)) → names_fit (xs ++ ys) ≡ true → names_fit xs ≡ true
names_left [] ys e = refl
names_left (x ∷ xs) ys e =
    let first = first_fits x (xs ++ ys) e in
    names_made x xs (record {
      free = first.free;
      absent = absent_left x xs ys first.absent;
      rest = names_left xs ys
          first.rest;
    })

-- and the last ones
pub names_right : (xs ys : List (List ℕ)) → names_fit (xs ++ ys) ≡ true → names_fit ys ≡ true
names_right [] ys e = e
names_right (x ∷ xs) ys e = names_right xs ys (first_fits x (xs ++ ys) e).rest

-- names that fit may be declared
pub names_free : (names : List (List ℕ)) → names_fit names ≡ true → (k : ℕ) → k < length names →
    is_free (get_or names k []) ≡ true
names_free [] e k h = absurd (omega arith)
names_free (n ∷ ns) e zero h = (first_fits n ns e).free
names_free (n ∷ ns) e (suc k) h = names_free ns (first_fits n ns e).rest k (omega arith)

same_itself : (n : List ℕ) → bytes_eq n n ≡ true
same_itself n = (bytes_eq-Decides n n).1 refl

pub differ : (a b : List ℕ) (is : Bool) → bytes_eq b a ≡ is → bytes_eq a b ≡ false → is ≡ false
differ a b true is e =
    let same : b ≡ a = (bytes_eq-Decides b a).0 is in
    let never : true ≡ false = sym ((bytes_eq-Decides a b).1 (sym same)) ∙ e in cc
differ a b false is e = refl

absent_at : (n : List ℕ) (ns : List (List ℕ)) (k : ℕ) → has_name n ns ≡ false → k < length ns →
    bytes_eq n (get_or ns k []) ≡ false
absent_at n [] k e h = absurd (omega arith)
absent_at n (m ∷ ns) zero e h = differ m n (bytes_eq n m) refl (neither (bytes_eq m n) (has_name n ns) e).0
absent_at n (m ∷ ns) (suc k) e h = absent_at n ns k (neither (bytes_eq m n) (has_name n ns) e).1 (omega arith)

is_below : (k n : ℕ) → k < n → nat_lt k n ≡ true
is_below k n h = grind (arith, nat_tests)

numbered : (names : List (List ℕ)) (i k : ℕ) → names_fit names ≡ true → i + length names ≤ 2 ^ 32 → k < length names →
    number_from (get_or names k []) i names ≡ Some (i + k)
numbered [] i k e low h = absurd (omega arith)
numbered (n ∷ ns) i zero e low h =
    let here : i + 0 ≡ i = omega arith in
    rw (same_itself n, is_below i (2 ^ 32) (omega arith), here) refl
numbered (n ∷ ns) i (suc k) e low h =
    let first = first_fits n ns e in
    let next : i + 1 + k ≡ i + suc k = omega arith in
    rw (absent_at n ns k first.absent (omega arith))
    (numbered ns (i + 1) k first.rest (omega arith) (omega arith) ∙ ap (λ (j : ℕ). Some j) next)

-- names that fit are distinct
pub names_distinct : (names : List (List ℕ)) → names_fit names ≡ true → length names ≤ 2 ^ 32 → AreDistinct names
unfolding number_of
names_distinct names e low k h =
    let first : 0 + k ≡ k = omega arith in
    numbered names 0 k e (omega arith) h ∙ ap (λ (j : ℕ). Some j) first

-- the scope of a table and of names that fit
pub scope_made : (t : Table) (regs senses : List (List ℕ)) → IsTable t → names_fit (regs ++ senses) ≡ true →
    length regs ≤ 2 ^ 32 → length senses ≤ 2 ^ 32 →
    IsScope (record { table = t; regs = regs; senses = senses })
scope_made t regs senses is fit few_regs few_senses = record {
  classes = is.classes;
  vars = is.vars;
  regs = names_distinct regs (names_left regs senses fit) few_regs;
  senses = names_distinct senses (names_right regs senses fit) few_senses;
  free_regs = names_free regs (names_left regs senses fit);
  free_senses = names_free senses (names_right regs senses fit);
}
