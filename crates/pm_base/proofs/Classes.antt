-- Classes of variables: where they end, and that each variable has one class.
use Rattle.std.proofs.Common.{◌≡◌, refl, ℕ, zero, suc, ◌+◌, ◌-◌, ◌<◌, ◌≤◌, ◌^◌, ℤ, pos, negsuc, unsigned_abs, Bool, true, false, nat_lt, if◌then◌else◌, List, [], ◌∷◌, length, slice_get, Some, None, arith, sym, ◌∙◌, ap}
use Rattle.std.proofs.lemmas.Bool.Decides.{nat_tests}
use Rattle.std.proofs.lemmas.Int.{to_z-of_z}
use Rattle.std.proofs.lemmas.Option.{none-some, same_Some}
use Rattle.std.specs.Int.{int_rem_euclid}
use Rattle.pm_base.specs.Layouts.{Follow, IsLayout, IsMember, IsClassOf, class_row, class_of, member_of, var_count}
use Rattle.pm_base.specs.declared.layout.ClassRow.{ClassRow}
use Rattle.pm_base.specs.declared.layout.Layout.{Layout}

place_under : (e : ℤ) (n : ℕ) → 0 < n → unsigned_abs (int_rem_euclid e (pos n)) < n
place_under (pos a) n h = omega arith
place_under (negsuc a) n h = omega arith

pub member_of-member : (row : ClassRow) (e : ℤ) → 0 < row.count → IsMember row (member_of row e)
member_of-member row e h = let p = place_under e row.count h in grind (arith, nat_tests)

follow_under : (n : ℕ) (cs : List ClassRow) → Follow n cs → n < 2 ^ 32
follow_under n [] f = f
follow_under n (c ∷ cs) f = let h = follow_under (n + c.count) cs f.1 in omega arith

pub row_under : (n : ℕ) (cs : List ClassRow) → Follow n cs → (k : ℕ) → (class_row cs k).first + (class_row cs k).count < 2 ^ 32
row_under n [] f k = omega arith
row_under n (c ∷ cs) f zero = let h = follow_under (n + c.count) cs f.1 in omega (arith, f.0)
row_under n (c ∷ cs) f (suc k) = row_under (n + c.count) cs f.1 k

-- each class ends below 2 ^ 32
pub class_under : (layout : Layout) → IsLayout layout → (k : ℕ) → (class_row layout.classes k).first + (class_row layout.classes k).count < 2 ^ 32
class_under layout h = row_under 0 layout.classes h.follow

-- a class with a member exists, and begins where the classes do or later
pub member_exists : (cs : List ClassRow) (k var : ℕ) → IsMember (class_row cs k) var → k < length cs
member_exists [] k var m = absurd (omega (arith, m.first, m.last))
member_exists (c ∷ cs) zero var m = omega arith
member_exists (c ∷ cs) (suc k) var m = let h = member_exists cs k var m in omega arith

pub member_from : (n : ℕ) (cs : List ClassRow) → Follow n cs → (k var : ℕ) → IsMember (class_row cs k) var → n ≤ var
member_from n [] f k var m = absurd (omega (arith, m.first, m.last))
member_from n (c ∷ cs) f zero var m = omega (arith, f.0, m.first)
member_from n (c ∷ cs) f (suc k) var m = let h = member_from (n + c.count) cs f.1 k var m in omega arith

pub member_before : (n : ℕ) (cs : List ClassRow) → Follow n cs → (k var : ℕ) → IsMember (class_row cs k) var → var < n + var_count cs
member_before n [] f k var m = absurd (omega (arith, m.first, m.last))
member_before n (c ∷ cs) f zero var m = omega (arith, f.0, m.last)
member_before n (c ∷ cs) f (suc k) var m = let h = member_before (n + c.count) cs f.1 k var m in omega arith

class_of-exists : (n : ℕ) (cs : List ClassRow) (var : ℕ) → Follow n cs → n ≤ var → var < n + var_count cs → class_of cs var < length cs
class_of-exists n [] var f low high = absurd (omega (arith, low, high))
class_of-exists n (c ∷ cs) var f low high =
    by (nat_lt var (c.first + c.count)) refl (λ past. class_of-exists (n + c.count) cs var f.1 (omega (arith, f.0, past)) (omega (arith, high)))
  where
    by : (b : Bool) → nat_lt var (c.first + c.count) ≡ b → (c.first + c.count ≤ var → class_of cs var < length cs) → (if b then 0 else suc (class_of cs var)) < length (c ∷ cs)
    by true e more = omega arith
    by false e more = let h = more (grind (arith, nat_tests, e)) in omega (arith, h)

class_of-member : (n : ℕ) (cs : List ClassRow) (var : ℕ) → Follow n cs → n ≤ var → var < n + var_count cs → IsMember (class_row cs (class_of cs var)) var
class_of-member n [] var f low high = absurd (omega (arith, low, high))
class_of-member n (c ∷ cs) var f low high =
    by (nat_lt var (c.first + c.count)) refl (λ past. class_of-member (n + c.count) cs var f.1 (omega (arith, f.0, past)) (omega (arith, high)))
  where
    by : (b : Bool) → nat_lt var (c.first + c.count) ≡ b → (c.first + c.count ≤ var → IsMember (class_row cs (class_of cs var)) var) → IsMember (class_row (c ∷ cs) (if b then 0 else suc (class_of cs var))) var
    by true e more = record { first = omega (arith, f.0, low); last = grind (arith, nat_tests, e) }
    by false e more = more (grind (arith, nat_tests, e))

class_of-only : (n : ℕ) (cs : List ClassRow) (k var : ℕ) → Follow n cs → IsMember (class_row cs k) var → k ≡ class_of cs var
class_of-only n [] k var f m = absurd (omega (arith, m.first, m.last))
class_of-only n (c ∷ cs) zero var f m =
    let low : nat_lt var (c.first + c.count) ≡ true = grind (arith, nat_tests, m.last) in
    rw low refl
class_of-only n (c ∷ cs) (suc k) var f m =
    let from = member_from (n + c.count) cs f.1 k var m in
    let past : nat_lt var (c.first + c.count) ≡ false = grind (arith, nat_tests, from, f.0) in
    rw past (ap suc (class_of-only (n + c.count) cs k var f.1 m))

-- each variable has exactly one class
pub class_of-is : (layout : Layout) (var : ℕ) → IsLayout layout → var < var_count layout.classes → IsClassOf layout.classes var (class_of layout.classes var)
class_of-is layout var h below = let low : var < 0 + var_count layout.classes = omega (arith, below) in record {
  exists = class_of-exists 0 layout.classes var h.follow (omega arith) low;
  member = class_of-member 0 layout.classes var h.follow (omega arith) low;
  only = λ k m. class_of-only 0 layout.classes k var h.follow m;
}

-- two classes with a common variable are one
pub classes_apart : (layout : Layout) (j k var : ℕ) → IsLayout layout → IsMember (class_row layout.classes j) var → IsMember (class_row layout.classes k) var → j ≡ k
classes_apart layout j k var h p q = class_of-only 0 layout.classes j var h.follow p ∙ sym (class_of-only 0 layout.classes k var h.follow q)

-- a member of a class is one of the variables
pub member_is_variable : (layout : Layout) (k var : ℕ) → IsLayout layout → IsMember (class_row layout.classes k) var → var < var_count layout.classes
member_is_variable layout k var h m = let before = member_before 0 layout.classes h.follow k var m in omega (arith, before)

-- the classes end where the last one does
last_end : (n : ℕ) (c : ClassRow) (cs : List ClassRow) (row : ClassRow) → Follow n (c ∷ cs) → slice_get (c ∷ cs) (length cs) ≡ Some row → row.first + row.count ≡ n + var_count (c ∷ cs)
last_end n c [] row f h = rw (sym (same_Some c row h)) (omega (arith, f.0))
last_end n c (d ∷ cs) row f h = let e = last_end (n + c.count) d cs row f.1 h in omega (arith, e)

last_there : (c : ClassRow) (cs : List ClassRow) → slice_get (c ∷ cs) (length cs) ≡ None → ⊥
last_there c [] h = none-some c (sym h)
last_there c (d ∷ cs) h = last_there d cs h

pub last_tells : (n : ℕ) (cs : List ClassRow) (row : ClassRow) → Follow n cs → slice_get cs (length cs - 1) ≡ Some row → row.first + row.count ≡ n + var_count cs
last_tells n [] row f h = absurd (none-some row h)
last_tells n (c ∷ cs) row f h = let less : suc (length cs) - 1 ≡ length cs = omega arith in last_end n c cs row f (rw less at h)

pub no_last_tells : (cs : List ClassRow) → slice_get cs (length cs - 1) ≡ None → 0 ≡ var_count cs
no_last_tells [] h = refl
no_last_tells (c ∷ cs) h = let less : suc (length cs) - 1 ≡ length cs = omega arith in absurd (last_there c cs (rw less at h))

pub last_under : (n : ℕ) (cs : List ClassRow) → Follow n cs → n + var_count cs < 2 ^ 32
last_under n [] f = omega (arith, f)
last_under n (c ∷ cs) f = let e = last_under (n + c.count) cs f.1 in omega (arith, e)

pub ruleset member_steps = (member_of-member, class_under, to_z-of_z)

pub ruleset class_steps = (class_of-is)
