-- The order in which rows stand: by stamp, then by number.
use Rattle.std.proofs.Common.{◌≡◌, ◌<◌, ◌≤◌, ◌⊎◌, inl, inr, true, false, not, ◌&&◌, refl, arith, ◌∙◌}
use Rattle.std.proofs.lemmas.Bool.{cases_Bool, or_parts}
use Rattle.std.proofs.lemmas.Bool.Decides.{nat_tests}
use Rattle.pm_base.specs.Stamps.{stamp_lt, num_lt}
use Rattle.pm_base.specs.declared.stamp.Num.{Num}
use Rattle.pm_base.specs.declared.stamp.Stamp.{Stamp}
use Rattle.pm_base.specs.Stamps.{num_eq}
use Rattle.pm_periods.specs.Rows.{key_lt}
use Rattle.pm_periods.specs.declared.rows.RowKey.{RowKey}

pub num_eq-self : (n : Num) → num_eq n n ≡ true
num_eq-self n = grind (arith, nat_tests)

pub num_eq-flip : (m n : Num) → num_eq m n ≡ false → num_eq n m ≡ false
num_eq-flip m n e = grind (arith, nat_tests, e)

pub num_eq-same : (m n : Num) → num_eq m n ≡ true → m ≡ n
num_eq-same m n e = grind (arith, nat_tests, e)

-- a stamp comes before another, or it is the same and the number comes before the other
abbrev StampBefore : Stamp → Stamp → Type 0
StampBefore s t = (s.time < t.time) ⊎ ((s.time ≡ t.time) × (s.agent < t.agent))

abbrev KeyBefore : RowKey → RowKey → Type 0
KeyBefore a b = StampBefore a.stamp b.stamp ⊎ ((a.stamp.time ≡ b.stamp.time) × (a.stamp.agent ≡ b.stamp.agent) × ((a.num.agent < b.num.agent) ⊎ ((a.num.agent ≡ b.num.agent) × (a.num.seq < b.num.seq))))

fact_of : (a b : RowKey) → key_lt a b ≡ true → KeyBefore a b
fact_of a b e = grind (arith, nat_tests, e)

test_of : (a b : RowKey) → KeyBefore a b → key_lt a b ≡ true
test_of a b (inl h) = (let e : stamp_lt a.stamp b.stamp ≡ true = grind (arith, nat_tests, h) in rw e refl)
test_of a b (inr h) = (let p = h.0 in let q = h.1 in let r = h.2 in
    let d : stamp_lt a.stamp b.stamp ≡ false = grind (arith, nat_tests) in
    let e : stamp_lt b.stamp a.stamp ≡ false = grind (arith, nat_tests) in
    let f : num_lt a.num b.num ≡ true = grind (arith, nat_tests, r) in
    rw (d, e, f) refl)

-- a row doesn't stand after another
abbrev KeyUpTo : RowKey → RowKey → Type 0
KeyUpTo a b = StampBefore a.stamp b.stamp ⊎ ((a.stamp.time ≡ b.stamp.time) × (a.stamp.agent ≡ b.stamp.agent) × ((a.num.agent < b.num.agent) ⊎ ((a.num.agent ≡ b.num.agent) × (a.num.seq ≤ b.num.seq))))

up_to_of : (a b : RowKey) → key_lt b a ≡ false → KeyUpTo a b
up_to_of a b e = grind (arith, nat_tests, e)

before_up_to : (a b c : RowKey) → KeyBefore a b → KeyUpTo b c → KeyBefore a c
before_up_to a b c (inl p) (inl q) = inl (grind arith)
before_up_to a b c (inl p) (inr q) = inl (let x = q.0 in let y = q.1 in grind (arith, p, x, y))
before_up_to a b c (inr p) (inl q) = inl (let x = p.0 in let y = p.1 in grind (arith, q, x, y))
before_up_to a b c (inr p) (inr q) = inr (p.0 ∙ q.0, p.1 ∙ q.1, (let x = p.2 in let y = q.2 in grind (arith, x, y)))

neither : (a b : RowKey) → KeyBefore a b → KeyBefore b a → ⊥
neither a b (inl p) (inl q) = grind arith
neither a b (inl p) (inr q) = (let x = q.0 in let y = q.1 in grind (arith, p, x, y))
neither a b (inr p) (inl q) = (let x = p.0 in let y = p.1 in grind (arith, q, x, y))
neither a b (inr p) (inr q) = (let x = p.2 in let y = q.2 in grind (arith, x, y))

pub key_lt-asym : (a b : RowKey) → key_lt a b ≡ true → key_lt b a ≡ false
key_lt-asym a b e = elim (cases_Bool (key_lt b a)) [ inr f ↦ f | inl f ↦ absurd (neither a b (fact_of a b e) (fact_of b a f)) ]

-- a row before one that doesn't stand after a third is before the third
pub key_lt-up_to : (a b c : RowKey) → key_lt a b ≡ true → key_lt c b ≡ false → key_lt a c ≡ true
key_lt-up_to a b c e f = test_of a c (before_up_to a b c (fact_of a b e) (up_to_of b c f))

pub up_to-trans : (a b c : RowKey) → key_lt b a ≡ false → key_lt c b ≡ false → key_lt c a ≡ false
up_to-trans a b c e f = elim (cases_Bool (key_lt c a)) [ inr g ↦ g | inl g ↦ absurd (let h = key_lt-up_to c a b g e in cc) ]

-- then its stamp isn't later either
pub up_to-stamp : (a b : RowKey) → key_lt b a ≡ false → stamp_lt b.stamp a.stamp ≡ false
up_to-stamp a b e = (or_parts (stamp_lt b.stamp a.stamp) (not (stamp_lt a.stamp b.stamp) && num_lt b.num a.num) e).0
