-- How many queries there are.
use Rattle.std.proofs.Common.{◌≡◌, ℕ, zero, suc, ◌+◌, ◌-◌, ◌^◌, ◌<◌, ◌≤◌, min, List, [], ◌∷◌, length, get_or, drop, refl, arith, ap, ◌∙◌, sym, subst}
use Rattle.std.proofs.Math.Seq.{drop-cons}
use Rattle.std.proofs.lemmas.Bool.{cond_both}
use Rattle.pm_periods.specs.Rows.{key_lt}
use Rattle.pm_queries.specs.Queries.{add_reg, registered_key}
use Rattle.pm_queries.specs.Laid.{add_regs, merged}
use Rattle.pm_queries.specs.declared.registered.Registered.{Registered}

counted : (r : Registered) (qs : List Registered) → length (add_reg r qs) ≡ suc (length qs)
counted r [] = refl
counted r (x ∷ xs) =
    cond_both (key_lt (registered_key r) (registered_key x)) (r ∷ (x ∷ xs)) (x ∷ add_reg r xs) (λ l. length l ≡ suc (suc (length xs)))
    (λ _. refl) (λ _. ap suc (counted r xs))

counted_each : (rs qs : List Registered) → length (add_regs rs qs) ≡ length rs + length qs
counted_each [] qs = omega arith
counted_each (r ∷ rs) qs = (let one = counted r (add_regs rs qs) in let more = counted_each rs qs in omega (arith, one, more))

-- a class more, in a count that stops
counted_more : (n m all : ℕ) (c : List Registered) (rest : List (List Registered)) → min (n + length (merged (c ∷ rest))) m ≡ all
    → min (min (n + length c) m + length (merged rest)) m ≡ all
counted_more n m all c rest is = (let e : length (merged (c ∷ rest)) ≡ length c + length (merged rest) = counted_each c (merged rest) in omega (arith, is, e))

pub counted_at : (n m all : ℕ) (cs : List (List Registered)) (i : ℕ) (c : List Registered) → i < length cs → c ≡ get_or cs i c → min (n + length (merged (drop i cs))) m ≡ all
    → min (min (n + length c) m + length (merged (drop (i + 1) cs))) m ≡ all
counted_at n m all cs i c low is e =
    let more : suc i ≡ i + 1 = omega arith in
    subst (λ z. min (min (n + length c) m + length (merged (drop z cs))) m ≡ all) more
    (counted_more n m all c (drop (suc i) cs) (subst (λ z. min (n + length (merged (z ∷ drop (suc i) cs))) m ≡ all) (sym is)
    (subst (λ z. min (n + length (merged z)) m ≡ all) (drop-cons cs i c low) e)))

-- behind the last class
drop_all : {X : Type 0} (xs : List X) (n : ℕ) → length xs ≤ n → drop n xs ≡ []
drop_all [] zero i = refl
drop_all [] (suc n) i = refl
drop_all (x ∷ xs) zero i = absurd (omega arith)
drop_all (x ∷ xs) (suc n) i = drop_all xs n (omega arith)

pub counted_end : (n m all : ℕ) (cs : List (List Registered)) (i : ℕ) → length cs ≤ i → n ≤ m → min (n + length (merged (drop i cs))) m ≡ all → n ≡ all
counted_end n m all cs i past few e =
    let none : length (merged (drop i cs)) ≡ 0 = ap (λ z. length (merged z)) (drop_all cs i past) in
    omega (arith, none, few, e)
