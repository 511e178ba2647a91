-- The records at all communication processes are at most as many as there are variables.
use Rattle.std.proofs.Common.{◌≡◌, ℕ, zero, suc, ◌+◌, ◌<◌, ◌≤◌, inl, inr, Bool, true, false, not, List, [], ◌∷◌, length, refl, arith, ap, sym, ◌∙◌, subst, Option, Some, None}
use Rattle.std.proofs.lemmas.Bool.{cases_eq}
use Rattle.pm_base.specs.declared.rows.Parts.{Parts}
use Rattle.pm_base.specs.declared.stamp.Num.{Num}
use Rattle.pm_model.specs.declared.State.{State}
use Rattle.pm_plan.specs.Plans.{IsValid}
use Rattle.pm_plan.specs.declared.plan.Plan.{Plan}
use Rattle.pm_clp.specs.Clps.{rec_at}
use Rattle.pm_sim.proofs.Places.{Sim, clp_at}
use Rattle.pm_sim.proofs.Promised.{plan_fits}
use Rattle.pm_sim.specs.Routings.{stands_at}
use Rattle.pm_sim.specs.Sims.{has_read, one_if}
use Rattle.pm_sim.specs.Worlds.{World, clps_of}
use Rattle.pm_calm.proofs.Rounds.{reached_kept}
use Rattle.pm_cost.specs.Spending.{total}
use Rattle.pm_cost.specs.Weights.{UnreadAreFew, is_unread, unread}
use Rattle.pm_cost.proofs.TreeSides.{total_add, total_zero}

total_less : (n : ℕ) (f g : ℕ → ℕ) → ((x : ℕ) → x < n → f x ≤ g x) → total n f ≤ total n g
total_less zero f g h = omega arith
total_less (suc n) f g h = (let a = h n (omega arith) in
    let b = total_less n f g (λ x l. h x (omega (arith, l))) in omega (arith, a, b))

total_most : (n : ℕ) (f : ℕ → ℕ) → ((x : ℕ) → x < n → f x ≤ 1) → total n f ≤ n
total_most zero f h = omega arith
total_most (suc n) f h = (let a = h n (omega arith) in
    let b = total_most n f (λ x l. h x (omega (arith, l))) in omega (arith, a, b))

-- the first part first
total_first : (n : ℕ) (f : ℕ → ℕ) → total (suc n) f ≡ f 0 + total n (λ x. f (suc x))
total_first zero f = omega arith
total_first (suc n) f = (let a = total_first n f in omega (arith, a))

-- the order of two sums
total_swap : (n m : ℕ) (f : ℕ → ℕ → ℕ) → total n (λ x. total m (f x)) ≡ total m (λ y. total n (λ x. f x y))
total_swap zero m f = sym (total_zero m (λ y. 0) (λ y l. refl))
total_swap (suc n) m f =
    ap (λ k. total m (f n) + k) (total_swap n m f)
    ∙ sym (total_add m (f n) (λ y. total n (λ x. f x y)) (λ y. total (suc n) (λ x. f x y)) (λ y l. refl))

-- only one part isn't nothing
total_none : (n : ℕ) (f : ℕ → ℕ) (c : ℕ) → ((d : ℕ) → d < n → (d ≡ c → ⊥) → f d ≡ 0) → n ≤ c → total n f ≡ 0
total_none n f c h le = total_zero n f (λ d l. h d l (λ e. omega (arith, e, l, le)))

total_one : (n : ℕ) (f : ℕ → ℕ) (c : ℕ) → ((d : ℕ) → d < n → (d ≡ c → ⊥) → f d ≡ 0) → ((d : ℕ) → f d ≤ 1)
    → total n f ≤ 1
total_one zero f c h most = omega arith
total_one (suc n) f c h most = elim (cases_eq n c) [
  | inl e ↦ (let a = total_none n f c (λ d l ne. h d (omega (arith, l)) ne) (omega (arith, e)) in
      let b = most n in omega (arith, a, b))
  | inr ne ↦ (let a = h n (omega arith) ne in
      let b = total_one n f c (λ d l ne'. h d (omega (arith, l)) ne') most in omega (arith, a, b))
]

one_most : (b : Bool) → one_if b 0 ≤ 1
one_most true = omega arith
one_most false = omega arith

-- one where the record of v is here
abbrev here : List (Option Parts) → ℕ → ℕ
here rs v = one_if (stands_at (rec_at rs v)) 0

unread_here : (m : Num) (rs : List (Option Parts)) → unread m rs ≤ total (length rs) (here rs)
unread_here m [] = omega arith
unread_here m (r ∷ rs) = (let a = unread_here m rs in let b = total_first (length rs) (here (r ∷ rs)) in
    let k = one r (unread m rs) in omega (arith, a, b, k))
  where
    one : (o : Option Parts) (n : ℕ) → one_if (is_unread m o) n ≤ one_if (stands_at o) 0 + n
    one None n = omega arith
    one (Some y) n = by (has_read m y.reads)
      where
        by : (b : Bool) → one_if (not b) n ≤ 1 + n
        by true = omega arith
        by false = omega arith

few : (p : Plan) (q : State) (w : World) (recs : ℕ → Parts) → Sim p q w recs → (m : Num)
    → total (clps_of p) (λ c. unread m (clp_at w c).records) ≤ length q.values
few p q w recs sim m =
    let a = total_less (clps_of p) (λ c. unread m (clp_at w c).records)
    (λ c. total (length q.values) (here (clp_at w c).records))
    (λ c l. subst (λ n. unread m (clp_at w c).records ≤ total n (here (clp_at w c).records))
    (sim.places.records_len c l) (unread_here m (clp_at w c).records)) in
    let b = total_swap (clps_of p) (length q.values) (λ c v. here (clp_at w c).records v) in
    let d = total_most (length q.values) (λ v. total (clps_of p) (λ c. here (clp_at w c).records v))
    (λ v l. total_one (clps_of p) (λ c. here (clp_at w c).records v) (sim.place v)
    (λ c lc ne. none c v lc ne (rec_at (clp_at w c).records v) refl)
    (λ c. one_most (stands_at (rec_at (clp_at w c).records v)))) in
    omega (arith, a, b, d)
  where
    none : (c v : ℕ) → c < clps_of p → (c ≡ sim.place v → ⊥) → (o : Option Parts)
        → rec_at (clp_at w c).records v ≡ o → one_if (stands_at o) 0 ≡ 0
    none c v l ne None e = refl
    none c v l ne (Some r) e = absurd (ne (sym (sim.places.at c v r l e).0))

pub few_unread : (p : Plan) (n : ℕ) (w : World) (m : Num) → IsValid p → UnreadAreFew p n w m
few_unread p n w m valid reached =
    let k = reached_kept p (plan_fits p valid) n w reached in
    let a = few p k.whole.q w k.whole.full.recs k.whole.full.sim m in
    let b = k.whole.full.sim.core.same_vars in omega (arith, a, b)
