-- How much is kept, counted one process after another.
use Rattle.std.proofs.Common.{ℕ, ◌+◌, ◌-◌, ◌^◌, ◌<◌, ◌≤◌, ◌≡◌, ◌∙◌, List, [], ◌∷◌, Option, Some, None, ap, sym, refl, arith, drop, get_or, length, map, min}
use Rattle.std.proofs.lemmas.List.{drop_all, drop_more}
use Rattle.pm_base.specs.declared.rows.Parts.{Parts}
use Rattle.pm_alp.specs.Views.{Process as AlpView}
use Rattle.pm_clp.specs.Sizes.{rows_in, rows_of, size_of}
use Rattle.pm_clp.specs.Views.{ClpView}
use Rattle.pm_sim.specs.Kept.{kept_agents, kept_clps, kept_rec, kept_recs}

rec_same : (r : Option Parts) → rows_in r ≡ kept_rec r
rec_same None = refl
rec_same (Some r) = refl

recs_same : (rs : List (Option Parts)) → rows_of rs ≡ kept_recs rs
recs_same [] = refl
recs_same (r ∷ rs) = (let a = rec_same r in let b = recs_same rs in omega arith)

-- what these communication processes keep
abbrev pub at_clps : List ClpView → ℕ
at_clps xs = kept_clps (map (λ (c : ClpView). c.clp) xs)

-- what these agents' processes keep
abbrev pub at_alps : List AlpView → ℕ
at_alps xs = kept_agents (map (λ (a : AlpView). a.agent) xs)

-- the sum so far and what is left, where one part was added
more : (k s r m all z : ℕ) → min (k + z) m ≡ all → z ≡ s + r → min (min (k + min s m) m + r) m ≡ all
more k s r m all z e f = omega arith

pub clp_more : (xs : List ClpView) (i k m all n : ℕ) (v : ClpView) → i < length xs → v ≡ get_or xs i v
    → m ≡ 2 ^ 64 - 1 → n ≡ size_of v.clp → min (k + at_clps (drop i xs)) m ≡ all
    → min (min (k + n) m + at_clps (drop (i + 1) xs)) m ≡ all
clp_more xs i k m all n v lt is top e sum =
    let d : at_clps (drop i xs) ≡ at_clps (v ∷ drop (i + 1) xs) =
    ap at_clps (drop_more xs i v lt ∙ ap (λ z. z ∷ drop (i + 1) xs) (sym is)) in
    let s = recs_same v.clp.records in
    let one : at_clps (v ∷ drop (i + 1) xs)
    ≡ (kept_recs v.clp.records + length v.clp.queries) + at_clps (drop (i + 1) xs) = refl in
    let f : at_clps (drop i xs) ≡ (rows_of v.clp.records + length v.clp.queries) + at_clps (drop (i + 1) xs) =
    omega (arith, d, s, one) in
    let g : n ≡ min (rows_of v.clp.records + length v.clp.queries) m = omega (arith, e, top) in
    ap (λ z. min (min (k + z) m + at_clps (drop (i + 1) xs)) m) g
    ∙ more k (rows_of v.clp.records + length v.clp.queries) (at_clps (drop (i + 1) xs)) m all (at_clps (drop i xs)) sum f

pub alp_more : (xs : List AlpView) (i k m all : ℕ) (v : AlpView) → i < length xs → v ≡ get_or xs i v
    → min (k + at_alps (drop i xs)) m ≡ all
    → min (min (k + length v.agent.steps) m + at_alps (drop (i + 1) xs)) m ≡ all
alp_more xs i k m all v lt is sum =
    let d : at_alps (drop i xs) ≡ at_alps (v ∷ drop (i + 1) xs) =
    ap at_alps (drop_more xs i v lt ∙ ap (λ z. z ∷ drop (i + 1) xs) (sym is)) in
    let one : at_alps (v ∷ drop (i + 1) xs) ≡ length v.agent.steps + at_alps (drop (i + 1) xs) = refl in
    let f : at_alps (drop i xs) ≡ length v.agent.steps + at_alps (drop (i + 1) xs) = omega (arith, d, one) in
    omega (arith, sum, f)

pub clps_done : (xs : List ClpView) (i k m all : ℕ) → length xs ≤ i → k ≤ m → min (k + at_clps (drop i xs)) m ≡ all
    → k ≡ all
clps_done xs i k m all le few sum =
    let d : at_clps (drop i xs) ≡ 0 = ap at_clps (drop_all i xs le) in
    omega (arith, sum, d, few)

pub alps_done : (xs : List AlpView) (i k m all : ℕ) → length xs ≤ i → k ≤ m → min (k + at_alps (drop i xs)) m ≡ all
    → k ≡ all
alps_done xs i k m all le few sum =
    let d : at_alps (drop i xs) ≡ 0 = ap at_alps (drop_all i xs le) in
    omega (arith, sum, d, few)
