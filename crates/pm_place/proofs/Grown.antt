-- A placing that grows by one variable after another.
use Rattle.std.proofs.Common.{◌≡◌, refl, ap, sym, subst, ◌∙◌, arith, ℕ, zero, suc, ◌+◌, ◌*◌, ◌<◌, ◌≤◌, ◌⊎◌, inl, inr, List, [], ◌∷◌, ◌++◌, length, length-append, get_or, take}
use Rattle.std.specs.Prelude.{◌^◌, sum}
use Rattle.std.specs.List.{AllByRecursion}
use Rattle.std.proofs.lemmas.List.{get_or_at, get_or_append_left, get_or_push, length-take-le, take_more}
use Rattle.std.proofs.lemmas.List.Sums.{sum_by_push}
use Rattle.pm_place.specs.Bests.{HasBestOfEach, HasGrown, IsCheap}
use Rattle.pm_place.specs.Tallies.{IsBest, cost_at}
use Rattle.pm_place.specs.declared.placing.Placing.{Placing}

-- before the first variable
pub best-none : (distances rows : List (List ℕ)) (p : Placing) → p.at ≡ [] → p.costs ≡ [] → p.total ≡ 0 → HasBestOfEach distances (take 0 rows) p
best-none distances rows p a b c = record {
  at = ap length a;
  costs = ap length b;
  total = c ∙ sym (ap sum b);
  best = λ var lt. absurd (omega (arith, lt));
}

-- what grew costs less than 2 ^ 40
pub grown-small : (counts : List ℕ) (distances : List (List ℕ)) (old new : Placing) → IsCheap distances counts → HasGrown counts distances old new
    → new.total ≤ old.total + 2 ^ 40
grown-small counts distances old new cheap g =
    let small = cheap g.clp g.best.there in
    let here = g.best.here in
    let total = g.total in
    omega (arith, small, here, total)

last-or-before : (n k : ℕ) → k < n + 1 → (k < n) ⊎ (k ≡ n)
last-or-before zero zero lt = inr refl
last-or-before zero (suc k) lt = absurd (omega (arith, lt))
last-or-before (suc n) zero lt = inl (omega arith)
last-or-before (suc n) (suc k) lt = elim (last-or-before n k (omega (arith, lt))) [
  | inl less ↦ inl (omega (arith, less))
  | inr same ↦ inr (ap suc same)
]

grown-list : (rows : List (List ℕ)) (counts : List ℕ) (distances : List (List ℕ)) (old new : Placing)
    → HasBestOfEach distances rows old → HasGrown counts distances old new → HasBestOfEach distances (rows ++ counts ∷ []) new
grown-list rows counts distances old new h g =
    let long = length-append rows (counts ∷ []) in
    let at = ap length g.at ∙ length-append old.at (g.clp ∷ []) in
    let costs = ap length g.costs ∙ length-append old.costs (g.part ∷ []) in
    let was = h.at in
    let cost = h.costs in
    record {
      at = omega (arith, long, at, was);
      costs = omega (arith, long, costs, cost);
      total = let sums = ap sum g.costs ∙ sum_by_push (λ (x : ℕ). x) old.costs g.part in let total = g.total in let before = h.total in omega (arith, sums, total, before);
      best = λ var lt. elim (last-or-before (length rows) var (omega (arith, lt, long))) [
        | inl less ↦
            subst (λ row. IsBest row distances (get_or new.at var 0) (get_or new.costs var 0)) (sym (get_or_append_left rows (counts ∷ []) [] var less))
            (subst (λ clp. IsBest (get_or rows var []) distances clp (get_or new.costs var 0))
            (sym (ap (λ (xs : List ℕ). get_or xs var 0) g.at ∙ get_or_append_left old.at (g.clp ∷ []) 0 var (omega (arith, less, was))))
            (subst (λ part. IsBest (get_or rows var []) distances (get_or old.at var 0) part)
            (sym (ap (λ (xs : List ℕ). get_or xs var 0) g.costs ∙ get_or_append_left old.costs (g.part ∷ []) 0 var (omega (arith, less, cost))))
            (h.best var less)))
        | inr same ↦
            subst (λ row. IsBest row distances (get_or new.at var 0) (get_or new.costs var 0)) (sym (get_or_push rows counts [] var (sym same)))
            (subst (λ clp. IsBest counts distances clp (get_or new.costs var 0))
            (sym (ap (λ (xs : List ℕ). get_or xs var 0) g.at ∙ get_or_push old.at g.clp 0 var (omega (arith, same, was))))
            (subst (λ part. IsBest counts distances g.clp part)
            (sym (ap (λ (xs : List ℕ). get_or xs var 0) g.costs ∙ get_or_push old.costs g.part 0 var (omega (arith, same, cost))))
            g.best))
      ];
    }

-- after one more variable
pub best-more : (distances rows : List (List ℕ)) (i : ℕ) (counts : List ℕ) (old new : Placing) → i < length rows → counts ≡ get_or rows i counts
    → HasBestOfEach distances (take i rows) old → HasGrown counts distances old new → HasBestOfEach distances (take (i + 1) rows) new
best-more distances rows i counts old new lt is h g =
    rw (take_more rows i counts lt, ← is) (grown-list (take i rows) counts distances old new h g)

-- one of all
pub all-at : {A : Type 0} (P : A → Type 0) (xs : List A) (i : ℕ) (x : A) → i < length xs → x ≡ get_or xs i x → AllByRecursion P xs → P x
all-at P [] i x lt is all = absurd (omega (arith, lt))
all-at P (y ∷ xs) zero x lt is all = subst P (sym is) all.0
all-at P (y ∷ xs) (suc i) x lt is all = all-at P xs i x (omega (arith, lt)) is all.1
