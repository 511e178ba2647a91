-- What a placement costs, variable by variable, and that the best process of each makes the least cost.
use Rattle.std.proofs.Common.{◌≡◌, refl, ap, ap₂, sym, subst, ◌∙◌, arith, ℕ, zero, suc, ◌+◌, ◌*◌, ◌<◌, ◌≤◌, Bool, true, false, cond, List, [], ◌∷◌, length, get_or, map, replicate, Option, Some, None}
use Rattle.std.specs.Prelude.{◌==◌, ◌^◌, slice_get, sum}
use Rattle.std.specs.List.{AllByRecursion, range_with_len, sum_by}
use Rattle.std.proofs.lemmas.Bool.Decides.{nat_tests}
use Rattle.std.proofs.lemmas.List.{length-map, length-set, length-replicate, get_or-replicate}
use Rattle.std.proofs.lemmas.List.Sums.{sum_by-cons}
use Rattle.std.proofs.lemmas.List.FromFn.{get_or-map-range_with_len, length-map-range_with_len}
use Rattle.pm_plan.proofs.Valid.{valid_kept}
use Rattle.pm_plan.specs.Plans.{IsValid, parents}
use Rattle.pm_plan.specs.Trees.{hop, hops, path_len}
use Rattle.pm_plan.specs.declared.plan.Plan.{Plan}
use Rattle.pm_model.specs.Runs.{sequential_run}
use Rattle.pm_place.specs.Accesses.{Access, run_accesses}
use Rattle.pm_place.specs.Bests.{HasBestOfEach, IsCheap}
use Rattle.pm_place.specs.Placings.{IsPlacement, CostsLeast, PrefersLesser, cost, edges, edges_to, edges_to_place, part, parts, parts_from}
use Rattle.pm_place.specs.Tallies.{IsBest, cost_at, distances, distances_to, dot, no_counts, noted, noted_all, raised}
use Rattle.pm_place.specs.declared.placing.Placing.{Placing}
use Rattle.pm_place.proofs.Dots.{dot-le}
use Rattle.pm_place.proofs.Lean.{run-homes, run-lean, run-rises}
use Rattle.pm_place.proofs.Told.{Tells, far, of_var, told-all, told-few, told-none}

-- the part of a variable in what these accesses cost
abbrev part_in : Plan → List Access → ℕ → ℕ → ℕ
part_in plan xs v c = sum_by (edges_to plan c) (of_var v xs)

abbrev parts_in : Plan → List Access → ℕ → List ℕ → List ℕ
parts_in plan xs v [] = []
parts_in plan xs v (c ∷ at) = part_in plan xs v c ∷ parts_in plan xs (v + 1) at

-- what an access costs where its variable is one of those from v on, which are at these processes
abbrev share : Plan → Access → ℕ → List ℕ → ℕ
share plan a v [] = 0
share plan a v (c ∷ at) = cond (a.var == v) (edges_to plan c a) 0 + share plan a (v + 1) at

share-past : (plan : Plan) (a : Access) (v : ℕ) (at : List ℕ) → a.var < v → share plan a v at ≡ 0
share-past plan a v [] lt = refl
share-past plan a v (c ∷ at) lt =
    let other : (a.var == v) ≡ false = grind (arith, nat_tests) in
    let none : cond (a.var == v) (edges_to plan c a) 0 ≡ 0 = ap (λ b. cond b (edges_to plan c a) 0) other in
    omega (arith, none, share-past plan a (v + 1) at (omega (arith, lt)))

share-is : (plan : Plan) (a : Access) (v : ℕ) (at : List ℕ) (k : ℕ) → v + k ≡ a.var → share plan a v at ≡ edges_to_place plan (slice_get at k) a
share-is plan a v [] k e = refl
share-is plan a v (c ∷ at) zero e =
    let here : (a.var == v) ≡ true = grind (arith, nat_tests, e) in
    let all : cond (a.var == v) (edges_to plan c a) 0 ≡ edges_to plan c a = ap (λ b. cond b (edges_to plan c a) 0) here in
    omega (arith, all, share-past plan a (v + 1) at (omega (arith, e)))
share-is plan a v (c ∷ at) (suc k) e =
    let other : (a.var == v) ≡ false = grind (arith, nat_tests, e) in
    let none : cond (a.var == v) (edges_to plan c a) 0 ≡ 0 = ap (λ b. cond b (edges_to plan c a) 0) other in
    let more = share-is plan a (v + 1) at k (omega (arith, e)) in
    omega (arith, none, more)

part-more : (plan : Plan) (a : Access) (xs : List Access) (v c : ℕ) → part_in plan (a ∷ xs) v c ≡ cond (a.var == v) (edges_to plan c a) 0 + part_in plan xs v c
part-more plan a xs v c = kept (a.var == v)
  where
    kept : (b : Bool) → sum_by (edges_to plan c) (cond b (a ∷ of_var v xs) (of_var v xs)) ≡ cond b (edges_to plan c a) 0 + part_in plan xs v c
    kept true = sum_by-cons (edges_to plan c) a (of_var v xs)
    kept false = omega arith

parts-more : (plan : Plan) (a : Access) (xs : List Access) (v : ℕ) (at : List ℕ) → sum (parts_in plan (a ∷ xs) v at) ≡ share plan a v at + sum (parts_in plan xs v at)
parts-more plan a xs v [] = refl
parts-more plan a xs v (c ∷ at) =
    let first = sum_by-cons (λ (x : ℕ). x) (part_in plan (a ∷ xs) v c) (parts_in plan (a ∷ xs) (v + 1) at) in
    let was = sum_by-cons (λ (x : ℕ). x) (part_in plan xs v c) (parts_in plan xs (v + 1) at) in
    let one = part-more plan a xs v c in
    let more = parts-more plan a xs (v + 1) at in
    omega (arith, first, was, one, more)

parts-none : (plan : Plan) (v : ℕ) (at : List ℕ) → sum (parts_in plan [] v at) ≡ 0
parts-none plan v [] = refl
parts-none plan v (c ∷ at) = omega (arith, sum_by-cons (λ (x : ℕ). x) 0 (parts_in plan [] (v + 1) at), parts-none plan (v + 1) at)

-- the parts add up to the cost
parts-sum : (plan : Plan) (at : List ℕ) (xs : List Access) → sum (parts_in plan xs 0 at) ≡ sum_by (edges plan at) xs
parts-sum plan at [] = parts-none plan 0 at
parts-sum plan at (a ∷ xs) =
    let one : share plan a 0 at ≡ edges plan at a = share-is plan a 0 at a.var (omega arith) in
    let more = parts-sum plan at xs in
    parts-more plan a xs 0 at ∙ ap₂ (λ x y. x + y) one more ∙ sym (sum_by-cons (edges plan at) a xs)

parts-same : (plan : Plan) (v : ℕ) (at : List ℕ) → parts_from plan v at ≡ parts_in plan (run_accesses plan) v at
parts-same plan v [] = refl
parts-same plan v (c ∷ at) = ap (λ more. part plan v c ∷ more) (parts-same plan (v + 1) at)

pub cost-is : (plan : Plan) (at : List ℕ) → sum (parts plan at) ≡ cost plan at
cost-is plan at = ap sum (parts-same plan 0 at) ∙ parts-sum plan at (run_accesses plan)

-- costs that are the parts, one by one
parts-are : (plan : Plan) (v : ℕ) (at costs : List ℕ) → length costs ≡ length at
    → ((k : ℕ) → k < length at → get_or costs k 0 ≡ part plan (v + k) (get_or at k 0)) → costs ≡ parts_from plan v at
parts-are plan v [] [] long same = refl
parts-are plan v [] (n ∷ costs) long same = absurd (omega (arith, long))
parts-are plan v (c ∷ at) [] long same = absurd (omega (arith, long))
parts-are plan v (c ∷ at) (n ∷ costs) long same =
    let none : v ≡ v + 0 = omega arith in
    let first : n ≡ part plan v c = same 0 (omega arith) ∙ ap (λ w. part plan w c) (sym none) in
    let more : costs ≡ parts_from plan (v + 1) at = parts-are plan (v + 1) at costs (omega (arith, long)) (λ k lt.
    let next : v + suc k ≡ v + 1 + k = omega arith in
    same (suc k) (omega (arith, lt)) ∙ ap (λ w. part plan w (get_or at k 0)) next) in
    ap₂ (λ x xs. x ∷ xs) first more

-- and costs that are at most the parts
parts-least : (plan : Plan) (v : ℕ) (at costs : List ℕ) → length costs ≡ length at
    → ((k : ℕ) → k < length at → get_or costs k 0 ≤ part plan (v + k) (get_or at k 0)) → sum costs ≤ sum (parts_from plan v at)
parts-least plan v [] [] long less = omega arith
parts-least plan v [] (n ∷ costs) long less = absurd (omega (arith, long))
parts-least plan v (c ∷ at) [] long less = absurd (omega (arith, long))
parts-least plan v (c ∷ at) (n ∷ costs) long less =
    let none : v + 0 ≡ v = omega arith in
    let first : n ≤ part plan v c = subst (λ w. n ≤ part plan w c) none (less 0 (omega arith)) in
    let more : sum costs ≤ sum (parts_from plan (v + 1) at) = parts-least plan (v + 1) at costs (omega (arith, long)) (λ k lt.
    let next : v + suc k ≡ v + 1 + k = omega arith in
    subst (λ w. get_or costs k 0 ≤ part plan w (get_or at k 0)) next (less (suc k) (omega (arith, lt)))) in
    omega (arith, sum_by-cons (λ (x : ℕ). x) n costs, sum_by-cons (λ (x : ℕ). x) (part plan v c) (parts_from plan (v + 1) at), first, more)

-- each of a list, by its index
all-here : (n : ℕ) (at : List ℕ) → ((k : ℕ) → k < length at → get_or at k 0 < n) → AllByRecursion (λ c. c < n) at
all-here n [] each = tt
all-here n (c ∷ at) each = (each 0 (omega arith), all-here n at (λ k lt. each (suc k) (omega (arith, lt))))

here-all : (n : ℕ) (at : List ℕ) (k : ℕ) → AllByRecursion (λ c. c < n) at → k < length at → get_or at k 0 < n
here-all n [] k all lt = absurd (omega (arith, lt))
here-all n (c ∷ at) zero all lt = all.0
here-all n (c ∷ at) (suc k) all lt = here-all n at k all.1 (omega (arith, lt))

-- a path has at most twice as many edges as there are processes
hops-le : (fuel : ℕ) (ps : List (Option ℕ)) (c d : ℕ) → length (hops fuel ps c d) ≤ fuel
hops-le zero ps c d = omega arith
hops-le (suc fuel) ps c d = kept (c == d) (hops-le fuel ps (hop ps c d) d)
  where
    kept : (b : Bool) → length (hops fuel ps (hop ps c d) d) ≤ fuel → length (cond b [] (hop ps c d ∷ hops fuel ps (hop ps c d) d)) ≤ suc fuel
    kept true le = omega arith
    kept false le = omega (arith, le)

path-le : (plan : Plan) (c d : ℕ) → IsValid plan → path_len (parents plan.clps) c d ≤ 128
path-le plan c d valid =
    let few = valid_kept plan valid in
    let long = length-map plan.clps (λ r. r.parent) in
    let less = hops-le (length (parents plan.clps) + length (parents plan.clps)) (parents plan.clps) c d in
    omega (arith, few, long, less)

map-le : (f : ℕ → ℕ) (m a n k : ℕ) → ((i : ℕ) → f i ≤ m) → get_or (map f (range_with_len a n)) k 0 ≤ m
map-le f m a zero k le = omega arith
map-le f m a (suc n) zero le = le a
map-le f m a (suc n) (suc k) le = map-le f m (a + 1) n k le

-- accesses that are told cost what they cost
same-sum : (f g : Access → ℕ) (n v : ℕ) (xs : List Access) → ((a : Access) → a.home < n → f a ≡ g a)
    → AllByRecursion (λ (a : Access). a.home < n) xs → sum_by f (of_var v xs) ≡ sum_by g (of_var v xs)
same-sum f g n v [] same all = refl
same-sum f g n v (a ∷ xs) same all = kept (a.var == v) (same-sum f g n v xs same all.1)
  where
    kept : (b : Bool) → sum_by f (of_var v xs) ≡ sum_by g (of_var v xs) → sum_by f (cond b (a ∷ of_var v xs) (of_var v xs)) ≡ sum_by g (cond b (a ∷ of_var v xs) (of_var v xs))
    kept true ih = sum_by-cons f a (of_var v xs) ∙ ap₂ (λ x y. x + y) (same a all.0) ih ∙ sym (sum_by-cons g a (of_var v xs))
    kept false ih = ih

-- the counts of the whole run
abbrev pub run_counts : Plan → List (List ℕ)
run_counts plan = noted_all (run_accesses plan) (no_counts plan)

noted-long : (xs : List Access) (rows : List (List ℕ)) → length (noted_all xs rows) ≡ length rows
noted-long [] rows = refl
noted-long (a ∷ xs) rows = noted-long xs (noted a rows) ∙ length-set rows a.var (raised (get_or rows a.var []) a.home)

pub counts-long : (plan : Plan) → length (run_counts plan) ≡ length plan.vars
counts-long plan = noted-long (run_accesses plan) (no_counts plan) ∙ length-replicate (length plan.vars) (replicate (length plan.clps) 0)

-- each variable is accessed fewer than 2^32 times
few : (plan : Plan) → IsValid plan → length (sequential_run plan) ≤ 20000000 → (v : ℕ) → length (of_var v (run_accesses plan)) ≤ 340000000
few plan valid short v = let lean = run-lean plan valid v (sequential_run plan) (run-rises plan) in omega (arith, lean, short)

counts-tell : (plan : Plan) → IsValid plan → length (sequential_run plan) ≤ 20000000 → (v : ℕ) → v < length plan.vars
    → Tells (length plan.clps) v (run_accesses plan) (get_or (run_counts plan) v [])
counts-tell plan valid short v lt =
    let less = few plan valid short v in
    told-all (length plan.clps) v (run_accesses plan) [] (no_counts plan) (run-homes plan valid (sequential_run plan))
    (omega (arith, less)) (let l : length (no_counts plan) ≡ length plan.vars = length-replicate (length plan.vars) (replicate (length plan.clps) 0) in omega (arith, l, lt))
    (subst (Tells (length plan.clps) v []) (sym (get_or-replicate (length plan.vars) v (replicate (length plan.clps) 0) [] lt)) (told-none (length plan.clps) v))

row-is : (plan : Plan) (c : ℕ) → c < length plan.clps → get_or (distances plan) c [] ≡ distances_to plan c
row-is plan c lt = get_or-map-range_with_len (distances_to plan) 0 (length plan.clps) c c [] lt (omega arith)

pub distances-long : (plan : Plan) → length (distances plan) ≡ length plan.clps
distances-long plan = length-map-range_with_len (distances_to plan) 0 (length plan.clps)

-- the counts give the part of a variable
pub counted-part : (plan : Plan) → IsValid plan → length (sequential_run plan) ≤ 20000000 → (v c : ℕ) → v < length plan.vars → c < length plan.clps
    → cost_at (get_or (run_counts plan) v []) (distances plan) c ≡ part plan v c
counted-part plan valid short v c vlt clt =
    let t = counts-tell plan valid short v vlt in
    ap (dot (get_or (run_counts plan) v [])) (row-is plan c clt)
    ∙ t.sums (distances_to plan c)
    ∙ same-sum (far (distances_to plan c)) (edges_to plan c) (length plan.clps) v (run_accesses plan)
    (λ a home. get_or-map-range_with_len (λ h. path_len (parents plan.clps) h c) 0 (length plan.clps) a.home a.home 0 home (omega arith))
    (run-homes plan valid (sequential_run plan))

-- and it is small
pub counted-small : (plan : Plan) → IsValid plan → length (sequential_run plan) ≤ 20000000 → (v c : ℕ) → v < length plan.vars → c < length plan.clps
    → cost_at (get_or (run_counts plan) v []) (distances plan) c < 2 ^ 40
counted-small plan valid short v c vlt clt =
    let t = counts-tell plan valid short v vlt in
    let low = dot-le (get_or (run_counts plan) v []) (distances_to plan c)
    (λ k. map-le (λ h. path_len (parents plan.clps) h c) 128 0 (length plan.clps) k (λ h. path-le plan h c valid)) in
    let sum = told-few (length plan.clps) v (run_accesses plan) (get_or (run_counts plan) v []) t in
    let less = few plan valid short v in
    let is = ap (dot (get_or (run_counts plan) v [])) (row-is plan c clt) in
    omega (arith, low, sum, less, is)

-- a placing with the best process for each variable
abbrev pub IsFound : Plan → Placing → Type 0
IsFound plan p = HasBestOfEach (distances plan) (run_counts plan) p

counted : (plan : Plan) (v : ℕ) → v < length plan.vars → v < length (run_counts plan)
counted plan v lt = omega (arith, lt, counts-long plan)

found-at : (plan : Plan) (p : Placing) → IsFound plan p → length p.at ≡ length plan.vars
found-at plan p f = f.at ∙ counts-long plan

found-costs : (plan : Plan) (p : Placing) → IsFound plan p → length p.costs ≡ length plan.vars
found-costs plan p f = f.costs ∙ counts-long plan

there : (plan : Plan) (p : Placing) → IsFound plan p → (v : ℕ) → v < length plan.vars → get_or p.at v 0 < length plan.clps
there plan p f v lt = let at = (f.best v (counted plan v lt)).there in omega (arith, at, distances-long plan)

pub found-placement : (plan : Plan) (p : Placing) → IsFound plan p → IsPlacement plan p.at
found-placement plan p f = record {
  each = found-at plan p f;
  there = all-here (length plan.clps) p.at (λ k lt. there plan p f k (let at = found-at plan p f in omega (arith, at, lt)));
}

pub found-parts : (plan : Plan) (p : Placing) → IsValid plan → length (sequential_run plan) ≤ 20000000 → IsFound plan p → p.costs ≡ parts plan p.at
found-parts plan p valid short f =
    parts-are plan 0 p.at p.costs (found-costs plan p f ∙ sym (found-at plan p f)) (λ k lt.
    let var : k < length plan.vars = let at = found-at plan p f in omega (arith, at, lt) in
    let zero : k ≡ 0 + k = omega arith in
    (f.best k (counted plan k var)).here ∙ counted-part plan valid short k (get_or p.at k 0) var (there plan p f k var) ∙ ap (λ w. part plan w (get_or p.at k 0)) zero)

pub found-least : (plan : Plan) (p : Placing) → IsValid plan → length (sequential_run plan) ≤ 20000000 → IsFound plan p → CostsLeast plan p.total
found-least plan p valid short f at placed =
    let each = placed.each in
    let least = parts-least plan 0 at p.costs (found-costs plan p f ∙ sym placed.each) (λ k lt.
    let var : k < length plan.vars = omega (arith, each, lt) in
    let clp : get_or at k 0 < length plan.clps = here-all (length plan.clps) at k placed.there lt in
    let best = (f.best k (counted plan k var)).least (get_or at k 0) (omega (arith, clp, distances-long plan)) in
    let is = counted-part plan valid short k (get_or at k 0) var clp in
    let zero : 0 + k ≡ k = omega arith in
    let same : part plan (0 + k) (get_or at k 0) ≡ part plan k (get_or at k 0) = ap (λ w. part plan w (get_or at k 0)) zero in
    omega (arith, best, is, same)) in
    let total = f.total in
    let is = cost-is plan at in
    omega (arith, least, total, is)

pub found-ties : (plan : Plan) (p : Placing) → IsValid plan → length (sequential_run plan) ≤ 20000000 → IsFound plan p → PrefersLesser plan p
found-ties plan p valid short f v c lt less =
    let var : v < length plan.vars = let at = found-at plan p f in omega (arith, at, lt) in
    let clp : c < length plan.clps = let at = there plan p f v var in omega (arith, at, less) in
    let best = (f.best v (counted plan v var)).first c less in
    let is = counted-part plan valid short v c var clp in
    omega (arith, best, is)

-- all accesses are cheap
all-cheap : (ds rows : List (List ℕ)) → ((v : ℕ) → v < length rows → IsCheap ds (get_or rows v [])) → AllByRecursion (IsCheap ds) rows
all-cheap ds [] each = tt
all-cheap ds (row ∷ rows) each = (each 0 (omega arith), all-cheap ds rows (λ k lt. each (suc k) (omega (arith, lt))))

pub counts-cheap : (plan : Plan) → IsValid plan → length (sequential_run plan) ≤ 20000000 → AllByRecursion (IsCheap (distances plan)) (run_counts plan)
counts-cheap plan valid short =
    all-cheap (distances plan) (run_counts plan) (λ v lt c less.
    counted-small plan valid short v c (omega (arith, lt, counts-long plan)) (omega (arith, less, distances-long plan)))

-- the cost is the total
pub found-cost : (plan : Plan) (p : Placing) → IsValid plan → length (sequential_run plan) ≤ 20000000 → IsFound plan p → p.total ≡ cost plan p.at
found-cost plan p valid short f = f.total ∙ ap sum (found-parts plan p valid short f) ∙ cost-is plan p.at
