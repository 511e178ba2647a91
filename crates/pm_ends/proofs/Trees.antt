-- The tree over the places of the in-ends.
use Rattle.std.proofs.Common.{ℕ, zero, suc, ◌≡◌, ◌<◌, ◌≤◌, ◌≢◌, ◌+◌, ◌*◌, ◌⊎◌, inl, inr, Bool, true, false}
use Rattle.std.proofs.Common.{List, [], ◌∷◌, ◌++◌, length, get_or, set, map, refl, sym, ap, ap₂, ◌∙◌, subst, arith, cond}
use Rattle.std.proofs.Common.{Option, Some, None, get_or-set_other, get_or-set_same, length-set, length-append}
use Rattle.std.specs.Prelude.{nat_lt}
use Rattle.std.proofs.lemmas.Bool.{false≢true}
use Rattle.std.proofs.lemmas.Bool.Decides.{nat_tests}
use Rattle.pm_base.specs.Stamps.{stamp_lt}
use Rattle.pm_base.specs.declared.stamp.Stamp.{Stamp}
use Rattle.pm_ends.specs.Ends.{Inn, first_at, first_of, post_stamp}
use Rattle.pm_ends.specs.Numbers.{nth}
use Rattle.pm_ends.specs.Trees.{IsLaid, IsMended, IsSoonest, IsTree, IsTreeBut, IsTreeTo, StandsUnder, better, leads}
use Rattle.pm_ends.specs.Trees.{leads_at, moment_at, sooner, up, ups, winner}
use Rattle.std.specs.Prelude.{option_map}
use Rattle.std.proofs.lemmas.List.{length-map, map-set}
use Rattle.pm_links.specs.Links.{waiting}
use Rattle.pm_ends.specs.Sides.{inn_of}
use Rattle.pm_ends.specs.declared.in_ends.InSide.{InSide}
use Rattle.pm_ends.proofs.Lists.{nth_else, nth_map, nth_set}
use Rattle.pm_ends.proofs.Laws.{same_or}

-- the order of items
leads_same : (s : Option Stamp) (a : ℕ) → leads s a s a ≡ true
leads_same None a = refl
leads_same (Some s) a = grind (arith, nat_tests)

leads_on : (s : Option Stamp) (a : ℕ) (t : Option Stamp) (b : ℕ) (u : Option Stamp) (c : ℕ) → leads s a t b ≡ true
    → leads t b u c ≡ true → leads s a u c ≡ true
leads_on s a t b None c p q = refl
leads_on s a None b (Some u) c p q = absurd (false≢true q)
leads_on None a (Some t) b (Some u) c p q = absurd (false≢true p)
leads_on (Some s) a (Some t) b (Some u) c p q = grind (arith, nat_tests)

leads_else : (s : Option Stamp) (a : ℕ) (t : Option Stamp) (b : ℕ) → leads s a t b ≡ false → leads t b s a ≡ true
leads_else s a None b p = absurd (false≢true (sym p))
leads_else None a (Some t) b p = refl
leads_else (Some s) a (Some t) b p = grind (arith, nat_tests)

module _ (xs : List Inn) where
  at_same : (a : ℕ) → leads_at xs a a ≡ true
  at_same a = leads_same (moment_at xs a) a

  at_on : (a b c : ℕ) → leads_at xs a b ≡ true → leads_at xs b c ≡ true → leads_at xs a c ≡ true
  at_on a b c p q = leads_on (moment_at xs a) a (moment_at xs b) b (moment_at xs c) c p q

  -- of two places the sooner leads both
  at_one : (a b : ℕ) (t : Bool) → leads_at xs a b ≡ t → leads_at xs (cond t a b) a ≡ true
  at_one a b true p = at_same a
  at_one a b false p = leads_else (moment_at xs a) a (moment_at xs b) b p

  at_other : (a b : ℕ) (t : Bool) → leads_at xs a b ≡ t → leads_at xs (cond t a b) b ≡ true
  at_other a b true p = p
  at_other a b false p = at_same b

  -- and is one of them
  either : (P : ℕ → Type 0) (a b : ℕ) (t : Bool) → P a → P b → P (cond t a b)
  either P a b true p q = p
  either P a b false p q = q

  -- of an end and what the tree keeps at a place
  better_one : (best : List ℕ) (a i : ℕ) (t : Bool)
      → leads_at xs (cond t (sooner xs a (get_or best i 0)) a) a ≡ true
  better_one best a i true = at_one a (get_or best i 0) (leads_at xs a (get_or best i 0)) refl
  better_one best a i false = at_same a

  better_other : (best : List ℕ) (a i : ℕ) → i < length best → leads_at xs (better xs best a i) (get_or best i 0) ≡ true
  better_other best a i lt =
      let is : nat_lt i (length best) ≡ true = grind (arith, nat_tests) in
      subst (λ (t : Bool). leads_at xs (cond t (sooner xs a (get_or best i 0)) a) (get_or best i 0) ≡ true) (sym is)
      (at_other a (get_or best i 0) (leads_at xs a (get_or best i 0)) refl)

  better_is : (P : ℕ → Type 0) (best : List ℕ) (a i : ℕ) (t : Bool) → nat_lt i (length best) ≡ t → P a
      → (i < length best → P (get_or best i 0)) → P (cond t (sooner xs a (get_or best i 0)) a)
  better_is P best a i true e p q = either P a (get_or best i 0) (leads_at xs a (get_or best i 0)) p
      (q (grind (arith, nat_tests)))
  better_is P best a i false e p q = p

-- up the tree
ups_more : (d k : ℕ) → ups (suc d) k ≡ up (ups d k)
ups_more zero k = refl
ups_more (suc d) k = ups_more d (up k)

ups_top : (d : ℕ) → ups d 0 ≡ 0
ups_top zero = refl
ups_top (suc d) = ups_top d

under_on : (k c i : ℕ) → up c ≡ k → StandsUnder c i → StandsUnder k i
under_on k c i e (d, is) = (suc d, ups_more d i ∙ ap up is ∙ e)

under_up : (k i : ℕ) → StandsUnder k i → (k ≡ i) ⊎ StandsUnder k (up i)
under_up k i (zero, is) = inl (sym is)
under_up k i (suc d, is) = inr (d, is)

under_top : (k : ℕ) → StandsUnder k 0 → k ≡ 0
under_top k (d, is) = sym is ∙ ups_top d

-- whether a place stands under another
under_or : (n k i : ℕ) → i ≤ n → StandsUnder k i ⊎ (StandsUnder k i → ⊥)
under_or n k zero le = elim (same_or k 0) [
  | inl is ↦ inl (0, sym is.0)
  | inr ne ↦ inr (λ u. ne.0 (under_top k u))
]
under_or zero k (suc i) le = absurd (omega (arith, le))
under_or (suc n) k (suc i) le = elim (same_or k (suc i)) [
  | inl is ↦ inl (0, sym is.0)
  | inr ne ↦ elim (under_or n k (up (suc i)) (omega (arith, le))) [
    | inl u ↦ inl (suc u.0, u.1)
    | inr not_so ↦ inr (λ u. elim (under_up k (suc i) u) [ inl is ↦ ne.0 is | inr more ↦ not_so more ])
  ]
]

-- another first item at one place: what isn't above stays right
module _ (xs ys : List Inn) (best : List ℕ) (i : ℕ) (same : (j : ℕ) → j ≢ i → moment_at ys j ≡ moment_at xs j) where
  leads_still : (a b : ℕ) → a ≢ i → b ≢ i → leads_at xs a b ≡ true → leads_at ys a b ≡ true
  leads_still a b p q e = ap₂ (λ (s t : Option Stamp). leads s a t b) (same a p) (same b q) ∙ e

  mended_still : IsLaid xs best → (k : ℕ) → k < length best → (StandsUnder k i → ⊥) → IsMended xs best k
      → IsMended ys best k
  mended_still laid k lt apart m =
      let top : get_or best k 0 ≢ i = λ e. apart (subst (StandsUnder k) e (laid.under k lt)) in record {
        own = leads_still (get_or best k 0) k top (λ e. apart (0, sym e)) m.own;
        below = λ c low e. leads_still (get_or best k 0) (get_or best c 0) top
            (λ is. apart (under_on k c i e (subst (StandsUnder c) is (laid.under c low)))) (m.below c low e);
      }

  tree_but : IsTree xs best → length ys ≡ length xs → IsTreeBut ys best i
  tree_but tree long = record {
    laid = record { long = tree.laid.long ∙ sym long; under = tree.laid.under };
    mended = λ k lt. elim (under_or i k i (omega arith)) [
      | inl u ↦ inr u
      | inr not_so ↦ inl (mended_still tree.laid k lt not_so (tree.mended k lt))
    ];
  }

-- a place was put right
module _ (xs : List Inn) (best : List ℕ) (i : ℕ) (lt : i < length best) (but : IsTreeBut xs best i) where
  abbrev w : ℕ
  w = winner xs best i

  abbrev now : List ℕ
  now = set best i w

  abbrev one : ℕ
  one = better xs best i (2 * i + 1)

  here : get_or now i 0 ≡ w
  here = get_or-set_same best i w 0 lt

  other : (k : ℕ) → k ≢ i → get_or now k 0 ≡ get_or best k 0
  other k ne = get_or-set_other best i k w 0 ne

  one_leads : leads_at xs one i ≡ true
  one_leads = better_one xs best i (2 * i + 1) (nat_lt (2 * i + 1) (length best))

  w_leads : leads_at xs w one ≡ true
  w_leads = better_one xs best one (2 * i + 2) (nat_lt (2 * i + 2) (length best))

  -- it leads what stands right below
  child : (c : ℕ) → c < length best → up c ≡ i → c ≢ i → leads_at xs w (get_or best c 0) ≡ true
  child c low e ne = elim (same_or c (2 * i + 1)) [
    | inl is ↦ at_on xs w one (get_or best c 0) w_leads
        (subst (λ (z : ℕ). leads_at xs one (get_or best z 0) ≡ true) (sym is.0)
        (better_other xs best i (2 * i + 1) (omega (arith, low, is.0))))
    | inr not_so ↦
        let two : c ≡ 2 * i + 2 = omega (arith, e, ne, not_so.0) in
        subst (λ (z : ℕ). leads_at xs w (get_or best z 0) ≡ true) (sym two)
        (better_other xs best one (2 * i + 2) (omega (arith, low, two)))
  ]

  right : IsMended xs now i
  right = record {
    own = subst (λ (z : ℕ). leads_at xs z i ≡ true) (sym here) (at_on xs w one i w_leads one_leads);
    below = λ c low e. elim (same_or c i) [
      | inl is ↦ subst (λ (z : ℕ). leads_at xs (get_or now i 0) (get_or now z 0) ≡ true) (sym is.0)
          (at_same xs (get_or now i 0))
      | inr ne ↦ subst (λ (z : ℕ). leads_at xs z (get_or now c 0) ≡ true) (sym here)
          (subst (λ (z : ℕ). leads_at xs w z ≡ true) (sym (other c ne.0))
          (child c (subst (λ (n : ℕ). c < n) (length-set best i w) low) e ne.0))
    ];
  }

  -- what stands elsewhere stays right
  elsewhere : (k : ℕ) → k ≢ i → up i ≢ k → IsMended xs best k → IsMended xs now k
  elsewhere k ne far m = record {
    own = subst (λ (z : ℕ). leads_at xs z k ≡ true) (sym (other k ne)) m.own;
    below = λ c low e.
        subst (λ (z : ℕ). leads_at xs z (get_or now c 0) ≡ true) (sym (other k ne))
        (subst (λ (z : ℕ). leads_at xs (get_or best k 0) z ≡ true)
        (sym (other c (λ is. far (ap up (sym is) ∙ e))))
        (m.below c (subst (λ (n : ℕ). c < n) (length-set best i w) low) e));
  }

  under_one : StandsUnder i one
  under_one = better_is xs (StandsUnder i) best i (2 * i + 1) (nat_lt (2 * i + 1) (length best)) refl (0, refl)
      (λ low. under_on i (2 * i + 1) (get_or best (2 * i + 1) 0) (omega arith) (but.laid.under (2 * i + 1) low))

  under_w : StandsUnder i w
  under_w = better_is xs (StandsUnder i) best one (2 * i + 2) (nat_lt (2 * i + 2) (length best)) refl under_one
      (λ low. under_on i (2 * i + 2) (get_or best (2 * i + 2) 0) (omega arith) (but.laid.under (2 * i + 2) low))

  laid_now : IsLaid xs now
  laid_now = record {
    long = length-set best i w ∙ but.laid.long;
    under = λ k low. elim (same_or k i) [
      | inl is ↦ subst (λ (z : ℕ). StandsUnder z (get_or now z 0)) (sym is.0) (subst (StandsUnder i) (sym here) under_w)
      | inr ne ↦ subst (StandsUnder k) (sym (other k ne.0))
          (but.laid.under k (subst (λ (n : ℕ). k < n) (length-set best i w) low))
    ];
  }

  pub tree_to : IsTreeTo xs now i
  tree_to = record {
    laid = laid_now;
    mended = λ k low. elim (same_or k i) [
      | inl is ↦ inl (subst (IsMended xs now) (sym is.0) right)
      | inr ne ↦ elim (same_or (up i) k) [
        | inl is ↦ inr ((1, is.0), ne.0)
        | inr far ↦ elim (but.mended k (subst (λ (n : ℕ). k < n) (length-set best i w) low)) [
          | inl m ↦ inl (elsewhere k ne.0 far.0 m)
          | inr u ↦ inr (u, ne.0)
        ]
      ]
    ];
  }

-- one step up
pub tree_up : (xs : List Inn) (best : List ℕ) (i : ℕ) → IsTreeTo xs best i → IsTreeBut xs best (up i)
tree_up xs best i tree = record {
  laid = tree.laid;
  mended = λ k lt. elim (tree.mended k lt) [
    | inl m ↦ inl m
    | inr u ↦ elim (under_up k i u.0) [ inl is ↦ absurd (u.1 is) | inr more ↦ inr more ]
  ];
}

-- nothing stands above the top
pub tree_top : (xs : List Inn) (best : List ℕ) (i : ℕ) → i ≡ 0 → IsTreeTo xs best i → IsTree xs best
tree_top xs best i top tree = record {
  laid = tree.laid;
  mended = λ k lt. elim (tree.mended k lt) [
    | inl m ↦ m
    | inr u ↦ absurd (u.1 (under_top k (subst (StandsUnder k) top u.0) ∙ sym top))
  ];
}

-- what stands at the top leads all
module _ (xs : List Inn) (best : List ℕ) (tree : IsTree xs best) where
  abbrev top : ℕ
  top = get_or best 0 0

  top_best : (n k : ℕ) → k ≤ n → k < length best → leads_at xs top (get_or best k 0) ≡ true
  top_best n zero le lt = at_same xs top
  top_best zero (suc k) le lt = absurd (omega (arith, le))
  top_best (suc n) (suc k) le lt =
      at_on xs top (get_or best (up (suc k)) 0) (get_or best (suc k) 0)
      (top_best n (up (suc k)) (omega (arith, le)) (omega (arith, lt)))
      ((tree.mended (up (suc k)) (omega (arith, lt))).below (suc k) lt refl)

  top_leads : (k : ℕ) → k < length best → leads_at xs top k ≡ true
  top_leads k lt = at_on xs top (get_or best k 0) k (top_best k k (omega arith) lt) (tree.mended k lt).own

  -- where something waits there is a place
  inside : (xs : List Inn) (k : ℕ) (t : Stamp) → moment_at xs k ≡ Some t → k < length xs
  inside [] k t e = absurd (cc)
  inside (x ∷ xs) zero t e = omega arith
  inside (x ∷ xs) (suc k) t e = (let lt = inside xs k t e in omega (arith, lt))

  within : (k : ℕ) (t : Stamp) → moment_at xs k ≡ Some t → k < length best
  within k t e = (let lt : k < length xs = inside xs k t e in omega (arith, lt, tree.laid.long))

  least_of : (s t : Stamp) (a b : ℕ) → leads (Some s) a (Some t) b ≡ true → stamp_lt t s ≡ false
  least_of s t a b p = grind (arith, nat_tests)

  first_of_all : (s t : Stamp) (a b : ℕ) → b < a → leads (Some s) a (Some t) b ≡ true → stamp_lt s t ≡ true
  first_of_all s t a b lt p = grind (arith, nat_tests)

  pub is_soonest : (s : Stamp) → moment_at xs top ≡ Some s → IsSoonest xs top
  is_soonest s e = record {
    stamp = s;
    here = e;
    least = λ j t is. least_of s t top j (ap₂ (λ (x y : Option Stamp). leads x top y j) (sym e) (sym is)
        ∙ top_leads j (within j t is));
    first = λ j t lt is. first_of_all s t top j lt (ap₂ (λ (x y : Option Stamp). leads x top y j) (sym e) (sym is)
        ∙ top_leads j (within j t is));
  }

  none_leads : (a b : ℕ) (o : Option Stamp) → leads None a o b ≡ true → o ≡ None
  none_leads a b None p = refl
  none_leads a b (Some t) p = absurd (false≢true p)

  nothing : (o : Option Stamp) (k : ℕ) → moment_at xs k ≡ o → moment_at xs top ≡ None → o ≡ None
  nothing None k is e = refl
  nothing (Some t) k is e = none_leads top k (Some t)
      (ap₂ (λ (x y : Option Stamp). leads x top y k) (sym e) (sym is) ∙ top_leads k (within k t is))

  pub none_soonest : moment_at xs top ≡ None → (k : ℕ) → moment_at xs k ≡ None
  none_soonest e k = nothing (moment_at xs k) k refl e

-- an end was written
pub tree_set : (xs : List Inn) (best : List ℕ) (i : ℕ) (y : Inn) → IsTree xs best → IsTreeBut (set xs i y) best i
tree_set xs best i y tree = tree_but xs (set xs i y) best i
    (λ j ne. ap (λ (o : Option Inn). option_map post_stamp (first_at o)) (nth_else xs i j y ne)) tree
    (length-set xs i y)

pub held_but : (xs : List InSide) (best : List ℕ) (i : ℕ) (y : InSide) → IsTree (map inn_of xs) best
    → IsTreeBut (map inn_of (set xs i y)) best i
held_but xs best i y tree = subst (λ (l : List Inn). IsTreeBut l best i) (sym (map-set inn_of xs i y))
    (tree_set (map inn_of xs) best i (inn_of y) tree)

-- an end was written whose first item is the same
tree_same : (xs ys : List Inn) (best : List ℕ) → ((j : ℕ) → moment_at ys j ≡ moment_at xs j) → length ys ≡ length xs
    → IsTree xs best → IsTree ys best
tree_same xs ys best same long tree = record {
  laid = record { long = tree.laid.long ∙ sym long; under = tree.laid.under };
  mended = λ k lt. record {
    own = ap₂ (λ (s t : Option Stamp). leads s (get_or best k 0) t k) (same (get_or best k 0)) (same k)
        ∙ (tree.mended k lt).own;
    below = λ c low e. ap₂ (λ (s t : Option Stamp). leads s (get_or best k 0) t (get_or best c 0))
        (same (get_or best k 0)) (same (get_or best c 0)) ∙ (tree.mended k lt).below c low e;
  };
}

pub held_tree : (xs : List InSide) (best : List ℕ) (i : ℕ) (d y : InSide) → d ≡ get_or xs i d → i < length xs
    → first_of (waiting y.end) ≡ first_of (waiting d.end) → IsTree (map inn_of xs) best
    → IsTree (map inn_of (set xs i y)) best
held_tree xs best i d y here lt first tree =
    let now : List Inn = map inn_of xs in
    let was : nth now i ≡ Some (inn_of d) = nth_map inn_of xs i d lt ∙ ap (λ (z : InSide). Some (inn_of z)) (sym here) in
    let is : nth (set now i (inn_of y)) i ≡ Some (inn_of y) = nth_set now i (inn_of y) (omega (arith, lt, length-map xs inn_of)) in
    subst (λ (l : List Inn). IsTree l best) (sym (map-set inn_of xs i y))
    (tree_same now (set now i (inn_of y)) best (λ j. elim (same_or j i) [
      | inl e ↦ ap (moment_at (set now i (inn_of y))) e.0 ∙ ap (λ (o : Option Inn). option_map post_stamp (first_at o)) is
          ∙ ap (option_map post_stamp) first ∙ ap (λ (o : Option Inn). option_map post_stamp (first_at o)) (sym was)
          ∙ ap (moment_at now) (sym e.0)
      | inr ne ↦ ap (λ (o : Option Inn). option_map post_stamp (first_at o)) (nth_else now i j (inn_of y) ne.0)
    ]) (length-set now i (inn_of y)) tree)

-- one end more
nth_more : (xs : List Inn) (x : Inn) (j : ℕ) → j ≢ length xs → nth (xs ++ x ∷ []) j ≡ nth xs j
nth_more [] x zero ne = absurd (ne refl)
nth_more [] x (suc j) ne = refl
nth_more (y ∷ xs) x zero ne = refl
nth_more (y ∷ xs) x (suc j) ne = nth_more xs x j (λ e. ne (omega (arith, e)))

get_more : (ks : List ℕ) (n k : ℕ) → k < length ks → get_or (ks ++ n ∷ []) k 0 ≡ get_or ks k 0
get_more [] n k lt = absurd (omega (arith, lt))
get_more (m ∷ ks) n zero lt = refl
get_more (m ∷ ks) n (suc k) lt = get_more ks n k (omega (arith, lt))

get_last : (ks : List ℕ) (n : ℕ) → get_or (ks ++ n ∷ []) (length ks) 0 ≡ n
get_last [] n = refl
get_last (m ∷ ks) n = get_last ks n

module _ (xs : List Inn) (best : List ℕ) (x : Inn) (n : ℕ) (is : n ≡ length xs) (tree : IsTree xs best) where
  abbrev more : List ℕ
  more = best ++ n ∷ []

  long_more : length more ≡ length best + 1
  long_more = length-append best (n ∷ [])

  ends_more : length (xs ++ x ∷ []) ≡ length xs + 1
  ends_more = length-append xs (x ∷ [])

  low : (k : ℕ) → k < length more → k ≢ n → k < length best
  low k lt ne = omega (arith, lt, ne, is, tree.laid.long, long_more)

  kept : (k : ℕ) → k < length more → k ≢ n → get_or more k 0 ≡ get_or best k 0
  kept k lt ne = get_more best n k (low k lt ne)

  last : get_or more n 0 ≡ n
  last = ap (λ (z : ℕ). get_or more z 0) (is ∙ sym tree.laid.long) ∙ get_last best n

  same_more : (j : ℕ) → j ≢ n → moment_at (xs ++ x ∷ []) j ≡ moment_at xs j
  same_more j ne = ap (λ (o : Option Inn). option_map post_stamp (first_at o)) (nth_more xs x j (λ e. ne (e ∙ sym is)))

  mended_more : (k : ℕ) → k < length more → (StandsUnder k n → ⊥) → k ≢ n → IsMended (xs ++ x ∷ []) more k
  mended_more k lt apart ne =
      let m : IsMended (xs ++ x ∷ []) best k = mended_still xs (xs ++ x ∷ []) best n same_more tree.laid k (low k lt ne)
      apart (tree.mended k (low k lt ne)) in record {
        own = subst (λ (z : ℕ). leads_at (xs ++ x ∷ []) z k ≡ true) (sym (kept k lt ne)) m.own;
        below = λ c high e. elim (same_or c n) [
          | inl here ↦ absurd (apart (1, ap up (sym here.0) ∙ e))
          | inr far ↦ subst (λ (z : ℕ). leads_at (xs ++ x ∷ []) z (get_or more c 0) ≡ true) (sym (kept k lt ne))
              (subst (λ (z : ℕ). leads_at (xs ++ x ∷ []) (get_or best k 0) z ≡ true) (sym (kept c high far.0))
              (m.below c (low c high far.0) e))
        ];
      }

  pub tree_more : IsTreeBut (xs ++ x ∷ []) more n
  tree_more = record {
    laid = record {
      long = long_more ∙ ap (λ (z : ℕ). z + 1) tree.laid.long ∙ sym ends_more;
      under = λ k lt. elim (same_or k n) [
        | inl here ↦ (0, ap (λ (z : ℕ). get_or more z 0) here.0 ∙ last ∙ sym here.0)
        | inr far ↦ subst (StandsUnder k) (sym (kept k lt far.0)) (tree.laid.under k (low k lt far.0))
      ];
    };
    mended = λ k lt. elim (under_or n k n (omega arith)) [
      | inl u ↦ inr u
      | inr apart ↦ inl (mended_more k lt apart (λ e. apart (0, sym e)))
    ];
  }
