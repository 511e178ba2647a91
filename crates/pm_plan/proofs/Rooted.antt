-- Parents that lead to one root make a tree.
use Rattle.std.proofs.Common.{◌≡◌, ℕ, zero, suc, ◌+◌, ◌<◌, ◌≤◌, ◌⊎◌, inl, inr, ◌==◌, Bool, true, false, cond, not, ◌||◌, List, [], ◌∷◌, length, get_or, refl, arith, ap, sym, ◌∙◌, subst, Option, Some, None}
use Rattle.std.proofs.lemmas.Bool.{cases_Bool, cases_eq, or_cases}
use Rattle.std.proofs.lemmas.Bool.Decides.{nat_tests}
use Rattle.pm_plan.specs.Trees.{is_this, parent, ups, below_on, hop_of, hop, edge, has}

abbrev pub In : ℕ → List ℕ → Type 0
In x [] = ⊥
In x (y ∷ ys) = (x ≡ y) ⊎ In x ys

abbrev pub one_if : Bool → ℕ → ℕ
one_if true n = suc n
one_if false n = n

abbrev pub tally : (ℕ → Bool) → List ℕ → ℕ
tally p [] = 0
tally p (x ∷ xs) = one_if (p x) (tally p xs)

pub in_range : (xs : List (Option ℕ)) (v x : ℕ) → get_or xs v None ≡ Some x → v < length xs
in_range [] v x e = absurd (cc)
in_range (y ∷ ys) zero x e = omega arith
in_range (y ∷ ys) (suc v) x e = (let r = in_range ys v x e in omega arith)

-- rank is the depth of a CLP
pub record Rooted (ps : List (Option ℕ)) : Type 0 where
  pub rank : ℕ → ℕ
  pub low : (c : ℕ) → rank c < length ps
  pub inside : (c d : ℕ) → parent ps c ≡ Some d → d < length ps
  pub step : (c d : ℕ) → parent ps c ≡ Some d → suc (rank d) ≡ rank c
  pub one : (c d : ℕ) → c < length ps → d < length ps → parent ps c ≡ None → parent ps d ≡ None → c ≡ d

or_right : (x y : Bool) → y ≡ true → (x || y) ≡ true
or_right true y e = refl
or_right false y e = e

is_this_is : (d : ℕ) (o : Option ℕ) → is_this d o ≡ true → o ≡ Some d
is_this_is d None e = absurd (cc)
is_this_is d (Some x) e = (let f : d ≡ x = grind (arith, nat_tests, e) in ap Some (sym f))

this_is : (d : ℕ) (o : Option ℕ) → o ≡ Some d → is_this d o ≡ true
this_is d o e = (let f : (d == d) ≡ true = grind (arith, nat_tests) in ap (is_this d) e ∙ f)

pub has_in : (d : ℕ) (xs : List ℕ) → In d xs → has d xs ≡ true
has_in d [] i = absurd i
has_in d (x ∷ xs) (inl e) = (let g : (d == x) ≡ true = grind (arith, nat_tests, e) in rw g)
has_in d (x ∷ xs) (inr i) = or_right (d == x) (has d xs) (has_in d xs i)

pub in_has : (d : ℕ) (xs : List ℕ) → has d xs ≡ true → In d xs
in_has d [] e = absurd (cc)
in_has d (x ∷ xs) e = elim (or_cases (d == x) (has d xs) e) [ inl f ↦ inl (let g = f in grind (arith, nat_tests, g)) | inr f ↦ inr (in_has d xs f) ]

pub not_has : (d : ℕ) (xs : List ℕ) → (In d xs → ⊥) → has d xs ≡ false
not_has d xs h = elim (cases_Bool (has d xs)) [ inr e ↦ e | inl e ↦ absurd (h (in_has d xs e)) ]

-- those of zs that are not in L, against those that are not in x and L
split_tally : (x : ℕ) (L zs : List ℕ) → has x L ≡ false → tally (λ y. not (has y L)) zs ≡ tally (λ y. not (has y (x ∷ L))) zs + tally (λ y. y == x) zs
split_tally x L [] e = omega arith
split_tally x L (z ∷ zs) e = (let again = split_tally x L zs e in elim (cases_Bool (z == x)) [
  | inl f ↦ (let zx : z ≡ x = (let g = f in grind (arith, nat_tests, g)) in let h : has z L ≡ false = ap (λ y. has y L) zx ∙ e in rw (f, h) (omega arith))
  | inr f ↦ rw f (go (has z L) again)
])
  where
    go : (b : Bool) → tally (λ y. not (has y L)) zs ≡ tally (λ y. not (has y (x ∷ L))) zs + tally (λ y. y == x) zs
        → one_if (not b) (tally (λ y. not (has y L)) zs) ≡ one_if (not b) (tally (λ y. not (has y (x ∷ L))) zs) + tally (λ y. y == x) zs
    go true h = h
    go false h = omega arith

pub tally_short : (P : ℕ → Bool) (zs : List ℕ) → tally P zs ≤ length zs
tally_short P [] = omega arith
tally_short P (z ∷ zs) = (let again = tally_short P zs in go (P z) again)
  where
    go : (b : Bool) → tally P zs ≤ length zs → one_if b (tally P zs) ≤ suc (length zs)
    go true h = omega arith
    go false h = omega arith

pub ups_short : (fuel : ℕ) (ps : List (Option ℕ)) (o : Option ℕ) → length (ups fuel ps o) ≤ fuel
ups_short zero ps None = omega arith
ups_short (suc fuel) ps None = omega arith
ups_short zero ps (Some c) = omega arith
ups_short (suc fuel) ps (Some c) = (let again = ups_short fuel ps (parent ps c) in omega arith)

module _ (ps : List (Option ℕ)) (ok : Rooted ps) where
  abbrev pub N : ℕ
  N = length ps

  abbrev pub U : ℕ → List ℕ
  U c = ups N ps (Some c)

  -- more fuel than the depth gives the same
  enough : (f g c : ℕ) → ok.rank c < f → ok.rank c < g → ups f ps (Some c) ≡ ups g ps (Some c)
  enough zero g c a b = absurd (omega arith)
  enough (suc f) zero c a b = absurd (omega arith)
  enough (suc f) (suc g) c a b = ap (λ z. c ∷ z) (go (parent ps c) refl (λ d e. enough f g d (let s = ok.step c d e in omega arith) (let s = ok.step c d e in omega arith)))
    where
      go : (o : Option ℕ) → parent ps c ≡ o → ((d : ℕ) → parent ps c ≡ Some d → ups f ps (Some d) ≡ ups g ps (Some d)) → ups f ps (parent ps c) ≡ ups g ps (parent ps c)
      go None e rec = ap (ups f ps) e ∙ (none f ∙ (sym (none g) ∙ ap (ups g ps) (sym e)))
        where
          none : (k : ℕ) → ups k ps None ≡ []
          none zero = refl
          none (suc k) = refl
      go (Some d) e rec = ap (ups f ps) e ∙ (rec d e ∙ ap (ups g ps) (sym e))

  up_one : (k c : ℕ) → N ≡ k → U c ≡ ups k ps (Some c)
  up_one k c e = ap (λ z. ups z ps (Some c)) e

  pub up_root : (c : ℕ) → parent ps c ≡ None → U c ≡ c ∷ []
  up_root c e = go N refl
    where
      go : (k : ℕ) → N ≡ k → U c ≡ c ∷ []
      go zero f = absurd (let a = ok.low c in omega arith)
      go (suc k) f = up_one (suc k) c f ∙ ap (λ z. c ∷ z) (ap (ups k ps) e ∙ none k)
        where
          none : (j : ℕ) → ups j ps None ≡ []
          none zero = refl
          none (suc j) = refl

  pub up_step : (c d : ℕ) → parent ps c ≡ Some d → U c ≡ c ∷ U d
  up_step c d e = go N refl
    where
      go : (k : ℕ) → N ≡ k → U c ≡ c ∷ U d
      go zero f = absurd (let a = ok.low c in omega arith)
      go (suc k) f = up_one (suc k) c f ∙ ap (λ z. c ∷ z) (ap (ups k ps) e ∙ enough k N d (let a = ok.low c in let s = ok.step c d e in omega arith) (ok.low d))

  -- induction from the root down
  down : (P : ℕ → Type 0) → ((c : ℕ) → parent ps c ≡ None → P c) → ((c d : ℕ) → parent ps c ≡ Some d → P d → P c) → (m c : ℕ) → ok.rank c ≤ m → P c
  down P root step zero c le = go (parent ps c) refl
    where
      go : (o : Option ℕ) → parent ps c ≡ o → P c
      go None e = root c e
      go (Some d) e = absurd (let s = ok.step c d e in omega arith)
  down P root step (suc m) c le = go (parent ps c) refl (λ d le'. down P root step m d le')
    where
      go : (o : Option ℕ) → parent ps c ≡ o → ((d : ℕ) → ok.rank d ≤ m → P d) → P c
      go None e rec = root c e
      go (Some d) e rec = step c d e (rec d (let s = ok.step c d e in omega arith))

  pub each : (P : ℕ → Type 0) → ((c : ℕ) → parent ps c ≡ None → P c) → ((c d : ℕ) → parent ps c ≡ Some d → P d → P c) → (c : ℕ) → P c
  each P root step c = down P root step (ok.rank c) c (omega arith)

  -- what is above h is no deeper
  pub above_low : (x h : ℕ) → In x (U h) → ok.rank x ≤ ok.rank h
  above_low x h = each (λ h. In x (U h) → ok.rank x ≤ ok.rank h)
      (λ c e i. elim (subst (In x) (up_root c e) i) [ inl f ↦ (let g = ap ok.rank f in omega arith) | inr b ↦ absurd b ])
      (λ c d e rec i. elim (subst (In x) (up_step c d e) i) [ inl f ↦ (let g = ap ok.rank f in omega arith) | inr j ↦ (let r = rec j in let s = ok.step c d e in omega arith) ]) h

  pub self : (h : ℕ) → In h (U h)
  self h = each (λ h. In h (U h)) (λ c e. subst (In c) (sym (up_root c e)) (inl refl)) (λ c d e rec. subst (In c) (sym (up_step c d e)) (inl refl)) h

  -- the parent of what is above h is above h
  pub parent_above : (x c h : ℕ) → parent ps x ≡ Some c → In x (U h) → In c (U h)
  parent_above x c h ex = each (λ h. In x (U h) → In c (U h))
      (λ r e i. elim (subst (In x) (up_root r e) i) [ inl f ↦ absurd (let g : Some c ≡ None = sym ex ∙ (ap (parent ps) f ∙ e) in cc) | inr b ↦ absurd b ])
      (λ r d e rec i. subst (In c) (sym (up_step r d e)) (inr (elim (subst (In x) (up_step r d e) i) [
        | inl f ↦ (let g : c ≡ d = some_nat c d (sym ex ∙ (ap (parent ps) f ∙ e)) in subst (λ z. In z (U d)) (sym g) (self d))
        | inr j ↦ rec j
      ]))) h
    where
      some_nat : (a b : ℕ) → Some a ≡ Some b → a ≡ b
      some_nat a b g = cc

  -- the root is above all
  pub root_above : (r h : ℕ) → r < N → parent ps r ≡ None → h < N → In r (U h)
  root_above r h lr er = each (λ h. h < N → In r (U h))
      (λ c e lc. subst (In r) (sym (up_root c e)) (inl (ok.one r c lr lc er e)))
      (λ c d e rec lc. subst (In r) (sym (up_step c d e)) (inr (rec (ok.inside c d e)))) h

  head_of : (d : ℕ) → (zs : List ℕ) × (U d ≡ d ∷ zs)
  head_of d = each (λ d. (zs : List ℕ) × (U d ≡ d ∷ zs)) (λ c e. ([], up_root c e)) (λ c x e rec. (U x, up_step c x e)) d

  -- one step down a way
  pub below_step : (c h d : ℕ) → parent ps h ≡ Some d → below_on c (U h) ≡ cond (d == c) (Some h) (below_on c (U d))
  below_step c h d e = (let z = head_of d in ap (below_on c) (up_step h d e ∙ ap (λ y. h ∷ y) z.1) ∙ ap (λ y. cond (d == c) (Some h) (below_on c y)) (sym z.1))

  abbrev Below : ℕ → ℕ → Type 0
  Below c h = ((below_on c (U h) ≡ None) × (In c (U h) → c ≡ h)) ⊎ ((x : ℕ) × (below_on c (U h) ≡ Some x) × (parent ps x ≡ Some c) × In x (U h))

  pub below_is : (c h : ℕ) → Below c h
  below_is c h = each (Below c)
      (λ r e. inl (ap (below_on c) (up_root r e), λ i. elim (subst (In c) (up_root r e) i) [ inl f ↦ f | inr b ↦ absurd b ]))
      (λ r d e rec. elim (cases_eq d c) [
        | inl f ↦ inr (r, below_step c r d e ∙ (let g : (d == c) ≡ true = grind (arith, nat_tests, f) in rw g), e ∙ ap Some f, self r)
        | inr ne ↦ (let skip : below_on c (U r) ≡ below_on c (U d) = below_step c r d e ∙ (let g : (d == c) ≡ false = grind (arith, nat_tests, ne) in rw g) in elim rec [
          | inl a ↦ inl (skip ∙ a.0, λ i. elim (subst (In c) (up_step r d e) i) [ inl f ↦ f | inr j ↦ absurd (ne (sym (a.1 j))) ])
          | inr a ↦ inr (a.0, skip ∙ a.1, a.2, subst (In a.0) (sym (up_step r d e)) (inr a.3))
        ])
      ]) h

  -- the child on the way is found
  pub below_found : (c x h : ℕ) → parent ps x ≡ Some c → In x (U h) → below_on c (U h) ≡ Some x
  below_found c x h ex = each (λ h. In x (U h) → below_on c (U h) ≡ Some x)
      (λ r e i. elim (subst (In x) (up_root r e) i) [ inl f ↦ absurd (let g : Some c ≡ None = sym ex ∙ (ap (parent ps) f ∙ e) in cc) | inr b ↦ absurd b ])
      (λ r d e rec i. elim (subst (In x) (up_step r d e) i) [
        | inl f ↦ (let dc : d ≡ c = some_nat d c (sym e ∙ (ap (parent ps) (sym f) ∙ ex)) in let g : (d == c) ≡ true = grind (arith, nat_tests, dc) in
            below_step c r d e ∙ (ap (λ b. cond b (Some r) (below_on c (U d))) g ∙ ap Some (sym f)))
        | inr j ↦ (let ne : d ≡ c → ⊥ = λ f. (let a = above_low x d j in let s = ok.step x c ex in let g = ap ok.rank f in omega arith) in
            let g : (d == c) ≡ false = grind (arith, nat_tests, ne) in below_step c r d e ∙ (ap (λ b. cond b (Some r) (below_on c (U d))) g ∙ rec j))
      ]) h
    where
      some_nat : (a b : ℕ) → Some a ≡ Some b → a ≡ b
      some_nat a b g = cc

  abbrev pub hp : ℕ → ℕ → ℕ
  hp c h = hop ps c h

  pub hop_down : (c x h : ℕ) → below_on c (U h) ≡ Some x → hp c h ≡ x
  hop_down c x h e = ap (λ o. hop_of ps c o (parent ps c)) e

  pub hop_up : (c d h : ℕ) → below_on c (U h) ≡ None → parent ps c ≡ Some d → hp c h ≡ d
  hop_up c d h e f = ap (λ o. hop_of ps c o (parent ps c)) e ∙ ap (hop_of ps c None) f

  -- which way a hop goes
  abbrev pub Way : ℕ → ℕ → Type 0
  Way c h = ((parent ps (hp c h) ≡ Some c) × In (hp c h) (U h)) ⊎ ((parent ps c ≡ Some (hp c h)) × (In c (U h) → ⊥))

  pub way : (c h : ℕ) → c < N → h < N → (c ≡ h → ⊥) → Way c h
  way c h lc lh ne = elim (below_is c h) [
    | inr a ↦ (let e = hop_down c a.0 h a.1 in inl (ap (parent ps) e ∙ a.2, subst (λ z. In z (U h)) (sym e) a.3))
    | inl a ↦ go (parent ps c) refl a.0 (λ i. ne (a.1 i))
  ]
    where
      go : (o : Option ℕ) → parent ps c ≡ o → below_on c (U h) ≡ None → (In c (U h) → ⊥) → Way c h
      go None e b no' = absurd (no' (root_above c h lc e lh))
      go (Some d) e b no' = inr (e ∙ ap Some (sym (hop_up c d h b e)), no')

  -- a child's side and the other side of an edge
  pub child_side : (c d h : ℕ) → parent ps d ≡ Some c → ((d ≡ h → ⊥) × (hp d h ≡ c)) ⊎ ((c ≡ h → ⊥) × (hp c h ≡ d))
  child_side c d h e = elim (cases_Bool (has d (U h))) [
    | inl f ↦ (let i = in_has d (U h) f in inr (λ g. (let a = above_low d h i in let s = ok.step d c e in let x = ap ok.rank g in omega arith), hop_down c d h (below_found c d h e i)))
    | inr f ↦ (let out : In d (U h) → ⊥ = λ i. (let g = has_in d (U h) i in cc) in
        inl (
          λ g. out (subst (λ z. In d (U z)) g (self d)),
          elim (below_is d h) [
            | inl a ↦ hop_up d c h a.0 e
            | inr a ↦ absurd (out (parent_above a.0 d h a.2 a.3))
          ],
        ))
  ]

  pub edge_or : (c d : ℕ) → edge ps c d ≡ true → (parent ps c ≡ Some d) ⊎ (parent ps d ≡ Some c)
  edge_or c d e = elim (or_cases (is_this d (parent ps c)) (is_this c (parent ps d)) e) [ inl f ↦ inl (is_this_is d (parent ps c) f) | inr f ↦ inr (is_this_is c (parent ps d) f) ]

  pub edge_up : (c d : ℕ) → parent ps c ≡ Some d → edge ps c d ≡ true
  edge_up c d e = (let f = this_is d (parent ps c) e in rw f)

  pub edge_down : (c d : ℕ) → parent ps d ≡ Some c → edge ps c d ≡ true
  edge_down c d e = or_right (is_this d (parent ps c)) (is_this c (parent ps d)) (this_is c (parent ps d) e)

  abbrev pub gap : ℕ → ℕ → ℕ
  gap c h = tally (λ y. not (has y (U h))) (U c) + tally (λ y. not (has y (U c))) (U h)

  -- once above h at most
  pub once_above : (x h : ℕ) → (In x (U h) → tally (λ y. y == x) (U h) ≡ 1) × ((In x (U h) → ⊥) → tally (λ y. y == x) (U h) ≡ 0)
  once_above x h = each (λ h. (In x (U h) → tally (λ y. y == x) (U h) ≡ 1) × ((In x (U h) → ⊥) → tally (λ y. y == x) (U h) ≡ 0))
      (λ r e. (
        λ i. elim (subst (In x) (up_root r e) i) [ inr b ↦ absurd b | inl f ↦ (let g : (r == x) ≡ true = grind (arith, nat_tests, f) in ap (tally (λ y. y == x)) (up_root r e) ∙ rw g) ],
        λ out. (let ne : r ≡ x → ⊥ = λ f. out (subst (In x) (sym (up_root r e)) (inl (sym f))) in let g : (r == x) ≡ false = grind (arith, nat_tests, ne) in ap (tally (λ y. y == x)) (up_root r e) ∙ rw g),
      ))
      (λ r d e rec. (
        λ i. elim (subst (In x) (up_step r d e) i) [
          | inl f ↦ (let g : (r == x) ≡ true = grind (arith, nat_tests, f) in
              let out : In x (U d) → ⊥ = λ j. (let a = above_low x d j in let s = ok.step r d e in let y = ap ok.rank f in omega arith) in
              ap (tally (λ y. y == x)) (up_step r d e) ∙ (ap (λ b. one_if b (tally (λ y. y == x) (U d))) g ∙ ap suc (rec.1 out)))
          | inr j ↦ (let ne : r ≡ x → ⊥ = λ f. (let a = above_low x d j in let s = ok.step r d e in let y = ap ok.rank f in omega arith) in let g : (r == x) ≡ false = grind (arith, nat_tests, ne) in
              ap (tally (λ y. y == x)) (up_step r d e) ∙ (ap (λ b. one_if b (tally (λ y. y == x) (U d))) g ∙ rec.0 j))
        ],
        λ out. (let ne : r ≡ x → ⊥ = λ f. out (subst (In x) (sym (up_step r d e)) (inl (sym f))) in let g : (r == x) ≡ false = grind (arith, nat_tests, ne) in
            ap (tally (λ y. y == x)) (up_step r d e) ∙ (ap (λ b. one_if b (tally (λ y. y == x) (U d))) g ∙ rec.1 (λ j. out (subst (In x) (sym (up_step r d e)) (inr j))))),
      )) h

  pub nearer : (c h : ℕ) → c < N → h < N → (c ≡ h → ⊥) → suc (gap (hp c h) h) ≡ gap c h
  nearer c h lc lh ne = elim (way c h lc lh ne) [
    -- down to the child x
    | inl a ↦ (let x = hp c h in
        let ux = up_step x c a.0 in
        let out : has x (U c) ≡ false = not_has x (U c) (λ i. (let b = above_low x c i in let s = ok.step x c a.0 in omega arith)) in
        let s = split_tally x (U c) (U h) out in
        let o = (once_above x h).0 a.1 in
        let t : has x (U h) ≡ true = has_in x (U h) a.1 in
        let first : tally (λ y. not (has y (U h))) (U x) ≡ tally (λ y. not (has y (U h))) (U c) = ap (tally (λ y. not (has y (U h)))) ux ∙ ap (λ b. one_if (not b) (tally (λ y. not (has y (U h))) (U c))) t in
        let second : tally (λ y. not (has y (U x))) (U h) ≡ tally (λ y. not (has y (x ∷ U c))) (U h) = ap (λ L. tally (λ y. not (has y L)) (U h)) ux in omega arith)
    -- up to the parent d
    | inr a ↦ (let d = hp c h in
        let uc = up_step c d a.0 in
        let out : has c (U d) ≡ false = not_has c (U d) (λ i. (let b = above_low c d i in let s = ok.step c d a.0 in omega arith)) in
        let s = split_tally c (U d) (U h) out in
        let o = (once_above c h).1 a.1 in
        let f : has c (U h) ≡ false = not_has c (U h) a.1 in
        let first : tally (λ y. not (has y (U h))) (U c) ≡ suc (tally (λ y. not (has y (U h))) (U d)) = ap (tally (λ y. not (has y (U h)))) uc ∙ ap (λ b. one_if (not b) (tally (λ y. not (has y (U h))) (U d))) f in
        let second : tally (λ y. not (has y (U c))) (U h) ≡ tally (λ y. not (has y (c ∷ U d))) (U h) = ap (λ L. tally (λ y. not (has y L)) (U h)) uc in omega arith)
  ]
