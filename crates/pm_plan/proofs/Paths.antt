-- The path between two CLPs of a tree, and that there is no other.
use Rattle.std.proofs.Common.{◌≡◌, ℕ, zero, suc, ◌+◌, ◌<◌, ◌≤◌, ◌⊎◌, inl, inr, ◌==◌, Bool, true, false, not, cond, ◌||◌, List, [], ◌∷◌, length, refl, arith, ap, sym, ◌∙◌, subst, Option, Some}
use Rattle.std.proofs.lemmas.Bool.{cases_Bool, cases_eq}
use Rattle.std.proofs.lemmas.Bool.Decides.{nat_tests}
use Rattle.pm_plan.specs.Trees.{ups, hop, edge, has, hops, path, path_len, Linked, Once, IsPath}
use Rattle.pm_plan.proofs.Rooted.{Rooted, In, tally, in_range, has_in, in_has, not_has, tally_short, ups_short, way, child_side, edge_or, edge_up, edge_down, gap, nearer}

none_out : (xs L : List ℕ) → ((y : ℕ) → In y xs → In y L) → tally (λ y. not (has y L)) xs ≡ 0
none_out [] L h = refl
none_out (x ∷ xs) L h = (let e : has x L ≡ true = has_in x L (h x (inl refl)) in let again = none_out xs L (λ y i. h y (inr i)) in rw e again)

or_false : (a b : Bool) → (a || b) ≡ false → (a ≡ false) × (b ≡ false)
or_false true b e = absurd (cc)
or_false false b e = (refl, e)

same_num : (a b : ℕ) → (a == b) ≡ true → a ≡ b
same_num a b e = grind (arith, nat_tests, e)

self_num : (a : ℕ) → (a == a) ≡ true
self_num a = grind (arith, nat_tests)

apart_num : (a b : ℕ) → (a ≡ b → ⊥) → (a == b) ≡ false
apart_num a b h = elim (cases_Bool (a == b)) [ inr e ↦ e | inl e ↦ absurd (h (same_num a b e)) ]

hops_here : (fuel : ℕ) (ps : List (Option ℕ)) (c : ℕ) → hops fuel ps c c ≡ []
hops_here zero ps c = refl
hops_here (suc fuel) ps c = ap (λ b. cond b [] ((hop ps c c) ∷ hops fuel ps (hop ps c c) c)) (self_num c)

hops_on : (fuel : ℕ) (ps : List (Option ℕ)) (c d : ℕ) → (c ≡ d → ⊥) → hops (suc fuel) ps c d ≡ (hop ps c d) ∷ hops fuel ps (hop ps c d) d
hops_on fuel ps c d ne = ap (λ b. cond b [] ((hop ps c d) ∷ hops fuel ps (hop ps c d) d)) (apart_num c d ne)

-- the last of a way is on it
last_in : (ps : List (Option ℕ)) (c d : ℕ) (xs : List ℕ) → Linked ps c d xs → In d (c ∷ xs)
last_in ps c d [] l = inl (sym l)
last_in ps c d (x ∷ xs) l = inr (last_in ps x d xs l.1)

module _ (ps : List (Option ℕ)) (ok : Rooted ps) where
  abbrev N : ℕ
  N = length ps

  abbrev hp : ℕ → ℕ → ℕ
  hp c d = hop ps c d

  abbrev far : ℕ → ℕ → ℕ
  far c d = gap ps ok c d

  pub far_self : (c : ℕ) → far c c ≡ 0
  far_self c = (let a = none_out (ups (length ps) ps (Some c)) (ups (length ps) ps (Some c)) (λ y i. i) in omega (arith, a))

  far_sym : (c d : ℕ) → far c d ≡ far d c
  far_sym c d = omega arith

  far_same : (c d : ℕ) → c ≡ d → far c d ≡ 0
  far_same c d e = ap (λ x. far x d) e ∙ far_self d

  far_zero : (c d : ℕ) → c < N → d < N → far c d ≡ 0 → c ≡ d
  far_zero c d lc ld e = elim (cases_eq c d) [ inl f ↦ f | inr ne ↦ absurd (let n = nearer ps ok c d lc ld ne in omega (arith, n, e)) ]

  pub far_most : (c d : ℕ) → far c d ≤ N + N
  far_most c d =
      let a = tally_short (λ y. not (has y (ups N ps (Some d)))) (ups N ps (Some c)) in
      let b = tally_short (λ y. not (has y (ups N ps (Some c)))) (ups N ps (Some d)) in
      let x = ups_short N ps (Some c) in
      let y = ups_short N ps (Some d) in
      omega (arith, a, b, x, y)

  pub hop_edge : (c d : ℕ) → c < N → d < N → (c ≡ d → ⊥) → edge ps c (hp c d) ≡ true
  hop_edge c d lc ld ne = elim (way ps ok c d lc ld ne) [ inl a ↦ edge_down ps ok c (hp c d) a.0 | inr a ↦ edge_up ps ok c (hp c d) a.0 ]

  pub edge_in : (c d : ℕ) → edge ps c d ≡ true → d < N
  edge_in c d e = elim (edge_or ps ok c d e) [ inl f ↦ ok.inside c d f | inr f ↦ in_range ps d c f ]

  pub hop_in : (c d : ℕ) → c < N → d < N → (c ≡ d → ⊥) → hp c d < N
  hop_in c d lc ld ne = edge_in c (hp c d) (hop_edge c d lc ld ne)

  -- of two neighbours one has the other on its way
  pub either : (c d h : ℕ) → edge ps c d ≡ true → ((d ≡ h → ⊥) × (hp d h ≡ c)) ⊎ ((c ≡ h → ⊥) × (hp c h ≡ d))
  either c d h e = elim (edge_or ps ok c d e) [
    | inr f ↦ child_side ps ok c d h f
    | inl f ↦ elim (child_side ps ok d c h f) [ inl a ↦ inr a | inr a ↦ inl a ]
  ]

  hops_len : (fuel c d : ℕ) → c < N → d < N → far c d ≤ fuel → length (hops fuel ps c d) ≡ far c d
  hops_len zero c d lc ld le = omega (arith, le)
  hops_len (suc fuel) c d lc ld le = elim (cases_eq c d) [
    | inl e ↦ ap (λ x. length (hops (suc fuel) ps x d)) e ∙ (ap length (hops_here (suc fuel) ps d) ∙ sym (far_same c d e))
    | inr ne ↦ (let n = nearer ps ok c d lc ld ne in ap length (hops_on fuel ps c d ne)
        ∙ (ap suc (hops_len fuel (hp c d) d (hop_in c d lc ld ne) ld (omega (arith, n, le))) ∙ n))
  ]

  pub path_len_far : (c d : ℕ) → c < N → d < N → path_len ps c d ≡ far c d
  path_len_far c d lc ld = hops_len (N + N) c d lc ld (far_most c d)

  hops_linked : (fuel c d : ℕ) → c < N → d < N → far c d ≤ fuel → Linked ps c d (hops fuel ps c d)
  hops_linked zero c d lc ld le = far_zero c d lc ld (omega (arith, le))
  hops_linked (suc fuel) c d lc ld le = elim (cases_eq c d) [
    | inl e ↦ subst (λ x. Linked ps x d (hops (suc fuel) ps x d)) (sym e) (subst (Linked ps d d) (sym (hops_here (suc fuel) ps d)) refl)
    | inr ne ↦ (let n = nearer ps ok c d lc ld ne in subst (Linked ps c d) (sym (hops_on fuel ps c d ne))
        (hop_edge c d lc ld ne, hops_linked fuel (hp c d) d (hop_in c d lc ld ne) ld (omega (arith, n, le))))
  ]

  -- what is on the way is nearer
  hops_near : (fuel c d x : ℕ) → c < N → d < N → In x (hops fuel ps c d) → far x d < far c d
  hops_near zero c d x lc ld i = absurd i
  hops_near (suc fuel) c d x lc ld i = elim (cases_eq c d) [
    | inl e ↦ absurd (subst (In x) (ap (λ y. hops (suc fuel) ps y d) e ∙ hops_here (suc fuel) ps d) i)
    | inr ne ↦ (let n = nearer ps ok c d lc ld ne in elim (subst (In x) (hops_on fuel ps c d ne) i) [
      | inl e ↦ (let s = ap (λ y. far y d) e in omega (arith, n, s))
      | inr j ↦ (let r = hops_near fuel (hp c d) d x (hop_in c d lc ld ne) ld j in omega (arith, n, r))
    ])
  ]

  hops_new : (fuel c d : ℕ) → c < N → d < N → has c (hops fuel ps c d) ≡ false
  hops_new fuel c d lc ld = not_has c (hops fuel ps c d) (λ i. (let r = hops_near fuel c d c lc ld i in omega (arith, r)))

  hops_once : (fuel c d : ℕ) → c < N → d < N → Once (c ∷ hops fuel ps c d)
  hops_once zero c d lc ld = (refl, tt)
  hops_once (suc fuel) c d lc ld = (
    hops_new (suc fuel) c d lc ld,
    elim (cases_eq c d) [
      | inl e ↦ subst Once (sym (ap (λ y. hops (suc fuel) ps y d) e ∙ hops_here (suc fuel) ps d)) tt
      | inr ne ↦ subst Once (sym (hops_on fuel ps c d ne)) (hops_once fuel (hp c d) d (hop_in c d lc ld ne) ld)
    ],
  )

  pub path_is : (c d : ℕ) → c < N → d < N → IsPath ps c d (path ps c d)
  path_is c d lc ld = record { linked = hops_linked (N + N) c d lc ld (far_most c d); once = hops_once (N + N) c d lc ld }

  -- a way that goes away from d never comes back
  never : (xs : List ℕ) (b c d : ℕ) → Linked ps c d xs → has b (c ∷ xs) ≡ false → Once (c ∷ xs) → hp c d ≡ b → (c ≡ d → ⊥) → ⊥
  never [] b c d l new once e ne = ne l
  never (y ∷ ys) b c d l new once e ne =
      let other : y ≡ b → ⊥ = λ f. (let g = (or_false (b == y) (has b ys) (or_false (b == c) (has b (y ∷ ys)) new).1).0 in let h : (b == y) ≡ true = ap (λ z. b == z) f ∙ self_num b in let q : true ≡ false = sym h ∙ g in cc) in
      elim (either c y d l.0) [
        | inl a ↦ never ys c y d l.1 once.0 once.1 a.1 a.0
        | inr a ↦ other (sym a.1 ∙ e)
      ]

  only : (fuel : ℕ) (xs : List ℕ) (c d : ℕ) → c < N → d < N → far c d ≤ fuel → Linked ps c d xs → Once (c ∷ xs) → xs ≡ hops fuel ps c d
  only fuel [] c d lc ld le l once = sym (ap (λ x. hops fuel ps x d) l ∙ hops_here fuel ps d)
  only zero (x ∷ xs) c d lc ld le l once = absurd (let e = far_zero c d lc ld (omega (arith, le)) in
      let i : has c (x ∷ xs) ≡ true = has_in c (x ∷ xs) (subst (λ y. In y (x ∷ xs)) (sym e) (last_in ps x d xs l.1)) in let q : true ≡ false = sym i ∙ once.0 in cc)
  only (suc fuel) (x ∷ xs) c d lc ld le l once =
      let ne : c ≡ d → ⊥ = λ e. (let i : has c (x ∷ xs) ≡ true = has_in c (x ∷ xs) (subst (λ y. In y (x ∷ xs)) (sym e) (last_in ps x d xs l.1)) in let q : true ≡ false = sym i ∙ once.0 in cc) in
      let f : hp c d ≡ x = elim (either c x d l.0) [ inr a ↦ a.1 | inl a ↦ absurd (never xs c x d l.1 once.0 once.1 a.1 a.0) ] in
      let n = nearer ps ok c d lc ld ne in
      let s = ap (λ y. far y d) f in
      let r : xs ≡ hops fuel ps x d = only fuel xs x d (edge_in c x l.0) ld (omega (arith, n, s, le)) l.1 once.1 in
      sym (hops_on fuel ps c d ne ∙ (ap (λ y. y ∷ hops fuel ps y d) f ∙ ap (λ z. x ∷ z) (sym r)))

  pub path_only : (c d : ℕ) (xs : List ℕ) → c < N → d < N → IsPath ps c d xs → xs ≡ path ps c d
  path_only c d xs lc ld p = only (N + N) xs c d lc ld (far_most c d) p.linked p.once

  -- the path begins with the hop
  pub path_hop : (c d : ℕ) → c < N → d < N → (c ≡ d → ⊥) → (rest : List ℕ) × IsPath ps c d ((hop ps c d) ∷ rest)
  path_hop c d lc ld ne = (
    path ps (hp c d) d,
    record {
      linked = (hop_edge c d lc ld ne, (path_is (hp c d) d (hop_in c d lc ld ne) ld).linked);
      once = (
        not_has c ((hp c d) ∷ path ps (hp c d) d) (λ i. elim i [
          | inl e ↦ (let n = nearer ps ok c d lc ld ne in let s = ap (λ y. far y d) e in omega (arith, n, s))
          | inr j ↦ (let n = nearer ps ok c d lc ld ne in let r = hops_near (N + N) (hp c d) d c (hop_in c d lc ld ne) ld j in omega (arith, n, r))
        ]),
        (path_is (hp c d) d (hop_in c d lc ld ne) ld).once,
      );
    },
  )

  pub len_nearer : (c d : ℕ) → c < N → d < N → (c ≡ d → ⊥) → suc (path_len ps (hop ps c d) d) ≡ path_len ps c d
  len_nearer c d lc ld ne = (let a = path_len_far (hp c d) d (hop_in c d lc ld ne) ld in let b = path_len_far c d lc ld in let n = nearer ps ok c d lc ld ne in omega (arith, a, b, n))

  pub hop_neighbour : (c d : ℕ) → edge ps c d ≡ true → (c ≡ d → ⊥) × (hop ps c d ≡ d)
  hop_neighbour c d e = elim (either c d d e) [ inl a ↦ absurd (a.0 refl) | inr a ↦ a ]

  pub len_neighbour : (c d : ℕ) → c < N → d < N → edge ps c d ≡ true → path_len ps c d ≡ 1
  len_neighbour c d lc ld e =
      let h = hop_neighbour c d e in
      let n = nearer ps ok c d lc ld h.0 in
      let s = ap (λ y. far y d) h.1 in
      let z = far_self d in
      let b = path_len_far c d lc ld in omega (arith, b, n, s, z)

  pub len_back : (c d : ℕ) → c < N → d < N → path_len ps c d ≡ path_len ps d c
  len_back c d lc ld = path_len_far c d lc ld ∙ (far_sym c d ∙ sym (path_len_far d c ld lc))

  -- towards what is on the way the hop is the same
  hop_on_way : (fuel c d x : ℕ) → c < N → d < N → x < N → In x (hops fuel ps c d) → hp c x ≡ hp c d
  hop_on_way zero c d x lc ld lx i = absurd i
  hop_on_way (suc fuel) c d x lc ld lx i = elim (cases_eq c d) [
    | inl e ↦ absurd (subst (In x) (ap (λ y. hops (suc fuel) ps y d) e ∙ hops_here (suc fuel) ps d) i)
    | inr ne ↦ (let y = hp c d in let e = hop_edge c d lc ld ne in let ly = hop_in c d lc ld ne in elim (subst (In x) (hops_on fuel ps c d ne) i) [
      | inl f ↦ ap (hp c) f ∙ (hop_neighbour c y e).1
      | inr j ↦ elim (either c y x e) [
        | inr a ↦ a.1
        | inl a ↦ absurd (let r : hp y x ≡ hp y d = hop_on_way fuel y d x ly ld lx j in let s : hp y d ≡ c = sym r ∙ a.1 in
            let k = hops_near fuel y d x ly ld j in
            let m : y ≡ d → ⊥ = λ g. (let z = far_same y d g in omega (arith, z, k)) in
            let p = nearer ps ok y d ly ld m in
            let n = nearer ps ok c d lc ld ne in
            let q = ap (λ z. far z d) s in omega (arith, p, n, q))
      ]
    ])
  ]

  hops_in : (fuel c d x : ℕ) → c < N → d < N → In x (hops fuel ps c d) → x < N
  hops_in zero c d x lc ld i = absurd i
  hops_in (suc fuel) c d x lc ld i = elim (cases_eq c d) [
    | inl e ↦ absurd (subst (In x) (ap (λ y. hops (suc fuel) ps y d) e ∙ hops_here (suc fuel) ps d) i)
    | inr ne ↦ elim (subst (In x) (hops_on fuel ps c d ne) i) [
      | inl e ↦ subst (λ y. y < N) (sym e) (hop_in c d lc ld ne)
      | inr j ↦ hops_in fuel (hp c d) d x (hop_in c d lc ld ne) ld j
    ]
  ]

  between : (fuel c d x : ℕ) → c < N → d < N → In x (hops fuel ps c d) → far c x + far x d ≡ far c d
  between zero c d x lc ld i = absurd i
  between (suc fuel) c d x lc ld i = elim (cases_eq c d) [
    | inl e ↦ absurd (subst (In x) (ap (λ y. hops (suc fuel) ps y d) e ∙ hops_here (suc fuel) ps d) i)
    | inr ne ↦ (let y = hp c d in let ly = hop_in c d lc ld ne in
        let lx = hops_in (suc fuel) c d x lc ld i in
        let k = hops_near (suc fuel) c d x lc ld i in
        let m : c ≡ x → ⊥ = λ g. (let z = ap (λ w. far w d) g in omega (arith, z, k)) in
        let h : hp c x ≡ y = hop_on_way (suc fuel) c d x lc ld lx i in
        let p = nearer ps ok c x lc lx m in
        let q = ap (λ z. far z x) h in
        let n = nearer ps ok c d lc ld ne in
        let t : far y x + far x d ≡ far y d = elim (subst (In x) (hops_on fuel ps c d ne) i) [
          | inl f ↦ (let z = far_same y x (sym f) in let w = ap (λ v. far v d) f in omega (arith, z, w))
          | inr j ↦ between fuel y d x ly ld j
        ] in omega (arith, p, q, n, t))
  ]

  pub len_between : (c d x : ℕ) → c < N → d < N → has x (path ps c d) ≡ true → path_len ps c x + path_len ps x d ≡ path_len ps c d
  len_between c d x lc ld i =
      let j = in_has x (path ps c d) i in
      let lx = hops_in (N + N) c d x lc ld j in
      let a = path_len_far c x lc lx in
      let b = path_len_far x d lx ld in
      let e = path_len_far c d lc ld in
      let t = between (N + N) c d x lc ld j in omega (arith, a, b, e, t)

  -- not both
  pub not_both : (c d h : ℕ) → c < N → d < N → h < N → (d ≡ h → ⊥) → hop ps d h ≡ c → (c ≡ h → ⊥) → hop ps c h ≡ d → ⊥
  not_both c d h lc ld lh nd e nc f =
      let a = nearer ps ok d h ld lh nd in
      let b = nearer ps ok c h lc lh nc in
      let x = ap (λ y. far y h) e in
      let y = ap (λ z. far z h) f in omega (arith, a, b, x, y)

  pub len_here : (c : ℕ) → path_len ps c c ≡ 0
  len_here c = ap length (hops_here (N + N) ps c)
