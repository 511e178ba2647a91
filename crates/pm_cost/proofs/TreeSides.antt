-- How many communication processes are behind a port: what a message over an edge may still cost.
use Rattle.std.proofs.Common.{◌≡◌, ℕ, zero, suc, ◌+◌, ◌<◌, ◌≤◌, inl, inr, ◌==◌, Bool, true, false, not, ◌&&◌, List, [], ◌∷◌, filter, refl, arith, ap, sym, ◌∙◌, subst}
use Rattle.std.proofs.lemmas.Bool.{cases_eq, cases_Bool}
use Rattle.std.proofs.lemmas.Bool.Decides.{nat_tests}
use Rattle.pm_plan.specs.Plans.{parents}
use Rattle.pm_plan.specs.Trees.{hop}
use Rattle.pm_plan.specs.declared.plan.Plan.{Plan}
use Rattle.pm_sim.proofs.Quiets.{tally_in}
use Rattle.pm_sim.proofs.Trims.{filter_in}
use Rattle.pm_sim.specs.Routings.{TreeOk}
use Rattle.pm_sim.specs.Sims.{In, one_if, tally}
use Rattle.pm_sim.specs.Worlds.{clps_of, ports}
use Rattle.pm_cost.specs.Spending.{total}
use Rattle.pm_cost.specs.Weights.{behind, side, sides}

same : (a b : ℕ) → a ≡ b → (a == b) ≡ true
same a b e = grind (arith, nat_tests, e)

not_same : (a b : ℕ) → (a ≡ b → ⊥) → (a == b) ≡ false
not_same a b n = grind (arith, nat_tests, n)

pub total_add : (n : ℕ) (f g h : ℕ → ℕ) → ((x : ℕ) → x < n → h x ≡ f x + g x) → total n h ≡ total n f + total n g
total_add zero f g h e = refl
total_add (suc n) f g h e = (let a = e n (omega arith) in let b = total_add n f g h (λ x l. e x (omega arith)) in
    omega arith)

total_const : (n : ℕ) (f : ℕ → ℕ) → ((x : ℕ) → x < n → f x ≡ 1) → total n f ≡ n
total_const zero f e = refl
total_const (suc n) f e = (let a = e n (omega arith) in let b = total_const n f (λ x l. e x (omega arith)) in
    omega arith)

pub total_zero : (n : ℕ) (f : ℕ → ℕ) → ((x : ℕ) → x < n → f x ≡ 0) → total n f ≡ 0
total_zero zero f e = refl
total_zero (suc n) f e = (let a = e n (omega arith) in let b = total_zero n f (λ x l. e x (omega arith)) in omega arith)

module _ (p : Plan) (tree : TreeOk p) where
  abbrev N : ℕ
  N = clps_of p

  behind_yes : (d e x : ℕ) → (x ≡ d → ⊥) → hop (parents p.clps) d x ≡ e → behind p d e x ≡ true
  behind_yes d e x ne h = (let a = not_same x d ne in let b = same (hop (parents p.clps) d x) e h in rw (a, b))

  behind_self : (d e x : ℕ) → x ≡ d → behind p d e x ≡ false
  behind_self d e x h = (let a = same x d h in rw a)

  behind_no : (d e x : ℕ) → (hop (parents p.clps) d x ≡ e → ⊥) → behind p d e x ≡ false
  behind_no d e x n = (let b = not_same (hop (parents p.clps) d x) e n in go (not (x == d)) b)
    where
      go : (b : Bool) → (hop (parents p.clps) d x == e) ≡ false → (b && (hop (parents p.clps) d x == e)) ≡ false
      go true f = f
      go false f = refl

  -- each CLP is behind one of an edge's two ends
  pub both_sides : (d e : ℕ) → d < N → e < N → In e (ports p d) → (d ≡ e → ⊥) → side p d e + side p e d ≡ N
  both_sides d e ld le port ne =
      sym (total_add N (λ x. one_if (behind p d e x) 0) (λ x. one_if (behind p e d x) 0) (λ x. one_if
      (behind p d e x) 0 + one_if (behind p e d x) 0) (λ x l. refl))
      ∙ total_const N (λ x. one_if (behind p d e x) 0 + one_if (behind p e d x) 0) (λ x l. one x l)
    where
      one : (x : ℕ) → x < N → one_if (behind p d e x) 0 + one_if (behind p e d x) 0 ≡ 1
      one x l = elim (tree.either d e x ld l port) [
        | inl o ↦ (let a = behind_yes e d x (λ f. o.0 (sym f)) o.1 in let b = none_d x l o in
            let c : one_if (behind p e d x) 0 ≡ 1 = ap (λ b. one_if b 0) a in
            let g : one_if (behind p d e x) 0 ≡ 0 = ap (λ b. one_if b 0) b in omega arith)
        | inr o ↦ (let a = behind_yes d e x (λ f. o.0 (sym f)) o.1 in let b = none_e x l o in
            let c : one_if (behind p d e x) 0 ≡ 1 = ap (λ b. one_if b 0) a in
            let g : one_if (behind p e d x) 0 ≡ 0 = ap (λ b. one_if b 0) b in omega arith)
      ]
        where
          -- not both: a hop and back would not come nearer
          none_d : (x : ℕ) → x < N → (e ≡ x → ⊥) × (hop (parents p.clps) e x ≡ d) → behind p d e x ≡ false
          none_d x l o = elim (cases_eq x d) [
            | inl f ↦ behind_self d e x f
            | inr nx ↦ behind_no d e x (λ g. let a = tree.nearer e x le l o.0 in
                let b = tree.nearer d x ld l (λ f. nx (sym f)) in
                let a' : suc (tree.dist d x) ≡ tree.dist e x = subst (λ z. suc (tree.dist z x) ≡ tree.dist e x) o.1 a in
                let b' : suc (tree.dist e x) ≡ tree.dist d x = subst (λ z. suc
                (tree.dist z x) ≡ tree.dist d x) g b in omega arith)
          ]

          none_e : (x : ℕ) → x < N → (d ≡ x → ⊥) × (hop (parents p.clps) d x ≡ e) → behind p e d x ≡ false
          none_e x l o = elim (cases_eq x e) [
            | inl f ↦ behind_self e d x f
            | inr nx ↦ behind_no e d x (λ g. let a = tree.nearer d x ld l o.0 in
                let b = tree.nearer e x le l (λ f. nx (sym f)) in
                let a' : suc (tree.dist e x) ≡ tree.dist d x = subst (λ z. suc (tree.dist z x) ≡ tree.dist d x) o.1 a in
                let b' : suc (tree.dist d x) ≡ tree.dist e x = subst (λ z. suc
                (tree.dist z x) ≡ tree.dist e x) g b in omega arith)
          ]

  -- the ports of d share the other CLPs out
  shared : (d : ℕ) (es : List ℕ) → sides p d es ≡ total N (λ x. tally (λ e. behind p d e x) es)
  shared d [] = sym (total_zero N (λ x. 0) (λ x l. refl))
  shared d (e ∷ es) = (let again = shared d es in
      sym (total_add N (λ x. one_if (behind p d e x) 0) (λ x. tally (λ e'. behind p d e' x) es) (λ x. tally
      (λ e'. behind p d e' x) (e ∷ es)) (λ x l. split (behind p d e x) (tally (λ e'. behind p d e' x) es))
      ∙ sym (ap (λ k. side p d e + k) again)))
    where
      split : (b : Bool) (n : ℕ) → one_if b n ≡ one_if b 0 + n
      split true n = omega arith
      split false n = omega arith

  tally_same : (P Q : ℕ → Bool) (es : List ℕ) → ((e : ℕ) → P e ≡ Q e) → tally P es ≡ tally Q es
  tally_same P Q [] h = refl
  tally_same P Q (e ∷ es) h = (let a = h e in let b = tally_same P Q es h in rw a (ap (one_if (Q e)) b))

  one_port : (d x : ℕ) → d < N → x < N → (x ≡ d → ⊥) → tally (λ e. behind p d e x) (ports p d) ≡ 1
  one_port d x ld lx ne =
      let a : tally (λ e. behind p d e x) (ports p d) ≡ tally (λ e. hop (parents p.clps) d x == e)
      (ports p d) = tally_same (λ e. behind p d e x) (λ e. hop (parents p.clps) d x == e) (ports p d) (λ e.
      (let b = not_same x d ne in ap (λ z. not z && (hop (parents p.clps) d x == e)) b)) in
      let most = tree.once d (hop (parents p.clps) d x) in
      let least = tally_in (λ e. hop (parents p.clps) d x == e) (ports p d) (hop (parents p.clps) d x)
      (tree.hop_port d x ld lx (λ f. ne (sym f))) (same (hop (parents p.clps) d x) (hop
      (parents p.clps) d x) refl) in
      omega arith

  all_but : (n d : ℕ) (f : ℕ → ℕ) → d < n → f d ≡ 0 → ((x : ℕ) → x < n → (x ≡ d → ⊥) → f x ≡ 1) → suc (total n f) ≡ n
  all_but zero d f lt z h = absurd (omega arith)
  all_but (suc n) d f lt z h = elim (cases_eq d n) [
    | inl e ↦ (let a : f n ≡ 0 = ap f (sym e) ∙ z in let b = total_const n f (λ x l. h x (omega arith)
        (λ g. omega arith)) in omega arith)
    | inr ne ↦ (let a = h n (omega arith) (λ g. ne (sym g)) in let b = all_but n d f (omega arith) z (λ x l g. h x
        (omega arith) g) in omega arith)
  ]

  pub all_sides : (d : ℕ) → d < N → suc (sides p d (ports p d)) ≡ N
  all_sides d ld = ap suc (shared d (ports p d)) ∙ all_but N d (λ x. tally (λ e. behind p d e x) (ports p d)) ld
      (none (ports p d)) (λ x l ne. one_port d x ld l ne)
    where
      none : (es : List ℕ) → tally (λ e. behind p d e d) es ≡ 0
      none [] = refl
      none (e ∷ es) = (let a = behind_self d e d refl in rw a (none es))

  -- without one port
  without_none : (d e : ℕ) (es : List ℕ) → tally (λ x. e == x) es ≡ 0
      → sides p d (filter (λ x. not (e == x)) es) ≡ sides p d es
  without_none d e [] h = refl
  without_none d e (x ∷ es) h = elim (cases_Bool (e == x)) [
    | inl f ↦ absurd (let a : one_if (e == x) (tally (λ y. e == y) es) ≡ suc (tally (λ y. e == y) es) = ap
        (λ b. one_if b (tally (λ y. e == y) es)) f in omega arith)
    | inr f ↦ (let a : one_if (e == x) (tally (λ y. e == y) es) ≡ tally (λ y. e == y) es = ap (λ b. one_if b (tally
        (λ y. e == y) es)) f in
        let again = without_none d e es (sym a ∙ h) in rw f (ap (λ k. side p d x + k) again))
  ]

  without_one : (d e : ℕ) (es : List ℕ) → tally (λ x. e == x) es ≡ 1 → side p d e + sides p d (filter (λ x. not
      (e == x)) es) ≡ sides p d es
  without_one d e [] h = absurd (omega arith)
  without_one d e (x ∷ es) h = elim (cases_Bool (e == x)) [
    | inl f ↦ (let a : one_if (e == x) (tally (λ y. e == y) es) ≡ suc (tally (λ y. e == y) es) = ap (λ b. one_if b
        (tally (λ y. e == y) es)) f in
        let n = without_none d e es (omega arith) in
        let g : e ≡ x = grind (arith, nat_tests, f) in rw f (ap (λ k. side p d e + k) n
        ∙ ap (λ z. side p d z + sides p d es) g))
    | inr f ↦ (let a : one_if (e == x) (tally (λ y. e == y) es) ≡ tally (λ y. e == y) es = ap (λ b. one_if b (tally
        (λ y. e == y) es)) f in
        let again = without_one d e es (sym a ∙ h) in rw f (omega arith))
  ]

  -- behind d's port e are e and what is behind its other ports: so a message that goes on, once or over all of them,
  -- costs one less
  pub side_next : (d e : ℕ) → d < N → In e (ports p d) → (d ≡ e → ⊥)
      → side p d e ≡ suc (sides p e (filter (λ x. not (d == x)) (ports p e)))
  side_next d e ld port ne =
      let le : e < N = tree.inside d e port in
      let two = both_sides d e ld le port ne in
      let all = all_sides e le in
      let back = tree.back d e ld port in
      let most = tree.once e d in
      let least = tally_in (λ x. d == x) (ports p e) d back (same d d refl) in
      let one = without_one e d (ports p e) (omega arith) in omega arith

  sides_in : (d e : ℕ) (es : List ℕ) → In e es → side p d e ≤ sides p d es
  sides_in d e [] i = absurd i
  sides_in d e (x ∷ es) (inl f) = (let g : side p d e ≡ side p d x = ap (side p d) f in omega arith)
  sides_in d e (x ∷ es) (inr i) = (let a = sides_in d e es i in omega arith)

  -- over one further edge
  pub side_less : (d e f : ℕ) → d < N → In e (ports p d) → (d ≡ e → ⊥) → In f (ports p e) → (d ≡ f → ⊥)
      → suc (side p e f) ≤ side p d e
  side_less d e f ld port ne port' nf =
      let a = side_next d e ld port ne in
      let b = sides_in e f (filter (λ x. not (d == x)) (ports p e)) (filter_in (λ x. not (d == x))
      (ports p e) f port' (let g = not_same d f nf in ap not g)) in omega arith

  -- from home, with N
  pub side_first : (d e : ℕ) → d < N → In e (ports p d) → suc (side p d e) ≤ N
  side_first d e ld port = (let a = all_sides d ld in let b = sides_in d e (ports p d) port in omega arith)
