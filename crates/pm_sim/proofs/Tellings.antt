-- After a row was added, exactly the reads whose hit changed are given it, with a turn one higher.
use Rattle.pm_base.specs.Changes.{value_eq}
use Rattle.pm_base.specs.Stamps.{num_eq}
use Rattle.std.proofs.Common.{◌≡◌, ℕ, ◌+◌, ◌⊎◌, inl, inr, Bool, true, false, cond, ◌||◌, List, [], ◌∷◌, map, refl, arith, ap, sym, ◌∙◌, subst, ap₂, Option, None}
use Rattle.std.proofs.lemmas.Bool.Decides.{nat_tests, Decides-int_eq}
use Rattle.std.proofs.lemmas.Bool.{cases_Bool, cond_both, and_parts}
use Rattle.std.specs.Ordering.{int_eq}
use Rattle.pm_base.specs.declared.rows.GiveRow.{GiveRow}
use Rattle.pm_base.specs.declared.rows.Parts.{Parts}
use Rattle.pm_base.specs.declared.rows.ReadRow.{ReadRow}
use Rattle.pm_base.specs.declared.stamp.Num.{Num}
use Rattle.pm_base.specs.declared.value.Value.{Value}
use Rattle.pm_model.specs.Runs.{rest}
use Rattle.pm_periods.specs.Records.{hit_eq, is_stale, next_give, record_hit, record_value}
use Rattle.pm_periods.specs.Rows.{add_row, key_lt, read_key}
use Rattle.std.proofs.Common.{not, filter}
use Rattle.pm_periods.proofs.Hits.{hit_eq-same}
use Rattle.pm_sim.specs.Sims.{In, NoTwice, Told, Under, given, changed_gives, has_read, told, told_of}
use Rattle.pm_sim.proofs.Stamps.{nums_same, num_eq_self}

pub value_same : (v w : Value) → value_eq v w ≡ true → v ≡ w
value_same v w e =
    let a = and_parts (int_eq v.x w.x) (int_eq v.y w.y) e in
    let x : v.x ≡ w.x = (Decides-int_eq v.x w.x).0 a.0 in
    let y : v.y ≡ w.y = (Decides-int_eq v.y w.y).0 a.1 in
    λ i. record { x = x i; y = y i }

pub hit_same : (a b : Option Value) → hit_eq a b ≡ true → a ≡ b
hit_same a b e = hit_eq-same a b e

pub given_hit : (q : ReadRow) (h : Option Value) → (given q h).hit ≡ h
given_hit q h = elim (cases_Bool (hit_eq h q.hit)) [ inl e ↦ rw e (sym (hit_same h q.hit e)) | inr e ↦ rw e refl ]

pub given_num : (q : ReadRow) (h : Option Value) → (given q h).num ≡ q.num
given_num q h = elim (cases_Bool (hit_eq h q.hit)) [ inl e ↦ rw e refl | inr e ↦ rw e refl ]

pub given_stamp : (q : ReadRow) (h : Option Value) → (given q h).stamp ≡ q.stamp
given_stamp q h = elim (cases_Bool (hit_eq h q.hit)) [ inl e ↦ rw e refl | inr e ↦ rw e refl ]

pub given_window : (q : ReadRow) (h : Option Value) → (given q h).window ≡ q.window
given_window q h = elim (cases_Bool (hit_eq h q.hit)) [ inl e ↦ rw e refl | inr e ↦ rw e refl ]

abbrev all_given : Parts → List ReadRow → List ReadRow
all_given r qs = map (λ (q : ReadRow). given q (record_hit r q)) qs

pub given_in : (r : Parts) (qs : List ReadRow) (q : ReadRow)
    → In q (all_given r qs) → (p : ReadRow) × In p qs × (q ≡ given p (record_hit r p))
given_in r [] q i = absurd i
given_in r (x ∷ qs) q (inl e) = (x, inl refl, e)
given_in r (x ∷ qs) q (inr i) = (let o = given_in r qs q i in (o.0, inr o.1, o.2))

pub given_has : (r : Parts) (n : Num) (qs : List ReadRow) → has_read n (all_given r qs) ≡ has_read n qs
given_has r n [] = refl
given_has r n (x ∷ qs) = rw (given_num x (record_hit r x), given_has r n qs)

pub given_once : (r : Parts) (qs : List ReadRow) → NoTwice qs → NoTwice (all_given r qs)
given_once r [] h = tt
given_once r (x ∷ qs) h = (
  ap (λ n. has_read n (all_given r qs)) (given_num x (record_hit r x))
      ∙ (given_has r x.num qs ∙ h.0),
  given_once r qs h.1,
)

-- the last telling after it, against the one before: the same, or one turn later, and given
abbrev pub Later : ℕ → Parts → List ReadRow → Num → Told → Told → Type 0
Later v r qs n old new = (new ≡ old) ⊎ ((new.turn ≡ old.turn + 1)
    × (g : GiveRow) × In g (changed_gives v r qs) × (g.num ≡ n) × (g.var ≡ v) × (told_of g ≡ new))

told_one : (v : ℕ) (r : Parts) (q : ReadRow) (qs : List ReadRow)
    → Later v r (q ∷ qs) q.num (record { turn = q.turn; hit = q.hit })
    (record { turn = (given q (record_hit r q)).turn; hit = (given q (record_hit r q)).hit })
told_one v r q qs = elim (cases_Bool (hit_eq (record_hit r q) q.hit)) [
  | inl e ↦ inl (rw e refl)
  | inr e ↦ inr (rw e (refl, next_give v (record_value r) q, inl refl, refl, refl, refl))
]

later_more : (v : ℕ) (r : Parts) (q : ReadRow) (qs : List ReadRow) (n : Num) (old new : Told)
    → Later v r qs n old new → Later v r (q ∷ qs) n old new
later_more v r q qs n old new (inl e) = inl e
later_more v r q qs n old new (inr (t, g, i, en, ev, eg)) =
    inr (t, g, elim (cases_Bool (hit_eq (record_hit r q) q.hit)) [ inl e ↦ rw e i | inr e ↦ rw e (inr i) ], en, ev, eg)

pub told_later : (v : ℕ) (r : Parts) (qs : List ReadRow) (n : Num)
    → Later v r qs n (told n qs) (told n (all_given r qs))
told_later v r [] n = inl refl
told_later v r (q ∷ qs) n = elim (cases_Bool (num_eq n q.num)) [
  | inl e ↦ (let same : n ≡ q.num = nums_same n q.num e in let e' : num_eq n (given q (record_hit r q)).num ≡ true =
      ap (num_eq n) (given_num q (record_hit r q)) ∙ e in
      rw (e, e') (subst (λ k. Later v r (q ∷ qs) k (record { turn = q.turn; hit = q.hit }) (record {
        turn = (given q (record_hit r q)).turn;
        hit = (given q (record_hit r q)).hit;
      })) (sym same) (told_one v r q qs)))
  | inr e ↦
      (let e' : num_eq n (given q (record_hit r q)).num ≡ false = ap (num_eq n) (given_num q (record_hit r q)) ∙ e in
      rw (e, e') (later_more v r q qs n (told n qs) (told n (all_given r qs)) (told_later v r qs n)))
]

-- a row that is given is a read's, as it is told now
pub changed_in : (v : ℕ) (r : Parts) (qs : List ReadRow) (g : GiveRow) → NoTwice qs → In g (changed_gives v r qs)
    → (q : ReadRow) × In q qs × (g.num ≡ q.num)
    × (g.stamp ≡ q.stamp) × (g.var ≡ v) × (told_of g ≡ told g.num (all_given r qs)) × (has_read g.num qs ≡ true)
changed_in v r [] g h i = absurd i
changed_in v r (q ∷ qs) g h i = by (hit_eq (record_hit r q) q.hit) refl i (changed_in v r qs g h.1)
  where
    Found : Type 0
    Found = (p : ReadRow) × In p (q ∷ qs) × (g.num ≡ p.num) × (g.stamp ≡ p.stamp)
        × (g.var ≡ v) × (told_of g ≡ told g.num (all_given r (q ∷ qs))) × (has_read g.num (q ∷ qs) ≡ true)

    head : hit_eq (record_hit r q) q.hit ≡ false → g ≡ next_give v (record_value r) q → Found
    head e f =
        let en : g.num ≡ q.num = ap (λ (z : GiveRow). z.num) f in
        let e1 : num_eq g.num (given q (record_hit r q)).num ≡ true =
        ap₂ num_eq en (given_num q (record_hit r q)) ∙ num_eq_self q.num in
        let e2 : num_eq g.num q.num ≡ true = ap (λ z. num_eq z q.num) en ∙ num_eq_self q.num in (
          q,
          inl refl,
          en,
          ap (λ (z : GiveRow). z.stamp) f,
          ap (λ (z : GiveRow). z.var) f,
          rw e1 (ap told_of f ∙ now e),
          rw e2 refl,
        )
      where
        now : hit_eq (record_hit r q) q.hit ≡ false → told_of (next_give v (record_value r) q)
            ≡ record { turn = (given q (record_hit r q)).turn; hit = (given q (record_hit r q)).hit }
        now e = rw e refl

    tail : (p : ReadRow) × In p qs × (g.num ≡ p.num) × (g.stamp ≡ p.stamp)
        × (g.var ≡ v) × (told_of g ≡ told g.num (all_given r qs)) × (has_read g.num qs ≡ true) → Found
    tail (p, j, en, es, ev, eg, has) =
        let e2 : num_eq g.num q.num ≡ false = elim (cases_Bool (num_eq g.num q.num)) [
          | inr e ↦ e
          | inl e ↦ absurd (let a : has_read q.num qs ≡ true =
              subst (λ z. has_read z qs ≡ true) (nums_same g.num q.num e) has in let b = h.0 in cc)
        ] in
        let e1 : num_eq g.num (given q (record_hit r q)).num ≡ false =
        ap (num_eq g.num) (given_num q (record_hit r q)) ∙ e2 in
        (p, inr j, en, es, ev, rw e1 eg, rw e2 has)

    by : (b : Bool) → hit_eq (record_hit r q) q.hit ≡ b → In g (changed_gives v r (q ∷ qs))
        → (In g (changed_gives v r qs) → (p : ReadRow) × In p qs × (g.num ≡ p.num) × (g.stamp ≡ p.stamp)
        × (g.var ≡ v) × (told_of g ≡ told g.num (all_given r qs)) × (has_read g.num qs ≡ true)) → Found
    by true e j rest = tail (rest (subst (λ b. In g (map (next_give v (record_value r))
        (cond (not b) (q ∷ filter (is_stale (record_value r)) qs) (filter (is_stale (record_value r)) qs)))) e j))
    by false e j rest = elim (subst (λ b. In g (map (next_give v (record_value r))
        (cond (not b) (q ∷ filter (is_stale (record_value r)) qs) (filter (is_stale (record_value r)) qs)))) e j) [
          | inr k ↦ tail (rest k)
          | inl f ↦ head e f
        ]

-- a row told nothing in front of the others changes no telling, where none has its number
nothing_in_front : (q : ReadRow) (qs : List ReadRow) (n : Num)
    → q.turn ≡ 0 → q.hit ≡ None → has_read q.num qs ≡ false → told n (q ∷ qs) ≡ told n qs
nothing_in_front q qs n t h f = elim (cases_Bool (num_eq n q.num)) [
  | inl e ↦ (let e' : n ≡ q.num = nums_same n q.num e in
      rw e ((λ i. record { turn = t i; hit = h i }) ∙ sym (ap (λ z. told z qs) e' ∙ no_read q.num qs f)))
  | inr e ↦ rw e
]
  where
    no_read : (m : Num) (rs : List ReadRow) → has_read m rs ≡ false → told m rs ≡ record { turn = 0; hit = None }
    no_read m [] g = refl
    no_read m (r ∷ rs) g = (let a : num_eq m r.num ≡ false =
        grind (arith, g) in let b : has_read m rs ≡ false = grind (arith, g) in rw a (no_read m rs b))

-- a new read stands in the list, told nothing; the others as before
pub add_read_told : (q : ReadRow) (qs : List ReadRow) (n : Num)
    → q.turn ≡ 0 → q.hit ≡ None → has_read q.num qs ≡ false → told n (add_row read_key q qs) ≡ told n qs
add_read_told q [] n t h f = nothing_in_front q [] n t h f
add_read_told q (x ∷ qs) n t h f =
    let f' : has_read q.num qs ≡ false = grind (arith, f) in
    let again = add_read_told q qs n t h f' in
    cond_both (key_lt (read_key q) (read_key x))
    (q ∷ (x ∷ qs)) (x ∷ add_row read_key q qs) (λ (z : List ReadRow). told n z ≡ told n (x ∷ qs))
    (λ _. nothing_in_front q (x ∷ qs) n t h f)
    (λ _. ap (λ z. cond (num_eq n x.num) (record { turn = x.turn; hit = x.hit }) z) again)

pub add_read_has : (q : ReadRow) (qs : List ReadRow) (n : Num)
    → has_read n (add_row read_key q qs) ≡ (num_eq n q.num || has_read n qs)
add_read_has q [] n = refl
add_read_has q (x ∷ qs) n = (let again = add_read_has q qs n in
    cond_both (key_lt (read_key q) (read_key x)) (q ∷ (x ∷ qs))
    (x ∷ add_row read_key q qs) (λ (z : List ReadRow). has_read n z ≡ (num_eq n q.num || has_read n (x ∷ qs)))
    (λ _. refl)
    (λ _. swap (num_eq n x.num) (num_eq n q.num) (has_read n (add_row read_key q qs)) (has_read n qs) again))
  where
    swap : (a b c d : Bool) → c ≡ (b || d) → (a || c) ≡ (b || (a || d))
    swap true true c d e = refl
    swap true false c d e = refl
    swap false b c d e = e

pub add_read_in : (q : ReadRow) (qs : List ReadRow) (x : ReadRow) → In x (add_row read_key q qs) → (x ≡ q) ⊎ In x qs
add_read_in q [] x i = i
add_read_in q (y ∷ qs) x i = (let again = add_read_in q qs x in go (key_lt (read_key q) (read_key y)) again i)
  where
    go : (b : Bool) → (In x (add_row read_key q qs) → (x ≡ q) ⊎ In x qs)
        → In x (cond b (q ∷ (y ∷ qs)) (y ∷ add_row read_key q qs)) → (x ≡ q) ⊎ In x (y ∷ qs)
    go true rec i = i
    go false rec (inl e) = inr (inl e)
    go false rec (inr j) = elim (rec j) [ inl e ↦ inl e | inr k ↦ inr (inr k) ]

pub add_read_once : (q : ReadRow) (qs : List ReadRow)
    → has_read q.num qs ≡ false → NoTwice qs → NoTwice (add_row read_key q qs)
add_read_once q [] f h = (refl, tt)
add_read_once q (x ∷ qs) f h =
    let f' : has_read q.num qs ≡ false = grind (arith, f) in
    let g : num_eq q.num x.num ≡ false = grind (arith, f) in
    let g' : num_eq x.num q.num ≡ false = grind (arith, nat_tests, g) in
    let again = add_read_once q qs f' h.1 in
    cond_both (key_lt (read_key q) (read_key x)) (q ∷ (x ∷ qs))
    (x ∷ add_row read_key q qs) NoTwice (λ _. (f, h)) (λ _. (add_read_has q qs x.num ∙ rw (g', h.0), again))

pub under_trans : (a b c : Told) → Under a b → Under b c → Under a c
under_trans a b c h k = elim h [
  | inl x ↦ elim k [ inl y ↦ inl (omega arith) | inr y ↦ inl (let z = y.0 in omega arith) ]
  | inr x ↦ elim k [ inl y ↦ inl (let z = x.0 in omega arith) | inr y ↦ inr (x.0 ∙ y.0, x.1 ∙ y.1) ]
]

pub later_under : (v : ℕ) (r : Parts) (qs : List ReadRow) (n : Num) (old new : Told)
    → Later v r qs n old new → Under old new
later_under v r qs n old new (inl e) = inr (ap (λ (z : Told). z.turn) (sym e), ap (λ (z : Told). z.hit) (sym e))
later_under v r qs n old new (inr k) = inl (let z = k.0 in omega arith)

pub same_under : (a b : Told) → a ≡ b → Under a b
same_under a b e = inr (ap (λ (z : Told). z.turn) e, ap (λ (z : Told). z.hit) e)
