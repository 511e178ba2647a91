-- The hits of a sense, in order of variable.
use Rattle.std.proofs.Common.{◌≡◌, refl, sym, ◌∙◌, ap, subst, ℤ, ℕ, zero, suc, ◌+◌, ◌<◌, ◌≤◌, ◌==◌, ◌&&◌, nat_lt}
use Rattle.std.proofs.Common.{Bool, true, false, not, is_some, List, [], ◌∷◌, ◌++◌, length, get_or, set, take, drop}
use Rattle.std.proofs.Common.{slice_get, append_assoc, arith, Option, Some, None, inl, inr}
use Rattle.std.proofs.lemmas.Bool.{cases_Bool}
use Rattle.std.proofs.lemmas.Bool.Decides.{Decides-int_eq, nat_tests}
use Rattle.std.proofs.lemmas.List.{drop-map, drop_more, take_all}
use Rattle.std.specs.List.{AllByRecursion}
use Rattle.std.specs.Ordering.{int_eq}
use Rattle.pm_base.specs.Changes.{value_eq}
use Rattle.pm_base.specs.declared.value.Hit.{Hit}
use Rattle.pm_base.specs.declared.value.Value.{Value}
use Rattle.pm_saved.specs.Inner.{HitsRise, kept_for, only, place_of, same_hit}
use Rattle.pm_saved.specs.Searches.{passing}
use Rattle.pm_saved.specs.Senses.{add_kept, answer, answers, hits_eq, kept_hit, kept_turn, shown_before}
use Rattle.pm_saved.specs.declared.kept.KeptHit.{KeptHit}
use Rattle.pm_saved.specs.declared.kept.KeptSense.{KeptSense}
use Rattle.pm_saved.proofs.Searches.{Parted, each_weaker}

-- all these hits are of greater variables
abbrev pub Above : ℕ → List KeptHit → Type 0
Above v ks = AllByRecursion (λ (k : KeptHit). v < k.var) ks

above_weaker : (v w : ℕ) (ks : List KeptHit) → w ≤ v → Above v ks → Above w ks
above_weaker v w ks le h = each_weaker (λ (k : KeptHit). v < k.var) (λ (k : KeptHit). w < k.var)
    (λ k lt. omega arith) ks h

pub hits-parted : (v : ℕ) (ks : List KeptHit) → HitsRise ks → Parted (λ k. nat_lt k.var v) ks
hits-parted v [] h = tt
hits-parted v (k ∷ ks) h = (
  (λ f. each_weaker (λ (j : KeptHit). k.var < j.var) (λ (j : KeptHit). nat_lt j.var v
      ≡ false) (λ j lt. grind (arith, nat_tests)) ks h.0),
  hits-parted v ks h.1,
)

none_above : (v : ℕ) (ks : List KeptHit) → Above v ks → kept_for v ks ≡ None
none_above v [] h = refl
none_above v (k ∷ ks) h = let ne : (k.var == v) ≡ false = grind (arith, nat_tests) in rw ne (none_above v ks h.1)

pub kept_for-place : (v : ℕ) (ks : List KeptHit) → HitsRise ks → only v (slice_get ks (place_of v ks)) ≡ kept_for v ks
kept_for-place v [] h = refl
kept_for-place v (k ∷ ks) h = elim (cases_Bool (nat_lt k.var v)) [
  | inl t ↦ (let ne : (k.var == v) ≡ false = grind (arith, nat_tests) in rw (t, ne) (kept_for-place v ks h.1))
  | inr f ↦ rw f (elim (cases_Bool (k.var == v)) [
    | inl e ↦ rw e refl
    | inr e ↦ rw e (sym (none_above v ks (above_weaker k.var v ks (grind (arith, nat_tests)) h.0)))
  ])
]

-- the turn and the hit of what is kept
abbrev pub turn_in : Option KeptHit → ℕ
turn_in None = 0
turn_in (Some k) = k.turn

abbrev pub hit_in : Option KeptHit → Option Value
hit_in None = None
hit_in (Some k) = k.hit

pub turn-kept : (v : ℕ) (ks : List KeptHit) → kept_turn v ks ≡ turn_in (kept_for v ks)
turn-kept v [] = refl
turn-kept v (k ∷ ks) = elim (cases_Bool (k.var == v)) [
  | inl e ↦ rw e refl
  | inr e ↦ rw e (turn-kept v ks)
]

pub hit-kept : (v : ℕ) (ks : List KeptHit) → kept_hit v ks ≡ hit_in (kept_for v ks)
hit-kept v [] = refl
hit-kept v (k ∷ ks) = elim (cases_Bool (k.var == v)) [
  | inl e ↦ rw e refl
  | inr e ↦ rw e (hit-kept v ks)
]

-- a hit is kept in its place
pub kept-set : (k : KeptHit) (ks : List KeptHit) → is_some (only k.var (slice_get ks (place_of k.var ks))) ≡ true
    → set ks (place_of k.var ks) k ≡ add_kept k ks
kept-set k [] h = absurd cc
kept-set k (x ∷ xs) h = elim (cases_Bool (nat_lt x.var k.var)) [
  | inl t ↦ (
      let ne : (k.var == x.var) ≡ false = grind (arith, nat_tests) in
      let no : nat_lt k.var x.var ≡ false = grind (arith, nat_tests) in
      let again : is_some (only k.var (slice_get xs (place_of k.var xs))) ≡ true = rw t at h in
      rw (t, ne, no) (ap (λ z. x ∷ z) (kept-set k xs again)))
  | inr f ↦ elim (cases_Bool (x.var == k.var)) [
    | inl e ↦ (
        let eq : (k.var == x.var) ≡ true = grind (arith, nat_tests) in
        let no : nat_lt k.var x.var ≡ false = grind (arith, nat_tests) in
        rw (f, eq, no) refl)
    | inr e ↦ (let gone : false ≡ true = rw (f, e) at h in absurd cc)
  ]
]

pub kept-insert : (k : KeptHit) (ks : List KeptHit) → is_some (only k.var (slice_get ks (place_of k.var ks))) ≡ false
    → take (place_of k.var ks) ks ++ k ∷ drop (place_of k.var ks) ks ≡ add_kept k ks
kept-insert k [] h = refl
kept-insert k (x ∷ xs) h = elim (cases_Bool (nat_lt x.var k.var)) [
  | inl t ↦ (
      let ne : (k.var == x.var) ≡ false = grind (arith, nat_tests) in
      let no : nat_lt k.var x.var ≡ false = grind (arith, nat_tests) in
      let again : is_some (only k.var (slice_get xs (place_of k.var xs))) ≡ false = rw t at h in
      rw (t, ne, no) (ap (λ z. x ∷ z) (kept-insert k xs again)))
  | inr f ↦ elim (cases_Bool (x.var == k.var)) [
    | inl e ↦ (let gone : true ≡ false = rw (f, e) at h in absurd cc)
    | inr e ↦ (
        let yes : nat_lt k.var x.var ≡ true = grind (arith, nat_tests) in
        rw (f, yes) refl)
  ]
]

above_add : (v : ℕ) (k : KeptHit) (ks : List KeptHit) → v < k.var → Above v ks → Above v (add_kept k ks)
above_add v k [] lt h = (lt, tt)
above_add v k (x ∷ xs) lt h = elim (cases_Bool (nat_lt k.var x.var)) [
  | inl t ↦ rw t (lt, h)
  | inr f ↦ rw f (elim (cases_Bool (k.var == x.var)) [
    | inl e ↦ rw e (lt, h.1)
    | inr e ↦ rw e (h.0, above_add v k xs lt h.1)
  ])
]

-- and they still rise
pub kept-rise : (k : KeptHit) (ks : List KeptHit) → HitsRise ks → HitsRise (add_kept k ks)
kept-rise k [] h = (tt, tt)
kept-rise k (x ∷ xs) h = elim (cases_Bool (nat_lt k.var x.var)) [
  | inl t ↦ rw t ((grind (arith, nat_tests), above_weaker x.var k.var xs (grind (arith, nat_tests)) h.0), h)
  | inr f ↦ rw f (elim (cases_Bool (k.var == x.var)) [
    | inl e ↦ rw e (above_weaker x.var k.var xs (grind (arith, nat_tests)) h.0, h.1)
    | inr e ↦ rw e (above_add x.var k xs (grind (arith, nat_tests)) h.0, kept-rise k xs h.1)
  ])
]

-- one more hit that is shown
shown-split : (v : ℕ) (o : Option Value) (hs : List Hit) → shown_before v o [] ++ hs ≡ shown_before v o hs
shown-split v None hs = refl
shown-split v (Some x) hs = refl

pub answer-more : (ks : List KeptHit) (i : ℕ) (d : KeptHit) (all all' : List Hit) → i < length ks
    → all ++ answer (drop i ks) ≡ answer ks
    → all' ≡ all ++ shown_before (get_or ks i d).var (get_or ks i d).hit []
    → all' ++ answer (drop (i + 1) ks) ≡ answer ks
answer-more ks i d all all' lt inv e =
    let k = get_or ks i d in
    ap (λ z. z ++ answer (drop (i + 1) ks)) e
    ∙ (append_assoc all (shown_before k.var k.hit []) (answer (drop (i + 1) ks))
    ∙ (ap (λ z. all ++ z) (shown-split k.var k.hit (answer (drop (i + 1) ks))
    ∙ sym (ap answer (drop_more ks i d lt))) ∙ inv))

-- whether an answer changes
eq_self : (n : ℕ) → (n == n) ≡ true
eq_self n = grind (arith, nat_tests)

int_self : (z : ℤ) → int_eq z z ≡ true
int_self z = (Decides-int_eq z z).1 refl

value_self : (v : Value) → value_eq v v ≡ true
value_self v = rw (int_self v.x, int_self v.y) refl

hits_self : (hs : List Hit) → hits_eq hs hs ≡ true
hits_self [] = refl
hits_self (h ∷ hs) = rw (eq_self h.var, value_self h.value) (hits_self hs)

abbrev pub HitsAbove : ℕ → List Hit → Type 0
HitsAbove v hs = AllByRecursion (λ (h : Hit). v < h.var) hs

shown_above : (v w : ℕ) (o : Option Value) (hs : List Hit) → v < w → HitsAbove v hs → HitsAbove v (shown_before w o hs)
shown_above v w None hs lt h = h
shown_above v w (Some x) hs lt h = (lt, h)

answer_above : (v : ℕ) (ks : List KeptHit) → Above v ks → HitsAbove v (answer ks)
answer_above v [] h = tt
answer_above v (k ∷ ks) h = shown_above v k.var k.hit (answer ks) h.0 (answer_above v ks h.1)

first_more : (v : ℕ) (x : Value) (hs : List Hit) → HitsAbove v hs
    → hits_eq (record { var = v; value = x } ∷ hs) hs ≡ false
first_more v x [] h = refl
first_more v x (y ∷ ys) h = let ne : (v == y.var) ≡ false = grind (arith, nat_tests) in rw ne refl

first_less : (v : ℕ) (x : Value) (hs : List Hit) → HitsAbove v hs
    → hits_eq hs (record { var = v; value = x } ∷ hs) ≡ false
first_less v x [] h = refl
first_less v x (y ∷ ys) h = let ne : (y.var == v) ≡ false = grind (arith, nat_tests) in rw ne refl

-- a hit that is new
shown_new : (v : ℕ) (o : Option Value) (hs : List Hit) → HitsAbove v hs
    → hits_eq (shown_before v o hs) hs ≡ same_hit o None
shown_new v None hs h = hits_self hs
shown_new v (Some x) hs h = first_more v x hs h

-- a hit in the place of another
shown_instead : (v w : ℕ) (o p : Option Value) (hs : List Hit) → (v == w) ≡ true → HitsAbove w hs
    → hits_eq (shown_before v o hs) (shown_before w p hs) ≡ same_hit o p
shown_instead v w None None hs e h = hits_self hs
shown_instead v w None (Some y) hs e h = first_less w y hs h
shown_instead v w (Some x) None hs e h = let s : v
    ≡ w = grind (arith, nat_tests) in first_more v x hs (subst (λ n. HitsAbove n hs) (sym s) h)
shown_instead v w (Some x) (Some y) hs e h = rw (e, hits_self hs) (and_true (value_eq x y))
  where
    and_true : (b : Bool) → b && true ≡ b
    and_true true = refl
    and_true false = refl

-- a hit before others
shown_same : (v : ℕ) (o : Option Value) (gs hs : List Hit)
    → hits_eq (shown_before v o gs) (shown_before v o hs) ≡ hits_eq gs hs
shown_same v None gs hs = refl
shown_same v (Some x) gs hs = rw (eq_self v, value_self x) refl

none_kept : (v : ℕ) (ks : List KeptHit) → Above v ks → kept_hit v ks ≡ None
none_kept v ks h = hit-kept v ks ∙ ap hit_in (none_above v ks h)

pub answer-changes : (k : KeptHit) (ks : List KeptHit) → HitsRise ks
    → hits_eq (answer (add_kept k ks)) (answer ks) ≡ same_hit k.hit (kept_hit k.var ks)
answer-changes k [] h = shown_new k.var k.hit [] tt
answer-changes k (x ∷ xs) h = elim (cases_Bool (nat_lt k.var x.var)) [
  | inl t ↦ (
      let ne : (x.var == k.var) ≡ false = grind (arith, nat_tests) in
      let lt : k.var < x.var = grind (arith, nat_tests) in
      let above : Above k.var xs = above_weaker x.var k.var xs (omega arith) h.0 in
      rw (t, ne, none_kept k.var xs above) (shown_new k.var k.hit (answer (x ∷ xs)) (answer_above k.var (x ∷ xs)
      (lt, above))))
  | inr f ↦ elim (cases_Bool (k.var == x.var)) [
    | inl e ↦ (
        let eq : (x.var == k.var) ≡ true = grind (arith, nat_tests) in
        rw (f, e, eq) (shown_instead k.var x.var k.hit x.hit (answer xs) e (answer_above x.var xs h.0)))
    | inr e ↦ (
        let ne : (x.var == k.var) ≡ false = grind (arith, nat_tests) in
        rw (f, e, ne) (shown_same x.var x.hit (answer (add_kept k xs)) (answer xs) ∙ answer-changes k xs h.1))
  ]
]

-- the answers that lacked were added
pub answers-all : (n i : ℕ) (xs others : List KeptSense) (old all : List (List Hit)) → n ≡ length old
    → others ≡ drop n xs → length others ≤ i → all ≡ old ++ answers (take i others)
    → all ≡ old ++ drop (length old) (answers xs)
answers-all n i xs others old all e o le h =
    h ∙ (ap (λ z. old ++ answers z) (take_all i others le ∙ (o ∙ ap (λ k. drop k xs) e))
    ∙ ap (λ z. old ++ z) (sym (drop-map (λ (x : KeptSense). answer x.hits) (length old) xs)))
