-- Heads in order: where one stands, and what putting one in and taking one away leave.
use Rattle.std.proofs.Common.{◌≡◌, ◌==◌, ℕ, zero, suc, ◌<◌, ◌≤◌, ◌⊎◌, inl, inr, Bool, true, false, not, ◌||◌, ◌&&◌, cond, List, [], ◌∷◌, ◌++◌, length, get_or, take, drop, refl, sym, ap, ap₂, arith, ◌∙◌, subst}
use Rattle.std.specs.Prelude.{◌-◌, if◌then◌else◌, is_ok, IsOk, Result, Ok, Err}
use Rattle.std.specs.List.{AllByRecursion, AllWithin}
use Rattle.std.proofs.lemmas.Bool.{cases_Bool, cond_both, false≢true, or_parts}
use Rattle.std.proofs.lemmas.Bool.Decides.{nat_tests}
use Rattle.pm_mail.specs.Heads.{IsFalling, goes_before, is_in, place, same}
use Rattle.pm_mail.specs.declared.heads.Head.{Head}

-- ---- two heads

-- a head is taken before another, as a fact
abbrev Before : Head → Head → Type 0
Before a b =
    (a.stamp.time < b.stamp.time)
    ⊎ ((a.stamp.time ≡ b.stamp.time)
    × ((a.stamp.agent < b.stamp.agent) ⊎ ((a.stamp.agent ≡ b.stamp.agent) × (a.from < b.from))))

fact : (a b : Head) → goes_before a b ≡ true → Before a b
fact a b e = grind (arith, nat_tests, e)

test : (a b : Head) → Before a b → goes_before a b ≡ true
test a b (inl h) = grind (arith, nat_tests, h)
test a b (inr (e, inl h)) = grind (arith, nat_tests, e, h)
test a b (inr (e, inr (f, h))) = grind (arith, nat_tests, e, f, h)

chain : (a b c : Head) → Before a b → Before b c → Before a c
chain a b c (inl h) (inl k) = inl (omega (arith, h, k))
chain a b c (inl h) (inr (f, k)) = inl (omega (arith, h, f))
chain a b c (inr (e, h)) (inl k) = inl (omega (arith, e, k))
chain a b c (inr (e, inl h)) (inr (f, inl k)) = inr (omega (arith, e, f), inl (omega (arith, h, k)))
chain a b c (inr (e, inl h)) (inr (f, inr (g, k))) = inr (omega (arith, e, f), inl (omega (arith, h, g)))
chain a b c (inr (e, inr (g, h))) (inr (f, inl k)) = inr (omega (arith, e, f), inl (omega (arith, g, k)))
chain a b c (inr (e, inr (g, h))) (inr (f, inr (i, k))) =
    inr (omega (arith, e, f), inr (omega (arith, g, i), omega (arith, h, k)))

pub before-trans : (a b c : Head) → goes_before a b ≡ true → goes_before b c ≡ true → goes_before a c ≡ true
before-trans a b c e f = test a c (chain a b c (fact a b e) (fact b c f))

pub before-self : (a : Head) → goes_before a a ≡ false
before-self a = grind (arith, nat_tests)

pub before-other : (a b : Head) → goes_before a b ≡ false → same b a ≡ false → goes_before b a ≡ true
before-other a b e f = grind (arith, nat_tests, e, f)

pub same-self : (a : Head) → same a a ≡ true
same-self a = grind (arith, nat_tests)

pub same-is : (a b : Head) → same a b ≡ true → a ≡ b
same-is a b e = grind (arith, nat_tests, e)

pub before-asym : (a b : Head) → goes_before a b ≡ true → goes_before b a ≡ false
before-asym a b e = elim (cases_Bool (goes_before b a)) [
  | inr f ↦ f
  | inl f ↦ absurd (false≢true (sym (before-self a) ∙ before-trans a b a e f))
]

pub before-differs : (a b : Head) → goes_before a b ≡ true → same b a ≡ false
before-differs a b e = elim (cases_Bool (same b a)) [
  | inr f ↦ f
  | inl f ↦ absurd (false≢true (sym (before-self a) ∙ subst (λ z. goes_before a z ≡ true) (same-is b a f) e))
]

-- ---- a list of heads

pub in-each : (P : Head → Type 0) (h : Head) (xs : List Head) → AllByRecursion P xs → is_in h xs ≡ true → P h
in-each P h [] a e = absurd (false≢true e)
in-each P h (x ∷ xs) a e = elim (cases_Bool (same x h)) [
  | inl f ↦ subst P (same-is x h f) a.0
  | inr f ↦ in-each P h xs a.1 (sym (ap (λ b. b || is_in h xs) f) ∙ e)
]

-- a head that is in a list and isn't behind its first one is that one
first-is : (h x : Head) (xs : List Head)
    → IsFalling (x ∷ xs) → is_in h (x ∷ xs) ≡ true → goes_before h x ≡ false → x ≡ h
first-is h x xs o e f = elim (cases_Bool (same x h)) [
  | inl g ↦ same-is x h g
  | inr g ↦ absurd (false≢true (sym f
      ∙ in-each (λ y. goes_before y x ≡ true) h xs o.0 (sym (ap (λ b. b || is_in h xs) g) ∙ e)))
]

rest-has : (h x : Head) (xs : List Head) → is_in h (x ∷ xs) ≡ true → goes_before h x ≡ true → is_in h xs ≡ true
rest-has h x xs e f = sym (ap (λ b. b || is_in h xs) (before-differs h x f)) ∙ e

each-at : (P : Head → Type 0) (xs : List Head) (j : ℕ) (d : Head) → AllByRecursion P xs → j < length xs → P (get_or xs j d)
each-at P [] j d a low = absurd (omega (arith, low))
each-at P (x ∷ xs) zero d a low = a.0
each-at P (x ∷ xs) (suc j) d a low = each-at P xs j d a.1 (omega (arith, low))

-- ---- the place of a head

pub place-parted : (h : Head) (xs : List Head) → IsFalling xs → (i j : ℕ) (d : Head) → i ≤ j → j < length xs
    → goes_before h (get_or xs j d) ≡ true → goes_before h (get_or xs i d) ≡ true
place-parted h [] o i j d le low e = absurd (omega (arith, low))
place-parted h (x ∷ xs) o zero zero d le low e = e
place-parted h (x ∷ xs) o zero (suc j) d le low e =
    before-trans h (get_or xs j d) x e (each-at (λ y. goes_before y x ≡ true) xs j d o.0 (omega (arith, low)))
place-parted h (x ∷ xs) o (suc i) zero d le low e = absurd (omega (arith, le))
place-parted h (x ∷ xs) o (suc i) (suc j) d le low e =
    place-parted h xs o.1 i j d (omega (arith, le)) (omega (arith, low)) e

pub place-point : (h : Head) (xs : List Head) (i : ℕ)
    → i ≤ length xs → AllWithin (λ x. goes_before h x ≡ true) xs 0 i
    → AllWithin (λ x. goes_before h x ≡ false) xs i (length xs) → i ≡ place h xs
place-point h [] i le first last = omega (arith, le)
place-point h (x ∷ xs) zero le first last =
    (let e : goes_before h x ≡ false = last 0 x (omega arith) (omega arith) in rw e refl)
place-point h (x ∷ xs) (suc i) le first last =
    let e : goes_before h x ≡ true = first 0 x (omega arith) (omega arith) in
    rw e (ap suc (place-point h xs i (omega (arith, le)) (λ j d lo hi. first (suc j) d
    (omega (arith, lo)) (omega (arith, hi))) (λ j d lo hi. last (suc j) d (omega (arith, lo)) (omega (arith, hi)))))

pub place-low : (h : Head) (xs : List Head) → IsFalling xs → is_in h xs ≡ true → place h xs < length xs
place-low h [] o e = absurd (false≢true e)
place-low h (x ∷ xs) o e = elim (cases_Bool (goes_before h x)) [
  | inl f ↦ (let again = place-low h xs o.1 (rest-has h x xs e f) in rw f (omega (arith, again)))
  | inr f ↦ rw f (omega arith)
]

-- ---- one more head

abbrev pub put : Head → List Head → List Head
put h [] = h ∷ []
put h (x ∷ xs) = cond (goes_before h x) (x ∷ put h xs) (h ∷ (x ∷ xs))

pub put-at : (h : Head) (xs : List Head) (i : ℕ) → i ≡ place h xs → take i xs ++ h ∷ drop i xs ≡ put h xs
put-at h xs i e = ap (λ j. take j xs ++ h ∷ drop j xs) e ∙ go xs
  where
    go : (ys : List Head) → take (place h ys) ys ++ h ∷ drop (place h ys) ys ≡ put h ys
    go [] = refl
    go (y ∷ ys) = elim (cases_Bool (goes_before h y)) [
      | inl f ↦ rw f (ap (λ z. y ∷ z) (go ys))
      | inr f ↦ rw f refl
    ]

pub put-in : (h k : Head) (xs : List Head) → is_in k (put h xs) ≡ (same h k || is_in k xs)
put-in h k [] = refl
put-in h k (x ∷ xs) = elim (cases_Bool (goes_before h x)) [
  | inl f ↦ rw f (ap (λ b. same x k || b) (put-in h k xs) ∙ turn (same x k) (same h k) (is_in k xs))
  | inr f ↦ rw f refl
]
  where
    turn : (a b c : Bool) → (a || (b || c)) ≡ (b || (a || c))
    turn true true c = refl
    turn true false c = refl
    turn false b c = refl

each-put : (P : Head → Type 0) (h : Head) (xs : List Head) → P h → AllByRecursion P xs → AllByRecursion P (put h xs)
each-put P h [] e a = (e, tt)
each-put P h (y ∷ ys) e a =
    let again = each-put P h ys e a.1 in
    cond_both (goes_before h y)
    (y ∷ put h ys) (h ∷ (y ∷ ys)) (AllByRecursion P) (λ _. (a.0, again)) (λ _. (e, a))

each-before : (h x : Head) (xs : List Head) → goes_before x h ≡ true
    → AllByRecursion (λ y. goes_before y x ≡ true) xs → AllByRecursion (λ y. goes_before y h ≡ true) xs
each-before h x [] e a = tt
each-before h x (y ∷ ys) e a = (before-trans y x h a.0 e, each-before h x ys e a.1)

pub falling-put : (h : Head) (xs : List Head) → IsFalling xs → is_in h xs ≡ false → IsFalling (put h xs)
falling-put h [] o e = (tt, tt)
falling-put h (x ∷ xs) o e =
    let p = or_parts (same x h) (is_in h xs) e in
    let again = falling-put h xs o.1 p.1 in
    cond_both (goes_before h x) (x ∷ put h xs) (h ∷ (x ∷ xs)) IsFalling
    (λ f. (each-put (λ y. goes_before y x ≡ true) h xs f o.0, again))
    (λ f. (let g = before-other h x f p.0 in ((g, each-before h x xs g o.0), o)))

-- ---- one head less

abbrev pub cut : Head → List Head → List Head
cut h [] = []
cut h (x ∷ xs) = cond (goes_before h x) (x ∷ cut h xs) xs

pub cut-at : (h : Head) (xs : List Head) (i : ℕ) → i ≡ place h xs → take i xs ++ drop (suc i) xs ≡ cut h xs
cut-at h xs i e = ap (λ j. take j xs ++ drop (suc j) xs) e ∙ go xs
  where
    go : (ys : List Head) → take (place h ys) ys ++ drop (suc (place h ys)) ys ≡ cut h ys
    go [] = refl
    go (y ∷ ys) = elim (cases_Bool (goes_before h y)) [
      | inl f ↦ rw f (ap (λ z. y ∷ z) (go ys))
      | inr f ↦ rw f refl
    ]

-- a head behind the first one, or that one itself, isn't among the others
first-alone : (h : Head) (xs : List Head) → AllByRecursion (λ y. goes_before y h ≡ true) xs → is_in h xs ≡ false
first-alone h xs a = elim (cases_Bool (is_in h xs)) [
  | inr f ↦ f
  | inl f ↦ absurd (false≢true (sym (before-self h) ∙ in-each (λ y. goes_before y h ≡ true) h xs a f))
]

pub cut-in : (h k : Head) (xs : List Head) → IsFalling xs → is_in h xs ≡ true
    → is_in k (cut h xs) ≡ (not (same h k) && is_in k xs)
cut-in h k [] o e = absurd (false≢true e)
cut-in h k (x ∷ xs) o e = elim (cases_Bool (goes_before h x)) [
  | inl f ↦
      rw f (ap (λ b. same x k || b) (cut-in h k xs o.1 (rest-has h x xs e f))
      ∙ kept (same x k) (same h k) (is_in k xs) (λ p. other p f))
  | inr f ↦
      let g : x ≡ h = first-is h x xs o e f in
      rw f (gone (same h k) (same x k) (is_in k xs) (ap (λ z. same z k) (sym g))
      (λ p. subst (λ z. is_in z xs ≡ false) (g ∙ same-is h k p) (first-alone x xs o.0)))
]
  where
    other : same x k ≡ true → goes_before h x ≡ true → same h k ≡ false
    other p f = elim (cases_Bool (same h k)) [
      | inr q ↦ q
      | inl q ↦ absurd (false≢true (sym (before-self h)
          ∙ subst (λ z. goes_before h z ≡ true) (same-is x k p ∙ sym (same-is h k q)) f))
    ]

    kept : (a b c : Bool) → (a ≡ true → b ≡ false) → (a || (not b && c)) ≡ (not b && (a || c))
    kept true b c h = rw (h refl) refl
    kept false b c h = refl

    gone : (b a c : Bool) → b ≡ a → (b ≡ true → c ≡ false) → c ≡ (not b && (a || c))
    gone true a c e h = h refl
    gone false a c e h = ap (λ z. z || c) e

each-cut : (P : Head → Type 0) (h : Head) (xs : List Head) → AllByRecursion P xs → AllByRecursion P (cut h xs)
each-cut P h [] a = tt
each-cut P h (y ∷ ys) a =
    let again = each-cut P h ys a.1 in
    cond_both (goes_before h y) (y ∷ cut h ys) ys (AllByRecursion P) (λ _. (a.0, again)) (λ _. a.1)

pub falling-cut : (h : Head) (xs : List Head) → IsFalling xs → IsFalling (cut h xs)
falling-cut h [] o = tt
falling-cut h (x ∷ xs) o =
    let again = falling-cut h xs o.1 in
    cond_both (goes_before h x) (x ∷ cut h xs) xs IsFalling
    (λ f. (each-cut (λ y. goes_before y x ≡ true) h xs o.0, again)) (λ f. o.1)

-- what an insertion leaves that had the room for it
pub inserted : {E : Type 0} (r : Result (Unit {0}) E) (now new old : List Head)
    → now ≡ (if is_ok r then new else old) → IsOk r → now ≡ new
inserted (Ok u) now new old e is = e
inserted (Err e) now new old f is = absurd (cc is)

-- ---- the last head of a list is taken before the others

pub last-of : (xs : List Head) (h d : Head) → 0 < length xs → h ≡ get_or xs (length xs - 1) d → IsFalling xs
    → (is_in h xs ≡ true) × ((k : Head) → is_in k xs ≡ true → goes_before k h ≡ false)
last-of [] h d some e o = absurd (omega (arith, some))
last-of (x ∷ []) h d some e o = (rw e (ap (λ b. b || false) (same-self x)), only)
  where
    only : (k : Head) → is_in k (x ∷ []) ≡ true → goes_before k h ≡ false
    only k f = elim (cases_Bool (same x k)) [
      | inl g ↦ ap₂ goes_before (sym (same-is x k g)) e ∙ before-self x
      | inr g ↦ absurd (false≢true (sym (ap (λ b. b || false) g) ∙ f))
    ]
last-of (x ∷ y ∷ ys) h d some e o =
    let at : length (x ∷ y ∷ ys) - 1 ≡ suc (length (y ∷ ys) - 1) = omega arith in
    let again = last-of (y ∷ ys) h d (omega arith) (e ∙ ap (λ i. get_or (x ∷ y ∷ ys) i d) at) o.1 in (
      or_true (same x h) again.0,
      λ k f. elim (cases_Bool (same x k)) [
        | inl g ↦ ap (λ z. goes_before z h) (sym (same-is x k g))
            ∙ before-asym h x (in-each (λ z. goes_before z x ≡ true) h (y ∷ ys) o.0 again.0)
        | inr g ↦ again.1 k (sym (ap (λ b. b || is_in k (y ∷ ys)) g) ∙ f)
      ],
    )
  where
    or_true : (a : Bool) {b : Bool} → b ≡ true → (a || b) ≡ true
    or_true true e = refl
    or_true false e = e

-- ---- lists that aren't empty

pub first-in : (xs : List Head) → 0 < length xs → (k : Head) × (is_in k xs ≡ true)
first-in [] some = absurd (omega (arith, some))
first-in (x ∷ xs) some = (x, ap (λ b. b || is_in x xs) (same-self x))

pub put-some : (h : Head) (xs : List Head) → 0 < length (put h xs)
put-some h [] = omega arith
put-some h (x ∷ xs) =
    cond_both (goes_before h x) (x ∷ put h xs) (h ∷ (x ∷ xs)) (λ z. 0 < length z) (λ f. omega arith) (λ f. omega arith)

pub cut-some : (h : Head) (xs : List Head) → is_in h xs ≡ true → (length xs == 1) ≡ false → 0 < length (cut h xs)
cut-some h [] e more = absurd (false≢true e)
cut-some h (x ∷ []) e more = absurd (grind (arith, nat_tests, more))
cut-some h (x ∷ (y ∷ ys)) e more =
    cond_both (goes_before h x) (x ∷ cut h (y ∷ ys)) (y ∷ ys) (λ z. 0 < length z)
    (λ f. omega arith) (λ f. omega arith)

-- where one head stands alone, without it there is none
pub lone : (h k : Head) (xs : List Head) → (length xs == 1) ≡ true → is_in h xs ≡ true
    → false ≡ (not (same h k) && is_in k xs)
lone h k [] one e = absurd (false≢true e)
lone h k (x ∷ []) one e = elim (cases_Bool (same x h)) [
  | inl g ↦ sym (ap (λ z. not (same h k) && (same z k || false)) (same-is x h g) ∙ none (same h k))
  | inr g ↦ absurd (false≢true (sym (ap (λ b. b || false) g) ∙ e))
]
  where
    none : (b : Bool) → (not b && (b || false)) ≡ false
    none true = refl
    none false = refl
lone h k (x ∷ (y ∷ ys)) one e = absurd (grind (arith, nat_tests, one))
