-- The place of a number among the kept steps.
use Rattle.pm_base.specs.Changes.{value_eq}
use Rattle.pm_base.specs.Stamps.{num_eq}
use Rattle.pm_saved.specs.Senses.{hits_eq}
use Rattle.pm_saved.specs.Spots.{InStep, Spot, find, find_sense, in_front, spot_in}
use Rattle.pm_saved.specs.declared.kept.KeptStep.{KeptStep}
use Rattle.pm_saved.specs.declared.kept.KeptSense.{KeptSense}
use Rattle.std.proofs.Common.{◌≡◌, ℕ, ◌+◌, ◌≤◌, inl, inr, ◌==◌, true, false, ◌&&◌, List, [], ◌∷◌, ◌++◌, map, refl, arith, ap, sym, ◌∙◌, subst, ap₂, Option, Some, None}
use Rattle.std.proofs.lemmas.Bool.{cases_Bool, and_parts}
use Rattle.std.proofs.lemmas.Bool.Decides.{nat_tests}
use Rattle.std.proofs.lemmas.List.{map-append}
use Rattle.pm_base.specs.declared.stamp.Num.{Num}
use Rattle.pm_base.specs.declared.value.Hit.{Hit}
use Rattle.pm_sim.specs.Sims.{In, Rises, sense_nums}
use Rattle.pm_sim.proofs.Lists.{in_left, in_right}
use Rattle.pm_sim.proofs.Tellings.{value_same}

abbrev pub NotIn : Num → List KeptSense → Type 0
NotIn n xs = (x : KeptSense) → In x xs → num_eq n x.num ≡ false

abbrev pub SenseIs : Num → List KeptSense → Option InStep → Type 0
SenseIs n xs None = NotIn n xs
SenseIs n xs (Some i) = (xs ≡ i.before ++ i.sense ∷ i.later) × (num_eq n i.sense.num ≡ true) × NotIn n i.before

front_sense : (n : Num) (x : KeptSense) (xs : List KeptSense) (o : Option InStep)
    → num_eq n x.num ≡ false → SenseIs n xs o → SenseIs n (x ∷ xs) (in_front x o)
front_sense n x xs None e h = λ y i. elim i [ inl f ↦ ap (λ (z : KeptSense). num_eq n z.num) f ∙ e | inr j ↦ h y j ]
front_sense n x xs (Some s) e h =
    (ap (λ z. x ∷ z) h.0, h.1, λ y i. elim i [ inl f ↦ ap (λ (z : KeptSense). num_eq n z.num) f ∙ e | inr j ↦ h.2 y j ])

pub sense_is : (n : Num) (xs : List KeptSense) → SenseIs n xs (find_sense n xs)
sense_is n [] = λ x i. absurd i
sense_is n (x ∷ xs) = elim (cases_Bool (num_eq n x.num)) [
  | inl e ↦ rw e (refl, e, λ y i. absurd i)
  | inr e ↦ rw e (front_sense n x xs (find_sense n xs) e (sense_is n xs))
]

pub record Found (n : Num) (ss : List KeptStep) (s : Spot) : Type 0 where
  pub steps : ss ≡ s.front ++ s.here ∷ s.rest
  pub senses : s.here.senses ≡ s.before ++ s.sense ∷ s.later
  pub num : num_eq n s.sense.num ≡ true
  pub before : NotIn n s.before
  pub front : (z : KeptStep) → In z s.front → NotIn n z.senses

abbrev pub FindIs : Num → List KeptStep → Option Spot → Type 0
FindIs n ss None = (z : KeptStep) → In z ss → NotIn n z.senses
FindIs n ss (Some s) = Found n ss s

spot_is : (n : Num) (x : KeptStep) (xs : List KeptStep) (o : Option InStep) (other : Option Spot)
    → SenseIs n x.senses o → FindIs n xs other → FindIs n (x ∷ xs) (spot_in x xs o other)
spot_is n x xs (Some i) other h k =
    record { steps = refl; senses = h.0; num = h.1; before = h.2; front = λ z j. absurd j }
spot_is n x xs None None h k =
    λ z j. elim j [ inl e ↦ subst (λ (y : KeptStep). NotIn n y.senses) (sym e) h | inr c ↦ k z c ]
spot_is n x xs None (Some s) h k = record {
  steps = ap (λ z. x ∷ z) k.steps;
  senses = k.senses;
  num = k.num;
  before = k.before;
  front = λ z j. elim j [ inl e ↦ subst (λ (y : KeptStep). NotIn n y.senses) (sym e) h | inr c ↦ k.front z c ];
}

pub find_is : (n : Num) (ss : List KeptStep) → FindIs n ss (find n ss)
find_is n [] = λ z j. absurd j
find_is n (x ∷ xs) = spot_is n x xs (find_sense n x.senses) (find n xs) (sense_is n x.senses) (find_is n xs)

-- numbers that rise are not met twice
rises_late : (lo : ℕ) (xs : List Num) (x : Num) → Rises lo xs → In x xs → lo ≤ x.seq
rises_late lo [] x r i = absurd i
rises_late lo (y ∷ ys) x r (inl e) = subst (λ (z : Num). lo ≤ z.seq) (sym e) r.0
rises_late lo (y ∷ ys) x r (inr i) = (let a = rises_late (y.seq + 1) ys x r.1 i in let b = r.0 in omega arith)

abbrev pub all_senses : List KeptStep → List KeptSense
all_senses [] = []
all_senses (s ∷ ss) = s.senses ++ all_senses ss

nums_of_senses : (ss : List KeptStep) → sense_nums ss ≡ map (λ (x : KeptSense). x.num) (all_senses ss)
nums_of_senses [] = refl
nums_of_senses (s ∷ ss) = ap (λ z. map (λ (x : KeptSense). x.num) s.senses ++ z) (nums_of_senses ss)
    ∙ sym (map-append (λ (x : KeptSense). x.num) s.senses (all_senses ss))

in_all : (ss : List KeptStep) (s : KeptStep) (x : KeptSense) → In s ss → In x s.senses → In x (all_senses ss)
in_all [] s x i j = absurd i
in_all (y ∷ ss) s x (inl e) j = in_left y.senses (all_senses ss) x (subst (λ (z : KeptStep). In x z.senses) e j)
in_all (y ∷ ss) s x (inr i) j = in_right y.senses (all_senses ss) x (in_all ss s x i j)

in_map : (xs : List KeptSense) (x : KeptSense) → In x xs → In x.num (map (λ (y : KeptSense). y.num) xs)
in_map [] x i = absurd i
in_map (y ∷ ys) x (inl e) = inl (ap (λ (z : KeptSense). z.num) e)
in_map (y ∷ ys) x (inr i) = inr (in_map ys x i)

one_sense : (lo : ℕ) (xs : List KeptSense) (x y : KeptSense)
    → Rises lo (map (λ (z : KeptSense). z.num) xs) → In x xs → In y xs → x.num ≡ y.num → x ≡ y
one_sense lo [] x y r i j e = absurd i
one_sense lo (z ∷ zs) x y r (inl f) (inl g) e = f ∙ sym g
one_sense lo (z ∷ zs) x y r (inl f) (inr j) e =
    absurd (let a = rises_late (z.num.seq + 1) _ y.num r.1 (in_map zs y j) in let b =
    ap (λ (w : Num). w.seq) (sym (ap (λ (w : KeptSense). w.num) f) ∙ e) in omega arith)
one_sense lo (z ∷ zs) x y r (inr i) (inl g) e =
    absurd (let a = rises_late (z.num.seq + 1) _ x.num r.1 (in_map zs x i) in let b =
    ap (λ (w : Num). w.seq) (sym (ap (λ (w : KeptSense). w.num) g) ∙ sym e) in omega arith)
one_sense lo (z ∷ zs) x y r (inr i) (inr j) e = one_sense (z.num.seq + 1) zs x y r.1 i j e

pub sense_one : (lo : ℕ) (ss : List KeptStep) (s u : KeptStep) (x y : KeptSense)
    → Rises lo (sense_nums ss) → In s ss → In x s.senses → In u ss → In y u.senses → x.num ≡ y.num → x ≡ y
sense_one lo ss s u x y r i j k h e =
    one_sense lo (all_senses ss) x y (subst (Rises lo) (nums_of_senses ss) r) (in_all ss s x i j) (in_all ss u y k h) e

pub hits_same : (xs ys : List Hit) → hits_eq xs ys ≡ true → xs ≡ ys
hits_same [] [] e = refl
hits_same [] (y ∷ ys) e = absurd (cc)
hits_same (x ∷ xs) [] e = absurd (cc)
hits_same (x ∷ xs) (y ∷ ys) e =
    let a = and_parts (x.var == y.var && value_eq x.value y.value) (hits_eq xs ys) e in
    let b = and_parts (x.var == y.var) (value_eq x.value y.value) a.0 in
    let v : x.var ≡ y.var = (let f = b.0 in grind (arith, nat_tests, f)) in
    let w = value_same x.value y.value b.1 in
    ap₂ (λ z zs. z ∷ zs) (λ i. record { var = v i; value = w i }) (hits_same xs ys a.1)
