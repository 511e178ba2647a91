-- Of the first messages of all links the one that is taken first.
use Rattle.std.proofs.Common.{◌≡◌, inl, inr, Bool, true, false, not, ◌&&◌, ◌||◌, List, [], ◌∷◌, ◌++◌, refl, arith, sym, subst, Option, Some, None}
use Rattle.std.proofs.lemmas.Bool.{cases_Bool}
use Rattle.std.proofs.lemmas.Bool.Decides.{nat_tests}
use Rattle.pm_base.specs.Stamps.{stamp_lt}
use Rattle.pm_message.specs.Messages.{stamp_of}
use Rattle.pm_message.specs.declared.Message.{Message}
use Rattle.pm_plan.specs.declared.plan.Plan.{Plan}
use Rattle.pm_sim.specs.Routings.{mail_to}
use Rattle.pm_sim.specs.Sims.{In}
use Rattle.pm_sim.specs.Worlds.{Link, Mail, Process, number}
use Rattle.pm_calm.specs.Lowest.{head_of, is_moving, link_before, lower, lower_of, lowest_in, moves_before}

-- the test with the two answers whether they move
abbrev Before : Plan → Mail → Mail → Bool → Bool → Bool
Before p x y i j =
    stamp_lt (stamp_of x.message) (stamp_of y.message)
    || (not (stamp_lt (stamp_of y.message) (stamp_of x.message))
    && moves_before i j (link_before (number p x.to) (number p x.from) (number p y.to) (number p y.from)))

pub lower_not : (p : Plan) (x y z : Mail) → lower p x y ≡ false → lower p y z ≡ false → lower p x z ≡ false
lower_not p x y z a b = go (is_moving x.message) (is_moving y.message) (is_moving z.message) a b
  where
    go : (i j k : Bool) → Before p x y i j ≡ false → Before p y z j k ≡ false → Before p x z i k ≡ false
    go true true true f g = grind (arith, nat_tests, f, g)
    go true true false f g = grind (arith, nat_tests, f, g)
    go true false true f g = grind (arith, nat_tests, f, g)
    go true false false f g = grind (arith, nat_tests, f, g)
    go false true true f g = grind (arith, nat_tests, f, g)
    go false true false f g = grind (arith, nat_tests, f, g)
    go false false true f g = grind (arith, nat_tests, f, g)
    go false false false f g = grind (arith, nat_tests, f, g)

pub lower_self : (p : Plan) (x : Mail) → lower p x x ≡ false
lower_self p x = go (is_moving x.message)
  where
    go : (i : Bool) → Before p x x i i ≡ false
    go true = grind (arith, nat_tests)
    go false = grind (arith, nat_tests)

-- what is taken before another isn't taken after it
lower_flip : (p : Plan) (x y : Mail) → lower p y x ≡ true → lower p x y ≡ false
lower_flip p x y a = go (is_moving x.message) (is_moving y.message) a
  where
    go : (i j : Bool) → Before p y x j i ≡ true → Before p x y i j ≡ false
    go true true f = grind (arith, nat_tests, f)
    go true false f = grind (arith, nat_tests, f)
    go false true f = grind (arith, nat_tests, f)
    go false false f = grind (arith, nat_tests, f)

-- of two of which neither is taken before the other, the links are the same
pub same_link : (p : Plan) (x y : Mail) → lower p x y ≡ false → lower p y x ≡ false
    → (number p x.to ≡ number p y.to) × (number p x.from ≡ number p y.from)
same_link p x y a b = go (is_moving x.message) (is_moving y.message) a b
  where
    go : (i j : Bool) → Before p x y i j ≡ false → Before p y x j i ≡ false
        → (number p x.to ≡ number p y.to) × (number p x.from ≡ number p y.from)
    go true true f g = (grind (arith, nat_tests, f, g), grind (arith, nat_tests, f, g))
    go true false f g = (grind (arith, nat_tests, f, g), grind (arith, nat_tests, f, g))
    go false true f g = (grind (arith, nat_tests, f, g), grind (arith, nat_tests, f, g))
    go false false f g = (grind (arith, nat_tests, f, g), grind (arith, nat_tests, f, g))

-- the first messages
abbrev pub first_in : Process → Process → List Message → List Mail
first_in to from [] = []
first_in to from (m ∷ ms) = mail_to to from m ∷ []

abbrev pub heads : List Link → List Mail
heads [] = []
heads (l ∷ ls) = first_in l.to l.from l.messages ++ heads ls

-- none of these is taken before x, which is one of them
pub record IsLowest (p : Plan) (hs : List Mail) (x : Mail) : Type 0 where
  pub there : In x hs
  pub least : (y : Mail) → In y hs → lower p y x ≡ false

abbrev pub LowestIs : Plan → List Mail → Option Mail → Type 0
LowestIs p hs None = hs ≡ []
LowestIs p hs (Some x) = IsLowest p hs x

lower_is : (p : Plan) (to from : Process) (ms : List Message) (hs : List Mail) (o : Option Mail)
    → LowestIs p hs o → LowestIs p (first_in to from ms ++ hs) (lower_of p (head_of to from ms) o)
lower_is p to from [] hs None h = h
lower_is p to from [] hs (Some y) h = h
lower_is p to from (m ∷ ms) hs None h = record {
  there = inl refl;
  least = λ y i. elim i [
    | inl e ↦ subst (λ z. lower p z (mail_to to from m) ≡ false) (sym e) (lower_self p (mail_to to from m))
    | inr j ↦ absurd (subst (In y) h j)
  ];
}
lower_is p to from (m ∷ ms) hs (Some y) h = elim (cases_Bool (lower p y (mail_to to from m))) [
  | inl e ↦ rw e (record {
    there = inr h.there;
    least = λ z i. elim i [
      | inl f ↦ subst (λ k. lower p k y ≡ false) (sym f) (lower_flip p (mail_to to from m) y e)
      | inr j ↦ h.least z j
    ];
  })
  | inr e ↦ rw e (record {
    there = inl refl;
    least = λ z i. elim i [
      | inl f ↦ subst (λ k. lower p k (mail_to to from m) ≡ false) (sym f) (lower_self p (mail_to to from m))
      | inr j ↦ lower_not p z y (mail_to to from m) (h.least z j) e
    ];
  })
]

pub lowest_is : (p : Plan) (ls : List Link) → LowestIs p (heads ls) (lowest_in p ls)
lowest_is p [] = refl
lowest_is p (l ∷ ls) = lower_is p l.to l.from l.messages (heads ls) (lowest_in p ls) (lowest_is p ls)

pub some_lowest : (p : Plan) (ls : List Link) (x : Mail) → lowest_in p ls ≡ Some x → IsLowest p (heads ls) x
some_lowest p ls x e = subst (LowestIs p (heads ls)) e (lowest_is p ls)
