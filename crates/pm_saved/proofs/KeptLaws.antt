-- The laws of kept steps.
use Rattle.std.proofs.Common.{◌≡◌, refl, sym, ap, ◌∙◌, inl, inr, Bool, true, false, List, [], ◌∷◌, ◌++◌, append_assoc}
use Rattle.std.proofs.Common.{Option, Some, None, IfSome}
use Rattle.std.proofs.lemmas.Bool.{cases_Bool}
use Rattle.pm_base.specs.Stamps.{is_below, num_eq}
use Rattle.pm_base.specs.declared.rows.Entry.{Entry}
use Rattle.pm_base.specs.declared.stamp.Line.{Line}
use Rattle.pm_base.specs.declared.stamp.Num.{Num}
use Rattle.pm_saved.specs.Laws.{AreHandedOut, StandsAt}
use Rattle.pm_saved.specs.Spots.{InStep, Spot, find, find_sense, in_front, spot_in}
use Rattle.pm_saved.specs.Steps.{act_cuts, hand_one, hand_out, keep_one, left_of, withdrawn}
use Rattle.pm_saved.specs.declared.kept.KeptAct.{KeptAct}
use Rattle.pm_saved.specs.declared.kept.KeptSense.{KeptSense}
use Rattle.pm_saved.specs.declared.kept.KeptStep.{KeptStep}
use Rattle.pm_saved.proofs.Numbers.{num_eq-same}

pub withdrawn-append : (xs ys : List KeptStep) → withdrawn (xs ++ ys) ≡ withdrawn xs ++ withdrawn ys
withdrawn-append [] ys = refl
withdrawn-append (x ∷ xs) ys =
    ap (λ z. act_cuts x.stamp x.act ++ z) (withdrawn-append xs ys)
    ∙ sym (append_assoc (act_cuts x.stamp x.act) (withdrawn xs) (withdrawn ys))

-- the senses before and after a place in a step
pub record StandsIn (n : Num) (senses : List KeptSense) (i : InStep) : Type 0 where
  pub senses_are : senses ≡ i.before ++ i.sense ∷ i.later
  pub num_is : i.sense.num ≡ n

in_front_stands : (n : Num) (x : KeptSense) (xs : List KeptSense) (o : Option InStep) → IfSome o (StandsIn n xs)
    → IfSome (in_front x o) (StandsIn n (x ∷ xs))
in_front_stands n x xs None h = h
in_front_stands n x xs (Some i) h = record { senses_are = ap (λ z. x ∷ z) h.senses_are; num_is = h.num_is }

pub find_sense-stands : (n : Num) (xs : List KeptSense) → IfSome (find_sense n xs) (StandsIn n xs)
find_sense-stands n [] = search
find_sense-stands n (x ∷ xs) = elim (cases_Bool (num_eq n x.num)) [
  | inl e ↦ rw e (record { senses_are = refl; num_is = sym (num_eq-same n x.num e) })
  | inr e ↦ rw e (in_front_stands n x xs (find_sense n xs) (find_sense-stands n xs))
]

spot_stands : (n : Num) (x : KeptStep) (xs : List KeptStep) (i : Option InStep) (o : Option Spot)
    → IfSome i (StandsIn n x.senses) → IfSome o (StandsAt n xs) → IfSome (spot_in x xs i o) (StandsAt n (x ∷ xs))
spot_stands n x xs (Some i) o h k = record { steps_are = refl; senses_are = h.senses_are; num_is = h.num_is }
spot_stands n x xs None None h k = k
spot_stands n x xs None (Some s) h k = record {
  steps_are = ap
      (λ z. x ∷ z) k.steps_are;
  senses_are = k.senses_are;
  num_is = k.num_is;
}

pub find-stands : (n : Num) (xs : List KeptStep) → IfSome (find n xs) (StandsAt n xs)
find-stands n [] = search
find-stands n (x ∷ xs) = spot_stands n x xs (find_sense n x.senses) (find n xs) (find_sense-stands n x.senses)
    (find-stands n xs)

-- the steps whose entries a line hands out
abbrev pub given_by : Bool → KeptStep → Option KeptAct → List KeptStep → List KeptStep
given_by past s None rest = []
given_by false s (Some a) rest = []
given_by true s (Some a) rest = s ∷ rest

abbrev pub given_of : Line → List KeptStep → List KeptStep
given_of l [] = []
given_of l (s ∷ ss) = given_by (is_below s.stamp l) s s.act (given_of l ss)

one_divides : (l : Line) (s : KeptStep) (ss given : List KeptStep) (es : List Entry) (b : Bool)
    (o : Option KeptAct) → is_below s.stamp l ≡ b → s.act ≡ o
    → ss ≡ given ++ left_of l ss → AreHandedOut l given es
    → (s ∷ ss ≡ given_by b s o given ++ keep_one b s o ss (left_of l ss)) × AreHandedOut l (given_by b s o given)
    (hand_one b s o es)
one_divides l s ss given es b None p q e h = (refl, tt)
one_divides l s ss given es false (Some a) p q e h = (refl, tt)
one_divides l s ss given es true (Some a) p q e h =
    (ap (λ z. s ∷ z) e, (record { below = p; act = a; acted = q; entry_is = refl }, h))

pub line-divides : (l : Line) (steps : List KeptStep)
    → (steps ≡ given_of l steps ++ left_of l steps) × AreHandedOut l (given_of l steps) (hand_out l steps)
line-divides l [] = (refl, tt)
line-divides l (s ∷ ss) =
    let h = line-divides l ss in
    one_divides l s ss (given_of l ss) (hand_out l ss) (is_below s.stamp l) s.act refl refl h.0 h.1
