-- The entries below a line come first in the run.
use Rattle.std.proofs.Common.{◌≡◌, ◌++◌, ◌<◌, ◌^◌, length, List, [], ◌∷◌, Bool, true, false, refl, sym, ap, ◌∙◌, arith, cond}
use Rattle.std.specs.List.{AllByRecursion, filter}
use Rattle.std.proofs.lemmas.Bool.{false≢true}
use Rattle.std.proofs.lemmas.Bool.Decides.{nat_tests}
use Rattle.pm_base.specs.Stamps.{is_below, stamp_lt, IsBefore}
use Rattle.pm_base.specs.declared.rows.Entry.{Entry}
use Rattle.pm_base.specs.declared.stamp.Line.{Line}
use Rattle.pm_base.specs.declared.stamp.Line.TheVariants as line
use Rattle.pm_base.specs.declared.stamp.Stamp.{Stamp}
use Rattle.pm_plan.specs.declared.plan.Plan.{Plan}
use Rattle.pm_plan.specs.Limits.{IsWithinLimits}
use Rattle.pm_model.proofs.Rises.{before-test, turns-rise, turns-of-plan, turns-few}
use Rattle.pm_model.proofs.Starts.{starts-timely, starts-small}
use Rattle.pm_model.specs.Entries.{IsCutAt, IsInOrder, IsOfPlan, run_below}
use Rattle.pm_model.specs.Runs.{rest, sequential_run, sequential_start, work}

-- what comes after a stamp that is not below a line is not below it
not-below : (a b : Stamp) (l : Line) → stamp_lt a b ≡ true → is_below a l ≡ false → is_below b l ≡ false
not-below a b (line.At t) h n = grind (arith, nat_tests, h, n)
not-below a b line.End h n = absurd (false≢true (sym n))

all-not-below : (a : Stamp) (es : List Entry) (l : Line) → is_below a l ≡ false → AllByRecursion (λ (e : Entry). IsBefore a e.stamp) es
    → AllByRecursion (λ (e : Entry). is_below e.stamp l ≡ false) es
all-not-below a [] l n all = tt
all-not-below a (e ∷ es) l n all = (not-below a e.stamp l (before-test a e.stamp all.0) n, all-not-below a es l n all.1)

none-below : (es : List Entry) (l : Line) → AllByRecursion (λ (e : Entry). is_below e.stamp l ≡ false) es → filter (λ (e : Entry). is_below e.stamp l) es ≡ []
none-below [] l all = refl
none-below (e ∷ es) l all =
    ap (λ b. cond b (e ∷ filter (λ (e : Entry). is_below e.stamp l) es) (filter (λ (e : Entry). is_below e.stamp l) es)) all.0 ∙ none-below es l all.1

-- the part of a list that is below a line, and what follows it
record Split (es : List Entry) (l : Line) : Type 0 where
  left : List Entry
  parts : es ≡ filter (λ (e : Entry). is_below e.stamp l) es ++ left
  later : AllByRecursion (λ (e : Entry). is_below e.stamp l ≡ false) left

split-at : (e : Entry) (es : List Entry) (l : Line) (b : Bool) → is_below e.stamp l ≡ b → AllByRecursion (λ (x : Entry). IsBefore e.stamp x.stamp) es
    → Split es l → Split (e ∷ es) l
split-at e es l true h all s = record {
  left = s.left;
  parts = ap (λ xs. e ∷ xs) s.parts ∙ sym (ap (λ b. cond b (e ∷ filter (λ (e : Entry). is_below e.stamp l) es) (filter (λ (e : Entry). is_below e.stamp l) es) ++ s.left) h);
  later = s.later;
}
split-at e es l false h all s =
    let later : AllByRecursion (λ (x : Entry). is_below x.stamp l ≡ false) (e ∷ es) = (h, all-not-below e.stamp es l h all) in record {
      left = e ∷ es;
      parts = sym (ap (λ xs. xs ++ e ∷ es) (none-below (e ∷ es) l later));
      later = later;
    }

split : (es : List Entry) (l : Line) → IsInOrder es → Split es l
split [] l up = record { left = []; parts = refl; later = tt }
split (e ∷ es) l up = split-at e es l (is_below e.stamp l) refl up.0 (split es l up.1)

pub run-rises : (plan : Plan) → IsWithinLimits plan → IsInOrder (sequential_run plan)
unfolding rest
run-rises plan h = turns-rise (work plan (sequential_start plan)) plan (sequential_start plan) (starts-timely plan h)

pub run-of-plan : (plan : Plan) → IsWithinLimits plan → AllByRecursion (IsOfPlan plan) (sequential_run plan)
unfolding rest
run-of-plan plan h = turns-of-plan (work plan (sequential_start plan)) plan (sequential_start plan) (starts-timely plan h)

pub run-short : (plan : Plan) → IsWithinLimits plan → length (sequential_run plan) < 2 ^ 64
unfolding rest
run-short plan h =
    let few = turns-few (work plan (sequential_start plan)) plan (sequential_start plan) in
    omega (arith, few, starts-small plan h)

pub run-cut : (plan : Plan) (l : Line) → IsWithinLimits plan → IsCutAt plan l
unfolding run_below
run-cut plan l h =
    let s = split (sequential_run plan) l (run-rises plan h) in
    record { left = s.left; parts = s.parts; later = s.later }
