-- What is noted of the steps that are left.
use Rattle.std.proofs.Common.{◌≡◌, refl, ap, sym, ◌∙◌, arith, ℕ, ◌<◌, List, [], ◌∷◌, ◌++◌, length}
use Rattle.pm_base.specs.declared.rows.Entry.{Entry}
use Rattle.pm_plan.specs.declared.plan.Plan.{Plan}
use Rattle.pm_place.specs.Accesses.{Access, accesses, accesses_in, from}
use Rattle.pm_place.specs.Tallies.{noted, noted_all}

noted-append : (xs ys : List Access) (rows : List (List ℕ)) → noted_all (xs ++ ys) rows ≡ noted_all ys (noted_all xs rows)
noted-append [] ys rows = refl
noted-append (x ∷ xs) ys rows = noted-append xs ys (noted x rows)

-- after one more step
pub count-more : (plan : Plan) (e : Entry) (all more : List Entry) (old new total : List (List ℕ)) → all ≡ e ∷ more → new ≡ noted_all (accesses plan e) old
    → noted_all (accesses_in plan all) old ≡ total → noted_all (accesses_in plan more) new ≡ total
count-more plan e all more old new total is grown h =
    ap (noted_all (accesses_in plan more)) grown
    ∙ sym (noted-append (accesses plan e) (accesses_in plan more) old)
    ∙ sym (ap (λ es. noted_all (accesses_in plan es) old) is) ∙ h

-- after the last step
pub count-done : (plan : Plan) (all : List Entry) (rows total : List (List ℕ)) → all ≡ [] → noted_all (accesses_in plan all) rows ≡ total → rows ≡ total
count-done plan all rows total none h = sym (ap (λ es. noted_all (accesses_in plan es) rows) none) ∙ h

-- a list that isn't empty
pub some-left : (es : List Entry) → ¬ (es ≡ []) → 0 < length es
some-left [] h = absurd (h refl)
some-left (e ∷ es) h = omega arith

-- the accesses of a step, in two parts
pub noted-both : (home : ℕ) (xs ys : List ℕ) (rows : List (List ℕ)) → noted_all (from home (xs ++ ys)) rows ≡ noted_all (from home ys) (noted_all (from home xs) rows)
noted-both home [] ys rows = refl
noted-both home (x ∷ xs) ys rows = noted-both home xs ys (noted (record { var = x; home = home }) rows)

pub ruleset noted_laws = (noted-both)
