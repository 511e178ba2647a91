-- What workers' turns make of the cells.
use Rattle.std.proofs.Common.{◌≡◌, ℕ, suc, ◌+◌, ◌≤◌, ◌⊎◌, inl, inr, Bool, false, true, List, [], ◌∷◌, length, refl, arith}
use Rattle.std.specs.Prelude.{All, Any, IsTrue, ◌↔◌}
use Rattle.std.specs.List.{fold}
use Rattle.std.proofs.lemmas.Bool.{cases_Bool}
use Rattle.pm_cell.specs.Helds.{Held, view_of, views}
use Rattle.pm_cell.specs.Stands.{AreIdle, AreSound, CellCame, CellIsIdle}
use Rattle.pm_cell.specs.Views.{told}
use Rattle.pm_ends.specs.Numbers.{Pairs}
use Rattle.pm_workers.specs.Epochs.{AtEach, told_by}
use Rattle.pm_threads.specs.Crews.{Worked}

all_came : (xs ys : List Held) → AtEach (λ i x y. CellCame (view_of x) (view_of y)) xs ys
    → Pairs CellCame (views xs) (views ys)
all_came [] [] h = tt
all_came [] (y ∷ ys) h = absurd (let e = h.0 in omega (arith, e))
all_came (x ∷ xs) [] h = absurd (let e = h.0 in omega (arith, e))
all_came (x ∷ xs) (y ∷ ys) h =
    (h.1 0 x (omega arith), all_came xs ys (let e = h.0 in omega (arith, e), λ i d lt. h.1 (suc i) d (omega (arith, lt))))

told_from : (a : ℕ) (cs : List Held) → fold (λ n (c : Held). n + length c.story) a cs ≡ a + told (views cs)
told_from a [] = omega arith
told_from a (c ∷ cs) = let e = told_from (a + length c.story) cs in omega (arith, e)

told_all : (cs : List Held) → told_by (λ (c : Held). c.story) cs ≡ told (views cs)
told_all cs = let e = told_from 0 cs in omega (arith, e)

none_spoilt : (cs : List Held) → (Any (λ (c : Held). c.spoilt ≡ true) cs → ⊥) → AreSound (views cs)
none_spoilt [] h = tt
none_spoilt (c ∷ cs) h = (well (cases_Bool c.spoilt), none_spoilt cs (λ s. h (suc s.0, s.1, omega (arith, s.2), s.3, s.4)))
  where
    well : (c.spoilt ≡ true) ⊎ (c.spoilt ≡ false) → c.spoilt ≡ false
    well (inl e) = absurd (h (0, c, omega arith, refl, e))
    well (inr e) = e

all_idle : (cs : List Held) → All (λ (c : Held). CellIsIdle (view_of c)) cs → AreIdle (views cs)
all_idle [] h = tt
all_idle (c ∷ cs) h = (h 0 c (omega arith), all_idle cs (λ k d lt. h (suc k) d (omega (arith, lt))))

-- what an epoch of work tells of the cells
pub worked_is : (quota n : ℕ) (memory : Bool) (old new : List Held)
    → AtEach (λ i x y. CellCame (view_of x) (view_of y)) old new
    → told_by (λ (c : Held). c.story) old + n ≡ told_by (λ (c : Held). c.story) new → n ≤ quota
    → (IsTrue memory ↔ Any (λ (c : Held). c.spoilt ≡ true) new) → memory ≡ false
    → (1 ≤ quota → memory ≡ false → n ≡ 0 → All (λ (c : Held). CellIsIdle (view_of c)) new) → Worked quota n old new
worked_is quota n memory old new came made most spoilt well idle = record {
  came = all_came old new came;
  sound = none_spoilt new (λ s. absurd (let e = spoilt.1 s in let f = well in cc));
  made_all = let a = told_all old in let b = told_all new in let e = made in omega (arith, a, b, e);
  most = most;
  idle = λ some none. all_idle new (idle some well none);
}

-- where there is no cell, there is nothing to be done
pub worked_none : (quota : ℕ) (cells : List Held) → length cells ≡ 0 → Worked quota 0 cells cells
worked_none quota [] e =
    record { came = tt; sound = tt; made_all = refl; most = omega arith; idle = λ some none. tt }
worked_none quota (c ∷ cs) e = absurd (omega (arith, e))
