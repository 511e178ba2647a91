-- The least number that passes, found by a loop.
use Rattle.std.proofs.Common.{◌≡◌, ℕ, zero, suc, ◌+◌, ◌-◌, ◌<◌, ◌≤◌, Bool, true, false, List, [], length, get_or, map, Some, None, arith, ap, sym, ◌∙◌}
use Rattle.std.proofs.lemmas.List.{get_or-map}
use Rattle.pm_plan.specs.Numbers.{least, least_from, name_at}

-- none below i passes, of the n numbers
pub LeastFrom : (ℕ → Bool) → ℕ → ℕ → Type 0
LeastFrom passes n i = least passes n ≡ least_from passes i (n - i)

pub least_begin : (passes : ℕ → Bool) (n : ℕ) → LeastFrom passes n 0
unfolding LeastFrom
least_begin passes n = ap (least_from passes 0) (omega arith)

pub least_skip : (passes : ℕ → Bool) (n i : ℕ) → i < n → passes i ≡ false → LeastFrom passes n i → LeastFrom passes n (i + 1)
unfolding LeastFrom
least_skip passes n i lt e h =
    let s : n - i ≡ suc (n - (i + 1)) = omega arith in
    h ∙ (ap (least_from passes i) s ∙ rw e)

pub least_here : (passes : ℕ → Bool) (n i : ℕ) → i < n → passes i ≡ true → LeastFrom passes n i → Some i ≡ least passes n
unfolding LeastFrom
least_here passes n i lt e h =
    let s : n - i ≡ suc (n - (i + 1)) = omega arith in
    sym (h ∙ (ap (least_from passes i) s ∙ rw e))

pub least_end : (passes : ℕ → Bool) (n i : ℕ) → n ≤ i → LeastFrom passes n i → None ≡ least passes n
unfolding LeastFrom
least_end passes n i le h = let s : n - i ≡ zero = omega arith in sym (h ∙ ap (least_from passes i) s)

pub name_at-map : {X : Type 0} (f : X → List ℕ) (xs : List X) (i : ℕ) (x : X) → i < length xs → x ≡ get_or xs i x → name_at (map f xs) i ≡ f x
name_at-map f xs i x lt e = get_or-map f xs i x [] lt ∙ ap f (sym e)
