-- One part more.
use Rattle.std.proofs.Common.{◌≡◌, ℕ, ◌+◌, ◌++◌, List, [], ◌∷◌, map, arith, refl, ap, sym, ◌∙◌}
use Rattle.std.specs.List.{range_with_len}
use Rattle.std.proofs.lemmas.List.FromFn.{map-range_with_len_more}
use Rattle.pm_plan.specs.declared.parts.AgentPart.{AgentPart}
use Rattle.pm_plan.specs.declared.parts.ClassPart.{ClassPart}
use Rattle.pm_plan.specs.declared.parts.ClpPart.{ClpPart}
use Rattle.pm_plan.specs.declared.parts.PlanParts.{PlanParts}
use Rattle.pm_gen.specs.Draws.{state_after}
use Rattle.pm_gen.specs.Generated.{agents, classes, clps, generated}
use Rattle.pm_gen.proofs.States.{after_more}

pub one_more : {A : Type 0} (f : ℕ → A) (k : ℕ) (xs : List A) (x : A) → xs ≡ map f (range_with_len 0 k) → x ≡ f k →
    xs ++ x ∷ [] ≡ map f (range_with_len 0 (k + 1))
one_more f k xs x e h =
    let more = map-range_with_len_more f 0 k k (omega arith) in
    let turned : xs ++ x ∷ [] ≡ map f (range_with_len 0 k) ++ f k ∷ [] = rw (e, h) refl in
    turned ∙ sym more

abbrev pub drawn : List ClpPart → List ClassPart → List AgentPart → PlanParts
drawn ps cs xs = record { horizon = 60; move_after = 4; clps = ps; classes = cs; agents = xs }

-- the parts of a number, as they are drawn one after the other
pub drawn_parts : (n first second : ℕ) (ps : List ClpPart) (cs : List ClassPart) (xs : List AgentPart) → ps ≡ clps n →
    first ≡ state_after n 4 → cs ≡ classes first → second ≡ state_after first 76 → xs ≡ agents second →
    drawn ps cs xs ≡ generated n
unfolding generated
drawn_parts n first second ps cs xs e f g h i =
    let after : state_after (state_after n 4) 76 ≡ state_after n 80 = after_more n 4 76 in
    let last : second ≡ state_after n 80 = h ∙ ap (λ (s : ℕ). state_after s 76) f ∙ after in
    rw (e, g, f, i, last) refl
