-- The parts of a number are never refused.
use Rattle.std.proofs.Common.{◌≡◌, ℕ, zero, suc, ◌+◌, ◌*◌, ◌<◌, ◌≤◌, Bool, true, false, ◌&&◌, ◌||◌, List, [], ◌∷◌, ◌++◌, length, get_or, map, Option, Some, None, Ok, Err, refl, arith, ap, sym, ◌∙◌, inl, inr}
use Rattle.std.specs.Prelude.{is_none, nat_le, option_map}
use Rattle.std.specs.Fmt.{digits}
use Rattle.std.specs.List.{AllByRecursion, list_any, range_with_len}
use Rattle.std.proofs.lemmas.Bool.{cases_lt}
use Rattle.std.proofs.lemmas.Bool.Decides.{nat_tests}
use Rattle.pm_base.specs.Names.{is_name}
use Rattle.pm_plan.specs.Numbers.{first_repeat, first_wrong, least_from, number_of}
use Rattle.pm_plan.specs.Plans.{agent_row, clp_of, count_refusal, first_nowhere, first_off_tree, is_late, is_past, later_refusal, numbered, of_names, or_else, parents, place_refusal, plan_of, refusal, refused_if, starts_late, unless_refused, var_row}
use Rattle.pm_plan.specs.declared.fault.PlanFault.{PlanFault}
use Rattle.pm_plan.specs.declared.fault.PlanFault.TheVariants as fault
use Rattle.pm_plan.specs.declared.parts.AgentPart.{AgentPart}
use Rattle.pm_plan.specs.declared.parts.VarPart.{VarPart}
use Rattle.pm_plan.specs.declared.plan.Plan.{Plan}
use Rattle.pm_plan.specs.declared.plan.Kind.TheVariants as kind
use Rattle.pm_gen.specs.Draws.{draw, state_after}
use Rattle.pm_gen.specs.Generated.{agent, agents, cell, cells, classes, clp_name, clps, generated, mark, marks, name_of}
use Rattle.pm_gen.proofs.States.{draw_below}

abbrev names : List (List ℕ)
names = map clp_name (range_with_len 0 5)

abbrev planned : ℕ → Plan
planned n = numbered (generated n)

-- a test of each number below a bound
all_below : ℕ → (ℕ → Bool) → Bool
all_below zero p = true
all_below (suc n) p = p n && all_below n p

both : (a b : Bool) → (a && b) ≡ true → (a ≡ true) × (b ≡ true)
both true b e = (refl, e)
both false b e = absurd (cc)

holds_below : (n : ℕ) (p : ℕ → Bool) → all_below n p ≡ true → (k : ℕ) → k < n → p k ≡ true
unfolding all_below
holds_below zero p e k lt = absurd (omega arith)
holds_below (suc n) p e k lt =
    let w = both (p n) (all_below n p) e in
    elim (cases_lt k n) [
      | inl below ↦ holds_below n p w.1 k below
      | inr above ↦ (let here : k ≡ n = omega arith in ap p here ∙ w.0)
    ]

-- the number of a process by its name
known : (d : ℕ) → d < 5 → clp_of names (clp_name d) ≡ d
unfolding name_of number_of digits
known zero lt = refl
known (suc zero) lt = refl
known (suc (suc zero)) lt = refl
known (suc (suc (suc zero))) lt = refl
known (suc (suc (suc (suc zero)))) lt = refl
known (suc (suc (suc (suc (suc d))))) lt = absurd (omega arith)

drawn : (state bound : ℕ) → 0 < bound → bound ≤ 5 → clp_of names (clp_name (draw state bound)) ≡ draw state bound
drawn state bound some few = known (draw state bound) (let below = draw_below state bound some in omega (arith, below))

-- the four parents, each below the number of its child
abbrev is_rooted : ℕ → ℕ → ℕ → ℕ → Bool
is_rooted a b c d = is_none (first_off_tree (None ∷ Some a ∷ Some b ∷ Some c ∷ Some d ∷ []))

all_rooted : all_below 1 (λ a. all_below 2 (λ b. all_below 3 (λ c. all_below 4 (λ d. is_rooted a b c d)))) ≡ true
unfolding all_below first_off_tree
all_rooted = refl

none : {A : Type 0} → (o : Option A) → is_none o ≡ true → o ≡ None
none None e = refl
none (Some x) e = absurd (cc)

rooted : (a b c d : ℕ) → a < 1 → b < 2 → c < 3 → d < 4 →
    first_off_tree (None ∷ Some a ∷ Some b ∷ Some c ∷ Some d ∷ []) ≡ None
rooted a b c d la lb lc ld =
    let first =
    holds_below 1 (λ a. all_below 2 (λ b. all_below 3 (λ c. all_below 4 (λ d. is_rooted a b c d)))) all_rooted a la
    in
    let second = holds_below 2 (λ b. all_below 3 (λ c. all_below 4 (λ d. is_rooted a b c d))) first b lb in
    let third = holds_below 3 (λ c. all_below 4 (λ d. is_rooted a b c d)) second c lc in
    none (first_off_tree (None ∷ Some a ∷ Some b ∷ Some c ∷ Some d ∷ []))
    (holds_below 4 (λ d. is_rooted a b c d) third d ld)

parent_at : ℕ → ℕ → ℕ
parent_at state k = draw (state_after state k) (k + 1)

parents_drawn : (n : ℕ) →
    parents (planned n).clps ≡
    None ∷ Some (clp_of names (clp_name (draw (state_after n 0) 1))) ∷
    Some (clp_of names (clp_name (draw (state_after n 1) 2))) ∷
    Some (clp_of names (clp_name (draw (state_after n 2) 3))) ∷
    Some (clp_of names (clp_name (draw (state_after n 3) 4))) ∷ []
unfolding numbered generated classes clps
parents_drawn n = refl

four : (a b c d e f g h : ℕ) → a ≡ e → b ≡ f → c ≡ g → d ≡ h →
    None ∷ Some a ∷ Some b ∷ Some c ∷ Some d ∷ [] ≡ None ∷ Some e ∷ Some f ∷ Some g ∷ Some h ∷ []
four a b c d e f g h p q r s = cc

parents_are : (n : ℕ) →
    parents (planned n).clps ≡
    None ∷ Some (parent_at n 0) ∷ Some (parent_at n 1) ∷ Some (parent_at n 2) ∷ Some (parent_at n 3) ∷ []
unfolding parent_at
parents_are n =
    parents_drawn n ∙
    four _ _ _ _ _ _ _ _
    (drawn (state_after n 0) 1 (omega arith) (omega arith)) (drawn (state_after n 1) 2 (omega arith) (omega arith))
    (drawn (state_after n 2) 3 (omega arith) (omega arith)) (drawn (state_after n 3) 4 (omega arith) (omega arith))

tree_none : (n : ℕ) → first_off_tree (parents (planned n).clps) ≡ None
unfolding parent_at
tree_none n =
    ap first_off_tree (parents_are n) ∙
    rooted (parent_at n 0) (parent_at n 1) (parent_at n 2) (parent_at n 3)
    (draw_below (state_after n 0) 1 (omega arith)) (draw_below (state_after n 1) 2 (omega arith))
    (draw_below (state_after n 2) 3 (omega arith)) (draw_below (state_after n 3) 4 (omega arith))

-- a fact of each part
each_of : {A : Type 0} (P : A → Type 0) (f : ℕ → A) → ((k : ℕ) → P (f k)) → (a n : ℕ) →
    AllByRecursion P (map f (range_with_len a n))
each_of P f h a zero = tt
each_of P f h a (suc n) = (h a, each_of P f h (a + 1) n)

each_append : {A : Type 0} (P : A → Type 0) (xs ys : List A) → AllByRecursion P xs → AllByRecursion P ys →
    AllByRecursion P (xs ++ ys)
each_append P [] ys h k = k
each_append P (x ∷ xs) ys h k = (h.0, each_append P xs ys h.1 k)

-- none below n passes
none_from : (p : ℕ → Bool) (n i : ℕ) → ((k : ℕ) → p k ≡ false) → least_from p i n ≡ None
none_from p zero i h = refl
none_from p (suc n) i h = rw (h i) (none_from p n (i + 1) h)

low_at : (ps : List ℕ) → AllByRecursion (λ p. p < 5) ps → (i : ℕ) → get_or ps i 0 < 5
low_at [] h i = omega arith
low_at (p ∷ ps) h zero = h.0
low_at (p ∷ ps) h (suc i) = low_at ps h.1 i

nowhere_none : (ps : List ℕ) → AllByRecursion (λ p. p < 5) ps → first_nowhere 5 ps ≡ None
unfolding first_nowhere
nowhere_none ps h =
    none_from (λ i. nat_le 5 (get_or ps i 0)) (length ps) 0
    (λ i. let low = low_at ps h i in grind (arith, nat_tests, low))

-- the place is one of the processes
IsPlaced : List ℕ → Type 0
IsPlaced name = clp_of names name < 5

placed : (state : ℕ) → IsPlaced (clp_name (draw state 5))
unfolding IsPlaced
placed state =
    let same = drawn state 5 (omega arith) (omega arith) in
    let below = draw_below state 5 (omega arith) in
    omega (arith, same, below)

cells_placed : (state : ℕ) → AllByRecursion (λ (v : VarPart). IsPlaced v.at) (cells state)
unfolding cells
cells_placed state =
    each_of (λ (v : VarPart). IsPlaced v.at) (λ k. cell (state_after state (3 * k)) k)
    (λ k. placed (state_after state (3 * k))) 0 24

marks_placed : (state : ℕ) → AllByRecursion (λ (v : VarPart). IsPlaced v.at) (marks state)
unfolding marks
marks_placed state =
    each_of (λ (v : VarPart). IsPlaced v.at) (λ k. mark (state_after state k) k) (λ k. placed (state_after state k)) 0 4

homes_placed : (state : ℕ) → AllByRecursion (λ (a : AgentPart). IsPlaced a.home) (agents state)
unfolding agents
homes_placed state =
    each_of (λ (a : AgentPart). IsPlaced a.home) (λ k. agent (state_after state (3 * k)) k)
    (λ k. placed (state_after state (3 * k))) 0 12

var_places : (vs : List VarPart) → AllByRecursion (λ (v : VarPart). IsPlaced v.at) vs →
    AllByRecursion (λ p. p < 5) (map (λ v. v.at) (map (var_row names) vs))
unfolding IsPlaced
var_places [] h = tt
var_places (v ∷ vs) h = (h.0, var_places vs h.1)

agent_places : (xs : List AgentPart) → AllByRecursion (λ (a : AgentPart). IsPlaced a.home) xs →
    AllByRecursion (λ p. p < 5) (map (λ a. a.home) (map (agent_row names) xs))
unfolding IsPlaced
agent_places [] h = tt
agent_places (x ∷ xs) h = (h.0, agent_places xs h.1)

-- the state in which the marks' draws begin
abbrev marks_from : ℕ → ℕ
marks_from n = state_after (state_after n 4) 72

vars_are : (n : ℕ) → (planned n).vars ≡ map (var_row names) (cells (state_after n 4) ++ (marks (marks_from n) ++ []))
unfolding numbered generated classes clps
vars_are n = refl

agents_are : (n : ℕ) → (planned n).agents ≡ map (agent_row names) (agents (state_after n 80))
unfolding numbered generated classes clps
agents_are n = refl

five : (n : ℕ) → length (planned n).clps ≡ 5
unfolding numbered generated classes clps
five n = refl

vars_nowhere : (n : ℕ) → first_nowhere (length (planned n).clps) (map (λ v. v.at) (planned n).vars) ≡ None
vars_nowhere n = rw (five n, vars_are n) (nowhere_none _ (var_places _
    (each_append _ (cells (state_after n 4)) (marks (marks_from n) ++ []) (cells_placed (state_after n 4))
    (each_append _ (marks (marks_from n)) [] (marks_placed (marks_from n)) tt))))

agents_nowhere : (n : ℕ) → first_nowhere (length (planned n).clps) (map (λ a. a.home) (planned n).agents) ≡ None
agents_nowhere n = rw (five n, agents_are n) (nowhere_none _ (agent_places _ (homes_placed (state_after n 80))))

two : (a b : Option PlanFault) → a ≡ None → b ≡ None → or_else a b ≡ None
two a b p q = rw p q

places_none : (n : ℕ) → place_refusal (planned n) ≡ None
places_none n =
    two _ _ (ap (option_map (fault.Place kind.Var)) (vars_nowhere n))
    (ap (option_map (fault.Place kind.Agent)) (agents_nowhere n))

-- the starts
early : (state : ℕ) → AllByRecursion (λ (a : AgentPart). a.start < 8) (agents state)
unfolding agents
early state =
    each_of (λ (a : AgentPart). a.start < 8) (λ k. agent (state_after state (3 * k)) k)
    (λ k. draw_below (state_after (state_after state (3 * k)) 1) 8 (omega arith)) 0 12

none_late : (xs : List AgentPart) → AllByRecursion (λ (a : AgentPart). a.start < 8) xs →
    list_any starts_late (map (agent_row names) xs) ≡ false
none_late [] h = refl
none_late (x ∷ xs) h =
    let soon = h.0 in
    let on_time : is_past x.start ≡ false = grind (arith, nat_tests, soon) in
    rw on_time (none_late xs h.1)

on_time : (n : ℕ) → (is_past (planned n).horizon || false) ≡ false
unfolding numbered generated classes
on_time n = refl

times_none : (n : ℕ) → is_late (planned n) ≡ false
times_none n =
    ap (λ b. is_past (planned n).horizon || b)
    (ap (list_any starts_late) (agents_are n) ∙ none_late _ (early (state_after n 80))) ∙ on_time n

late_none : (n : ℕ) → refused_if (is_late (planned n)) (fault.Limit kind.Time) ≡ None
late_none n = ap (λ b. refused_if b (fault.Limit kind.Time)) (times_none n)

-- the names
names_right : (n : ℕ) → of_names fault.Name first_wrong (planned n) ≡ None
unfolding numbered generated classes clps cells marks agents name_of digits first_wrong is_name
names_right n = refl

names_once : (n : ℕ) → of_names fault.Twice first_repeat (planned n) ≡ None
unfolding numbered generated classes clps cells marks agents name_of digits first_repeat number_of
names_once n = refl

counts_none : (n : ℕ) →
    count_refusal (length (planned n).clps) (length (planned n).classes) (length (planned n).vars)
    (length (planned n).agents) ≡ None
unfolding numbered generated classes clps cells marks agents
counts_none n = refl

five_none : (a b c d e : Option PlanFault) → a ≡ None → b ≡ None → c ≡ None → d ≡ None → e ≡ None →
    or_else a (or_else b (or_else c (or_else d e))) ≡ None
five_none a b c d e p q r s t = two _ _ p (two _ _ q (two _ _ r (two _ _ s t)))

later_none : (n : ℕ) → later_refusal (planned n) ≡ None
unfolding later_refusal
later_none n =
    five_none _ _ _ _ _ (late_none n) (names_right n) (names_once n) (ap (option_map fault.Tree) (tree_none n))
    (places_none n)

none_refused : (n : ℕ) → refusal (planned n) ≡ None
unfolding refusal
none_refused n = two _ _ (counts_none n) (later_none n)

-- the parts of each number make a plan
pub makes_plan : (n : ℕ) → plan_of (generated n) ≡ Ok (planned n)
unfolding plan_of
makes_plan n = ap (λ o. unless_refused o (planned n)) (none_refused n)

pub never_refused : (n : ℕ) (f : PlanFault) → plan_of (generated n) ≡ Err f → ⊥
never_refused n f e = (let k : Err f ≡ Ok (planned n) = sym e ∙ makes_plan n in cc)
