-- The deliveries of a run are the sum of those at its processes.
use Rattle.std.proofs.Common.{Bool, List, None, Option, Some, [], ap, arith, cond, false, inl, inr, length, nat_lt, refl, subst, suc, sym, true, zero, ℕ, ◌++◌, ◌+◌, ◌-◌, ◌<◌, ◌∙◌, ◌∷◌, ◌≡◌, ◌≤◌}
use Rattle.std.proofs.lemmas.Bool.{and_parts, cases_Bool, cases_eq}
use Rattle.std.proofs.lemmas.Bool.Decides.{nat_tests}
use Rattle.pm_base.specs.declared.rows.Entry.{Entry}
use Rattle.pm_base.specs.declared.run.Event.{Event}
use Rattle.pm_plan.specs.declared.plan.Plan.{Plan}
use Rattle.pm_sim.proofs.Awakes.{to_in}
use Rattle.pm_sim.proofs.Firsts.{PlanFits}
use Rattle.pm_sim.proofs.Lanes.{InPlan}
use Rattle.pm_sim.proofs.Letters.{process_same, process_self, taken}
use Rattle.pm_sim.proofs.Wholes.{Whole, commit_whole, deliver_whole, first_whole}
use Rattle.pm_sim.specs.Journals.{made, made_at}
use Rattle.pm_sim.specs.Taken.{sum_to}
use Rattle.pm_sim.specs.Worlds.{Taken, World, clps_of, commit, deliver, first_world, handed, has_mail, is_legal, is_legal_run, is_process, may_commit, process, take_from}
use Rattle.pm_sim.specs.Worlds.Process.{AtAgent, AtClp}
use Rattle.pm_base.specs.declared.run.Event.TheVariants as event

sum_same : (f g : ℕ → ℕ) (n : ℕ) → ((i : ℕ) → i < n → g i ≡ f i) → sum_to g n ≡ sum_to f n
sum_same f g zero h = refl
sum_same f g (suc n) h =
    (let a = h n (omega arith) in let b = sum_same f g n (λ i lt. h i (omega arith)) in omega arith)

sum_zero : (f : ℕ → ℕ) (n : ℕ) → ((i : ℕ) → f i ≡ 0) → sum_to f n ≡ 0
sum_zero f zero h = refl
sum_zero f (suc n) h = (let a = h n in let b = sum_zero f n h in omega arith)

sum_one : (f g : ℕ → ℕ) (k n : ℕ)
    → k < n → g k ≡ suc (f k) → ((i : ℕ) → (i ≡ k → ⊥) → g i ≡ f i) → sum_to g n ≡ suc (sum_to f n)
sum_one f g k zero lt e h = absurd (omega arith)
sum_one f g k (suc n) lt e h = elim (cases_eq n k) [
  | inl q ↦ (let a : g n ≡ suc (f n) = subst (λ z. g z ≡ suc (f z)) (sym q) e in let b =
      sum_same f g n (λ i l. h i (λ r. less i l (r ∙ sym q))) in omega arith)
  | inr ne ↦ (let a = h n ne in let b = sum_one f g k n (omega arith) e h in omega arith)
]
  where
    less : (i : ℕ) → i < n → i ≡ n → ⊥
    less i l r = omega arith

-- numbers of processes are different
one_number : (p : Plan) (i j : ℕ) → process p i ≡ process p j → i ≡ j
one_number p i j e = go (nat_lt i (clps_of p)) (nat_lt j (clps_of p)) refl refl e
  where
    clp_same : (x y : ℕ) → AtClp x ≡ AtClp y → x ≡ y
    clp_same x y f = cc

    agent_same : (x y : ℕ) → AtAgent x ≡ AtAgent y → x ≡ y
    agent_same x y f = cc

    go : (a b : Bool) → nat_lt i (clps_of p) ≡ a → nat_lt j (clps_of p) ≡ b
        → cond a (AtClp i) (AtAgent (i - clps_of p)) ≡ cond b (AtClp j) (AtAgent (j - clps_of p)) → i ≡ j
    go true true f g h = clp_same i j h
    go true false f g h = absurd (cc)
    go false true f g h = absurd (cc)
    go false false f g h = (let k = agent_same (i - clps_of p) (j - clps_of p) h in
        let x : clps_of p ≤ i =
        grind (arith, nat_tests, f) in let y : clps_of p ≤ j = grind (arith, nat_tests, g) in omega arith)

-- a process of the plan has a number below their number
number_low : (p : Plan) (A k : ℕ) → InPlan (clps_of p) A (process p k) → k < clps_of p + A
number_low p A k h = go (nat_lt k (clps_of p)) refl h
  where
    go : (a : Bool) → nat_lt k (clps_of p) ≡ a
        → InPlan (clps_of p) A (cond a (AtClp k) (AtAgent (k - clps_of p))) → k < clps_of p + A
    go true f g = (let x : k < clps_of p = g in omega arith)
    go false f g = (let x : k - clps_of p < A = g in let y : clps_of p ≤ k = grind (arith, nat_tests, f) in omega arith)

abbrev pub made_sum : Plan → ℕ → List Event → ℕ
made_sum p A es = sum_to (λ i. made_at p (process p i) es) (clps_of p + A)

sum_deliver : (p : Plan) (A to from : ℕ) (es : List Event)
    → to < clps_of p + A → made_sum p A (event.Deliver to from ∷ es) ≡ suc (made_sum p A es)
sum_deliver p A to from es lt = sum_one
    (λ i. made_at p (process p i) es) (λ i. made_at p (process p i) (event.Deliver to from ∷ es)) to (clps_of p + A) lt
    (let e = process_self (process p to) in
    ap (λ b. cond b (suc (made_at p (process p to) es)) (made_at p (process p to) es)) e)
    (λ i ne. (let e : is_process (process p to) (process p i) ≡ false =
    elim (cases_Bool (is_process (process p to) (process p i))) [
      | inl f ↦
          absurd (ne (sym (one_number p to i (process_same (process p to) (process p i) f))))
      | inr f ↦ f
    ] in
    ap (λ b. cond b (suc (made_at p (process p i) es)) (made_at p (process p i) es)) e))

made_run : (p : Plan) (A : ℕ) (w : World) (done : List Entry) (es : List Event)
    → Whole p w done → length p.agents ≡ A → is_legal_run p w es ≡ true → made_sum p A es ≡ made es
made_run p A w done [] h ea l = sum_zero (λ i. made_at p (process p i) []) (clps_of p + A) (λ i. refl)
made_run p A w done (event.Deliver to from ∷ es) h ea l =
    let parts = and_parts
    (is_legal p w (event.Deliver to from)) (is_legal_run p (deliver p w (process p to) (process p from)) es) l in
    let again = made_run p A (deliver p w (process p to) (process p from))
    done es (deliver_whole p w done (process p to) (process p from) h) ea parts.1 in
    let lt = low (take_from (process p to) (process p from) w.links) refl parts.0 in
    sum_deliver p A to from es lt ∙ ap suc again
  where
    agents : length w.agents ≡ A
    agents = (let e = h.full.sim.core.same_agents in let f = h.full.sim.core.same_plan in omega arith)

    low : (o : Option Taken)
        → take_from (process p to) (process p from) w.links ≡ o → has_mail o ≡ true → to < clps_of p + A
    low None e f = absurd (cc)
    low (Some t) e f = number_low p A to (subst (λ z. InPlan (clps_of p) z (process p to)) agents
        (to_in p h.q w h.full.recs h.full.sim (process p to)
        (process p from) t.message ((taken (process p to) (process p from) w.links t e).into _ (inl refl))))
made_run p A w done (event.Commit c ∷ es) h ea l =
    let parts = and_parts (may_commit w c) (is_legal_run p (commit w c) es) l in
    made_run p A (commit w c) (done ++ handed w c) es (commit_whole p w done c h parts.0) ea parts.1

pub run_made : (p : Plan) → PlanFits p
    → (es : List Event) → is_legal_run p (first_world p) es ≡ true → made_sum p (length p.agents) es ≡ made es
run_made p fit es l = made_run p (length p.agents) (first_world p) [] es (first_whole p fit) refl l
