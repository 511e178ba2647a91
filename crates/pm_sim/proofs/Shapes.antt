-- What a valid plan is: a tree of processes, and classes that are ranges of its variables.
use Rattle.std.proofs.Common.{◌≡◌, ℕ, zero, suc, ◌+◌, ◌<◌, ◌≤◌, ◌⊎◌, inl, inr, ◌==◌, Bool, true, false, cond, List, [], ◌∷◌, map, length, length-append, get_or, refl, arith, ap, sym, ◌∙◌, subst, Option}
use Rattle.std.proofs.lemmas.Bool.{cases_Bool, cases_eq}
use Rattle.std.proofs.lemmas.Bool.Decides.{nat_tests}
use Rattle.std.proofs.lemmas.List.{length-map}
use Rattle.pm_base.proofs.Classes.{class_of-is, member_is_variable}
use Rattle.pm_base.specs.Layouts.{Follow, IsLayout, IsMember, class_row, var_count}
use Rattle.pm_base.specs.declared.layout.ClassRow.{ClassRow}
use Rattle.pm_model.proofs.Starts.{starts-timely}
use Rattle.pm_model.specs.Runs.{IsTimely, sequential_start}
use Rattle.pm_plan.proofs.Paths.{either, hop_edge, hop_in, len_nearer}
use Rattle.pm_plan.proofs.Rooted.{Rooted, edge_down, edge_or, edge_up}
use Rattle.pm_plan.proofs.Valid.{plan_is, valid_agent, valid_horizon, valid_kept, valid_limits, valid_rooted, valid_var}
use Rattle.pm_plan.proofs.Walks.{len_most}
use Rattle.pm_plan.specs.Plans.{IsValid, all_vars, class_rows, numbered, parents}
use Rattle.pm_plan.specs.Trees.{edge, path_len}
use Rattle.pm_plan.specs.declared.parts.ClassPart.{ClassPart}
use Rattle.pm_plan.specs.declared.parts.PlanParts.{PlanParts}
use Rattle.pm_plan.specs.declared.plan.AgentRow.{AgentRow}
use Rattle.pm_plan.specs.declared.plan.ClpRow.{ClpRow}
use Rattle.pm_plan.specs.declared.plan.Plan.{Plan}
use Rattle.pm_plan.specs.declared.plan.VarRow.{VarRow}
use Rattle.pm_sim.specs.Routings.{TreeOk}
use Rattle.pm_sim.specs.Sims.{In, PlanIs, one_if, tally}
use Rattle.pm_sim.specs.Worlds.{clps_of, edges, home, no_row, ports}
use Rattle.pm_sim.proofs.Firsts.{no_var, place_of_var}

edges_all : (ps : List (Option ℕ)) (c i n d : ℕ) → i ≤ d → d < i + n → edge ps c d ≡ true → In d (edges ps c i n)
edges_all ps c i zero d lo hi e = absurd (omega (arith, lo, hi))
edges_all ps c i (suc n) d lo hi e = elim (cases_eq d i) [
  | inl f ↦ (let g : edge ps c i ≡ true = ap (edge ps c) (sym f) ∙ e in rw g (inl f))
  | inr ne ↦
      (let again = edges_all ps c (suc i) n d (omega (arith, lo, ne)) (omega (arith, hi)) e in go (edge ps c i) again)
]
  where
    go : (b : Bool) → In d (edges ps c (suc i) n) → In d (cond b (i ∷ edges ps c (suc i) n) (edges ps c (suc i) n))
    go true k = inr k
    go false k = k

edges_edge : (ps : List (Option ℕ)) (c i n d : ℕ) → In d (edges ps c i n) → edge ps c d ≡ true
edges_edge ps c i zero d j = absurd j
edges_edge ps c i (suc n) d j = (let again = edges_edge ps c (suc i) n d in elim (cases_Bool (edge ps c i)) [
  | inl e ↦ elim (subst (λ b. In d (cond b (i ∷ edges ps c (suc i) n) (edges ps c (suc i) n))) e j) [
    | inl f ↦ ap (edge ps c) f ∙ e
    | inr k ↦ again k
  ]
  | inr e ↦ again (subst (λ b. In d (cond b (i ∷ edges ps c (suc i) n) (edges ps c (suc i) n))) e j)
])

edges_in : (ps : List (Option ℕ)) (c i n d : ℕ) → In d (edges ps c i n) → (i ≤ d) × (d < i + n)
edges_in ps c i zero d j = absurd j
edges_in ps c i (suc n) d j = (let again = edges_in ps c (suc i) n d in go (edge ps c i) again j)
  where
    go : (b : Bool) → (In d (edges ps c (suc i) n) → (suc i ≤ d) × (d < suc i + n))
        → In d (cond b (i ∷ edges ps c (suc i) n) (edges ps c (suc i) n)) → (i ≤ d) × (d < i + suc n)
    go true rec (inl e) = (omega arith, omega arith)
    go true rec (inr k) = (let r = rec k in let a = r.0 in let b = r.1 in (omega arith, omega arith))
    go false rec k = (let r = rec k in let a = r.0 in let b = r.1 in (omega arith, omega arith))

edges_once : (ps : List (Option ℕ)) (c i n d : ℕ)
    → (tally (λ e. d == e) (edges ps c i n) ≤ 1) × (d < i → tally (λ e. d == e) (edges ps c i n) ≡ 0)
edges_once ps c i zero d = (omega arith, λ lt. refl)
edges_once ps c i (suc n) d = (let again = edges_once ps c (suc i) n d in go (edge ps c i) again.0 again.1)
  where
    rest : ℕ
    rest = tally (λ e. d == e) (edges ps c (suc i) n)

    go : (b : Bool) → rest ≤ 1
        → (d < suc i → rest ≡ 0) → (tally (λ e. d == e) (cond b (i ∷ edges ps c (suc i) n) (edges ps c (suc i) n)) ≤ 1)
        × (d < i → tally (λ e. d == e) (cond b (i ∷ edges ps c (suc i) n) (edges ps c (suc i) n)) ≡ 0)
    go false le none = (le, λ lt. none (omega arith))
    go true le none = by (d == i) refl
      where
        by : (x : Bool) → (d == i) ≡ x → (one_if x rest ≤ 1) × (d < i → one_if x rest ≡ 0)
        by true e = (
          let z = none (let e' = e in let f : d ≡ i = grind (arith, nat_tests, e') in omega arith) in
              omega arith,
          λ lt. absurd (let e' = e in let f : d ≡ i = grind (arith, nat_tests, e') in omega arith),
        )
        by false e = (le, λ lt. none (omega arith))

home_is : (rows : List AgentRow) (a : ℕ)
    → get_or (map (λ (r : AgentRow). r.home) rows) a 0 ≡ (get_or rows a no_row).home
home_is [] a = refl
home_is (r ∷ rows) zero = refl
home_is (r ∷ rows) (suc a) = home_is rows a

place_is : (rows : List VarRow) (v : ℕ) → get_or (map (λ (r : VarRow). r.at) rows) v 0 ≡ (get_or rows v no_var).at
place_is [] v = refl
place_is (r ∷ rows) zero = refl
place_is (r ∷ rows) (suc v) = place_is rows v

past_home : (rows : List AgentRow) (a : ℕ) → length rows ≤ a → (get_or rows a no_row).home ≡ 0
past_home [] a le = refl
past_home (r ∷ rows) zero le = absurd (omega arith)
past_home (r ∷ rows) (suc a) le = past_home rows a (omega arith)

-- the plan's processes are a tree
pub tree_ok : (p : Plan) → IsValid p → TreeOk p
tree_ok p valid = record {
  dist = path_len (parents p.clps);
  hop_port = λ c h lc lh ne. in_ports c _
      (down (hop_in (parents p.clps) ok c h (up lc) (up lh) ne)) (hop_edge (parents p.clps) ok c h (up lc) (up lh) ne);
  inside = λ c d i. (let a = (edges_in (parents p.clps) c 0 (clps_of p) d i).1 in omega (arith, a));
  back = λ c d lc i.
      in_ports d c lc (elim (edge_or (parents p.clps) ok c d (edges_edge (parents p.clps) c 0 (clps_of p) d i)) [
        | inl e ↦ edge_down (parents p.clps) ok d c e
        | inr e ↦ edge_up (parents p.clps) ok d c e
      ]);
  nearer = λ c h lc lh ne. len_nearer (parents p.clps) ok c h (up lc) (up lh) ne;
  either = λ c d h lc lh i. either (parents p.clps) ok c d h (edges_edge (parents p.clps) c 0 (clps_of p) d i);
  once = λ c d. (edges_once (parents p.clps) c 0 (clps_of p) d).0;
  far = length (parents p.clps) + length (parents p.clps) + 1;
  near = λ c h lc lh. (let a = len_most (parents p.clps) ok c h (up lc) (up lh) in omega (arith, a));
  homes = λ a. at_home a (cases_lt a (length p.agents));
}
  where
    ok : Rooted (parents p.clps)
    ok = valid_rooted p valid

    same : length (parents p.clps) ≡ length p.clps
    same = length-map p.clps (λ (c : ClpRow). c.parent)

    up : {c : ℕ} → c < clps_of p → c < length (parents p.clps)
    up lt = omega (arith, lt, same)

    down : {c : ℕ} → c < length (parents p.clps) → c < clps_of p
    down lt = omega (arith, lt, same)

    in_ports : (c d : ℕ) → d < clps_of p → edge (parents p.clps) c d ≡ true → In d (ports p c)
    in_ports c d lt e = edges_all (parents p.clps) c 0 (clps_of p) d (omega arith) (omega (arith, lt)) e

    cases_lt : (a b : ℕ) → (a < b) ⊎ (b ≤ a)
    cases_lt a b = grind arith

    at_home : (a : ℕ) → (a < length p.agents) ⊎ (length p.agents ≤ a) → home p a < clps_of p
    at_home a (inl lt) = subst (λ z. z < clps_of p) (home_is p.agents a) (valid_agent p valid a lt)
    at_home a (inr le) = subst
        (λ z. z < clps_of p) (sym (past_home p.agents a le)) (let k = (valid_kept p valid).some in omega (arith, k))

count_is : (m : ℕ) (cs : List ClassPart) → var_count (class_rows m cs) ≡ length (all_vars cs)
count_is m [] = refl
count_is m (c ∷ cs) =
    (let again = count_is (m + length c.vars) cs in omega (arith, again, length-append c.vars (all_vars cs)))

numbered_vars : (parts : PlanParts) → var_count (numbered parts).layout.classes ≡ length (numbered parts).vars
unfolding numbered
numbered_vars parts = count_is 0 parts.classes ∙ sym (length-map (all_vars parts.classes) _)

row_end : (m : ℕ) (cs : List ClassRow) (k : ℕ)
    → Follow m cs → (class_row cs k).first + (class_row cs k).count ≤ m + var_count cs
row_end m [] k f = omega arith
row_end m (c ∷ cs) zero f = (let a = f.0 in omega (arith, a))
row_end m (c ∷ cs) (suc k) f = (let again = row_end (m + c.count) cs k f.1 in omega (arith, again))

-- its classes are ranges of its variables
pub plan_shape : (p : Plan) → IsValid p → PlanIs p (length (sequential_start p).values)
plan_shape p valid = record {
  small = (let h = valid_horizon p valid in omega (arith, h));
  vars = sym values;
  range = λ k. (let r = row_end 0 p.layout.classes k layout.follow in omega (arith, r, vars, values));
  inside = λ k v lt e. (let m = (class_of-is p.layout v layout (omega (arith, lt, vars, values))).member in
      let m' : IsMember (class_row p.layout.classes k) v =
      subst (λ z. IsMember (class_row p.layout.classes z) v) e m in (m'.first, m'.last));
  of_range = λ k v lo hi. (let m : IsMember (class_row p.layout.classes k) v = record { first = lo; last = hi } in
      sym ((class_of-is p.layout v layout (member_is_variable p.layout k v layout m)).only k m));
}
  where
    layout : IsLayout p.layout
    layout = (valid_limits p valid).layout

    values : length (sequential_start p).values ≡ length p.vars
    values = length-map p.vars (λ (v : VarRow). v.value)

    vars : var_count p.layout.classes ≡ length p.vars
    vars =
        subst (λ (z : Plan). var_count z.layout.classes ≡ length z.vars) (plan_is p valid) (numbered_vars valid.parts)

pub place_in : (p : Plan) → IsValid p → (v : ℕ) → v < length (sequential_start p).values → place_of_var p v < clps_of p
place_in p valid v lt = subst (λ z. z < clps_of p) (place_is p.vars v)
    (valid_var p valid v (let l = length-map p.vars (λ (v : VarRow). v.value) in omega (arith, lt, l)))

pub timely : (p : Plan) → IsValid p → IsTimely p (sequential_start p)
timely p valid = starts-timely p (valid_limits p valid)

pub vars_counted : (p : Plan) → IsValid p → var_count p.layout.classes ≡ length (sequential_start p).values
vars_counted p valid = subst (λ (z : Plan). var_count z.layout.classes ≡ length z.vars)
    (plan_is p valid) (numbered_vars valid.parts) ∙ sym (length-map p.vars (λ (v : VarRow). v.value))
