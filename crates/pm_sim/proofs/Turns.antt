-- One sequential turn: which agent it is, and what it answers and writes.
use Rattle.pm_tables.specs.Tables.{no_value}
use Rattle.pm_saved.specs.declared.kept.KeptSense.{KeptSense}
use Rattle.pm_saved.specs.Senses.{answer, answers}
use Rattle.std.proofs.Common.{◌≡◌, ℕ, zero, suc, ◌+◌, ◌<◌, ◌≤◌, inl, inr, List, [], ◌∷◌, ◌++◌, length, get_or, set, nat_lt, refl, arith, ap, sym, ◌∙◌, subst, append_assoc, append-nil, length-append, Option, Some, None, option_map, ℤ, true, false, get_or-set_other, get_or-set_same, length-set}
use Rattle.std.specs.Prelude.{slice_index_or, ◌-◌, ◌^◌, nat_le}
use Rattle.std.proofs.lemmas.Bool.Decides.{nat_tests}
use Rattle.std.proofs.lemmas.Bool.{cases_eq, cases_Bool}
use Rattle.pm_base.specs.Changes.{applied}
use Rattle.pm_base.specs.declared.rows.Act.{Act}
use Rattle.pm_base.specs.declared.stamp.Stamp.{Stamp}
use Rattle.pm_base.specs.declared.value.Hit.{Hit}
use Rattle.pm_base.specs.declared.value.Query.{Query}
use Rattle.pm_base.specs.declared.value.Value.{Value}
use Rattle.pm_base.specs.declared.value.Write.{Write}
use Rattle.pm_model.specs.Hits.{hits}
use Rattle.pm_model.specs.Runs.{Scene, changed, deed_from, later, least_stamp, sooner}
use Rattle.pm_model.specs.declared.AgentState.{AgentState}
use Rattle.pm_step.proofs.StepLaws.{waits, step-rises}
use Rattle.pm_step.proofs.StepLaws as step_laws
use Rattle.pm_step.specs.Expressions.{sight}
use Rattle.pm_step.specs.Steps.{ForAct, IsRising}
use Rattle.pm_step.specs.declared.Next.TheVariants as next
use Rattle.pm_alp.specs.Agents.{Rule, step_of}
use Rattle.pm_sim.specs.Sims.{Asked, AtMost, Each, In, no_turn, st, within}
use Rattle.pm_sim.proofs.Lists.{each_in, each_from}

-- s is the stamp of the agent with the least next time, where the list begins with agent i
pub record IsLeast (i : ℕ) (ts : List AgentState) (s : Stamp) : Type 0 where
  pub place : ℕ
  pub agent : s.agent ≡ i + place
  pub inside : place < length ts
  pub next : (get_or ts place no_turn).next ≡ Some s.time
  pub least : (j t : ℕ) → j < length ts → (get_or ts j no_turn).next ≡ Some t → AtMost s (st t (i + j))

abbrev pub LeastIs : ℕ → List AgentState → Option Stamp → Type 0
LeastIs i ts None = (j : ℕ) → j < length ts → (get_or ts j no_turn).next ≡ None
LeastIs i ts (Some s) = IsLeast i ts s

-- agent i stands in the choice where it has a next time
abbrev stamp_from : ℕ → Option ℕ → Option Stamp
stamp_from i o = option_map (λ (t : ℕ). record { time = t; agent = i }) o

same_time : (t u : ℕ) → Some t ≡ Some u → t ≡ u
same_time t u e = cc

none_some : (t : ℕ) → None ≡ Some t → ⊥
none_some t e = cc

least_step : (i : ℕ) (x : AgentState) (ts : List AgentState) (o : Option ℕ) (best : Option Stamp)
    → x.next ≡ o → LeastIs (i + 1) ts best → LeastIs i (x ∷ ts) (sooner (stamp_from i o) best)
least_step i x ts None None e h = λ j. elim j as (λ k. k < length (x ∷ ts)
    → (get_or (x ∷ ts) k no_turn).next ≡ None) [ zero ↦ λ _. e | suc k ↦ λ l. h k (omega arith) ]
least_step i x ts None (Some s) e h = record {
  place = suc h.place;
  agent = (let a = h.agent in omega arith);
  inside = (let a = h.inside in omega arith);
  next = h.next;
  least = λ j. elim j
      as (λ k. (t : ℕ) → k < length (x ∷ ts) → (get_or (x ∷ ts) k no_turn).next ≡ Some t → AtMost s (st t (i + k))) [
        | zero ↦ λ t l f. absurd (none_some t (sym e ∙ f))
        | suc k ↦ λ t l f. subst (λ m. AtMost s (st t m)) (omega arith) (h.least k t (omega arith) f)
      ];
}
least_step i x ts (Some u) None e h = record {
  place = 0;
  agent = omega arith;
  inside = omega arith;
  next = e;
  least = λ j. elim j as (λ k. (t : ℕ)
      → k < length (x ∷ ts) → (get_or (x ∷ ts) k no_turn).next ≡ Some t → AtMost (st u i) (st t (i + k))) [
        | zero ↦ λ t l f. (let g : u ≡ t = same_time u t (sym e ∙ f) in inr (g, omega arith))
        | suc k ↦ λ t l f. absurd (none_some t (sym (h k (omega arith)) ∙ f))
      ];
}
least_step i x ts (Some u) (Some s) e h = elim (cases_Bool (nat_lt s.time u)) [
  | inl w ↦ rw w (record {
    place = suc h.place;
    agent = (let a = h.agent in omega arith);
    inside = (let a = h.inside in omega arith);
    next = h.next;
    least = λ j. elim j
        as (λ k. (t : ℕ) → k < length (x ∷ ts) → (get_or (x ∷ ts) k no_turn).next ≡ Some t → AtMost s (st t (i + k))) [
          | zero ↦ λ t l f. (let g : u ≡ t =
              same_time u t (sym e ∙ f) in let b : s.time < u =
              grind (arith, nat_tests, w) in inl (omega (arith, b, g)))
          | suc k ↦ λ t l f. subst (λ m. AtMost s (st t m)) (omega arith) (h.least k t (omega arith) f)
        ];
  })
  | inr w ↦ rw w (record {
    place = 0;
    agent = omega arith;
    inside = omega arith;
    next = e;
    least = λ j. elim j as (λ k. (t : ℕ)
        → k < length (x ∷ ts) → (get_or (x ∷ ts) k no_turn).next ≡ Some t → AtMost (st u i) (st t (i + k))) [
          | zero ↦ λ t l f. (let g : u ≡ t = same_time u t (sym e ∙ f) in inr (g, omega arith))
          | suc k ↦ λ t l f. (let b =
              h.least k t (omega arith) f in let c : u ≤ s.time = grind (arith, nat_tests, w) in grind (arith, b, c))
        ];
  })
]

pub least_is : (i : ℕ) (ts : List AgentState) → LeastIs i ts (least_stamp i ts)
least_is i [] = λ j l. absurd (omega arith)
least_is i (x ∷ ts) = least_step i x ts x.next (least_stamp (i + 1) ts) refl (least_is (i + 1) ts)

pub asks_in : (p : Rule) (s : Stamp) (regs : List ℤ) (done : List (List Hit)) (q : Query)
    → step_of p s regs done ≡ next.Ask q → length done < length p.program.senses
asks_in p s regs done q h = step_laws.asks_in p.program (sight p.classes s regs done) q h

abbrev pub scene : Rule → List Value → Stamp → List ℤ → Scene
scene p values s regs = record { program = p.program; classes = p.classes; values = values; stamp = s; regs = regs }

-- the sequential turn asks the same, if the map gives the kept answers
pub answered_is : (p : Rule) (s : Stamp)
    (regs : List ℤ) (values : List Value) (xs : List KeptSense) (done : List (List Hit)) (fuel : ℕ) (d : Act)
    → Asked p s regs done xs
    → Each (λ (x : KeptSense). hits p.classes values x.query ≡ answer x.hits) xs
    → step_of p s regs (done ++ answers xs) ≡ next.Act d
    → length p.program.senses ≡ fuel + length done
    → deed_from fuel (scene p values s regs) done (step_of p s regs done)
    ≡ Some (record { answers = done ++ answers xs; act = d })
answered_is p s regs values [] done fuel d asked same acts len =
    let e : done ++ [] ≡ done = append-nil done in
    let a : step_of p s regs done ≡ next.Act d = subst (λ w. step_of p s regs w ≡ next.Act d) e acts in
    ap (deed_from fuel (scene p values s regs) done) a ∙ ap (λ w. Some (record { answers = w; act = d })) (sym e)
answered_is p s regs values (x ∷ xs) done zero d asked same acts len =
    absurd (let l = asks_in p s regs done x.query asked.0 in omega arith)
answered_is p s regs values (x ∷ xs) done (suc fuel) d asked same acts len =
    let assoc : (done ++ answer x.hits ∷ []) ++ answers xs ≡ done ++ answers (x ∷ xs) =
    append_assoc done (answer x.hits ∷ []) (answers xs) in
    let acts' : step_of p s regs ((done ++ answer x.hits ∷ []) ++ answers xs) ≡ next.Act d =
    subst (λ w. step_of p s regs w ≡ next.Act d) (sym assoc) acts in
    let rest = answered_is p s regs values xs (done ++ answer x.hits ∷ [])
    fuel d asked.1 same.1 acts' (omega (arith, len, length-append done (answer x.hits ∷ []))) in
    ap (deed_from (suc fuel) (scene p values s regs) done) asked.0
    ∙ (ap (λ h. deed_from fuel (scene p values s regs) (done ++ h ∷ []) (step_of p s regs (done ++ h ∷ []))) same.0
    ∙ (rest ∙ ap (λ w. Some (record { answers = w; act = d })) assoc))

pub step_waits : (p : Rule) (s : Stamp) (regs : List ℤ) (answers : List (List Hit)) (d : Act)
    → step_of p s regs answers ≡ next.Act d → 1 ≤ d.wait
step_waits p s regs answers d h = waits p.program (sight p.classes s regs answers) d h

-- writes stand in rising order of their variables, from lo on
abbrev pub WritesRise : ℕ → List Write → Type 0
WritesRise lo [] = Unit {0}
WritesRise lo (w ∷ ws) = (lo ≤ w.var) × WritesRise (w.var + 1) ws

rising_from : (lo : ℕ) (ws : List Write)
    → ((i : ℕ) (d : Write) → i < length ws → lo ≤ (slice_index_or ws i d).var) → IsRising ws → WritesRise lo ws
rising_from lo [] low r = tt
rising_from lo (w ∷ ws) low r = (
  low 0 w (omega arith),
  rising_from (w.var + 1) ws (λ i d lt. (let k = r 0 (suc i) d (omega arith) (omega arith) in
      omega (arith, k))) (λ i j d lt in'. r (suc i) (suc j) d (omega arith) (omega arith)),
)

pub rises_low : (lo : ℕ) (ws : List Write) (w : Write) → WritesRise lo ws → In w ws → lo ≤ w.var
rises_low lo [] w r i = absurd i
rises_low lo (x ∷ ws) w r (inl e) = subst (λ (z : Write). lo ≤ z.var) (sym e) r.0
rises_low lo (x ∷ ws) w r (inr i) = (let a = rises_low (x.var + 1) ws w r.1 i in let b = r.0 in omega arith)

rises_one : (lo : ℕ) (ws : List Write) (w u : Write) → WritesRise lo ws → In w ws → In u ws → w.var ≡ u.var → w ≡ u
rises_one lo [] w u r i j e = absurd i
rises_one lo (x ∷ ws) w u r (inl f) (inl g) e = f ∙ sym g
rises_one lo (x ∷ ws) w u r (inl f) (inr j) e =
    absurd (let a = rises_low (x.var + 1) ws u r.1 j in let b = ap (λ (z : Write). z.var) f in omega arith)
rises_one lo (x ∷ ws) w u r (inr i) (inl g) e =
    absurd (let a = rises_low (x.var + 1) ws w r.1 i in let b = ap (λ (z : Write). z.var) g in omega arith)
rises_one lo (x ∷ ws) w u r (inr i) (inr j) e = rises_one (x.var + 1) ws w u r.1 i j e

pub step_writes_rise : (p : Rule) (s : Stamp) (regs : List ℤ) (answers : List (List Hit)) (d : Act)
    → step_of p s regs answers ≡ next.Act d → WritesRise 0 d.writes
step_writes_rise p s regs answers d h =
    rising_from 0 d.writes (λ i w lt. omega arith)
    (subst (ForAct (λ (a : Act). IsRising a.writes)) h (step-rises p.program (sight p.classes s regs answers)))

-- a step writes a variable once
pub step_writes_one : (p : Rule) (s : Stamp) (regs : List ℤ) (answers : List (List Hit)) (d : Act) (w u : Write)
    → step_of p s regs answers ≡ next.Act d → In w d.writes → In u d.writes → w.var ≡ u.var → w ≡ u
step_writes_one p s regs answers d w u h = rises_one 0 d.writes w u (step_writes_rise p s regs answers d h)

-- the write to v changes it to x, or none is there and it has x before
pub put_all_at : (lo : ℕ) (ws : List Write) (values : List Value) (v : ℕ) (x : Value)
    → v < length values → WritesRise lo ws
    → Each (λ (w : Write). w.var ≡ v → applied w.change (get_or values v no_value) ≡ x) ws
    → (((w : Write) → In w ws → w.var ≡ v → ⊥) → get_or values v no_value ≡ x)
    → get_or (changed ws values) v no_value ≡ x
put_all_at lo [] values v x lt rise each old = old (λ w i. absurd i)
put_all_at lo (w ∷ ws) values v x lt rise each old =
    let y : Value = applied w.change (get_or values w.var no_value) in
    let lt' : v < length (set values w.var y) = omega (arith, length-set values w.var y) in
    elim (cases_eq w.var v) [
      | inl e ↦ (let now : get_or (set values w.var y) v no_value ≡ x =
          subst (λ k. get_or (set values k (applied w.change (get_or values k no_value))) v no_value ≡ x)
          (sym e) (get_or-set_same values v (applied w.change (get_or values v no_value)) no_value lt ∙ each.0 e) in
          put_all_at (w.var + 1) ws (set values w.var y) v x lt' rise.1
          (each_from (λ (u : Write). u.var ≡ v → applied u.change (get_or (set values w.var y) v no_value) ≡ x)
          ws (λ u i f. absurd (let k = rises_low (w.var + 1) ws u rise.1 i in omega arith))) (λ none. now))
      | inr ne ↦ (let same : get_or (set values w.var y) v no_value ≡ get_or values v no_value =
          get_or-set_other values w.var v y no_value (λ e. ne (sym e)) in
          put_all_at (w.var + 1) ws (set values w.var y) v x lt' rise.1
          (each_from (λ (u : Write). u.var ≡ v → applied u.change (get_or (set values w.var y) v no_value) ≡ x)
          ws (λ u i f. ap (applied u.change) same
          ∙ each_in (λ (u : Write). u.var ≡ v → applied u.change (get_or values v no_value) ≡ x) ws u each.1 i f))
          (λ none. same
          ∙ old (λ u i. elim i [ inl e ↦ (λ k. ne (ap (λ (z : Write). z.var) (sym e) ∙ k)) | inr j ↦ none u j ])))
    ]

-- up to a horizon that is no end of 64 bits a saturated sum is the sum
later_sum : (t w : ℕ) → (t + w ≤ 2 ^ 64 - 1 → later t w ≡ t + w) × (2 ^ 64 - 1 ≤ t + w → later t w ≡ 2 ^ 64 - 1)
later_sum t w = (λ h. omega (arith, h), λ h. omega (arith, h))

pub later_le : (h t w : ℕ) → h < 2 ^ 64 - 1 → nat_le (later t w) h ≡ nat_le (t + w) h
later_le h t w small = elim (cases_Bool (nat_le (t + w) h)) [
  | inl e ↦ (let le : t + w ≤ h = grind (arith, nat_tests, e) in let s : later t w ≡ t + w =
      (later_sum t w).0 (omega (arith, le, small)) in ap (λ k. nat_le k h) s)
  | inr e ↦ (let gt : h < t + w = grind (arith, nat_tests, e) in let g : h < later t w = omega (arith, gt, small) in
      let f : nat_le (later t w) h ≡ false = grind (arith, nat_tests, g) in f ∙ sym e)
]

pub later_is : (h t w : ℕ) → h < 2 ^ 64 - 1 → nat_le (t + w) h ≡ true → later t w ≡ t + w
later_is h t w small e =
    (let le : t + w ≤ h = grind (arith, nat_tests, e) in (later_sum t w).0 (omega (arith, le, small)))

pub later_same : (h t w : ℕ) → h < 2 ^ 64 - 1 → within h (later t w) ≡ within h (t + w)
later_same h t w small = elim (cases_Bool (nat_le (t + w) h)) [
  | inl e ↦ ap (within h) (later_is h t w small e)
  | inr e ↦ (let f : nat_le (later t w) h ≡ false = later_le h t w small ∙ e in rw (e, f))
]
