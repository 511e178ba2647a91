-- Where no message stands below the line, the kept steps below it are the sequential turns.
use Rattle.pm_tables.specs.Tables.{no_value}
use Rattle.pm_saved.specs.Steps.{hand_one, hand_out}
use Rattle.pm_saved.specs.Senses.{answer, answers}
use Rattle.pm_saved.specs.declared.kept.KeptStep.{KeptStep}
use Rattle.pm_saved.specs.declared.kept.KeptSense.{KeptSense}
use Rattle.pm_saved.specs.declared.kept.KeptAct.{KeptAct}
use Rattle.std.proofs.Common.{◌≡◌, ℕ, zero, suc, ◌+◌, ◌<◌, ◌≤◌, ◌⊎◌, inl, inr, Bool, true, false, cond, List, [], ◌∷◌, ◌++◌, flat_map, length, get_or, set, refl, arith, ap, sym, ◌∙◌, subst, subst₂, length-append, Option, Some, None, ℤ, get_or-set_other, get_or-set_same, length-set, nat_le}
use Rattle.std.proofs.lemmas.Bool.{cases_eq}
use Rattle.pm_base.specs.declared.rows.Act.{Act}
use Rattle.pm_base.specs.declared.rows.Entry.{Entry}
use Rattle.pm_base.specs.declared.stamp.Line.{Line}
use Rattle.pm_base.specs.declared.stamp.Stamp.{Stamp}
use Rattle.pm_base.specs.declared.value.Change.{Change}
use Rattle.pm_base.specs.declared.value.Hit.{Hit}
use Rattle.pm_base.specs.declared.value.Query.{Query}
use Rattle.pm_base.specs.declared.value.Value.{Value}
use Rattle.pm_base.specs.declared.value.Write.{Write}
use Rattle.pm_base.specs.Changes.{applied}
use Rattle.pm_base.specs.Layouts.{class_row}
use Rattle.pm_base.specs.Stamps.{IsBefore}
use Rattle.pm_model.specs.Hits.{hits}
use Rattle.pm_model.specs.Runs.{changed, deed, least_stamp, moved, rest, sequential_turn, turn_at, scene_of}
use Rattle.pm_model.specs.declared.AgentState.{AgentState}
use Rattle.pm_model.specs.declared.State.{State}
use Rattle.pm_plan.specs.declared.plan.AgentRow.{AgentRow}
use Rattle.pm_plan.specs.declared.plan.Plan.{Plan}
use Rattle.pm_alp.specs.Agents.{Rule, step_of}
use Rattle.pm_sim.specs.Worlds.{agent_at, in_order, rule_at}
use Rattle.std.proofs.Common.{option_map, slice_get, ap₂}
use Rattle.std.specs.Prelude.{option_and_then}
use Rattle.pm_sim.specs.Worlds.{no_row}
use Rattle.pm_sim.specs.Sims.{Asked, AtMost, Each, In, NotPast, Past, after, is_past, no_turn, st, within, PlanIs}
use Rattle.pm_sim.proofs.Answers.{class_hits, class_hits_same, one_is, class_is}
use Rattle.pm_sim.proofs.Lists.{each_in, each_from, in_left, in_right, in_cases, in_flat, flat_cut, in_order_mid}
use Rattle.pm_sim.proofs.Stamps.{stamps_same, past_true, past_false, past_down, not_past_up, IsUnder, under_after}
use Rattle.pm_sim.proofs.Turns.{IsLeast, LeastIs, least_is, answered_is, step_writes_rise, put_all_at, later_same}
use Rattle.pm_base.specs.declared.value.Query.TheVariants as query
use Rattle.pm_step.specs.declared.Next.TheVariants as outcome

-- the turn after a step that acted; one that did not act leaves it
abbrev pub next_turn : ℕ → Stamp → AgentState → Option KeptAct → AgentState
next_turn h s t None = t
next_turn h s t (Some a) = record { regs = a.regs; next = within h (s.time + a.wait) }

abbrev pub end_one : Bool → AgentState → Option KeptAct → AgentState → AgentState
end_one past t None rest = t
end_one false t (Some a) rest = t
end_one true t (Some a) rest = rest

-- the turn after the steps that are handed out at the line
abbrev pub end_turn : Line → ℕ → AgentState → List KeptStep → AgentState
end_turn l h t [] = t
end_turn l h t (s ∷ ss) = end_one (is_past l s.stamp) t s.act (end_turn l h (next_turn h s.stamp t s.act) ss)

abbrev pub Reaches : Plan → State → List Entry → State → Type 0
Reaches p q [] r = q ≡ r
Reaches p q (e ∷ es) r =
    (mid : State) × (sequential_turn p q ≡ Some (record { entry = e; state = mid })) × Reaches p mid es r

hand_none : (s : KeptStep) (o : Option KeptAct) (rest : List Entry) → hand_one false s o rest ≡ []
hand_none s None rest = refl
hand_none s (Some a) rest = refl

end_none : (t : AgentState) (o : Option KeptAct) (rest : AgentState) → end_one false t o rest ≡ t
end_none t None rest = refl
end_none t (Some a) rest = refl

within_is : (h x t : ℕ) → within h x ≡ Some t → t ≡ x
within_is h x t e = go (nat_le x h) e
  where
    go : (b : Bool) → cond b (Some x) None ≡ Some t → t ≡ x
    go true f = cc
    go false f = absurd (cc)

length-changed : (ws : List Write) (values : List Value) → length (changed ws values) ≡ length values
length-changed [] values = refl
length-changed (w ∷ ws) values = length-changed ws (set values w.var (applied w.change (get_or values w.var no_value)))
    ∙ length-set values w.var (applied w.change (get_or values w.var no_value))

flat_nil : {X Y : Type 0} (f : X → List Y) (xs : List X) (d : X)
    → ((i : ℕ) → i < length xs → f (get_or xs i d) ≡ []) → flat_map f xs ≡ []
flat_nil f [] d h = refl
flat_nil f (x ∷ xs) d h =
    let a : f x ≡ [] = h 0 (omega arith) in
    ap (λ w. w ++ flat_map f xs) a ∙ flat_nil f xs d (λ i lt. h (suc i) (omega arith))

-- an element that is there
there : {X : Type 0} (xs : List X) (i : ℕ) (d : X) → i < length xs → slice_get xs i ≡ Some (get_or xs i d)
there [] i d lt = absurd (omega arith)
there (x ∷ xs) zero d lt = refl
there (x ∷ xs) (suc i) d lt = there xs i d (omega arith)

-- val v s is the value of variable v that a read at s sees, last v that at the line, Live v s x a live put at s
module _ (p : Plan)
    (l : Line) (n : ℕ) (val : ℕ → Stamp → Value) (last : ℕ → Value) (Live : ℕ → Stamp → Change → Type 0) where
  abbrev pub hits_at : Stamp → Query → List Hit
  hits_at s (query.One v) = record { var = v; value = val v s } ∷ []
  hits_at s (query.Class k w) =
      class_hits (λ v. val v s) w (class_row p.layout.classes k).first (class_row p.layout.classes k).count

  abbrev pub InPlan : Query → Type 0
  InPlan (query.One v) = v < n
  InPlan (query.Class k w) = Unit {0}

  -- a step of agent i at time t below the line: it acted on the answers that val gives
  pub record GoodStep (i : ℕ) (regs : List ℤ) (t : ℕ) (s : KeptStep) (a : KeptAct) : Type 0 where
    pub act : s.act ≡ Some a
    pub past : Past l (st t i)
    pub asked : Asked (rule_at p i) (st t i) regs [] s.senses
    pub in_plan : Each (λ (x : KeptSense). InPlan x.query) s.senses
    pub same : Each (λ (x : KeptSense). hits_at (st t i) x.query ≡ answer x.hits) s.senses
    pub acts : step_of (rule_at p i) (st t i) regs (answers s.senses)
        ≡ outcome.Act (record { writes = a.entry.writes; regs = a.regs; wait = a.wait })
    pub entry : a.entry ≡ record { stamp = st t i; answers = answers s.senses; writes = a.entry.writes }
    pub wait : 1 ≤ a.wait

  -- the kept steps of agent i from these registers and next time on are good as far as the line
  abbrev pub Good : ℕ → List ℤ → Option ℕ → List KeptStep → Type 0
  Good i regs next [] = (t : ℕ) → next ≡ Some t → NotPast l (st t i)
  Good i regs next (s ∷ ss) = (t : ℕ) × (next ≡ Some t) × (s.stamp ≡ st t i) × (NotPast l (st t i)
      ⊎ ((a : KeptAct) × GoodStep i regs t s a × Good i a.regs (within p.horizon (t + a.wait)) ss))

  abbrev pub Stops : ℕ → Option ℕ → Type 0
  Stops i next = (t : ℕ) → next ≡ Some t → NotPast l (st t i)

  abbrev pub out : List KeptStep → List Entry
  out ss = hand_out l ss

  good_later : (i : ℕ) (regs : List ℤ) (next : Option ℕ) (ss : List KeptStep) (e : Entry)
      → Good i regs next ss → In e (out ss) → (t : ℕ) × (next ≡ Some t) × AtMost (st t i) e.stamp
  good_later i regs next [] e g h = absurd h
  good_later i regs next (s ∷ ss) e (t, en, es, inl np) h =
      let none : out (s ∷ ss) ≡ [] = ap (λ b. hand_one b s s.act (out ss))
      (ap (is_past l) es ∙ past_false l (st t i) np) ∙ hand_none s s.act (out ss) in
      absurd (subst (In e) none h)
  good_later i regs next (s ∷ ss) e (t, en, es, inr (a, g, rest)) h =
      let one : out (s ∷ ss) ≡ a.entry ∷ out ss = ap (λ b. hand_one b s s.act (out ss))
      (ap (is_past l) es ∙ past_true l (st t i) g.past) ∙ ap (λ o. hand_one true s o (out ss)) g.act in (
        t,
        en,
        elim (subst (In e) one h) [
          | inl x ↦ (let y : e.stamp ≡ st t i =
              ap (λ (z : Entry). z.stamp) (x ∙ g.entry) in subst (AtMost (st t i)) (sym y) (inr (refl, omega arith)))
          | inr x ↦ (let r = good_later i a.regs (within p.horizon (t + a.wait)) ss e rest x in
              let u : r.0 ≡ t + a.wait = within_is p.horizon (t + a.wait) r.0 r.1 in
              let w = g.wait in let m = r.2 in grind (arith, u, w, m))
        ],
      )

  good_done : (i : ℕ) (t : AgentState) (ss : List KeptStep)
      → Good i t.regs t.next ss → Stops i t.next → (out ss ≡ []) × (end_turn l p.horizon t ss ≡ t)
  good_done i t [] g h = (refl, refl)
  good_done i t (s ∷ ss) g h =
      let np : NotPast l (st g.0 i) = h g.0 g.1 in
      let f : is_past l s.stamp ≡ false = ap (is_past l) g.2 ∙ past_false l (st g.0 i) np in (
        ap (λ b. hand_one b s s.act (out ss)) f ∙ hand_none s s.act (out ss),
        ap (λ b. end_one b t s.act (end_turn l p.horizon (next_turn p.horizon s.stamp t s.act) ss)) f
            ∙ end_none t s.act (end_turn l p.horizon (next_turn p.horizon s.stamp t s.act) ss),
      )

  abbrev pub turn_i : State → ℕ → AgentState
  turn_i q i = get_or q.agents i no_turn

  abbrev pub all_out : List (List KeptStep) → List Entry
  all_out rests = flat_map out rests

  -- the sequential state q has made the turns with stamps below c, and rests are the kept steps that are left
  pub record Ready (q : State) (rests : List (List KeptStep)) (c : Stamp) : Type 0 where
    pub turns : length rests ≡ length q.agents
    pub rows : length p.agents ≡ length q.agents
    pub under : IsUnder l c
    pub size : length q.values ≡ n
    pub plan : PlanIs p n
    pub good : (i : ℕ) → i < length rests → Good i (turn_i q i).regs (turn_i q i).next (get_or rests i [])
    pub values : (v : ℕ) → v < n → get_or q.values v no_value ≡ val v c
    pub from : (i t : ℕ) → i < length rests → (turn_i q i).next ≡ Some t → AtMost c (st t i)
    pub puts : (e : Entry) → In e (all_out rests) → (w : Write) → In w e.writes → Live w.var e.stamp w.change
    pub live : (v : ℕ) (s : Stamp) (x : Change) → Live v s x → Past l s
        → AtMost c s → (e : Entry) × In e (all_out rests) × (e.stamp ≡ s) × (w : Write) × In w e.writes × (w.var ≡ v)

  pub record Reached (q : State) (rests : List (List KeptStep)) : Type 0 where
    pub entries : List Entry
    pub end : State
    pub path : Reaches p q entries end
    pub order : in_order (all_out rests) ≡ entries
    pub past : Each (λ (e : Entry). Past l e.stamp) entries
    pub turns : length rests ≡ length end.agents
    pub size : length end.values ≡ n
    pub each : (i : ℕ) → i < length rests → turn_i end i ≡ end_turn l p.horizon (turn_i q i) (get_or rests i [])
    pub values : (v : ℕ) → v < n → get_or end.values v no_value ≡ last v
    pub stops : (i : ℕ) → i < length rests → Stops i (turn_i end i).next

  -- what a record says: a put is seen right after its stamp, and a value changes only there
  pub record Records : Type 0 where
    pub after_put : (v : ℕ) (s : Stamp) (x : Change) → Live v s x → Past l s → val v (after s) ≡ applied x (val v s)
    pub steady : (v : ℕ) (c d : Stamp)
        → AtMost c d → ((s : Stamp) (x : Change) → Live v s x → AtMost c s → IsBefore s d → ⊥) → val v c ≡ val v d
    pub at_last : (v : ℕ) (c : Stamp)
        → IsUnder l c → ((s : Stamp) (x : Change) → Live v s x → AtMost c s → Past l s → ⊥) → val v c ≡ last v

  -- nothing is left below the line
  reached_here : (q : State) (rests : List (List KeptStep)) (c : Stamp)
      → Records → Ready q rests c → ((i : ℕ) → i < length rests → Stops i (turn_i q i).next) → Reached q rests
  reached_here q rests c rec r stops =
      let none : all_out rests ≡ [] =
      flat_nil out rests [] (λ i lt. (good_done i (turn_i q i) (get_or rests i []) (r.good i lt) (stops i lt)).0) in
      record {
        entries = [];
        end = q;
        path = refl;
        order = ap in_order none;
        past = tt;
        turns = r.turns;
        size = r.size;
        each = λ i lt. sym (good_done i (turn_i q i) (get_or rests i []) (r.good i lt) (stops i lt)).1;
        values = λ v lt. r.values v lt ∙ rec.at_last
            v c r.under (λ s x live le past. (let f = r.live v s x live past le in subst (In f.0) none f.1));
        stops = stops;
      }

  abbrev moved_to : State → Stamp → KeptAct → State
  moved_to q s a = record {
    values = changed a.entry.writes q.values;
    agents = set q.agents s.agent (record { regs = a.regs; next = within p.horizon (s.time + a.wait) });
  }

  each_hits : (q : State) (s : Stamp) (xs : List KeptSense)
      → PlanIs p n → length q.values ≡ n → ((v : ℕ) → v < n → get_or q.values v no_value ≡ val v s)
      → Each (λ (x : KeptSense). InPlan x.query) xs → Each (λ (x : KeptSense). hits_at s x.query ≡ answer x.hits) xs
      → Each (λ (x : KeptSense). hits p.layout.classes q.values x.query ≡ answer x.hits) xs
  each_hits q s [] plan size f inp same = tt
  each_hits q s (x ∷ xs) plan size f inp same = (one x.query inp.0 ∙ same.0, each_hits q s xs plan size f inp.1 same.1)
    where
      one : (k : Query) → InPlan k → hits p.layout.classes q.values k ≡ hits_at s k
      one (query.One v) lt = one_is p.layout.classes q.values v (omega (arith, lt, size))
          ∙ ap (λ y. record { var = v; value = y } ∷ []) (f v lt)
      one (query.Class k w) lt =
          let r = plan.range k in
          class_is p.layout.classes q.values k w (omega (arith, r, size))
          ∙ class_hits_same (λ v. get_or q.values v no_value) (λ v. val v s) w (class_row p.layout.classes k).first
          (class_row p.layout.classes k).count (λ v lo hi. f v (omega (arith, r, hi)))

  -- the sequential turn is the kept step
  turn_is : (q : State) (s : Stamp) (x : KeptStep) (a : KeptAct) → least_stamp 0 q.agents ≡ Some s → s.agent
      < length q.agents → length p.agents ≡ length q.agents → GoodStep s.agent (turn_i q s.agent).regs s.time x a
      → PlanIs p n → length q.values ≡ n → ((v : ℕ) → v < n → get_or q.values v no_value ≡ val v s)
      → sequential_turn p q ≡ Some (record { entry = a.entry; state = moved_to q s a })
  turn_is q s x a least in' rows g plan size values =
      let prog : Rule = (rule_at p s.agent) in
      let regs : List ℤ = (turn_i q s.agent).regs in
      let d : Act = record { writes = a.entry.writes; regs = a.regs; wait = a.wait } in
      let known = answered_is prog s regs q.values x.senses [] (length prog.program.senses)
      d g.asked (each_hits q s x.senses plan size values g.in_plan g.same) g.acts (omega arith) in
      let row : slice_get p.agents s.agent ≡ Some (agent_at p s.agent) =
      there p.agents s.agent no_row (omega (arith, in', rows)) in
      let turn : slice_get q.agents s.agent ≡ Some (turn_i q s.agent) = there q.agents s.agent no_turn in' in
      ap (option_and_then (turn_at p q)) least
      ∙ (ap (option_and_then (λ (r : AgentRow). option_and_then
      (λ (t : AgentState). option_map (moved p q s) (deed (scene_of p q s r t))) (slice_get q.agents s.agent))) row
      ∙ (ap (option_and_then
      (λ (t : AgentState). option_map (moved p q s) (deed (scene_of p q s (agent_at p s.agent) t)))) turn
      ∙ (ap (option_map (moved p q s)) known
      ∙ ap₂ (λ (e : Entry) (o : Option ℕ). Some (record {
        entry = e;
        state = record {
          values = changed a.entry.writes q.values;
          agents = set q.agents s.agent (record { regs = a.regs; next = o });
        };
      }))
      (sym g.entry) (later_same p.horizon s.time a.wait plan.small))))

  at_after : (s t : Stamp) → IsBefore s t → AtMost (after s) t
  at_after s t h = grind arith

  good_at : (j : ℕ) (t u : AgentState) (ss ys : List KeptStep)
      → t ≡ u → ss ≡ ys → Good j u.regs u.next ys → Good j t.regs t.next ss
  good_at j t u ss ys e f g =
      subst₂ (λ (w : AgentState) (zs : List KeptStep). Good j w.regs w.next zs) (sym e) (sym f) g

  -- after one turn everything is as before, later
  ready_next : (q : State) (rests : List (List KeptStep))
      (c s : Stamp) (x : KeptStep) (xs : List KeptStep) (a : KeptAct) → Records → Ready q rests c → IsLeast 0 q.agents s
      → get_or rests s.agent [] ≡ x ∷ xs → x.stamp ≡ s → GoodStep s.agent (turn_i q s.agent).regs s.time x a
      → Good s.agent a.regs (within p.horizon (s.time + a.wait)) xs
      → (left right : List Entry)
      × (all_out rests ≡ left ++ a.entry ∷ right) × (all_out (set rests s.agent xs) ≡ left ++ right)
      × Each (λ (e : Entry). IsBefore a.entry.stamp e.stamp) (left ++ right)
      × ((v : ℕ) → v < n → get_or q.values v no_value ≡ val v s)
      × Ready (moved_to q s a) (set rests s.agent xs) (after s)
  ready_next q rests c s x xs a rec r least here stamp g rest =
      let i : ℕ = s.agent in
      let q1 : State = moved_to q s a in
      let rests1 : List (List KeptStep) = set rests i xs in
      let at_i : i ≡ 0 + least.place = least.agent in
      let ini : i < length rests = (let k = least.inside in let m = r.turns in omega arith) in
      let next_i : (turn_i q i).next ≡ Some s.time =
      subst (λ (k : ℕ). (turn_i q k).next ≡ Some s.time) (sym (at_i ∙ omega arith)) least.next in
      let cs : AtMost c s = r.from i s.time ini next_i in
      let low : (j t : ℕ) → j < length rests → (turn_i q j).next ≡ Some t → AtMost s (st t j) = λ j t lt e.
      subst (λ k. AtMost s (st t k)) (omega arith) (least.least j t (let m = r.turns in omega arith) e) in
      let one : out (x ∷ xs) ≡ a.entry ∷ out xs = ap (λ b. hand_one b x x.act (out xs))
      (ap (is_past l) stamp ∙ past_true l s g.past) ∙ ap (λ o. hand_one true x o (out xs)) g.act in
      let take_cut = flat_cut out rests i [] xs a.entry ini (ap out here ∙ one) in
      let es : a.entry.stamp ≡ s = ap (λ (z : Entry). z.stamp) g.entry in
      let same_i : turn_i q1 i ≡ record { regs = a.regs; next = within p.horizon (s.time + a.wait) } =
      get_or-set_same q.agents i (record { regs = a.regs; next = within p.horizon (s.time + a.wait) })
      no_turn (let m = r.turns in omega arith) in
      let same_r : get_or rests1 i [] ≡ xs = get_or-set_same rests i xs [] ini in
      let len1 : length rests1 ≡ length rests = length-set rests i xs in
      let good1 : (j : ℕ) → j < length rests1 → Good j (turn_i q1 j).regs (turn_i q1 j).next (get_or rests1 j []) =
      λ j lt. elim (cases_eq j i) [
        | inl e ↦ subst (λ k. Good k (turn_i q1 k).regs (turn_i q1 k).next (get_or rests1 k [])) (sym e)
            (good_at i (turn_i q1 i) (record { regs = a.regs; next = within p.horizon (s.time + a.wait) })
            (get_or rests1 i []) xs same_i same_r rest)
        | inr ne ↦ good_at j (turn_i q1 j) (turn_i q j) (get_or rests1 j []) (get_or rests j [])
            (get_or-set_other q.agents i j _ no_turn ne) (get_or-set_other rests i j xs [] ne) (r.good j (omega arith))
      ] in
      let from1 : (j t : ℕ) → j < length rests1 → (turn_i q1 j).next ≡ Some t → AtMost (after s) (st t j) =
      λ j t lt e. elim (cases_eq j i) [
        | inl k ↦ (let u : within p.horizon (s.time + a.wait) ≡ Some t =
            sym (ap (λ (w : AgentState). w.next) (ap (turn_i q1) k ∙ same_i)) ∙ e in
            let v : t ≡ s.time + a.wait = within_is p.horizon (s.time + a.wait) t u in
            let w = g.wait in inl (omega arith))
        | inr ne ↦ (let u : (turn_i q j).next ≡ Some t =
            sym (ap (λ (w : AgentState). w.next) (get_or-set_other q.agents i j _ no_turn ne)) ∙ e in
            let le = low j t (omega arith) u in grind (arith, le, ne))
      ] in
      let late : Each (λ (e : Entry). IsBefore s e.stamp) (all_out rests1) =
      each_from (λ (e : Entry). IsBefore s e.stamp) (all_out rests1) (λ e h.
      let f = in_flat out rests1 [] e h in
      let k = good_later f.0 (turn_i q1 f.0).regs (turn_i q1 f.0).next (get_or rests1 f.0 []) e (good1 f.0 f.1) f.2 in
      let m = from1 f.0 k.0 f.1 k.1 in
      let o = k.2 in grind (arith, m, o)) in
      let now : (v : ℕ) → v < n → get_or q.values v no_value ≡ val v s =
      λ v lt. r.values v lt ∙ rec.steady v c s cs (λ t y live le lt'.
      let f = r.live v t y live (past_down l t s (grind (arith, lt')) g.past) le in
      let h = in_flat out rests [] f.0 f.1 in
      let k = good_later h.0 (turn_i q h.0).regs (turn_i q h.0).next (get_or rests h.0 []) f.0 (r.good h.0 h.1) h.2 in
      let m = low h.0 k.0 h.1 k.1 in
      let o : AtMost (st k.0 h.0) t = subst (AtMost (st k.0 h.0)) f.2 k.2 in
      grind (arith, m, o, lt')) in
      let find : (e : Entry) → In e (all_out rests) → (e ≡ a.entry) ⊎ In e (all_out rests1) =
      λ e h. elim (in_cases take_cut.0 (a.entry ∷ take_cut.1) e (subst (In e) take_cut.2 h)) [
        | inl j ↦ inr (subst (In e) (sym take_cut.3) (in_left take_cut.0 take_cut.1 e j))
        | inr j ↦
            elim j [ inl k ↦ inl k | inr k ↦ inr (subst (In e) (sym take_cut.3) (in_right take_cut.0 take_cut.1 e k)) ]
      ] in
      let back : (e : Entry) → In e (all_out rests1) → In e (all_out rests) =
      λ e h. subst (In e) (sym take_cut.2) (elim (in_cases take_cut.0 take_cut.1 e (subst (In e) take_cut.3 h)) [
        | inl j ↦ in_left take_cut.0 (a.entry ∷ take_cut.1) e j
        | inr j ↦ in_right take_cut.0 (a.entry ∷ take_cut.1) e (inr j)
      ]) in
      let head : In a.entry (all_out rests) =
      subst (In a.entry) (sym take_cut.2) (in_right take_cut.0 (a.entry ∷ take_cut.1) a.entry (inl refl)) in (
        take_cut.0,
        take_cut.1,
        take_cut.2,
        take_cut.3,
        subst (Each (λ (e : Entry). IsBefore a.entry.stamp e.stamp))
            take_cut.3 (subst (λ k. Each (λ (e : Entry). IsBefore k e.stamp) (all_out rests1)) (sym es) late),
        now,
        record {
          rows = r.rows
              ∙ sym (length-set q.agents i (record { regs = a.regs; next = within p.horizon (s.time + a.wait) }));
          turns = omega (
            arith,
            len1,
            r.turns,
            length-set q.agents i (record { regs = a.regs; next = within p.horizon (s.time + a.wait) }),
          );
          under = under_after l s g.past;
          size = length-changed a.entry.writes q.values ∙ r.size;
          plan = r.plan;
          good = good1;
          values = λ v lt. put_all_at 0 a.entry.writes q.values v (val v (after s))
              (let m = r.size in omega arith) (step_writes_rise (rule_at p i) (st s.time i) (turn_i q i).regs
              (answers x.senses) (record { writes = a.entry.writes; regs = a.regs; wait = a.wait }) g.acts)
              (each_from (λ (w : Write). w.var ≡ v → applied w.change (get_or q.values v no_value) ≡ val v (after s))
              a.entry.writes (λ w h e.
              let live : Live w.var s w.change = subst (λ k. Live w.var k w.change) es (r.puts a.entry head w h) in
              ap (applied w.change) (now v lt) ∙ sym (subst
              (λ k. val k (after s) ≡ applied w.change (val k s)) e (rec.after_put w.var s w.change live g.past))))
              (λ none. now v lt ∙ rec.steady v s (after s) (grind arith) (λ t y live le lt'.
              let same : t ≡ s = stamps_same t s (grind (arith, le, lt')) (grind (arith, le, lt')) in
              let f = r.live v t y live (subst (Past l) (sym same) g.past) (grind (arith, cs, le)) in
              elim (find f.0 f.1) [
                | inl e ↦ none f.3 (subst (λ (z : Entry). In f.3 z.writes) e f.4) f.5
                | inr j ↦ (let b : IsBefore s f.0.stamp =
                    each_in (λ (z : Entry). IsBefore s z.stamp) (all_out rests1) f.0 late j in
                    let b' : IsBefore s t = subst (IsBefore s) f.2 b in grind (arith, b', lt'))
              ]));
          from = from1;
          puts = λ e h. r.puts e (back e h);
          live = λ v t y live past le.
              let f = r.live v t y live past (grind (arith, cs, le)) in
              elim (find f.0 f.1) [
                | inl e ↦ absurd (let k : t ≡ s = sym f.2 ∙ (ap (λ (z : Entry). z.stamp) e ∙ es) in
                    let k' : AtMost (after s) s = subst (AtMost (after s)) k le in grind (arith, k'))
                | inr j ↦ (f.0, j, f.2, f.3, f.4, f.5)
              ];
        },
      )

  abbrev pub Shorter : List (List KeptStep) → Type 0
  Shorter rests = (q : State) (rests1 : List (List KeptStep)) (c : Stamp)
      → Ready q rests1 c → suc (length (all_out rests1)) ≡ length (all_out rests) → Reached q rests1

  -- no turn is left below the line, since the least is not
  stops_here : (q : State) (rests : List (List KeptStep)) (c s : Stamp)
      → Ready q rests c → IsLeast 0 q.agents s → NotPast l s → (i : ℕ) → i < length rests → Stops i (turn_i q i).next
  stops_here q rests c s r least np i lt t e =
      not_past_up l s (st t i)
      (subst (λ k. AtMost s (st t k)) (omega arith) (least.least i t (let m = r.turns in omega arith) e)) np

  one_turn : (q : State) (rests : List (List KeptStep)) (c s : Stamp) (x : KeptStep) (xs : List KeptStep) (a : KeptAct)
      → Records → Ready q rests c → least_stamp 0 q.agents ≡ Some s → IsLeast 0 q.agents s
      → get_or rests s.agent [] ≡ x ∷ xs → x.stamp ≡ s → GoodStep s.agent (turn_i q s.agent).regs s.time x a
      → Good s.agent a.regs (within p.horizon (s.time + a.wait)) xs
      → Shorter rests → Reached q rests
  one_turn q rests c s x xs a rec r e least here stamp g rest ih =
      let i : ℕ = s.agent in
      let q1 : State = moved_to q s a in
      let rests1 : List (List KeptStep) = set rests i xs in
      let new : AgentState = record { regs = a.regs; next = within p.horizon (s.time + a.wait) } in
      let k = ready_next q rests c s x xs a rec r least here stamp g rest in
      let shorter : suc (length (all_out rests1)) ≡ length (all_out rests) =
      omega (arith, ap length k.2, ap length k.3, length-append k.0 (a.entry ∷ k.1), length-append k.0 k.1) in
      let more : Reached q1 rests1 = ih q1 rests1 (after s) k.6 shorter in
      let len1 : length rests1 ≡ length rests = length-set rests i xs in
      let ini : i < length rests = (let u = least.inside in let m = r.turns in let w = least.agent in omega arith) in
      let same_i : turn_i q1 i ≡ new = get_or-set_same q.agents i new no_turn (let m = r.turns in omega arith) in
      let same_r : get_or rests1 i [] ≡ xs = get_or-set_same rests i xs [] ini in
      let step_i : end_turn l p.horizon (turn_i q i) (x ∷ xs) ≡ end_turn l p.horizon new xs =
      ap (λ b. end_one b (turn_i q i) x.act (end_turn l p.horizon (next_turn p.horizon x.stamp (turn_i q i) x.act) xs))
      (ap (is_past l) stamp ∙ past_true l s g.past)
      ∙ (ap (λ o. end_one true (turn_i q i) o (end_turn l p.horizon (next_turn p.horizon x.stamp (turn_i q i) o) xs))
      g.act
      ∙ ap (λ (z : Stamp). end_turn l p.horizon (next_turn p.horizon z (turn_i q i) (Some a)) xs) stamp) in
      record {
        entries = a.entry ∷ more.entries;
        end = more.end;
        path = (q1, turn_is q s x a e (let m = r.turns in omega (arith, m, ini)) r.rows g r.plan r.size k.5, more.path);
        order = ap in_order k.2
            ∙ (in_order_mid k.0 a.entry k.1 k.4 ∙ ap (λ w. a.entry ∷ w) (ap in_order (sym k.3) ∙ more.order));
        past = (subst (Past l) (sym (ap (λ (z : Entry). z.stamp) g.entry)) g.past, more.past);
        turns = sym len1 ∙ more.turns;
        size = more.size;
        each = λ j lt. elim (cases_eq j i) [
          | inl f ↦ subst (λ w. turn_i more.end w ≡ end_turn l p.horizon (turn_i q w) (get_or rests w [])) (sym f)
              (more.each i (omega arith) ∙ (ap (λ w. end_turn l p.horizon w (get_or rests1 i [])) same_i ∙ (ap (end_turn
              l p.horizon new) same_r ∙ (sym step_i ∙ ap (end_turn l p.horizon (turn_i q i)) (sym here)))))
          | inr ne ↦ more.each j (omega arith)
              ∙ (ap (λ w. end_turn l p.horizon w (get_or rests1 j [])) (get_or-set_other q.agents i j new no_turn ne)
              ∙ ap (end_turn l p.horizon (turn_i q j)) (get_or-set_other rests i j xs [] ne))
        ];
        values = more.values;
        stops = λ j lt. more.stops j (omega arith);
      }

  by_step : (q : State) (rests : List (List KeptStep)) (c s : Stamp) (ss : List KeptStep)
      → Records → Ready q rests c → least_stamp 0 q.agents ≡ Some s → IsLeast 0 q.agents s
      → get_or rests s.agent [] ≡ ss
      → Good s.agent (turn_i q s.agent).regs (turn_i q s.agent).next ss → (turn_i q s.agent).next ≡ Some s.time
      → Shorter rests → Reached q rests
  by_step q rests c s [] rec r e least here good next ih =
      reached_here q rests c rec r (stops_here q rests c s r least (good s.time next))
  by_step q rests c s (x ∷ xs) rec r e least here (t, en, es, inl np) next ih =
      let same : t ≡ s.time = cc in
      reached_here q rests c rec r (stops_here q rests c s r least (subst (λ k. NotPast l (st k s.agent)) same np))
  by_step q rests c s (x ∷ xs) rec r e least here (t, en, es, inr (a, g, rest)) next ih =
      let same : t ≡ s.time = cc in
      one_turn q rests c s x xs a rec r e least here (es ∙ ap (λ k. st k s.agent) same)
      (subst (λ k. GoodStep s.agent (turn_i q s.agent).regs k x a) same g)
      (subst (λ k. Good s.agent a.regs (within p.horizon (k + a.wait)) xs) same rest) ih

  by_least : (q : State) (rests : List (List KeptStep)) (c : Stamp) (o : Option Stamp)
      → Records → Ready q rests c → least_stamp 0 q.agents ≡ o → LeastIs 0 q.agents o → Shorter rests → Reached q rests
  by_least q rests c None rec r e least ih = reached_here q rests
      c rec r (λ i lt t f. absurd (let m : (turn_i q i).next ≡ None = least i (let k = r.turns in omega arith) in cc))
  by_least q rests c (Some s) rec r e least ih =
      let at_i : s.agent ≡ least.place = (let k = least.agent in omega arith) in
      let next : (turn_i q s.agent).next ≡ Some s.time =
      subst (λ (k : ℕ). (turn_i q k).next ≡ Some s.time) (sym at_i) least.next in
      let ini : s.agent < length rests = (let u = least.inside in let m = r.turns in omega arith) in
      by_step q rests c s (get_or rests s.agent []) rec r e least refl (r.good s.agent ini) next ih

  -- the kept steps below the line are the sequential turns, in order
  pub reach : (m : ℕ) (q : State) (rests : List (List KeptStep)) (c : Stamp)
      → Records → Ready q rests c → length (all_out rests) ≡ m → Reached q rests
  reach zero q rests c rec r len = by_least
      q rests c (least_stamp 0 q.agents) rec r refl (least_is 0 q.agents) (λ q1 rests1 c1 r1 e. absurd (omega arith))
  reach (suc m) q rests c rec r len = by_least q rests c (least_stamp 0 q.agents)
      rec r refl (least_is 0 q.agents) (λ q1 rests1 c1 r1 e. reach m q1 rests1 c1 rec r1 (omega arith))
