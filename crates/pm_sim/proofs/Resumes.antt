-- An agent goes on in a kept sense that is given more, or keeps it and goes on as it did.
use Rattle.pm_base.specs.Stamps.{num_eq}
use Rattle.pm_saved.specs.Senses.{answer, answers}
use Rattle.pm_saved.specs.Steps.{act_cuts, cuts_of, withdrawn}
use Rattle.pm_saved.specs.Spots.{Spot}
use Rattle.pm_saved.specs.declared.kept.KeptStep.{KeptStep}
use Rattle.pm_saved.specs.declared.kept.KeptSense.{KeptSense}
use Rattle.pm_saved.specs.declared.kept.KeptAct.{KeptAct}
use Rattle.pm_alp.specs.declared.agent.Agent.{Agent}
use Rattle.std.proofs.Common.{◌≡◌, ℕ, ◌+◌, ◌<◌, ◌≤◌, inl, inr, Bool, true, false, List, [], ◌∷◌, ◌++◌, map, length, get_or, set, refl, arith, ap, sym, ◌∙◌, subst, subst₂, ap₂, Option, Some, None, ℤ, append_assoc}
use Rattle.std.proofs.lemmas.Bool.{cases_Bool}
use Rattle.std.proofs.lemmas.List.{map-append}
use Rattle.pm_base.specs.declared.rows.GiveRow.{GiveRow}
use Rattle.pm_base.specs.declared.rows.Parts.{Parts}
use Rattle.pm_base.specs.declared.stamp.Line.{Line}
use Rattle.pm_base.specs.declared.stamp.Num.{Num}
use Rattle.pm_base.specs.declared.stamp.Stamp.{Stamp}
use Rattle.pm_base.specs.declared.value.Hit.{Hit}
use Rattle.pm_base.specs.declared.value.Query.{Query}
use Rattle.pm_message.specs.declared.Message.{Message}
use Rattle.pm_model.specs.declared.State.{State}
use Rattle.pm_plan.specs.declared.plan.Plan.{Plan}
use Rattle.pm_alp.specs.Agents.{Rule, Sends, go_on, kept_in, no_agent, step_of}
use Rattle.pm_sim.specs.Worlds.{actor_of, rule_at}
use Rattle.pm_sim.specs.Sims.{AgentOk, Asked, Chain, Core, Each, In, LastOpen, NotPast, QueryOk, Rises, SenseOk, is_cut, is_put, no_turn, num_of, sense_nums, st, tally, write_nums}
use Rattle.pm_sim.proofs.Arrivals.{Mailed}
use Rattle.pm_sim.proofs.Goes.{PlanOk, Last}
use Rattle.pm_sim.proofs.Going.{Front, split_here, join, write_nums_append, sense_nums_append, rises_left}
use Rattle.pm_sim.proofs.Lists.{each_in, each_append, each_left, in_left, in_right, in_cases}
use Rattle.pm_sim.proofs.Spots.{Found}
use Rattle.pm_sim.proofs.Stamps.{nums_same}
use Rattle.pm_sim.proofs.Wakes.{went_no_give, AsksUp, quiet_core, going_core}
use Rattle.pm_message.specs.declared.Message.TheVariants as message
use Rattle.pm_step.specs.declared.Next.TheVariants as outcome

pub asked_prefix : (p : Rule)
    (s : Stamp) (regs : List ℤ) (done : List (List Hit)) (xs : List KeptSense) (x y : KeptSense) (zs : List KeptSense)
    → y.query ≡ x.query → Asked p s regs done (xs ++ x ∷ zs) → Asked p s regs done (xs ++ y ∷ [])
asked_prefix p s regs done [] x y zs e a = (a.0 ∙ ap outcome.Ask (sym e), tt)
asked_prefix p s regs done (w ∷ xs) x y zs e a =
    (a.0, asked_prefix p s regs (done ++ answer w.hits ∷ []) xs x y zs e a.1)

pub asked_swap : (p : Rule) (s : Stamp) (regs : List ℤ)
    (done : List (List Hit)) (xs : List KeptSense) (x y : KeptSense) (zs : List KeptSense) → y.query ≡ x.query
    → answer y.hits ≡ answer x.hits → Asked p s regs done (xs ++ x ∷ zs) → Asked p s regs done (xs ++ y ∷ zs)
asked_swap p s regs done [] x y zs e f a =
    (a.0 ∙ ap outcome.Ask (sym e), subst (λ h. Asked p s regs (done ++ h ∷ []) zs) (sym f) a.1)
asked_swap p s regs done (w ∷ xs) x y zs e f a =
    (a.0, asked_swap p s regs (done ++ answer w.hits ∷ []) xs x y zs e f a.1)

pub answers_swap : (xs : List KeptSense) (x y : KeptSense) (zs : List KeptSense)
    → answer y.hits ≡ answer x.hits → answers (xs ++ y ∷ zs) ≡ answers (xs ++ x ∷ zs)
answers_swap [] x y zs f = ap (λ h. h ∷ answers zs) f
answers_swap (w ∷ xs) x y zs f = ap (λ z. answer w.hits ∷ z) (answers_swap xs x y zs f)

pub complete_swap : (xs : List KeptSense) (x y : KeptSense) (zs : List KeptSense) → y.complete ≡ x.complete → Each
    (λ (z : KeptSense). z.complete ≡ true) (xs ++ x ∷ zs) → Each (λ (z : KeptSense). z.complete ≡ true) (xs ++ y ∷ zs)
complete_swap [] x y zs f a = (f ∙ a.0, a.1)
complete_swap (w ∷ xs) x y zs f a = (a.0, complete_swap xs x y zs f a.1)

pub open_swap : (xs : List KeptSense) (x y : KeptSense) (zs : List KeptSense)
    → y.complete ≡ x.complete → LastOpen (xs ++ x ∷ zs) → LastOpen (xs ++ y ∷ zs)
open_swap [] x y [] f a = f ∙ a
open_swap [] x y (z ∷ zs) f a = (f ∙ a.0, a.1)
open_swap (w ∷ []) x y zs f a = (a.0, open_swap [] x y zs f a.1)
open_swap (w ∷ (v ∷ xs)) x y zs f a = (a.0, open_swap (v ∷ xs) x y zs f a.1)

pub open_front : (xs : List KeptSense) (x : KeptSense) (zs : List KeptSense)
    → LastOpen (xs ++ x ∷ zs) → Each (λ (z : KeptSense). z.complete ≡ true) xs
open_front [] x zs a = tt
open_front (w ∷ []) x zs a = (a.0, tt)
open_front (w ∷ (v ∷ xs)) x zs a = (a.0, open_front (v ∷ xs) x zs a.1)

pub in_mid : {X : Type 0} (xs : List X) (x : X) (zs : List X) → In x (xs ++ x ∷ zs)
in_mid xs x zs = in_right xs (x ∷ zs) x (inl refl)

pub rises_after : (lo : ℕ) (xs : List Num) (y : Num) (ys : List Num) (z : Num)
    → Rises lo (xs ++ y ∷ ys) → In z ys → y.seq < z.seq
rises_after lo [] y ys z r i = (let k = late (y.seq + 1) ys r.1 i in omega arith)
  where
    late : (lo' : ℕ) (zs : List Num) → Rises lo' zs → In z zs → lo' ≤ z.seq
    late lo' [] h j = absurd j
    late lo' (w ∷ zs) h (inl e) = subst (λ (u : Num). lo' ≤ u.seq) (sym e) h.0
    late lo' (w ∷ zs) h (inr j) = (let a = late (w.seq + 1) zs h.1 j in let b = h.0 in omega arith)
rises_after lo (x ∷ xs) y ys z r i = rises_after (x.seq + 1) xs y ys z r.1 i

pub in_nums : (xs : List KeptSense) (x : KeptSense) → In x xs → In x.num (map (λ (y : KeptSense). y.num) xs)
in_nums [] x i = absurd i
in_nums (y ∷ ys) x (inl e) = inl (ap (λ (z : KeptSense). z.num) e)
in_nums (y ∷ ys) x (inr i) = inr (in_nums ys x i)

pub in_sense_nums : (ss : List KeptStep) (s : KeptStep) (x : KeptSense)
    → In s ss → In x s.senses → In x.num (sense_nums ss)
in_sense_nums [] s x i j = absurd i
in_sense_nums (y ∷ ss) s x (inl e) j = in_left (map (λ (z : KeptSense). z.num) y.senses)
    (sense_nums ss) x.num (in_nums y.senses x (subst (λ (z : KeptStep). In x z.senses) e j))
in_sense_nums (y ∷ ss) s x (inr i) j =
    in_right (map (λ (z : KeptSense). z.num) y.senses) (sense_nums ss) x.num (in_sense_nums ss s x i j)

-- all but the last are complete
open_last : (xs : List KeptSense) (x : KeptSense) (zs : List KeptSense)
    → LastOpen (xs ++ x ∷ zs) → x.complete ≡ false → zs ≡ []
open_last [] x [] h e = refl
open_last [] x (z ∷ zs) h e = absurd (let a = h.0 in cc)
open_last (w ∷ []) x zs h e = open_last [] x zs h.1 e
open_last (w ∷ (v ∷ xs)) x zs h e = open_last (v ∷ xs) x zs h.1 e

pub none_given : (ss : List KeptStep) (h : GiveRow) → In (message.Give h) (withdrawn ss) → ⊥
none_given [] h j = j
none_given (s ∷ ss) h j = elim (in_cases (act_cuts s.stamp s.act) (withdrawn ss) (message.Give h) j) [
  | inl k ↦ of_act s.stamp s.act k
  | inr k ↦ none_given ss h k
]
  where
    of_cuts : (z : Stamp) (ms : List Num) (ws : List _) → In (message.Give h) (cuts_of z ms ws) → ⊥
    of_cuts z [] ws k = k
    of_cuts z (m ∷ ms) [] k = k
    of_cuts z (m ∷ ms) (w ∷ ws) (inl e) = absurd (cc)
    of_cuts z (m ∷ ms) (w ∷ ws) (inr k) = of_cuts z ms ws k

    of_act : (z : Stamp) (o : Option KeptAct) → In (message.Give h) (act_cuts z o) → ⊥
    of_act z None k = k
    of_act z (Some u) k = of_cuts z u.nums u.entry.writes k

pub none_sent : (p : Plan) (i : ℕ) (a : Agent) (ss : List KeptStep) (r : Sends)
    (front : List KeptStep) (z : Stamp) (done : List KeptSense) → r ≡ go_on (actor_of p i) a.base front z done a.seq
    → (h : GiveRow) → In (message.Give h) (withdrawn ss ++ r.sent) → ⊥
none_sent p i a ss r front z done e h j = elim (in_cases (withdrawn ss) r.sent (message.Give h) j) [
  | inl k ↦ none_given ss h k
  | inr k ↦
      went_no_give (actor_of p i) a.base front z done a.seq _ h (subst (λ (u : Sends). In (message.Give h) u.sent) e k)
]

-- m is for the kept sense at spot; x' is that sense afterwards
module _ (p : Plan)
    (l : Line) (q : State) (issued : List Message) (agents : List Agent) (recs : ℕ → Parts) (old : List Message)
    (pend pend' : Num → ℕ → Type 0) (wait wait' : Num → Type 0) (core : Core p l q issued agents recs old pend wait)
    (i : ℕ) (in' : i < length agents) (plan : PlanOk p (length q.values) i) (pends : (n : Num) (v : ℕ)
    → pend n v → pend' n v) (new : List Message) (m : Message) (num : Num) (for_it : (num_of m).agent ≡ i)
    (no_put : (k : Num) → is_put k m ≡ false) (no_cut : (k : Num) → is_cut k m ≡ false) (no_ask : (k : Num) (z : Stamp)
    (y : Query) → m ≡ message.Ask k z y → ⊥) (no_wake : (k : Num) (z : Stamp) → message.Wake k z ≡ m → ⊥)
    (spot : Spot) (f : Found num (get_or agents i no_agent).steps spot)
    (x' : KeptSense) (x'_num : x'.num ≡ spot.sense.num) (x'_query : x'.query ≡ spot.sense.query)
    (newq : QueryOk p new recs pend' wait' (length q.values) spot.here.stamp x' x'.query)
    (keep : (z : KeptStep) (y : KeptSense) → In z (get_or agents i no_agent).steps
    → In y z.senses → num_eq num y.num ≡ false → QueryOk p new recs pend' wait' (length q.values) z.stamp y y.query)
    (waits : (n : Num) → ((s : Stamp) → m ≡ message.Finish n s → ⊥) → wait n → wait' n) where
  abbrev a : Agent
  a = get_or agents i no_agent

  abbrev n : ℕ
  n = length q.values

  ok : AgentOk p l issued old recs pend wait n i (get_or q.agents i no_turn) a
  ok = core.agent i in'

  abbrev x : KeptSense
  x = spot.sense

  x_num : num ≡ x.num
  x_num = nums_same num x.num f.num

  here_in : In spot.here a.steps
  here_in = subst (In spot.here) (sym f.steps) (in_mid spot.front spot.here spot.rest)

  x_in : In x spot.here.senses
  x_in = subst (In x) (sym f.senses) (in_mid spot.before x spot.later)

  ok_x : SenseOk p issued old recs pend wait n spot.here.stamp x
  ok_x = ok.senses spot.here here_in x x_in

  chain_here : Chain issued p.horizon (rule_at p i) i
      (get_or q.agents i no_turn).regs (get_or q.agents i no_turn).next (spot.front ++ spot.here ∷ spot.rest) a.awaited
  chain_here = subst (λ z. Chain issued p.horizon
      (rule_at p i) i (get_or q.agents i no_turn).regs (get_or q.agents i no_turn).next z a.awaited) f.steps ok.chain

  split : (regs' : List ℤ) × (next' : Option ℕ) × Front issued
      p.horizon (rule_at p i) i (get_or q.agents i no_turn).regs (get_or q.agents i no_turn).next spot.front regs' next'
      × Chain issued p.horizon (rule_at p i) i regs' next' (spot.here ∷ spot.rest) a.awaited
  split = split_here issued p.horizon (rule_at p i) i (get_or q.agents i no_turn).regs
      (get_or q.agents i no_turn).next spot.front spot.here spot.rest a.awaited chain_here

  -- what the kept numbers are, cut at this sense
  nums_here : sense_nums a.steps ≡ (sense_nums spot.front ++ map (λ (z : KeptSense). z.num) spot.before)
      ++ x.num ∷ (map (λ (z : KeptSense). z.num) spot.later ++ sense_nums spot.rest)
  nums_here =
      ap sense_nums f.steps ∙ (sense_nums_append spot.front (spot.here ∷ spot.rest)
      ∙ (ap (λ z. sense_nums spot.front ++ (map (λ (w : KeptSense). w.num) z ++ sense_nums spot.rest)) f.senses
      ∙ (ap (λ z. sense_nums spot.front ++ (z ++ sense_nums spot.rest))
      (map-append (λ (w : KeptSense). w.num) spot.before (x ∷ spot.later))
      ∙ (ap (λ z. sense_nums spot.front ++ z) (append_assoc (map (λ (w : KeptSense). w.num) spot.before)
      (x.num ∷ map (λ (w : KeptSense). w.num) spot.later) (sense_nums spot.rest))
      ∙ sym (append_assoc (sense_nums spot.front) (map (λ (w : KeptSense). w.num) spot.before)
      (x.num ∷ (map (λ (w : KeptSense). w.num) spot.later ++ sense_nums spot.rest)))))))

  rises_here : Rises 0 ((sense_nums spot.front ++ map (λ (z : KeptSense). z.num) spot.before)
      ++ x.num ∷ (map (λ (z : KeptSense). z.num) spot.later ++ sense_nums spot.rest))
  rises_here = subst (Rises 0) nums_here ok.rises

  before_in : (y : KeptSense) → In y spot.before → In y spot.here.senses
  before_in y j = subst (In y) (sym f.senses) (in_left spot.before (x ∷ spot.later) y j)

  front_in : (z : KeptStep) → In z spot.front → In z a.steps
  front_in z j = subst (In z) (sym f.steps) (in_left spot.front (spot.here ∷ spot.rest) z j)

  -- what is known for going on after this sense, which is now complete
  last : x'.complete ≡ true → Each (λ (z : KeptSense). z.complete ≡ true) spot.before
      → (t : ℕ) → split.1 ≡ Some t
      → spot.here.stamp ≡ st t i → Asked (rule_at p i) spot.here.stamp split.0 [] spot.here.senses
      → Last p l q issued agents recs
      old pend pend' wait wait' core i in' spot.front (spot.here ∷ spot.rest) t (spot.before ++ x' ∷ []) split.0 new
  last eb before t en es asked = record {
    steps = f.steps;
    front_ok = subst (Front issued p.horizon (rule_at p i)
        i (get_or q.agents i no_turn).regs (get_or q.agents i no_turn).next spot.front split.0) en split.2;
    gone_regs = split.0;
    gone_next = split.1;
    gone_wait = a.awaited;
    gone_ok = split.3;
    asked = subst (λ z. Asked (rule_at p i) z split.0 [] (spot.before ++ x' ∷ [])) es
        (asked_prefix (rule_at p i) spot.here.stamp split.0 [] spot.before
        x x' spot.later x'_query (subst (Asked (rule_at p i) spot.here.stamp split.0 []) f.senses asked));
    complete = each_append (λ (z : KeptSense). z.complete ≡ true) spot.before (x' ∷ []) before (eb, tt);
    low = subst (NotPast l) es (ok.low spot.here here_in);
    time = subst (λ (z : Stamp). z.time ≤ p.horizon) es (core.times _ ok_x.issue);
    issue = λ y j. elim (in_cases spot.before (x' ∷ []) y j) [
      | inl k ↦
          subst (λ z. In (message.Ask y.num z y.query) issued) es (ok.senses spot.here here_in y (before_in y k)).issue
      | inr k ↦ subst (λ (w : KeptSense). In (message.Ask w.num (st t i) w.query) issued)
          (sym (only y (x') k)) (subst₂ (λ u y. In (message.Ask u (st t i) y) issued)
          (sym x'_num) (sym x'_query) (subst (λ z. In (message.Ask x.num z x.query) issued) es ok_x.issue))
    ];
    front_new = λ z j y k. keep z y (front_in z j) k (f.front z j y k);
    done_new = λ y j. elim (in_cases spot.before (x' ∷ []) y j) [
      | inl k ↦ subst (λ z. QueryOk p new recs pend' wait' n z y y.query)
          es (keep spot.here y here_in (before_in y k) (f.before y k))
      | inr k ↦ subst (λ (w : KeptSense). QueryOk p new recs pend' wait' n (st t i) w w.query)
          (sym (only y x' k)) (subst (λ z. QueryOk p new recs pend' wait' n z x' x'.query) es newq)
    ];
    rises = subst (Rises 0) (sym (ap (λ z. sense_nums spot.front ++ z) (map-append (λ (w : KeptSense). w.num)
        spot.before (x' ∷ []) ∙ ap (λ u. map (λ (w : KeptSense). w.num) spot.before ++ u ∷ []) x'_num)
        ∙ sym (append_assoc (sense_nums spot.front) (map (λ (w : KeptSense). w.num) spot.before) (x.num ∷ []))))
        (rises_left 0 ((sense_nums spot.front ++ map (λ (w : KeptSense). w.num) spot.before) ++ x.num ∷ [])
        (map (λ (w : KeptSense). w.num) spot.later ++ sense_nums spot.rest)
        (subst (Rises 0) (sym (append_assoc (sense_nums spot.front ++ map (λ (w : KeptSense). w.num) spot.before)
        (x.num ∷ []) (map (λ (w : KeptSense). w.num) spot.later ++ sense_nums spot.rest))) rises_here));
  }
    where
      only : (y z : KeptSense) → In y (z ∷ []) → y ≡ z
      only y z (inl e) = e
      only y z (inr j) = absurd j

  before_complete : Each (λ (z : KeptSense). z.complete ≡ true) spot.before
  before_complete = go split.3
    where
      go : Chain issued p.horizon (rule_at p i) i split.0 split.1 (spot.here ∷ spot.rest) a.awaited
          → Each (λ (z : KeptSense). z.complete ≡ true) spot.before
      go (t, en, es, asked, inl o) = open_front spot.before x spot.later (subst LastOpen f.senses o.3)
      go (t, en, es, asked, inr o) = each_left (λ (z : KeptSense). z.complete ≡ true)
          spot.before (x ∷ spot.later) (subst (Each (λ (z : KeptSense). z.complete ≡ true)) f.senses o.2.complete)

  pub no_cuts_open : x.complete ≡ false → withdrawn (spot.here ∷ spot.rest) ≡ []
  no_cuts_open e = go split.3
    where
      go : Chain issued p.horizon (rule_at p i) i split.0 split.1 (spot.here ∷ spot.rest) a.awaited
          → withdrawn (spot.here ∷ spot.rest) ≡ []
      go (t, en, es, asked, inl o) = ap₂ (λ u z. act_cuts spot.here.stamp u ++ withdrawn z) o.0 o.1
      go (t, en, es, asked, inr o) = absurd (let c : x.complete ≡ true =
          each_in (λ (z : KeptSense). z.complete ≡ true) spot.here.senses x o.2.complete x_in in cc)

  -- going on behind this sense
  pub resumed_core : x'.complete ≡ true
      → (r : Sends) → r ≡ go_on (actor_of p i) a.base spot.front spot.here.stamp (spot.before ++ x' ∷ []) a.seq
      → Mailed old new m (withdrawn (spot.here ∷ spot.rest) ++ r.sent)
      → AsksUp p l q issued agents recs old pend pend' wait wait' core i in' pends r.sent
      → Core p l q (issued ++ r.sent) (set agents i r.agent) recs new pend' wait'
  resumed_core eb r is mailed up =
      let c = split.3 in
      going_core p l q issued agents recs old pend pend' wait wait' core i in' pends spot.front
      (spot.here ∷ spot.rest) c.0 (spot.before ++ x' ∷ []) split.0 new m r plan for_it no_put no_cut no_ask mailed
      (last eb before_complete c.0 c.1 c.2 c.3)
      (is ∙ ap (λ z. go_on (actor_of p i) a.base spot.front z (spot.before ++ x' ∷ []) a.seq) c.2) up waits

  -- the sense is kept, and the steps say what they said
  pub kept_core : Mailed old new m [] → x'.complete ≡ x.complete → (x.complete ≡ true → answer x'.hits ≡ answer x.hits)
      → Core p l q issued (set agents i (kept_in a spot x')) recs new pend' wait'
  kept_core mailed ec ea = quiet_core p l q issued agents
      recs old pend pend' wait wait' core i in' pends new m (kept_in a spot x') mailed for_it no_put no_cut no_ask refl
      (λ k. ap (tally (num_eq k)) (write_nums_append spot.front (here' ∷ spot.rest)
      ∙ (sym (write_nums_append spot.front (spot.here ∷ spot.rest)) ∙ ap write_nums (sym f.steps)))) waits
      (record {
        base = ok.base;
        low = λ z j. elim (in_cases spot.front (here' ∷ spot.rest) z j) [
          | inl k ↦ ok.low z (front_in z k)
          | inr k ↦ elim k [
            | inl e ↦ subst (λ (w : KeptStep). NotPast l w.stamp) (sym e) (ok.low spot.here here_in)
            | inr c ↦ ok.low z (rest_in z c)
          ]
        ];
        chain = join issued p.horizon (rule_at p i) i (get_or q.agents i no_turn).regs (get_or q.agents i no_turn).next
            spot.front (here' ∷ spot.rest) a.awaited split.0 split.1 split.2 (swapped split.3);
        senses = λ z j y k. elim (in_cases spot.front (here' ∷ spot.rest) z j) [
          | inl c ↦ keep' z y (front_in z c) k (f.front z c y k)
          | inr c ↦ elim c [
            | inr d ↦ keep' z y (rest_in z d) k (late y.num (in_right (map (λ (w : KeptSense). w.num) spot.later)
                (sense_nums spot.rest) y.num (in_sense_nums spot.rest z y d k)))
            | inl e ↦ subst (λ (w : KeptStep). SenseOk p issued new recs pend' wait' n w.stamp y)
                (sym e) (elim (in_cases spot.before (x' ∷ spot.later) y (subst (λ (w : KeptStep). In y w.senses) e k)) [
                  | inl d ↦ keep' spot.here y here_in (before_in y d) (f.before y d)
                  | inr d ↦ elim d [
                    | inl h ↦ subst (SenseOk p issued new recs pend' wait' n spot.here.stamp)
                        (sym h) (record {
                          issue = subst₂ (λ u y. In (message.Ask u spot.here.stamp y) issued)
                              (sym x'_num) (sym x'_query) ok_x.issue;
                          query = newq;
                        })
                    | inr h ↦ keep' spot.here y here_in (later_in y h) (late y.num (in_left
                        (map (λ (w : KeptSense). w.num) spot.later)
                        (sense_nums spot.rest) y.num (in_nums spot.later y h)))
                  ]
                ])
          ]
        ];
        rises = subst (Rises 0) (sym (sense_nums_append spot.front (here' ∷ spot.rest) ∙ (ap (λ w. sense_nums spot.front
            ++ (w ++ sense_nums spot.rest)) (same_nums spot.before ∙ ap (map (λ (w : KeptSense). w.num)) (sym f.senses))
            ∙ (sym (sense_nums_append spot.front (spot.here ∷ spot.rest)) ∙ ap sense_nums (sym f.steps))))) ok.rises;
        wake = λ w e. elim (mailed.kept (message.Wake w.num w.stamp) (ok.wake w e)) [
          | inl h ↦ absurd (no_wake w.num w.stamp h)
          | inr k ↦ k
        ];
      })
    where
      here' : KeptStep
      here' = record spot.here { senses = spot.before ++ x' ∷ spot.later }

      rest_in : (z : KeptStep) → In z spot.rest → In z a.steps
      rest_in z j = subst (In z) (sym f.steps) (in_right spot.front (spot.here ∷ spot.rest) z (inr j))

      later_in : (y : KeptSense) → In y spot.later → In y spot.here.senses
      later_in y j = subst (In y) (sym f.senses) (in_right spot.before (x ∷ spot.later) y (inr j))

      same_nums : (xs : List KeptSense) → map (λ (w : KeptSense). w.num) (xs ++ x' ∷ spot.later)
          ≡ map (λ (w : KeptSense). w.num) (xs ++ x ∷ spot.later)
      same_nums [] = ap (λ u. u ∷ map (λ (w : KeptSense). w.num) spot.later) x'_num
      same_nums (y ∷ ys) = ap (λ w. y.num ∷ w) (same_nums ys)

      late : (k : Num) → In k (map (λ (w : KeptSense). w.num) spot.later ++ sense_nums spot.rest) → num_eq num k ≡ false
      late k j = elim (cases_Bool (num_eq num k)) [
        | inr e ↦ e
        | inl e ↦ absurd (let r = rises_after 0 (sense_nums spot.front ++ map (λ (w : KeptSense). w.num) spot.before)
            x.num (map (λ (w : KeptSense). w.num) spot.later ++ sense_nums spot.rest) k rises_here j in
            let h = ap (λ (w : Num). w.seq) (sym x_num ∙ nums_same num k e) in omega arith)
      ]

      keep' : (z : KeptStep) (y : KeptSense)
          → In z a.steps → In y z.senses → num_eq num y.num ≡ false → SenseOk p issued new recs pend' wait' n z.stamp y
      keep' z y j k e = record { issue = (ok.senses z j y k).issue; query = keep z y j k e }

      swapped : Chain issued p.horizon (rule_at p i) i split.0 split.1 (spot.here ∷ spot.rest) a.awaited
          → Chain issued p.horizon (rule_at p i) i split.0 split.1 (here' ∷ spot.rest) a.awaited
      swapped (t, en, es, asked, inl o) = (
        t,
        en,
        es,
        by_complete x.complete refl (subst LastOpen f.senses o.3),
        inl (o.0, o.1, o.2, open_swap spot.before x x' spot.later ec (subst LastOpen f.senses o.3)),
      )
        where
          by_complete : (b : Bool) → x.complete ≡ b
              → LastOpen (spot.before ++ x ∷ spot.later) → Asked (rule_at p i) spot.here.stamp split.0 [] here'.senses
          by_complete true e h = asked_swap (rule_at p i) spot.here.stamp split.0 [] spot.before
              x x' spot.later x'_query (ea e) (subst (Asked (rule_at p i) spot.here.stamp split.0 []) f.senses asked)
          by_complete false e h = subst (λ zs. Asked (rule_at p i) spot.here.stamp split.0 [] (spot.before ++ x' ∷ zs))
              (sym (open_last spot.before x spot.later h e))
              (asked_prefix (rule_at p i) spot.here.stamp split.0 [] spot.before
              x x' spot.later x'_query (subst (Asked (rule_at p i) spot.here.stamp split.0 []) f.senses asked))
      swapped (t, en, es, asked, inr o) =
          let xc : x.complete ≡ true =
          each_in (λ (z : KeptSense). z.complete ≡ true) spot.here.senses x o.2.complete x_in in
          let same : answers here'.senses ≡ answers spot.here.senses =
          answers_swap spot.before x x' spot.later (ea xc) ∙ ap answers (sym f.senses) in (
            t,
            en,
            es,
            asked_swap (rule_at p i) spot.here.stamp split.0 [] spot.before x
                x' spot.later x'_query (ea xc) (subst (Asked (rule_at p i) spot.here.stamp split.0 []) f.senses asked),
            inr (
              o.0,
              o.1,
              record {
                complete = complete_swap spot.before
                    x x' spot.later ec (subst (Each (λ (z : KeptSense). z.complete ≡ true)) f.senses o.2.complete);
                acts = subst (λ z. step_of (rule_at p i) spot.here.stamp split.0 z ≡ outcome.Act
                    (record { writes = o.0.entry.writes; regs = o.0.regs; wait = o.0.wait })) (sym same) o.2.acts;
                entry = subst (λ z. o.0.entry
                    ≡ record { stamp = spot.here.stamp; answers = z; writes = o.0.entry.writes }) (sym same) o.2.entry;
                writes = o.2.writes;
              },
              o.3,
            ),
          )
