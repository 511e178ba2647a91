-- What an agent does where nothing is on its way to a communication process: it leaves the world straight.
use Rattle.std.proofs.Common.{◌≡◌, ℕ, suc, ◌+◌, ◌<◌, ◌≤◌, inl, inr, ◌==◌, Bool, true, false, cond, nat_le, List, [], ◌∷◌, ◌++◌, get_or, length, map, refl, arith, ap, sym, ◌∙◌, subst, Option, Some, None, slice_index_or, ℤ}
use Rattle.std.proofs.lemmas.Bool.Decides.{nat_tests}
use Rattle.pm_base.specs.Stamps.{num_eq}
use Rattle.pm_base.specs.declared.rows.Act.{Act}
use Rattle.pm_base.specs.declared.rows.GiveRow.{GiveRow}
use Rattle.pm_base.specs.declared.rows.Parts.{Parts}
use Rattle.pm_base.specs.declared.stamp.Num.{Num}
use Rattle.pm_base.specs.declared.stamp.Stamp.{Stamp}
use Rattle.pm_base.specs.declared.value.Query.{Query}
use Rattle.pm_base.specs.declared.value.Query.TheVariants as query
use Rattle.pm_base.specs.declared.value.Write.{Write}
use Rattle.pm_message.specs.declared.Message.{Message}
use Rattle.pm_message.specs.declared.Message.TheVariants as message
use Rattle.pm_model.specs.Runs.{later}
use Rattle.pm_model.specs.declared.State.{State}
use Rattle.pm_plan.specs.Plans.{IsValid}
use Rattle.pm_plan.specs.declared.plan.Plan.{Plan}
use Rattle.pm_saved.specs.Senses.{answer, answers, hits_eq, kept_turn}
use Rattle.pm_saved.specs.Senses as senses
use Rattle.pm_saved.specs.Spots.{Spot, find}
use Rattle.pm_saved.specs.Steps.{act_cuts, cuts_of, regs_after, withdrawn}
use Rattle.pm_saved.specs.declared.kept.KeptAct.{KeptAct}
use Rattle.pm_saved.specs.declared.kept.KeptSense.{KeptSense}
use Rattle.pm_saved.specs.declared.kept.KeptStep.{KeptStep}
use Rattle.pm_step.proofs.StepLaws.{step-rises}
use Rattle.pm_step.specs.Expressions.{sight}
use Rattle.pm_step.specs.Steps.{ForAct, IsRising}
use Rattle.pm_step.specs.declared.Next.{Next}
use Rattle.pm_step.specs.declared.Next.TheVariants as outcome
use Rattle.pm_alp.specs.Agents.{Actor, Sends, act_sends, agent_after, at_open, finished, go_on, kept_in, next_wake, no_agent, no_sends, on_finish, on_give, on_wake, puts_of, rolled_back, wake_of, went_on}
use Rattle.pm_alp.specs.declared.agent.Agent.{Agent}
use Rattle.pm_alp.specs.declared.agent.Awaited.{Awaited}
use Rattle.pm_sim.proofs.Going.{tally_append}
use Rattle.pm_sim.proofs.Letters.{More, OneMore, all_posted, in_map, sent_mail, taken, tally_map}
use Rattle.pm_sim.proofs.Places.{Sim}
use Rattle.pm_sim.proofs.Promised.{plan_fits}
use Rattle.pm_sim.proofs.Quiets.{tally_none}
use Rattle.pm_sim.specs.Routings.{FitsAt, ForAgent, mail_to}
use Rattle.pm_sim.specs.Sims.{In, one_if, tally}
use Rattle.pm_sim.specs.Worlds.{Mail, Posted, Process, Taken, World, actor_of, addressed, arrives, clps_of, home, mail, post_all, rule_at, take_from}
use Rattle.pm_sim.specs.Worlds.Process.{AtAgent, AtClp}
use Rattle.pm_calm.proofs.Rounds.{reached_kept}
use Rattle.pm_cost.specs.Straight.{AgentsStayStraight, Shut, Straight, touches}

-- writes of rising variables: at most one touches each
puts_none : (v a n : ℕ) (s : Stamp) (ws : List Write)
    → ((j : ℕ) (d : Write) → j < length ws → v < (slice_index_or ws j d).var)
    → tally (touches v) (puts_of a s n ws) ≡ 0
puts_none v a n s [] h = refl
puts_none v a n s (w ∷ ws) h =
    let again = puts_none v a (n + 1) s ws (λ j d l. h (suc j) d (omega (arith, l))) in
    let lt : v < w.var = h 0 w (omega arith) in
    let b : (v == w.var) ≡ false = grind (arith, nat_tests, lt) in
    ap (λ z. one_if z (tally (touches v) (puts_of a s (n + 1) ws))) b ∙ again

puts_few : (v a n : ℕ) (s : Stamp) (ws : List Write) → IsRising ws → tally (touches v) (puts_of a s n ws) ≤ 1
puts_few v a n s [] up = omega arith
puts_few v a n s (w ∷ ws) up =
    by (v == w.var) refl (puts_few v a (n + 1) s ws
    (λ i j d l m. up (suc i) (suc j) d (omega (arith, l)) (omega (arith, m))))
  where
    by : (b : Bool) → (v == w.var) ≡ b → tally (touches v) (puts_of a s (n + 1) ws) ≤ 1
        → one_if b (tally (touches v) (puts_of a s (n + 1) ws)) ≤ 1
    by false e le = le
    by true e le =
        let same : v ≡ w.var = grind (arith, nat_tests, e) in
        let none = puts_none v a (n + 1) s ws (λ j d l. subst (λ k. k < (slice_index_or ws j d).var) (sym same)
        (up 0 (suc j) d (omega arith) (omega (arith, l)))) in
        omega (arith, none)

cuts_none : (v : ℕ) (s : Stamp) (ns : List Num) (ws : List Write) → tally (touches v) (cuts_of s ns ws) ≡ 0
cuts_none v s [] ws = refl
cuts_none v s (n ∷ ns) [] = refl
cuts_none v s (n ∷ ns) (w ∷ ws) = cuts_none v s ns ws

withdrawn_none : (v : ℕ) (ss : List KeptStep) → tally (touches v) (withdrawn ss) ≡ 0
withdrawn_none v [] = refl
withdrawn_none v (s ∷ ss) =
    let a = withdrawn_none v ss in let b = one s.act in
    let t = tally_append (touches v) (act_cuts s.stamp s.act) (withdrawn ss) in omega (arith, a, b, t)
  where
    one : (o : Option KeptAct) → tally (touches v) (act_cuts s.stamp o) ≡ 0
    one None = refl
    one (Some a) = cuts_none v s.stamp a.nums a.entry.writes

module _ (p : Actor) (up : (s : Stamp) (regs : List ℤ) (done : List _) (d : Act)
    → p.acts s regs done ≡ outcome.Act d → IsRising d.writes) (v : ℕ) where
  abbrev Few : Sends → Type 0
  Few r = tally (touches v) r.sent ≤ 1

  wake_none : (o : Option Awaited) → tally (touches v) (wake_of o) ≡ 0
  wake_none None = refl
  wake_none (Some w) = refl

  went_few : (base : List ℤ) (front : List KeptStep) (s : Stamp) (xs : List KeptSense) (seq : ℕ) (out : Next)
      → ((d : Act) → out ≡ outcome.Act d → IsRising d.writes) → Few (went_on p base front s xs seq out)
  went_few base front s xs seq (outcome.Ask (query.One u)) h = one (v == u)
    where
      one : (b : Bool) → one_if b 0 ≤ 1
      one true = omega arith
      one false = omega arith
  went_few base front s xs seq (outcome.Ask (query.Class k w)) h = omega arith
  went_few base front s xs seq (outcome.Act d) h = go (nat_le (later s.time d.wait) p.horizon)
    where
      go : (b : Bool) → Few (act_sends p.agent base front s xs seq d b)
      go b =
          let a = puts_few v p.agent seq s d.writes (h d refl) in
          let n = wake_none (next_wake b p.agent s seq d) in
          let t = tally_append (touches v) (puts_of p.agent s seq d.writes) (wake_of (next_wake b p.agent s seq d)) in
          omega (arith, a, n, t)

  go_few : (base : List ℤ) (front : List KeptStep) (s : Stamp) (xs : List KeptSense) (seq : ℕ)
      → Few (go_on p base front s xs seq)
  go_few base front s xs seq = went_few base front s xs seq (p.acts s (regs_after base front) (answers xs))
      (λ d e. up s (regs_after base front) (answers xs) d e)

  open_few : (a : Agent) (spot : Spot) (y : Query) (x : KeptSense) → Few (at_open p a spot y x)
  open_few a spot (query.One u) x = go_few a.base spot.front spot.here.stamp _ a.seq
  open_few a spot (query.Class k w) x = omega arith

  back_few : (a : Agent) (spot : Spot) (x : KeptSense) → Few (rolled_back p a spot x)
  back_few a spot x =
      let r = go_few a.base spot.front spot.here.stamp (spot.before ++ x ∷ []) a.seq in
      let n = withdrawn_none v (spot.here ∷ spot.rest) in
      let t = tally_append (touches v) (withdrawn (spot.here ∷ spot.rest))
      (go_on p a.base spot.front spot.here.stamp (spot.before ++ x ∷ []) a.seq).sent in
      omega (arith, r, n, t)

  give_few : (a : Agent) (g : GiveRow) (o : Option Spot) → Few (on_give p a g o)
  give_few a g None = omega arith
  give_few a g (Some spot) = go (nat_le g.turn (kept_turn g.var spot.sense.hits))
      spot.sense.complete (hits_eq (answer x.hits) (answer spot.sense.hits))
    where
      x : KeptSense
      x = record {
        num = spot.sense.num;
        query = spot.sense.query;
        complete = spot.sense.complete;
        hits = senses.add_kept (record { var = g.var; turn = g.turn; hit = g.hit }) spot.sense.hits;
      }

      go : (b c d : Bool) → Few (cond b (no_sends a) (cond c (cond d (no_sends (kept_in a spot x))
          (rolled_back p a spot x)) (at_open p a spot spot.sense.query x)))
      go true c d = omega arith
      go false true true = omega arith
      go false true false = back_few a spot x
      go false false d = open_few a spot spot.sense.query x

  wake_few : (a : Agent) (k : Num) (o : Option Awaited) → Few (on_wake p a k o)
  wake_few a k None = omega arith
  wake_few a k (Some w) = go (num_eq k w.num)
    where
      go : (b : Bool) → Few (cond b (go_on p a.base a.steps w.stamp [] a.seq) (no_sends a))
      go true = go_few a.base a.steps w.stamp [] a.seq
      go false = omega arith

  finish_few : (a : Agent) (o : Option Spot) → Few (on_finish p a o)
  finish_few a None = omega arith
  finish_few a (Some spot) = go spot.sense.complete spot.sense.query
    where
      go : (b : Bool) (y : Query) → Few (finished b p a spot y)
      go true y = omega arith
      go false (query.One u) = omega arith
      go false (query.Class k w) = go_few a.base spot.front spot.here.stamp _ a.seq

  agent_few : (a : Agent) (m : Message) → Few (agent_after p a m)
  agent_few a (message.Wake k z) = wake_few a k a.awaited
  agent_few a (message.Give g) = give_few a g (find g.num a.steps)
  agent_few a (message.Finish k z) = finish_few a (find k a.steps)
  agent_few a (message.Ask k z q) = omega arith
  agent_few a (message.Put n z u g) = omega arith
  agent_few a (message.Cut n z u) = omega arith
  agent_few a (message.Move u z r) = omega arith
  agent_few a (message.Grow k z u w) = omega arith

-- what an agent of a plan sends touches each variable once at most
plan_few : (p : Plan) (a v : ℕ) (ag : Agent) (m : Message)
    → tally (touches v) (agent_after (actor_of p a) ag m).sent ≤ 1
plan_few p a v ag m = agent_few (actor_of p a) (λ s regs done d e.
    subst (ForAct (λ act. IsRising act.writes)) e
    (step-rises (rule_at p a).program (sight (rule_at p a).classes s regs done))) v ag m

addressed_touch : (v a h : ℕ) (y : Message) → touches v (addressed a h y).message ≡ touches v y
addressed_touch v a h (message.Wake k z) = refl
addressed_touch v a h (message.Ask k z q) = refl
addressed_touch v a h (message.Put r_n r_t u r_c) = refl
addressed_touch v a h (message.Cut r_n r_t u) = refl
addressed_touch v a h (message.Give g) = refl
addressed_touch v a h (message.Finish k z) = refl
addressed_touch v a h (message.Move u z r) = refl
addressed_touch v a h (message.Grow k z u w) = refl

-- what comes to an agent touches no variable
to_agent_touch : (v a : ℕ) (m : Message) → ForAgent a m → touches v m ≡ false
to_agent_touch v a (message.Wake k z) f = refl
to_agent_touch v a (message.Give g) f = refl
to_agent_touch v a (message.Finish k z) f = refl
to_agent_touch v a (message.Ask k z q) f = absurd f
to_agent_touch v a (message.Put r_n r_t u r_c) f = absurd f
to_agent_touch v a (message.Cut r_n r_t u) f = absurd f
to_agent_touch v a (message.Move u z r) f = absurd f
to_agent_touch v a (message.Grow k z u w) f = absurd f

same_tally : {X : Type 0} (P Q : X → Bool) (xs : List X) → ((x : X) → P x ≡ Q x) → tally P xs ≡ tally Q xs
same_tally P Q [] h = refl
same_tally P Q (x ∷ xs) h =
    ap (λ b. one_if b (tally P xs)) (h x) ∙ ap (one_if (Q x)) (same_tally P Q xs h)

module _ (p : Plan) (q : State) (w : World) (recs : ℕ → Parts) (sim : Sim p q w recs) (st : Straight p w)
    (shut : Shut w) (a : ℕ) (from : Process) (t : Taken) (e : take_from (AtAgent a) from w.links ≡ Some t) where
  abbrev sent : List Message
  sent = (agent_after (actor_of p a) (get_or w.agents a no_agent) t.message).sent

  abbrev posts : List Posted
  posts = map (addressed a (home p a))
      (agent_after (actor_of p a) (get_or w.agents a no_agent) t.message).sent

  one : OneMore (mail t.links) (mail_to (AtAgent a) from t.message) (mail w.links)
  one = taken (AtAgent a) from w.links t e

  more : More (mail t.links) (sent_mail (AtAgent a) posts) (mail (post_all (AtAgent a) posts t.links))
  more = all_posted (AtAgent a) posts t.links

  none : (v : ℕ) (x : Mail) → In x (mail t.links) → touches v x.message ≡ false
  none v x i = go x.to refl (sim.fits x (one.into _ (inr i)))
    where
      go : (y : Process) → x.to ≡ y → FitsAt (clps_of p) (length q.values) x.to x.from x.message
          → touches v x.message ≡ false
      go (AtClp c) f fit = absurd (shut x (one.into _ (inr i)) c f)
      go (AtAgent b) f fit = to_agent_touch v b x.message
          (subst (λ z. FitsAt (clps_of p) (length q.values) z x.from x.message) f fit)

  once : (v : ℕ) → tally (λ (x : Mail). touches v x.message) (mail (post_all (AtAgent a) posts t.links)) ≤ 1
  once v =
      let c = more.count (λ (x : Mail). touches v x.message) in
      let n = tally_none (λ (x : Mail). touches v x.message) (mail t.links) (none v) in
      let s = tally_map (λ (y : Posted). mail_to y.to (AtAgent a) y.message) (λ (x : Mail). touches v x.message) posts
      ∙ (tally_map (addressed a (home p a)) (λ (y : Posted). touches v y.message) sent
      ∙ same_tally (λ y. touches v (addressed a (home p a) y).message) (touches v) sent
      (addressed_touch v a (home p a))) in
      let f = plan_few p a v (get_or w.agents a no_agent) t.message in omega (arith, c, n, s, f)

  -- what comes from a communication process was there
  was : (to : Process) (d : ℕ) (m : Message) → In (mail_to to (AtClp d) m) (mail (post_all (AtAgent a) posts t.links))
      → In (mail_to to (AtClp d) m) (mail w.links)
  was to d m i = elim (more.out _ i) [
    | inr j ↦ one.into _ (inr j)
    | inl j ↦ absurd (let o = in_map (λ (y : Posted). mail_to y.to (AtAgent a) y.message) posts _ j in
        apart (ap (λ (y : Mail). y.from) o.2))
  ]
    where
      apart : AtClp d ≡ AtAgent a → ⊥
      apart f = cc

  -- what goes to a communication process still is
  still : (c : ℕ) (f : Process) (m : Message) → In (mail_to (AtClp c) f m) (mail w.links)
      → In (mail_to (AtClp c) f m) (mail (post_all (AtAgent a) posts t.links))
  still c f m i = elim (one.out _ i) [
    | inr j ↦ more.into _ (inr j)
    | inl g ↦ absurd (apart (ap (λ (y : Mail). y.to) g))
  ]
    where
      apart : AtClp c ≡ AtAgent a → ⊥
      apart g = cc

  pub straight_agent : Straight p (arrives p w (AtAgent a) from t.message t.links)
  straight_agent = record {
    once = once;
    ways = λ v c d m i g. st.ways v c d m (was (AtClp c) d m i) g;
    facing = λ v c d lc ld h k. (let f = st.facing v c d lc ld h k in (
      f.0,
      f.1,
      elim f.2 [
        | inl i ↦ inl (still d (AtClp c) (message.Move v f.0 f.1) i)
        | inr i ↦ inr (still c (AtClp d) (message.Move v f.0 f.1) i)
      ],
    ));
  }

pub agents_straight : (p : Plan) (n : ℕ) (w : World) → IsValid p → AgentsStayStraight p n w
agents_straight p n w valid reached st shut a from t e =
    let k = reached_kept p (plan_fits p valid) n w reached in
    straight_agent p k.whole.q w k.whole.full.recs k.whole.full.sim st shut a from t e
