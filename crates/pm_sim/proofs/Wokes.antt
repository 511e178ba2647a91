-- Which Wakes an agent sends: one and awaits it from then on, or none and awaits what it awaited.
use Rattle.std.proofs.Common.{Bool, List, None, Option, Some, [], ap, arith, cond, false, inl, inr, length, map, nat_le, refl, subst, sym, true, ℕ, ℤ, ◌++◌, ◌+◌, ◌∙◌, ◌∷◌, ◌≡◌, ◌≤◌, ◌⊎◌}
use Rattle.std.proofs.lemmas.Bool.{cases_Bool}
use Rattle.std.proofs.lemmas.Bool.Decides.{nat_tests}
use Rattle.pm_base.specs.Stamps.{num_eq}
use Rattle.pm_base.specs.declared.rows.GiveRow.{GiveRow}
use Rattle.pm_base.specs.declared.stamp.Num.{Num}
use Rattle.pm_base.specs.declared.stamp.Stamp.{Stamp}
use Rattle.pm_base.specs.declared.value.Query.{Query}
use Rattle.pm_base.specs.declared.value.Write.{Write}
use Rattle.pm_message.specs.declared.Message.{Message}
use Rattle.pm_step.specs.declared.Next.{Next}
use Rattle.pm_model.specs.Runs.{later}
use Rattle.pm_saved.specs.Senses.{add_kept, answer, answers, hits_eq, kept_turn}
use Rattle.pm_saved.specs.Spots.{Spot, find}
use Rattle.pm_saved.specs.Steps.{act_cuts, cuts_of, regs_after, withdrawn}
use Rattle.pm_saved.specs.declared.kept.KeptAct.{KeptAct}
use Rattle.pm_saved.specs.declared.kept.KeptSense.{KeptSense}
use Rattle.pm_saved.specs.declared.kept.KeptStep.{KeptStep}
use Rattle.pm_alp.specs.Agents.{Actor, Sends, act_sends, agent_after, at_open, finished, go_on, kept_in, next_wake, no_sends, on_finish, on_give, on_wake, puts_of, rolled_back, wake_of, went_on}
use Rattle.pm_alp.specs.declared.agent.Agent.{Agent}
use Rattle.pm_alp.specs.declared.agent.Awaited.{Awaited}
use Rattle.pm_sim.proofs.Lanes.{sent_for}
use Rattle.pm_sim.specs.Worlds.{addressed, is_process}
use Rattle.pm_sim.specs.Worlds.Process.{AtAgent}
use Rattle.pm_message.specs.declared.Message.TheVariants as message
use Rattle.pm_step.specs.declared.Next.TheVariants as outcome
use Rattle.pm_base.specs.declared.value.Query.TheVariants as query

abbrev pub is_wake : Message → Bool
is_wake (message.Wake n s) = true
is_wake (message.Ask n s q) = false
is_wake (message.Put r_n r_t v r_c) = false
is_wake (message.Cut r_n r_t v) = false
is_wake (message.Give g) = false
is_wake (message.Finish n s) = false
is_wake (message.Move v s r) = false
is_wake (message.Grow k s u w) = false

abbrev pub wakes : List Message → List Message
wakes [] = []
wakes (m ∷ ms) = cond (is_wake m) (m ∷ wakes ms) (wakes ms)

-- of what an agent sends its Wakes go to itself
pub own_sent : (a h : ℕ) (ms : List Message) → sent_for (AtAgent a) (map (addressed a h) ms) ≡ wakes ms
own_sent a h [] = refl
own_sent a h (m ∷ ms) = one m (own_sent a h ms)
  where
    one : (m : Message) → sent_for (AtAgent a) (map (addressed a h) ms) ≡ wakes ms
        → sent_for (AtAgent a) (addressed a h m ∷ map (addressed a h) ms) ≡ wakes (m ∷ ms)
    one (message.Wake n s) e = (let b : is_process (AtAgent a) (AtAgent a) ≡ true =
        grind (arith, nat_tests) in rw b (ap (λ z. message.Wake n s ∷ z) e))
    one (message.Ask n s q) e = e
    one (message.Put r_n r_t v r_c) e = e
    one (message.Cut r_n r_t v) e = e
    one (message.Give g) e = e
    one (message.Finish n s) e = e
    one (message.Move v s r) e = e
    one (message.Grow k s u w) e = e

-- the agent went on: the Wake that it sent, if any, is the awaited one, and is new
pub record Went (i seq : ℕ) (r : Sends) : Type 0 where
  pub wakes : wakes r.sent ≡ wake_of r.agent.awaited
  pub new : (x : Awaited) → r.agent.awaited ≡ Some x → (x.num.agent ≡ i) × (seq ≤ x.num.seq)

-- it sent none, and awaits what it awaited
abbrev pub Stays : Agent → Sends → Type 0
Stays a r = (r.agent.awaited ≡ a.awaited) × (wakes r.sent ≡ [])

wakes_puts : (i : ℕ) (s : Stamp) (k : ℕ) (ws : List Write) (ms : List Message)
    → wakes (puts_of i s k ws ++ ms) ≡ wakes ms
wakes_puts i s k [] ms = refl
wakes_puts i s k (w ∷ ws) ms = wakes_puts i s (k + 1) ws ms

wakes_cuts : (s : Stamp) (ns : List Num) (ws : List Write) (ms : List Message)
    → wakes (cuts_of s ns ws ++ ms) ≡ wakes ms
wakes_cuts s [] ws ms = refl
wakes_cuts s (n ∷ ns) [] ms = refl
wakes_cuts s (n ∷ ns) (w ∷ ws) ms = wakes_cuts s ns ws ms

wakes_append : (xs ys : List Message) → wakes (xs ++ ys) ≡ wakes xs ++ wakes ys
wakes_append [] ys = refl
wakes_append (x ∷ xs) ys = (let again =
    wakes_append xs ys in elim (cases_Bool (is_wake x)) [ inl e ↦ rw e (ap (λ z. x ∷ z) again) | inr e ↦ rw e again ])

wakes_withdrawn : (ss : List KeptStep) (ms : List Message) → wakes (withdrawn ss ++ ms) ≡ wakes ms
wakes_withdrawn ss ms = wakes_append (withdrawn ss) ms ∙ ap (λ z. z ++ wakes ms) (none ss)
  where
    one : (s : Stamp) (o : Option KeptAct) → wakes (act_cuts s o) ≡ []
    one s None = refl
    one s (Some a) = cuts s a.nums a.entry.writes
      where
        cuts : (s : Stamp) (ns : List Num) (ws : List Write) → wakes (cuts_of s ns ws) ≡ []
        cuts s [] ws = refl
        cuts s (n ∷ ns) [] = refl
        cuts s (n ∷ ns) (w ∷ ws) = cuts s ns ws

    none : (ss : List KeptStep) → wakes (withdrawn ss) ≡ []
    none [] = refl
    none (s ∷ ss) = wakes_append (act_cuts s.stamp s.act) (withdrawn ss)
        ∙ (ap (λ z. z ++ wakes (withdrawn ss)) (one s.stamp s.act) ∙ none ss)

wakes_wake : (o : Option Awaited) → wakes (wake_of o) ≡ wake_of o
wakes_wake None = refl
wakes_wake (Some w) = refl

module _ (p : Actor) where
  went_woke : (base : List ℤ) (front : List KeptStep) (s : Stamp) (senses : List KeptSense) (seq : ℕ) (out : Next)
      → Went p.agent seq (went_on p base front s senses seq out)
  went_woke base front s senses seq (outcome.Ask q) = record { wakes = refl; new = λ x e. absurd (none x e) }
    where
      none : (x : Awaited) → None ≡ Some x → ⊥
      none x e = cc
  went_woke base front s senses seq (outcome.Act d) = go (nat_le (later s.time d.wait) p.horizon)
    where
      news : (b : Bool) (x : Awaited)
          → next_wake b p.agent s seq d ≡ Some x → (x.num.agent ≡ p.agent) × (seq ≤ x.num.seq)
      news false x e = absurd (cc)
      news true x e = (let f : x ≡ record {
        num = record { agent = p.agent; seq = seq + length d.writes };
        stamp =
            record { time = later s.time d.wait; agent = p.agent };
      } = cc in
          subst (λ (z : Awaited). (z.num.agent ≡ p.agent) × (seq ≤ z.num.seq)) (sym f) (refl, omega arith))

      go : (b : Bool) → Went p.agent seq (act_sends p.agent base front s senses seq d b)
      go b = record {
        wakes = wakes_puts p.agent s seq d.writes (wake_of (next_wake b p.agent s seq d))
            ∙ wakes_wake (next_wake b p.agent s seq d);
        new = news b;
      }

  module _ (a : Agent) where
    go_woke : (front : List KeptStep) (s : Stamp) (done : List KeptSense)
        → Went p.agent a.seq (go_on p a.base front s done a.seq)
    go_woke front s done = went_woke a.base front s done a.seq (p.acts s (regs_after a.base front) (answers done))

    back_woke : (spot : Spot) (x : KeptSense) → Went p.agent a.seq (rolled_back p a spot x)
    back_woke spot x = (let r = go_woke spot.front spot.here.stamp (spot.before ++ x ∷ []) in
        record {
          wakes = wakes_withdrawn (spot.here ∷ spot.rest)
              (go_on p a.base spot.front spot.here.stamp (spot.before ++ x ∷ []) a.seq).sent ∙ r.wakes;
          new = r.new;
        })

    open_woke : (spot : Spot) (y : Query) (x : KeptSense)
        → Went p.agent a.seq (at_open p a spot y x) ⊎ Stays a (at_open p a spot y x)
    open_woke spot (query.One v) x = inl (go_woke spot.front spot.here.stamp _)
    open_woke spot (query.Class k w) x = inr (refl, refl)

    give_woke : (g : GiveRow) (o : Option Spot) → Went p.agent a.seq (on_give p a g o) ⊎ Stays a (on_give p a g o)
    give_woke g None = inr (refl, refl)
    give_woke g (Some spot) = go (nat_le g.turn (kept_turn g.var spot.sense.hits))
        spot.sense.complete (hits_eq (answer x.hits) (answer spot.sense.hits))
      where
        x : KeptSense
        x = record {
          num = spot.sense.num;
          query = spot.sense.query;
          complete =
              spot.sense.complete;
          hits = add_kept (record { var = g.var; turn = g.turn; hit = g.hit }) spot.sense.hits;
        }

        out : Bool → Bool → Bool → Sends
        out b c d = cond b (no_sends a) (cond
            c (cond d (no_sends (kept_in a spot x)) (rolled_back p a spot x)) (at_open p a spot spot.sense.query x))

        go : (b c d : Bool) → Went p.agent a.seq (out b c d) ⊎ Stays a (out b c d)
        go true c d = inr (refl, refl)
        go false true true = inr (refl, refl)
        go false true false = inl (back_woke spot x)
        go false false d = open_woke spot spot.sense.query x

    finish_woke : (o : Option Spot) → Went p.agent a.seq (on_finish p a o) ⊎ Stays a (on_finish p a o)
    finish_woke None = inr (refl, refl)
    finish_woke (Some spot) = go spot.sense.complete spot.sense.query
      where
        go : (b : Bool) (y : Query) → Went p.agent a.seq (finished b p a spot y) ⊎ Stays a (finished b p a spot y)
        go true y = inr (refl, refl)
        go false (query.One v) = inr (refl, refl)
        go false (query.Class k w) = inl (go_woke spot.front spot.here.stamp _)

    -- a Wake that isn't awaited does nothing
    wake_woke : (n : Num) (o : Option Awaited) → a.awaited ≡ o → Went p.agent a.seq (on_wake p a n o)
        ⊎ (Stays a (on_wake p a n o) × ((x : Awaited) → a.awaited ≡ Some x → n ≡ x.num → ⊥))
    wake_woke n None e = inr ((refl, refl), λ x f g. none x (sym e ∙ f))
      where
        none : (x : Awaited) → None ≡ Some x → ⊥
        none x e = cc
    wake_woke n (Some w) e = go (num_eq n w.num) refl
      where
        go : (b : Bool)
            → num_eq n w.num ≡ b → Went p.agent a.seq (cond b (go_on p a.base a.steps w.stamp [] a.seq) (no_sends a))
            ⊎ (Stays a (cond b (go_on p a.base a.steps w.stamp [] a.seq) (no_sends a))
            × ((x : Awaited) → a.awaited ≡ Some x → n ≡ x.num → ⊥))
        go true f = inl (go_woke a.steps w.stamp [])
        go false f = inr ((refl, refl), λ x h g. not_same x (same x w (sym h ∙ e)) g)
          where
            same : (x y : Awaited) → Some x ≡ Some y → x ≡ y
            same x y k = cc

            not_same : (x : Awaited) → x ≡ w → n ≡ x.num → ⊥
            not_same x k g = (let h : n ≡ w.num = g ∙ ap (λ (z : Awaited). z.num) k in let t : num_eq n n ≡ false =
                subst (λ z. num_eq n z ≡ false) (sym h) f in grind (arith, nat_tests, t))

    -- all messages; an awaited Wake is one with which it goes on
    pub woke : (m : Message) → Went p.agent a.seq (agent_after p a m) ⊎ (Stays a (agent_after p a m)
        × ((n : Num) (s : Stamp) (x : Awaited) → m ≡ message.Wake n s → a.awaited ≡ Some x → n ≡ x.num → ⊥))
    woke (message.Wake n s) = elim (wake_woke n a.awaited refl) [
      | inl h ↦ inl h
      | inr h ↦ inr (h.0, λ k t x e f g. h.1 x f (num_same n k s t e ∙ g))
    ]
      where
        num_same : (n k : Num) (s t : Stamp) → message.Wake n s ≡ message.Wake k t → n ≡ k
        num_same n k s t e = cc
    woke (message.Give g) =
        elim (give_woke g (find g.num a.steps)) [ inl h ↦ inl h | inr h ↦ inr (h, λ n s x e f q. absurd (cc)) ]
    woke (message.Finish n s) =
        elim (finish_woke (find n a.steps)) [ inl h ↦ inl h | inr h ↦ inr (h, λ n' s' x e f q. absurd (cc)) ]
    woke (message.Ask n s q) = inr ((refl, refl), λ n' s' x e f q. absurd (cc))
    woke (message.Put r_n r_t v r_c) = inr ((refl, refl), λ n s x e f q. absurd (cc))
    woke (message.Cut r_n r_t v) = inr ((refl, refl), λ n s x e f q. absurd (cc))
    woke (message.Move v s r) = inr ((refl, refl), λ n s' x e f q. absurd (cc))
    woke (message.Grow k s u w) = inr ((refl, refl), λ n s' x e f q. absurd (cc))
