-- The lowest delivery in a calm world leaves a calm world.
use Rattle.std.proofs.Common.{◌≡◌, ℕ, ◌+◌, ◌<◌, ◌≤◌, ◌⊎◌, inl, inr, Bool, true, false, cond, not, ◌&&◌, ◌||◌, List, [], ◌∷◌, length, get_or, refl, arith, ap, sym, ◌∙◌, subst, Option, Some, None}
use Rattle.std.proofs.lemmas.Bool.Decides.{nat_tests}
use Rattle.pm_alp.specs.Agents.{no_agent, wake_of}
use Rattle.pm_alp.specs.declared.agent.Awaited.{Awaited}
use Rattle.pm_base.specs.Stamps.{or_lower, stamp_lt}
use Rattle.pm_base.specs.declared.rows.GiveRow.{GiveRow}
use Rattle.pm_base.specs.declared.rows.Parts.{Parts}
use Rattle.pm_base.specs.declared.stamp.Line.{Line}
use Rattle.pm_base.specs.declared.stamp.Num.{Num}
use Rattle.pm_base.specs.declared.stamp.Stamp.{Stamp}
use Rattle.pm_base.specs.declared.value.Window.{Window}
use Rattle.pm_calm.proofs.Agents.{finish_calm, give_calm, give_found, wake_calm}
use Rattle.pm_calm.proofs.ClpOrders.{order_clp}
use Rattle.pm_calm.proofs.ClpWorlds.{calm_clp}
use Rattle.pm_calm.proofs.Firsts.{head_mail, mail_head, taken_head}
use Rattle.pm_calm.proofs.Orders.{IsLowest, heads}
use Rattle.pm_calm.proofs.Phasing.{IsWake}
use Rattle.pm_calm.proofs.Rounds.{Kept}
use Rattle.pm_calm.specs.Lowest.{is_moving, link_before, lower, moves_before}
use Rattle.pm_calm.specs.Phases.{Calm, InOrder, IsAnswer, IsFinish, MailAt, OrderIn, Over, Phase, Tidy, is_over, token}
use Rattle.pm_calm.specs.Phases.Phase.{Idle, Range, Single}
use Rattle.pm_message.specs.Messages.{stamp_of}
use Rattle.pm_message.specs.declared.Message.{Message}
use Rattle.pm_model.specs.declared.State.{State}
use Rattle.pm_plan.specs.declared.plan.Plan.{Plan}
use Rattle.pm_saved.specs.Spots.{Spot, find}
use Rattle.pm_sim.proofs.Fulls.{Full}
use Rattle.pm_sim.proofs.Lanes.{lanes_taken, mail_between}
use Rattle.pm_sim.proofs.Letters.{map_in, message_of, taken}
use Rattle.pm_sim.proofs.Places.{Sim, queries_at}
use Rattle.pm_sim.proofs.Quiets.{tally_in}
use Rattle.pm_sim.proofs.Readies.{least_of}
use Rattle.pm_sim.proofs.Stamps.{false_lt, lt_false, stamps_same}
use Rattle.pm_sim.proofs.Takings.{LinkOk}
use Rattle.pm_sim.proofs.Wires.{took}
use Rattle.pm_sim.specs.Bounds.{between}
use Rattle.pm_sim.specs.Routings.{FitsAt, ForAgent, IsClp}
use Rattle.pm_sim.specs.Sims.{AtMost, In, MailOk, NotPast, one_if, tally}
use Rattle.pm_sim.specs.Worlds.{Mail, Process, Taken, World, arrives, clps_of, deliver, delivered, home, least_line, mail, number, take_from}
use Rattle.pm_sim.specs.Worlds.Process.{AtAgent, AtClp}
use Rattle.pm_message.specs.declared.Message.TheVariants as message
use Rattle.pm_base.specs.declared.stamp.Line.TheVariants as line

-- the least stamp is a letter's
pub least_some : (ms : List Mail) (s : Stamp) → least_of ms ≡ line.At s → (y : Mail) × In y ms
    × (stamp_of y.message ≡ s)
least_some [] s e = absurd (cc)
least_some (m ∷ ms) s e = go (least_of ms) refl (λ f. least_some ms s f) e
  where
    same : (a b : Stamp) → line.At a ≡ line.At b → a ≡ b
    same a b f = cc

    go : (o : Line) → least_of ms ≡ o → (least_of ms ≡ line.At s → (y : Mail) × In y ms × (stamp_of y.message ≡ s))
        → or_lower (stamp_of m.message) o ≡ line.At s → (y : Mail) × In y (m ∷ ms) × (stamp_of y.message ≡ s)
    go line.End f again g = (m, inl refl, same (stamp_of m.message) s g)
    go (line.At t) f again g = by (stamp_lt (stamp_of m.message) t) g
      where
        by : (b : Bool) → cond b (line.At (stamp_of m.message)) (line.At t) ≡ line.At s → (y : Mail) × In y (m ∷ ms)
            × (stamp_of y.message ≡ s)
        by true h = (m, inl refl, same (stamp_of m.message) s h)
        by false h = (let o = again (f ∙ h) in (o.0, inr o.1, o.2))

pub stamp_at : (p : Plan) (s : Stamp) (over : Num → ℕ → Window → Type 0) (ph : Phase) (to from : Process) (m : Message)
    → MailAt p s over ph to from m → (IsWake m × (from ≡ to)) ⊎ (stamp_of m ≡ s)
stamp_at p s over ph to from (message.Wake k z) h = inl ((k, z, refl), h)
stamp_at p s over ph to from (message.Ask k z y) h = inr h.0
stamp_at p s over ph to from (message.Put r_n r_t v r_c) h = inr h.0
stamp_at p s over ph to from (message.Cut r_n r_t v) h = absurd h
stamp_at p s over ph to from (message.Give g) h = inr h.0
stamp_at p s over ph to from (message.Finish k z) h = inr h.0
stamp_at p s over ph to from (message.Move v z r) h = inr h.0
stamp_at p s over ph to from (message.Grow k z u y) h = inr h.0

wake_one : (o : Option Awaited) (m n : Message) → In m (wake_of o) → In n (wake_of o) → m ≡ n
wake_one None m n i j = absurd i
wake_one (Some w) m n (inl f) (inl g) = f ∙ sym g
wake_one (Some w) m n (inl f) (inr b) = absurd b
wake_one (Some w) m n (inr b) j = absurd b

agent_still : (a : ℕ) (m : Message) → ForAgent a m → is_moving m ≡ false
agent_still a (message.Wake k z) h = refl
agent_still a (message.Give g) h = refl
agent_still a (message.Finish k z) h = refl
agent_still a (message.Ask k z y) h = absurd h
agent_still a (message.Put r_n r_t v r_c) h = absurd h
agent_still a (message.Cut r_n r_t v) h = absurd h
agent_still a (message.Move v z r) h = absurd h
agent_still a (message.Grow k z u y) h = absurd h

-- what is lower by its ends
lower_ends : (p : Plan) (h x : Mail) → stamp_of h.message ≡ stamp_of x.message → is_moving x.message ≡ false
    → link_before (number p h.to) (number p h.from) (number p x.to) (number p x.from) ≡ true → lower p h x ≡ true
lower_ends p h x es em pl =
    let n : stamp_lt (stamp_of x.message) (stamp_of h.message) ≡ false =
    ap (stamp_lt (stamp_of x.message)) es ∙ lt_false (stamp_of x.message) (stamp_of x.message) (grind arith) in
    right (stamp_lt (stamp_of h.message) (stamp_of x.message)) (stamp_lt (stamp_of x.message) (stamp_of h.message))
    (moves_before (is_moving h.message) (is_moving x.message)
    (link_before (number p h.to) (number p h.from) (number p x.to) (number p x.from))) n
    (ap (λ i. moves_before (is_moving h.message) i
    (link_before (number p h.to) (number p h.from) (number p x.to) (number p x.from))) em
    ∙ by (is_moving h.message) (link_before (number p h.to) (number p h.from) (number p x.to) (number p x.from)) pl)
  where
    right : (b c d : Bool) → c ≡ false → d ≡ true → (b || (not c && d)) ≡ true
    right true c d f g = refl
    right false false true f g = refl
    right false false false f g = absurd (cc)
    right false true d f g = absurd (cc)

    by : (b l : Bool) → l ≡ true → moves_before b false l ≡ true
    by true l f = refl
    by false l f = f

module _ (p : Plan) (w : World) (r : Kept p w) (s : Stamp) (os : List Over) (ph : Phase) (calm : Calm p w s os ph)
    (order : OrderIn ph p w) (x : Mail) (low : IsLowest p (heads w.links) x) (at : least_line w ≡ line.At s) where
  abbrev N : ℕ
  N = clps_of p

  abbrev q : State
  q = r.whole.q

  abbrev full : Full p q w
  full = r.whole.full

  abbrev recs : ℕ → Parts
  recs = full.recs

  abbrev sim : Sim p q w recs
  sim = full.sim

  x_in : In x (mail w.links)
  x_in = head_mail w.links x low.there

  ok : (y : Mail) → In y (mail w.links) → MailOk p sim.issued y.message × NotPast w.line (stamp_of y.message)
  ok y i = sim.core.mail y.message (map_in message_of (mail w.links) y i)

  -- the agent of a letter to an agent
  low_agent : (b : ℕ) (m : Message) → ForAgent b m → MailOk p sim.issued m → b < length w.agents
  low_agent b (message.Wake k z) f h = subst (λ i. i < length w.agents) f (sim.core.fresh _ h).0
  low_agent b (message.Give g) f h = subst (λ i. i < length w.agents) f (sim.core.fresh _ h.1).0
  low_agent b (message.Finish k z) f h = subst (λ i. i < length w.agents) f (sim.core.fresh _ h.2).0
  low_agent b (message.Ask k z y) f h = absurd f
  low_agent b (message.Put r_n r_t v r_c) f h = absurd f
  low_agent b (message.Cut r_n r_t v) f h = absurd f
  low_agent b (message.Move v z y) f h = absurd f
  low_agent b (message.Grow k z u y) f h = absurd f

  -- whose letter it is
  own_agent : (b : ℕ) (m : Message) → ForAgent b m → MailOk p sim.issued m → stamp_of m ≡ s → b ≡ s.agent
  own_agent b (message.Wake k z) f h e = sym f ∙ (sim.core.own _ h ∙ ap (λ (y : Stamp). y.agent) e)
  own_agent b (message.Give g) f h e = sym f ∙ (sim.core.own _ h.1 ∙ ap (λ (y : Stamp). y.agent) e)
  own_agent b (message.Finish k z) f h e = sym f ∙ (sim.core.own _ h.2 ∙ ap (λ (y : Stamp). y.agent) e)
  own_agent b (message.Ask k z y) f h e = absurd f
  own_agent b (message.Put r_n r_t v r_c) f h e = absurd f
  own_agent b (message.Cut r_n r_t v) f h e = absurd f
  own_agent b (message.Move v z y) f h e = absurd f
  own_agent b (message.Grow k z u y) f h e = absurd f

  to_low : (y : Mail) → In y (mail w.links) → (c : ℕ) → y.to ≡ AtClp c → c < clps_of p
  to_low y i c ey = (let f : FitsAt (clps_of p) (length q.values) (AtClp c) y.from y.message =
      subst (λ z. FitsAt (clps_of p) (length q.values) z y.from y.message) ey (sim.fits y i) in f.0)

  from_low : (y : Mail) → In y (mail w.links) → (d : ℕ) → y.from ≡ AtClp d → d < clps_of p
  from_low y i d ey = go y.to (subst (LinkOk p y.to) ey (r.awake.linked.mail y i).0)
    where
      go : (a : Process) → LinkOk p a (AtClp d) → d < clps_of p
      go (AtClp c) l = sim.tree.inside c d l
      go (AtAgent b) l = (let h = sim.tree.homes b in let l2 : home p b ≡ d = l in omega arith)

  fits : (y : Mail) → In y (mail w.links) → FitsAt N (length q.values) y.to y.from y.message
  fits y i = sim.fits y i

  wake_fits : (to from : Process) (m : Message) → IsWake m → FitsAt N (length q.values) to from m → (b : ℕ)
      × (to ≡ AtAgent b)
  wake_fits (AtClp c) from m (k, z, e) f = absurd (let g : FitsAt N (length q.values) (AtClp c) from (message.Wake k z)
      = subst (FitsAt N (length q.values) (AtClp c) from) e f in g.1)
  wake_fits (AtAgent b) from m h f = (b, refl)

  agent_fits : (to from : Process) (m : Message) (b : ℕ) → to ≡ AtAgent b → FitsAt N (length q.values) to from m
      → ForAgent b m
  agent_fits (AtClp c) from m b e f = absurd (cc)
  agent_fits (AtAgent a) from m b e f = (let g : a ≡ b = cc in subst (λ i. ForAgent i m) g f)

  -- in an agent's own link
  own_link : (y : Mail) → In y (mail w.links) → (b : ℕ) → y.to ≡ AtAgent b → y.from ≡ AtAgent b
      → In y.message (wake_of (get_or w.agents b no_agent).awaited)
  own_link y i b et ef =
      let lb = low_agent b y.message (agent_fits y.to y.from y.message b et (fits y i)) (ok y i).0 in
      subst (In y.message) (calm.own b lb) (subst (λ z. In y.message (between (AtAgent b) z w.links)) ef
      (subst (λ z. In y.message (between z y.from w.links)) et (mail_between w.links r.awake.lanes y i)))

  own_is_wake : (y : Mail) → In y (mail w.links) → (b : ℕ) → y.to ≡ AtAgent b → y.from ≡ AtAgent b → IsWake y.message
  own_is_wake y i b et ef = go (get_or w.agents b no_agent).awaited (own_link y i b et ef)
    where
      go : (o : Option Awaited) → In y.message (wake_of o) → IsWake y.message
      go None j = absurd j
      go (Some a) (inl f) = (a.num, a.stamp, f)
      go (Some a) (inr b') = absurd b'

  -- the lowest has the line's stamp
  pub stamp_x : stamp_of x.message ≡ s
  stamp_x =
      let y = least_some (mail w.links) s at in
      let h = mail_head w.links y.0 y.1 in
      let hi = head_mail w.links h.0 h.1 in
      let es : stamp_of h.0.message ≡ s = elim (stamp_at p s (is_over os) ph h.0.to h.0.from h.0.message
      (calm.letters h.0 hi)) [
        | inr f ↦ f
        | inl wk ↦ (let b = wake_fits h.0.to h.0.from h.0.message wk.0 (fits h.0 hi) in
            let a1 = own_link h.0 hi b.0 b.1 (wk.1 ∙ b.1) in
            let a2 = own_link y.0 y.1 b.0 (sym h.2 ∙ b.1) (sym h.3 ∙ (wk.1 ∙ b.1)) in
            ap stamp_of (wake_one (get_or w.agents b.0 no_agent).awaited h.0.message y.0.message a1 a2) ∙ y.2)
      ] in
      let lt : stamp_lt (stamp_of h.0.message) (stamp_of x.message) ≡ false =
      left (stamp_lt (stamp_of h.0.message) (stamp_of x.message)) _ (low.least h.0 h.1) in
      let up : AtMost (stamp_of x.message) s = subst (AtMost (stamp_of x.message)) es
      (false_lt (stamp_of h.0.message) (stamp_of x.message) lt) in
      let dn : AtMost s (stamp_of x.message) = subst (λ l. NotPast l (stamp_of x.message)) calm.line (ok x x_in).1 in
      stamps_same (stamp_of x.message) s (grind (arith, up, dn)) (grind (arith, up, dn))
    where
      left : (a b : Bool) → (a || b) ≡ false → a ≡ false
      left true b f = absurd (cc)
      left false b f = refl

  -- not lower than the lowest
  not_lower : (h : Mail) → In h (heads w.links) → stamp_of h.message ≡ s → is_moving x.message ≡ false
      → link_before (number p h.to) (number p h.from) (number p x.to) (number p x.from) ≡ true → ⊥
  not_lower h i e em pl = (let a = lower_ends p h x (e ∙ sym stamp_x) em pl in let b = low.least h i in cc)

  module _ (a : ℕ) (ex : x.to ≡ AtAgent a) where
    for_a : ForAgent a x.message
    for_a = agent_fits x.to x.from x.message a ex (fits x x_in)

    still : is_moving x.message ≡ false
    still = agent_still a x.message for_a

    pub la : a < length w.agents
    la = low_agent a x.message for_a (ok x x_in).0

    a_is : a ≡ s.agent
    a_is = own_agent a x.message for_a (ok x x_in).0 stamp_x

    -- nothing is on its way to a CLP
    pub shut : (y : Mail) → In y (mail w.links) → (c : ℕ) → y.to ≡ AtClp c → ⊥
    shut y i c ey =
        let h = mail_head w.links y i in
        let hi = head_mail w.links h.0 h.1 in
        let eh : h.0.to ≡ AtClp c = h.2 ∙ ey in
        let lc = to_low h.0 hi c eh in
        let es : stamp_of h.0.message ≡ s = elim (stamp_at p s (is_over os) ph h.0.to h.0.from h.0.message
        (calm.letters h.0 hi)) [
          | inr f ↦ f
          | inl wk ↦ absurd (let b = wake_fits h.0.to h.0.from h.0.message wk.0 (fits h.0 hi) in
              let z : AtClp c ≡ AtAgent b.0 = sym eh ∙ b.1 in cc)
        ] in
        not_lower h.0 h.1 es still (subst (λ z. link_before (number p z) (number p h.0.from) (number p x.to)
        (number p x.from) ≡ true) (sym eh) (subst
        (λ z. link_before c (number p h.0.from) (number p z) (number p x.from) ≡ true) (sym ex)
        (less c (number p h.0.from) (clps_of p + a) (number p x.from) (omega arith))))
      where
        less : (i j k l : ℕ) → i < k → link_before i j k l ≡ true
        less i j k l lt = grind (arith, nat_tests, lt)

    -- what else is on its way is a Wake, or an answer from the home's link
    others : (y : Mail) → In y (mail w.links) → IsWake y.message
        ⊎ ((y.to ≡ AtAgent a) × (d : ℕ) × (y.from ≡ AtClp d) × (d < N) × (stamp_of y.message ≡ s))
    others y i = by y.to refl
      where
        by : (to : Process) → y.to ≡ to → IsWake y.message
            ⊎ ((y.to ≡ AtAgent a) × (d : ℕ) × (y.from ≡ AtClp d) × (d < N) × (stamp_of y.message ≡ s))
        by (AtClp c) ey = absurd (shut y i c ey)
        by (AtAgent b) ey = elim (stamp_at p s (is_over os) ph y.to y.from y.message (calm.letters y i)) [
          | inl wk ↦ inl wk.0
          | inr es ↦ from_is y.from refl es
        ]
          where
            eb : stamp_of y.message ≡ s → b ≡ a
            eb es = own_agent b y.message (agent_fits y.to y.from y.message b ey (fits y i)) (ok y i).0 es ∙ sym a_is

            from_is : (f : Process) → y.from ≡ f → stamp_of y.message ≡ s → IsWake y.message
                ⊎ ((y.to ≡ AtAgent a) × (d : ℕ) × (y.from ≡ AtClp d) × (d < N) × (stamp_of y.message ≡ s))
            from_is (AtClp d) ef es = inr (ey ∙ ap AtAgent (eb es), d, ef, from_low y i d ef, es)
            from_is (AtAgent b') ef es = inl (own_is_wake y i b ey (ef
                ∙ ap AtAgent (sym (same (subst (LinkOk p (AtAgent b)) ef
                (subst (λ z. LinkOk p z y.from) ey (r.awake.linked.mail y i).0))))))
              where
                same : LinkOk p (AtAgent b) (AtAgent b') → b ≡ b'
                same l = l

    module _ (t : Taken) (e : take_from (AtAgent a) x.from w.links ≡ Some t) (em : t.message ≡ x.message) where
      was : (y : Mail) → In y (mail t.links) → In y (mail w.links)
      was y i = (taken (AtAgent a) x.from w.links t e).into y (inr i)

      wake_quiet : IsWake x.message → (y : Mail) → In y (mail t.links) → IsWake y.message
      wake_quiet wk y i = elim (others y (was y i)) [
        | inl f ↦ f
        | inr o ↦ absurd (
            let h = mail_head w.links y (was y i) in
            let hi = head_mail w.links h.0 h.1 in
            let eh : h.0.from ≡ AtClp o.1 = h.3 ∙ o.2 in
            let et : h.0.to ≡ AtAgent a = h.2 ∙ o.0 in
            let es : stamp_of h.0.message ≡ s = elim
            (stamp_at p s (is_over os) ph h.0.to h.0.from h.0.message (calm.letters h.0 hi)) [
              | inr f ↦ f
              | inl v ↦ absurd (let z : AtClp o.1 ≡ AtAgent a = sym eh ∙ (v.1 ∙ et) in cc)
            ] in
            let xf : x.from ≡ AtAgent a = x_self wk ∙ ex in
            not_lower h.0 h.1 es still (subst (λ z.
            link_before (number p z) (number p h.0.from) (number p x.to) (number p x.from) ≡ true) (sym et)
            (subst (λ z. link_before (clps_of p + a) (number p z) (number p x.to) (number p x.from) ≡ true) (sym eh)
            (subst (λ z. link_before (clps_of p + a) o.1 (number p z) (number p x.from) ≡ true) (sym ex)
            (subst (λ z. link_before (clps_of p + a) o.1 (clps_of p + a) (number p z) ≡ true) (sym xf)
            (less (clps_of p + a) o.1 (clps_of p + a) (let l = o.3 in omega arith)))))))
      ]
        where
          less : (i j l : ℕ) → j < l → link_before i j i l ≡ true
          less i j l lt = grind (arith, nat_tests, lt)

          x_self : IsWake x.message → x.from ≡ x.to
          x_self v = elim (stamp_at p s (is_over os) ph x.to x.from x.message (calm.letters x x_in)) [
            | inl f ↦ f.1
            | inr f ↦ (let g : MailAt p s (is_over os) ph x.to x.from (message.Wake v.0 v.1) =
                subst (MailAt p s (is_over os) ph x.to x.from) v.2 (calm.letters x x_in) in g)
          ]

      single_quiet : (g : GiveRow) → x.message ≡ message.Give g → (n : Num) (v : ℕ) → ph ≡ Single n v → (y : Mail)
          → In y (mail t.links) → IsWake y.message
      single_quiet g eg n v ep y i = elim (others y (was y i)) [
        | inl f ↦ f
        | inr o ↦ absurd (go y.message refl o.0 (agent_fits y.to y.from y.message a o.0 (fits y (was y i)))
            (λ k z f. let q1 : AtClp o.1 ≡ AtAgent a = sym o.2 ∙ (wake_self k z f ∙ o.0) in cc))
      ]
        where
          letter : MailAt p s (is_over os) (Single n v) y.to y.from y.message
          letter = subst (λ z. MailAt p s (is_over os) z y.to y.from y.message) ep (calm.letters y (was y i))

          few : tally (λ (z : Mail). token (Single n v) z.message) (mail t.links) ≡ 0
          few =
              let c = (taken (AtAgent a) x.from w.links t e).count (λ (z : Mail). token (Single n v) z.message) in
              let tk : one_if (token (Single n v) t.message) 0 ≡ 1 =
              ap (λ m. one_if (token (Single n v) m) 0) (em ∙ eg) in
              let o = subst (λ z. tally (λ (m : Mail). token z m.message) (mail w.links) ≤ 1) ep calm.tokens in
              omega arith

          wake_self : (k : Num) (z : Stamp) → y.message ≡ message.Wake k z → y.from ≡ y.to
          wake_self k z f = (let h : MailAt p s (is_over os) (Single n v) y.to y.from (message.Wake k z) =
              subst (MailAt p s (is_over os) (Single n v) y.to y.from) f letter in h)

          -- a letter to an agent that is no Wake
          go : (m : Message) → y.message ≡ m → y.to ≡ AtAgent a → ForAgent a m
              → ((k : Num) (z : Stamp) → y.message ≡ message.Wake k z → ⊥) → ⊥
          go (message.Wake k z) f et h nw = nw k z f
          go (message.Give g') f et h nw = (let one =
              tally_in (λ (z : Mail). token (Single n v) z.message) (mail t.links) y i (ap (token (Single n v)) f) in
              let z = few in omega arith)
          go (message.Finish k z) f et h nw = (let b : MailAt p s (is_over os) (Single n v) y.to y.from
              (message.Finish k z) = subst (MailAt p s (is_over os) (Single n v) y.to y.from) f letter in
              subst IsClp et b.1)
          go (message.Ask k z y') f et h nw = h
          go (message.Put r_n r_t u r_c) f et h nw = h
          go (message.Cut r_n r_t u) f et h nw = h
          go (message.Move u z y') f et h nw = h
          go (message.Grow k z u y') f et h nw = h

      finish_quiet : (k : Num) (z : Stamp) → x.message ≡ message.Finish k z → (n : Num) (i : ℕ) (u : Window)
          → ph ≡ Range n i u → (y : Mail) → In y (mail t.links) → IsWake y.message
      finish_quiet k z ef n i u ep y iy = elim (others y (was y iy)) [
        | inl f ↦ f
        | inr o ↦ elim (others x x_in) [
          | inl wk ↦ absurd (let f : message.Finish k z ≡ message.Wake wk.0 wk.1 = sym ef ∙ wk.2 in cc)
          | inr xo ↦ absurd (
              let hx : home p a ≡ xo.1 = (subst (LinkOk p (AtAgent a)) xo.2
              (subst (λ v. LinkOk p v x.from) ex (r.awake.linked.mail x x_in).0)) in
              let hy : home p a ≡ o.1 = (subst (LinkOk p (AtAgent a)) o.2
              (subst (λ v. LinkOk p v y.from) o.0 (r.awake.linked.mail y (was y iy)).0)) in
              let fx : x.from ≡ AtClp o.1 = xo.2 ∙ ap AtClp (sym hx ∙ hy) in
              let ord : InOrder p n (queries_at w) w.links = subst (λ v. OrderIn v p w) ep order in
              let td : Tidy (t.message ∷ between (AtAgent a) x.from t.links) =
              subst Tidy (took (AtAgent a) x.from w.links t e).head
              (subst (λ v. Tidy (between (AtAgent a) v w.links)) (sym fx) (ord.tidy (AtAgent a) o.1)) in
              let j : In y.message (between y.to y.from t.links) =
              mail_between t.links (lanes_taken (AtAgent a) x.from w.links t e r.awake.lanes) y iy in
              let j2 : In y.message (between (AtAgent a) x.from t.links) =
              subst (λ v. In y.message (between (AtAgent a) v t.links)) (o.2 ∙ sym fx)
              (subst (λ v. In y.message (between v y.from t.links)) o.0 j) in
              td.0 (subst IsFinish (sym (em ∙ ef)) tt) y.message j2
              (answer y.message (agent_fits y.to y.from y.message a o.0 (fits y (was y iy))) refl
              (λ k' z' f. let g : MailAt p s (is_over os) ph y.to y.from (message.Wake k' z') =
              subst (MailAt p s (is_over os) ph y.to y.from) f (calm.letters y (was y iy)) in
              let q1 : AtClp o.1 ≡ AtAgent a = sym o.2 ∙ (g ∙ o.0) in cc)))
        ]
      ]
        where
          answer : (m : Message) → ForAgent a m → y.message ≡ m
              → ((k' : Num) (z' : Stamp) → y.message ≡ message.Wake k' z' → ⊥) → IsAnswer m
          answer (message.Wake k' z') h f nw = absurd (nw k' z' f)
          answer (message.Give g) h f nw = tt
          answer (message.Finish k' z') h f nw = tt
          answer (message.Ask k' z' v) h f nw = absurd h
          answer (message.Put r_n r_t v r_c) h f nw = absurd h
          answer (message.Cut r_n r_t v) h f nw = absurd h
          answer (message.Move v z' y') h f nw = absurd h
          answer (message.Grow k' z' v y') h f nw = absurd h

      -- an agent's delivery
      agent_step : (os' : List Over) × (ph' : Phase)
          × Calm p (arrives p w (AtAgent a) x.from t.message t.links) s os' ph'
          × OrderIn ph' p (arrives p w (AtAgent a) x.from t.message t.links)
      agent_step = by x.message refl for_a
        where
          st : stamp_of t.message ≡ s
          st = ap stamp_of em ∙ stamp_x

          by : (m : Message) → x.message ≡ m → ForAgent a m → (os' : List Over) × (ph' : Phase)
              × Calm p (arrives p w (AtAgent a) x.from t.message t.links) s os' ph'
              × OrderIn ph' p (arrives p w (AtAgent a) x.from t.message t.links)
          by (message.Wake k z) f h = subst (λ m. (os' : List Over) × (ph' : Phase)
              × Calm p (arrives p w (AtAgent a) x.from m t.links) s os' ph'
              × OrderIn ph' p (arrives p w (AtAgent a) x.from m t.links)) (sym (em ∙ f))
              (wake_calm p q w recs sim r.awake.linked s os ph calm a la x.from t e st k z (em ∙ f)
              (wake_quiet (k, z, f)))
          by (message.Give g) f h = subst (λ m. (os' : List Over) × (ph' : Phase)
              × Calm p (arrives p w (AtAgent a) x.from m t.links) s os' ph'
              × OrderIn ph' p (arrives p w (AtAgent a) x.from m t.links)) (sym (em ∙ f))
              (give_calm p q w recs sim r.awake.linked s os ph calm a la x.from t e st order g (em ∙ f)
              (single_quiet g f))
          by (message.Finish k z) f h = subst (λ m. (os' : List Over) × (ph' : Phase)
              × Calm p (arrives p w (AtAgent a) x.from m t.links) s os' ph'
              × OrderIn ph' p (arrives p w (AtAgent a) x.from m t.links)) (sym (em ∙ f))
              (finish_calm p q w recs sim r.awake.linked s os ph calm a la x.from t e st full.asked full.bounds shut k z
              (em ∙ f) order (fq ph refl k z f))
            where
              fq : (v : Phase) → ph ≡ v → (k : Num) (z : Stamp) → x.message ≡ message.Finish k z → (y : Mail)
                  → In y (mail t.links) → IsWake y.message
              fq (Range n i u) ep k z f y iy = finish_quiet k z f n i u ep y iy
              fq Idle ep k z f y iy = absurd (let b : MailAt p s (is_over os) Idle x.to x.from (message.Finish k z) =
                  subst (MailAt p s (is_over os) Idle x.to x.from) f
                  (subst (λ v. MailAt p s (is_over os) v x.to x.from x.message) ep (calm.letters x x_in)) in
                  subst IsClp ex b.1)
              fq (Single n v) ep k z f y iy = absurd
                  (let b : MailAt p s (is_over os) (Single n v) x.to x.from (message.Finish k z) =
                  subst (MailAt p s (is_over os) (Single n v) x.to x.from) f
                  (subst (λ v. MailAt p s (is_over os) v x.to x.from x.message) ep (calm.letters x x_in)) in
                  subst IsClp ex b.1)
          by (message.Ask k z y) f h = absurd h
          by (message.Put r_n r_t v r_c) f h = absurd h
          by (message.Cut r_n r_t v) f h = absurd h
          by (message.Move v z y) f h = absurd h
          by (message.Grow k z u y) f h = absurd h

      -- a Give that is taken names an incomplete sense
      pub give_opens : (g : GiveRow) → x.message ≡ message.Give g → (y : Spot)
          × (find g.num (get_or w.agents a no_agent).steps ≡ Some y) × (y.sense.complete ≡ false)
      give_opens g f = give_found p q w recs sim r.awake.linked s os ph calm a la x.from t e (ap stamp_of em ∙ stamp_x)
          g (em ∙ f)

  -- the next world is calm
  pub next_calm : (os' : List Over) × (ph' : Phase) × Calm p (deliver p w x.to x.from) s os' ph'
      × OrderIn ph' p (deliver p w x.to x.from)
  next_calm = (let t = taken_head w.links r.awake.lanes x low.there in
      subst (λ (o : Option Taken). (os' : List Over) × (ph' : Phase) × Calm p (delivered p w x.to x.from o) s os' ph'
      × OrderIn ph' p (delivered p w x.to x.from o)) (sym t.1) (by x.to refl t.0 t.1 t.2))
    where
      by : (to : Process) → x.to ≡ to → (t : Taken) → take_from x.to x.from w.links ≡ Some t → t.message ≡ x.message
          → (os' : List Over) × (ph' : Phase) × Calm p (arrives p w x.to x.from t.message t.links) s os' ph'
          × OrderIn ph' p (arrives p w x.to x.from t.message t.links)
      by (AtAgent a) ex t e em = subst (λ v. (os' : List Over) × (ph' : Phase)
          × Calm p (arrives p w v x.from t.message t.links) s os' ph'
          × OrderIn ph' p (arrives p w v x.from t.message t.links)) (sym ex)
          (agent_step a ex t (subst (λ v. take_from v x.from w.links ≡ Some t) ex e) em)
      by (AtClp c) ex t e em = subst (λ v. (os' : List Over) × (ph' : Phase)
          × Calm p (arrives p w v x.from t.message t.links) s os' ph'
          × OrderIn ph' p (arrives p w v x.from t.message t.links)) (sym ex)
          (let e' = subst (λ v. take_from v x.from w.links ≡ Some t) ex e in
          let lc = to_low x x_in c ex in (
            os,
            ph,
            calm_clp p q w recs sim r.awake.linked s os ph calm c lc x.from t e',
            ordered ph calm order c lc t e',
          ))
        where
          ordered : (v : Phase) (cm : Calm p w s os v) → OrderIn v p w
              → (c : ℕ) (lc : c < clps_of p) (t : Taken) (e : take_from (AtClp c) x.from w.links ≡ Some t)
              → OrderIn v p (arrives p w (AtClp c) x.from t.message t.links)
          ordered Idle cm o c lc t e = tt
          ordered (Single n v) cm o c lc t e = tt
          ordered (Range n i u) cm o c lc t e = order_clp p q w recs sim r.awake.linked s os n i u cm o c lc x.from t e
