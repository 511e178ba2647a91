-- What a world delivers next to a process.
use Rattle.std.proofs.Common.{ℕ, ◌+◌, ◌-◌, ◌<◌, ◌≤◌, ◌≡◌, ◌⊎◌, ◌∙◌, Bool, true, false, cond, List, [], ◌∷◌, Option, Some, None, ap, sym, subst, refl, inl, inr, arith}
use Rattle.std.specs.Prelude.{nat_lt, option_map, ◌||◌}
use Rattle.std.proofs.lemmas.Bool.{cases_Bool}
use Rattle.std.proofs.lemmas.Bool.Decides.{nat_tests}
use Rattle.pm_base.proofs.Orders.{stamp_lt-never_itself}
use Rattle.pm_base.specs.Stamps.{stamp_lt}
use Rattle.pm_base.specs.declared.stamp.Line.{Line}
use Rattle.pm_base.specs.declared.stamp.Num.{Num}
use Rattle.pm_base.specs.declared.stamp.Stamp.{Stamp}
use Rattle.pm_message.specs.Messages.{stamp_of}
use Rattle.pm_message.specs.declared.Message.{Message}
use Rattle.pm_message.specs.declared.Message.TheVariants as message
use Rattle.pm_plan.specs.Plans.{IsValid}
use Rattle.pm_plan.specs.declared.plan.Plan.{Plan}
use Rattle.pm_alp.specs.declared.agent.Awaited.{Awaited}
use Rattle.pm_mail.specs.Links.{IsIdle, first_moment, first_of, is_before, is_before_at, waiting}
use Rattle.pm_mail.specs.Links as lane
use Rattle.pm_mail.specs.Links.{Link as Lane}
use Rattle.pm_sim.specs.Bounds.{between}
use Rattle.pm_sim.specs.Looks.{agent_of}
use Rattle.pm_sim.specs.Reached.{Reached}
use Rattle.pm_sim.specs.Ready.{held_back, kept_back}
use Rattle.pm_sim.specs.Routings.{mail_to}
use Rattle.pm_sim.specs.Sims.{In, vars_of}
use Rattle.pm_sim.specs.Worlds.{Mail, Process, World, clps_of, home, is_link, mail, process}
use Rattle.pm_sim.specs.Worlds.Process.{AtAgent, AtClp}
use Rattle.pm_sim.proofs.Awakes.{run_awake}
use Rattle.pm_sim.proofs.Places.{process_agent, process_clp}
use Rattle.pm_sim.proofs.Promised.{plan_fits}
use Rattle.pm_sim.proofs.Readies.{wake_own}
use Rattle.pm_sim.proofs.Takings.{LinkOk, Suits}
use Rattle.pm_sim.proofs.Wires.{between_mail, same_link}
use Rattle.pm_core.specs.Mails.{link_of, links_of}
use Rattle.pm_core.specs.Picks.{IsFree, IsHeld, IsLeast}
use Rattle.pm_core.specs.Views.{WorldView}
use Rattle.pm_core.proofs.Carries as carries

-- ---- what is held back

-- a message that is held back is a Wake
record Wakes (m : Message) : Type 0 where
  num : Num
  stamp : Stamp
  is : m ≡ message.Wake num stamp

kept_wake : (k : Option Line) (o : Option Awaited) (m : Message) → kept_back k o m ≡ true → Wakes m
kept_wake None o m e = absurd (cc)
kept_wake (Some k) o (message.Wake n s) e = record { num = n; stamp = s; is = refl }
kept_wake (Some k) o (message.Ask n s q) e = absurd (cc)
kept_wake (Some k) o (message.Put n s v c) e = absurd (cc)
kept_wake (Some k) o (message.Cut n s v) e = absurd (cc)
kept_wake (Some k) o (message.Give g) e = absurd (cc)
kept_wake (Some k) o (message.Finish n s) e = absurd (cc)
kept_wake (Some k) o (message.Move v s r) e = absurd (cc)
kept_wake (Some k) o (message.Grow j s u w) e = absurd (cc)

-- nothing is held back that is for a communication process
held_clp : (p : Plan) (w : World) (window : Option Line) (to : ℕ) (m : Message) → to < clps_of p
    → held_back w (λ _. window) (process p to) m ≡ false
held_clp p w window to m lt = ap (λ z. held_back w (λ _. window) z m) (process_clp p to lt)

pub agent_here : (p : Plan) (to : ℕ) → clps_of p ≤ to → process p to ≡ AtAgent (to - clps_of p)
agent_here p to le =
    let e : to ≡ clps_of p + (to - clps_of p) = omega arith in
    ap (process p) e ∙ process_agent p (to - clps_of p)

held_agent : (p : Plan) (w : World) (window : Option Line) (to : ℕ) (m : Message) → clps_of p ≤ to
    → held_back w (λ _. window) (process p to) m ≡ kept_back window (agent_of w (to - clps_of p)).awaited m
held_agent p w window to m le = ap (λ z. held_back w (λ _. window) z m) (agent_here p to le)

-- ---- what stands in a link

pub between_waiting : (p : Plan) (t f : ℕ) (ls : List Lane)
    → between (process p t) (process p f) (links_of p ls) ≡ waiting t f ls
between_waiting p t f [] = refl
between_waiting p t f (l ∷ ls) =
    let a = carries.same_link p t f l in let again = between_waiting p t f ls in
    elim (cases_Bool (lane.is_link t f l)) [
      | inl e ↦ rw (a, e) refl
      | inr e ↦ rw (a, e) again
    ]

-- who has sent a message has a number
pub between_number : (p : Plan) (t : ℕ) (x : Process) (ls : List Lane) (m : Message) (rest : List Message)
    → between (process p t) x (links_of p ls) ≡ m ∷ rest → (f : ℕ) × (x ≡ process p f)
between_number p t x [] m rest e = absurd (cc)
between_number p t x (l ∷ ls) m rest e = elim (cases_Bool (is_link (process p t) x (link_of p l))) [
  | inl g ↦ (l.from, sym (same_link (process p t) x (link_of p l) g).1)
  | inr g ↦ between_number p t x ls m rest
      (subst (λ z. cond z l.messages (between (process p t) x (links_of p ls)) ≡ m ∷ rest) g e)
]

left_false : (a b : Bool) → (a || b) ≡ false → a ≡ false
left_false true b e = absurd (cc)
left_false false b e = refl

-- a message that doesn't come before another hasn't a lesser stamp
no_lesser : (to g f : ℕ) (ls : List Lane) (y m : Message) → first_of (waiting to g ls) ≡ Some y
    → first_of (waiting to f ls) ≡ Some m → is_before to g f ls ≡ false → stamp_lt (stamp_of y) (stamp_of m) ≡ false
no_lesser to g f ls y m eg ef e = left_false (stamp_lt (stamp_of y) (stamp_of m)) _
    (sym (ap (λ z. is_before_at (option_map stamp_of z) g (first_moment to f ls) f) eg
    ∙ ap (λ z. is_before_at (Some (stamp_of y)) g (option_map stamp_of z) f) ef) ∙ e)

-- ---- what contracts see

module _ (v : WorldView) (ls : List Lane) (same : v.world.links ≡ links_of v.plan ls)
    (window : Option Line) (to : ℕ) where
  abbrev p : Plan
  p = v.plan

  on_lane : (f : ℕ) → between (process p to) (process p f) v.world.links ≡ waiting to f ls
  on_lane f = ap (between (process p to) (process p f)) same ∙ between_waiting p to f ls

  -- by its number, who has sent a message
  sender : (x : Process) (m : Message) (rest : List Message) → between (process p to) x v.world.links ≡ m ∷ rest
      → (f : ℕ) × (x ≡ process p f)
  sender x m rest e = between_number p to x ls m rest (sym (ap (between (process p to) x) same) ∙ e)

  pub is_free : (from : ℕ) (m : Message) → first_of (waiting to from ls) ≡ Some m
      → held_back v.world (λ _. window) (process p to) m ≡ false → IsFree v window to from
  is_free from m first free = by (waiting to from ls) refl first
    where
      by : (ms : List Message) → waiting to from ls ≡ ms → first_of ms ≡ Some m → IsFree v window to from
      by [] e f = absurd (cc)
      by (x ∷ rest) e f = (let g : x ≡ m = cc in record {
        message = x;
        rest = rest;
        first = on_lane from ∙ e;
        free = subst (λ z. held_back v.world (λ _. window) (process p to) z ≡ false) (sym g) free;
      })

  first_is : (g : ℕ) (b : IsFree v window to g) → first_of (waiting to g ls) ≡ Some b.message
  first_is g b = ap first_of (sym (on_lane g) ∙ b.first)

  pub is_least : (from : ℕ) → ((g : ℕ) → is_before to g from ls ≡ false) → IsLeast v window to from
  is_least from h = λ a g b. no_lesser to g from ls b.message a.message (first_is g b) (first_is from a) (h g)

  pub nothing_waits : IsIdle to ls → IsHeld v window to
  nothing_waits idle = λ x m rest e. absurd (let r = sender x m rest e in
      let g : m ∷ rest ≡ [] = sym e
      ∙ (ap (λ z. between (process p to) z v.world.links) r.1 ∙ (on_lane r.0 ∙ idle r.0)) in
      cc)

  module _ (n : ℕ) (valid : IsValid p) (reached : Reached p n v.world)
      (from : ℕ) (m : Message) (first : first_of (waiting to from ls) ≡ Some m)
      (held : held_back v.world (λ _. window) (process p to) m ≡ true) where
    abbrev agent : ℕ
    agent = to - clps_of p

    linked : (x : Mail) → In x (mail v.world.links) → LinkOk p x.to x.from × Suits (vars_of p) x.from x.message
    linked = subst
        (λ z. (x : Mail) → In x (mail z.links) → LinkOk p x.to x.from × Suits (vars_of p) x.from x.message)
        (sym reached.world) (run_awake p (plan_fits p valid) reached.events reached.legal).linked.mail

    -- what is held back is for an agent
    high : clps_of p ≤ to
    high = elim (cases_Bool (nat_lt to (clps_of p))) [
      | inl e ↦ absurd (let lt : to < clps_of p = grind (arith, nat_tests, e) in
          let g = held_clp p v.world window to m lt in cc)
      | inr e ↦ grind (arith, nat_tests, e)
    ]

    at : process p to ≡ AtAgent agent
    at = agent_here p to high

    -- what was sent to it, and by whom
    letter : (x : Process) (y : Message) (rest : List Message) → between (process p to) x v.world.links ≡ y ∷ rest
        → LinkOk p (AtAgent agent) x × Suits (vars_of p) x y
    letter x y rest e = linked (mail_to (AtAgent agent) x y) (between_mail (AtAgent agent) x v.world.links y
        (subst (In y) (sym (sym (ap (λ z. between z x v.world.links) at) ∙ e)) (inl refl)))

    -- what is held back there is a Wake, of the agent itself
    own : (x : Process) (y : Message) (rest : List Message) → between (process p to) x v.world.links ≡ y ∷ rest
        → held_back v.world (λ _. window) (process p to) y ≡ true → x ≡ AtAgent agent
    own x y rest e h =
        let k = kept_wake window (agent_of v.world agent).awaited y (sym (held_agent p v.world window to y high) ∙ h) in
        let l = letter x y rest e in
        wake_own (vars_of p) agent p x k.num k.stamp l.0 (subst (Suits (vars_of p) x) k.is l.1)

    home_low : home p agent < clps_of p
    home_low = (plan_fits p valid).tree.homes agent

    pub home_free : (y : Message) → first_of (waiting to (home p agent) ls) ≡ Some y → IsFree v window to (home p agent)
    home_free y f = elim (cases_Bool (held_back v.world (λ _. window) (process p to) y)) [
      | inl h ↦ absurd (by (waiting to (home p agent) ls) refl f h)
      | inr h ↦ is_free (home p agent) y f h
    ]
      where
        by : (ms : List Message) → waiting to (home p agent) ls ≡ ms → first_of ms ≡ Some y
            → held_back v.world (λ _. window) (process p to) y ≡ true → ⊥
        by [] e g h = cc
        by (x ∷ rest) e g h =
            let same' : x ≡ y = cc in
            let o = own (process p (home p agent)) x rest (on_lane (home p agent) ∙ e)
            (subst (λ z. held_back v.world (λ _. window) (process p to) z ≡ true) (sym same') h) in
            let c : AtClp (home p agent) ≡ AtAgent agent = sym (process_clp p (home p agent) home_low) ∙ o in
            cc

    -- the message that was looked at first is the agent's own
    from_self : process p from ≡ AtAgent agent
    from_self = look (waiting to from ls) refl first
      where
        look : (ms : List Message) → waiting to from ls ≡ ms → first_of ms ≡ Some m → process p from ≡ AtAgent agent
        look [] e g = absurd (cc)
        look (x ∷ rest) e g =
            let same' : x ≡ m = cc in
            own (process p from) x rest (on_lane from ∙ e)
            (subst (λ z. held_back v.world (λ _. window) (process p to) z ≡ true) (sym same') held)

    -- what the agent has sent itself is held back
    self_held : (x : Process) (y : Message) (rest : List Message) → between (process p to) x v.world.links ≡ y ∷ rest
        → x ≡ AtAgent agent → held_back v.world (λ _. window) (process p to) y ≡ true
    self_held x y rest e is =
        let g : waiting to from ls ≡ y ∷ rest = sym (on_lane from)
        ∙ (ap (λ z. between (process p to) z v.world.links) (from_self ∙ sym is) ∙ e) in
        let h : Some m ≡ Some y = sym first ∙ ap first_of g in
        let same' : m ≡ y = cc in
        subst (λ z. held_back v.world (λ _. window) (process p to) z ≡ true) same' held

    -- all else comes from its home
    from_home : (x : Process) → LinkOk p (AtAgent agent) x → (x ≡ process p (home p agent)) ⊎ (x ≡ AtAgent agent)
    from_home (AtClp c) l = inl (ap AtClp (sym l) ∙ sym (process_clp p (home p agent) home_low))
    from_home (AtAgent b) l = inr (ap AtAgent (sym l))

    pub home_least : IsLeast v window to (home p agent)
    home_least = λ a g b. by a g b (from_home (process p g) (letter (process p g) b.message b.rest b.first).0)
      where
        by : (a : IsFree v window to (home p agent)) (g : ℕ) (b : IsFree v window to g)
            → (process p g ≡ process p (home p agent)) ⊎ (process p g ≡ AtAgent agent)
            → stamp_lt (stamp_of b.message) (stamp_of a.message) ≡ false
        by a g b (inl e) =
            let f : b.message ∷ b.rest ≡ a.message ∷ a.rest =
            sym b.first ∙ (ap (λ z. between (process p to) z v.world.links) e ∙ a.first) in
            let same' : Some b.message ≡ Some a.message = ap first_of f in
            let is : b.message ≡ a.message = cc in
            subst (λ z. stamp_lt (stamp_of b.message) (stamp_of z) ≡ false) is
            (stamp_lt-never_itself (stamp_of b.message))
        by a g b (inr e) = absurd (
            let h = self_held (process p g) b.message b.rest b.first e in let k = b.free in cc)

    pub all_held : first_of (waiting to (home p agent) ls) ≡ None → IsHeld v window to
    all_held none = λ x y rest e. by x y rest e (from_home x (letter x y rest e).0)
      where
        by : (x : Process) (y : Message) (rest : List Message) → between (process p to) x v.world.links ≡ y ∷ rest
            → (x ≡ process p (home p agent)) ⊎ (x ≡ AtAgent agent)
            → held_back v.world (λ _. window) (process p to) y ≡ true
        by x y rest e (inl is) = absurd (
            let g : waiting to (home p agent) ls ≡ y ∷ rest =
            sym (on_lane (home p agent)) ∙ (ap (λ z. between (process p to) z v.world.links) (sym is) ∙ e) in
            let h : Some y ≡ None = sym (ap first_of g) ∙ none in cc)
        by x y rest e (inr is) = self_held x y rest e is
