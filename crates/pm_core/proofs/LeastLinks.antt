-- The link whose first message comes first of all, in a world that a legal run led to.
use Rattle.std.proofs.Common.{ℕ, ◌+◌, ◌-◌, ◌<◌, ◌≤◌, ◌≡◌, ◌∙◌, true, false, List, [], ◌∷◌, Option, Some, None, ap, sym, subst, refl, inl, inr, arith, length}
use Rattle.std.specs.Prelude.{nat_lt}
use Rattle.std.proofs.lemmas.Bool.{cases_Bool}
use Rattle.std.proofs.lemmas.Bool.Decides.{nat_tests}
use Rattle.pm_base.specs.declared.rows.Parts.{Parts}
use Rattle.pm_base.specs.declared.stamp.Stamp.{Stamp}
use Rattle.pm_message.specs.declared.Message.{Message}
use Rattle.pm_message.specs.declared.Message.TheVariants as message
use Rattle.pm_plan.specs.Plans.{IsValid}
use Rattle.pm_plan.specs.declared.plan.Plan.{Plan}
use Rattle.pm_mail.specs.Links.{first_of, waiting}
use Rattle.pm_mail.specs.Links.{Link as Lane}
use Rattle.pm_sim.specs.Bounds.{between}
use Rattle.pm_sim.specs.Reached.{Reached}
use Rattle.pm_sim.specs.Routings.{mail_to}
use Rattle.pm_sim.specs.Sims.{In}
use Rattle.pm_sim.specs.Worlds.{Mail, World, clps_of, committed, first_world, mail, mail_of, process}
use Rattle.pm_sim.specs.Worlds.Process.{AtAgent, AtClp}
use Rattle.pm_sim.proofs.Awakes.{to_in}
use Rattle.pm_sim.proofs.Lanes.{InPlan}
use Rattle.pm_sim.proofs.Letters.{in_map}
use Rattle.pm_sim.proofs.Lists.{in_cases}
use Rattle.pm_sim.proofs.Promised.{plan_fits}
use Rattle.pm_sim.proofs.ReachedWorlds.{world_tells}
use Rattle.pm_sim.proofs.Wholes.{Whole, first_whole, whole_run}
use Rattle.pm_sim.proofs.Wires.{between_mail}
use Rattle.pm_core.specs.Leasts.{IsBest, IsLeastLink, LeadsBelow, MovesWithin, front_lt, front_of, is_moving}
use Rattle.pm_core.specs.Mails.{link_of, links_of}
use Rattle.pm_core.specs.Views.{WorldView}
use Rattle.pm_core.specs.declared.fronts.Front.{Front}
use Rattle.pm_core.proofs.Picking.{agent_here, between_waiting}

-- ---- between whom messages go

-- the process of a number is the plan's
inside : (p : Plan) (n t : ℕ) → InPlan (clps_of p) n (process p t) → t < clps_of p + n
inside p n t i = elim (cases_Bool (nat_lt t (clps_of p))) [
  | inl e ↦ (let lt : t < clps_of p = grind (arith, nat_tests, e) in omega arith)
  | inr e ↦ (let le : clps_of p ≤ t = grind (arith, nat_tests, e) in
      let lt : t - clps_of p < n = subst (InPlan (clps_of p) n) (agent_here p t le) i in omega arith)
]

-- a number below those of the agents
low : (p : Plan) (t c : ℕ) → process p t ≡ AtClp c → t < clps_of p
low p t c e = elim (cases_Bool (nat_lt t (clps_of p))) [
  | inl f ↦ grind (arith, nat_tests, f)
  | inr f ↦ absurd (let le : clps_of p ≤ t = grind (arith, nat_tests, f) in
      let g : AtAgent (t - clps_of p) ≡ AtClp c = sym (agent_here p t le) ∙ e in cc)
]

-- a Move by its parts
record Moves (m : Message) : Type 0 where
  var : ℕ
  stamp : Stamp
  parts : Parts
  is : m ≡ message.Move var stamp parts

parts_of : (m : Message) → is_moving m ≡ true → Moves m
parts_of (message.Move v s r) e = record { var = v; stamp = s; parts = r; is = refl }
parts_of (message.Wake n s) e = absurd (cc)
parts_of (message.Ask n s q) e = absurd (cc)
parts_of (message.Put n s v c) e = absurd (cc)
parts_of (message.Cut n s v) e = absurd (cc)
parts_of (message.Give g) e = absurd (cc)
parts_of (message.Finish n s) e = absurd (cc)
parts_of (message.Grow j s u w) e = absurd (cc)

-- who gets a message is in the plan, and communication processes alone send Moves to one another
record Goes (p : Plan) (t f : ℕ) (m : Message) : Type 0 where
  within : t < clps_of p + length p.agents
  moves : MovesWithin (clps_of p) t f m

module _ (p : Plan) (n : ℕ) (w : World) (valid : IsValid p) (reached : Reached p n w) where
  whole : Whole p w (committed p reached.events)
  whole = subst (λ z. Whole p z (committed p reached.events)) (sym reached.world)
      (whole_run p (first_world p) [] reached.events (first_whole p (plan_fits p valid)) reached.legal)

  goes : (t f : ℕ) (m : Message) → In (mail_to (process p t) (process p f) m) (mail w.links) → Goes p t f m
  goes t f m i = record {
    within = inside p (length p.agents) t (subst (λ z. InPlan (clps_of p) z (process p t))
        (world_tells p n w valid reached).links.agents
        (to_in p whole.q w whole.full.recs whole.full.sim (process p t) (process p f) m i));
    moves = λ e. by (parts_of m e);
  }
    where
      by : Moves m → (t < clps_of p) × (f < clps_of p)
      by x =
          let o = whole.full.sim.moves.moves (process p t) (process p f) x.var x.stamp x.parts
          (subst (λ z. In (mail_to (process p t) (process p f) z) (mail w.links)) x.is i) in
          (low p t (whole.full.sim.place x.var) o.4, low p f o.3 o.5)

-- ---- what contracts see

-- whom a message goes to and comes from has a number
numbered : (p : Plan) (ls : List Lane) (x : Mail) → In x (mail (links_of p ls))
    → (t : ℕ) × (f : ℕ) × (x.to ≡ process p t) × (x.from ≡ process p f)
numbered p [] x i = absurd i
numbered p (l ∷ ls) x i = elim (in_cases (mail_of (link_of p l)) (mail (links_of p ls)) x i) [
  | inl j ↦ (let o = in_map (λ (m : Message). mail_to (process p l.to) (process p l.from) m) l.messages x j in
      (l.to, l.from, ap (λ (z : Mail). z.to) o.2, ap (λ (z : Mail). z.from) o.2))
  | inr j ↦ numbered p ls x j
]

none_in : {X : Type 0} (xs : List X) → ((x : X) → In x xs → ⊥) → xs ≡ []
none_in [] h = refl
none_in (x ∷ xs) h = absurd (h x (inl refl))

module _ (v : WorldView) (ls : List Lane) (same : v.world.links ≡ links_of v.plan ls)
    (n : ℕ) (valid : IsValid v.plan) (reached : Reached v.plan n v.world) where
  abbrev p : Plan
  p = v.plan

  on_lane : (t f : ℕ) → between (process p t) (process p f) v.world.links ≡ waiting t f ls
  on_lane t f = ap (between (process p t) (process p f)) same ∙ between_waiting p t f ls

  -- a first message goes so
  goes_first : (t f : ℕ) (m : Message) (more : List Message)
      → between (process p t) (process p f) v.world.links ≡ m ∷ more → Goes p t f m
  goes_first t f m more e = goes p n v.world valid reached t f m
      (between_mail (process p t) (process p f) v.world.links m (subst (In m) (sym e) (inl refl)))

  pub is_least : (a : Front) → LeadsBelow ls (clps_of p) (clps_of p + length p.agents) a → IsLeastLink v a.to a.from
  is_least a lead = by (waiting a.to a.from ls) refl lead.front.first
    where
      by : (ms : List Message) → waiting a.to a.from ls ≡ ms → first_of ms ≡ Some lead.front.message
          → IsLeastLink v a.to a.from
      by [] e f = absurd (cc)
      by (x ∷ rest) e f =
          let g : x ≡ lead.front.message = cc in record {
            message = x;
            rest = rest;
            first = on_lane a.to a.from ∙ e;
            least = λ t u m more h.
                let k = goes_first t u m more h in
                subst (λ z. front_lt (front_of t u m) z ≡ false)
                (lead.front.is ∙ ap (front_of a.to a.from) (sym g))
                (lead.least t u k.within m (ap first_of (sym (on_lane t u) ∙ h)) k.moves);
          }

  pub is_best : (best : Option Front) (a : Front) → best ≡ Some a
      → IsBest ls (clps_of p) (clps_of p + length p.agents) best → IsLeastLink v a.to a.from
  is_best best a e b = is_least a (b.some a e)

  pub no_mail : (best : Option Front) → best ≡ None → IsBest ls (clps_of p) (clps_of p + length p.agents) best
      → mail v.world.links ≡ []
  no_mail best e b = none_in (mail v.world.links) (λ x i. by x i
      (numbered p ls x (subst (λ z. In x (mail z)) same i)))
    where
      by : (x : Mail) → In x (mail v.world.links)
          → (t : ℕ) × (f : ℕ) × (x.to ≡ process p t) × (x.from ≡ process p f) → ⊥
      by x i o =
          let j : In (mail_to (process p o.0) (process p o.1) x.message) (mail v.world.links) =
          subst (λ z. In (mail_to z (process p o.1) x.message) (mail v.world.links)) o.2
          (subst (λ z. In (mail_to x.to z x.message) (mail v.world.links)) o.3 i) in
          let k = (goes p n v.world valid reached o.0 o.1 x.message j).within in
          let l : In x.message (between (process p o.0) (process p o.1) v.world.links) =
          (world_tells p n v.world valid reached).links.between
          (mail_to (process p o.0) (process p o.1) x.message) j in
          let none : between (process p o.0) (process p o.1) v.world.links ≡ [] =
          on_lane o.0 o.1 ∙ b.none e o.0 k o.1 in
          subst (In x.message) none l
