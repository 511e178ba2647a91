-- A message that arrives at a world that stands: its receiver takes it, and the world after that is the one after the
-- delivery, and stands.
use Rattle.std.proofs.Common.{ℕ, suc, ◌+◌, ◌-◌, ◌<◌, ◌≤◌, ◌≡◌, ◌&&◌, ◌∙◌, Bool, true, false, List, Some, None, ap, sym, subst, refl, inl, inr, arith, map, length, get_or, set}
use Rattle.std.specs.Prelude.{nat_lt, not, slice_get, sum_by}
use Rattle.std.proofs.lemmas.Bool.{cases_Bool, cases_eq}
use Rattle.std.proofs.lemmas.Bool.Decides.{nat_tests}
use Rattle.std.proofs.lemmas.List.{get_or-map, get_or-set_same, length-map, length-set, map-set}
use Rattle.std.proofs.lemmas.List.Sums.{get_or-le-sum_by, sum_by-set}
use Rattle.std.proofs.lemmas.Option.{get_or_from_slice_get, slice_get-get_or, slice_get_past}
use Rattle.pm_base.specs.Stamps.{is_below}
use Rattle.pm_base.specs.declared.stamp.Line.{Line}
use Rattle.pm_base.specs.declared.run.Event.TheVariants as event
use Rattle.pm_message.specs.Messages.{stamp_of}
use Rattle.pm_message.specs.declared.Message.{Message}
use Rattle.pm_model.proofs.Rises.{get-set-other}
use Rattle.pm_plan.specs.Plans.{IsValid}
use Rattle.pm_plan.specs.declared.plan.AgentRow.{AgentRow}
use Rattle.pm_plan.specs.declared.plan.Plan.{Plan}
use Rattle.pm_plan.proofs.Valid.{valid_agent, valid_limits}
use Rattle.pm_alp.specs.Agents.{Sends, agent_after, no_agent}
use Rattle.pm_alp.specs.declared.agent.Agent.{Agent}
use Rattle.pm_clp.specs.Clps.{ClpSends, ClpState, Hub, clp_after}
use Rattle.pm_clp.specs.Takes.{fits, is_linked, takes}
use Rattle.pm_clp.specs.Views.{ClpView}
use Rattle.pm_mail.specs.Links.{first_of, taken, waiting}
use Rattle.pm_mail.specs.Links.{Link as Lane}
use Rattle.pm_sim.specs.Journals.{made_at}
use Rattle.pm_sim.specs.Looks.{clp_of}
use Rattle.pm_sim.specs.Reached.{Reached}
use Rattle.pm_sim.specs.Taken.{IsTaken}
use Rattle.pm_sim.specs.Worlds.{Link, World, actor_of, addressed, after_event, arrives, clps_of, delivered, has_mail, home, hub_of, is_legal, no_clp, no_row, number, post_all, posted, process, take_from}
use Rattle.pm_sim.specs.Worlds.Process.{AtAgent, AtClp}
use Rattle.pm_sim.proofs.Places.{process_agent, process_clp}
use Rattle.pm_sim.proofs.ReachedWorlds.{all_taken, reached_on, world_tells}
use Rattle.pm_alp.specs.Views.{sent_by}
use Rattle.pm_alp.specs.States.{actor as actor_by}
use Rattle.pm_alp.specs.Views as alp
use Rattle.pm_alp.specs.Views.{Process as AlpView}
use Rattle.pm_core.specs.Firsts.{fixed_at}
use Rattle.pm_core.specs.Mails.{links_of}
use Rattle.pm_core.specs.Steps.{AlpDid, Arrived, CanArrive, ClpDid}
use Rattle.pm_core.specs.Views.{IsAlpOf, IsClpOf, IsWorld, Stands, WorldView, world_of}
use Rattle.pm_core.specs.Views.{delivered as after_delivery}
use Rattle.pm_core.specs.declared.arrivals.Processes.{Processes}
use Rattle.pm_core.proofs.Carries.{first_mailed, posted_links, taken_link, told_links, took}

-- ---- numbers

number_process : (p : Plan) (k : ℕ) → number p (process p k) ≡ k
number_process p k = elim (cases_Bool (nat_lt k (clps_of p))) [
  | inl e ↦ rw e refl
  | inr e ↦ rw e (grind (arith, nat_tests, e))
]

-- ---- a process that was found by its number

pub found_low : {X : Type 0} (xs : List X) (i : ℕ) (x : X) → slice_get xs i ≡ Some x → i < length xs
found_low xs i x e = elim (cases_Bool (nat_lt i (length xs))) [
  | inl lt ↦ grind (arith, nat_tests, lt)
  | inr ge ↦ absurd (let g : slice_get xs i ≡ None = slice_get_past xs i (grind (arith, nat_tests, ge)) in cc)
]

found_same : {X : Type 0} (xs : List X) (i : ℕ) (x y : X) → slice_get xs i ≡ Some x → slice_get xs i ≡ Some y → x ≡ y
found_same xs i x y e f = cc

found_set : {X : Type 0} (xs : List X) (i : ℕ) (x y z : X) → slice_get xs i ≡ Some x
    → slice_get (set xs i y) i ≡ Some z → z ≡ y
found_set xs i x y z e f =
    let lt = found_low xs i x e in
    let lt' : i < length (set xs i y) = (let l = length-set xs i y in omega arith) in
    let g : slice_get (set xs i y) i ≡ Some y =
    slice_get-get_or (set xs i y) i y lt' ∙ ap Some (get_or-set_same xs i y y lt) in
    cc

sum_set : {X : Type 0} (f : X → ℕ) (xs : List X) (i : ℕ) (x y : X) → slice_get xs i ≡ Some x → f y ≡ f x + 1
    → sum_by f (set xs i y) ≡ sum_by f xs + 1
sum_set f xs i x y e g =
    let a = sum_by-set f xs i y x (found_low xs i x e) in
    let b : f (get_or xs i x) ≡ f x = ap f (get_or_from_slice_get xs i x x e) in
    omega (arith, a, b, g)

sum_part : {X : Type 0} (f : X → ℕ) (xs : List X) (i : ℕ) (x : X) → slice_get xs i ≡ Some x → f x ≤ sum_by f xs
sum_part f xs i x e =
    let a = get_or-le-sum_by f xs i x (found_low xs i x e) in
    let b : f (get_or xs i x) ≡ f x = ap f (get_or_from_slice_get xs i x x e) in
    omega (arith, a, b)

-- ---- what takes a message with so many deliveries takes it with fewer

both : (a b c : Bool) → ((a && b) && c) ≡ true → (b && c) ≡ true
both true b c e = e
both false b c e = absurd (cc)

takes_few : (h : Hub) (k n : ℕ) (s : ClpState) (f : ℕ) (m : Message) → takes h k s f m ≡ true → n < 20000000
    → takes h n s f m ≡ true
takes_few h k n s f m e lt =
    let g : nat_lt n 20000000 ≡ true = grind (arith, nat_tests, lt) in
    rw g (both (nat_lt k 20000000) (is_linked h f) (not (is_below (stamp_of m) s.line) && fits h s f m) e)

-- ---- the world after that

abbrev pub make : List ClpState → List Agent → List Link → Line → World
make cs as' ls l = record { clps = cs; agents = as'; links = ls; line = l }

pub made_same : (a b : List ClpState) (c d : List Agent) (e f : List Link) (l : Line)
    → a ≡ b → c ≡ d → e ≡ f → make a c e l ≡ make b d f l
made_same a b c d e f l x y z =
    ap (λ k. make k c e l) x ∙ (ap (λ k. make b k e l) y ∙ ap (λ k. make b d k l) z)

module _ (s : Processes) (mail : List Lane) (l : Line) (to from : ℕ) (m : Message)
    (first : first_of (waiting to from mail) ≡ Some m) where
  abbrev p : Plan
  p = s.plan.now

  abbrev w : World
  w = world_of s mail l

  abbrev ls : List Link
  ls = links_of p (taken to from mail)

  there : take_from (process p to) (process p from) w.links ≡ Some (record { message = m; links = ls })
  there = taken_link p to from mail ∙ ap (took p (taken to from mail)) first

  pub is_there : is_legal p w (event.Deliver to from) ≡ true
  is_there = ap has_mail there

  arrived : after_event p w (event.Deliver to from) ≡ arrives p w (process p to) (process p from) m ls
  arrived = ap (delivered p w (process p to) (process p from)) there

  pub clp_world : (s' : Processes) (mail' : List Lane) → s'.plan.now ≡ p → to < clps_of p
      → (d : ClpDid s s' (taken to from mail) mail' to from m) → d.was.hub ≡ hub_of p to
      → world_of s' mail' l ≡ after_event p w (event.Deliver to from)
  clp_world s' mail' same lt d hub =
      let R : ClpSends = clp_after d.was.hub from m d.was.clp in
      let lt' = found_low s.clps.items to d.was d.at in
      let state : get_or w.clps to no_clp ≡ d.was.clp =
      get_or-map (λ (c : ClpView). c.clp) s.clps.items to d.was no_clp lt'
      ∙ ap (λ (c : ClpView). c.clp) (get_or_from_slice_get s.clps.items to d.was d.was d.at) in
      let r : clp_after (hub_of p to) (number p (process p from)) m (get_or w.clps to no_clp) ≡ R =
      ap (λ h. clp_after h (number p (process p from)) m (get_or w.clps to no_clp)) (sym hub)
      ∙ (ap (λ k. clp_after d.was.hub k m (get_or w.clps to no_clp)) (number_process p from)
      ∙ ap (clp_after d.was.hub from m) state) in
      let clps : map (λ (c : ClpView). c.clp) s'.clps.items ≡ set w.clps to R.clp =
      ap (map (λ (c : ClpView). c.clp)) d.clps ∙ (map-set (λ (c : ClpView). c.clp) s.clps.items to d.now
      ∙ ap (set w.clps to) d.state) in
      let agents : map (λ (a : AlpView). a.agent) s'.alps.items ≡ w.agents =
      ap (map (λ (a : AlpView). a.agent)) d.alps in
      let links : links_of s'.plan.now mail' ≡ post_all (AtClp to) (map (posted p) R.sent) ls =
      ap (λ z. links_of z mail') same ∙ (ap (links_of p) d.mail
      ∙ (posted_links p to R.sent (taken to from mail)
      ∙ ap (λ z. post_all z (map (posted p) R.sent) ls) (process_clp p to lt))) in
      made_same (map (λ (c : ClpView). c.clp) s'.clps.items) (set w.clps to R.clp)
      (map (λ (a : AlpView). a.agent) s'.alps.items) w.agents
      (links_of s'.plan.now mail') (post_all (AtClp to) (map (posted p) R.sent) ls) l clps agents links
      ∙ (ap (λ (z : ClpSends). make (set w.clps to z.clp) w.agents (post_all (AtClp to) (map (posted p) z.sent) ls) l)
      (sym r)
      ∙ (ap (λ z. arrives p w z (process p from) m ls) (sym (process_clp p to lt)) ∙ sym arrived))

  pub alp_world : (s' : Processes) (mail' : List Lane) (a : ℕ) → s'.plan.now ≡ p → to ≡ clps_of p + a
      → home p a < clps_of p → (d : AlpDid s s' (taken to from mail) mail' a m)
      → actor_by d.was.fixed ≡ actor_of p a → world_of s' mail' l ≡ after_event p w (event.Deliver to from)
  alp_world s' mail' a same is lt d actor =
      let R : Sends = agent_after (actor_by d.was.fixed) d.was.agent m in
      let lt' = found_low s.alps.items a d.was d.at in
      let at : process p to ≡ AtAgent a = ap (process p) is ∙ process_agent p a in
      let state : get_or w.agents a no_agent ≡ d.was.agent =
      get_or-map (λ (x : AlpView). x.agent) s.alps.items a d.was no_agent lt'
      ∙ ap (λ (x : AlpView). x.agent) (get_or_from_slice_get s.alps.items a d.was d.was d.at) in
      let r : agent_after (actor_of p a) (get_or w.agents a no_agent) m ≡ R =
      ap (λ h. agent_after h (get_or w.agents a no_agent) m) (sym actor)
      ∙ ap (λ k. agent_after (actor_by d.was.fixed) k m) state in
      let agents : map (λ (x : AlpView). x.agent) s'.alps.items ≡ set w.agents a R.agent =
      ap (map (λ (x : AlpView). x.agent)) d.alps
      ∙ map-set (λ (x : AlpView). x.agent) s.alps.items a (alp.delivered m d.was) in
      let clps : map (λ (c : ClpView). c.clp) s'.clps.items ≡ w.clps = ap (map (λ (c : ClpView). c.clp)) d.clps in
      let links : links_of s'.plan.now mail' ≡ post_all (AtAgent a) (map (addressed a (home p a)) R.sent) ls =
      ap (λ z. links_of z mail') same ∙ (ap (links_of p) d.mail
      ∙ told_links p a (home p a) R.sent (taken to from mail) lt) in
      made_same (map (λ (c : ClpView). c.clp) s'.clps.items) w.clps
      (map (λ (x : AlpView). x.agent) s'.alps.items) (set w.agents a R.agent)
      (links_of s'.plan.now mail') (post_all (AtAgent a) (map (addressed a (home p a)) R.sent) ls) l clps agents links
      ∙ (ap (λ (z : Sends). make w.clps (set w.agents a z.agent)
      (post_all (AtAgent a) (map (addressed a (home p a)) z.sent) ls) l) (sym r)
      ∙ (ap (λ z. arrives p w z (process p from) m ls) (sym at) ∙ sym arrived))

-- ---- in a world that stands

module _ (s : Processes) (mail : List Lane) (l : Line) (n : ℕ) (valid : IsValid s.plan.now)
    (h : Stands s (world_of s mail l) n) where
  abbrev plan : Plan
  plan = s.plan.now

  abbrev world : World
  world = world_of s mail l

  pub clps_all : length s.clps.items ≡ clps_of plan
  clps_all = sym (length-map s.clps.items (λ (c : ClpView). c.clp))
      ∙ (world_tells plan n world valid h.reached).links.clps

  pub alps_all : length s.alps.items ≡ length plan.agents
  alps_all = sym (length-map s.alps.items (λ (a : AlpView). a.agent))
      ∙ (world_tells plan n world valid h.reached).links.agents

  row_of : (a : ℕ) → a < length plan.agents → slice_get plan.agents a ≡ Some (get_or plan.agents a no_row)
  row_of a lt = slice_get-get_or plan.agents a no_row lt

  pub actor_is : (a : ℕ) (v : AlpView) → slice_get s.alps.items a ≡ Some v → actor_by v.fixed ≡ actor_of plan a
  actor_is a v e =
      let lt = found_low s.alps.items a v e in
      ap actor_by ((h.alps a v e).fixed (get_or plan.agents a no_row) (row_of a (let x = alps_all in omega arith)))

  pub home_low : (a : ℕ) → a < length plan.agents → home plan a < clps_of plan
  home_low a lt =
      let e : get_or (map (λ (r : AgentRow). r.home) plan.agents) a 0 ≡ home plan a =
      get_or-map (λ (r : AgentRow). r.home) plan.agents a no_row 0 lt in
      subst (λ z. z < clps_of plan) e (valid_agent plan valid a lt)

  module _ (to from : ℕ) (m : Message) (few : n < 20000000) (first : first_of (waiting to from mail) ≡ Some m) where
    is_taken : IsTaken plan world (made_at plan (process plan to) h.reached.events) (process plan to) (process plan from) m
    is_taken = all_taken plan n world valid h.reached few
        (record { to = process plan to; from = process plan from; message = m }) (first_mailed plan to from mail m first)

    taken_clp : (lt : to < clps_of plan) → takes (hub_of plan to) (made_at plan (process plan to) h.reached.events)
        (clp_of world to) from m ≡ true
    taken_clp lt =
        let k = made_at plan (process plan to) h.reached.events in
        let x : IsTaken plan world k (AtClp to) (process plan from) m =
        subst (λ z. IsTaken plan world k z (process plan from) m) (process_clp plan to lt) is_taken in
        subst (λ z. takes (hub_of plan to) k (clp_of world to) z m ≡ true) (number_process plan from) x.1

    taken_alp : clps_of plan ≤ to → to - clps_of plan < length plan.agents
    taken_alp le =
        let k = made_at plan (process plan to) h.reached.events in
        let e : clps_of plan + (to - clps_of plan) ≡ to = omega arith in
        let x : IsTaken plan world k (AtAgent (to - clps_of plan)) (process plan from) m =
        subst (λ z. IsTaken plan world k z (process plan from) m)
        (ap (process plan) (sym e) ∙ process_agent plan (to - clps_of plan)) is_taken in
        x.0

    pub can_arrive : CanArrive s to from m
    can_arrive = record {
      clp = λ v e.
          let lt' = found_low s.clps.items to v e in
          let lt : to < clps_of plan = (let x = clps_all in omega arith) in
          let i = h.clps to v e in
          let state : clp_of world to ≡ v.clp =
          get_or-map (λ (c : ClpView). c.clp) s.clps.items to v no_clp lt'
          ∙ ap (λ (c : ClpView). c.clp) (get_or_from_slice_get s.clps.items to v v e) in
          let made_few : v.made < 20000000 =
          (let a = sum_part (λ (c : ClpView). c.made) s.clps.items to v e in let b = h.counts in omega arith) in
          record {
            well = i.well;
            takes = takes_few v.hub (made_at plan (process plan to) h.reached.events) v.made v.clp from m
                (subst (λ z. takes z (made_at plan (process plan to) h.reached.events) v.clp from m ≡ true) (sym i.hub)
                (subst (λ z. takes (hub_of plan to) (made_at plan (process plan to) h.reached.events) z from m ≡ true)
                state (taken_clp lt))) made_few;
          };
      alp = λ v le e. record {
        well = (h.alps (to - length s.clps.items) v e).well;
        few = (let a = sum_part (λ (x : AlpView). x.made) s.alps.items (to - length s.clps.items) v e in
            let b = h.counts in omega arith);
      };
      low = λ le. (let a = clps_all in let b = alps_all in
          let c = taken_alp (subst (λ z. z ≤ to) a le) in
          subst (λ z. to - z < length s.alps.items) (sym a) (subst (λ z. to - clps_of plan < z) (sym b) c));
      all = clps_all;
      few = (let k = (valid_limits plan valid).clps in omega arith);
      small = (let k = (valid_limits plan valid).agents in let b = alps_all in omega arith);
    }

    abbrev pub after : World
    after = after_event plan world (event.Deliver to from)

    pub reached_after : Reached plan (suc n) after
    reached_after = (reached_on plan).delivered n world to from h.reached (is_there s mail l to from m first)

    clp_stands : (s' : Processes) (mail' : List Lane) → s'.plan.now ≡ plan
        → (d : ClpDid s s' (taken to from mail) mail' to from m) → Stands s' after (suc n)
    clp_stands s' mail' same d = record {
      clps = λ c v e. subst (λ q. IsClpOf q c v) (sym same) (clp_is c v (subst (λ z. slice_get z c ≡ Some v) d.clps e));
      alps = λ i v e. subst (λ q. IsAlpOf q i v) (sym same)
          (h.alps i v (subst (λ z. slice_get z i ≡ Some v) d.alps e));
      counts = (let a = sum_set (λ (c : ClpView). c.made) s.clps.items to d.was d.now d.at d.made in
          let b = h.counts in
          ap (λ z. sum_by (λ (c : ClpView). c.made) z + sum_by (λ (x : AlpView). x.made) s'.alps.items) d.clps
          ∙ (ap (λ z. sum_by (λ (c : ClpView). c.made) (set s.clps.items to d.now) + sum_by (λ (x : AlpView). x.made) z) d.alps
          ∙ omega arith));
      few = omega arith;
      reached = subst (λ q. Reached q (suc n) after) (sym same) reached_after;
    }
      where
        clp_is : (c : ℕ) (v : ClpView) → slice_get (set s.clps.items to d.now) c ≡ Some v → IsClpOf plan c v
        clp_is c v e = elim (cases_eq to c) [
          | inl x ↦ (let g : v ≡ d.now = found_set s.clps.items to d.was d.now v d.at (subst (λ z. slice_get (set s.clps.items to d.now) z ≡ Some v) (sym x) e) in
              subst (IsClpOf plan c) (sym g) (record {
                hub = d.hub ∙ subst (λ z. d.was.hub ≡ hub_of plan z) x (h.clps to d.was d.at).hub;
                well = d.well;
              }))
          | inr ne ↦ h.clps c v (sym (get-set-other s.clps.items to c d.now ne) ∙ e)
        ]

    alp_stands : (s' : Processes) (mail' : List Lane) (a : ℕ) → s'.plan.now ≡ plan
        → (d : AlpDid s s' (taken to from mail) mail' a m) → Stands s' after (suc n)
    alp_stands s' mail' a same d = record {
      clps = λ c v e. subst (λ q. IsClpOf q c v) (sym same)
          (h.clps c v (subst (λ z. slice_get z c ≡ Some v) d.clps e));
      alps = λ i v e. subst (λ q. IsAlpOf q i v) (sym same) (alp_is i v (subst (λ z. slice_get z i ≡ Some v) d.alps e));
      counts = (let x = sum_set (λ (x : AlpView). x.made) s.alps.items a d.was (alp.delivered m d.was) d.at refl in
          let b = h.counts in
          ap (λ z. sum_by (λ (c : ClpView). c.made) z + sum_by (λ (x : AlpView). x.made) s'.alps.items) d.clps
          ∙ (ap (λ z. sum_by (λ (c : ClpView). c.made) s.clps.items + sum_by (λ (x : AlpView). x.made) z) d.alps
          ∙ omega arith));
      few = omega arith;
      reached = subst (λ q. Reached q (suc n) after) (sym same) reached_after;
    }
      where
        alp_is : (i : ℕ) (v : AlpView) → slice_get (set s.alps.items a (alp.delivered m d.was)) i ≡ Some v
            → IsAlpOf plan i v
        alp_is i v e = elim (cases_eq a i) [
          | inl x ↦ (let g : v ≡ alp.delivered m d.was = found_set s.alps.items a d.was (alp.delivered m d.was) v d.at
              (subst (λ z. slice_get (set s.alps.items a (alp.delivered m d.was)) z ≡ Some v) (sym x) e) in
              subst (IsAlpOf plan i) (sym g) (record {
                fixed = λ row f. subst (λ z. (row : AgentRow) → slice_get plan.agents z ≡ Some row
                    → d.was.fixed ≡ fixed_at plan z row) x (h.alps a d.was d.at).fixed row f;
                well = refl;
              }))
          | inr ne ↦ h.alps i v (sym (get-set-other s.alps.items a i (alp.delivered m d.was) ne) ∙ e)
        ]

    pub stands_after : (s' : Processes) (mail' : List Lane) → s'.plan.now ≡ plan
        → Arrived s s' (taken to from mail) mail' to from m
        → (world_of s' mail' l ≡ after) × Stands s' (world_of s' mail' l) (suc n)
    stands_after s' mail' same (inl d) =
        let lt : to < clps_of plan = (let x = clps_all in let y = d.0 in omega arith) in
        let e = clp_world s mail l to from m first s' mail' same lt d.1 (h.clps to d.1.was d.1.at).hub in
        (e, subst (λ z. Stands s' z (suc n)) (sym e) (clp_stands s' mail' same d.1))
    stands_after s' mail' same (inr d) =
        let a = to - length s.clps.items in
        let is : to ≡ clps_of plan + a = (let x = clps_all in let y = d.0 in omega arith) in
        let lt : a < length plan.agents =
        (let x = alps_all in let y = found_low s.alps.items a d.1.was d.1.at in omega arith) in
        let e = alp_world s mail l to from m first s' mail' a same is (home_low a lt) d.1
        (actor_is a d.1.was d.1.at) in
        (e, subst (λ z. Stands s' z (suc n)) (sym e) (alp_stands s' mail' a same d.1))

-- ---- what contracts see of it

abbrev pub view : Plan → World → ℕ → Bool → WorldView
view p w n b = record { plan = p; world = w; made = n; spoilt = b }

pub view_same : (p q : Plan) (w x : World) (m n : ℕ) (b c : Bool) → p ≡ q → w ≡ x → m ≡ n → b ≡ c
    → view p w m b ≡ view q x n c
view_same p q w x m n b c e f g h =
    ap (λ z. view z w m b) e ∙ (ap (λ z. view q z m b) f ∙ (ap (λ z. view q x z b) g ∙ ap (view q x n) h))

-- there is nothing to deliver
pub is_empty : (s : Processes) (mail : List Lane) (l : Line) (to from : ℕ) → first_of (waiting to from mail) ≡ None
    → is_legal s.plan.now (world_of s mail l) (event.Deliver to from) ≡ false
is_empty s mail l to from none =
    ap has_mail (taken_link s.plan.now to from mail ∙ ap (took s.plan.now (taken to from mail)) none)

-- the world after a delivery is a world
pub is_world : (s s' : Processes) (mail mail' : List Lane) (l : Line) (n to from : ℕ) (m : Message)
    → IsValid s.plan.now → (h : Stands s (world_of s mail l) n) → n < 20000000 → first_of (waiting to from mail) ≡ Some m
    → s'.plan.now ≡ s.plan.now → Arrived s s' (taken to from mail) mail' to from m
    → IsWorld s' (world_of s' mail' l) (n + 1) false
is_world s s' mail mail' l n to from m valid h few first same did = record {
  valid = subst IsValid (sym same) valid;
  stands = λ b. (let e : suc n ≡ n + 1 = omega arith in subst (Stands s' (world_of s' mail' l)) e
      (stands_after s mail l n valid h to from m few first s' mail' same did).1);
}

-- and is seen as the world after that event
pub is_delivered : (s s' : Processes) (mail mail' : List Lane) (l : Line) (n to from : ℕ) (m : Message) (b : Bool)
    → IsValid s.plan.now → (h : Stands s (world_of s mail l) n) → n < 20000000 → first_of (waiting to from mail) ≡ Some m
    → s'.plan.now ≡ s.plan.now → Arrived s s' (taken to from mail) mail' to from m → b ≡ false
    → view s'.plan.now (world_of s' mail' l) (n + 1) false ≡ after_delivery (view s.plan.now (world_of s mail l) n b) to from
is_delivered s s' mail mail' l n to from m b valid h few first same did well =
    view_same s'.plan.now s.plan.now (world_of s' mail' l) (after_event s.plan.now (world_of s mail l) (event.Deliver to from))
    (n + 1) (suc n) false b same (stands_after s mail l n valid h to from m few first s' mail' same did).0
    (omega arith) (sym well)
