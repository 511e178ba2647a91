-- The world of a plan is such a machine.
use Rattle.std.proofs.Common.{ℕ, zero, suc, ◌+◌, ◌-◌, ◌<◌, ◌≤◌, ◌≡◌, ◌≢◌, ◌==◌, ◌&&◌, ◌⊎◌, ◌∙◌, Bool, true, false, cond, List, [], ◌∷◌, ◌++◌, Option, Some, None, ap, sym, subst, refl, inl, inr, arith, map, length, get_or}
use Rattle.std.specs.Prelude.{nat_lt}
use Rattle.std.proofs.lemmas.Bool.{cases_Bool}
use Rattle.std.proofs.lemmas.Bool.Decides.{nat_tests}
use Rattle.std.proofs.lemmas.List.{get_or-set_other, get_or-set_same, length-map, length-set}
use Rattle.pm_alp.specs.Agents.{agent_after, agent_committed, no_agent}
use Rattle.pm_base.specs.declared.stamp.Line.{Line}
use Rattle.pm_clp.specs.Clps.{clp_after, clp_committed}
use Rattle.pm_core.specs.Links.{links}
use Rattle.pm_core.proofs.Carries.{same_process}
use Rattle.pm_core.proofs.LinkLaws.{links_are}
use Rattle.pm_message.specs.declared.Message.{Message}
use Rattle.pm_plan.specs.Plans.{IsValid}
use Rattle.pm_plan.specs.declared.plan.Plan.{Plan}
use Rattle.pm_sim.specs.Bounds.{between}
use Rattle.pm_sim.specs.Reached.{Reached}
use Rattle.pm_sim.specs.Sims.{In}
use Rattle.pm_sim.specs.Worlds.{Link, Posted, Process, Taken, World, actor_of, addressed, arrives, clps_of, commit, deliver, delivered, first_world, has_mail, home, hub_of, is_process, no_clp, number, post_all, posted, process, take_from}
use Rattle.pm_sim.specs.Worlds.Process.{AtAgent, AtClp}
use Rattle.pm_sim.proofs.Lanes.{keys, keys_taken, posted_for, sent_for}
use Rattle.pm_sim.proofs.Nexts.{taken_between}
use Rattle.pm_sim.proofs.ReachedWorlds.{reached_on, world_tells}
use Rattle.pm_sim.proofs.Shapes.{tree_ok}
use Rattle.pm_sim.proofs.Wires.{posted_else, took}
use Rattle.pm_cell.specs.Cores.{State, acts, all_sent, as_agent, as_clp, commits_at, core, is_there, receivers_of, sent_over, state_at, told_to}
use Rattle.pm_ends.specs.Numbers.{has_number, tos_from}
use Rattle.pm_cell.specs.Cores.State.{OfAgent, OfClp}
use Rattle.pm_cell.proofs.Lists.{same_or}
use Rattle.pm_cell.proofs.Machines.{Laws}
use Rattle.pm_cell.proofs.Posting.{agent_sent, clp_sent, none_sent}

pub number_process : (p : Plan) (k : ℕ) → number p (process p k) ≡ k
number_process p k = elim (cases_Bool (nat_lt k (clps_of p))) [
  | inl e ↦ rw e refl
  | inr e ↦ rw e (grind (arith, nat_tests, e))
]

lt_true : (i n : ℕ) → nat_lt i n ≡ true → i < n
lt_true i n h = grind (arith, nat_tests)

append_none : {X : Type 0} (xs : List X) → xs ≡ xs ++ []
append_none [] = refl
append_none (x ∷ xs) = ap (λ z. x ∷ z) (append_none xs)

map_at : {X Y : Type 0} (f : X → Y) (xs : List X) (i : ℕ) (d : X) (c : Y) → i < length xs → get_or (map f xs) i c ≡ f (get_or xs i d)
map_at f [] i d c h = absurd (omega arith)
map_at f (x ∷ xs) zero d c h = refl
map_at f (x ∷ xs) (suc i) d c h = map_at f xs i d c (omega arith)

-- what process q sends at a message from number f, each with its receiver
abbrev all_posted : Plan → Process → State → ℕ → Message → List Posted
all_posted p (AtClp c) s f m = map (posted p) (clp_after (hub_of p c) f m (as_clp s)).sent
all_posted p (AtAgent i) s f m = map (addressed i (home p i)) (agent_after (actor_of p i) (as_agent s) m).sent

module _ (p : Plan) where
  -- ---- the receiver, and all others

  state_here : (w : World) (q r : Process) (m : Message) (ls : List Link) → is_there w q ≡ true
      → state_at (arrives p w q r m ls) q ≡ acts p q (state_at w q) (number p r) m
  state_here w (AtClp c) r m ls h = ap OfClp (get_or-set_same w.clps c (clp_after (hub_of p c) (number p r) m (get_or w.clps c no_clp)).clp no_clp (lt_true c (length w.clps) h))
  state_here w (AtAgent a) r m ls h = ap OfAgent (get_or-set_same w.agents a (agent_after (actor_of p a) (get_or w.agents a no_agent) m).agent no_agent (lt_true a (length w.agents) h))

  state_else : (w : World) (q r k : Process) (m : Message) (ls : List Link) → is_process q k ≡ false
      → state_at (arrives p w q r m ls) k ≡ state_at w k
  state_else w (AtClp c) r (AtClp d) m ls h = ap OfClp (get_or-set_other w.clps c d (clp_after (hub_of p c) (number p r) m (get_or w.clps c no_clp)).clp no_clp (grind (arith, nat_tests, h)))
  state_else w (AtClp c) r (AtAgent a) m ls h = refl
  state_else w (AtAgent a) r (AtClp c) m ls h = refl
  state_else w (AtAgent a) r (AtAgent d) m ls h = ap OfAgent (get_or-set_other w.agents a d (agent_after (actor_of p a) (get_or w.agents a no_agent) m).agent no_agent (grind (arith, nat_tests, h)))

  else : (w : World) (q r k : Process) (o : Option Taken) → is_process q k ≡ false
      → state_at (delivered p w q r o) k ≡ state_at w k
  else w q r k None h = refl
  else w q r k (Some t) h = state_else w q r k t.message t.links h

  there_then : (w : World) (q r k : Process) (o : Option Taken) → is_there (delivered p w q r o) k ≡ is_there w k
  there_then w q r k None = refl
  there_then w (AtClp c) r (AtClp d) (Some t) = ap (nat_lt d) (length-set w.clps c (clp_after (hub_of p c) (number p r) t.message (get_or w.clps c no_clp)).clp)
  there_then w (AtClp c) r (AtAgent a) (Some t) = refl
  there_then w (AtAgent a) r (AtClp c) (Some t) = refl
  there_then w (AtAgent a) r (AtAgent d) (Some t) = ap (nat_lt d) (length-set w.agents a (agent_after (actor_of p a) (get_or w.agents a no_agent) t.message).agent)

  arrived_links : (w : World) (q r : Process) (m : Message) (ls : List Link)
      → (arrives p w q r m ls).links ≡ post_all q (all_posted p q (state_at w q) (number p r) m) ls
  arrived_links w (AtClp c) r m ls = refl
  arrived_links w (AtAgent a) r m ls = refl

  -- what is taken where a first message stands
  record Takes (q r : Process) (ls : List Link) (m : Message) (ms : List Message) : Type 0 where
    pub taken : Taken
    pub is : take_from q r ls ≡ Some taken
    pub message : taken.message ≡ m
    pub rest : between q r taken.links ≡ ms

  takes : (q r : Process) (ls : List Link) (m : Message) (ms : List Message) → between q r ls ≡ m ∷ ms → Takes q r ls m ms
  takes q r ls m ms e = go (take_from q r ls) refl (taken_between q r ls m ms e)
    where
      go : (o : Option Taken) → take_from q r ls ≡ o → has_mail o ≡ true → Takes q r ls m ms
      go None is h = absurd (cc)
      go (Some t) is h =
          let first = (took q r ls t is).head in
          let same : t.message ∷ between q r t.links ≡ m ∷ ms = sym first ∙ e in
          record { taken = t; is = is; message = cc; rest = cc }

  module _ (valid : IsValid p) where
    -- what it sends, by number
    all_is : (k f a : ℕ) (s : State) (m : Message) → sent_for (process p a) (all_posted p (process p k) s f m) ≡ all_sent p k (process p k) s f m a
    all_is k f a s m = elim (cases_Bool (nat_lt k (clps_of p))) [
      | inl e ↦ rw e (clp_sent p a (clp_after (hub_of p k) f m (as_clp s)).sent)
      | inr e ↦ (
          let i : ℕ = k - clps_of p in
          let own : clps_of p + i ≡ k = grind (arith, nat_tests, e) in
          let sent : List Message = (agent_after (actor_of p i) (as_agent s) m).sent in
          let all : sent_for (process p a) (map (addressed i (home p i)) sent) ≡ told_to k (home p i) a sent =
          agent_sent p i (home p i) a sent ((tree_ok p valid).homes i) ∙ ap (λ (z : ℕ). told_to z (home p i) a sent) own in
          rw e all)
    ]

    -- a link of the world is one of the plan's
    linked : (a k : ℕ) (ls : List (ℕ × ℕ)) → In (a, k) ls → has_number a (tos_from k ls) ≡ true
    linked a k [] i = absurd i
    linked a k (l ∷ ls) (inl e) =
        let to : l.0 ≡ a = λ j. (sym e j).0 in
        let from : l.1 ≡ k = λ j. (sym e j).1 in
        let here : (l.1 == k) ≡ true = grind (arith, nat_tests, from) in
        let same : (a == l.0) ≡ true = grind (arith, nat_tests, to) in
        rw here (rw same refl)
    linked a k (l ∷ ls) (inr i) = (let again = linked a k ls i in elim (cases_Bool (l.1 == k)) [
      | inl e ↦ rw e (elim (cases_Bool (a == l.0)) [ inl f ↦ rw f refl | inr f ↦ rw f again ])
      | inr e ↦ rw e again
    ])

    pub unlinked : (n : ℕ) (w : World) (a k : ℕ) → Reached p n w → has_number a (receivers_of p k) ≡ false
        → In (process p a, process p k) (keys w.links) → ⊥
    unlinked n w a k r gone i =
        let same : keys w.links ≡ keys (first_world p).links = (world_tells p n w valid r).links.keys in
        let j : In (a, k) (links p) = ((links_are p valid).exact a k).1 (subst (In (process p a, process p k)) same i) in
        let yes : has_number a (receivers_of p k) ≡ true = linked a k (links p) j in
        cc

    module _ (n : ℕ) (w : World) (to from : ℕ) (m : Message) (ms : List Message) (r : Reached p n w)
        (first : between (process p to) (process p from) w.links ≡ m ∷ ms) where
      t : Takes (process p to) (process p from) w.links m ms
      t = takes (process p to) (process p from) w.links m ms first

      deliver_is : deliver p w (process p to) (process p from) ≡ arrives p w (process p to) (process p from) m t.taken.links
      deliver_is = ap (delivered p w (process p to) (process p from)) t.is ∙ ap (λ z. arrives p w (process p to) (process p from) z t.taken.links) t.message

      abbrev all : List Posted
      all = all_posted p (process p to) (state_at w (process p to)) from m

      links_then : (deliver p w (process p to) (process p from)).links ≡ post_all (process p to) (all_posted p (process p to) (state_at w (process p to)) from m) t.taken.links
      links_then = ap (λ (z : World). z.links) deliver_is ∙ arrived_links w (process p to) (process p from) m t.taken.links
          ∙ ap (λ (f : ℕ). post_all (process p to) (all_posted p (process p to) (state_at w (process p to)) f m) t.taken.links) (number_process p from)

      pub leads_to : Reached p (suc n) (deliver p w (process p to) (process p from))
      leads_to = (reached_on p).delivered n w to from r (taken_between (process p to) (process p from) w.links m ms first)

      -- no link is added
      no_longer : length (post_all (process p to) (all_posted p (process p to) (state_at w (process p to)) from m) t.taken.links) ≤ length t.taken.links
      no_longer =
          let then = (world_tells p (suc n) (deliver p w (process p to) (process p from)) valid leads_to).links.keys in
          let was = (world_tells p n w valid r).links.keys in
          let same : keys (deliver p w (process p to) (process p from)).links ≡ keys t.taken.links =
          then ∙ sym was ∙ sym (keys_taken (process p to) (process p from) w.links t.taken t.is) in
          let long : length (deliver p w (process p to) (process p from)).links ≡ length t.taken.links =
          sym (length-map (deliver p w (process p to) (process p from)).links (λ (l : Link). (l.to, l.from))) ∙ ap length same ∙ length-map t.taken.links (λ (l : Link). (l.to, l.from)) in
          let is : length (post_all (process p to) (all_posted p (process p to) (state_at w (process p to)) from m) t.taken.links) ≡ length t.taken.links = ap length (sym links_then) ∙ long in
          omega (arith, is)

      -- all that it sends goes over its links
      sent_is : (a : ℕ) → sent_for (process p a) (all_posted p (process p to) (state_at w (process p to)) from m) ≡ sent_over p to (state_at w (process p to)) from m a
      sent_is a = go (has_number a (receivers_of p to)) refl
        where
          go : (b : Bool) → has_number a (receivers_of p to) ≡ b → sent_for (process p a) (all_posted p (process p to) (state_at w (process p to)) from m)
              ≡ cond b (all_sent p to (process p to) (state_at w (process p to)) from m a) []
          go true e = all_is to from a (state_at w (process p to)) m
          go false e = none_sent (process p a) (process p to) (all_posted p (process p to) (state_at w (process p to)) from m) t.taken.links
              (λ i. unlinked n w a to r e (subst (In (process p a, process p to)) (keys_taken (process p to) (process p from) w.links t.taken t.is) i)) no_longer

      -- the links once the message was taken
      taken_is : (a b : ℕ) → between (process p a) (process p b) t.taken.links ≡ cond (a == to && b == from) ms (between (process p a) (process p b) w.links)
      taken_is a b = elim (same_or a to) [
        | inl at ↦ elim (same_or b from) [
          | inl by ↦ rw (at.1, by.1) (subst (λ (x : ℕ). between (process p x) (process p b) t.taken.links ≡ ms) (sym at.0) (subst (λ (y : ℕ). between (process p to) (process p y) t.taken.links ≡ ms) (sym by.0) t.rest))
          | inr by ↦ rw (at.1, by.1) (other a b (λ e. by.0 (number_same b from e.1)))
        ]
        | inr at ↦ rw at.1 (other a b (λ e. at.0 (number_same a to e.0)))
      ]
        where
          number_same : (j k : ℕ) → process p j ≡ process p k → j ≡ k
          number_same j k e = sym (number_process p j) ∙ ap (number p) e ∙ number_process p k

          other : (a b : ℕ) → ((process p a ≡ process p to) × (process p b ≡ process p from) → ⊥) → between (process p a) (process p b) t.taken.links ≡ between (process p a) (process p b) w.links
          other a b ne = (took (process p to) (process p from) w.links t.taken t.is).others (process p a) (process p b) ne

      pub links_are_then : (a b : ℕ) → between (process p a) (process p b) (deliver p w (process p to) (process p from)).links
          ≡ cond (a == to && b == from) ms (between (process p a) (process p b) w.links) ++ cond (b == to) (sent_over p to (state_at w (process p to)) from m a) []
      links_are_then a b = ap (between (process p a) (process p b)) links_then ∙ go (same_or b to)
        where
          go : ((b ≡ to) × ((b == to) ≡ true)) ⊎ ((b ≢ to) × ((b == to) ≡ false))
              → between (process p a) (process p b) (post_all (process p to) all t.taken.links)
              ≡ cond (a == to && b == from) ms (between (process p a) (process p b) w.links) ++ cond (b == to) (sent_over p to (state_at w (process p to)) from m a) []
          go (inl same) =
              let sent : between (process p a) (process p to) (post_all (process p to) all t.taken.links) ≡ between (process p a) (process p to) t.taken.links ++ sent_over p to (state_at w (process p to)) from m a =
              posted_for (process p to) (process p a) all t.taken.links ∙ ap (λ z. between (process p a) (process p to) t.taken.links ++ z) (sent_is a) in
              let here : between (process p a) (process p b) (post_all (process p to) all t.taken.links) ≡ between (process p a) (process p b) t.taken.links ++ sent_over p to (state_at w (process p to)) from m a =
              subst (λ (y : ℕ). between (process p a) (process p y) (post_all (process p to) all t.taken.links) ≡ between (process p a) (process p y) t.taken.links ++ sent_over p to (state_at w (process p to)) from m a) (sym same.0) sent in
              here ∙ ap (λ z. z ++ sent_over p to (state_at w (process p to)) from m a) (taken_is a b)
              ∙ ap (λ (c : Bool). cond (a == to && b == from) ms (between (process p a) (process p b) w.links) ++ cond c (sent_over p to (state_at w (process p to)) from m a) []) (sym same.1)
          go (inr other) =
              posted_else (process p to) (process p a) (process p b) all t.taken.links (λ e. other.0 (sym (number_process p b) ∙ ap (number p) e ∙ number_process p to))
              ∙ taken_is a b ∙ append_none (cond (a == to && b == from) ms (between (process p a) (process p b) w.links))
              ∙ ap (λ (c : Bool). cond (a == to && b == from) ms (between (process p a) (process p b) w.links) ++ cond c (sent_over p to (state_at w (process p to)) from m a) []) (sym other.1)

  committed_there : (w : World) (l : Line) (q : Process) → is_there (commit w l) q ≡ is_there w q
  committed_there w l (AtClp c) = ap (nat_lt c) (length-map w.clps (clp_committed l))
  committed_there w l (AtAgent a) = ap (nat_lt a) (length-map w.agents (agent_committed l))

  committed_state : (w : World) (l : Line) (q : Process) → is_there w q ≡ true → state_at (commit w l) q ≡ commits_at l q (state_at w q)
  committed_state w l (AtClp c) h = ap OfClp (map_at (clp_committed l) w.clps c no_clp no_clp (lt_true c (length w.clps) h))
  committed_state w l (AtAgent a) h = ap OfAgent (map_at (agent_committed l) w.agents a no_agent no_agent (lt_true a (length w.agents) h))

  receiver_then : (w : World) (to from : ℕ) (m : Message) (ms : List Message) → is_there w (process p to) ≡ true
      → between (process p to) (process p from) w.links ≡ m ∷ ms
      → state_at (deliver p w (process p to) (process p from)) (process p to) ≡ acts p (process p to) (state_at w (process p to)) from m
  receiver_then w to from m ms h e =
      let t = takes (process p to) (process p from) w.links m ms e in
      let is : deliver p w (process p to) (process p from) ≡ arrives p w (process p to) (process p from) m t.taken.links =
      ap (delivered p w (process p to) (process p from)) t.is ∙ ap (λ z. arrives p w (process p to) (process p from) z t.taken.links) t.message in
      ap (λ (z : World). state_at z (process p to)) is
      ∙ state_here w (process p to) (process p from) m t.taken.links h
      ∙ ap (λ (f : ℕ). acts p (process p to) (state_at w (process p to)) f m) (number_process p from)

  -- the world of a plan has a machine's laws
  pub laws : IsValid p → Laws (core p) (Reached p)
  laws valid = record {
    same_has = λ w to from k. there_then w (process p to) (process p from) (process p k) (take_from (process p to) (process p from) w.links);
    receiver = receiver_then;
    others = λ w to from k ne. else w (process p to) (process p from) (process p k) (take_from (process p to) (process p from) w.links) (same_process p to k ∙ not_same to k ne);
    links = λ n w to from m ms a b r h e. links_are_then valid n w to from m ms r e a b;
    leads = λ n w to from m ms r e. leads_to valid n w to from m ms r e;
    commit_has = λ w l k. committed_there w l (process p k);
    commit_state = λ w l k h. committed_state w l (process p k) h;
    commit_link = λ w l a b. refl;
  }
    where
      not_same : (to k : ℕ) → k ≢ to → (to == k) ≡ false
      not_same to k ne = grind (arith, nat_tests, ne)
