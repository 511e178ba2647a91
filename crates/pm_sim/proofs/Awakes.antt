-- An awaited Wake is the last letter of its own link, in each world of a legal run.
use Rattle.std.proofs.Common.{List, None, Option, Some, [], ap, append-nil, append_assoc, arith, false, get_or, get_or-set_other, get_or-set_same, inl, inr, length, length-set, map, refl, set, subst, suc, sym, true, zero, ℕ, ◌++◌, ◌+◌, ◌<◌, ◌==◌, ◌∙◌, ◌∷◌, ◌≡◌}
use Rattle.std.proofs.lemmas.Bool.{and_parts, cases_Bool, cases_eq, cases_lt}
use Rattle.std.proofs.lemmas.Bool.Decides.{nat_tests}
use Rattle.std.proofs.lemmas.List.{get_or-map, length-map}
use Rattle.pm_base.specs.declared.rows.Entry.{Entry}
use Rattle.pm_base.specs.declared.rows.Parts.{Parts}
use Rattle.pm_base.specs.declared.run.Event.{Event}
use Rattle.pm_base.specs.declared.stamp.Line.{Line}
use Rattle.pm_base.specs.declared.stamp.Num.{Num}
use Rattle.pm_message.specs.declared.Message.{Message}
use Rattle.pm_plan.specs.declared.plan.Plan.{Plan}
use Rattle.pm_model.specs.declared.State.{State}
use Rattle.pm_alp.specs.Agents.{Sends, agent_after, agent_committed, no_agent, wake_of}
use Rattle.pm_alp.specs.declared.agent.Agent.{Agent}
use Rattle.pm_alp.specs.declared.agent.Awaited.{Awaited}
use Rattle.pm_clp.specs.Clps.{clp_after}
use Rattle.pm_sim.proofs.Deliveries.{deliver_full}
use Rattle.pm_sim.proofs.Firsts.{PlanFits}
use Rattle.pm_sim.proofs.Fulls.{Full}
use Rattle.pm_sim.proofs.Lanes.{InPlan, Lanes, first_lanes, keys, keys_posted, keys_taken, lanes_posted, lanes_taken, link_there, posted_for}
use Rattle.pm_sim.proofs.Letters.{delivered_bag, map_in, message_of, process_same, process_self, taken}
use Rattle.pm_sim.proofs.Lines.{get_past}
use Rattle.pm_sim.proofs.Places.{Sim, clp_at, lift}
use Rattle.pm_sim.proofs.Takings.{Linked, commit_linked, deliver_linked, first_linked}
use Rattle.pm_sim.proofs.Wholes.{Whole, commit_whole, deliver_whole, first_whole}
use Rattle.pm_sim.proofs.Wires.{Took, between_mail, posted_else, took}
use Rattle.pm_sim.proofs.Wokes.{own_sent, wakes, woke}
use Rattle.pm_sim.specs.Bounds.{between}
use Rattle.pm_sim.specs.Routings.{ForAgent, mail_to}
use Rattle.pm_sim.specs.Sims.{In, MailOk, num_of}
use Rattle.pm_sim.specs.Waking.{Last}
use Rattle.pm_sim.specs.Worlds.{Link, Posted, Process, Taken, World, actor_of, addressed, after_events, agent_links, arrives, clps_of, commit, deliver, delivered, first_world, handed, home, hub_of, is_legal, is_legal_run, is_process, mail, may_commit, number, ports, post_all, process, take_from, tree_links}
use Rattle.pm_sim.specs.Worlds.Process.{AtAgent, AtClp}
use Rattle.pm_base.specs.declared.run.Event.TheVariants as event
use Rattle.pm_message.specs.declared.Message.TheVariants as message

-- the links are the plan's, none stands twice with messages; each letter suits its link; awaited Wakes come last
pub record Awake (p : Plan) (w : World) : Type 0 where
  pub lanes : Lanes w.links
  pub links : keys w.links ≡ keys (first_world p).links
  pub count : length w.agents ≡ length (first_world p).agents
  pub linked : Linked p w
  pub last : (a : ℕ) (x : Awaited)
      → (get_or w.agents a no_agent).awaited ≡ Some x → Last x (between (AtAgent a) (AtAgent a) w.links)

-- an agent's letter is of an older number
pub agent_letter : (p : Plan) (q : State) (w : World) (recs : ℕ → Parts)
    (sim : Sim p q w recs) (a : ℕ) (f : Process) (m : Message) → In (mail_to (AtAgent a) f m) (mail w.links)
    → (a < length w.agents) × ((num_of m).seq < (get_or w.agents a no_agent).seq)
agent_letter p q w recs sim a f m i = by m (sim.fits _ i) (sim.core.mail m (map_in message_of (mail w.links) _ i)).0
  where
    at : (k : Num) → k.agent ≡ a → (k.agent < length w.agents) × (k.seq < (get_or w.agents k.agent no_agent).seq)
        → (a < length w.agents) × (k.seq < (get_or w.agents a no_agent).seq)
    at k e h = subst (λ z. (z < length w.agents) × (k.seq < (get_or w.agents z no_agent).seq)) e h

    by : (m : Message) → ForAgent a m
        → MailOk p sim.issued m → (a < length w.agents) × ((num_of m).seq < (get_or w.agents a no_agent).seq)
    by (message.Wake k s) fit ok = at k fit (sim.core.fresh _ ok)
    by (message.Give g) fit ok = at g.num fit (sim.core.fresh _ ok.1)
    by (message.Finish k s) fit ok = at k fit (sim.core.fresh _ ok.2)
    by (message.Ask k s q) fit ok = absurd fit
    by (message.Put r_n r_t v r_c) fit ok = absurd fit
    by (message.Cut r_n r_t v) fit ok = absurd fit
    by (message.Move v s r) fit ok = absurd fit
    by (message.Grow k s u w) fit ok = absurd fit

-- who gets a letter is in the plan
pub to_in : (p : Plan) (q : State) (w : World) (recs : ℕ → Parts) (sim : Sim p q w recs)
    (to from : Process) (m : Message) → In (mail_to to from m) (mail w.links) → InPlan (clps_of p) (length w.agents) to
to_in p q w recs sim (AtClp c) from m i = (sim.fits _ i).0
to_in p q w recs sim (AtAgent a) from m i = (agent_letter p q w recs sim a from m i).0

module _ (p : Plan) (q : State) (w : World) (full : Full p q w) (h : Awake p w) where
  abbrev A : ℕ
  A = length w.agents

  -- what is sent goes over links that are there
  keys_kept : (to from : Process) (t : Taken)
      → take_from to from w.links ≡ Some t → InPlan (clps_of p) A to → (ss : List Posted) (w' : World)
      → w'.links ≡ post_all to ss t.links → length w'.agents ≡ A → Full p q w' → Linked p w'
      → keys w'.links ≡ keys (first_world p).links
  keys_kept to from t e lt ss w' el ea full' linked' =
      let kt : keys t.links ≡ keys (first_world p).links = keys_taken to from w.links t e ∙ h.links in
      ap keys el ∙ (keys_posted to ss t.links (λ s i.
      let j : In (mail_to s.to to s.message) (mail w'.links) =
      subst (λ z. In (mail_to s.to to s.message) (mail z)) (sym el)
      ((delivered_bag to from w.links t ss e).added _ (map_in (λ (z : Posted). mail_to z.to to z.message) ss s i)) in
      let there = to_in p q w' full'.recs full'.sim s.to to s.message j in
      subst (In (s.to, to)) (sym kt) (link_there p s.to to (linked'.mail _ j).0
      (subst (λ z. InPlan (clps_of p) z s.to) (ea ∙ h.count) there)
      (subst (λ z. InPlan (clps_of p) z to) h.count lt))) ∙ kt)

  by : (to from : Process) (t : Taken)
      → take_from to from w.links ≡ Some t → In (mail_to to from t.message) (mail w.links)
      → Full p q (arrives p w to from t.message t.links) → Linked p (arrives p w to from t.message t.links)
      → Awake p (arrives p w to from t.message t.links)
  by (AtClp c) from t e i full' linked' =
      let ss : List Posted = (lift p (clp_after (hub_of p c) (number p from) t.message (clp_at w c))).sent in
      let tk : Took (AtClp c) from w.links t = took (AtClp c) from w.links t e in
      record {
        lanes = lanes_posted (AtClp c) ss t.links (lanes_taken (AtClp c) from w.links t e h.lanes);
        links = keys_kept (AtClp c) from t e (to_in p q w full.recs full.sim (AtClp c) from t.message i)
            ss (arrives p w (AtClp c) from t.message t.links) refl refl full' linked';
        count = h.count;
        linked = linked';
        last = λ a x f. subst (Last x) (sym (posted_else (AtClp c) (AtAgent a) (AtAgent a) ss t.links (λ g. cc)
            ∙ tk.others (AtAgent a) (AtAgent a) (λ g. let y = g.0 in cc))) (h.last a x f);
      }
  by (AtAgent a) from t e i full' linked' =
      record {
        lanes = lanes_posted (AtAgent a) ss t.links (lanes_taken (AtAgent a) from w.links t e h.lanes);
        links = keys_kept (AtAgent a) from t e letter.0
            ss (arrives p w (AtAgent a) from t.message t.links) refl (length-set w.agents a r.agent) full' linked';
        count = length-set w.agents a r.agent ∙ h.count;
        linked = linked';
        last = λ b x f. elim (cases_eq b a) [
          | inl g ↦ subst (λ z. Last x (between (AtAgent z) (AtAgent z) (post_all (AtAgent a) ss t.links))) (sym g)
              (mine x (sym (ap (λ (z : Agent). z.awaited) (get_or-set_same w.agents a r.agent no_agent letter.0))
              ∙ (ap (λ z. (get_or (set w.agents a r.agent) z no_agent).awaited) (sym g) ∙ f)))
          | inr ne ↦ subst (Last x) (sym (posted_else (AtAgent a) (AtAgent b) (AtAgent b) ss
              t.links (λ g. ne (agent_same b a g)) ∙ tk.others (AtAgent b) (AtAgent b) (λ g. ne (agent_same b a g.0))))
              (h.last b x (sym (ap (λ (z : Agent). z.awaited) (get_or-set_other w.agents a b r.agent no_agent ne)) ∙ f))
        ];
      }
    where
      ag : Agent
      ag = get_or w.agents a no_agent

      r : Sends
      r = agent_after (actor_of p a) (get_or w.agents a no_agent) t.message

      ss : List Posted
      ss = map (addressed a (home p a)) (agent_after (actor_of p a) (get_or w.agents a no_agent) t.message).sent

      letter : (a < length w.agents) × ((num_of t.message).seq < (get_or w.agents a no_agent).seq)
      letter = agent_letter p q w full.recs full.sim a from t.message i

      tk : Took (AtAgent a) from w.links t
      tk = took (AtAgent a) from w.links t e

      own : Process
      own = AtAgent a

      agent_same : (x y : ℕ) → AtAgent x ≡ AtAgent y → x ≡ y
      agent_same x y g = cc

      now : between own own (post_all own ss t.links) ≡ between own own t.links ++ wakes r.sent
      now = posted_for own own ss t.links ∙ ap (λ z. between own own t.links ++ z) (own_sent a (home p a) r.sent)

      old : (m : Message) → In m (between own own t.links) → (num_of m).seq < ag.seq
      old m j = (agent_letter p q
          w full.recs full.sim a own m ((taken own from w.links t e).into _ (inr (between_mail own own t.links m j)))).1

      -- the first letter is gone from a link whose last is the Wake, and it wasn't it
      shorter : (x : Awaited) (m : Message) (ms pre : List Message) → m ∷ ms ≡ pre ++ message.Wake x.num x.stamp ∷ []
          → ((y : Message) → In y pre → num_of y ≡ x.num → ⊥) → (m ≡ message.Wake x.num x.stamp → ⊥) → Last x ms
      shorter x m ms [] g o ne = absurd (ne (cc))
      shorter x m ms (y ∷ pre) g o ne = record { pre = pre; is = cc; others = λ z j. o z (inr j) }

      mine : (x : Awaited) → r.agent.awaited ≡ Some x → Last x (between own own (post_all own ss t.links))
      mine x f = subst (Last x) (sym now) (elim (woke (actor_of p a) ag t.message) [
        | inl g ↦ record {
          pre = between own own t.links;
          is = ap (λ z. between own own t.links ++ z) (g.wakes ∙ ap wake_of f);
          others =
              λ m j k. (let lt = old m j in let le = (g.new x f).1 in let s = ap (λ (z : Num). z.seq) k in omega arith);
        }
        | inr g ↦
            subst (Last x) (sym (ap (λ z. between own own t.links ++ z) g.0.1 ∙ append-nil (between own own t.links)))
            (kept (sym g.0.0 ∙ f) (λ k. g.1 x.num x.stamp x k (sym g.0.0 ∙ f) refl))
      ])
        where
          kept : ag.awaited ≡ Some x → (t.message ≡ message.Wake x.num x.stamp → ⊥) → Last x (between own own t.links)
          kept k ne = (let o = h.last a x k in elim (cases_Bool (is_process from own)) [
            | inl g ↦ (let fo = process_same from own g in
                let hd : between own own w.links ≡ t.message ∷ between own own t.links =
                subst (λ z. between own z w.links ≡ t.message ∷ between own z t.links) fo tk.head in
                shorter x t.message (between own own t.links) o.pre (sym hd ∙ o.is) o.others ne)
            | inr g ↦ subst (Last x) (sym (tk.others own own (λ pr. let y : is_process from own ≡ true =
                ap (λ z. is_process z own) (sym pr.1) ∙ process_self own in cc))) o
          ])

  pub deliver_awake : (to from : Process) → Awake p (deliver p w to from)
  deliver_awake to from = go (take_from to from w.links)
      refl (deliver_full p q w to from full) (deliver_linked p q w full.recs full.sim h.linked to from)
    where
      go : (o : Option Taken) → take_from to from w.links ≡ o
          → Full p q (delivered p w to from o) → Linked p (delivered p w to from o) → Awake p (delivered p w to from o)
      go None e full' linked' = h
      go (Some t) e full' linked' = by to from t e ((taken to from w.links t e).into _ (inl refl)) full' linked'

  pub commit_awake : (k : Line) → Awake p (commit w k)
  commit_awake k = record {
    lanes = h.lanes;
    links = h.links;
    count = length-map w.agents (agent_committed k) ∙ h.count;
    linked = commit_linked p w k full.sim.size h.linked;
    last = λ a x e. h.last a x (elim (cases_lt a (length w.agents)) [
      | inl lt ↦
          sym (ap (λ (z : Agent). z.awaited) (get_or-map (agent_committed k) w.agents a no_agent no_agent lt)) ∙ e
      | inr ge ↦ absurd (let f = get_past
          (map (agent_committed k) w.agents) a no_agent (omega (arith, ge, length-map w.agents (agent_committed k))) in
          let g : None ≡ Some x = sym (ap (λ (z : Agent). z.awaited) f) ∙ e in cc)
    ]);
  }

-- ---- the first world

own_agent : (p : Plan) (i : ℕ) (xs : List Agent) (j : ℕ) → j < length xs
    → between (AtAgent (i + j)) (AtAgent (i + j)) (agent_links p i xs) ≡ wake_of (get_or xs j no_agent).awaited
own_agent p i [] j lt = absurd (omega arith)
own_agent p i (a ∷ xs) zero lt = (let b : (i == i + 0) ≡ true = grind (arith, nat_tests) in rw b refl)
own_agent p i (a ∷ xs) (suc j) lt =
    let b : (i == i + suc j) ≡ false = grind (arith, nat_tests) in
    let again = own_agent p (suc i) xs j (omega arith) in
    let k : (suc i) + j ≡ i + suc j = omega arith in
    rw b (subst (λ z. between (AtAgent z) (AtAgent z) (agent_links p (suc i) xs)
    ≡ wake_of (get_or xs j no_agent).awaited) k again)

past_ports : (c a : ℕ) (ds : List ℕ) (ls : List Link) → between (AtAgent a) (AtAgent a)
    (map (λ d. record { to = AtClp c; from = AtClp d; messages = [] }) ds ++ ls) ≡ between (AtAgent a) (AtAgent a) ls
past_ports c a [] ls = refl
past_ports c a (d ∷ ds) ls = past_ports c a ds ls

past_tree : (p : Plan) (c n a : ℕ) (ls : List Link)
    → between (AtAgent a) (AtAgent a) (tree_links p c n ++ ls) ≡ between (AtAgent a) (AtAgent a) ls
past_tree p c zero a ls = refl
past_tree p c (suc n) a ls = ap (between (AtAgent a) (AtAgent a)) (append_assoc
    (map (λ d. record { to = AtClp c; from = AtClp d; messages = [] }) (ports p c)) (tree_links p (suc c) n) ls)
    ∙ (past_ports c a (ports p c) (tree_links p (suc c) n ++ ls) ∙ past_tree p (suc c) n a ls)

pub first_awake : (p : Plan) → PlanFits p → Awake p (first_world p)
first_awake p fit = record {
  lanes = first_lanes p;
  links = refl;
  count = refl;
  linked = first_linked p fit;
  last = λ a x e. elim (cases_lt a (length (first_world p).agents)) [
    | inl lt ↦ record {
      pre = [];
      is = past_tree p 0 (clps_of p) a (agent_links p 0 (first_world p).agents)
          ∙ (subst (λ z. between (AtAgent z) (AtAgent z) (agent_links p 0 (first_world p).agents)
          ≡ wake_of (get_or (first_world p).agents a no_agent).awaited)
          (let z : 0 + a ≡ a = omega arith in z) (own_agent p 0 (first_world p).agents a lt) ∙ ap wake_of e);
      others = λ m j. absurd j;
    }
    | inr ge ↦ absurd (let g : None ≡ Some x =
        sym (ap (λ (z : Agent). z.awaited) (get_past (first_world p).agents a no_agent ge)) ∙ e in cc)
  ];
}

awake_run : (p : Plan) (w : World) (done : List Entry) (es : List Event)
    → Whole p w done → Awake p w → is_legal_run p w es ≡ true → Awake p (after_events p w es)
awake_run p w done [] h k l = k
awake_run p w done (event.Deliver to from ∷ es) h k l =
    awake_run p (deliver p w (process p to) (process p from)) done es (deliver_whole
    p w done (process p to) (process p from) h) (deliver_awake p h.q w h.full k (process p to) (process p from))
    (and_parts
    (is_legal p w (event.Deliver to from)) (is_legal_run p (deliver p w (process p to) (process p from)) es) l).1
awake_run p w done (event.Commit c ∷ es) h k l =
    let parts = and_parts (may_commit w c) (is_legal_run p (commit w c) es) l in
    awake_run p (commit w c)
    (done ++ handed w c) es (commit_whole p w done c h parts.0) (commit_awake p h.q w h.full k c) parts.1

pub run_awake : (p : Plan) → PlanFits p
    → (es : List Event) → is_legal_run p (first_world p) es ≡ true → Awake p (after_events p (first_world p) es)
run_awake p fit es l = awake_run p (first_world p) [] es (first_whole p fit) (first_awake p fit) l
