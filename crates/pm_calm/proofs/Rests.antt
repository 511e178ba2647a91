-- An agent goes on where nothing but Wakes is on its way: the calm world after it.
use Rattle.std.proofs.Common.{◌≡◌, ℕ, ◌<◌, ◌≤◌, inl, inr, Bool, true, List, [], ◌∷◌, ◌++◌, map, length, get_or, set, nat_le, refl, arith, ap, sym, ◌∙◌, subst, Option, Some, None, ℤ, get_or-set_other, get_or-set_same, length-set}
use Rattle.std.proofs.lemmas.Bool.{cases_eq}
use Rattle.std.proofs.lemmas.List.{map-append}
use Rattle.pm_alp.specs.Agents.{Sends, act_sends, acted_step, asking, next_wake, no_agent, puts_of, wake_of, went_on}
use Rattle.pm_alp.specs.declared.agent.Agent.{Agent}
use Rattle.pm_alp.specs.declared.agent.Awaited.{Awaited}
use Rattle.pm_base.specs.declared.rows.Act.{Act}
use Rattle.pm_base.specs.declared.rows.GiveRow.{GiveRow}
use Rattle.pm_base.specs.declared.rows.Parts.{Parts}
use Rattle.pm_base.specs.declared.stamp.Num.{Num}
use Rattle.pm_base.specs.declared.stamp.Stamp.{Stamp}
use Rattle.pm_base.specs.declared.value.Query.{Query}
use Rattle.pm_base.specs.declared.value.Window.{Window}
use Rattle.pm_calm.proofs.Phasing.{IsWake, ask_at, ask_one, asked_at, asks, clp_up, done_at, puts_are, puts_none, wakes_none}
use Rattle.pm_calm.specs.Phases.{AgentAt, Calm, ClpAt, HasSense, IsFinish, MailAt, OpenIn, OrderIn, Over, Phase, SenseAt, Tidy, is_over, token}
use Rattle.pm_calm.specs.Phases.Phase.{Idle}
use Rattle.pm_message.specs.declared.Message.{Message}
use Rattle.pm_model.specs.declared.State.{State}
use Rattle.pm_plan.specs.declared.plan.Plan.{Plan}
use Rattle.pm_model.specs.Runs.{later}
use Rattle.pm_saved.specs.declared.kept.KeptSense.{KeptSense}
use Rattle.pm_saved.specs.declared.kept.KeptStep.{KeptStep}
use Rattle.pm_sim.proofs.Lanes.{posted_for, sent_for}
use Rattle.pm_sim.proofs.Letters.{More, all_posted, in_map, process_self, sent_mail, taken}
use Rattle.pm_sim.proofs.Lists.{in_cases, in_right}
use Rattle.pm_sim.proofs.Places.{Sim, clp_at}
use Rattle.pm_sim.proofs.Wires.{between_mail, posted_else, took}
use Rattle.pm_sim.specs.Bounds.{between}
use Rattle.pm_sim.specs.Routings.{mail_to}
use Rattle.pm_sim.specs.Sims.{In, tally}
use Rattle.pm_sim.specs.Worlds.{Mail, Posted, Process, Taken, World, actor_of, addressed, clps_of, home, is_process, mail, post_all, take_from}
use Rattle.pm_sim.specs.Worlds.Process.{AtAgent, AtClp}
use Rattle.pm_step.specs.declared.Next.{Next}
use Rattle.pm_message.specs.declared.Message.TheVariants as message
use Rattle.pm_base.specs.declared.value.Query.TheVariants as query
use Rattle.pm_step.specs.declared.Next.TheVariants as outcome

wake_mail : (p : Plan) (s : Stamp) (over over' : Num → ℕ → Window → Type 0) (ph ph' : Phase) (x : Mail)
    → IsWake x.message → MailAt p s over ph x.to x.from x.message → MailAt p s over' ph' x.to x.from x.message
wake_mail p s over over' ph ph' x (k, z, e) h = subst (MailAt p s over' ph' x.to x.from) (sym e)
    (let f : x.from ≡ x.to = subst (MailAt p s over ph x.to x.from) e h in f)

idle_tokens : (xs : List Mail) → tally (λ (x : Mail). token Idle x.message) xs ≡ 0
idle_tokens [] = refl
idle_tokens (x ∷ xs) = idle_tokens xs

pub tidy_wakes : (ms : List Message) → ((m : Message) → In m ms → IsWake m) → Tidy ms
tidy_wakes [] h = tt
tidy_wakes (m ∷ ms) h = (
  (λ f x i g. let o = h m (inl refl) in subst IsFinish o.2 f),
  tidy_wakes ms (λ x i. h x (inr i)),
)

give_no_wake : (g : GiveRow) → IsWake (message.Give g) → ⊥
give_no_wake g (k, z, e) = cc

finish_no_wake : (n : Num) (y : Stamp) → IsWake (message.Finish n y) → ⊥
finish_no_wake n y (k, z, e) = cc

ask_no_wake : (n : Num) (y : Stamp) (q : Query) → IsWake (message.Ask n y q) → ⊥
ask_no_wake n y q (k, z, e) = cc

module _ (p : Plan) (q : State) (w : World) (recs : ℕ → Parts) (sim : Sim p q w recs) (s : Stamp) (os : List Over)
    (ph : Phase) (calm : Calm p w s os ph) (a : ℕ) (la : a < length w.agents) (from : Process) (t : Taken)
    (e : take_from (AtAgent a) from w.links ≡ Some t)
    (quiet : (x : Mail) → In x (mail t.links) → IsWake x.message) (os' : List Over) (closed : (c : ℕ) → c < clps_of p
    → ClpAt p s (is_over os') Idle (clp_at w c))
    (front : List KeptStep) (fr : (z : KeptStep) → In z front → In z (get_or w.agents a no_agent).steps)
    (whole : (z : KeptStep) (x : KeptSense) → In z front → In x z.senses → x.complete ≡ true)
    (done : List KeptSense) (dn : (x : KeptSense) → In x done → (x.complete ≡ true)
    × ((z : Stamp) × In (message.Ask x.num z x.query) sim.issued))
    (empty : between (AtAgent a) (AtAgent a) t.links ≡ []) (only : (i : ℕ) → i < length w.agents → (i ≡ a → ⊥)
    → (get_or w.agents i no_agent).steps ≡ []) (base : List ℤ) where
  abbrev ag : Agent
  ag = get_or w.agents a no_agent

  abbrev pub after : Sends → World
  after r = record w {
    agents = set w.agents a r.agent;
    links =
        post_all (AtAgent a) (map (addressed a (home p a)) r.sent) t.links;
  }

  abbrev new : Num
  new = record { agent = a; seq = ag.seq }

  not_new : (k : Num) (z : Stamp) (y : Query) → In (message.Ask k z y) sim.issued → k ≡ new → ⊥
  not_new k z y i f =
      let o = (sim.core.fresh (message.Ask k z y) i).1 in
      let b : k.seq < ag.seq = subst (λ j. k.seq < (get_or w.agents j no_agent).seq) (ap (λ (n : Num). n.agent) f) o in
      let g : k.seq ≡ ag.seq = ap (λ (n : Num). n.seq) f in omega arith

  -- a sense that is kept in front is no new one
  front_old : (z : KeptStep) (x : KeptSense) → In z front → In x z.senses → x.num ≡ new → ⊥
  front_old z x i j f = not_new x.num z.stamp x.query ((sim.core.agent a la).senses z (fr z i) x j).issue f

  posted : (r : Sends) → More (mail t.links) (sent_mail (AtAgent a) (map (addressed a (home p a)) r.sent))
      (mail (after r).links)
  posted r = all_posted (AtAgent a) (map (addressed a (home p a)) r.sent) t.links

  old_in : (x : Mail) → In x (mail t.links) → In x (mail w.links)
  old_in x i = (taken (AtAgent a) from w.links t e).into x (inr i)

  -- all but what the new phase makes of what was sent
  build : (ph' : Phase) (r : Sends) → ((m : Message) → In m r.sent
      → MailAt p s (is_over os') ph' (addressed a (home p a) m).to (AtAgent a) (addressed a (home p a) m).message)
      → tally (λ (x : Mail). token ph' x.message) (sent_mail (AtAgent a) (map (addressed a (home p a)) r.sent)) ≤ 1
      → AgentAt s ph' r.agent → OpenIn ph' (after r)
      → sent_for (AtAgent a) (map (addressed a (home p a)) r.sent) ≡ wake_of r.agent.awaited
      → Calm p (after r) s os' ph'
  build ph' r sent one agent opens own = record {
    line = calm.line;
    clps = λ c lc. clp_up p s (is_over os') ph' (clp_at w c) (closed c lc);
    letters = λ x i. elim ((posted r).out x i) [
      | inr j ↦ wake_mail p s (is_over os) (is_over os') ph ph' x (quiet x j) (calm.letters x (old_in x j))
      | inl j ↦ (let o = in_map (λ (y : Posted). mail_to y.to (AtAgent a) y.message)
          (map (addressed a (home p a)) r.sent) x j in
          let o2 = in_map (addressed a (home p a)) r.sent o.0 o.1 in
          subst (λ (y : Mail). MailAt p s (is_over os') ph' y.to y.from y.message)
          (sym (o.2 ∙ ap (λ (y : Posted). mail_to y.to (AtAgent a) y.message) o2.2)) (sent o2.0 o2.1))
    ];
    tokens = (let c = (posted r).count (λ (x : Mail). token ph' x.message) in let z =
        wakes_none ph' (mail t.links) quiet in omega arith);
    agents = λ i li. elim (cases_eq i a) [
      | inl f ↦ subst (λ z. AgentAt s ph' (get_or (set w.agents a r.agent) z no_agent)) (sym f)
          (subst (AgentAt s ph') (sym (get_or-set_same w.agents a r.agent no_agent la)) agent)
      | inr ne ↦ subst (AgentAt s ph') (sym (get_or-set_other w.agents a i r.agent no_agent ne))
          (let none = only i (let l = length-set w.agents a r.agent in omega arith) ne in
          record { steps = λ z j. absurd (subst (In z) none j); senses = λ z x j k. absurd (subst (In z) none j) })
    ];
    opens = opens;
    own = λ i li. elim (cases_eq i a) [
      | inl f ↦ subst (λ z. between (AtAgent z) (AtAgent z) (after r).links ≡ wake_of
          (get_or (set w.agents a r.agent) z no_agent).awaited) (sym f)
          (posted_for (AtAgent a) (AtAgent a) (map (addressed a (home p a)) r.sent) t.links
          ∙ (ap (λ z. z ++ sent_for (AtAgent a) (map (addressed a (home p a)) r.sent)) empty
          ∙ (own ∙ ap (λ (z : Agent). wake_of z.awaited) (sym (get_or-set_same w.agents a r.agent no_agent la)))))
      | inr ne ↦ posted_else (AtAgent a) (AtAgent i) (AtAgent i) (map (addressed a (home p a)) r.sent) t.links
          (λ g. ne (same_agent i a g)) ∙ ((took (AtAgent a) from w.links t e).others (AtAgent i) (AtAgent i)
          (λ g. ne (same_agent i a g.0))
          ∙ (calm.own i (let l = length-set w.agents a r.agent in omega arith)
          ∙ ap (λ (z : Agent). wake_of z.awaited) (sym (get_or-set_other w.agents a i r.agent no_agent ne))))
    ];
  }
    where
      same_agent : (x y : ℕ) → AtAgent x ≡ AtAgent y → x ≡ y
      same_agent x y g = cc

  -- a new query
  asked : (y : Query) (r : Sends) → r ≡ went_on (actor_of p a) base front s done ag.seq (outcome.Ask y)
      → Calm p (after r) s os' (asks new y) × OrderIn (asks new y) p (after r)
  asked y r er = subst (λ (z : Sends). Calm p (after z) s os' (asks new y) × OrderIn (asks new y) p (after z)) (sym er) (
    build (asks new y) r0 (λ m i. elim i [
      | inl f ↦ subst
          (λ z. MailAt p s (is_over os') (asks new y) (addressed a (home p a) z).to (AtAgent a)
          (addressed a (home p a) z).message) (sym f) (refl, ask_at (is_over os') new y (AtAgent a))
      | inr b ↦ absurd b
    ])
        (ask_one new s y)
        (record {
          steps = λ z i. elim (in_cases front (last ∷ []) z i) [
            | inl j ↦ (calm.agents a la).steps z (fr z j)
            | inr j ↦ elim j [ inl f ↦ ap (λ (k : KeptStep). k.stamp) f | inr b ↦ absurd b ]
          ];
          senses = λ z x i k. elim (in_cases front (last ∷ []) z i) [
            | inl j ↦ done_at new y x (whole z x j k) (front_old z x j k)
            | inr j ↦ elim j [
              | inr b ↦ absurd b
              | inl f ↦ elim (in_cases done (asking a ag.seq y ∷ []) x (subst (λ (u : KeptStep). In x u.senses) f k)) [
                | inl h ↦ (let o = dn x h in done_at new y x o.0 (not_new x.num o.1.0 x.query o.1.1))
                | inr h ↦ elim h [
                  | inl g ↦ subst (SenseAt (asks new y)) (sym g)
                      (asked_at new y (asking a ag.seq y) refl refl refl)
                  | inr b ↦ absurd b
                ]
              ]
            ]
          ];
        })
        (opens y) refl,
    order y,
  )
    where
      r0 : Sends
      r0 = went_on (actor_of p a) base front s done ag.seq (outcome.Ask y)

      last : KeptStep
      last = record { stamp = s; senses = done ++ asking a ag.seq y ∷ []; act = None }

      has : HasSense (after r0) new
      has = (
        (let l = length-set w.agents a r0.agent in omega arith),
        record { stamp = s; senses = done ++ asking a ag.seq y ∷ []; act = None },
        asking a ag.seq y,
        subst (λ (z : Agent). In (record { stamp = s; senses = done ++ asking a ag.seq y ∷ []; act = None }) z.steps)
            (sym (get_or-set_same w.agents a r0.agent no_agent la))
            (in_right front (record { stamp = s; senses = done ++ asking a ag.seq y ∷ []; act = None } ∷ []) _
            (inl refl)),
        in_right done (asking a ag.seq y ∷ []) (asking a ag.seq y) (inl refl),
        refl,
      )

      opens : (y' : Query) → OpenIn (asks new y') (after r0)
      opens (query.One v) = has
      opens (query.Class k u) = has

      wakes : (to : Process) (d : ℕ) (m : Message) → In m (between to (AtClp d) (after r0).links) → IsWake m
      wakes to d m i = quiet (mail_to to (AtClp d) m)
          (between_mail to (AtClp d) t.links m (subst (In m)
          (posted_else (AtAgent a) to (AtClp d) (map (addressed a (home p a)) r0.sent) t.links (λ g. cc)) i))

      order : (y' : Query) → OrderIn (asks new y') p (after r0)
      order (query.One v) = tt
      order (query.Class k u) = record {
        tidy = λ to d. tidy_wakes (between to (AtClp d) (after r0).links) (wakes to d);
        gives = λ d c g i. absurd (give_no_wake g (wakes (AtClp d) c (message.Give g) i));
        ends = λ to d n z i. absurd (finish_no_wake n z (wakes to d (message.Finish n z) i));
        up = λ d c r ld i en ef nw. absurd (not_new r.num r.stamp (query.Class r.class r.window)
            (sim.queries.reg d r ld i).0 en);
        asks = λ d c n z y'' i. absurd (ask_no_wake n z y'' (wakes (AtClp d) c (message.Ask n z y'') i));
      }

  -- an act
  acted : (d : Act) (b : Bool) → Calm p (after (act_sends a base front s done ag.seq d b)) s os' Idle
  acted d b = build Idle (act_sends a base front s done ag.seq d b) (sent b)
      (let z = idle_tokens (sent_mail (AtAgent a) (map (addressed a (home p a))
      (act_sends a base front s done ag.seq d b).sent)) in omega arith)
      (record {
        steps = λ z i. elim (in_cases front (acted_step a s done ag.seq d ∷ []) z i) [
          | inl j ↦ (calm.agents a la).steps z (fr z j)
          | inr j ↦ elim j [ inl f ↦ ap (λ (k : KeptStep). k.stamp) f | inr n ↦ absurd n ]
        ];
        senses = λ z x i k. elim (in_cases front (acted_step a s done ag.seq d ∷ []) z i) [
          | inl j ↦ inl (whole z x j k, tt)
          | inr j ↦ elim j [
            | inl f ↦ inl ((dn x (subst (λ (u : KeptStep). In x u.senses) f k)).0, tt)
            | inr n ↦ absurd n
          ]
        ];
      })
      tt (own b)
    where
      wakes : (o : Option Awaited) (m : Message) → In m (wake_of o)
          → MailAt p s (is_over os') Idle (addressed a (home p a) m).to (AtAgent a) (addressed a (home p a) m).message
      wakes None m i = absurd i
      wakes (Some x) m (inl f) = subst (λ z. MailAt p s (is_over os') Idle (addressed a (home p a) z).to (AtAgent a)
          (addressed a (home p a) z).message) (sym f) refl
      wakes (Some x) m (inr n) = absurd n

      sent : (c : Bool) (m : Message) → In m (act_sends a base front s done ag.seq d c).sent
          → MailAt p s (is_over os') Idle (addressed a (home p a) m).to (AtAgent a) (addressed a (home p a) m).message
      sent c m i = elim (in_cases (puts_of a s ag.seq d.writes) (wake_of (next_wake c a s ag.seq d)) m i) [
        | inr j ↦ wakes (next_wake c a s ag.seq d) m j
        | inl j ↦ (let o = puts_are a s ag.seq d.writes m j in
            subst (λ z. MailAt p s (is_over os') Idle (addressed a (home p a) z).to (AtAgent a)
            (addressed a (home p a) z).message) (sym o.3) (refl, tt))
      ]

      to_self : (o : Option Awaited) → sent_for (AtAgent a) (map (addressed a (home p a)) (wake_of o)) ≡ wake_of o
      to_self None = refl
      to_self (Some x) = (let f : is_process (AtAgent a) (AtAgent a) ≡ true = process_self (AtAgent a) in rw f refl)

      own : (c : Bool) → sent_for (AtAgent a) (map (addressed a (home p a))
          (act_sends a base front s done ag.seq d c).sent) ≡ wake_of (next_wake c a s ag.seq d)
      own c = ap (sent_for (AtAgent a)) (map-append (addressed a (home p a)) (puts_of a s ag.seq d.writes)
          (wake_of (next_wake c a s ag.seq d))) ∙ (puts_none a (home p a) s ag.seq d.writes
          (map (addressed a (home p a)) (wake_of (next_wake c a s ag.seq d))) ∙ to_self (next_wake c a s ag.seq d))

  -- going on
  pub goes : (out : Next) → (ph' : Phase) × Calm p (after (went_on (actor_of p a) base front s done ag.seq out))
      s os' ph' × OrderIn ph' p (after (went_on (actor_of p a) base front s done ag.seq out))
  goes (outcome.Ask y) = (let o = asked y (went_on (actor_of p a) base front s done ag.seq (outcome.Ask y)) refl in
      (asks new y, o.0, o.1))
  goes (outcome.Act d) = (Idle, acted d (nat_le (later s.time d.wait) p.horizon), tt)
