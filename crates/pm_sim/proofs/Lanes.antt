-- No link stands twice with messages, so mail is what stands between two processes; and the links are always those of
-- the first world.
use Rattle.std.proofs.Common.{List, None, Option, Some, [], ap, append-nil, append_assoc, arith, cond, false, inl, inr, length, map, refl, subst, suc, sym, true, zero, ℕ, ◌++◌, ◌+◌, ◌<◌, ◌∙◌, ◌∷◌, ◌≡◌, ◌≤◌, ◌⊎◌}
use Rattle.std.proofs.lemmas.Bool.{cases_Bool}
use Rattle.pm_message.specs.declared.Message.{Message}
use Rattle.pm_plan.specs.declared.plan.Plan.{Plan}
use Rattle.pm_alp.specs.Agents.{wake_of}
use Rattle.pm_alp.specs.declared.agent.Agent.{Agent}
use Rattle.pm_sim.proofs.Letters.{in_map, map_in, process_same, process_self}
use Rattle.pm_sim.proofs.Lists.{in_cases}
use Rattle.pm_sim.proofs.Takings.{LinkOk}
use Rattle.pm_sim.proofs.Wires.{post_else, post_here, same_link, took}
use Rattle.pm_sim.specs.Bounds.{between}
use Rattle.pm_sim.specs.Routings.{mail_to}
use Rattle.pm_sim.specs.Sims.{In}
use Rattle.pm_sim.specs.Worlds.{Link, Mail, Posted, Process, Taken, agent_links, clps_of, first_actors, first_world, home, is_link, is_process, link_in_front, mail, mail_of, ports, post, post_all, take_first, take_from, tree_links}
use Rattle.pm_sim.specs.Worlds.Process.{AtAgent, AtClp}

abbrev pub Lanes : List Link → Type 0
Lanes [] = Unit {0}
Lanes (l ∷ ls) = (between l.to l.from ls ≡ []) × Lanes ls

link_self : (l : Link) → is_link l.to l.from l ≡ true
link_self l = (let a = process_self l.to in let b = process_self l.from in rw (a, b))

link_not : (to from : Process) (l : Link) → is_link to from l ≡ false → (l.to ≡ to) × (l.from ≡ from) → ⊥
link_not to from l e pr = (let g : is_link to from l ≡ true =
    (let x : is_process l.to to ≡ true = ap (is_process l.to) (sym pr.0) ∙ process_self l.to in
    let y : is_process l.from from ≡ true = ap (is_process l.from) (sym pr.1) ∙ process_self l.from in rw (x, y)) in cc)

lanes_post : (to from : Process) (m : Message) (ls : List Link) → Lanes ls → Lanes (post to from m ls)
lanes_post to from m [] h = (refl, tt)
lanes_post to from m (l ∷ ls) h = (let again = lanes_post to from m ls h.1 in elim (cases_Bool (is_link to from l)) [
  | inl e ↦ rw e h
  | inr e ↦ (let g = post_else to from l.to l.from m ls (link_not to from l e) ∙ h.0 in rw e (g, again))
])

pub lanes_posted : (from : Process) (ss : List Posted) (ls : List Link) → Lanes ls → Lanes (post_all from ss ls)
lanes_posted from [] ls h = h
lanes_posted from (s ∷ ss) ls h =
    lanes_posted from ss (post s.to from s.message ls) (lanes_post s.to from s.message ls h)

pub lanes_taken : (to from : Process) (ls : List Link) (t : Taken)
    → take_from to from ls ≡ Some t → Lanes ls → Lanes t.links
lanes_taken to from [] t e h = absurd (cc)
lanes_taken to from (l ∷ ls) t e h = elim (cases_Bool (is_link to from l)) [
  | inl f ↦ first l.messages
      (subst (λ z. cond z (take_first l ls l.messages) (link_in_front l (take_from to from ls)) ≡ Some t) f e)
  | inr f ↦ behind f (take_from to from ls) (λ r g. lanes_taken to from ls r g h.1)
      refl (subst (λ z. cond z (take_first l ls l.messages) (link_in_front l (take_from to from ls)) ≡ Some t) f e)
]
  where
    first : (ms : List Message) → take_first l ls ms ≡ Some t → Lanes t.links
    first [] g = absurd (cc)
    first (m ∷ ms) g = (let k : record { message = m; links = record l { messages = ms } ∷ ls } ≡ t =
        cc in subst (λ (z : Taken). Lanes z.links) k h)

    behind : is_link to from l ≡ false → (o : Option Taken) → ((r : Taken) → o ≡ Some r → Lanes r.links)
        → take_from to from ls ≡ o → link_in_front l o ≡ Some t → Lanes t.links
    behind f None again g e2 = absurd (cc)
    behind f (Some r) again g e2 =
        let k : record { message = r.message; links = l ∷ r.links } ≡ t = cc in
        let tk = took to from ls r g in
        subst (λ (z : Taken). Lanes z.links) k (tk.others l.to l.from (link_not to from l f) ∙ h.0, again r refl)

-- mail stands between its processes
pub mail_between : (ls : List Link) → Lanes ls → (x : Mail) → In x (mail ls) → In x.message (between x.to x.from ls)
mail_between [] h x i = absurd i
mail_between (l ∷ ls) h x i = elim (in_cases (mail_of l) (mail ls) x i) [
  | inl j ↦ (let o = in_map (λ (m : Message). mail_to l.to l.from m) l.messages x j in
      let e = link_self l in
      let g : In o.0 (between l.to l.from (l ∷ ls)) = rw e o.1 in
      subst (λ (z : Mail). In z.message (between z.to z.from (l ∷ ls))) (sym o.2) g)
  | inr j ↦ (let k = mail_between ls h.1 x j in elim (cases_Bool (is_link x.to x.from l)) [
    | inr e ↦ rw e k
    | inl e ↦ absurd (let s = same_link x.to x.from l e in
        let a : between x.to x.from ls ≡ [] =
        subst (λ z. between z x.from ls ≡ []) s.0 (subst (λ z. between l.to z ls ≡ []) s.1 h.0) in
        subst (In x.message) a k)
  ])
]

-- what is posted to a process stands at the end of its link
abbrev pub sent_for : Process → List Posted → List Message
sent_for to [] = []
sent_for to (x ∷ xs) = cond (is_process x.to to) (x.message ∷ sent_for to xs) (sent_for to xs)

pub posted_for : (from to : Process) (ss : List Posted) (ls : List Link)
    → between to from (post_all from ss ls) ≡ between to from ls ++ sent_for to ss
posted_for from to [] ls = sym (append-nil (between to from ls))
posted_for from to (s ∷ ss) ls =
    (let again = posted_for from to ss (post s.to from s.message ls) in elim (cases_Bool (is_process s.to to)) [
      | inl f ↦ (let te = process_same s.to to f in
          let a : between to from (post s.to from s.message ls) ≡ between to from ls ++ s.message ∷ [] =
          subst (λ z. between z from (post s.to from s.message ls) ≡ between z from ls ++ s.message ∷ [])
          te (post_here s.to from s.message ls) in
          again ∙ ap (λ z. z ++ sent_for to ss) a
          ∙ append_assoc (between to from ls) (s.message ∷ []) (sent_for to ss) ∙ sym (rw f))
      | inr f ↦ (let a = post_else s.to from to
          from s.message ls
          (λ p. let g : is_process s.to to ≡ true = ap (is_process s.to) p.0 ∙ process_self s.to in cc) in
          again ∙ ap (λ z. z ++ sent_for to ss) a ∙ sym (rw f))
    ])

-- ---- the links stay

abbrev pub Key : Type 0
Key = Process × Process

abbrev pub keys : List Link → List Key
keys ls = map (λ (l : Link). (l.to, l.from)) ls

pub keys_taken : (to from : Process) (ls : List Link) (t : Taken)
    → take_from to from ls ≡ Some t → keys t.links ≡ keys ls
keys_taken to from [] t e = absurd (cc)
keys_taken to from (l ∷ ls) t e = elim (cases_Bool (is_link to from l)) [
  | inl f ↦ first l.messages
      (subst (λ z. cond z (take_first l ls l.messages) (link_in_front l (take_from to from ls)) ≡ Some t) f e)
  | inr f ↦ behind (take_from to from ls) (λ r g. keys_taken to from ls r g)
      refl (subst (λ z. cond z (take_first l ls l.messages) (link_in_front l (take_from to from ls)) ≡ Some t) f e)
]
  where
    first : (ms : List Message) → take_first l ls ms ≡ Some t → keys t.links ≡ keys (l ∷ ls)
    first [] g = absurd (cc)
    first (m ∷ ms) g = (let k : record { message = m; links = record l { messages = ms } ∷ ls } ≡ t =
        cc in subst (λ (z : Taken). keys z.links ≡ keys (l ∷ ls)) k refl)

    behind : (o : Option Taken) → ((r : Taken) → o ≡ Some r → keys r.links ≡ keys ls)
        → take_from to from ls ≡ o → link_in_front l o ≡ Some t → keys t.links ≡ keys (l ∷ ls)
    behind None again g e2 = absurd (cc)
    behind (Some r) again g e2 = (let k : record { message = r.message; links = l ∷ r.links } ≡ t = cc in
        subst (λ (z : Taken). keys z.links ≡ keys (l ∷ ls)) k (ap (λ z. (l.to, l.from) ∷ z) (again r refl)))

keys_post : (to from : Process) (m : Message) (ls : List Link)
    → In (to, from) (keys ls) → keys (post to from m ls) ≡ keys ls
keys_post to from m [] i = absurd i
keys_post to from m (l ∷ ls) i = elim (cases_Bool (is_link to from l)) [
  | inl e ↦ rw e refl
  | inr e ↦ elim i [
    | inl f ↦ absurd (link_not to from l e (sym (ap (λ (z : Key). z.0) f), sym (ap (λ (z : Key). z.1) f)))
    | inr j ↦ (let again = keys_post to from m ls j in rw e (ap (λ z. (l.to, l.from) ∷ z) again))
  ]
]

pub keys_posted : (from : Process) (ss : List Posted) (ls : List Link)
    → ((s : Posted) → In s ss → In (s.to, from) (keys ls)) → keys (post_all from ss ls) ≡ keys ls
keys_posted from [] ls h = refl
keys_posted from (s ∷ ss) ls h =
    let e = keys_post s.to from s.message ls (h s (inl refl)) in
    keys_posted from ss (post s.to from s.message ls) (λ x i. subst (In (x.to, from)) (sym e) (h x (inr i))) ∙ e

-- ---- the first world

none_between : (to from : Process) (ls : List Link)
    → ((l : Link) → In l ls → is_link to from l ≡ true → l.messages ≡ []) → between to from ls ≡ []
none_between to from [] h = refl
none_between to from (l ∷ ls) h =
    (let again = none_between to from ls (λ x i. h x (inr i)) in elim (cases_Bool (is_link to from l)) [
      | inl e ↦ (let g = h l (inl refl) e in rw e g)
      | inr e ↦ rw e again
    ])

-- a link that has messages is an agent's own, of an agent from i on
abbrev Own : ℕ → Link → Type 0
Own i l = (l.messages ≡ []) ⊎ ((j : ℕ) × (i ≤ j) × (l.to ≡ AtAgent j) × (l.from ≡ AtAgent j))

own_of : (p : Plan) (i : ℕ) (xs : List Agent) (l : Link) → In l (agent_links p i xs) → Own i l
own_of p i [] l k = absurd k
own_of p i (a ∷ xs) l (inl e) = inl (ap (λ (z : Link). z.messages) e)
own_of p i (a ∷ xs) l (inr (inl e)) = inl (ap (λ (z : Link). z.messages) e)
own_of p i (a ∷ xs) l (inr (inr (inl e))) = inr (i, omega arith, ap (λ (z : Link). z.to) e, ap (λ (z : Link). z.from) e)
own_of p i (a ∷ xs) l (inr (inr (inr k))) =
    elim (own_of p (suc i) xs l k) [ inl e ↦ inl e | inr o ↦ inr (o.0, (let h = o.1 in omega arith), o.2, o.3) ]

tree_own : (p : Plan) (c n : ℕ) (l : Link) → In l (tree_links p c n) → l.messages ≡ []
tree_own p c zero l k = absurd k
tree_own p c (suc n) l k = elim (in_cases
    (map (λ d. record { to = AtClp c; from = AtClp d; messages = [] }) (ports p c)) (tree_links p (suc c) n) l k) [
      | inl j ↦ (let o = in_map (λ d. record { to = AtClp c; from = AtClp d; messages = [] }) (ports p c) l j in
          ap (λ (z : Link). z.messages) o.2)
      | inr j ↦ tree_own p (suc c) n l j
    ]

-- no link to a CLP or from one has messages
clp_between : (to from : Process) (i : ℕ) (ls : List Link) → ((l : Link) → In l ls → Own i l)
    → ((j : ℕ) → i ≤ j → to ≡ AtAgent j → from ≡ AtAgent j → ⊥) → between to from ls ≡ []
clp_between to from i ls h ne = none_between to from ls (λ l k e. elim (h l k) [
  | inl f ↦ f
  | inr o ↦ absurd (let s = same_link to from l e in ne o.0 o.1 (sym s.0 ∙ o.2) (sym s.1 ∙ o.3))
])

lanes_agents : (p : Plan) (i : ℕ) (xs : List Agent) → Lanes (agent_links p i xs)
lanes_agents p i [] = tt
lanes_agents p i (a ∷ xs) =
    let rest : (l : Link) → In l (agent_links p (suc i) xs) → Own i l = λ l k.
    elim (own_of p (suc i) xs l k) [ inl e ↦ inl e | inr o ↦ inr (o.0, (let h = o.1 in omega arith), o.2, o.3) ] in
    let own : Link = record { to = AtAgent i; from = AtAgent i; messages = wake_of a.awaited } in
    let more : (l : Link) → In l (own ∷ agent_links p (suc i) xs) → Own i l = λ l k. elim k [
      | inl e ↦
          inr (i, omega arith, ap (λ (z : Link). z.to) e, ap (λ (z : Link). z.from) e)
      | inr j ↦ rest l j
    ] in
    let back : Link = record { to = AtAgent i; from = AtClp (home p i); messages = [] } in (
      clp_between (AtClp (home p i)) (AtAgent i) i (back ∷ own ∷ agent_links p (suc i) xs)
          (λ l k. elim k [ inl e ↦ inl (ap (λ (z : Link). z.messages) e) | inr j ↦ more l j ]) (λ j le e f. cc),
      (
        clp_between (AtAgent i) (AtClp (home p i)) i (own ∷ agent_links p (suc i) xs) more (λ j le e f. cc),
        (
          clp_between (AtAgent i) (AtAgent i)
              (suc i) (agent_links p (suc i) xs) (own_of p (suc i) xs) (λ j le e f. not_less i j le (same i j e)),
          lanes_agents p (suc i) xs,
        ),
      ),
    )
  where
    same : (x y : ℕ) → AtAgent x ≡ AtAgent y → x ≡ y
    same x y e = cc

    not_less : (x y : ℕ) → suc x ≤ y → x ≡ y → ⊥
    not_less x y le e = omega arith

lanes_ports : (p : Plan) (c : ℕ) (ds : List ℕ) (ls : List Link) → ((l : Link) → In l ls → Own 0 l)
    → Lanes ls → Lanes (map (λ d. record { to = AtClp c; from = AtClp d; messages = [] }) ds ++ ls)
lanes_ports p c [] ls h k = k
lanes_ports p c (d ∷ ds) ls h k = (
  clp_between (AtClp c) (AtClp d)
      0 _ (λ l i. elim (in_cases (map (λ e. record { to = AtClp c; from = AtClp e; messages = [] }) ds) ls l i) [
        | inl j ↦ inl (let o = in_map (λ e. record { to = AtClp c; from = AtClp e; messages = [] }) ds l j in
            ap (λ (z : Link). z.messages) o.2)
        | inr j ↦ h l j
      ]) (λ j le e f. cc),
  lanes_ports p c ds ls h k,
)

lanes_tree : (p : Plan) (c n : ℕ) (ls : List Link)
    → ((l : Link) → In l ls → Own 0 l) → Lanes ls → Lanes (tree_links p c n ++ ls)
lanes_tree p c zero ls h k = k
lanes_tree p c (suc n) ls h k =
    subst Lanes (sym (append_assoc
    (map (λ d. record { to = AtClp c; from = AtClp d; messages = [] }) (ports p c)) (tree_links p (suc c) n) ls))
    (lanes_ports p c (ports p c) (tree_links p (suc c) n ++ ls) (λ l i.
    elim (in_cases (tree_links p (suc c) n) ls l i) [ inl j ↦ inl (tree_own p (suc c) n l j) | inr j ↦ h l j ])
    (lanes_tree p (suc c) n ls h k))

pub first_lanes : (p : Plan) → Lanes (first_world p).links
first_lanes p = lanes_tree p 0 (clps_of p) (agent_links p 0 (first_actors p 0 p.agents))
    (own_of p 0 (first_actors p 0 p.agents)) (lanes_agents p 0 (first_actors p 0 p.agents))

-- ---- each link of the plan is there

abbrev Into : ℕ → ℕ → Process → Type 0
Into N A (AtClp c) = c < N
Into N A (AtAgent a) = a < A

abbrev pub InPlan : ℕ → ℕ → Process → Type 0
InPlan N A k = Into N A k

keys_left : (xs ys : List Link) (k : Key) → In k (keys xs) → In k (keys (xs ++ ys))
keys_left [] ys k i = absurd i
keys_left (x ∷ xs) ys k (inl e) = inl e
keys_left (x ∷ xs) ys k (inr i) = inr (keys_left xs ys k i)

keys_right : (xs ys : List Link) (k : Key) → In k (keys ys) → In k (keys (xs ++ ys))
keys_right [] ys k i = i
keys_right (x ∷ xs) ys k i = inr (keys_right xs ys k i)

tree_key : (p : Plan) (c n : ℕ) (e d : ℕ)
    → e < n → In d (ports p (c + e)) → In (AtClp (c + e), AtClp d) (keys (tree_links p c n))
tree_key p c zero e d lt i = absurd (omega arith)
tree_key p c (suc n) zero d lt i = keys_left _ (tree_links p (suc c) n) (AtClp (c + 0), AtClp d)
    (subst (λ z. In (AtClp z, AtClp d)
    (keys (map (λ x. record { to = AtClp c; from = AtClp x; messages = [] }) (ports p c)))) (omega arith)
    (map_in (λ (l : Link). (l.to, l.from)) _ _ (map_in (λ x. record { to = AtClp c; from = AtClp x; messages = [] })
    (ports p c) d (subst (λ z. In d (ports p z)) (omega arith) i))))
tree_key p c (suc n) (suc e) d lt i =
    keys_right (map (λ x. record { to = AtClp c; from = AtClp x; messages = [] }) (ports p c))
    (tree_links p (suc c) n) (AtClp (c + suc e), AtClp d)
    (subst (λ z. In (AtClp z, AtClp d) (keys (tree_links p (suc c) n)))
    (omega arith) (tree_key p (suc c) n e d (omega arith) (subst (λ z. In d (ports p z)) (omega arith) i)))

agent_keys : (p : Plan) (i : ℕ) (xs : List Agent) (j : ℕ) → j < length xs
    → In (AtClp (home p (i + j)), AtAgent (i + j)) (keys (agent_links p i xs))
    × In (AtAgent (i + j), AtClp (home p (i + j))) (keys (agent_links p i xs))
    × In (AtAgent (i + j), AtAgent (i + j)) (keys (agent_links p i xs))
agent_keys p i [] j lt = absurd (omega arith)
agent_keys p i (a ∷ xs) zero lt = (let e : i + 0 ≡ i = omega arith in (
  inl (ap (λ z. (AtClp (home p z), AtAgent z)) e),
  inr (inl (ap (λ z. (AtAgent z, AtClp (home p z))) e)),
  inr (inr (inl (ap (λ z. (AtAgent z, AtAgent z)) e))),
))
agent_keys p i (a ∷ xs) (suc j) lt =
    (let e : (suc i) + j ≡ i + suc j = omega arith in let r = agent_keys p (suc i) xs j (omega arith) in (
      inr (inr (inr (subst (λ z. In (AtClp (home p z), AtAgent z) (keys (agent_links p (suc i) xs))) e r.0))),
      inr (inr (inr (subst (λ z. In (AtAgent z, AtClp (home p z)) (keys (agent_links p (suc i) xs))) e r.1))),
      inr (inr (inr (subst (λ z. In (AtAgent z, AtAgent z) (keys (agent_links p (suc i) xs))) e r.2))),
    ))

-- the link of a pair that LinkOk allows is one of the first world's
pub link_there : (p : Plan) (to from : Process) → LinkOk p to from → InPlan (clps_of p) (length (first_world p).agents)
    to → InPlan (clps_of p) (length (first_world p).agents) from → In (to, from) (keys (first_world p).links)
link_there p (AtClp c) (AtClp d) ok lt lf =
    keys_left (tree_links p 0 (clps_of p)) (agent_links p 0 (first_world p).agents) (AtClp c, AtClp d)
    (let e : 0 + c ≡ c = omega arith in subst (λ z. In (AtClp z, AtClp d) (keys (tree_links p 0 (clps_of p))))
    e (tree_key p 0 (clps_of p) c d lt (subst (λ z. In d (ports p z)) (sym e) ok)))
link_there p (AtClp c) (AtAgent a) ok lt lf =
    keys_right (tree_links p 0 (clps_of p)) (agent_links p 0 (first_world p).agents) (AtClp c, AtAgent a)
    (let e : 0 + a ≡ a =
    omega arith in subst (λ z. In (AtClp z, AtAgent a) (keys (agent_links p 0 (first_world p).agents))) ok
    (subst (λ z. In (AtClp (home p z), AtAgent z) (keys (agent_links p 0 (first_world p).agents)))
    e (agent_keys p 0 (first_world p).agents a lf).0))
link_there p (AtAgent a) (AtClp c) ok lt lf =
    keys_right (tree_links p 0 (clps_of p)) (agent_links p 0 (first_world p).agents) (AtAgent a, AtClp c)
    (let e : 0 + a ≡ a =
    omega arith in subst (λ z. In (AtAgent a, AtClp z) (keys (agent_links p 0 (first_world p).agents))) ok
    (subst (λ z. In (AtAgent z, AtClp (home p z)) (keys (agent_links p 0 (first_world p).agents)))
    e (agent_keys p 0 (first_world p).agents a lt).1))
link_there p (AtAgent a) (AtAgent b) ok lt lf =
    keys_right (tree_links p 0 (clps_of p)) (agent_links p 0 (first_world p).agents) (AtAgent a, AtAgent b)
    (let e : 0 + a ≡ a =
    omega arith in subst (λ z. In (AtAgent a, AtAgent z) (keys (agent_links p 0 (first_world p).agents))) ok
    (subst (λ z. In (AtAgent z, AtAgent z) (keys (agent_links p 0 (first_world p).agents)))
    e (agent_keys p 0 (first_world p).agents a lt).2))
