-- The links of a plan are those of its first world, and ascend.
use Rattle.std.proofs.Common.{ℕ, zero, suc, ◌+◌, ◌-◌, ◌<◌, ◌≤◌, ◌≡◌, ◌==◌, ◌⊎◌, ◌∙◌, true, cond, List, [], ◌∷◌, ◌++◌, Option, ap, sym, subst, refl, inl, inr, arith, map, length, get_or}
use Rattle.std.specs.List.{AllByRecursion}
use Rattle.std.proofs.lemmas.Bool.{cases_Bool, cases_eq}
use Rattle.std.proofs.lemmas.Bool.Decides.{nat_tests}
use Rattle.std.proofs.lemmas.List.{map-append, get_or-map}
use Rattle.pm_plan.specs.Plans.{IsValid, parents}
use Rattle.pm_plan.specs.Trees.{edge}
use Rattle.pm_plan.specs.declared.plan.AgentRow.{AgentRow}
use Rattle.pm_plan.specs.declared.plan.Plan.{Plan}
use Rattle.pm_plan.proofs.Valid.{valid_agent}
use Rattle.pm_alp.specs.declared.agent.Agent.{Agent}
use Rattle.pm_sim.specs.Links.{link_keys}
use Rattle.pm_sim.specs.Sims.{In}
use Rattle.pm_sim.specs.Worlds.{Link, Process, agent_links, clps_of, edges, first_actors, first_world, home, no_row, ports, process, tree_links}
use Rattle.pm_sim.specs.Worlds.Process.{AtAgent, AtClp}
use Rattle.pm_sim.proofs.Firsts.{agents_len}
use Rattle.pm_sim.proofs.Lanes.{InPlan, link_there}
use Rattle.pm_sim.proofs.Letters.{in_map, map_in}
use Rattle.pm_sim.proofs.Lists.{in_cases, in_left, in_right}
use Rattle.pm_sim.proofs.Places.{process_agent, process_clp}
use Rattle.pm_sim.proofs.Takings.{LinkOk}
use Rattle.pm_core.specs.Links.{AreAscending, IsBefore, LinksAre, homed_at, links, links_from, links_to_agents, links_to_clps, senders}

-- ---- what stands in the parts

edges_later : (i n d : ℕ) → (suc i ≤ d) × (d < suc i + n) → (i ≤ d) × (d < i + suc n)
edges_later i n d h = (let a = h.0 in let b = h.1 in (omega arith, omega arith))

pub edges_in : (ps : List (Option ℕ)) (c i n d : ℕ) → In d (edges ps c i n) → (i ≤ d) × (d < i + n)
edges_in ps c i zero d k = absurd k
edges_in ps c i (suc n) d k = elim (cases_Bool (edge ps c i)) [
  | inl e ↦ elim (subst (λ z. In d (cond z (i ∷ edges ps c (suc i) n) (edges ps c (suc i) n))) e k) [
    | inl f ↦ (omega (arith, f), omega (arith, f))
    | inr j ↦ edges_later i n d (edges_in ps c (suc i) n d j)
  ]
  | inr e ↦ edges_later i n d (edges_in ps c (suc i) n d
      (subst (λ z. In d (cond z (i ∷ edges ps c (suc i) n) (edges ps c (suc i) n))) e k))
]

-- an agent of these rows, by its place: its process number, and its home
record Homed (c k : ℕ) (rows : List AgentRow) (d : ℕ) : Type 0 where
  at : ℕ
  low : at < length rows
  number : d ≡ k + at
  home : (get_or rows at no_row).home ≡ c

homed_next : (c k : ℕ) (a : AgentRow) (rows : List AgentRow) (d : ℕ) → Homed c (suc k) rows d → Homed c k (a ∷ rows) d
homed_next c k a rows d h = record {
  at = suc h.at;
  low = (let l = h.low in omega arith);
  number = (let e = h.number in omega arith);
  home = h.home;
}

homed_in : (c k : ℕ) (rows : List AgentRow) (d : ℕ) → In d (homed_at c k rows) → Homed c k rows d
homed_in c k [] d j = absurd j
homed_in c k (a ∷ rows) d j = elim (cases_Bool (a.home == c)) [
  | inl e ↦ elim (subst (λ z. In d (cond z (k ∷ homed_at c (suc k) rows) (homed_at c (suc k) rows))) e j) [
    | inl f ↦ record { at = 0; low = omega arith; number = omega (arith, f); home = grind (arith, nat_tests, e) }
    | inr i ↦ homed_next c k a rows d (homed_in c (suc k) rows d i)
  ]
  | inr e ↦ homed_next c k a rows d (homed_in c (suc k) rows d
      (subst (λ z. In d (cond z (k ∷ homed_at c (suc k) rows) (homed_at c (suc k) rows))) e j))
]

in_homed : (c k : ℕ) (rows : List AgentRow) (i : ℕ) → i < length rows → (get_or rows i no_row).home ≡ c
    → In (k + i) (homed_at c k rows)
in_homed c k [] i lt h = absurd (omega arith)
in_homed c k (a ∷ rows) zero lt h =
    let e : (a.home == c) ≡ true = grind (arith, nat_tests, h) in
    let f : k + 0 ≡ k = omega arith in
    subst (λ z. In (k + 0) (cond z (k ∷ homed_at c (suc k) rows) (homed_at c (suc k) rows))) (sym e) (inl f)
in_homed c k (a ∷ rows) (suc i) lt h =
    let f : suc k + i ≡ k + suc i = omega arith in
    let again : In (k + suc i) (homed_at c (suc k) rows) =
    subst (λ z. In z (homed_at c (suc k) rows)) f (in_homed c (suc k) rows i (omega arith) h) in
    elim (cases_Bool (a.home == c)) [
      | inl e ↦ subst (λ z. In (k + suc i) (cond z (k ∷ homed_at c (suc k) rows) (homed_at c (suc k) rows))) (sym e)
          (inr again)
      | inr e ↦ subst (λ z. In (k + suc i) (cond z (k ∷ homed_at c (suc k) rows) (homed_at c (suc k) rows))) (sym e)
          again
    ]

from_in : (c : ℕ) (ds : List ℕ) (t f : ℕ) → In (t, f) (links_from c ds) → (t ≡ c) × In f ds
from_in c ds t f i =
    let r = in_map (λ k. (c, k)) ds (t, f) i in
    (ap (λ (z : ℕ × ℕ). z.0) r.2, subst (λ z. In z ds) (sym (ap (λ (z : ℕ × ℕ). z.1) r.2)) r.1)

clps_in : (p : Plan) (c n t f : ℕ) → In (t, f) (links_to_clps p c n) → (c ≤ t) × (t < c + n) × In f (senders p t)
clps_in p c zero t f i = absurd i
clps_in p c (suc n) t f i = elim (in_cases (links_from c (senders p c)) (links_to_clps p (suc c) n) (t, f) i) [
  | inl j ↦ (let r = from_in c (senders p c) t f j in let e = r.0 in
      (omega arith, omega arith, subst (λ z. In f (senders p z)) (sym e) r.1))
  | inr j ↦ (let r = clps_in p (suc c) n t f j in let a = r.0 in let b = r.1 in (omega arith, omega arith, r.2))
]

in_clps : (p : Plan) (c n e f : ℕ) → e < n → In f (senders p (c + e)) → In (c + e, f) (links_to_clps p c n)
in_clps p c zero e f lt i = absurd (omega arith)
in_clps p c (suc n) zero f lt i =
    let g : c + 0 ≡ c = omega arith in
    in_left (links_from c (senders p c)) (links_to_clps p (suc c) n) (c + 0, f)
    (subst (λ z. In (z, f) (links_from c (senders p c))) (sym g)
    (map_in (λ k. (c, k)) (senders p c) f (subst (λ z. In f (senders p z)) g i)))
in_clps p c (suc n) (suc e) f lt i =
    let g : suc c + e ≡ c + suc e = omega arith in
    in_right (links_from c (senders p c)) (links_to_clps p (suc c) n) (c + suc e, f)
    (subst (λ z. In (z, f) (links_to_clps p (suc c) n)) g
    (in_clps p (suc c) n e f (omega arith) (subst (λ z. In f (senders p z)) (sym g) i)))

-- a link to an agent of these rows, by its place
record ToAgent (k : ℕ) (rows : List AgentRow) (t f : ℕ) : Type 0 where
  at : ℕ
  low : at < length rows
  to : t ≡ k + at
  from : (f ≡ (get_or rows at no_row).home) ⊎ (f ≡ k + at)

agents_in : (k : ℕ) (rows : List AgentRow) (t f : ℕ) → In (t, f) (links_to_agents k rows) → ToAgent k rows t f
agents_in k [] t f i = absurd i
agents_in k (a ∷ rows) t f (inl e) =
    let x = ap (λ (z : ℕ × ℕ). z.0) e in
    record { at = 0; low = omega arith; to = omega (arith, x); from = inl (ap (λ (z : ℕ × ℕ). z.1) e) }
agents_in k (a ∷ rows) t f (inr (inl e)) =
    let x = ap (λ (z : ℕ × ℕ). z.0) e in let y = ap (λ (z : ℕ × ℕ). z.1) e in
    record { at = 0; low = omega arith; to = omega (arith, x); from = inr (omega (arith, y)) }
agents_in k (a ∷ rows) t f (inr (inr i)) =
    let r = agents_in (suc k) rows t f i in let l = r.low in let x = r.to in
    record {
      at = suc r.at;
      low = omega arith;
      to = omega arith;
      from = elim r.from [ inl e ↦ inl e | inr e ↦ inr (omega (arith, e)) ];
    }

in_agents : (k : ℕ) (rows : List AgentRow) (i : ℕ) → i < length rows
    → In (k + i, (get_or rows i no_row).home) (links_to_agents k rows) × In (k + i, k + i) (links_to_agents k rows)
in_agents k [] i lt = absurd (omega arith)
in_agents k (a ∷ rows) zero lt =
    let g : k + 0 ≡ k = omega arith in (inl (ap (λ z. (z, a.home)) g), inr (inl (ap (λ z. (z, z)) g)))
in_agents k (a ∷ rows) (suc i) lt =
    let g : suc k + i ≡ k + suc i = omega arith in
    let r = in_agents (suc k) rows i (omega arith) in (
      inr (inr (subst (λ z. In (z, (get_or rows i no_row).home) (links_to_agents (suc k) rows)) g r.0)),
      inr (inr (subst (λ z. In (z, z) (links_to_agents (suc k) rows)) g r.1)),
    )

-- ---- the links of the first world

abbrev Key : Type 0
Key = Process × Process

-- a link between neighbours, of these receivers
record TreeKey (p : Plan) (c n : ℕ) (k : Key) : Type 0 where
  to : ℕ
  from : ℕ
  key : k ≡ (AtClp to, AtClp from)
  least : c ≤ to
  low : to < c + n
  port : In from (ports p to)

tree_keys : (p : Plan) (c n : ℕ) (k : Key) → In k (link_keys (tree_links p c n)) → TreeKey p c n k
tree_keys p c zero k i = absurd i
tree_keys p c (suc n) k i =
    let ls : List Link = map (λ d. record { to = AtClp c; from = AtClp d; messages = [] }) (ports p c) in
    let j : In k (link_keys ls ++ link_keys (tree_links p (suc c) n)) =
    subst (In k) (map-append (λ (l : Link). (l.to, l.from)) ls (tree_links p (suc c) n)) i in
    elim (in_cases (link_keys ls) (link_keys (tree_links p (suc c) n)) k j) [
      | inl x ↦ (let a = in_map (λ (l : Link). (l.to, l.from)) ls k x in
          let b = in_map (λ d. record { to = AtClp c; from = AtClp d; messages = [] }) (ports p c) a.0 a.1 in
          record {
            to = c;
            from = b.0;
            key = a.2 ∙ ap (λ (l : Link). (l.to, l.from)) b.2;
            least = omega arith;
            low = omega arith;
            port = b.1;
          })
      | inr x ↦ (let r = tree_keys p (suc c) n k x in let a = r.least in let b = r.low in record {
        to = r.to;
        from = r.from;
        key = r.key;
        least = omega arith;
        low = omega arith;
        port = r.port;
      })
    ]

-- a link of an agent
record AgentKey (p : Plan) (i n : ℕ) (k : Key) : Type 0 where
  agent : ℕ
  least : i ≤ agent
  low : agent < i + n
  key : (k ≡ (AtClp (home p agent), AtAgent agent))
      ⊎ ((k ≡ (AtAgent agent, AtClp (home p agent))) ⊎ (k ≡ (AtAgent agent, AtAgent agent)))

agent_keys : (p : Plan) (i : ℕ) (xs : List Agent) (k : Key) → In k (link_keys (agent_links p i xs))
    → AgentKey p i (length xs) k
agent_keys p i [] k j = absurd j
agent_keys p i (x ∷ xs) k (inl e) = record { agent = i; least = omega arith; low = omega arith; key = inl e }
agent_keys p i (x ∷ xs) k (inr (inl e)) =
    record { agent = i; least = omega arith; low = omega arith; key = inr (inl e) }
agent_keys p i (x ∷ xs) k (inr (inr (inl e))) =
    record { agent = i; least = omega arith; low = omega arith; key = inr (inr e) }
agent_keys p i (x ∷ xs) k (inr (inr (inr j))) =
    let r = agent_keys p (suc i) xs k j in let a = r.least in let b = r.low in
    record { agent = r.agent; least = omega arith; low = omega arith; key = r.key }

-- ---- a process by its number

to_clp : (p : Plan) (t c : ℕ) → c < clps_of p → process p t ≡ AtClp c → t ≡ c
to_clp p t c lc e = elim (cases_eq (clps_of p + (t - clps_of p)) t) [
  | inl h ↦ absurd (let g : AtAgent (t - clps_of p) ≡ AtClp c =
      sym (process_agent p (t - clps_of p)) ∙ (ap (process p) h ∙ e) in cc)
  | inr ne ↦ (let lt : t < clps_of p = omega (arith, ne) in
      same (sym (process_clp p t lt) ∙ e))
]
  where
    same : AtClp t ≡ AtClp c → t ≡ c
    same g = cc

to_agent : (p : Plan) (t a : ℕ) → process p t ≡ AtAgent a → t ≡ clps_of p + a
to_agent p t a e = elim (cases_eq (clps_of p + (t - clps_of p)) t) [
  | inl h ↦ (let g : t - clps_of p ≡ a = same (sym (process_agent p (t - clps_of p)) ∙ (ap (process p) h ∙ e)) in
      omega (arith, g, h))
  | inr ne ↦ absurd (let lt : t < clps_of p = omega (arith, ne) in
      let g : AtClp t ≡ AtAgent a = sym (process_clp p t lt) ∙ e in cc)
]
  where
    same : AtAgent (t - clps_of p) ≡ AtAgent a → t - clps_of p ≡ a
    same g = cc

-- ---- both ways

module _ (p : Plan) (valid : IsValid p) where
  abbrev N : ℕ
  N = clps_of p

  home_low : (a : ℕ) → a < length p.agents → home p a < N
  home_low a lt =
      let e : get_or (map (λ (r : AgentRow). r.home) p.agents) a 0 ≡ (get_or p.agents a no_row).home =
      get_or-map (λ (r : AgentRow). r.home) p.agents a no_row 0 lt in
      subst (λ z. z < N) e (valid_agent p valid a lt)

  port_low : (c d : ℕ) → In d (ports p c) → d < N
  port_low c d i = (let h = (edges_in (parents p.clps) c 0 N d i).1 in omega arith)

  there : (to from : Process) → LinkOk p to from → InPlan N (length p.agents) to → InPlan N (length p.agents) from
      → In (to, from) (link_keys (first_world p).links)
  there to from ok lt lf =
      let e = agents_len p 0 p.agents in
      link_there p to from ok (subst (λ z. InPlan N z to) (sym e) lt) (subst (λ z. InPlan N z from) (sym e) lf)

  into_clp : (t f : ℕ) → t < N → In f (senders p t) → In (process p t, process p f) (link_keys (first_world p).links)
  into_clp t f lt i = elim (in_cases (ports p t) (homed_at t N p.agents) f i) [
    | inl j ↦ (let lf = port_low t f j in
        subst (λ z. In (z, process p f) (link_keys (first_world p).links)) (sym (process_clp p t lt))
        (subst (λ z. In (AtClp t, z) (link_keys (first_world p).links)) (sym (process_clp p f lf))
        (there (AtClp t) (AtClp f) j lt lf)))
    | inr j ↦ (let h = homed_in t N p.agents f j in
        let e : process p f ≡ AtAgent h.at = ap (process p) h.number ∙ process_agent p h.at in
        subst (λ z. In (z, process p f) (link_keys (first_world p).links)) (sym (process_clp p t lt))
        (subst (λ z. In (AtClp t, z) (link_keys (first_world p).links)) (sym e)
        (there (AtClp t) (AtAgent h.at) h.home lt h.low)))
  ]

  into_agent : (t f : ℕ) → ToAgent N p.agents t f → In (process p t, process p f) (link_keys (first_world p).links)
  into_agent t f r =
      let e : process p t ≡ AtAgent r.at = ap (process p) r.to ∙ process_agent p r.at in
      subst (λ z. In (z, process p f) (link_keys (first_world p).links)) (sym e) (elim r.from [
        | inl g ↦ (let lf : f < N = subst (λ z. z < N) (sym g) (home_low r.at r.low) in
            subst (λ z. In (AtAgent r.at, z) (link_keys (first_world p).links)) (sym (process_clp p f lf))
            (there (AtAgent r.at) (AtClp f) (sym g) r.low lf))
        | inr g ↦ (let h : process p f ≡ AtAgent r.at = ap (process p) g ∙ process_agent p r.at in
            subst (λ z. In (AtAgent r.at, z) (link_keys (first_world p).links)) (sym h)
            (there (AtAgent r.at) (AtAgent r.at) refl r.low r.low))
      ])

  are_keys : (t f : ℕ) → In (t, f) (links p) → In (process p t, process p f) (link_keys (first_world p).links)
  are_keys t f i = elim (in_cases (links_to_clps p 0 N) (links_to_agents N p.agents) (t, f) i) [
    | inl j ↦ (let r = clps_in p 0 N t f j in let lt = r.1 in into_clp t f (omega arith) r.2)
    | inr j ↦ into_agent t f (agents_in N p.agents t f j)
  ]

  to_clps : (t f : ℕ) → t < N → In f (senders p t) → In (t, f) (links p)
  to_clps t f lt i = in_left (links_to_clps p 0 N) (links_to_agents N p.agents) (t, f)
      (let e : 0 + t ≡ t = omega arith in subst (λ z. In (z, f) (links_to_clps p 0 N)) e
      (in_clps p 0 N t f lt (subst (λ z. In f (senders p z)) (sym e) i)))

  from_tree : (t f : ℕ) → TreeKey p 0 N (process p t, process p f) → In (t, f) (links p)
  from_tree t f r =
      let low = r.low in
      let a : t ≡ r.to = to_clp p t r.to (omega arith) (ap (λ (z : Key). z.0) r.key) in
      let b : f ≡ r.from = to_clp p f r.from (port_low r.to r.from r.port) (ap (λ (z : Key). z.1) r.key) in
      to_clps t f (omega (arith, a)) (in_left (ports p t) (homed_at t N p.agents) f
      (subst (λ z. In z (ports p t)) (sym b) (subst (λ z. In r.from (ports p z)) (sym a) r.port)))

  from_agent : (t f : ℕ) → AgentKey p 0 (length p.agents) (process p t, process p f) → In (t, f) (links p)
  from_agent t f r =
      let low = r.low in
      let la : r.agent < length p.agents = omega arith in
      elim r.key [
        | inl e ↦ (let a : t ≡ home p r.agent = to_clp p t (home p r.agent) (home_low r.agent la) (ap (λ (z : Key). z.0) e) in
            let b : f ≡ N + r.agent = to_agent p f r.agent (ap (λ (z : Key). z.1) e) in
            to_clps t f (subst (λ z. z < N) (sym a) (home_low r.agent la))
            (in_right (ports p t) (homed_at t N p.agents) f (subst (λ z. In z (homed_at t N p.agents)) (sym b)
            (in_homed t N p.agents r.agent la (sym a)))))
        | inr (inl e) ↦ (let a : t ≡ N + r.agent = to_agent p t r.agent (ap (λ (z : Key). z.0) e) in
            let b : f ≡ home p r.agent = to_clp p f (home p r.agent) (home_low r.agent la) (ap (λ (z : Key). z.1) e) in
            in_right (links_to_clps p 0 N) (links_to_agents N p.agents) (t, f)
            (subst (λ z. In (z, f) (links_to_agents N p.agents)) (sym a)
            (subst (λ z. In (N + r.agent, z) (links_to_agents N p.agents)) (sym b) (in_agents N p.agents r.agent la).0)))
        | inr (inr e) ↦ (let a : t ≡ N + r.agent = to_agent p t r.agent (ap (λ (z : Key). z.0) e) in
            let b : f ≡ N + r.agent = to_agent p f r.agent (ap (λ (z : Key). z.1) e) in
            in_right (links_to_clps p 0 N) (links_to_agents N p.agents) (t, f)
            (subst (λ z. In (z, f) (links_to_agents N p.agents)) (sym a)
            (subst (λ z. In (N + r.agent, z) (links_to_agents N p.agents)) (sym b) (in_agents N p.agents r.agent la).1)))
      ]

  are_links : (t f : ℕ) → In (process p t, process p f) (link_keys (first_world p).links) → In (t, f) (links p)
  are_links t f i =
      let xs = tree_links p 0 N in let ys = agent_links p 0 (first_actors p 0 p.agents) in
      let j : In (process p t, process p f) (link_keys xs ++ link_keys ys) =
      subst (In (process p t, process p f)) (map-append (λ (l : Link). (l.to, l.from)) xs ys) i in
      elim (in_cases (link_keys xs) (link_keys ys) (process p t, process p f) j) [
        | inl k ↦ from_tree t f (tree_keys p 0 N (process p t, process p f) k)
        | inr k ↦ from_agent t f (subst (λ z. AgentKey p 0 z (process p t, process p f)) (agents_len p 0 p.agents)
            (agent_keys p 0 (first_actors p 0 p.agents) (process p t, process p f) k))
      ]

-- ---- in ascending order

all_of : {X : Type 0} (P : X → Type 0) (xs : List X) → ((x : X) → In x xs → P x) → AllByRecursion P xs
all_of P [] h = tt
all_of P (x ∷ xs) h = (h x (inl refl), all_of P xs (λ y i. h y (inr i)))

of_all : {X : Type 0} (P : X → Type 0) (xs : List X) (x : X) → AllByRecursion P xs → In x xs → P x
of_all P [] x a i = absurd i
of_all P (y ∷ xs) x a (inl e) = subst P (sym e) a.0
of_all P (y ∷ xs) x a (inr i) = of_all P xs x a.1 i

ascend_both : (xs ys : List (ℕ × ℕ)) → AreAscending xs → AreAscending ys
    → ((x y : ℕ × ℕ) → In x xs → In y ys → IsBefore x y) → AreAscending (xs ++ ys)
ascend_both [] ys a b h = b
ascend_both (x ∷ xs) ys a b h = (
  all_of (IsBefore x) (xs ++ ys) (λ z i. elim (in_cases xs ys z i) [
    | inl j ↦ of_all (IsBefore x) xs z a.0 j
    | inr j ↦ h x z (inl refl) j
  ]),
  ascend_both xs ys a.1 b (λ u v i j. h u v (inr i) j),
)

-- each number is below all later ones
abbrev pub Rises : List ℕ → Type 0
Rises [] = Unit {0}
Rises (x ∷ xs) = AllByRecursion (λ y. x < y) xs × Rises xs

rises_both : (xs ys : List ℕ) → Rises xs → Rises ys → ((x y : ℕ) → In x xs → In y ys → x < y) → Rises (xs ++ ys)
rises_both [] ys a b h = b
rises_both (x ∷ xs) ys a b h = (
  all_of (λ y. x < y) (xs ++ ys) (λ z i. elim (in_cases xs ys z i) [
    | inl j ↦ of_all (λ y. x < y) xs z a.0 j
    | inr j ↦ h x z (inl refl) j
  ]),
  rises_both xs ys a.1 b (λ u v i j. h u v (inr i) j),
)

pub edges_rise : (ps : List (Option ℕ)) (c i n : ℕ) → Rises (edges ps c i n)
edges_rise ps c i zero = tt
edges_rise ps c i (suc n) =
    let again = edges_rise ps c (suc i) n in
    elim (cases_Bool (edge ps c i)) [
      | inl e ↦ subst (λ z. Rises (cond z (i ∷ edges ps c (suc i) n) (edges ps c (suc i) n))) (sym e) (
        all_of (λ y. i < y) (edges ps c (suc i) n) (λ y j. (let h = (edges_in ps c (suc i) n y j).0 in omega arith)),
        again,
      )
      | inr e ↦ subst (λ z. Rises (cond z (i ∷ edges ps c (suc i) n) (edges ps c (suc i) n))) (sym e) again
    ]

homed_rise : (c k : ℕ) (rows : List AgentRow) → Rises (homed_at c k rows)
homed_rise c k [] = tt
homed_rise c k (a ∷ rows) =
    let again = homed_rise c (suc k) rows in
    elim (cases_Bool (a.home == c)) [
      | inl e ↦ subst (λ z. Rises (cond z (k ∷ homed_at c (suc k) rows) (homed_at c (suc k) rows))) (sym e) (
        all_of (λ y. k < y) (homed_at c (suc k) rows)
            (λ y j. (let h = (homed_in c (suc k) rows y j).number in omega arith)),
        again,
      )
      | inr e ↦ subst (λ z. Rises (cond z (k ∷ homed_at c (suc k) rows) (homed_at c (suc k) rows))) (sym e) again
    ]

from_ascend : (c : ℕ) (ds : List ℕ) → Rises ds → AreAscending (links_from c ds)
from_ascend c [] r = tt
from_ascend c (d ∷ ds) r = (
  all_of (IsBefore (c, d)) (links_from c ds) (λ z i.
      (let g = from_in c ds z.0 z.1 i in inr (sym g.0, of_all (λ y. d < y) ds z.1 r.0 g.1))),
  from_ascend c ds r.1,
)

module _ (p : Plan) where
  senders_rise : (c : ℕ) → Rises (senders p c)
  senders_rise c = rises_both (ports p c) (homed_at c (clps_of p) p.agents)
      (edges_rise (parents p.clps) c 0 (clps_of p)) (homed_rise c (clps_of p) p.agents)
      (λ x y i j. (let a = (edges_in (parents p.clps) c 0 (clps_of p) x i).1 in
      let b = (homed_in c (clps_of p) p.agents y j).number in omega arith))

  clps_ascend : (c n : ℕ) → AreAscending (links_to_clps p c n)
  clps_ascend c zero = tt
  clps_ascend c (suc n) = ascend_both (links_from c (senders p c)) (links_to_clps p (suc c) n)
      (from_ascend c (senders p c) (senders_rise c)) (clps_ascend (suc c) n)
      (λ x y i j. (let a = (from_in c (senders p c) x.0 x.1 i).0 in
      let b = (clps_in p (suc c) n y.0 y.1 j).0 in inl (omega arith)))

agents_ascend : (N : ℕ) (k : ℕ) (rows : List AgentRow) → N ≤ k
    → ((i : ℕ) → i < length rows → (get_or rows i no_row).home < N) → AreAscending (links_to_agents k rows)
agents_ascend N k [] le low = tt
agents_ascend N k (a ∷ rows) le low =
    let first : a.home < N = low 0 (omega arith) in
    let later : (x z : ℕ × ℕ) → x.0 ≡ k → In z (links_to_agents (suc k) rows) → IsBefore x z =
    λ x z e i. (let g = (agents_in (suc k) rows z.0 z.1 i).to in inl (omega arith)) in (
      (
        inr (refl, omega arith),
        all_of (IsBefore (k, a.home)) (links_to_agents (suc k) rows) (λ z i. later (k, a.home) z refl i),
      ),
      (
        all_of (IsBefore (k, k)) (links_to_agents (suc k) rows) (λ z i. later (k, k) z refl i),
        agents_ascend N (suc k) rows (omega arith) (λ i lt. low (suc i) (omega arith)),
      ),
    )

pub links_are : (p : Plan) → IsValid p → LinksAre p
links_are p valid = record {
  ascending = ascend_both (links_to_clps p 0 (clps_of p)) (links_to_agents (clps_of p) p.agents)
      (clps_ascend p 0 (clps_of p)) (agents_ascend (clps_of p) (clps_of p) p.agents (omega arith) (home_low p valid))
      (λ x y i j. (let a = (clps_in p 0 (clps_of p) x.0 x.1 i).1 in
      let b = (agents_in (clps_of p) p.agents y.0 y.1 j).to in inl (omega arith)));
  exact = λ to from. (are_keys p valid to from, are_links p valid to from);
}
