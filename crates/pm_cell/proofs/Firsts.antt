-- The first cells of a plan stand for its first world.
use Rattle.std.proofs.Common.{◌≡◌, ℕ, zero, suc, ◌+◌, ◌-◌, ◌<◌, ◌≤◌, ◌≢◌, ◌⊎◌, inl, inr, Bool, true, false, cond, ◌==◌, List, [], ◌∷◌, ◌++◌, map, length, get_or, set, refl, arith, ap, sym, ◌∙◌, subst, append_assoc, length-append, length-set, get_or-set_other, get_or-set_same, Option, Some, None, Result, Ok, Err, IfOk}
use Rattle.std.proofs.lemmas.Bool.{cases_Bool}
use Rattle.std.proofs.lemmas.Bool.Decides.{nat_tests}
use Rattle.std.proofs.lemmas.List.{length-map}
use Rattle.std.specs.List.{AllByRecursion}
use Rattle.std.specs.Prelude.{◌&&◌}
use Rattle.pm_alp.specs.Agents.{no_agent, wake_of}
use Rattle.pm_alp.specs.declared.agent.Agent.{Agent}
use Rattle.pm_alp.specs.declared.agent.Awaited.{Awaited}
use Rattle.pm_core.specs.Firsts.{first_alp, first_alps, first_clp, first_clps, first_processes, first_wakes}
use Rattle.pm_core.specs.Links.{AreAscending, links}
use Rattle.pm_core.specs.Mails.{wake_at}
use Rattle.pm_core.specs.declared.process.Process.{Process as Held_process}
use Rattle.pm_core.specs.declared.process.Process.TheVariants as process
use Rattle.pm_core.proofs.LinkLaws.{links_are}
use Rattle.pm_ends.specs.Ends.{Inn, Out, froms, received_in, sent_in, sent_to, tos}
use Rattle.pm_ends.specs.Numbers.{LinksBelow, LinksRise, nth, tos_from}
use Rattle.pm_ends.specs.Wires.{AreWires, IsFreshIn}
use Rattle.pm_ends.specs.declared.post.Post.{Post}
use Rattle.pm_message.specs.declared.Message.{Message}
use Rattle.pm_plan.specs.Plans.{IsValid}
use Rattle.pm_plan.specs.declared.plan.AgentRow.{AgentRow}
use Rattle.pm_plan.specs.declared.plan.Plan.{Plan}
use Rattle.pm_sim.specs.Bounds.{between}
use Rattle.pm_sim.specs.Sims.{In}
use Rattle.pm_sim.specs.Worlds.{Link, Process, World, agent_at, agent_links, clp_first, clps_of, first_actor, first_actors, first_world, home, is_link, is_process, no_clp, no_row, ports, tree_links}
use Rattle.pm_sim.specs.Worlds as worlds
use Rattle.pm_sim.specs.Worlds.Process.{AtAgent, AtClp}
use Rattle.pm_sim.proofs.Firsts.{agents_len}
use Rattle.pm_sim.proofs.Places.{process_agent, process_clp}
use Rattle.pm_sim.proofs.ReachedWorlds.{reached_on, world_tells}
use Rattle.pm_cell.specs.Cores.{core, state_at}
use Rattle.pm_cell.specs.Cores.State.{OfAgent, OfClp}
use Rattle.pm_cell.specs.Firsts.{AreFirst, AreProcessesOf, all_woken, first_held, first_helds, woken}
use Rattle.pm_cell.specs.Helds.{Held, IsProcessOf, in_wire, inns_of, made_of, out_wire, outs_of, state_of, view_of, views}
use Rattle.pm_cell.specs.Sides.{messages, stamped}
use Rattle.pm_cell.specs.Stands.{AreSound, CellView, HaveWindow, HeardNothing, StandAt}
use Rattle.pm_cell.specs.Views.{FitsPlan, InWire, IsWired, NumberedFrom, OutWire, nobody, nows, view_at}
use Rattle.pm_sim.specs.Links.{link_keys}
use Rattle.pm_sim.proofs.Lanes.{link_there}
use Rattle.pm_cell.proofs.Drawing.{inns_past, outs_past}
use Rattle.pm_cell.proofs.Lists.{each_append, same_or}
use Rattle.pm_ends.proofs.Lists.{is_nth, some_same}
use Rattle.pm_cell.proofs.Places.{get_past, nth_left, nth_right, over_nth, was_nth}
use Rattle.pm_cell.proofs.Rows.{each_from}
use Rattle.pm_cell.proofs.Runs.{low_has}
use Rattle.pm_cell.proofs.Settles.{frame_inns, frame_outs, from_each, links_low, received_is, sent_is}

lt_or : (a b : ℕ) → (a < b) ⊎ (b ≤ a)
lt_or a b = grind arith

-- ---- the processes at first

clps_many : (p : Plan) (c n : ℕ) → length (map process.Clp (first_clps p c n)) ≡ n
clps_many p c zero = refl
clps_many p c (suc n) = ap suc (clps_many p (suc c) n)

alps_many : (p : Plan) (i : ℕ) (rows : List AgentRow) → length (map process.Alp (first_alps p i rows)) ≡ length rows
alps_many p i [] = refl
alps_many p i (a ∷ rows) = ap suc (alps_many p (suc i) rows)

pub processes_many : (p : Plan) → length (first_processes p) ≡ clps_of p + length p.agents
processes_many p =
    let a = length-append (map process.Clp (first_clps p 0 (clps_of p))) (map process.Alp (first_alps p 0 p.agents)) in
    let b = clps_many p 0 (clps_of p) in
    let c = alps_many p 0 p.agents in
    omega (arith, a, b, c)

clp_nth : (p : Plan) (c n i : ℕ) (x : Held_process) → nth (map process.Clp (first_clps p c n)) i ≡ Some x
    → x ≡ process.Clp (first_clp p (c + i))
clp_nth p c zero i x e = absurd (cc)
clp_nth p c (suc n) zero x e = sym (some_same (process.Clp (first_clp p c)) x e)
    ∙ ap (λ k. process.Clp (first_clp p k)) (omega arith)
clp_nth p c (suc n) (suc i) x e = clp_nth p (suc c) n i x e ∙ ap (λ k. process.Clp (first_clp p k)) (omega arith)

alp_nth : (p : Plan) (i : ℕ) (rows : List AgentRow) (j : ℕ) (x : Held_process)
    → nth (map process.Alp (first_alps p i rows)) j ≡ Some x
    → (j < length rows) × (x ≡ process.Alp (first_alp p (i + j) (get_or rows j no_row)))
alp_nth p i [] j x e = absurd (cc)
alp_nth p i (a ∷ rows) zero x e = (
  omega arith,
  sym (some_same (process.Alp (first_alp p i a)) x e)
      ∙ ap (λ k. process.Alp (first_alp p k a)) (omega arith),
)
alp_nth p i (a ∷ rows) (suc j) x e =
    let r = alp_nth p (suc i) rows j x e in let lt = r.0 in
    (omega (arith, lt), r.1 ∙ ap (λ k. process.Alp (first_alp p k (get_or rows j no_row))) (omega arith))

-- the process of that number at first
pub record IsFirstClp (p : Plan) (k : ℕ) (x : Held_process) : Type 0 where
  pub low : k < clps_of p
  pub is : x ≡ process.Clp (first_clp p k)

pub record IsFirstAlp (p : Plan) (k : ℕ) (x : Held_process) : Type 0 where
  pub high : clps_of p ≤ k
  pub low : k - clps_of p < length p.agents
  pub is : x ≡ process.Alp (first_alp p (k - clps_of p) (agent_at p (k - clps_of p)))

pub first_nth : (p : Plan) (k : ℕ) (x : Held_process) → nth (first_processes p) k ≡ Some x
    → IsFirstClp p k x ⊎ IsFirstAlp p k x
first_nth p k x e = elim (lt_or k (clps_of p)) [
  | inl lt ↦ inl (record {
    low = lt;
    is = clp_nth p 0 (clps_of p) k x (sym (nth_left clps alps k (omega (arith, lt, many))) ∙ e)
        ∙ ap (λ i. process.Clp (first_clp p i)) (omega arith);
  })
  | inr ge ↦ (let at : k ≡ length clps + (k - clps_of p) = omega (arith, ge, many) in
      let r = alp_nth p 0 p.agents (k - clps_of p) x (sym (nth_right clps alps (k - clps_of p))
      ∙ (ap (nth (clps ++ alps)) (sym at) ∙ e)) in
      inr (record {
        high = ge;
        low = r.0;
        is = r.1 ∙ ap (λ i. process.Alp (first_alp p i (agent_at p (k - clps_of p))))
            (omega arith);
      }))
]
  where
    clps : List Held_process
    clps = map process.Clp (first_clps p 0 (clps_of p))

    alps : List Held_process
    alps = map process.Alp (first_alps p 0 p.agents)

    many : length clps ≡ clps_of p
    many = clps_many p 0 (clps_of p)

pub first_processes_are : (p : Plan) → AreProcessesOf p (first_processes p)
first_processes_are p k x e = elim (first_nth p k x e) [
  | inl c ↦ subst (IsProcessOf p k) (sym c.is) (c.low, refl, refl)
  | inr a ↦ subst (IsProcessOf p k) (sym a.is) (a.high, refl, refl)
]

-- ---- what was sent

-- a first Wake, where there is one
abbrev pub wake_posts : Option Message → List Post
wake_posts None = []
wake_posts (Some m) = stamped 0 m ∷ []

fresh_sent : (os : List Out) (a : ℕ) → AllByRecursion (λ (o : Out). o.sent ≡ []) os → sent_in os a ≡ []
fresh_sent [] a f = refl
fresh_sent (o ∷ os) a f = elim (cases_Bool (a == o.to)) [
  | inl e ↦ ap (λ c. cond c o.sent (sent_in os a)) e ∙ f.0
  | inr e ↦ ap (λ c. cond c o.sent (sent_in os a)) e ∙ fresh_sent os a f.1
]

fresh_received : (xs : List Inn) (b : ℕ) → AllByRecursion IsFreshIn xs → received_in xs b ≡ []
fresh_received [] b f = refl
fresh_received (x ∷ xs) b f = elim (cases_Bool (b == x.from)) [
  | inl e ↦ ap (λ c. cond c x.received (received_in xs b)) e ∙ f.0.received
  | inr e ↦ ap (λ c. cond c x.received (received_in xs b)) e ∙ fresh_received xs b f.1
]

sent_else : (b : ℕ) (x : Post) (os : List Out) (a : ℕ) → a ≢ b → sent_in (sent_to b x os) a ≡ sent_in os a
sent_else b x [] a ne = refl
sent_else b x (o ∷ os) a ne = elim (same_or b o.to) [
  | inl e ↦ (let f : (a == o.to) ≡ false = (let g = e.0 in grind (arith, nat_tests, ne, g)) in
      ap (λ c. sent_in (cond c (record o { sent = o.sent ++ x ∷ [] } ∷ os) (o ∷ sent_to b x os)) a) e.1
      ∙ (ap (λ c. cond c (o.sent ++ x ∷ []) (sent_in os a)) f ∙ ap (λ c. cond c o.sent (sent_in os a)) (sym f)))
  | inr e ↦ ap (λ c. sent_in (cond c (record o { sent = o.sent ++ x ∷ [] } ∷ os) (o ∷ sent_to b x os)) a) e.1
      ∙ ap (λ z. cond (a == o.to) o.sent z) (sent_else b x os a ne)
]

sent_own : (b : ℕ) (x : Post) (os : List Out) → AllByRecursion (λ (o : Out). o.sent ≡ []) os → In b (tos os)
    → sent_in (sent_to b x os) b ≡ x ∷ []
sent_own b x [] f i = absurd i
sent_own b x (o ∷ os) f i = elim (same_or b o.to) [
  | inl e ↦ ap (λ c. sent_in (cond c (record o { sent = o.sent ++ x ∷ [] } ∷ os) (o ∷ sent_to b x os)) b) e.1
      ∙ (ap (λ c. cond c (o.sent ++ x ∷ []) (sent_in os b)) e.1 ∙ ap (λ z. z ++ x ∷ []) f.0)
  | inr e ↦ ap (λ c. sent_in (cond c (record o { sent = o.sent ++ x ∷ [] } ∷ os) (o ∷ sent_to b x os)) b) e.1
      ∙ (ap (λ c. cond c o.sent (sent_in (sent_to b x os) b)) e.1 ∙ sent_own b x os f.1 (rest e.0 i))
]
  where
    rest : b ≢ o.to → In b (tos (o ∷ os)) → In b (tos os)
    rest ne (inl e) = absurd (ne e)
    rest ne (inr j) = j

pub woken_else : (b a : ℕ) (w : Option Message) (os : List Out) → AllByRecursion (λ (o : Out). o.sent ≡ []) os → a ≢ b
    → sent_in (woken b w os) a ≡ []
woken_else b a None os f ne = fresh_sent os a f
woken_else b a (Some m) os f ne = sent_else b (stamped 0 m) os a ne ∙ fresh_sent os a f

pub woken_own : (b : ℕ) (w : Option Message) (os : List Out) → AllByRecursion (λ (o : Out). o.sent ≡ []) os
    → In b (tos os) → sent_in (woken b w os) b ≡ wake_posts w
woken_own b None os f i = fresh_sent os b f
woken_own b (Some m) os f i = sent_own b (stamped 0 m) os f i

-- the ends stay
sent_wires : (b : ℕ) (x : Post) (os : List Out) → map out_wire (sent_to b x os) ≡ map out_wire os
sent_wires b x [] = refl
sent_wires b x (o ∷ os) = elim (cases_Bool (b == o.to)) [
  | inl e ↦ ap (λ c. map out_wire (cond c (record o { sent = o.sent ++ x ∷ [] } ∷ os) (o ∷ sent_to b x os))) e
  | inr e ↦ ap (λ c. map out_wire (cond c (record o { sent = o.sent ++ x ∷ [] } ∷ os) (o ∷ sent_to b x os))) e
      ∙ ap (λ z. out_wire o ∷ z) (sent_wires b x os)
]

woken_wires : (b : ℕ) (w : Option Message) (os : List Out) → map out_wire (woken b w os) ≡ map out_wire os
woken_wires b None os = refl
woken_wires b (Some m) os = sent_wires b (stamped 0 m) os

-- ---- all that were sent

pub all_woken_long : (k : ℕ) (ws : List (Option Message)) (outs : List (List Out))
    → length (all_woken k ws outs) ≡ length outs
all_woken_long k [] outs = refl
all_woken_long k (w ∷ ws) outs = all_woken_long (suc k) ws (set outs k (woken k w (get_or outs k [])))
    ∙ length-set outs k (woken k w (get_or outs k []))

all_woken_low : (k : ℕ) (ws : List (Option Message)) (outs : List (List Out)) (b : ℕ) → b < k
    → get_or (all_woken k ws outs) b [] ≡ get_or outs b []
all_woken_low k [] outs b lt = refl
all_woken_low k (w ∷ ws) outs b lt =
    all_woken_low (suc k) ws (set outs k (woken k w (get_or outs k []))) b (omega (arith, lt))
    ∙ get_or-set_other outs k b (woken k w (get_or outs k [])) [] (λ e. absurd (omega (arith, e, lt)))

all_woken_at : (k : ℕ) (ws : List (Option Message)) (outs : List (List Out)) (i : ℕ) → i < length ws
    → k + i < length outs
    → get_or (all_woken k ws outs) (k + i) [] ≡ woken (k + i) (get_or ws i None) (get_or outs (k + i) [])
all_woken_at k [] outs i lt low = absurd (omega arith)
all_woken_at k (w ∷ ws) outs zero lt low =
    let e : k + 0 ≡ k = omega arith in
    ap (λ j. get_or (all_woken (suc k) ws (set outs k (woken k w (get_or outs k [])))) j []) e
    ∙ (all_woken_low (suc k) ws (set outs k (woken k w (get_or outs k []))) k (omega arith)
    ∙ (get_or-set_same outs k (woken k w (get_or outs k [])) [] (omega (arith, low))
    ∙ ap (λ j. woken j w (get_or outs j [])) (sym e)))
all_woken_at k (w ∷ ws) outs (suc i) lt low =
    let e : k + suc i ≡ suc k + i = omega arith in
    let outs' = set outs k (woken k w (get_or outs k [])) in
    let other : get_or outs' (suc k + i) [] ≡ get_or outs (suc k + i) [] =
    get_or-set_other outs k (suc k + i) (woken k w (get_or outs k [])) [] (λ f. absurd (omega (arith, f))) in
    let long = length-set outs k (woken k w (get_or outs k [])) in
    ap (λ j. get_or (all_woken (suc k) ws outs') j []) e
    ∙ (all_woken_at (suc k) ws outs' i (omega (arith, lt)) (omega (arith, low, long))
    ∙ (ap (woken (suc k + i) (get_or ws i None)) other
    ∙ ap (λ j. woken j (get_or ws i None) (get_or outs j [])) (sym e)))

-- ---- the links of the first world

pub wakes_many : (p : Plan) (i : ℕ) (rows : List AgentRow) → length (first_wakes (first_alps p i rows)) ≡ length rows
wakes_many p i [] = refl
wakes_many p i (a ∷ rows) = ap suc (wakes_many p (suc i) rows)

wakes_get : (p : Plan) (i : ℕ) (rows : List AgentRow) (j : ℕ) → j < length rows
    → get_or (first_wakes (first_alps p i rows)) j None ≡ wake_at (first_actor p (i + j) (get_or rows j no_row)).awaited
wakes_get p i [] j lt = absurd (omega arith)
wakes_get p i (a ∷ rows) zero lt = ap (λ k. wake_at (first_actor p k a).awaited) (omega arith)
wakes_get p i (a ∷ rows) (suc j) lt = wakes_get p (suc i) rows j (omega arith)
    ∙ ap (λ k. wake_at (first_actor p k (get_or rows j no_row)).awaited) (omega arith)

actors_get : (p : Plan) (i : ℕ) (rows : List AgentRow) (j : ℕ) → j < length rows
    → get_or (first_actors p i rows) j no_agent ≡ first_actor p (i + j) (get_or rows j no_row)
actors_get p i [] j lt = absurd (omega arith)
actors_get p i (a ∷ rows) zero lt = ap (λ k. first_actor p k a) (omega arith)
actors_get p i (a ∷ rows) (suc j) lt = actors_get p (suc i) rows j (omega arith)
    ∙ ap (λ k. first_actor p k (get_or rows j no_row)) (omega arith)

clps_get : (p : Plan) (c n i : ℕ) → i < n → get_or (worlds.first_clps p c n) i no_clp ≡ clp_first p (c + i)
clps_get p c zero i lt = absurd (omega arith)
clps_get p c (suc n) zero lt = ap (clp_first p) (omega arith)
clps_get p c (suc n) (suc i) lt = clps_get p (suc c) n i (omega arith) ∙ ap (clp_first p) (omega arith)

posts_are : (o : Option Awaited) → messages (wake_posts (wake_at o)) ≡ wake_of o
posts_are None = refl
posts_are (Some w) = refl

own_agent : (p : Plan) (i : ℕ) (xs : List Agent) (j : ℕ) → j < length xs
    → between (AtAgent (i + j)) (AtAgent (i + j)) (agent_links p i xs) ≡ wake_of (get_or xs j no_agent).awaited
own_agent p i [] j lt = absurd (omega arith)
own_agent p i (a ∷ xs) zero lt = (let b : (i == i + 0) ≡ true = grind (arith, nat_tests) in rw b refl)
own_agent p i (a ∷ xs) (suc j) lt =
    let b : (i == i + suc j) ≡ false = grind (arith, nat_tests) in
    let again = own_agent p (suc i) xs j (omega arith) in
    let k : (suc i) + j ≡ i + suc j = omega arith in
    rw b (subst (λ z. between (AtAgent z) (AtAgent z) (agent_links p (suc i) xs)
    ≡ wake_of (get_or xs j no_agent).awaited) k again)

past_ports : (c a : ℕ) (ds : List ℕ) (ls : List Link) → between (AtAgent a) (AtAgent a)
    (map (λ d. record { to = AtClp c; from = AtClp d; messages = [] }) ds ++ ls) ≡ between (AtAgent a) (AtAgent a) ls
past_ports c a [] ls = refl
past_ports c a (d ∷ ds) ls = past_ports c a ds ls

past_tree : (p : Plan) (c n a : ℕ) (ls : List Link)
    → between (AtAgent a) (AtAgent a) (tree_links p c n ++ ls) ≡ between (AtAgent a) (AtAgent a) ls
past_tree p c zero a ls = refl
past_tree p c (suc n) a ls = ap (between (AtAgent a) (AtAgent a)) (append_assoc
    (map (λ d. record { to = AtClp c; from = AtClp d; messages = [] }) (ports p c)) (tree_links p (suc c) n) ls)
    ∙ (past_ports c a (ports p c) (tree_links p (suc c) n ++ ls) ∙ past_tree p (suc c) n a ls)

-- the link between these two is empty, wherever it is
abbrev IsQuiet : Process → Process → Link → Type 0
IsQuiet to from l = is_link to from l ≡ true → l.messages ≡ []

quiet_between : (to from : Process) (ls : List Link) → AllByRecursion (IsQuiet to from) ls → between to from ls ≡ []
quiet_between to from [] q = refl
quiet_between to from (l ∷ ls) q = elim (cases_Bool (is_link to from l)) [
  | inl e ↦ ap (λ c. cond c l.messages (between to from ls)) e ∙ q.0 e
  | inr e ↦ ap (λ c. cond c l.messages (between to from ls)) e ∙ quiet_between to from ls q.1
]

quiet_ports : (to from : Process) (c : ℕ) (ds : List ℕ)
    → AllByRecursion (IsQuiet to from) (map (λ d. record { to = AtClp c; from = AtClp d; messages = [] }) ds)
quiet_ports to from c [] = tt
quiet_ports to from c (d ∷ ds) = (λ e. refl, quiet_ports to from c ds)

quiet_tree : (to from : Process) (p : Plan) (c n : ℕ) → AllByRecursion (IsQuiet to from) (tree_links p c n)
quiet_tree to from p c zero = tt
quiet_tree to from p c (suc n) =
    each_append (IsQuiet to from) (map (λ d. record { to = AtClp c; from = AtClp d; messages = [] }) (ports p c))
    (tree_links p (suc c) n)
    (quiet_ports to from c (ports p c)) (quiet_tree to from p (suc c) n)

is_agent : (i : ℕ) (q : Process) → is_process (AtAgent i) q ≡ true → q ≡ AtAgent i
is_agent i (AtClp c) e = absurd (cc)
is_agent i (AtAgent a) e = (let f : i ≡ a = grind (arith, nat_tests, e) in ap AtAgent (sym f))

own_link : (i : ℕ) (to from : Process) → (is_process (AtAgent i) to && is_process (AtAgent i) from) ≡ true
    → (to ≡ AtAgent i) × (from ≡ AtAgent i)
own_link i to from e = by (is_process (AtAgent i) to) (is_process (AtAgent i) from) refl refl e
  where
    by : (a b : Bool) → is_process (AtAgent i) to ≡ a → is_process (AtAgent i) from ≡ b → (a && b) ≡ true
        → (to ≡ AtAgent i) × (from ≡ AtAgent i)
    by true true f g e = (is_agent i to f, is_agent i from g)
    by true false f g e = absurd (cc)
    by false b f g e = absurd (cc)

quiet_agents : (to from : Process) (p : Plan) (i : ℕ) (xs : List Agent)
    → ((j : ℕ) → i ≤ j → j < i + length xs → to ≡ AtAgent j → from ≡ AtAgent j → ⊥)
    → AllByRecursion (IsQuiet to from) (agent_links p i xs)
quiet_agents to from p i [] n = tt
quiet_agents to from p i (a ∷ xs) n = (
  λ e. refl,
  (
    λ e. refl,
    (
      λ e. absurd (let o = own_link i to from e in n i (omega arith) (omega arith) o.0 o.1),
      quiet_agents to from p (suc i) xs (λ j le lt. n j (omega (arith, le)) (omega (arith, lt))),
    ),
  ),
)

first_quiet : (p : Plan) (to from : Process) → ((j : ℕ) → j < length p.agents → to ≡ AtAgent j → from ≡ AtAgent j → ⊥)
    → between to from (first_world p).links ≡ []
first_quiet p to from n = quiet_between to from (first_world p).links
    (each_append (IsQuiet to from) (tree_links p 0 (clps_of p)) (agent_links p 0 (first_actors p 0 p.agents))
    (quiet_tree to from p 0 (clps_of p))
    (quiet_agents to from p 0 (first_actors p 0 p.agents)
    (λ j le lt. n j (let e = agents_len p 0 p.agents in omega (arith, lt, e)))))

first_own : (p : Plan) (i : ℕ) → i < length p.agents → between (AtAgent i) (AtAgent i) (first_world p).links ≡ wake_of
    (first_actor p i (agent_at p i)).awaited
first_own p i lt =
    past_tree p 0 (clps_of p) i (agent_links p 0 (first_actors p 0 p.agents))
    ∙ (ap (λ z. between (AtAgent z) (AtAgent z) (agent_links p 0 (first_actors p 0 p.agents)))
    (let e : i ≡ 0 + i = omega arith in e)
    ∙ (own_agent p 0 (first_actors p 0 p.agents) i (let e = agents_len p 0 p.agents in omega (arith, lt, e))
    ∙ ap (λ (a : Agent). wake_of a.awaited) (actors_get p 0 p.agents i lt
    ∙ ap (λ k. first_actor p k (agent_at p i)) (omega arith))))

at_agent : (p : Plan) (k j : ℕ) → worlds.process p k ≡ AtAgent j → k ≡ clps_of p + j
at_agent p k j e = elim (lt_or k (clps_of p)) [
  | inl lt ↦ absurd (let g : AtClp k ≡ AtAgent j = sym (process_clp p k lt) ∙ e in cc)
  | inr ge ↦ (let at : clps_of p + (k - clps_of p) ≡ k = omega (arith, ge) in
      let g : k - clps_of p ≡ j = same (sym (process_agent p (k - clps_of p)) ∙ (ap (worlds.process p) at ∙ e)) in
      omega (arith, g, at))
]
  where
    same : AtAgent (k - clps_of p) ≡ AtAgent j → k - clps_of p ≡ j
    same g = cc

-- ---- cells by number

helds_many : (p : Plan) (i : ℕ) (xs : List Held_process) (inns : List (List Inn)) (outs : List (List Out))
    → length (first_helds p i xs inns outs) ≡ length xs
helds_many p i [] inns outs = refl
helds_many p i (x ∷ xs) inns outs = ap suc (helds_many p (suc i) xs inns outs)

helds_nth : (p : Plan) (i : ℕ) (xs : List Held_process) (inns : List (List Inn)) (outs : List (List Out)) (j : ℕ)
    (d : Held_process) → j < length xs
    → nth (first_helds p i xs inns outs) j ≡ Some (first_held p (i + j) (get_or xs j d) (get_or inns (i + j) [])
    (get_or outs (i + j) []))
helds_nth p i [] inns outs j d lt = absurd (omega arith)
helds_nth p i (x ∷ xs) inns outs zero d lt = ap (λ k. Some (first_held p k x (get_or inns k []) (get_or outs k [])))
    (omega arith)
helds_nth p i (x ∷ xs) inns outs (suc j) d lt =
    helds_nth p (suc i) xs inns outs j d (omega arith)
    ∙ ap (λ k. Some (first_held p k (get_or xs j d) (get_or inns k []) (get_or outs k []))) (omega arith)

view_nth : (hs : List Held) (k : ℕ) (h : Held) → nth hs k ≡ Some h → view_at nobody (views hs) k ≡ view_of h
view_nth [] k h e = absurd (cc)
view_nth (x ∷ hs) zero h e = ap view_of (some_same x h e)
view_nth (x ∷ hs) (suc k) h e = view_nth hs k h e

outs_nth : (hs : List Held) (k : ℕ) (h : Held) → nth hs k ≡ Some h → outs_of hs k ≡ h.outs
outs_nth [] k h e = absurd (cc)
outs_nth (x ∷ hs) zero h e = ap (λ (z : Held). z.outs) (some_same x h e)
outs_nth (x ∷ hs) (suc k) h e = outs_nth hs k h e

inns_nth : (hs : List Held) (k : ℕ) (h : Held) → nth hs k ≡ Some h → inns_of hs k ≡ h.inns
inns_nth [] k h e = absurd (cc)
inns_nth (x ∷ hs) zero h e = ap (λ (z : Held). z.inns) (some_same x h e)
inns_nth (x ∷ hs) (suc k) h e = inns_nth hs k h e

first_numbers : (p : Plan) (i : ℕ) (xs : List Held_process) (inns : List (List Inn)) (outs : List (List Out))
    → NumberedFrom i (views (first_helds p i xs inns outs))
first_numbers p i [] inns outs = tt
first_numbers p i (x ∷ xs) inns outs = (refl, first_numbers p (suc i) xs inns outs)

first_sound : (p : Plan) (i : ℕ) (xs : List Held_process) (inns : List (List Inn)) (outs : List (List Out))
    → AreSound (views (first_helds p i xs inns outs))
first_sound p i [] inns outs = tt
first_sound p i (x ∷ xs) inns outs = (refl, first_sound p (suc i) xs inns outs)

first_silent : (p : Plan) (i : ℕ) (xs : List Held_process) (inns : List (List Inn)) (outs : List (List Out))
    → HeardNothing (views (first_helds p i xs inns outs))
first_silent p i [] inns outs = tt
first_silent p i (x ∷ xs) inns outs = (refl, first_silent p (suc i) xs inns outs)

first_windows : (p : Plan) (i : ℕ) (xs : List Held_process) (inns : List (List Inn)) (outs : List (List Out))
    → HaveWindow None (views (first_helds p i xs inns outs))
first_windows p i [] inns outs = tt
first_windows p i (x ∷ xs) inns outs = (refl, first_windows p (suc i) xs inns outs)

first_clocks : (p : Plan) (i : ℕ) (xs : List Held_process) (inns : List (List Inn)) (outs : List (List Out)) (k : ℕ)
    → (nows nobody (views (first_helds p i xs inns outs)) k).clock ≡ 0
first_clocks p i [] inns outs k = refl
first_clocks p i (x ∷ xs) inns outs zero = refl
first_clocks p i (x ∷ xs) inns outs (suc k) = first_clocks p (suc i) xs inns outs k

all_woken_wires : (k : ℕ) (ws : List (Option Message)) (outs : List (List Out)) (b : ℕ)
    → map out_wire (get_or (all_woken k ws outs) b []) ≡ map out_wire (get_or outs b [])
all_woken_wires k [] outs b = refl
all_woken_wires k (w ∷ ws) outs b = all_woken_wires (suc k) ws (set outs k (woken k w (get_or outs k []))) b
    ∙ elim (same_or b k) [
      | inr ne ↦ ap (map out_wire) (get_or-set_other outs k b (woken k w (get_or outs k [])) [] ne.0)
      | inl e ↦ elim (lt_or k (length outs)) [
        | inl lt ↦ ap (λ j. map out_wire (get_or (set outs k (woken k w (get_or outs k []))) j [])) e.0
            ∙ (ap (map out_wire) (get_or-set_same outs k (woken k w (get_or outs k [])) [] lt)
            ∙ (woken_wires k w (get_or outs k []) ∙ ap (λ j. map out_wire (get_or outs j [])) (sym e.0)))
        | inr ge ↦ (let long = length-set outs k (woken k w (get_or outs k [])) in let f = e.0 in
            ap (map out_wire) (get_past (set outs k (woken k w (get_or outs k []))) b [] (omega (arith, ge, long, f))
            ∙ sym (get_past outs b [] (omega (arith, ge, f)))))
      ]
    ]

in_tos : (k n : ℕ) (ls : List (ℕ × ℕ)) → In (n, k) ls → In n (tos_from k ls)
in_tos k n [] i = absurd i
in_tos k n (l ∷ ls) (inl e) =
    let f : l.1 ≡ k = ap (λ (z : ℕ × ℕ). z.1) (sym e) in
    let g : (l.1 == k) ≡ true = grind (arith, nat_tests, f) in
    subst (λ c. In n (cond c (l.0 ∷ tos_from k ls) (tos_from k ls))) (sym g) (inl (ap (λ (z : ℕ × ℕ). z.0) e))
in_tos k n (l ∷ ls) (inr i) = (let again = in_tos k n ls i in elim (cases_Bool (l.1 == k)) [
  | inl e ↦ subst (λ c. In n (cond c (l.0 ∷ tos_from k ls) (tos_from k ls))) (sym e) (inr again)
  | inr e ↦ subst (λ c. In n (cond c (l.0 ∷ tos_from k ls) (tos_from k ls))) (sym e) again
])

tos_wires : (os : List Out) → map (λ (x : OutWire). x.to) (map out_wire os) ≡ tos os
tos_wires [] = refl
tos_wires (o ∷ os) = ap (λ z. o.to ∷ z) (tos_wires os)

froms_wires : (xs : List Inn) → map (λ (x : InWire). x.from) (map in_wire xs) ≡ froms xs
froms_wires [] = refl
froms_wires (x ∷ xs) = ap (λ z. x.from ∷ z) (froms_wires xs)

-- ---- all together

module _ (p : Plan) (valid : IsValid p) (inns : List (List Inn)) (outs : List (List Out))
    (wires : AreWires (links p) (length (first_processes p)) inns outs) where
  abbrev N : ℕ
  N = clps_of p

  abbrev xs : List Held_process
  xs = first_processes p

  abbrev woken_outs : List (List Out)
  woken_outs = all_woken N (first_wakes (first_alps p 0 p.agents)) outs

  abbrev hs : List Held
  hs = first_helds p 0 xs inns woken_outs

  abbrev w : World
  w = first_world p

  many : length xs ≡ N + length p.agents
  many = processes_many p

  long : length hs ≡ length xs
  long = helds_many p 0 xs inns woken_outs

  outs_many : length woken_outs ≡ length xs
  outs_many = all_woken_long N (first_wakes (first_alps p 0 p.agents)) outs ∙ wires.senders

  abbrev one : ℕ → Held
  one k = first_held p k (get_or xs k (process.Clp (first_clp p 0))) (get_or inns k []) (get_or woken_outs k [])

  one_nth : (k : ℕ) → k < length xs → nth hs k ≡ Some (one k)
  one_nth k lt = helds_nth p 0 xs inns woken_outs k (process.Clp (first_clp p 0)) lt
      ∙ ap (λ j. Some (first_held p j (get_or xs k (process.Clp (first_clp p 0))) (get_or inns j [])
      (get_or woken_outs j []))) (omega arith)

  outs_are : (k : ℕ) → outs_of hs k ≡ get_or woken_outs k []
  outs_are k = elim (lt_or k (length xs)) [
    | inl lt ↦ outs_nth hs k (one k) (one_nth k lt)
    | inr ge ↦ outs_past hs k (omega (arith, ge, long)) ∙ sym (get_past woken_outs k [] (omega (arith, ge, outs_many)))
  ]

  inns_are : (k : ℕ) → inns_of hs k ≡ get_or inns k []
  inns_are k = elim (lt_or k (length xs)) [
    | inl lt ↦ inns_nth hs k (one k) (one_nth k lt)
    | inr ge ↦ inns_past hs k (omega (arith, ge, long))
        ∙ sym (get_past inns k [] (let e = wires.receivers in omega (arith, ge, e)))
  ]

  in_views : (k : ℕ) → k < length (views hs) → k < length xs
  in_views k lt = (let e = length-map hs view_of in omega (arith, e, lt, long))

  first_at : (k : ℕ) → k < length xs → IsFirstClp p k (get_or xs k (process.Clp (first_clp p 0))) ⊎ IsFirstAlp p k
      (get_or xs k (process.Clp (first_clp p 0)))
  first_at k lt = first_nth p k (get_or xs k (process.Clp (first_clp p 0)))
      (is_nth xs k (process.Clp (first_clp p 0)) lt)

  first_fit : AllByRecursion (λ (v : CellView). FitsPlan p v.frame) (views hs)
  first_fit = each_from nobody (λ (v : CellView). FitsPlan p v.frame) (views hs)
      (λ k lt. subst (λ (v : CellView). FitsPlan p v.frame)
      (sym (view_nth hs k (one k) (one_nth k (in_views k lt)))) (record {
        plan = refl;
        froms = froms_wires (get_or inns k []) ∙ wires.froms_are k (in_views k lt);
        tos = ap (map (λ (x : OutWire). x.to)) (all_woken_wires N (first_wakes (first_alps p 0 p.agents)) outs k)
            ∙ (tos_wires (get_or outs k []) ∙ wires.tos_are k (in_views k lt));
      }))

  first_wired : (a j : ℕ) (x : InWire) → nth (view_at nobody (views hs) a).frame.inns j ≡ Some x
      → IsWired nobody (views hs) a x
  first_wired a j x at =
      let m = was_nth in_wire (get_or inns a []) j x (ap (λ z. nth (map in_wire z) j) (sym (inns_are a))
      ∙ (ap (λ z. nth z j) (sym (frame_inns hs a)) ∙ at)) in
      let o = wires.wired a j m.was m.at in
      let frame : (view_at nobody (views hs) m.was.from).frame.outs ≡ map out_wire (get_or outs m.was.from []) =
      frame_outs hs m.was.from ∙ (ap (map out_wire) (outs_are m.was.from)
      ∙ all_woken_wires N (first_wakes (first_alps p 0 p.agents)) outs m.was.from) in
      subst (IsWired nobody (views hs) a) m.is (record {
        out = out_wire o.out;
        at = ap (λ z. nth z m.was.slot) frame ∙ over_nth out_wire (get_or outs m.was.from []) m.was.slot o.out o.at;
        to = o.to;
        link = o.link;
      })

  -- what was sent from process b to process a, and the link of the first world
  record Lane (a b : ℕ) : Type 0 where
    posts : List Post
    sent : sent_in (get_or woken_outs b []) a ≡ posts
    link : between (worlds.process p a) (worlds.process p b) w.links ≡ messages posts
    clocks : AllByRecursion (λ (x : Post). x.clock ≤ 0) posts

  -- a lane on which nothing is
  empty : (a b : ℕ) → sent_in (get_or woken_outs b []) a ≡ []
      → ((j : ℕ) → j < length p.agents → a ≡ N + j → b ≡ N + j → ⊥) → Lane a b
  empty a b e n = record {
    posts = [];
    sent = e;
    link = first_quiet p (worlds.process p a) (worlds.process p b)
        (λ j lt f g. n j lt (at_agent p a j f) (at_agent p b j g));
    clocks = tt;
  }

  woken_at : (i : ℕ) → i < length p.agents → get_or woken_outs (N + i) [] ≡ woken (N + i)
      (wake_at (first_actor p i (agent_at p i)).awaited) (get_or outs (N + i) [])
  woken_at i lt =
      let ws = first_wakes (first_alps p 0 p.agents) in
      let e = wires.senders in let l = wakes_many p 0 p.agents in
      all_woken_at N ws outs i (omega (arith, lt, l)) (omega (arith, lt, e, many))
      ∙ ap (λ o. woken (N + i) o (get_or outs (N + i) []))
      (wakes_get p 0 p.agents i lt ∙ ap (λ k. wake_at (first_actor p k (agent_at p i)).awaited) (omega arith))

  own_end : (i : ℕ) → i < length p.agents → In (N + i) (tos (get_or outs (N + i) []))
  own_end i lt =
      let there : In (AtAgent i, AtAgent i) (link_keys w.links) =
      link_there p (AtAgent i) (AtAgent i) refl (let e = agents_len p 0 p.agents in omega (arith, lt, e))
      (let e = agents_len p 0 p.agents in omega (arith, lt, e)) in
      let key : In (worlds.process p (N + i), worlds.process p (N + i)) (link_keys w.links) =
      subst (λ q. In (q, q) (link_keys w.links)) (sym (process_agent p i)) there in
      subst (In (N + i)) (sym (wires.tos_are (N + i) (omega (arith, lt, many))))
      (in_tos (N + i) (N + i) (links p) (((links_are p valid).exact (N + i) (N + i)).1 key))

  clocks_none : (o : Option Message) → AllByRecursion (λ (x : Post). x.clock ≤ 0) (wake_posts o)
  clocks_none None = tt
  clocks_none (Some m) = (omega arith, tt)

  agent_lane : (a i : ℕ) → i < length p.agents → Lane a (N + i)
  agent_lane a i lt = elim (same_or a (N + i)) [
    | inr ne ↦ empty a (N + i) (ap (λ os. sent_in os a) (woken_at i lt)
        ∙ woken_else (N + i) a (wake_at (first_actor p i (agent_at p i)).awaited) (get_or outs (N + i) [])
        (wires.fresh_outs (N + i)) ne.0)
        (λ j lj f g. ne.0 (f ∙ sym g))
    | inl e ↦ subst (λ k. Lane k (N + i)) (sym e.0) (record {
      posts = wake_posts (wake_at (first_actor p i (agent_at p i)).awaited);
      sent = ap (λ os. sent_in os (N + i)) (woken_at i lt)
          ∙ woken_own (N + i) (wake_at (first_actor p i (agent_at p i)).awaited) (get_or outs (N + i) [])
          (wires.fresh_outs (N + i)) (own_end i lt);
      link = ap (λ q. between q q w.links) (process_agent p i)
          ∙ (first_own p i lt ∙ sym (posts_are (first_actor p i (agent_at p i)).awaited));
      clocks = clocks_none (wake_at (first_actor p i (agent_at p i)).awaited);
    })
  ]

  lane : (a b : ℕ) → Lane a b
  lane a b = elim (lt_or b N) [
    | inl lt ↦ empty a b (ap (λ os. sent_in os a) (all_woken_low N (first_wakes (first_alps p 0 p.agents)) outs b lt)
        ∙ fresh_sent (get_or outs b []) a (wires.fresh_outs b))
        (λ j lj f g. omega (arith, lt, g))
    | inr ge ↦ elim (lt_or b (length xs)) [
      | inl low ↦ (let at : N + (b - N) ≡ b = omega (arith, ge) in subst (Lane a) at
          (agent_lane a (b - N) (omega (arith, ge, low, many))))
      | inr past ↦ empty a b (ap (λ os. sent_in os a) (get_past woken_outs b [] (omega (arith, past, outs_many))))
          (λ j lj f g. omega (arith, past, g, lj, many))
    ]
  ]

  clp_state : (k : ℕ) → k < N → state_at w (worlds.process p k) ≡ OfClp (clp_first p k)
  clp_state k lt = ap (state_at w) (process_clp p k lt)
      ∙ ap OfClp (clps_get p 0 N k lt ∙ ap (clp_first p) (omega arith))

  agent_state : (k : ℕ) → N ≤ k → k - N < length p.agents
      → state_at w (worlds.process p k) ≡ OfAgent (first_actor p (k - N) (agent_at p (k - N)))
  agent_state k ge lt =
      let at : k ≡ N + (k - N) = omega (arith, ge) in
      ap (state_at w) (ap (worlds.process p) at ∙ process_agent p (k - N))
      ∙ ap OfAgent (actors_get p 0 p.agents (k - N) lt ∙ ap (λ i. first_actor p i (agent_at p (k - N))) (omega arith))

  first_state : (k : ℕ) → k < length xs → (core p).state w k ≡ (nows nobody (views hs) k).state
  first_state k lt = by (first_at k lt) ∙ sym (ap (λ (v : CellView). v.now.state)
      (view_nth hs k (one k) (one_nth k lt)))
    where
      by : IsFirstClp p k (get_or xs k (process.Clp (first_clp p 0))) ⊎ IsFirstAlp p k
          (get_or xs k (process.Clp (first_clp p 0)))
          → (core p).state w k ≡ state_of (get_or xs k (process.Clp (first_clp p 0)))
      by (inl c) = clp_state k c.low ∙ sym (ap state_of c.is)
      by (inr a) = agent_state k a.high a.low ∙ sym (ap state_of a.is)

  first_made : (k : ℕ) → k < length xs → made_of (get_or xs k (process.Clp (first_clp p 0))) ≤ 0
  first_made k lt = elim (first_at k lt) [
    | inl c ↦ subst (λ x. made_of x ≤ 0) (sym c.is) (omega arith)
    | inr a ↦ subst (λ x. made_of x ≤ 0) (sym a.is) (omega arith)
  ]

  pub first_stand : StandAt p 0 w (views hs)
  first_stand = record {
    reached = (reached_on p).first;
    cells = record {
      numbers = first_numbers p 0 xs inns woken_outs;
      count = length-map hs view_of ∙ (long ∙ many);
      fit = first_fit;
      wired = first_wired;
    };
    sound = first_sound p 0 xs inns woken_outs;
    stand = record {
      states = λ k h. first_state k (let lt = low_has p w k
          (world_tells p 0 w valid (reached_on p).first).links h in omega (arith, lt, many));
      links = λ a b. (let l = lane a b in (
        l.posts,
        sent_is hs b a ∙ (ap (λ os. sent_in os a) (outs_are b) ∙ (l.sent
            ∙ ap (λ z. z ++ l.posts) (sym (received_is hs a b
            ∙ (ap (λ z. received_in z b) (inns_are a)
            ∙ fresh_received (get_or inns a []) b (wires.fresh_ins a)))))),
        l.link,
      ));
    };
    clocks = λ k. record {
      own = (let e = first_clocks p 0 xs inns woken_outs k in omega (arith, e));
      sent = λ a. (let l = lane a k in subst (AllByRecursion (λ (x : Post). x.clock ≤ 0))
          (sym (sent_is hs k a ∙ (ap (λ os. sent_in os a) (outs_are k) ∙ l.sent))) l.clocks);
    };
    counts = each_from nobody (λ (v : CellView). v.made ≤ 0) (views hs) (λ k lt. subst (λ (v : CellView). v.made ≤ 0)
        (sym (view_nth hs k (one k) (one_nth k (in_views k lt)))) (first_made k (in_views k lt)));
  }

  pub first_cells_are : AreFirst p (views hs)
  first_cells_are = record {
    stands = first_stand;
    stories = first_silent p 0 xs inns woken_outs;
    windows = first_windows p 0 xs inns woken_outs;
  }

-- ---- the ends that are made

pub links_rise : (ls : List (ℕ × ℕ)) → AreAscending ls → LinksRise ls
links_rise [] r = tt
links_rise (l ∷ ls) r = (r.0, links_rise ls r.1)

pub links_below : (p : Plan) → IsValid p → LinksBelow (length (first_processes p)) (links p)
links_below p valid = from_each (λ (l : ℕ × ℕ). (l.0 < length (first_processes p)) ×
    (l.1 < length (first_processes p))) (links p)
    (λ l i. (let h = links_low p valid l.0 l.1 i in let a = h.0 in let b = h.1 in let m = processes_many p in
    (omega (arith, a, m), omega (arith, b, m))))

pub woken_tos : (k : ℕ) (ws : List (Option Message)) (outs : List (List Out)) (b : ℕ)
    → tos (get_or (all_woken k ws outs) b []) ≡ tos (get_or outs b [])
woken_tos k ws outs b =
    sym (tos_wires (get_or (all_woken k ws outs) b []))
    ∙ (ap (map (λ (x : OutWire). x.to)) (all_woken_wires k ws outs b) ∙ tos_wires (get_or outs b []))

pub if_ok : {T E : Type 0} (r : Result T E) (P Q : T → Type 0) → ((x : T) → P x → Q x) → IfOk r P → IfOk r Q
if_ok (Ok x) P Q f h = f x h
if_ok (Err e) P Q f h = h
