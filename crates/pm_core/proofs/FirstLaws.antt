-- The first processes and messages of a plan are those of its first world.
use Rattle.std.proofs.Common.{ℕ, zero, suc, ◌+◌, ◌-◌, ◌<◌, ◌≤◌, ◌≡◌, ◌==◌, ◌||◌, ◌⊎◌, ◌∙◌, Bool, true, false, List, [], ◌∷◌, ◌++◌, Option, Some, None, ap, sym, subst, refl, inl, inr, arith, map, length, get_or, append_assoc, append-nil}
use Rattle.std.specs.Prelude.{slice_get, sum_by}
use Rattle.std.specs.List.{AllByRecursion}
use Rattle.std.proofs.lemmas.Bool.{cases_Bool}
use Rattle.std.proofs.lemmas.Bool.Decides.{nat_tests}
use Rattle.std.proofs.lemmas.List.{get_or-map, map-append}
use Rattle.std.proofs.lemmas.List.Sums.{sum_by-cons}
use Rattle.pm_alp.specs.Agents.{wake_of}
use Rattle.pm_alp.specs.Views.{Process as AlpView}
use Rattle.pm_alp.specs.declared.agent.Awaited.{Awaited}
use Rattle.pm_clp.specs.Views.{ClpView}
use Rattle.pm_message.specs.declared.Message.{Message}
use Rattle.pm_mail.specs.Links.{empty_link, has_link, is_link, opened, posted}
use Rattle.pm_mail.specs.Links.{Link as Lane}
use Rattle.pm_plan.specs.Plans.{IsValid, parents}
use Rattle.pm_plan.specs.declared.plan.AgentRow.{AgentRow}
use Rattle.pm_plan.specs.declared.plan.Plan.{Plan}
use Rattle.pm_plan.proofs.Valid.{valid_agent}
use Rattle.pm_sim.specs.Reached.{Reached}
use Rattle.pm_sim.specs.Sims.{In}
use Rattle.pm_sim.specs.Worlds.{Link, Process, agent_links, clps_of, edges, first_actor, first_actors, first_world, home, no_row, ports, process, tree_links, zero_line}
use Rattle.pm_sim.specs.Worlds as sim
use Rattle.pm_sim.specs.Worlds.Process.{AtAgent, AtClp}
use Rattle.pm_sim.proofs.Places.{process_agent, process_clp}
use Rattle.pm_sim.proofs.ReachedWorlds.{reached_on}
use Rattle.pm_core.specs.Firsts.{first_alp, first_alps, first_clp, first_clps}
use Rattle.pm_core.specs.Mails.{first_mail, link_of, links_of, opened_agent, opened_agents, opened_all, opened_tree, wake_at, woken}
use Rattle.pm_core.specs.Views.{IsClpOf, IsWorld, first_view, world_of}
use Rattle.pm_core.specs.declared.arrivals.Processes.{Processes}
use Rattle.pm_core.proofs.Delivering.{made_same, view}
use Rattle.pm_core.proofs.LinkLaws.{Rises, edges_in, edges_rise}

-- ---- steps of loops

pub tree_step : (p : Plan) (c n : ℕ) (ls : List Lane) → c < n
    → opened_tree p (c + 1) (n - (c + 1)) (opened_all c (ports p c) ls) ≡ opened_tree p c (n - c) ls
tree_step p c n ls lt =
    let e : n - c ≡ suc (n - (c + 1)) = omega arith in
    let f : c + 1 ≡ suc c = omega arith in
    ap (λ k. opened_tree p k (n - (c + 1)) (opened_all c (ports p c) ls)) f ∙ ap (λ k. opened_tree p c k ls) (sym e)

pub clps_step : (p : Plan) (c n : ℕ) (xs : List ClpView) → c < n
    → (xs ++ first_clp p c ∷ []) ++ first_clps p (c + 1) (n - (c + 1)) ≡ xs ++ first_clps p c (n - c)
clps_step p c n xs lt =
    let e : n - c ≡ suc (n - (c + 1)) = omega arith in
    let f : c + 1 ≡ suc c = omega arith in
    append_assoc xs (first_clp p c ∷ []) (first_clps p (c + 1) (n - (c + 1)))
    ∙ ap (λ z. xs ++ z) (ap (λ k. first_clp p c ∷ first_clps p k (n - (c + 1))) f ∙ ap (first_clps p c) (sym e))

-- ---- links that aren't there yet are opened behind the others

or_more : (a b c d : Bool) → b ≡ (c || d) → (a || b) ≡ ((a || c) || d)
or_more true b c d e = refl
or_more false b c d e = e

has_both : (t f : ℕ) (xs ys : List Lane) → has_link t f (xs ++ ys) ≡ (has_link t f xs || has_link t f ys)
has_both t f [] ys = refl
has_both t f (x ∷ xs) ys = or_more (is_link t f x) (has_link t f (xs ++ ys)) (has_link t f xs) (has_link t f ys)
    (has_both t f xs ys)

neither : (t f : ℕ) (xs ys : List Lane) → has_link t f xs ≡ false → has_link t f ys ≡ false
    → has_link t f (xs ++ ys) ≡ false
neither t f xs ys a b = has_both t f xs ys ∙ rw (a, b) refl

opened_new : (t f : ℕ) (ls : List Lane) → has_link t f ls ≡ false → opened t f ls ≡ ls ++ empty_link t f ∷ []
opened_new t f ls e = rw e refl

other_link : (t f : ℕ) (l : Lane) → ((l.to ≡ t) × (l.from ≡ f) → ⊥) → is_link t f l ≡ false
other_link t f l ne = elim (cases_Bool (is_link t f l)) [
  | inl e ↦ absurd (ne (grind (arith, nat_tests, e), grind (arith, nat_tests, e)))
  | inr e ↦ e
]

one_other : (t f : ℕ) (l : Lane) → ((l.to ≡ t) × (l.from ≡ f) → ⊥) → has_link t f (l ∷ []) ≡ false
one_other t f l ne = let e = other_link t f l ne in rw e refl

-- the links to a process from these
abbrev lanes_from : ℕ → List ℕ → List Lane
lanes_from to ds = map (empty_link to) ds

rises_below : (d : ℕ) (ds : List ℕ) (e : ℕ) → AllByRecursion (λ y. d < y) ds → In e ds → d < e
rises_below d [] e a i = absurd i
rises_below d (x ∷ ds) e a (inl g) = subst (λ z. d < z) (sym g) a.0
rises_below d (x ∷ ds) e a (inr i) = rises_below d ds e a.1 i

opened_each : (t : ℕ) (ds : List ℕ) (ls : List Lane) → Rises ds → ((d : ℕ) → In d ds → has_link t d ls ≡ false)
    → opened_all t ds ls ≡ ls ++ lanes_from t ds
opened_each t [] ls r h = sym (append-nil ls)
opened_each t (d ∷ ds) ls r h =
    ap (opened_all t ds) (opened_new t d ls (h d (inl refl)))
    ∙ (opened_each t ds (ls ++ empty_link t d ∷ []) r.1 (λ e i. neither t e ls (empty_link t d ∷ []) (h e (inr i))
    (one_other t e (empty_link t d) (λ q. (let lt = rises_below d ds e r.0 i in let s = q.1 in omega arith))))
    ∙ append_assoc ls (empty_link t d ∷ []) (lanes_from t ds))

-- ---- the tree

abbrev tree_lanes : Plan → ℕ → ℕ → List Lane
tree_lanes p c zero = []
tree_lanes p c (suc n) = lanes_from c (ports p c) ++ tree_lanes p (suc c) n

from_none : (c t f : ℕ) (ds : List ℕ) → (c ≡ t → ⊥) → has_link t f (lanes_from c ds) ≡ false
from_none c t f [] ne = refl
from_none c t f (d ∷ ds) ne =
    let a = other_link t f (empty_link c d) (λ q. ne q.0) in let b = from_none c t f ds ne in rw (a, b) refl

tree_opened : (p : Plan) (c n : ℕ) (ls : List Lane) → ((t f : ℕ) → c ≤ t → has_link t f ls ≡ false)
    → opened_tree p c n ls ≡ ls ++ tree_lanes p c n
tree_opened p c zero ls h = sym (append-nil ls)
tree_opened p c (suc n) ls h =
    ap (opened_tree p (suc c) n) (opened_each c (ports p c) ls (edges_rise (parents p.clps) c 0 (clps_of p))
    (λ d i. h c d (omega arith)))
    ∙ (tree_opened p (suc c) n (ls ++ lanes_from c (ports p c)) (λ t f le. neither t f ls (lanes_from c (ports p c))
    (h t f (omega arith)) (from_none c t f (ports p c) (λ e. omega arith)))
    ∙ append_assoc ls (lanes_from c (ports p c)) (tree_lanes p (suc c) n))

-- a number past all communication processes has no link there
lanes_high : (c t f N : ℕ) (ds : List ℕ) → c < N → ((d : ℕ) → In d ds → d < N) → (N ≤ t) ⊎ (N ≤ f)
    → has_link t f (lanes_from c ds) ≡ false
lanes_high c t f N [] lc low h = refl
lanes_high c t f N (d ∷ ds) lc low h =
    let ne : (c ≡ t) × (d ≡ f) → ⊥ = λ q. (let x = q.0 in let y = q.1 in let g = low d (inl refl) in
    elim h [ inl le ↦ omega arith | inr le ↦ omega arith ]) in
    let a = other_link t f (empty_link c d) ne in
    let b = lanes_high c t f N ds lc (λ x i. low x (inr i)) h in rw (a, b) refl

port_low : (p : Plan) (c d : ℕ) → In d (ports p c) → d < clps_of p
port_low p c d i = (let h = (edges_in (parents p.clps) c 0 (clps_of p) d i).1 in omega arith)

tree_none : (p : Plan) (c n t f : ℕ) → c + n ≤ clps_of p → (clps_of p ≤ t) ⊎ (clps_of p ≤ f)
    → has_link t f (tree_lanes p c n) ≡ false
tree_none p c zero t f le h = refl
tree_none p c (suc n) t f le h = neither t f (lanes_from c (ports p c)) (tree_lanes p (suc c) n)
    (lanes_high c t f (clps_of p) (ports p c) (omega arith) (port_low p c) h) (tree_none p (suc c) n t f (omega arith) h)

-- ---- the agents

abbrev own_lane : ℕ → List Message → Lane
own_lane k ms = record { to = k; from = k; messages = ms }

abbrev lanes_of : ℕ → ℕ → List Message → List Lane
lanes_of k h ms = empty_link h k ∷ (empty_link k h ∷ (own_lane k ms ∷ []))

abbrev wake_list : Option Message → List Message
wake_list None = []
wake_list (Some m) = m ∷ []

wakes_same : (o : Option Awaited) → wake_list (wake_at o) ≡ wake_of o
wakes_same None = refl
wakes_same (Some w) = refl

or_left : (a b : Bool) → (a || b) ≡ false → a ≡ false
or_left true b e = absurd (cc)
or_left false b e = refl

or_right : (a b : Bool) → (a || b) ≡ false → b ≡ false
or_right true b e = absurd (cc)
or_right false b e = e

posted_last : (k : ℕ) (m : Message) (xs : List Lane) → has_link k k xs ≡ false
    → posted k k m (xs ++ empty_link k k ∷ []) ≡ xs ++ own_lane k (m ∷ []) ∷ []
posted_last k m [] e = (let g : (k == k) ≡ true = grind (arith, nat_tests) in rw g refl)
posted_last k m (x ∷ xs) e =
    let a = or_left (is_link k k x) (has_link k k xs) e in
    let again = posted_last k m xs (or_right (is_link k k x) (has_link k k xs) e) in
    rw a (ap (λ z. x ∷ z) again)

wake_posted : (k : ℕ) (w : Option Message) (xs : List Lane) → has_link k k xs ≡ false
    → woken k w (xs ++ empty_link k k ∷ []) ≡ xs ++ own_lane k (wake_list w) ∷ []
wake_posted k None xs e = refl
wake_posted k (Some m) xs e = posted_last k m xs e

agent_opened : (k h : ℕ) (w : Option Message) (ls : List Lane) → h < k → ((x : ℕ) → has_link k x ls ≡ false)
    → ((x : ℕ) → has_link x k ls ≡ false) → opened_agent k h w ls ≡ ls ++ lanes_of k h (wake_list w)
agent_opened k h w ls lt to from =
    let one = ls ++ empty_link h k ∷ [] in
    let two = one ++ empty_link k h ∷ [] in
    let a : has_link k h one ≡ false =
    neither k h ls (empty_link h k ∷ []) (to h) (one_other k h (empty_link h k) (λ q. (let x = q.0 in omega arith))) in
    let b : has_link k k one ≡ false =
    neither k k ls (empty_link h k ∷ []) (to k) (one_other k k (empty_link h k) (λ q. (let x = q.0 in omega arith))) in
    let c : has_link k k two ≡ false =
    neither k k one (empty_link k h ∷ []) b (one_other k k (empty_link k h) (λ q. (let x = q.1 in omega arith))) in
    ap (λ z. woken k w (opened k k (opened k h z))) (opened_new h k ls (from h))
    ∙ (ap (λ z. woken k w (opened k k z)) (opened_new k h one a)
    ∙ (ap (woken k w) (opened_new k k two c)
    ∙ (wake_posted k w two c
    ∙ (append_assoc one (empty_link k h ∷ []) (own_lane k (wake_list w) ∷ [])
    ∙ append_assoc ls (empty_link h k ∷ []) (empty_link k h ∷ (own_lane k (wake_list w) ∷ []))))))

abbrev agent_lanes : Plan → ℕ → List AgentRow → List Lane
agent_lanes p i [] = []
agent_lanes p i (a ∷ more) =
    lanes_of (clps_of p + i) (home p i) (wake_list (wake_at (first_actor p i a).awaited)) ++ agent_lanes p (suc i) more

three_none : (k h t f : ℕ) (ms : List Message) → h < k → (k < t) ⊎ (k < f) → has_link t f (lanes_of k h ms) ≡ false
three_none k h t f ms lt far =
    let a = other_link t f (empty_link h k) (λ q. (let x = q.0 in let y = q.1 in
    elim far [ inl g ↦ omega arith | inr g ↦ omega arith ])) in
    let b = other_link t f (empty_link k h) (λ q. (let x = q.0 in let y = q.1 in
    elim far [ inl g ↦ omega arith | inr g ↦ omega arith ])) in
    let c = other_link t f (own_lane k ms) (λ q. (let x = q.0 in let y = q.1 in
    elim far [ inl g ↦ omega arith | inr g ↦ omega arith ])) in
    rw (a, b, c) refl

agents_opened : (p : Plan) (i : ℕ) (rows : List AgentRow) (ls : List Lane)
    → ((j : ℕ) → i ≤ j → j < i + length rows → home p j < clps_of p)
    → ((k x : ℕ) → clps_of p + i ≤ k → has_link k x ls ≡ false)
    → ((k x : ℕ) → clps_of p + i ≤ k → has_link x k ls ≡ false)
    → opened_agents p i rows ls ≡ ls ++ agent_lanes p i rows
agents_opened p i [] ls low to from = sym (append-nil ls)
agents_opened p i (a ∷ rows) ls low to from =
    let k = clps_of p + i in
    let h = home p i in
    let lt : h < k = (let x = low i (omega arith) (omega arith) in omega arith) in
    let ms = wake_list (wake_at (first_actor p i a).awaited) in
    ap (opened_agents p (suc i) rows) (agent_opened k h (wake_at (first_actor p i a).awaited) ls lt
    (λ x. to k x (omega arith)) (λ x. from k x (omega arith)))
    ∙ (agents_opened p (suc i) rows (ls ++ lanes_of k h ms) (λ j le lj. low j (omega arith) (omega arith))
    (λ j x le. neither j x ls (lanes_of k h ms) (to j x (omega arith)) (three_none k h j x ms lt (inl (omega arith))))
    (λ j x le. neither x j ls (lanes_of k h ms) (from j x (omega arith)) (three_none k h x j ms lt (inr (omega arith))))
    ∙ append_assoc ls (lanes_of k h ms) (agent_lanes p (suc i) rows))

-- ---- the same links, between processes

abbrev link : Process → Process → List Message → Link
link t f ms = record { to = t; from = f; messages = ms }

link_same : (p : Plan) (t f : ℕ) (ms : List Message) (a b : Process) → process p t ≡ a → process p f ≡ b
    → link_of p (record { to = t; from = f; messages = ms }) ≡ link a b ms
link_same p t f ms a b x y = ap (λ z. link z (process p f) ms) x ∙ ap (λ z. link a z ms) y

from_same : (p : Plan) (c : ℕ) (ds : List ℕ) → c < clps_of p → ((d : ℕ) → In d ds → d < clps_of p)
    → links_of p (lanes_from c ds) ≡ map (λ d. record { to = AtClp c; from = AtClp d; messages = [] }) ds
from_same p c [] lc low = refl
from_same p c (d ∷ ds) lc low =
    ap (λ z. z ∷ links_of p (lanes_from c ds))
    (link_same p c d [] (AtClp c) (AtClp d) (process_clp p c lc) (process_clp p d (low d (inl refl))))
    ∙ ap (λ z. link (AtClp c) (AtClp d) [] ∷ z) (from_same p c ds lc (λ x i. low x (inr i)))

tree_same : (p : Plan) (c n : ℕ) → c + n ≤ clps_of p → links_of p (tree_lanes p c n) ≡ tree_links p c n
tree_same p c zero le = refl
tree_same p c (suc n) le =
    map-append (link_of p) (lanes_from c (ports p c)) (tree_lanes p (suc c) n)
    ∙ (ap (λ z. z ++ links_of p (tree_lanes p (suc c) n)) (from_same p c (ports p c) (omega arith) (port_low p c))
    ∙ ap (λ z. map (λ d. record { to = AtClp c; from = AtClp d; messages = [] }) (ports p c) ++ z)
    (tree_same p (suc c) n (omega arith)))

agents_same : (p : Plan) (i : ℕ) (rows : List AgentRow)
    → ((j : ℕ) → i ≤ j → j < i + length rows → home p j < clps_of p)
    → links_of p (agent_lanes p i rows) ≡ agent_links p i (first_actors p i rows)
agents_same p i [] low = refl
agents_same p i (a ∷ rows) low =
    let k = clps_of p + i in
    let h = home p i in
    let H = process_clp p h (low i (omega arith) (omega arith)) in
    let K = process_agent p i in
    let o = (first_actor p i a).awaited in
    let ms = wake_list (wake_at o) in
    let rest = links_of p (agent_lanes p (suc i) rows) in
    let end = agent_links p (suc i) (first_actors p (suc i) rows) in
    let A = link (AtClp h) (AtAgent i) [] in
    let B = link (AtAgent i) (AtClp h) [] in
    ap (λ z. z ∷ (link_of p (empty_link k h) ∷ (link_of p (own_lane k ms) ∷ rest)))
    (link_same p h k [] (AtClp h) (AtAgent i) H K)
    ∙ (ap (λ z. A ∷ (z ∷ (link_of p (own_lane k ms) ∷ rest))) (link_same p k h [] (AtAgent i) (AtClp h) K H)
    ∙ (ap (λ z. A ∷ (B ∷ (z ∷ rest))) (link_same p k k ms (AtAgent i) (AtAgent i) K K)
    ∙ (ap (λ z. A ∷ (B ∷ (link (AtAgent i) (AtAgent i) z ∷ rest))) (wakes_same o)
    ∙ ap (λ z. A ∷ (B ∷ (link (AtAgent i) (AtAgent i) (wake_of o) ∷ z)))
    (agents_same p (suc i) rows (λ j le lj. low j (omega arith) (omega arith))))))

-- ---- the first world

home_low : (p : Plan) → IsValid p → (a : ℕ) → a < length p.agents → home p a < clps_of p
home_low p valid a lt =
    let e : get_or (map (λ (r : AgentRow). r.home) p.agents) a 0 ≡ home p a =
    get_or-map (λ (r : AgentRow). r.home) p.agents a no_row 0 lt in
    subst (λ z. z < clps_of p) e (valid_agent p valid a lt)

pub mail_same : (p : Plan) → IsValid p → links_of p (first_mail p) ≡ (first_world p).links
mail_same p valid =
    let N = clps_of p in
    let tree = tree_lanes p 0 N in
    let low : (j : ℕ) → 0 ≤ j → j < 0 + length p.agents → home p j < N =
    λ j le lj. home_low p valid j (omega arith) in
    let opened : opened_tree p 0 N [] ≡ tree = tree_opened p 0 N [] (λ t f le. refl) in
    let all : first_mail p ≡ tree ++ agent_lanes p 0 p.agents =
    ap (opened_agents p 0 p.agents) opened
    ∙ agents_opened p 0 p.agents tree low (λ k x le. tree_none p 0 N k x (omega arith) (inl (omega arith)))
    (λ k x le. tree_none p 0 N x k (omega arith) (inr (omega arith))) in
    ap (links_of p) all
    ∙ (map-append (link_of p) tree (agent_lanes p 0 p.agents)
    ∙ (ap (λ z. z ++ links_of p (agent_lanes p 0 p.agents)) (tree_same p 0 N (omega arith))
    ∙ ap (λ z. tree_links p 0 N ++ z) (agents_same p 0 p.agents low)))

clps_same : (p : Plan) (c n : ℕ) → map (λ (v : ClpView). v.clp) (first_clps p c n) ≡ sim.first_clps p c n
clps_same p c zero = refl
clps_same p c (suc n) = ap (λ z. sim.clp_first p c ∷ z) (clps_same p (suc c) n)

alps_same : (p : Plan) (i : ℕ) (rows : List AgentRow)
    → map (λ (v : AlpView). v.agent) (first_alps p i rows) ≡ first_actors p i rows
alps_same p i [] = refl
alps_same p i (a ∷ rows) = ap (λ z. first_actor p i a ∷ z) (alps_same p (suc i) rows)

clp_found : (p : Plan) (a n c : ℕ) (v : ClpView) → slice_get (first_clps p a n) c ≡ Some v → v ≡ first_clp p (a + c)
clp_found p a zero c v e = absurd (cc)
clp_found p a (suc n) zero v e =
    let g : first_clp p a ≡ v = cc in sym g ∙ ap (first_clp p) (omega arith)
clp_found p a (suc n) (suc c) v e = clp_found p (suc a) n c v e ∙ ap (first_clp p) (omega arith)

alp_found : (p : Plan) (i : ℕ) (rows : List AgentRow) (j : ℕ) (v : AlpView) → slice_get (first_alps p i rows) j ≡ Some v
    → (a : AgentRow) → slice_get rows j ≡ Some a → v ≡ first_alp p (i + j) a
alp_found p i [] j v e a f = absurd (cc)
alp_found p i (x ∷ rows) zero v e a f =
    let g : first_alp p i x ≡ v = cc in
    let h : x ≡ a = cc in
    sym g ∙ (ap (first_alp p i) h ∙ ap (λ k. first_alp p k a) (omega arith))
alp_found p i (x ∷ rows) (suc j) v e a f =
    alp_found p (suc i) rows j v e a f ∙ ap (λ k. first_alp p k a) (omega arith)

alp_well : (p : Plan) (i : ℕ) (rows : List AgentRow) (j : ℕ) (v : AlpView) → slice_get (first_alps p i rows) j ≡ Some v
    → v.spoilt ≡ false
alp_well p i [] j v e = absurd (cc)
alp_well p i (x ∷ rows) zero v e = (let g : first_alp p i x ≡ v = cc in ap (λ (z : AlpView). z.spoilt) (sym g))
alp_well p i (x ∷ rows) (suc j) v e = alp_well p (suc i) rows j v e

clps_none : (p : Plan) (c n : ℕ) → sum_by (λ (v : ClpView). v.made) (first_clps p c n) ≡ 0
clps_none p c zero = refl
clps_none p c (suc n) =
    let a = sum_by-cons (λ (v : ClpView). v.made) (first_clp p c) (first_clps p (suc c) n) in
    let b = clps_none p (suc c) n in let m : (first_clp p c).made ≡ 0 = refl in omega arith

alps_none : (p : Plan) (i : ℕ) (rows : List AgentRow) → sum_by (λ (v : AlpView). v.made) (first_alps p i rows) ≡ 0
alps_none p i [] = refl
alps_none p i (a ∷ rows) =
    let e = sum_by-cons (λ (v : AlpView). v.made) (first_alp p i a) (first_alps p (suc i) rows) in
    let b = alps_none p (suc i) rows in let m : (first_alp p i a).made ≡ 0 = refl in omega arith

module _ (s : Processes) (mail : List Lane) (valid : IsValid s.plan.now)
    (clps : s.clps.items ≡ first_clps s.plan.now 0 (clps_of s.plan.now))
    (alps : s.alps.items ≡ first_alps s.plan.now 0 s.plan.now.agents)
    (first : mail ≡ first_mail s.plan.now) where
  abbrev p : Plan
  p = s.plan.now

  pub world_first : world_of s mail zero_line ≡ first_world p
  world_first = made_same (map (λ (v : ClpView). v.clp) s.clps.items) (first_world p).clps
      (map (λ (v : AlpView). v.agent) s.alps.items) (first_world p).agents (links_of p mail) (first_world p).links zero_line
      (ap (map (λ (v : ClpView). v.clp)) clps ∙ clps_same p 0 (clps_of p))
      (ap (map (λ (v : AlpView). v.agent)) alps ∙ alps_same p 0 p.agents)
      (ap (links_of p) first ∙ mail_same p valid)

  pub is_first : IsWorld s (world_of s mail zero_line) 0 false
  is_first = record {
    valid = valid;
    stands = λ b. record {
      clps = λ c v e. (let g : v ≡ first_clp p c = clp_found p 0 (clps_of p) c v (subst (λ z. slice_get z c ≡ Some v) clps e)
          ∙ ap (first_clp p) (omega arith) in
          subst (IsClpOf p c) (sym g) (record { hub = refl; well = refl }));
      alps = λ i v e. record {
        fixed = λ a f. (let g : v ≡ first_alp p i a =
            alp_found p 0 p.agents i v (subst (λ z. slice_get z i ≡ Some v) alps e) a f
            ∙ ap (λ k. first_alp p k a) (omega arith) in ap (λ (z : AlpView). z.fixed) g);
        well = alp_well p 0 p.agents i v (subst (λ z. slice_get z i ≡ Some v) alps e);
      };
      counts = (let a = ap (sum_by (λ (v : ClpView). v.made)) clps ∙ clps_none p 0 (clps_of p) in
          let b = ap (sum_by (λ (v : AlpView). v.made)) alps ∙ alps_none p 0 p.agents in omega arith);
      few = omega arith;
      reached = subst (λ z. Reached p 0 z) (sym world_first) (reached_on p).first;
    };
  }

  pub view_first : view p (world_of s mail zero_line) 0 false ≡ first_view p
  view_first = ap (λ z. view p z 0 false) world_first
