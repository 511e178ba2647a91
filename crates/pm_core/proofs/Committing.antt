-- A Commit of a world that stands.
use Rattle.std.proofs.Common.{ℕ, ◌+◌, ◌≤◌, ◌≡◌, ◌∙◌, true, List, [], ◌∷◌, ◌++◌, Option, Some, None, ap, sym, subst, refl, map, length}
use Rattle.std.specs.Prelude.{slice_get, sum, sum_by}
use Rattle.std.specs.Option.{option_map}
use Rattle.std.specs.List.Sorted.{IsPermutation}
use Rattle.std.proofs.lemmas.List.{get_or-map}
use Rattle.std.proofs.lemmas.List.Sums.{sum-map}
use Rattle.std.proofs.lemmas.Option.{get_or_from_slice_get, slice_get-map}
use Rattle.pm_base.specs.declared.rows.Entry.{Entry}
use Rattle.pm_base.specs.declared.stamp.Line.{Line}
use Rattle.pm_alp.specs.Agents.{agent_committed, no_agent}
use Rattle.pm_alp.specs.declared.agent.Agent.{Agent}
use Rattle.pm_clp.specs.Clps.{clp_committed}
use Rattle.pm_clp.specs.Views.{ClpView}
use Rattle.pm_mail.specs.Links.{Link as Lane}
use Rattle.pm_model.specs.Entries.{IsInOrder, run_below}
use Rattle.pm_plan.specs.Plans.{IsValid}
use Rattle.pm_sim.specs.Looks.{agent_of}
use Rattle.pm_sim.specs.Reached.{Reached}
use Rattle.pm_sim.specs.Worlds.{World, commit, handed, in_order, may_commit}
use Rattle.pm_sim.proofs.ReachedWorlds.{all_low, reached_on, world_tells}
use Rattle.pm_trace.specs.Merges.{StandsOnce}
use Rattle.pm_alp.specs.Views.{Process as AlpView}
use Rattle.pm_core.specs.Commits.{alp_at, clp_at, handed_by}
use Rattle.pm_core.specs.Mails.{links_of}
use Rattle.pm_core.specs.Views.{IsAlpOf, IsClpOf, Stands, world_of}
use Rattle.pm_core.specs.declared.arrivals.Processes.{Processes}
use Rattle.pm_core.proofs.Delivering.{made_same, found_low}
use Rattle.pm_core.proofs.Handing.{handed_agents}
use Rattle.pm_core.proofs.Ordering.{placed_once, placed_same, rest_in_order}

clps_committed : (l : Line) (xs : List ClpView)
    → map (λ (c : ClpView). c.clp) (map (clp_at l) xs) ≡ map (clp_committed l) (map (λ (c : ClpView). c.clp) xs)
clps_committed l [] = refl
clps_committed l (x ∷ xs) = ap (λ z. clp_committed l x.clp ∷ z) (clps_committed l xs)

alps_committed : (l : Line) (xs : List AlpView)
    → map (λ (a : AlpView). a.agent) (map (alp_at l) xs) ≡ map (agent_committed l) (map (λ (a : AlpView). a.agent) xs)
alps_committed l [] = refl
alps_committed l (x ∷ xs) = ap (λ z. agent_committed l x.agent ∷ z) (alps_committed l xs)

clps_made : (l : Line) (xs : List ClpView)
    → map (λ (c : ClpView). c.made) (map (clp_at l) xs) ≡ map (λ (c : ClpView). c.made) xs
clps_made l [] = refl
clps_made l (x ∷ xs) = ap (λ z. x.made ∷ z) (clps_made l xs)

alps_made : (l : Line) (xs : List AlpView)
    → map (λ (c : AlpView). c.made) (map (alp_at l) xs) ≡ map (λ (c : AlpView). c.made) xs
alps_made l [] = refl
alps_made l (x ∷ xs) = ap (λ z. x.made ∷ z) (alps_made l xs)

made_by_clps : (l : Line) (xs : List ClpView)
    → sum_by (λ (c : ClpView). c.made) (map (clp_at l) xs) ≡ sum_by (λ (c : ClpView). c.made) xs
made_by_clps l xs =
    sym (sum-map (λ (c : ClpView). c.made) (map (clp_at l) xs))
    ∙ (ap sum (clps_made l xs) ∙ sum-map (λ (c : ClpView). c.made) xs)

made_by_alps : (l : Line) (xs : List AlpView)
    → sum_by (λ (c : AlpView). c.made) (map (alp_at l) xs) ≡ sum_by (λ (c : AlpView). c.made) xs
made_by_alps l xs =
    sym (sum-map (λ (c : AlpView). c.made) (map (alp_at l) xs))
    ∙ (ap sum (alps_made l xs) ∙ sum-map (λ (c : AlpView). c.made) xs)

-- what was found in a list that was gone over
record FoundMap {X : Type 0} (f : X → X) (xs : List X) (i : ℕ) (y : X) : Type 0 where
  was : X
  at : slice_get xs i ≡ Some was
  is : y ≡ f was

some_same : {X : Type 0} (a b : X) → Some a ≡ Some b → a ≡ b
some_same a b h = cc

found_by : {X : Type 0} (f : X → X) (xs : List X) (i : ℕ) (y : X) (o : Option X) → slice_get xs i ≡ o
    → option_map f o ≡ Some y → FoundMap f xs i y
found_by f xs i y None g h = absurd (cc)
found_by f xs i y (Some x) g h = record { was = x; at = g; is = sym (some_same (f x) y h) }

found_map : {X : Type 0} (f : X → X) (xs : List X) (i : ℕ) (y : X) → slice_get (map f xs) i ≡ Some y → FoundMap f xs i y
found_map f xs i y e = found_by f xs i y (slice_get xs i) refl (sym (slice_get-map f xs i) ∙ e)

module _ (s s' : Processes) (mail : List Lane) (l k : Line) (n : ℕ) (valid : IsValid s.plan.now)
    (same : s'.plan.now ≡ s.plan.now) (clps : s'.clps.items ≡ map (clp_at k) s.clps.items)
    (alps : s'.alps.items ≡ map (alp_at k) s.alps.items) where
  abbrev w : World
  w = world_of s mail l

  pub commit_world : world_of s' mail k ≡ commit w k
  commit_world = made_same (map (λ (c : ClpView). c.clp) s'.clps.items) (map (clp_committed k) w.clps)
      (map (λ (a : AlpView). a.agent) s'.alps.items) (map (agent_committed k) w.agents)
      (links_of s'.plan.now mail) w.links k
      (ap (map (λ (c : ClpView). c.clp)) clps ∙ clps_committed k s.clps.items)
      (ap (map (λ (a : AlpView). a.agent)) alps ∙ alps_committed k s.alps.items)
      (ap (λ z. links_of z mail) same)

  pub commit_stands : Stands s w n → may_commit w k ≡ true → Stands s' (world_of s' mail k) n
  commit_stands h may = record {
    clps = λ c v e. (let f = found_map (clp_at k) s.clps.items c v (subst (λ z. slice_get z c ≡ Some v) clps e) in
        let i = h.clps c f.was f.at in
        subst (λ q. IsClpOf q c v) (sym same) (subst (IsClpOf s.plan.now c) (sym f.is)
        (record { hub = i.hub; well = i.well })));
    alps = λ i v e. (let f = found_map (alp_at k) s.alps.items i v (subst (λ z. slice_get z i ≡ Some v) alps e) in
        let a = h.alps i f.was f.at in
        subst (λ q. IsAlpOf q i v) (sym same) (subst (IsAlpOf s.plan.now i) (sym f.is)
        (record { fixed = a.fixed; well = a.well })));
    counts =
        ap (λ z. sum_by (λ (c : ClpView). c.made) z + sum_by (λ (a : AlpView). a.made) s'.alps.items) clps
        ∙ (ap (λ z. sum_by (λ (c : ClpView). c.made) (map (clp_at k) s.clps.items) + sum_by (λ (a : AlpView). a.made) z) alps
        ∙ (ap (λ z. z + sum_by (λ (a : AlpView). a.made) (map (alp_at k) s.alps.items)) (made_by_clps k s.clps.items)
        ∙ (ap (λ z. sum_by (λ (c : ClpView). c.made) s.clps.items + z) (made_by_alps k s.alps.items) ∙ h.counts)));
    few = h.few;
    reached = subst (λ q. Reached q n (world_of s' mail k)) (sym same) (subst (Reached s.plan.now n) (sym commit_world)
        ((reached_on s.plan.now).committed n w k h.reached may));
  }

-- what it hands out
module _ (s : Processes) (mail : List Lane) (l k : Line) (n : ℕ) (valid : IsValid s.plan.now)
    (h : Stands s (world_of s mail l) n) where
  handed_is : handed (world_of s mail l) k ≡ in_order (handed_by k s.alps.items)
  handed_is = ap in_order (sym (handed_agents k s.alps.items))

  pub sequential : may_commit (world_of s mail l) k ≡ true
      → run_below s.plan.now k ≡ run_below s.plan.now l ++ handed (world_of s mail l) k
  sequential may = (world_tells s.plan.now n (world_of s mail l) valid h.reached).handed k may

  handed_in_order : may_commit (world_of s mail l) k ≡ true → IsInOrder (in_order (handed_by k s.alps.items))
  handed_in_order may = subst IsInOrder handed_is
      (rest_in_order s.plan.now k (run_below s.plan.now l) (handed (world_of s mail l) k) valid (sequential may))

  pub handed_once : may_commit (world_of s mail l) k ≡ true → StandsOnce (handed_by k s.alps.items)
  handed_once may = placed_once (handed_by k s.alps.items) (handed_in_order may)

  pub handed_same : (es : List Entry) → may_commit (world_of s mail l) k ≡ true
      → IsPermutation (handed_by k s.alps.items) es → IsInOrder es → es ≡ handed (world_of s mail l) k
  handed_same es may p o = placed_same (handed_by k s.alps.items) es (handed_in_order may) p o ∙ sym handed_is

  pub steps_few : (i : ℕ) (v : AlpView) → slice_get s.alps.items i ≡ Some v → length v.agent.steps ≤ 20000000
  steps_few i v e =
      let a = (all_low s.plan.now n (world_of s mail l) valid h.reached h.few).steps i in
      let lt = found_low s.alps.items i v e in
      let f : agent_of (world_of s mail l) i ≡ v.agent =
      get_or-map (λ (x : AlpView). x.agent) s.alps.items i v no_agent lt
      ∙ ap (λ (x : AlpView). x.agent) (get_or_from_slice_get s.alps.items i v v e) in
      subst (λ (z : Agent). length z.steps ≤ 20000000) f a
