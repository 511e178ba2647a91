-- A Commit of cells is one of the world that they stand for.
use Rattle.std.proofs.Common.{◌≡◌, ℕ, zero, suc, ◌+◌, ◌-◌, ◌<◌, ◌≤◌, true, false, List, [], ◌∷◌, ◌++◌, length, get_or, refl, arith, ap, ap₂, sym, ◌∙◌, subst}
use Rattle.std.specs.Prelude.{nat_lt}
use Rattle.std.specs.List.{AllByRecursion, flat_map}
use Rattle.std.proofs.lemmas.Bool.Decides.{nat_tests}
use Rattle.pm_alp.specs.Agents.{no_agent}
use Rattle.pm_alp.specs.declared.agent.Agent.{Agent}
use Rattle.pm_base.specs.declared.rows.Entry.{Entry}
use Rattle.pm_base.specs.declared.stamp.Line.{Line}
use Rattle.pm_plan.specs.Plans.{IsValid}
use Rattle.pm_plan.specs.declared.plan.Plan.{Plan}
use Rattle.pm_saved.specs.Steps.{hand_out}
use Rattle.pm_sim.specs.Links.{LinksAre}
use Rattle.pm_sim.specs.Worlds.{World, clps_of, handed, in_order}
use Rattle.pm_sim.proofs.ReachedWorlds.{reached_on, world_tells}
use Rattle.pm_cell.specs.Cells.{Committed}
use Rattle.pm_ends.specs.Numbers.{Pairs}
use Rattle.pm_cell.specs.Cores.{State, core}
use Rattle.pm_cell.specs.Cores.State.{OfAgent}
use Rattle.pm_cell.specs.Sides.{Side}
use Rattle.pm_cell.specs.Stands.{CellView, CellsCommit, CommitsAreTheWorlds, StandAt, handed_by, handed_of}
use Rattle.pm_cell.specs.Views.{FitsPlan, NumberedFrom, nobody, nows, view_at}
use Rattle.pm_ends.specs.declared.post.Post.{Post}
use Rattle.pm_cell.proofs.Rows.{SameFrame, cells_on, each_on, pairs_at, pairs_with}
use Rattle.pm_cell.proofs.Instances.{laws}
use Rattle.pm_cell.proofs.Runs.{has_low, low_has}

commits_of : (p : Plan) (l : Line) (vs us : List CellView) → AllByRecursion (λ (v : CellView). FitsPlan p v.frame) vs → CellsCommit l vs us → Pairs (Committed (core p) l) vs us
commits_of p l [] [] fit r = tt
commits_of p l [] (u ∷ us) fit r = absurd r
commits_of p l (v ∷ vs) [] fit r = absurd r
commits_of p l (v ∷ vs) (u ∷ us) fit r = (subst (λ (q : Plan). Committed (core q) l v u) fit.0.plan r.0, commits_of p l vs us fit.1 r.1)

-- ends and clocks stay
record SameEnds (a b : CellView) : Type 0 where
  pub sent : b.now.sent ≡ a.now.sent
  pub received : b.now.received ≡ a.now.received
  pub clock : b.now.clock ≡ a.now.clock
  pub waiting : b.waiting ≡ a.waiting

same_ends : (p : Plan) (l : Line) (vs us : List CellView) → Pairs (Committed (core p) l) vs us → (k : ℕ) → SameEnds (view_at nobody vs k) (view_at nobody us k)
same_ends p l vs us r k = pairs_at nobody (Committed (core p) l) SameEnds vs us k
    (λ a b c. record { sent = ap (λ (z : Side State). z.sent) c.now; received = ap (λ (z : Side State). z.received) c.now; clock = ap (λ (z : Side State). z.clock) c.now; waiting = c.waiting })
    (record { sent = refl; received = refl; clock = refl; waiting = refl }) r

state_then : (p : Plan) (l : Line) (i q k : ℕ) (vs us : List CellView) → NumberedFrom i vs → Pairs (Committed (core p) l) vs us → q ≡ i + k → k < length vs
    → (nows nobody us k).state ≡ (core p).commits l q (nows nobody vs k).state
state_then p l i q k [] us n r e lt = absurd (omega arith)
state_then p l i q k (v ∷ vs) [] n r e lt = absurd r
state_then p l i q zero (v ∷ vs) (u ∷ us) n r e lt =
    let own : v.frame.number ≡ q = n.0 ∙ sym (e ∙ omega arith) in
    ap (λ (z : Side State). z.state) r.0.now ∙ ap (λ (j : ℕ). (core p).commits l j v.now.state) own
state_then p l i q (suc k) (v ∷ vs) (u ∷ us) n r e lt = state_then p l (suc i) q k vs us n.1 r.1 (omega (arith, e)) (omega arith)

-- ---- what it hands out

module _ (p : Plan) (l : Line) where
  handed_agents : (vs : List CellView) (xs : List Agent) → length vs ≡ length xs
      → ((k : ℕ) → k < length xs → (view_at nobody vs k).now.state ≡ OfAgent (get_or xs k no_agent))
      → flat_map (λ (v : CellView). handed_of l v.now.state) vs ≡ flat_map (λ (a : Agent). hand_out l a.steps) xs
  handed_agents [] [] e f = refl
  handed_agents [] (a ∷ xs) e f = absurd (omega (arith, e))
  handed_agents (v ∷ vs) [] e f = absurd (omega (arith, e))
  handed_agents (v ∷ vs) (a ∷ xs) e f = ap₂ (λ (x y : List Entry). x ++ y) (ap (handed_of l) (f 0 (omega arith)))
      (handed_agents vs xs (omega (arith, e)) (λ k lt. f (suc k) (omega (arith, lt))))

  handed_all : (n : ℕ) (vs : List CellView) (xs : List Agent) → length vs ≡ n + length xs
      → ((k : ℕ) → k < n → handed_of l (view_at nobody vs k).now.state ≡ [])
      → ((k : ℕ) → k < length xs → (view_at nobody vs (n + k)).now.state ≡ OfAgent (get_or xs k no_agent))
      → flat_map (λ (v : CellView). handed_of l v.now.state) vs ≡ flat_map (λ (a : Agent). hand_out l a.steps) xs
  handed_all zero vs xs long none f = handed_agents vs xs (omega (arith, long)) (λ k lt. subst (λ (j : ℕ). (view_at nobody vs j).now.state ≡ OfAgent (get_or xs k no_agent)) {x = 0 + k} {y = k} (omega arith) (f k lt))
  handed_all (suc n) [] xs long none f = absurd (omega (arith, long))
  handed_all (suc n) (v ∷ vs) xs long none f =
      ap (λ (es : List Entry). es ++ flat_map (λ (v : CellView). handed_of l v.now.state) vs) (none 0 (omega arith))
      ∙ handed_all n vs xs (omega (arith, long)) (λ k lt. none (suc k) (omega (arith, lt)))
      (λ k lt. subst (λ (j : ℕ). (view_at nobody (v ∷ vs) j).now.state ≡ OfAgent (get_or xs k no_agent)) {x = suc n + k} {y = suc (n + k)} (omega arith) (f k lt))

-- what the cells hand out is what the world does
pub cells_hand : (p : Plan) (n : ℕ) (w : World) (l : Line) (vs : List CellView) → IsValid p → StandAt p n w vs → handed_by l vs ≡ handed w l
cells_hand p n w l vs valid at =
    let links = (world_tells p n w valid at.reached).links in
    let a : length w.agents ≡ length p.agents = links.agents in
    let count = at.cells.count in
    ap in_order (handed_all p l (clps_of p) vs w.agents (omega (arith, a, count))
    (λ k lt. subst (λ (z : State). handed_of l z ≡ []) (at.stand.states k (has_low p w k links (omega (arith, lt)))) (no_clps k lt))
    (λ k lt. sym (at.stand.states (clps_of p + k) (has_low p w (clps_of p + k) links (omega (arith, lt, a)))) ∙ agents k))
  where
    no_clps : (k : ℕ) → k < clps_of p → handed_of l ((core p).state w k) ≡ []
    no_clps k lt = (let e : nat_lt k (clps_of p) ≡ true = grind (arith, nat_tests, lt) in rw e refl)

    agents : (k : ℕ) → (core p).state w (clps_of p + k) ≡ OfAgent (get_or w.agents k no_agent)
    agents k = (let e : nat_lt (clps_of p + k) (clps_of p) ≡ false = grind (arith, nat_tests) in
        let i : (clps_of p + k) - clps_of p ≡ k = omega arith in rw e (ap (λ (j : ℕ). OfAgent (get_or w.agents j no_agent)) i))

-- the law
pub commits_are : (p : Plan) (n : ℕ) (w : World) (l : Line) (vs us : List CellView) → IsValid p → CommitsAreTheWorlds p n w l vs us
commits_are p n w l vs us valid at may commits = record {
  stands = record {
    reached = (reached_on p).committed n w l at.reached may;
    cells = cells_on nobody p vs us frames at.cells;
    sound = each_on (Committed (core p) l) (λ (v : CellView). v.spoilt ≡ false) (λ (v : CellView). v.spoilt ≡ false) vs us (λ a b c h. c.spoilt ∙ h) pairs at.sound;
    stand = record {
      states = λ k h.
          let was = sym ((laws p valid).commit_has w l k) ∙ h in
          let low = low_has p w k links was in
          (laws p valid).commit_state w l k was ∙ ap ((core p).commits l k) (at.stand.states k was)
          ∙ sym (state_then p l 0 k k vs us at.cells.numbers pairs (omega arith) (let count = at.cells.count in omega (arith, low, count)));
      links = λ a b.
          let known = at.stand.links a b in (
            known.0,
            ap (λ (f : ℕ → List Post). f a) (same_ends p l vs us pairs b).sent ∙ known.1 ∙ ap (λ (f : ℕ → List Post). f b ++ known.0) (sym (same_ends p l vs us pairs a).received),
            known.2,
          );
    };
    clocks = λ k. record {
      own = subst (λ (c : ℕ). c ≤ n) (sym (same_ends p l vs us pairs k).clock) (at.clocks k).own;
      sent = λ a. subst (λ (f : ℕ → List Post). AllByRecursion (λ (x : Post). x.clock ≤ n) (f a)) (sym (same_ends p l vs us pairs k).sent) ((at.clocks k).sent a);
    };
    counts = each_on (Committed (core p) l) (λ (v : CellView). v.made ≤ n) (λ (v : CellView). v.made ≤ n) vs us (λ a b c h. subst (λ (m : ℕ). m ≤ n) (sym c.made) h) pairs at.counts;
  };
  settled = λ settled a b.
      let one = same_ends p l vs us pairs a in
      let other = same_ends p l vs us pairs b in
      ap (λ (f : ℕ → List Post). f a) other.sent ∙ settled a b ∙ ap₂ (λ (f g : ℕ → List Post). f b ++ g b) (sym one.received) (sym one.waiting);
  stories = each_on (Committed (core p) l) (λ (v : CellView). v.spoilt ≡ false) (λ (v : CellView). v.story ≡ []) vs us (λ a b c h. c.story) pairs at.sound;
  handed = cells_hand p n w l vs valid at;
}
  where
    pairs : Pairs (Committed (core p) l) vs us
    pairs = commits_of p l vs us at.cells.fit commits

    frames : Pairs SameFrame vs us
    frames = pairs_with (Committed (core p) l) SameFrame vs us (λ a b c. c.frame) pairs

    links : LinksAre p w
    links = (world_tells p n w valid at.reached).links
