-- The stories of cells merge into one run, which leads to the world that the settled cells stand for.
use Rattle.std.proofs.Common.{◌≡◌, ℕ, ◌+◌, ◌<◌, ◌≤◌, true, false, List, [], ◌∷◌, ◌++◌, map, length, arith, ap, sym, ◌∙◌, subst, Option}
use Rattle.std.proofs.lemmas.List.{length-map}
use Rattle.std.specs.List.{AllByRecursion}
use Rattle.pm_base.specs.declared.stamp.Line.{Line}
use Rattle.pm_history.specs.Merged.{Tagged, in_order, merged, tags}
use Rattle.pm_history.specs.Merged as order
use Rattle.pm_history.specs.declared.histories.Heard.{Heard}
use Rattle.pm_plan.specs.Plans.{IsValid}
use Rattle.pm_plan.specs.declared.plan.Plan.{Plan}
use Rattle.pm_sim.specs.Reached.{Reached}
use Rattle.pm_sim.specs.Worlds.{World, after_events}
use Rattle.pm_sim.proofs.ReachedWorlds.{world_tells}
use Rattle.pm_cell.specs.Cells.{Came}
use Rattle.pm_ends.specs.Numbers.{Pairs}
use Rattle.pm_cell.specs.Cores.{core}
use Rattle.pm_cell.specs.Sides.{ClocksBelow, Replays, StandFor}
use Rattle.pm_cell.specs.Stands.{AreSound, CellCame, CellLooked, CellView, HaveWindow, HeardNothing, HistoriesMerge, LeadsTo, StandAt}
use Rattle.pm_cell.specs.Views.{FitsPlan, Settled, nobody, nows, story_of, told, view_at}
use Rattle.pm_cell.proofs.Rows.{SameFrame, all_replay, all_there, cells_on, each_at, each_on, length_told, looked_came, pairs_length, pairs_on, pairs_with, part_told, story_told}
use Rattle.pm_cell.specs.Laws.{on}
use Rattle.pm_cell.proofs.Instances.{laws}
use Rattle.pm_cell.proofs.Lists.{each_in_order, length_in_order}
use Rattle.pm_cell.proofs.Machines.{run}
use Rattle.pm_cell.proofs.Merges.{MergedOf, merge_law}
use Rattle.pm_cell.proofs.Runs.{delivers_are, has_low, legal_is, low_has, run_is, through_is}

-- cells of one plan go on by its machine
pub came_of : (p : Plan) (vs us : List CellView) → AllByRecursion (λ (v : CellView). FitsPlan p v.frame) vs → Pairs CellCame vs us → Pairs (Came (core p)) vs us
came_of p [] [] fit r = tt
came_of p [] (u ∷ us) fit r = absurd r
came_of p (v ∷ vs) [] fit r = absurd r
came_of p (v ∷ vs) (u ∷ us) fit r = (subst (λ (q : Plan). Came (core q) v u) fit.0.plan r.0, came_of p vs us fit.1 r.1)

-- no process had more deliveries than there were before and its story tells of
counts_on : (p : Plan) (n m : ℕ) (vs us : List CellView) → Pairs (Came (core p)) vs us → AllByRecursion (λ (v : CellView). v.made ≤ n) vs → HeardNothing vs → AreSound us
    → AllByRecursion (λ (u : CellView). length u.story ≤ m) us → AllByRecursion (λ (u : CellView). u.made ≤ n + m) us
counts_on p n m [] [] r low none sound few = tt
counts_on p n m [] (u ∷ us) r low none sound few = absurd r
counts_on p n m (v ∷ vs) [] r low none sound few = absurd r
counts_on p n m (v ∷ vs) (u ∷ us) r low none sound few =
    let c = r.0 in
    let whole : u.story ≡ c.more = c.story ∙ ap (λ (hs : List Heard). hs ++ c.more) none.0 in
    let same : length u.story ≡ length c.more = ap length whole in
    let made = c.made sound.0 in
    let start = low.0 in
    let short = few.0 in
    (omega (arith, same, made, start, short), counts_on p n m vs us r.1 low.1 none.1 sound.1 few.1)

module _ (p : Plan) (n : ℕ) (w : World) (vs ts : List CellView) (valid : IsValid p) (was : StandAt p n w vs)
    (none : HeardNothing vs) (came : Pairs (Came (core p)) vs ts) (sound : AreSound ts) (settled : Settled nobody ts) where
  frames : Pairs SameFrame vs ts
  frames = pairs_with (Came (core p)) SameFrame vs ts (λ a b c. c.frame) came

  there : (k : ℕ) → k < length ts → (core p).has w k ≡ true
  there k lt = has_low p w k (world_tells p n w valid was.reached).links
      (let long = pairs_length (Came (core p)) vs ts came in let count = was.cells.count in omega (arith, lt, long, count))

  law : MergedOf (core p) (λ k. (view_at nobody ts k).window) (Reached p) n w (in_order (tags (map story_of ts))) (nows nobody vs) (nows nobody ts)
  law = merge_law (core p) (λ k. (view_at nobody ts k).window) (Reached p) (laws p valid) (map story_of ts) n w (nows nobody vs) (nows nobody ts) was.reached
      (all_there (core p) nobody 0 w ts (cells_on nobody p vs ts frames was.cells).numbers (λ k low high. there k (omega (arith, high))))
      (λ k. subst (λ (hs : List Heard). Replays (core p) (view_at nobody ts k).window k hs (nows nobody vs k) (nows nobody ts k))
      (sym (part_told nobody 0 k k ts (cells_on nobody p vs ts frames was.cells).numbers (omega arith)))
      (all_replay (core p) nobody 0 k k vs ts was.cells.numbers came none sound (omega arith)))
      (λ a b. ((view_at nobody ts a).waiting b, settled a b))
      was.stand

  count : length (in_order (tags (map story_of ts))) ≡ told ts
  count = length_in_order (tags (map story_of ts)) ∙ length_told nobody ts

  long : length (merged (map story_of ts)) ≡ length (in_order (tags (map story_of ts)))
  long = length-map (in_order (tags (map story_of ts))) order.deliver

  through : (k : Option Line) → HaveWindow k ts → (j : ℕ) → (core p).has w j ≡ true → (view_at nobody ts j).window ≡ k
  through k same j h = each_at nobody (λ (v : CellView). v.window ≡ k) ts j
      (let long = pairs_length (Came (core p)) vs ts came in let count = was.cells.count in let low = low_has p w j (world_tells p n w valid was.reached).links h in omega (arith, low, long, count)) same

  stands : StandAt p (n + length (merged (map story_of ts))) (after_events p w (merged (map story_of ts))) ts
  stands =
      let all : length (merged (map story_of ts)) ≡ told ts = long ∙ count in
      let world : run_of ≡ after_events p w (merged (map story_of ts)) = run_is p w (in_order (tags (map story_of ts))) in
      record {
        reached = subst (λ (m : ℕ). Reached p (n + m) (after_events p w (merged (map story_of ts)))) (sym long) (subst (Reached p (n + length (in_order (tags (map story_of ts))))) world law.leads);
        cells = cells_on nobody p vs ts frames was.cells;
        sound = sound;
        stand = subst (StandFor (core p) (nows nobody ts)) world law.stand;
        clocks = λ k. subst (λ (m : ℕ). ClocksBelow (n + m) (nows nobody ts k)) (sym long) (law.clocks n was.clocks k);
        counts = subst (λ (m : ℕ). AllByRecursion (λ (v : CellView). v.made ≤ n + m) ts) (sym all) (counts_on p n (told ts) vs ts came was.counts none sound (story_told nobody ts));
      }
    where
      run_of : World
      run_of = run (core p) w (in_order (tags (map story_of ts)))

  leads : LeadsTo p n w (merged (map story_of ts)) ts
  leads = record {
    delivers = delivers_are (in_order (tags (map story_of ts)));
    legal = legal_is p w (in_order (tags (map story_of ts))) law.is_legal;
    count = long ∙ count;
    through = λ k same. through_is p (Reached p) (laws p valid) (λ j. (view_at nobody ts j).window) k w (in_order (tags (map story_of ts)))
        (each_in_order (λ (e : Tagged). (core p).has w e.1 ≡ true) (tags (map story_of ts)) (all_there (core p) nobody 0 w ts (cells_on nobody p vs ts frames was.cells).numbers (λ k low high. there k (omega (arith, high)))))
        (through k same) law.through;
    stands = stands;
  }

-- the law
pub histories_merge : (p : Plan) (n : ℕ) (w : World) (vs us ts : List CellView) → IsValid p → HistoriesMerge p n w vs us ts
histories_merge p n w vs us ts valid was none came sound looked settled =
    leads p n w vs ts valid was none
    (pairs_on (Came (core p)) CellLooked (Came (core p)) vs us ts (λ a b c one two. on (core p) a b c one (looked_came (core p) nobody b c two)) (came_of p vs us was.cells.fit came) looked)
    (each_on CellLooked (λ (v : CellView). v.spoilt ≡ false) (λ (v : CellView). v.spoilt ≡ false) us ts (λ a b l h. l.spoilt ∙ h) looked sound)
    settled
