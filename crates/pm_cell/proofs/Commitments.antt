-- A Commit of cells as they are held.
use Rattle.std.proofs.Common.{◌≡◌, ℕ, ◌+◌, ◌-◌, ◌<◌, false, List, [], ◌∷◌, ◌++◌, map, length, get_or, take, drop, refl, arith, ap, ap₂, sym, ◌∙◌, subst, append-nil}
use Rattle.std.proofs.lemmas.Bool.Decides.{nat_tests}
use Rattle.std.proofs.lemmas.Grind.{flat_map-append}
use Rattle.std.proofs.lemmas.List.{drop_more, take_more}
use Rattle.std.specs.List.{AllByRecursion, flat_map}
use Rattle.std.specs.List.Sorted.{IsPermutation}
use Rattle.std.specs.Prelude.{nat_lt}
use Rattle.pm_base.specs.declared.rows.Entry.{Entry}
use Rattle.pm_base.specs.declared.stamp.Line.{Line}
use Rattle.pm_core.specs.declared.process.Process.{Process}
use Rattle.pm_core.specs.declared.process.Process.TheVariants as process
use Rattle.pm_core.proofs.Ordering.{placed_once, placed_same, rest_in_order}
use Rattle.pm_model.specs.Entries.{IsInOrder, run_below}
use Rattle.pm_plan.specs.declared.plan.Plan.{Plan}
use Rattle.pm_sim.specs.Worlds.{clps_of, handed, in_order}
use Rattle.pm_sim.specs.Worlds as worlds
use Rattle.pm_sim.specs.Worlds.Process.{AtAgent, AtClp}
use Rattle.pm_sim.proofs.Places.{process_clp}
use Rattle.pm_sim.proofs.ReachedWorlds.{world_tells}
use Rattle.pm_trace.specs.Merges.{StandsOnce}
use Rattle.pm_cell.specs.Cells.{Committed}
use Rattle.pm_cell.specs.Committings.{handed_at, held_at, process_at, ready_in}
use Rattle.pm_cell.specs.Cores.{State, commits_at, core}
use Rattle.pm_cell.specs.Helds.{Held, IsOwn, IsProcessOf, made_of, side_of, state_of, view_of, views}
use Rattle.pm_cell.specs.Stands.{AreSound, CellView, CellsCommit, MayCommit, handed_by, handed_of}
use Rattle.pm_cell.proofs.Commits.{cells_hand}

-- ---- one cell

handed_state : (l : Line) (x : Process) → handed_of l (state_of x) ≡ handed_at l x
handed_state l (process.Clp v) = refl
handed_state l (process.Alp v) = refl

made_same : (l : Line) (x : Process) → made_of (process_at l x) ≡ made_of x
made_same l (process.Clp v) = refl
made_same l (process.Alp v) = refl

state_then : (l : Line) (p : Plan) (k : ℕ) (x : Process) → IsProcessOf p k x
    → state_of (process_at l x) ≡ commits_at l (worlds.process p k) (state_of x)
state_then l p k (process.Clp v) own = ap (λ q. commits_at l q (state_of (process.Clp v))) (sym (process_clp p k own.0))
state_then l p k (process.Alp v) own = ap (λ q. commits_at l q (state_of (process.Alp v))) (sym at)
  where
    at : worlds.process p k ≡ AtAgent (k - clps_of p)
    at = (let ge = own.0 in let e : nat_lt k (clps_of p) ≡ false = grind (arith, nat_tests, ge) in rw e refl)

committed_of : (l : Line) (h : Held) → IsOwn h → h.spoilt ≡ false
    → Committed (core h.plan) l (view_of h) (view_of (held_at l h))
committed_of l h own sound = record {
  frame = refl;
  spoilt = refl;
  story = refl;
  made = made_same l h.process;
  now = ap (λ (s : State). record (side_of h) { state = s }) (state_then l h.plan h.number h.process (own sound));
  waiting = refl;
  window = refl;
}

-- and all
pub all_committed : (l : Line) (hs : List Held) → AllByRecursion IsOwn hs → AreSound (views hs)
    → CellsCommit l (views hs) (views (map (held_at l) hs))
all_committed l [] own sound = tt
all_committed l (h ∷ hs) own sound = (committed_of l h own.0 sound.0, all_committed l hs own.1 sound.1)

-- the process stays that of its number
pub still_own : (l : Line) (p : Plan) (k : ℕ) (x : Process) → IsProcessOf p k x → IsProcessOf p k (process_at l x)
still_own l p k (process.Clp v) own = (own.0, own.1, own.2)
still_own l p k (process.Alp v) own = (own.0, own.1, own.2)

-- ---- what is handed out

ready_is : (l : Line) (hs : List Held) → flat_map (λ (v : CellView). handed_of l v.now.state) (views hs) ≡ ready_in l hs
ready_is l [] = refl
ready_is l (h ∷ hs) = ap₂ (λ (x y : List Entry). x ++ y) (handed_state l h.process) (ready_is l hs)

module _ (l : Line) (hs : List Held) (m : MayCommit l (views hs)) where
  is_handed : in_order (ready_in l hs) ≡ handed m.world l
  is_handed = ap in_order (sym (ready_is l hs)) ∙ cells_hand m.plan m.made m.world l (views hs) m.valid m.stands

  ordered : IsInOrder (in_order (ready_in l hs))
  ordered = subst IsInOrder (sym is_handed) (rest_in_order m.plan l (run_below m.plan m.world.line)
      (handed m.world l) m.valid
      ((world_tells m.plan m.made m.world m.valid m.stands.reached).handed l m.may))

  pub ready_once : StandsOnce (ready_in l hs)
  ready_once = placed_once (ready_in l hs) ordered

  pub ready_same : (es : List Entry) → IsPermutation (ready_in l hs) es → IsInOrder es → es ≡ handed_by l (views hs)
  ready_same es p o = placed_same (ready_in l hs) es ordered p o ∙ ap in_order (sym (ready_is l hs))

-- ---- one more cell

pub ready_more : (l : Line) (hs : List Held) (i : ℕ) (h : Held) → i < length hs → h ≡ get_or hs i h
    → ready_in l (take (i + 1) hs) ≡ ready_in l (take i hs) ++ handed_at l h.process
ready_more l hs i h lt is =
    ap (ready_in l) (take_more hs i h lt)
    ∙ (flat_map-append (λ (x : Held). handed_at l x.process) (take i hs) (get_or hs i h ∷ [])
    ∙ ap (λ z. ready_in l (take i hs) ++ z) (ap (λ (z : Held). ready_in l (z ∷ [])) (sym is)
    ∙ append-nil (handed_at l h.process)))

pub ready_left : (l : Line) (hs : List Held) (i : ℕ) (h : Held) → i < length hs → h ≡ get_or hs i h
    → ready_in l (drop i hs) ≡ handed_at l h.process ++ ready_in l (drop (i + 1) hs)
ready_left l hs i h lt is =
    ap (ready_in l) (drop_more hs i h lt) ∙ ap (λ (z : Held). handed_at l z.process ++ ready_in l (drop (i + 1) hs))
    (sym is)

pub own_more : (hs : List Held) (i : ℕ) (h : Held) → i < length hs → h ≡ get_or hs i h
    → AllByRecursion IsOwn (take i hs) → IsOwn h → AllByRecursion IsOwn (take (i + 1) hs)
own_more hs i h lt is all own = subst (AllByRecursion IsOwn) (sym (take_more hs i h lt))
    (both (take i hs) all (subst IsOwn is own))
  where
    both : (xs : List Held) → AllByRecursion IsOwn xs → IsOwn (get_or hs i h)
        → AllByRecursion IsOwn (xs ++ get_or hs i h ∷ [])
    both [] a o = (o, tt)
    both (x ∷ xs) a o = (a.0, both xs a.1 o)
