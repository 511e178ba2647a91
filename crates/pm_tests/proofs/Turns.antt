-- Cells that were given turns by hand, and may be settled and committed.
use Rattle.std.proofs.Common.{◌≡◌, ℕ, ◌+◌, ◌<◌, ◌++◌, false, true, List, [], ◌∷◌, length, get_or, set, take, map}
use Rattle.std.proofs.Common.{subst, sym}
use Rattle.std.proofs.lemmas.List.{take_more}
use Rattle.pm_base.specs.declared.run.Event.{Event}
use Rattle.pm_base.specs.declared.stamp.Line.{Line}
use Rattle.pm_cell.proofs.Merging.{histories_merge}
use Rattle.pm_cell.proofs.Places.{pairs_over}
use Rattle.pm_cell.proofs.Rows.{SameFrame, cells_on, pairs_with}
use Rattle.pm_cell.proofs.Waiting.{least_is}
use Rattle.pm_cell.specs.Firsts.{AreFirst}
use Rattle.pm_cell.specs.Helds.{AreCells, Held, view_of, views}
use Rattle.pm_cell.specs.Laws.{came_none}
use Rattle.pm_cell.specs.Stands.{AreSound, CellCame, CellLooked, CellView, IsLeastOf, LeadsTo, MayCommit}
use Rattle.pm_cell.specs.Views.{Settled, nobody, story_of}
use Rattle.pm_ends.proofs.Lists.{pairs_set}
use Rattle.pm_ends.specs.Numbers.{Pairs}
use Rattle.pm_history.specs.Merged.{merged}
use Rattle.pm_plan.specs.Plans.{IsValid}
use Rattle.pm_plan.specs.declared.plan.Plan.{Plan}
use Rattle.pm_sim.proofs.Kernel.{least_law}
use Rattle.pm_sim.specs.Worlds.{World, after_events, first_world, least_line, may_commit}

abbrev HeldCame : Held → Held → Type 0
HeldCame a b = CellCame (view_of a) (view_of b)

-- one cell came from what it was, the others stayed
pub one_came : (hs : List Held) (i : ℕ) (d y : Held) → CellCame (view_of (get_or hs i d)) (view_of y)
    → Pairs CellCame (views hs) (views (set hs i y))
one_came hs i d y h = pairs_over HeldCame CellCame view_of (λ a b r. r) hs (set hs i y)
    (pairs_set HeldCame (λ x. came_none (view_of x)) hs i d y h)

-- one cell more in which memory wasn't wanting
pub sound_more : (hs : List Held) (i : ℕ) (h : Held) → i < length hs → h ≡ get_or hs i h
    → AreSound (views (take i hs)) → h.spoilt ≡ false → AreSound (views (take (i + 1) hs))
sound_more hs i h lt is all own = subst (λ z. AreSound (views z)) (sym (take_more hs i h lt))
    (both (take i hs) all (subst (λ (z : Held). z.spoilt ≡ false) is own))
  where
    both : (xs : List Held) → AreSound (views xs) → (get_or hs i h).spoilt ≡ false
        → AreSound (views (xs ++ get_or hs i h ∷ []))
    both [] a o = (o, tt)
    both (x ∷ xs) a o = (a.0, both xs a.1 o)

module _ (p : Plan) (ok : IsValid p) (vs us : List CellView) (first : AreFirst p vs) (came : Pairs CellCame vs us) where
  -- they are still the cells of the plan
  pub still_cells : AreCells us
  still_cells = record {
    plan = p;
    valid = ok;
    cells = cells_on nobody p vs us (pairs_with CellCame SameFrame vs us (λ a b h. h.frame) came) first.stands.cells;
  }

  -- once they are settled, a Commit may stand at the least moment that waits
  pub may_close : (ts : List CellView) (l : Line) → AreSound us → Pairs CellLooked us ts → Settled nobody ts
      → IsLeastOf l ts → MayCommit l ts
  may_close ts l sound looked settled low =
      let ds : List Event = merged (map story_of ts) in
      let w : World = after_events p (first_world p) ds in
      let leads : LeadsTo p 0 (first_world p) ds ts =
      histories_merge p 0 (first_world p) vs us ts ok first.stands first.stories came sound looked settled in
      let is : l ≡ least_line w = least_is p (0 + length ds) w ts l ok leads.stands settled low in
      record {
        plan = p;
        valid = ok;
        made = 0 + length ds;
        world = w;
        stands = leads.stands;
        may = subst (λ z. may_commit w z ≡ true) (sym is) (least_law p ds ok leads.legal).may;
      }
