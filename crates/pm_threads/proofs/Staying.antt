-- Cells that stay what they are but for their windows and what waits at them.
use Rattle.std.proofs.Common.{◌≡◌, ◌∙◌, ℕ, zero, suc, ◌+◌, ◌≤◌, false, List, [], ◌∷◌, map, length, refl, ap, sym, subst, Option}
use Rattle.pm_base.specs.declared.stamp.Line.{Line}
use Rattle.pm_cell.specs.Cores.{State}
use Rattle.pm_cell.specs.Firsts.{AreFirst}
use Rattle.pm_cell.specs.Helds.{Held, views}
use Rattle.pm_cell.specs.Sides.{ClocksBelow, Flies, Side}
use Rattle.pm_cell.specs.Stands.{CellLooked, CellView, HaveWindow, HeardNothing, StandAt}
use Rattle.pm_cell.specs.Views.{Settled, nobody, nows, told, view_at}
use Rattle.pm_cell.proofs.Rows.{SameFrame, cells_on, each_on, pairs_at, pairs_with}
use Rattle.pm_ends.specs.Numbers.{Pairs}
use Rattle.pm_plan.specs.declared.plan.Plan.{Plan}
use Rattle.pm_sim.specs.Worlds.{World, first_world}
use Rattle.pm_threads.specs.Crews.{Stays, windowed}

-- a cell that is still the same process, with the same story
pub record SameSelf (a b : CellView) : Type 0 where
  pub frame : b.frame ≡ a.frame
  pub spoilt : b.spoilt ≡ a.spoilt
  pub story : b.story ≡ a.story
  pub made : b.made ≡ a.made
  pub now : b.now ≡ a.now

module _ (p : Plan) (n : ℕ) (w : World) (vs us : List CellView) (same : Pairs SameSelf vs us) where
  now_at : (k : ℕ) → nows nobody us k ≡ nows nobody vs k
  now_at k = pairs_at nobody SameSelf (λ a b. b.now ≡ a.now) vs us k (λ a b h. h.now) refl same

  -- the world that they stand for is the same
  pub same_stands : StandAt p n w vs → StandAt p n w us
  same_stands s = record {
    reached = s.reached;
    cells = cells_on nobody p vs us (pairs_with SameSelf SameFrame vs us (λ a b h. h.frame) same) s.cells;
    sound = each_on SameSelf (λ (v : CellView). v.spoilt ≡ false) (λ (v : CellView). v.spoilt ≡ false) vs us
        (λ a b h e. h.spoilt ∙ e) same s.sound;
    stand = record {
      states = λ k h. s.stand.states k h ∙ sym (ap (λ (z : Side State). z.state) (now_at k));
      links = λ a b.
          let l = s.stand.links a b in (
            l.0,
            subst (λ (z : Side State). Flies z (nows nobody us b) a b l.0) (sym (now_at a))
                (subst (λ (z : Side State). Flies (nows nobody vs a) z a b l.0) (sym (now_at b)) l.1),
            l.2,
          );
    };
    clocks = λ k. subst (ClocksBelow n) (sym (now_at k)) (s.clocks k);
    counts = each_on SameSelf (λ (v : CellView). v.made ≤ n) (λ (v : CellView). v.made ≤ n) vs us
        (λ a b h e. subst (λ z. z ≤ n) (sym h.made) e) same s.counts;
  }

  -- and they still heard nothing
  pub same_quiet : HeardNothing vs → HeardNothing us
  same_quiet q = each_on SameSelf (λ (v : CellView). v.story ≡ []) (λ (v : CellView). v.story ≡ []) vs us
      (λ a b h e. h.story ∙ e) same q

-- ---- what settling leaves

looked_same : (a b : CellView) → CellLooked a b → SameSelf a b
looked_same a b l =
    record { frame = l.frame; spoilt = l.spoilt; story = l.story; made = l.made; now = l.now }

pub all_looked : (vs us : List CellView) → Pairs CellLooked vs us → Pairs SameSelf vs us
all_looked vs us r = pairs_with CellLooked SameSelf vs us looked_same r

-- as many receipts as before
pub told_same : (vs us : List CellView) → Pairs SameSelf vs us → told us ≡ told vs
told_same [] [] r = refl
told_same [] (u ∷ us) r = absurd r
told_same (v ∷ vs) [] r = absurd r
told_same (v ∷ vs) (u ∷ us) r =
    ap (λ s. length s + told us) r.0.story ∙ ap (λ z. length v.story + z) (told_same vs us r.1)

-- the first cells, once what was sent at the begin is brought to its receivers
pub first_stays : (p : Plan) (before after : List Held) → AreFirst p (views before)
    → Pairs CellLooked (views before) (views after) → Settled nobody (views after) → Stays p [] after
first_stays p before after first looked settled =
    let same = all_looked (views before) (views after) looked in
    record {
      stand = record {
        legal = refl;
        stands = same_stands p 0 (first_world p) (views before) (views after) same first.stands;
        settled = settled;
      };
      quiet = same_quiet p 0 (first_world p) (views before) (views after) same first.stories;
    }

-- ---- what another window leaves

pub window_same : (k : Option Line) (hs : List Held) → Pairs SameSelf (views hs) (views (map (windowed k) hs))
window_same k [] = tt
window_same k (h ∷ hs) =
    (record { frame = refl; spoilt = refl; story = refl; made = refl; now = refl }, window_same k hs)

-- the same waits
waits_same : (k : Option Line) (hs : List Held) (a b : ℕ)
    → (view_at nobody (views (map (windowed k) hs)) a).waiting b ≡ (view_at nobody (views hs) a).waiting b
waits_same k [] a b = refl
waits_same k (h ∷ hs) zero b = refl
waits_same k (h ∷ hs) (suc a) b = waits_same k hs a b

nows_same : (k : Option Line) (hs : List Held) (a : ℕ)
    → nows nobody (views (map (windowed k) hs)) a ≡ nows nobody (views hs) a
nows_same k [] a = refl
nows_same k (h ∷ hs) zero = refl
nows_same k (h ∷ hs) (suc a) = nows_same k hs a

pub window_settled : (k : Option Line) (hs : List Held) → Settled nobody (views hs)
    → Settled nobody (views (map (windowed k) hs))
window_settled k hs s = λ a b.
    subst (λ z. Flies (nows nobody (views (map (windowed k) hs)) a) (nows nobody (views (map (windowed k) hs)) b) a b z)
    (sym (waits_same k hs a b))
    (subst (λ (z : Side State). Flies z (nows nobody (views (map (windowed k) hs)) b) a b
    ((view_at nobody (views hs) a).waiting b)) (sym (nows_same k hs a))
    (subst (λ (z : Side State). Flies (nows nobody (views hs) a) z a b ((view_at nobody (views hs) a).waiting b))
    (sym (nows_same k hs b)) (s a b)))

pub have_window : (k : Option Line) (hs : List Held) → HaveWindow k (views (map (windowed k) hs))
have_window k [] = tt
have_window k (h ∷ hs) = (refl, have_window k hs)
