-- An epoch by workers: the run that the cells' stories merge into.
use Rattle.std.proofs.Common.{◌≡◌, ◌∙◌, ℕ, ◌+◌, ◌<◌, ◌≤◌, ◌++◌, false, List, [], ◌∷◌, map, length, refl, ap, arith, sym, subst, Option, None, Some}
use Rattle.std.specs.Prelude.{IfSome}
use Rattle.pm_base.specs.declared.run.Event.{Event}
use Rattle.pm_base.specs.declared.run.Event.TheVariants as event
use Rattle.pm_base.specs.declared.stamp.Line.{Line}
use Rattle.pm_cell.specs.Helds.{AreCells, Held, view_of, views}
use Rattle.pm_cell.specs.Stands.{AreWide, CellCame, CellLooked, CellView, HaveWindow, HeardNothing, LeadsTo, LetsThrough, StandAt}
use Rattle.pm_cell.specs.Views.{Settled, nobody, story_of, told}
use Rattle.pm_cell.proofs.Idling.{idle_done}
use Rattle.pm_cell.proofs.Merging.{histories_merge}
use Rattle.pm_cell.proofs.Rows.{SameFrame, cells_on, each_on, pairs_with}
use Rattle.pm_ends.specs.Numbers.{Pairs}
use Rattle.pm_history.specs.Merged.{merged}
use Rattle.pm_kernel.specs.Engines.{IsMoved}
use Rattle.pm_kernel.specs.Runs.{AreLetThrough, left_by}
use Rattle.std.proofs.lemmas.List.{length-map}
use Rattle.pm_plan.proofs.Valid.{valid_limits}
use Rattle.pm_plan.specs.Plans.{IsValid}
use Rattle.pm_plan.specs.declared.plan.Plan.{Plan}
use Rattle.pm_sim.proofs.Heads.{legal_append, made_append, made_delivers, run_append}
use Rattle.pm_sim.specs.Journals.{made}
use Rattle.pm_sim.specs.Ready.{IsAbove, WindowOk}
use Rattle.pm_sim.specs.Worlds.{World, after_event, after_events, first_world, least_line}
use Rattle.pm_threads.proofs.Staying.{all_looked, have_window, same_quiet, same_stands, told_same, window_same, window_settled}
use Rattle.pm_threads.specs.Crews.{Stands, Stays, WentOn, Worked, run_of, windowed}

-- the two words for what a window lets through
through_is : (p : Plan) (k : Option Line) (w : World) (es : List Event) → LetsThrough p k w es → AreLetThrough p k w es
through_is p k w [] h = tt
through_is p k w (event.Deliver to from ∷ es) h = (h.0, through_is p k (after_event p w (event.Deliver to from)) es h.1)
through_is p k w (event.Commit l ∷ es) h = through_is p k (after_event p w (event.Commit l)) es h

stories_are : (hs : List Held) → map (λ (c : Held). story_of (view_of c)) hs ≡ map story_of (views hs)
stories_are [] = refl
stories_are (h ∷ hs) = ap (λ z. story_of (view_of h) ∷ z) (stories_are hs)

told_none : (vs : List CellView) → HeardNothing vs → told vs ≡ 0
told_none [] h = refl
told_none (v ∷ vs) h = let e = ap length h.0 in let f = told_none vs h.1 in omega (arith, e, f)

module _ (p : Plan) (ok : IsValid p) (k : Option Line) (quota n : ℕ) (j : List Event) (old worked new : List Held)
    (stays : Stays p j old) (did : Worked quota n (map (windowed k) old) worked) where
  abbrev vs : List CellView
  vs = views (map (windowed k) old)

  abbrev us : List CellView
  us = views worked

  abbrev w : World
  w = left_by p j

  begun : StandAt p (made j) w vs
  begun = same_stands p (made j) w (views old) vs (window_same k old) stays.stand.stands

  quiet : HeardNothing vs
  quiet = same_quiet p (made j) w (views old) vs (window_same k old) stays.quiet

  told_is : told us ≡ n
  told_is = let e = told_none vs quiet in let f = did.made_all in omega (arith, e, f)

  -- the cells are still those of the plan
  pub worked_cells : AreCells us
  worked_cells = record {
    plan = p;
    valid = ok;
    cells = cells_on nobody p vs us (pairs_with CellCame SameFrame vs us (λ a b h. h.frame) did.came) begun.cells;
  }

  wide : (o : Option Line) (ts : List CellView) → HaveWindow o ts → IfSome o (λ l. IsAbove l (least_line w)) → AreWide w ts
  wide o [] h a = tt
  wide o (t ∷ ts) h a = (subst (WindowOk w) (sym h.0) (at o a), wide o ts h.1 a)
    where
      at : (q : Option Line) → IfSome q (λ l. IsAbove l (least_line w)) → WindowOk w q
      at None z = tt
      at (Some l) z = z

  -- where no delivery was made, though there was room for one, nothing is left
  pub epoch_moves : made j + quota ≤ 20000000 → n ≡ 0 → 0 < quota → IsMoved k (run_of p j false)
  epoch_moves few none some = λ above.
      (idle_done p (made j) w vs us ok).turns begun quiet (window_settled k old stays.stand.settled)
      (omega (arith, few, some)) (wide k vs (have_window k old) above) did.came did.sound (told_is ∙ none)
      (did.idle (omega (arith, some)) none)

  module _ (looked : Pairs CellLooked us (views new)) (settled : Settled nobody (views new)) (ds : List Event)
      (ds_is : ds ≡ merged (map (λ (c : Held). story_of (view_of c)) new)) where
    abbrev ts : List CellView
    ts = views new

    merged_is : merged (map story_of ts) ≡ ds
    merged_is = sym (ds_is ∙ ap merged (stories_are new))

    leads : LeadsTo p (made j) w ds ts
    leads = subst (λ z. LeadsTo p (made j) w z ts) merged_is
        (histories_merge p (made j) w vs us ts ok begun quiet did.came did.sound looked settled)

    window_is : HaveWindow k ts
    window_is = each_on CellLooked (λ (v : CellView). v.window ≡ k) (λ (v : CellView). v.window ≡ k) us ts
        (λ a b h e. h.window ∙ e) looked
        (each_on CellCame (λ (v : CellView). v.window ≡ k) (λ (v : CellView). v.window ≡ k) vs us
        (λ a b h e. h.window ∙ e) did.came (have_window k old))

    count_is : length ds ≡ n
    count_is = leads.count ∙ (told_same us ts (all_looked us ts looked) ∙ told_is)

    world_is : after_events p w ds ≡ left_by p (j ++ ds)
    world_is = sym (run_append p (first_world p) j ds)

    made_is : made j + length ds ≡ made (j ++ ds)
    made_is = let a = made_append j ds in let b = made_delivers ds leads.delivers in omega (arith, a, b)

    pub epoch_went : WentOn p k n j (j ++ ds)
    epoch_went = record {
      events = ds;
      count = count_is;
      lead = record {
        delivers = leads.delivers;
        legal = leads.legal;
        through = through_is p k w ds (leads.through k window_is);
        world = refl;
      };
      journal = refl;
    }

    pub epoch_stands : Stands p (j ++ ds) new
    epoch_stands = record {
      legal = legal_append p (first_world p) j ds stays.stand.legal leads.legal;
      stands = subst (λ z. StandAt p z (left_by p (j ++ ds)) ts) made_is
          (subst (λ z. StandAt p (made j + length ds) z ts) world_is leads.stands);
      settled = settled;
    }

-- there are fewer cells than can be counted
pub counted : (p : Plan) (ok : IsValid p) (j : List Event) (k : Option Line) (cells : List Held) → Stays p j cells
    → length (map (windowed k) cells) < 4294967296
counted p ok j k cells s =
    let few = valid_limits p ok in
    let a = few.clps in
    let b = few.agents in
    let e = s.stand.stands.cells.count in
    let f = length-map cells view_of in
    let g = length-map cells (windowed k) in
    omega (arith, a, b, e, f, g)
