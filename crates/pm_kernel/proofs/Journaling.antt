-- A journal with one more epoch.
use Rattle.std.proofs.Common.{◌≡◌, ◌∙◌, ◌+◌, ◌≤◌, List, None, Option, Some, [], ◌++◌, ◌∷◌, ap, arith, length, refl, sym, subst, true, ℕ}
use Rattle.std.specs.Prelude.{IfSome}
use Rattle.std.proofs.lemmas.Grind.{flat_map-append}
use Rattle.pm_base.specs.declared.rows.Entry.{Entry}
use Rattle.pm_base.specs.declared.run.Event.{Event}
use Rattle.pm_base.specs.declared.run.RunSettings.{RunSettings}
use Rattle.pm_base.specs.declared.stamp.Line.{Line}
use Rattle.pm_model.specs.Traces.{line, trace_text}
use Rattle.pm_plan.specs.Plans.{IsValid}
use Rattle.pm_plan.specs.declared.plan.Plan.{Plan}
use Rattle.pm_kernel.specs.Runs.{BeginsClosed, IsJournal, LeadTo, left_by, text_of}
use Rattle.pm_sim.proofs.Heads.{made_append, made_delivers, run_append, window_append}
use Rattle.pm_sim.proofs.Kernel.{journal_grows}
use Rattle.pm_sim.proofs.Nexts.{journal_entries}
use Rattle.pm_sim.specs.Journals.{Delivers, Journal, epoch, made}
use Rattle.pm_sim.specs.Ready.{InWindow}
use Rattle.pm_sim.specs.Worlds.{World, after_events, commit, committed, first_world, handed, is_legal_run, least_line}
use Rattle.pm_base.specs.declared.run.Event.TheVariants as event

-- what an epoch commits
pub epoch_commits : (p : Plan) (j ds : List Event) → Delivers ds → (v : World) → v ≡ after_events p (left_by p j) ds
    → committed p (j ++ epoch p (left_by p j) ds) ≡ committed p j ++ handed v (least_line v)
epoch_commits p j ds d v e =
    journal_entries p (first_world p) j ds d
    ∙ ap (λ (z : World). committed p j ++ handed z (least_line z)) (sym e)

-- and its text
pub epoch_text : (p : Plan) (j ds : List Event) → Delivers ds → (v : World) → v ≡ after_events p (left_by p j) ds
    → text_of p (j ++ epoch p (left_by p j) ds) ≡ text_of p j ++ trace_text p (handed v (least_line v))
epoch_text p j ds d v e =
    ap (trace_text p) (epoch_commits p j ds d v e) ∙ flat_map-append (line p) (committed p j) (handed v (least_line v))

-- the world that it leaves
pub epoch_leaves : (p : Plan) (j ds : List Event) (v : World) → v ≡ after_events p (left_by p j) ds
    → left_by p (j ++ epoch p (left_by p j) ds) ≡ commit v (least_line v)
epoch_leaves p j ds v e =
    run_append p (first_world p) j (epoch p (left_by p j) ds)
    ∙ (run_append p (left_by p j) ds (event.Commit (least_line (after_events p (left_by p j) ds)) ∷ [])
    ∙ ap (λ (z : World). commit z (least_line z)) (sym e))

pub epoch_made : (p : Plan) (j ds : List Event) → Delivers ds → made (j ++ epoch p (left_by p j) ds) ≡ made j + length ds
epoch_made p j ds d =
    let a = made_append j (epoch p (left_by p j) ds) in
    let b = made_append ds (event.Commit (least_line (after_events p (left_by p j) ds)) ∷ []) in
    let c = made_delivers ds d in
    omega (arith, a, b, c)

begins : (j ds : List Event) (l : Line) → Delivers ds → BeginsClosed j → (j ≡ [] → ds ≡ [])
    → BeginsClosed (j ++ (ds ++ event.Commit l ∷ []))
begins [] [] l d b h = tt
begins [] (x ∷ ds) l d b h = absurd (let z = h refl in cc)
begins (event.Commit k ∷ j) ds l d b h = tt
begins (event.Deliver to from ∷ j) ds l d b h = absurd b

-- the journal goes on
pub epoch_goes : (p : Plan) (s : RunSettings) (j ds : List Event) → IsValid p → IsJournal p s j → Delivers ds
    → is_legal_run p (left_by p j) ds ≡ true → length ds ≤ s.epoch → made j + length ds ≤ s.budget
    → IfSome s.window (λ width. (j ≡ [] → ds ≡ []) × InWindow width p (left_by p j) ds)
    → IsJournal p s (j ++ epoch p (left_by p j) ds)
epoch_goes p s j ds ok old d legal few most window =
    let m = epoch_made p j ds d in
    record {
      few = omega (arith, m, most);
      journal = subst (λ n. Journal p s.epoch n (first_world p) (j ++ epoch p (left_by p j) ds)) (sym m)
          (journal_grows p s.epoch (made j) j ds ok old.journal d few legal);
      window = by s.window old.window window;
    }
  where
    by : (o : Option ℕ) → IfSome o (λ width. BeginsClosed j × InWindow width p (first_world p) j)
        → IfSome o (λ width. (j ≡ [] → ds ≡ []) × InWindow width p (left_by p j) ds)
        → IfSome o (λ width. BeginsClosed (j ++ epoch p (left_by p j) ds)
        × InWindow width p (first_world p) (j ++ epoch p (left_by p j) ds))
    by None a b = tt
    by (Some width) a b = (
      begins j ds (least_line (after_events p (left_by p j) ds)) d a.0 b.0,
      window_append width p (first_world p) j (epoch p (left_by p j) ds) a.1
          (window_append width p (left_by p j) ds _ b.1 tt),
    )
