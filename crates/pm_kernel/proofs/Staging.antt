-- A stage of a run: an epoch, and the Commit behind it.
use Rattle.std.proofs.Common.{◌≡◌, ◌∙◌, ◌+◌, ◌<◌, ◌≤◌, ◌⊎◌, List, None, Option, Some, [], ◌++◌, ◌∷◌, append-nil, ap, arith, inl, inr, length, refl, subst, sym, suc, zero, ℕ}
use Rattle.std.specs.Prelude.{IfSome}
use Rattle.pm_base.specs.declared.rows.Entry.{Entry}
use Rattle.pm_base.specs.declared.run.Event.{Event}
use Rattle.pm_base.specs.declared.run.RunSettings.{RunSettings}
use Rattle.pm_base.specs.declared.stamp.Line.{Line}
use Rattle.pm_plan.specs.Plans.{IsValid}
use Rattle.pm_plan.specs.declared.plan.Plan.{Plan}
use Rattle.pm_kernel.proofs.Going.{no_events}
use Rattle.pm_kernel.proofs.Journaling.{epoch_commits, epoch_goes, epoch_made}
use Rattle.pm_kernel.proofs.Leading.{through_window}
use Rattle.pm_kernel.specs.Engines.{HasCommitted, HasStaged, IsMore, RunView, StandsAt, world_of}
use Rattle.pm_kernel.specs.Runs.{AreLetThrough, IsJournal, IsTimelyLine, IsWithin, LeadTo, left_by}
use Rattle.pm_sim.proofs.Horizons.{least_time}
use Rattle.pm_sim.proofs.Kernel.{journal_law}
use Rattle.pm_sim.proofs.Promised.{plan_fits}
use Rattle.pm_sim.proofs.Shapes.{timely}
use Rattle.pm_sim.specs.Journals.{epoch, made}
use Rattle.pm_sim.specs.Ready.{InWindow, window_at}
use Rattle.pm_sim.specs.Worlds.{World, after_events, committed, handed, least_line, mail}
use Rattle.pm_base.specs.declared.run.Event.TheVariants as event

-- the world that a run of this plan has come to
pub world_is : (p : Plan) (v : RunView) → v.plan ≡ p → world_of v ≡ left_by p v.journal
world_is p v e = ap (λ q. left_by q v.journal) e

module _ (p : Plan) (ok : IsValid p) (s : RunSettings) (old new : RunView) (k : Option Line) (n : ℕ) (es : List Entry)
    (stands : StandsAt p s old) (staged : HasStaged k n es old new) where
  abbrev j : List Event
  j = old.journal

  abbrev ds : List Event
  ds = staged.events

  lead : LeadTo p k (left_by p j) ds (after_events p (left_by p j) ds)
  lead = subst (λ q. LeadTo q k (left_by q j) ds (after_events q (left_by q j) ds)) stands.plan staged.lead

  journal_is : new.journal ≡ j ++ epoch p (left_by p j) ds
  journal_is = subst (λ q. new.journal ≡ j ++ epoch q (left_by q j) ds) stands.plan staged.journal

  entries_is : es ≡ handed (after_events p (left_by p j) ds) (least_line (after_events p (left_by p j) ds))
  entries_is = subst (λ q. es ≡ handed (after_events q (left_by q j) ds) (least_line (after_events q (left_by q j) ds)))
      stands.plan staged.entries

  line_is : (j ≡ [] → ⊥) → (left_by p j).line ≡ least_line (world_of old)
  line_is ne = (journal_law p s.epoch (made j) j ok stands.journal.journal).line_is ne
      ∙ sym (ap least_line (world_is p old stands.plan))

  -- what the window lets through keeps to the one that the settings give
  pub stage_window : (o : Option ℕ) → IfSome o (λ _. j ≡ [] → ⊥)
      → IfSome o (λ width. (l : Line) × (k ≡ Some l) × IsWithin l (window_at width (least_line (world_of old))))
      → IfSome o (λ width. (j ≡ [] → ds ≡ []) × InWindow width p (left_by p j) ds)
  stage_window None b w = tt
  stage_window (Some width) b w = (
    (λ f. absurd (b f)),
    through_window width p w.0 (window_at width (least_line (world_of old))) (left_by p j) ds
        (ap (window_at width) (line_is b)) w.2 lead.delivers
        (subst (λ z. AreLetThrough p z (left_by p j) ds) w.1 lead.through),
  )

  -- and so does no delivery
  pub no_window_needed : n ≡ 0 → (o : Option ℕ)
      → IfSome o (λ width. (j ≡ [] → ds ≡ []) × InWindow width p (left_by p j) ds)
  no_window_needed z None = tt
  no_window_needed z (Some width) =
      let none : ds ≡ [] = no_events ds (staged.count ∙ z) in
      ((λ f. none), subst (InWindow width p (left_by p j)) (sym none) tt)

  module _ (few : n ≤ s.epoch) (most : made j + n ≤ s.budget)
      (window : IfSome s.window (λ width. (j ≡ [] → ds ≡ []) × InWindow width p (left_by p j) ds)) where
    pub stage_commits : HasCommitted p s old new es
    stage_commits = record {
      journal = subst (IsJournal p s) (sym journal_is)
          (epoch_goes p s j ds ok stands.journal lead.delivers lead.legal
          (subst (λ z. z ≤ s.epoch) (sym staged.count) few) (subst (λ z. made j + z ≤ s.budget) (sym staged.count) most)
          window);
      entries = ap (committed p) journal_is
          ∙ (epoch_commits p j ds lead.delivers (after_events p (left_by p j) ds) refl
          ∙ ap (λ z. committed p j ++ z) (sym entries_is));
    }

    pub stage_more : IsMore p s n old new
    stage_more =
        let m : made new.journal ≡ made j + n =
        ap made journal_is ∙ (epoch_made p j ds lead.delivers ∙ ap (λ z. made j + z) staged.count) in
        record {
          stands = record {
            journal = stage_commits.journal;
            plan = staged.plan ∙ stands.plan;
            well = staged.well;
          };
          made_more = m;
          begun = λ e. not_empty j ds (least_line (after_events p (left_by p j) ds)) (sym journal_is ∙ e);
        }
      where
        not_empty : (xs ys : List Event) (l : Line) → xs ++ (ys ++ event.Commit l ∷ []) ≡ [] → ⊥
        not_empty [] [] l e = cc
        not_empty [] (y ∷ ys) l e = cc
        not_empty (x ∷ xs) ys l e = cc

-- ---- the least line is timely

pub least_timely : (p : Plan) (s : RunSettings) (v : RunView) → IsValid p → StandsAt p s v
    → (mail (world_of v).links ≡ [] → ⊥) → IsTimelyLine (least_line (world_of v))
least_timely p s v ok stands ne =
    let is = world_is p v stands.plan in
    let some = least_time p (plan_fits p ok) v.journal stands.journal.journal.legal
    (λ e. ne (ap (λ (w : World). mail w.links) is ∙ e)) in
    subst IsTimelyLine (sym (ap least_line is ∙ some.1)) (omega (arith, some.2, (timely p ok).horizon))

-- ---- what was committed of what was written

-- nothing was committed
pub stage_nothing : (p : Plan) (s : RunSettings) (old new : RunView) → StandsAt p s old
    → new.journal ≡ old.journal → HasCommitted p s old new []
stage_nothing p s old new stands e = record {
  journal = subst (IsJournal p s) (sym e) stands.journal;
  entries = ap (committed p) e ∙ sym (append-nil (committed p old.journal));
}

pub positive : (n : ℕ) → (n ≡ 0 → ⊥) → 0 < n
positive zero h = absurd (h refl)
positive (suc n) h = omega arith

pub if_some : (P : Type 0) (o : Option ℕ) → P → IfSome o (λ _. P)
if_some P None b = tt
if_some P (Some w) b = b

pub as_within : (o : Option ℕ) (k l : Line) → IfSome o (λ w. IsWithin k (window_at w l))
    → IfSome o (λ w. (m : Line) × (Some k ≡ Some m) × IsWithin m (window_at w l))
as_within None k l h = tt
as_within (Some w) k l h = (k, refl, h)
