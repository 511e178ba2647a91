-- How a run starts: before its first event, and the Commit at its least line.
use Rattle.std.proofs.Common.{◌≡◌, ◌∙◌, ◌+◌, ◌≤◌, List, None, Option, Some, [], ap, arith, refl, subst, sym, ℕ}
use Rattle.std.specs.Prelude.{IfSome}
use Rattle.pm_base.specs.declared.rows.Entry.{Entry}
use Rattle.pm_base.specs.declared.run.RunSettings.{RunSettings}
use Rattle.pm_plan.specs.Plans.{IsValid}
use Rattle.pm_plan.specs.declared.plan.Plan.{Plan}
use Rattle.pm_kernel.proofs.Staging.{if_some, no_window_needed, stage_commits, stage_more}
use Rattle.pm_kernel.specs.Engines.{HasCommitted, HasStaged, HasStarted, IsMore, RunView, StandsAt, first_run, world_of}
use Rattle.pm_kernel.specs.Runs.{BeginsClosed, IsJournal}
use Rattle.pm_sim.proofs.Kernel.{no_journal}
use Rattle.pm_sim.specs.Journals.{made}
use Rattle.pm_sim.specs.Ready.{InWindow}
use Rattle.pm_sim.specs.Worlds.{first_world, least_line}
use Rattle.pm_base.specs.declared.stamp.Line.TheVariants as line

no_window : (p : Plan) (o : Option ℕ) → IfSome o (λ width. BeginsClosed [] × InWindow width p (first_world p) [])
no_window p None = tt
no_window p (Some w) = (tt, tt)

module _ (p : Plan) (ok : IsValid p) (s : RunSettings) (old : RunView) (first : old ≡ first_run p) where
  empty : IsJournal p s []
  empty = record { few = omega arith; journal = no_journal p s.epoch; window = no_window p s.window }

  none : old.journal ≡ []
  none = ap (λ (v : RunView). v.journal) first

  pub first_stands : StandsAt p s old
  first_stands = record {
    journal = subst (IsJournal p s) (sym none) empty;
    plan = ap (λ (v : RunView). v.plan) first;
    well = ap (λ (v : RunView). v.spoilt) first;
  }

  module _ (new : RunView) (n : ℕ) (es : List Entry) (staged : HasStaged None n es old new) (none_made : n ≤ 0) where
    zero_is : n ≡ 0
    zero_is = omega (arith, none_made)

    few : made old.journal + n ≤ s.budget
    few = let e : made old.journal ≡ 0 = ap made none in omega (arith, e, zero_is)

    first_more : IsMore p s n old new
    first_more = stage_more p ok s old new None n es first_stands staged (omega (arith, zero_is)) few
        (no_window_needed p ok s old new None n es first_stands staged zero_is s.window)

    pub first_commits : HasCommitted p s old new es
    first_commits = stage_commits p ok s old new None n es first_stands staged (omega (arith, zero_is)) few
        (no_window_needed p ok s old new None n es first_stands staged zero_is s.window)

    pub first_started : HasStarted p s new
    first_started = record {
      stands = first_more.stands;
      none = let e = first_more.made_more in let f : made old.journal ≡ 0 = ap made none in omega (arith, e, f, zero_is);
      begun = if_some _ s.window first_more.begun;
      over = λ _. first_more.begun;
    }

  -- without a window, and with something to be delivered, there is no first Commit
  pub first_waits : s.window ≡ None → (least_line (world_of old) ≡ line.End → ⊥) → HasStarted p s old
  first_waits e more = record {
    stands = first_stands;
    none = ap made none;
    begun = subst (λ o. IfSome o (λ _. old.journal ≡ [] → ⊥)) (sym e) tt;
    over = λ f. absurd (more f);
  }
