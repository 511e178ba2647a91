-- The Commit behind an epoch, and the stage of both.
use Rattle.std.proofs.Common.{◌≡◌, ◌∙◌, ℕ, ◌++◌, false, true, List, [], ◌∷◌, length, refl, ap, arith, sym, subst, Option, append_assoc}
use Rattle.std.specs.Prelude.{IfOk, OnOk, Result, Ok, Err}
use Rattle.pm_base.specs.declared.memory.Memory.{Memory}
use Rattle.pm_base.specs.declared.rows.Entry.{Entry}
use Rattle.pm_base.specs.declared.run.Event.{Event}
use Rattle.pm_base.specs.declared.run.Event.TheVariants as event
use Rattle.pm_base.specs.declared.stamp.Line.{Line}
use Rattle.pm_cell.specs.Helds.{Held, views}
use Rattle.pm_cell.specs.Stands.{CellsCommit, IsLeastOf, MayCommit, StandAt, WorldCommits, handed_by}
use Rattle.pm_cell.proofs.Commits.{commits_are}
use Rattle.pm_cell.proofs.Waiting.{least_is}
use Rattle.pm_kernel.specs.Engines.{HasStaged}
use Rattle.pm_kernel.specs.Runs.{left_by}
use Rattle.pm_plan.specs.Plans.{IsValid}
use Rattle.pm_plan.specs.declared.plan.Plan.{Plan}
use Rattle.pm_sim.proofs.Heads.{legal_append, made_append, run_append}
use Rattle.pm_sim.proofs.Kernel.{least_law}
use Rattle.pm_sim.specs.Journals.{made}
use Rattle.pm_sim.specs.Worlds.{World, after_events, commit, first_world, handed, least_line, may_commit}
use Rattle.pm_threads.proofs.Writing.{as_many}
use Rattle.pm_threads.specs.Crews.{HasClosed, Stands, Stays, WentOn, run_of}

-- the least moment that waits is the least line of the run's world
pub least_at : (p : Plan) (ok : IsValid p) (j : List Event) (cells : List Held) (l : Line) → Stands p j cells
    → IsLeastOf l (views cells) → l ≡ least_line (left_by p j)
least_at p ok j cells l s low = least_is p (made j) (left_by p j) (views cells) l ok s.stands s.settled low

module _ (p : Plan) (ok : IsValid p) (j : List Event) (old : List Held) (l : Line) (stands : Stands p j old)
    (low : IsLeastOf l (views old)) where
  line_is : l ≡ least_line (left_by p j)
  line_is = least_at p ok j old l stands low

  may : may_commit (left_by p j) l ≡ true
  may = subst (λ z. may_commit (left_by p j) z ≡ true) (sym line_is) (least_law p j ok stands.legal).may

  pub close_may : MayCommit l (views old)
  close_may = record { plan = p; valid = ok; made = made j; world = left_by p j; stands = stands.stands; may = may }

  module _ (new : List Held) (es : List Entry) (did : CellsCommit l (views old) (views new))
      (entries : es ≡ handed_by l (views old)) where
    abbrev after : List Event
    after = j ++ event.Commit l ∷ []

    world : WorldCommits p (made j) (left_by p j) l (views old) (views new)
    world = commits_are p (made j) (left_by p j) l (views old) (views new) ok stands.stands may did

    world_is : commit (left_by p j) l ≡ left_by p after
    world_is = sym (run_append p (first_world p) j (event.Commit l ∷ []))

    made_is : made j ≡ made after
    made_is = let a = made_append j (event.Commit l ∷ []) in omega (arith, a)

    pub close_stays : Stays p after new
    close_stays = record {
      stand = record {
        legal = legal_append p (first_world p) j (event.Commit l ∷ []) stands.legal (rw may refl);
        stands = subst (λ z. StandAt p z (left_by p after) (views new)) made_is
            (subst (λ z. StandAt p (made j) z (views new)) world_is world.stands);
        settled = world.settled stands.settled;
      };
      quiet = world.stories;
    }

    pub close_closed : HasClosed p es j after
    close_closed = record {
      journal = ap (λ z. j ++ event.Commit z ∷ []) line_is;
      entries = entries ∙ (world.handed ∙ ap (handed (left_by p j)) line_is);
    }

-- what a Commit of the cells comes to
pub close_result : (p : Plan) (ok : IsValid p) (j : List Event) (old new final : List Held) (l : Line)
    (r : Result (List Entry) Memory) → Stands p j old → IsLeastOf l (views old)
    → (length new ≡ length old → final ≡ new)
    → OnOk r (CellsCommit l (views old) (views new)) → IfOk r (λ es. es ≡ handed_by l (views old))
    → IfOk r (λ es. HasClosed p es j (j ++ event.Commit l ∷ [])) × OnOk r (Stays p (j ++ event.Commit l ∷ []) final)
close_result p ok j old new final l (Ok es) stands low is did entries = (
  close_closed p ok j old l stands low new es did entries,
  subst (Stays p (j ++ event.Commit l ∷ [])) (sym (is (as_many _ old new did)))
      (close_stays p ok j old l stands low new es did entries),
)
close_result p ok j old new final l (Err e) stands low is did entries = (tt, tt)

-- a stage is an epoch and the Commit behind it
pub stage_is : (p : Plan) (k : Option Line) (n : ℕ) (es : List Entry) (j mid new : List Event)
    → WentOn p k n j mid → HasClosed p es mid new → HasStaged k n es (run_of p j false) (run_of p new false)
stage_is p k n es j mid new went closed = record {
  events = went.events;
  count = went.count;
  lead = went.lead;
  journal = closed.journal
      ∙ (ap (λ z. z ++ event.Commit (least_line (left_by p mid)) ∷ []) went.journal
      ∙ (append_assoc j went.events (event.Commit (least_line (left_by p mid)) ∷ [])
      ∙ ap (λ (w : World). j ++ (went.events ++ event.Commit (least_line w) ∷ [])) world_is));
  plan = refl;
  well = refl;
  entries = closed.entries ∙ ap (λ (w : World). handed w (least_line w)) world_is;
}
  where
    world_is : left_by p mid ≡ after_events p (left_by p j) went.events
    world_is = ap (left_by p) went.journal ∙ run_append p (first_world p) j went.events
