-- Worked rows of what is kept and of playing, by computing.
use Rattle.std.proofs.Common.{List, None, Some, [], ap, arith, cond, false, length, refl, suc, true, ℕ, ◌++◌, ◌+◌, ◌∙◌, ◌∷◌, ◌≡◌}
use Rattle.std.proofs.lemmas.Bool.{and_parts}
use Rattle.pm_base.specs.declared.run.Event.{Event}
use Rattle.pm_plan.specs.declared.plan.Plan.{Plan}
use Rattle.pm_alp.specs.Agents.{Actor}
use Rattle.pm_sim.proofs.Machines.{event_by, event_right, right}
use Rattle.pm_sim.proofs.Plays.{play_legal}
use Rattle.pm_sim.proofs.Rows.{Acts, by_acts, late_actors, late_acts, late_write_committed, late_write_legal, legal}
use Rattle.pm_sim.specs.Kept.{kept}
use Rattle.pm_sim.specs.Played.{Played, before, broken_run, play, play_from}
use Rattle.pm_sim.specs.Samples.{deliveries, first_commit_run, late_write, late_write_deliveries, late_write_entries, late_write_run, second_commit}
use Rattle.pm_sim.specs.Worlds.{World, actor_of, after_event, after_events, committed_from, first_world, hands, is_legal, is_legal_run}
use Rattle.pm_base.specs.declared.run.Event.TheVariants as event
use Rattle.pm_base.specs.declared.stamp.Line.TheVariants as line

module _ (p : Plan) (actors : ℕ → Actor) where
  abbrev pub after_by : World → List Event → World
  after_by w [] = w
  after_by w (e ∷ es) = after_by (event_by p right actors w e) es

-- the world after a run of agents that act as the plan's
module _ (p : Plan) (f : ℕ → Acts) (same : (a : ℕ) → actor_of p a ≡ by_acts f a) where
  after_right : (w : World) (es : List Event) → after_events p w es ≡ after_by p (actor_of p) w es
  after_right w [] = refl
  after_right w (e ∷ es) =
      ap (λ v. after_events p v es) (event_right p w e) ∙ after_right (event_by p right (actor_of p) w e) es

  pub after_same : (w : World) (es : List Event) → after_events p w es ≡ after_by p (by_acts f) w es
  after_same w es = after_right w es ∙ ap (λ (g : ℕ → Actor). after_by p g w es) (λ i a. same a i)

-- steps and rows of the late write: two steps, a put and a read; then one step and the read; then none
pub late_write_keeps : kept (after_events late_write (first_world late_write) (deliveries late_write_deliveries)) ≡ 4
late_write_keeps =
    ap kept (after_same late_write late_acts late_actors (first_world late_write) (deliveries late_write_deliveries))
    ∙ refl

pub first_commit_keeps : kept (after_events late_write (first_world late_write) first_commit_run) ≡ 2
first_commit_keeps =
    ap kept (after_same late_write late_acts late_actors (first_world late_write) first_commit_run) ∙ refl

pub second_commit_keeps : kept (after_events late_write (first_world late_write) (first_commit_run ++ second_commit))
    ≡ 0
second_commit_keeps =
    ap kept (after_same late_write late_acts late_actors (first_world late_write) (first_commit_run ++ second_commit))
    ∙ refl

-- playing stops where the event behind a legal list isn't legal
play_stops : (p : Plan) (w : World) (i : ℕ) (xs : List Event) (e : Event) (ys : List Event) → is_legal_run p w xs ≡ true
    → is_legal p (after_events p w xs) e ≡ false
    → ((play_from p w i (xs ++ e ∷ ys)).stopped ≡ Some (i + length xs))
    × ((play_from p w i (xs ++ e ∷ ys)).entries ≡ committed_from p w xs)
play_stops p w i [] e ys l f = (
  ap (λ b. (cond b (before (hands w e) (play_from p (after_event p w e) (suc i) ys))
      (record { world = w; entries = []; stopped = Some i })).stopped) f ∙ ap Some (omega arith),
  ap (λ b. (cond b (before (hands w e) (play_from p (after_event p w e) (suc i) ys))
      (record { world = w; entries = []; stopped = Some i })).entries) f,
)
play_stops p w i (x ∷ xs) e ys l f =
    let q = and_parts (is_legal p w x) (is_legal_run p (after_event p w x) xs) l in
    let again = play_stops p (after_event p w x) (suc i) xs e ys q.1 f in (
      ap (λ b. (cond b (before (hands w x) (play_from p (after_event p w x) (suc i) (xs ++ e ∷ ys)))
          (record { world = w; entries = []; stopped = Some i })).stopped) q.0 ∙ (again.0 ∙ ap Some (omega arith)),
      ap (λ b. (cond b (before (hands w x) (play_from p (after_event p w x) (suc i) (xs ++ e ∷ ys)))
          (record { world = w; entries = []; stopped = Some i })).entries) q.0 ∙ ap (λ z. hands w x ++ z) again.1,
    )

pub late_write_plays : (play late_write (first_world late_write) late_write_run).stopped ≡ None
late_write_plays =
    ap (λ (r : Played). r.stopped) (play_legal late_write (first_world late_write) late_write_run late_write_legal)

pub late_write_hands : (play late_write (first_world late_write) late_write_run).entries ≡ late_write_entries
late_write_hands =
    ap (λ (r : Played). r.entries) (play_legal late_write (first_world late_write) late_write_run late_write_legal)
    ∙ late_write_committed

abbrev two : List Event
two = deliveries ((2, 2) ∷ (0, 2) ∷ [])

broken : ((play late_write (first_world late_write) broken_run).stopped ≡ Some 2)
    × ((play late_write (first_world late_write) broken_run).entries ≡ [])
broken = (
    let r = play_stops late_write (first_world late_write) 0 two (event.Deliver 2 1)
    (deliveries ((1, 1) ∷ (0, 1) ∷ (2, 0) ∷ []) ++ event.Commit line.End ∷ [])
    (legal late_write late_acts late_actors two ∙ refl)
    (ap (λ w. is_legal late_write w (event.Deliver 2 1))
    (after_same late_write late_acts late_actors (first_world late_write) two) ∙ refl) in
    (r.0, r.1))

pub broken_stops : (play late_write (first_world late_write) broken_run).stopped ≡ Some 2
broken_stops = broken.0

pub broken_hands : (play late_write (first_world late_write) broken_run).entries ≡ []
broken_hands = broken.1
