-- Doing a list of events in order, up to the first that isn't legal.
use Rattle.std.specs.Prelude.{List, None, Option, Some, [], false, if◌then◌else◌, length, suc, true, ℕ, ◌++◌, ◌+◌, ◌∷◌, ◌≡◌, ◌⊎◌}
use Rattle.pm_base.specs.declared.rows.Entry.{Entry}
use Rattle.pm_base.specs.declared.run.Event.{Event}
use Rattle.pm_plan.specs.declared.plan.Plan.{Plan}
use Rattle.pm_model.specs.Entries.{run_below}
use Rattle.pm_sim.specs.Samples.{all_then_commit}
use Rattle.pm_sim.specs.Worlds.{World, after_event, after_events, committed_from, first_world, hands, is_legal, is_legal_run}

-- what a list of events came to: the world, what its Commits handed out, and how many events were done where one wasn't
-- legal
pub record Played : Type 0 where
  pub world : World
  pub entries : List Entry
  pub stopped : Option ℕ

-- what was handed out before
abbrev pub before : List Entry → Played → Played
before es r = record r { entries = es ++ r.entries }

-- the events are done in order, up to the first that isn't legal; i were done already
abbrev pub play_from : Plan → World → ℕ → List Event → Played
play_from p w i [] = record { world = w; entries = []; stopped = None }
play_from p w i (e ∷ es) = if is_legal p w e then before (hands w e) (play_from p (after_event p w e) (suc i) es)
    else record { world = w; entries = []; stopped = Some i }

-- the events are done from this world on
abbrev pub play : Plan → World → List Event → Played
play p w es = play_from p w 0 es

-- i events were done before: the events up to the first that isn't legal are done, and no more
pub record PlayedUpTo (p : Plan) (w : World) (i : ℕ) (es : List Event) (r : Played) : Type 0 where
  pub done : List Event
  pub rest : List Event
  pub parts : es ≡ done ++ rest
  pub legal : is_legal_run p w done ≡ true
  pub world : r.world ≡ after_events p w done
  pub entries : r.entries ≡ committed_from p w done
  pub stops : ((r.stopped ≡ None) × (rest ≡ [])) ⊎ ((e : Event) × (more : List Event)
      × (rest ≡ e ∷ more) × (is_legal p (after_events p w done) e ≡ false) × (r.stopped ≡ Some (i + length done)))

-- what playing a list comes to
abbrev pub PlayLaw : Plan → World → List Event → Played → Type 0
PlayLaw p w es r = PlayedUpTo p w 0 es r

-- what is played from the first world hands out the sequential run below the line, whatever the events are
abbrev pub PlayedIsSequential : Plan → List Event → Type 0
PlayedIsSequential p es = (play p (first_world p) es).entries ≡ run_below p (play p (first_world p) es).world.line

-- the late write with a third event over a link that isn't there
abbrev pub broken_run : List Event
broken_run = all_then_commit ((2, 2) ∷ (0, 2) ∷ (2, 1) ∷ (1, 1) ∷ (0, 1) ∷ (2, 0) ∷ [])
