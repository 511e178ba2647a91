-- The worlds that legal runs lead to, one event after another.
use Rattle.std.specs.Prelude.{List, suc, true, ℕ, ◌++◌, ◌≡◌}
use Rattle.pm_base.specs.declared.run.Event.{Event}
use Rattle.pm_base.specs.declared.stamp.Line.{Line}
use Rattle.pm_plan.specs.declared.plan.Plan.{Plan}
use Rattle.pm_model.specs.Entries.{run_below}
use Rattle.pm_model.specs.declared.State.{State}
use Rattle.pm_sim.specs.Journals.{LeastLine, made, made_at}
use Rattle.pm_sim.specs.Kept.{KeptAbove, kept}
use Rattle.pm_sim.specs.Links.{LinksAre}
use Rattle.pm_sim.specs.Sims.{In}
use Rattle.pm_sim.specs.Taken.{IsTaken}
use Rattle.pm_sim.specs.Waking.{Awaking}
use Rattle.pm_sim.specs.Worlds.{Mail, World, after_event, after_events, commit, committed, delivered, first_world, handed, is_legal, is_legal_run, mail, may_commit}
use Rattle.pm_base.specs.declared.run.Event.TheVariants as event

-- a legal run of n deliveries leads from the first world to this one
pub record Reached (p : Plan) (n : ℕ) (w : World) : Type 0 where
  pub events : List Event
  pub legal : is_legal_run p (first_world p) events ≡ true
  pub made : made events ≡ n
  pub world : w ≡ after_events p (first_world p) events

-- the first world is reached, a legal Deliver leads to one with one delivery more, and a legal Commit to one with as
-- many
pub record ReachedOn (p : Plan) : Type 0 where
  pub first : Reached p 0 (first_world p)
  pub delivered : (n : ℕ) (w : World) (to from : ℕ) → Reached p n w → is_legal p w (event.Deliver to from) ≡ true
      → Reached p (suc n) (after_event p w (event.Deliver to from))
  pub committed : (n : ℕ) (w : World) (l : Line) → Reached p n w → may_commit w l ≡ true → Reached p n (commit w l)

-- what such a world tells
pub record WorldTells (p : Plan) (w : World) : Type 0 where
  pub least : LeastLine w
  pub links : LinksAre p w
  pub kept : KeptAbove p w
  pub woken : (q : State) × Awaking p q w
  pub handed : (k : Line) → may_commit w k ≡ true → run_below p k ≡ run_below p w.line ++ handed w k

-- each message on its way is one that its receiver takes, after the deliveries made to it
abbrev pub AllTaken : Plan → List Event → World → Type 0
AllTaken p es w = (x : Mail) → In x (mail w.links) → IsTaken p w (made_at p x.to es) x.to x.from x.message
