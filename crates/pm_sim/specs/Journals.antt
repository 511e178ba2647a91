-- Lists of events as the kernel makes them: epochs of deliveries, each with a Commit at the least line behind it.
use Rattle.std.specs.Prelude.{List, [], if◌then◌else◌, length, suc, true, ℕ, ◌++◌, ◌+◌, ◌<◌, ◌∷◌, ◌≡◌, ◌≤◌}
use Rattle.pm_base.specs.declared.run.Event.{Event}
use Rattle.pm_base.specs.declared.stamp.Line.{Line}
use Rattle.pm_base.specs.declared.stamp.Stamp.{Stamp}
use Rattle.pm_plan.specs.declared.plan.Plan.{Plan}
use Rattle.pm_model.specs.Entries.{run_below}
use Rattle.pm_model.specs.Runs.{sequential_run}
use Rattle.pm_sim.specs.Sims.{NotPast}
use Rattle.pm_sim.specs.Worlds.{Process, World, after_event, after_events, commit, committed, committed_from, first_world, handed, is_legal_run, is_process, least_line, mail, may_commit, process}
use Rattle.pm_base.specs.declared.run.Event.TheVariants as event
use Rattle.pm_base.specs.declared.stamp.Line.TheVariants as line

-- how many deliveries there are
abbrev pub made : List Event → ℕ
made [] = 0
made (event.Deliver to from ∷ es) = suc (made es)
made (event.Commit l ∷ es) = made es

-- how many there are to this process
abbrev pub made_at : Plan → Process → List Event → ℕ
made_at p k [] = 0
made_at p k (event.Deliver to from ∷ es) = if is_process (process p to) k then suc (made_at p k es) else made_at p k es
made_at p k (event.Commit l ∷ es) = made_at p k es

-- each Commit stands at the least line of its world
abbrev pub AtLeast : Plan → World → List Event → Type 0
AtLeast p w [] = Unit {0}
AtLeast p w (event.Deliver to from ∷ es) = AtLeast p (after_event p w (event.Deliver to from)) es
AtLeast p w (event.Commit l ∷ es) = (l ≡ least_line w) × AtLeast p (commit w l) es

-- at most e Delivers between two Commits and before the first, where k stand already
abbrev pub Spans : ℕ → ℕ → List Event → Type 0
Spans e k [] = Unit {0}
Spans e k (event.Deliver to from ∷ es) = (k < e) × Spans e (suc k) es
Spans e k (event.Commit l ∷ es) = Spans e 0 es

-- it is empty, or its last event is a Commit
abbrev pub Closed : List Event → Type 0
Closed [] = Unit {0}
Closed (event.Deliver to from ∷ []) = ⊥
Closed (event.Deliver to from ∷ (e ∷ es)) = Closed (e ∷ es)
Closed (event.Commit l ∷ es) = Closed es

-- Delivers alone
abbrev pub Delivers : List Event → Type 0
Delivers [] = Unit {0}
Delivers (event.Deliver to from ∷ es) = Delivers es
Delivers (event.Commit l ∷ es) = ⊥

-- an epoch's Delivers, then a Commit at the least line
abbrev pub epoch : Plan → World → List Event → List Event
epoch p w ds = ds ++ event.Commit (least_line (after_events p w ds)) ∷ []

-- the journal of epochs with these Delivers
abbrev pub journal : Plan → World → List (List Event) → List Event
journal p w [] = []
journal p w (ds ∷ dss) = epoch p w ds ++ journal p (after_events p w (epoch p w ds)) dss

-- each epoch is a list of at most e Delivers, legal where it stands
abbrev pub Epochs : Plan → ℕ → World → List (List Event) → Type 0
Epochs p e w [] = Unit {0}
Epochs p e w (ds ∷ dss) =
    Delivers ds × (length ds ≤ e) × (is_legal_run p w ds ≡ true) × Epochs p e (after_events p w (epoch p w ds)) dss

-- how many Delivers the epochs have together
abbrev pub total : List (List Event) → ℕ
total [] = 0
total (ds ∷ dss) = length ds + total dss

-- a journal: a legal run of n Delivers, at most e between two Commits, each Commit at the least line, one at the end
pub record Journal (p : Plan) (e n : ℕ) (w : World) (j : List Event) : Type 0 where
  pub legal : is_legal_run p w j ≡ true
  pub least : AtLeast p w j
  pub made : made j ≡ n
  pub spans : Spans e 0 j
  pub closed : Closed j

-- what a journal from the first world on, which leaves the world w, tells
pub record JournalTells (p : Plan) (j : List Event) (w : World) : Type 0 where
  pub sequential : committed p j ≡ run_below p w.line
  pub line_is : (j ≡ [] → ⊥) → w.line ≡ least_line w
  pub done_line : (j ≡ [] → ⊥) → mail w.links ≡ [] → w.line ≡ line.End
  pub done_mail : w.line ≡ line.End → mail w.links ≡ []
  pub done_all : w.line ≡ line.End → committed p j ≡ sequential_run p
  pub stays : (k rest : List Event)
      → j ≡ k ++ rest → committed p j ≡ committed p k ++ committed_from p (after_events p (first_world p) k) rest

-- so it is for the world that the journal leaves
abbrev pub JournalLaw : Plan → List Event → Type 0
JournalLaw p j = JournalTells p j (after_events p (first_world p) j)

-- a journal stays one with one epoch more
abbrev pub JournalGrows : Plan → ℕ → ℕ → List Event → List Event → Type 0
JournalGrows p e n j ds =
    Journal p e n (first_world p) j →
    Delivers ds →
    length ds ≤ e →
    is_legal_run p (after_events p (first_world p) j) ds ≡ true →
    Journal p e (n + length ds) (first_world p) (j ++ epoch p (after_events p (first_world p) j) ds)

-- what a Commit hands out is the sequential run between the two lines
abbrev pub CommitHands : Plan → List Event → Line → Type 0
CommitHands p es k =
    is_legal_run p (first_world p) es ≡ true →
    may_commit (after_events p (first_world p) es) k ≡ true →
    run_below p k ≡ run_below p (after_events p (first_world p) es).line ++ handed (after_events p (first_world p) es) k

-- the least line is never below the line, so that a Commit there is legal; it is End exactly where no message is left
pub record LeastLine (w : World) : Type 0 where
  pub may : may_commit w (least_line w) ≡ true
  pub at_end : least_line w ≡ line.End → mail w.links ≡ []
  pub stamp : (mail w.links ≡ [] → ⊥) → (s : Stamp) × (least_line w ≡ line.At s) × NotPast w.line s

-- so it is in each world of a legal run
abbrev pub LeastLineIs : Plan → List Event → Type 0
LeastLineIs p es = is_legal_run p (first_world p) es ≡ true → LeastLine (after_events p (first_world p) es)
