-- What a journal's text comes to behind a plan.
use Rattle.std.specs.Prelude.{◌≡◌, ◌≢◌, ℕ, ◌+◌, Bool, true, false, List, [], ◌++◌, length}
use Rattle.std.specs.List.{AllByRecursion}
use Rattle.pm_base.specs.declared.run.Event.{Event}
use Rattle.pm_base.specs.declared.stamp.Line.{Line}
use Rattle.pm_base.specs.declared.stamp.Line.TheVariants as line
use Rattle.pm_history.specs.Journals.{IsWritable, event_line, journal_text}
use Rattle.pm_plan.specs.declared.plan.Plan.{Plan}
use Rattle.pm_sim.specs.Worlds.{World, after_events, committed, first_world, is_legal, is_legal_run}
use Rattle.pm_replay.specs.declared.replayed.Replayed.{Replayed}

-- the world that these events lead to
abbrev pub world_after : Plan → List Event → World
world_after p j = after_events p (first_world p) j

-- the line is the end
abbrev pub is_end : Line → Bool
is_end (line.At s) = false
is_end line.End = true

-- what a journal comes to: its events, the entries that its Commits hand out, and whether its last line is the end
abbrev pub replayed : Plan → List Event → Replayed
replayed p j = record { journal = j; entries = committed p j; ended = is_end (world_after p j).line }

-- the bytes are the text of this journal, and each of its events is legal behind those before it
pub record IsLegalText (p : Plan) (j : List Event) (bytes : List ℕ) : Type 0 where
  pub written : AllByRecursion IsWritable j
  pub text : bytes ≡ journal_text j
  pub legal : is_legal_run p (first_world p) j ≡ true

-- the bytes are the lines of n - 1 events, each legal behind those before it, and then more, that begins with the line
-- of no event that is legal there
pub record IsFirstIllegal (p : Plan) (n : ℕ) (bytes : List ℕ) : Type 0 where
  pub before : List Event
  pub rest : List ℕ
  pub cut : bytes ≡ journal_text before ++ rest
  pub written : AllByRecursion IsWritable before
  pub legal : is_legal_run p (first_world p) before ≡ true
  pub number : n ≡ length before + 1
  pub more : rest ≢ []
  pub illegal : (e : Event) (after : List ℕ) → IsWritable e → rest ≡ event_line e ++ after
      → is_legal p (world_after p before) e ≡ false

-- the text begins with these events' lines; and then it is at its end, or goes on with the line of no event
pub record AreLines (j : List Event) (whole : Bool) (text : List ℕ) : Type 0 where
  pub rest : List ℕ
  pub written : AllByRecursion IsWritable j
  pub cut : text ≡ journal_text j ++ rest
  pub ended : whole ≡ true → rest ≡ []
  pub more : whole ≡ false → rest ≢ []
  pub faulty : whole ≡ false → (e : Event) (after : List ℕ) → IsWritable e → rest ≢ event_line e ++ after
