-- What becomes of a cell.
use Rattle.std.specs.Prelude.{ℕ, ◌+◌, ◌≤◌, ◌^◌, ◌≡◌, ◌⊎◌, true, false, List, [], ◌∷◌, ◌++◌, length}
use Rattle.pm_base.specs.declared.stamp.Line.{Line}
use Rattle.pm_ends.specs.Numbers.{Begins}
use Rattle.pm_history.specs.declared.histories.Heard.{Heard}
use Rattle.pm_cell.specs.Machines.{Machine}
use Rattle.pm_cell.specs.Sides.{Replays, after}
use Rattle.pm_cell.specs.Views.{View}
use Rattle.pm_ends.specs.declared.post.Post.{Post}

-- nothing was heard: at most more waits at the ends
pub record Looked {S : Type 0} (a b : View S) : Type 0 where
  pub frame : b.frame ≡ a.frame
  pub spoilt : b.spoilt ≡ a.spoilt
  pub story : b.story ≡ a.story
  pub made : b.made ≡ a.made
  pub now : b.now ≡ a.now
  pub window : b.window ≡ a.window
  pub come : (k : ℕ) → Begins (a.waiting k) (b.waiting k)

module _ {W S : Type 0} (core : Machine W S) where
  -- b came from a: what came to each end goes on, and so does the story, by receipts that led from a to b
  pub record Came (a b : View S) : Type 0 where
    pub frame : b.frame ≡ a.frame
    pub window : b.window ≡ a.window
    pub come : (k : ℕ) → Begins (a.now.received k ++ a.waiting k) (b.now.received k ++ b.waiting k)
    pub sound : b.spoilt ≡ false → a.spoilt ≡ false
    pub more : List Heard
    pub story : b.story ≡ a.story ++ more
    pub made : b.spoilt ≡ false → b.made ≡ a.made + length more
    pub replays : b.spoilt ≡ false → Replays core a.window a.frame.number more a.now b.now

  -- one message was heard: the first one of the end from that process, which the window let through
  pub record Turned (a b : View S) : Type 0 where
    pub from : ℕ
    pub post : Post
    pub through : core.holds a.window a.frame.number a.now.state post.message ≡ false
    pub now : b.now ≡ after core a.frame.number from post a.now
    pub story : b.story ≡ a.story ++ record { clock = b.now.clock; from = from } ∷ []
    pub made : b.made ≡ a.made + 1
    pub frame : b.frame ≡ a.frame
    pub window : b.window ≡ a.window
    pub sound : (a.spoilt ≡ false) × (b.spoilt ≡ false)
    pub first : Begins (a.waiting from) (post ∷ b.waiting from)
    pub others : (k : ℕ) → (k ≡ from → ⊥) → Begins (a.waiting k) (b.waiting k)

  -- an item that the cell may not deliver: a Wake that its window keeps back; or an unfit item, which in the kernel never
  -- comes: one that the process doesn't take, or whose clock or the cell's is out of reach
  abbrev pub IsBlocked : View S → ℕ → Post → Type 0
  IsBlocked v from x =
      (core.holds v.window v.frame.number v.now.state x.message ≡ true)
      ⊎ ((core.takes v.frame.number v.made v.now.state from x.message ≡ false)
      ⊎ ((2 ^ 63 ≤ x.clock) ⊎ (2 ^ 63 ≤ v.now.clock)))

  -- at each end nothing waits, or what waits first is an item that the cell may not deliver
  abbrev pub IsIdle : View S → Type 0
  IsIdle v = (from : ℕ) (x : Post) (xs : List Post) → v.waiting from ≡ x ∷ xs → IsBlocked v from x

  -- the cell after a Commit at a line: its story begins anew from where it is
  pub record Committed (l : Line) (a b : View S) : Type 0 where
    pub frame : b.frame ≡ a.frame
    pub spoilt : b.spoilt ≡ a.spoilt
    pub story : b.story ≡ []
    pub made : b.made ≡ a.made
    pub now : b.now ≡ record a.now { state = core.commits l a.frame.number a.now.state }
    pub waiting : b.waiting ≡ a.waiting
    pub window : b.window ≡ a.window
