-- Stations with the number of deliveries that they may still make.
use Rattle.std.specs.Prelude.{◌≡◌, ℕ, ◌+◌, List, length}
use mathlib.Core.Option.{some}
use lib.ListN.{get_elem?}
use Rattle.pm_workers.specs.Shares.{share}
use Rattle.pm_workers.specs.declared.post.Post.{Post}

module _ {S N : Type 0} (story : S → List N) (follows : S → S → Type 0) where
  -- the station follows the mark's, and what it may still make and its story are together what they were
  abbrev pub FitsPost : Post S → Post S → Type 0
  FitsPost mark post =
      follows post.station mark.station
      × (post.left + length (story post.station) ≡ mark.left + length (story mark.station))

-- each station may still make its whole share
abbrev pub HaveShares : {S : Type 0} → ℕ → ℕ → List (Post S) → Type 0
HaveShares {S = S} quota n posts = (i : ℕ) (p : Post S) → get_elem? posts i ≡ some p → p.left ≡ share quota n i
