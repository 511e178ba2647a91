-- How the ends of cells are drawn.
use Rattle.std.specs.Prelude.{ℕ, ◌≡◌, List, ◌++◌, Some}
use Rattle.pm_ends.specs.Ends.{AllGrew, Inn, Out}
use Rattle.pm_ends.specs.Numbers.{nth}
use Rattle.pm_cell.specs.Helds.{Held, outs_of}

-- the out-end that an in-end names is of the same link
pub record IsWiredIn (hs : List Held) (x : Inn) : Type 0 where
  pub out : Out
  pub at : nth (outs_of hs x.from) x.slot ≡ Some out
  pub link : x.link ≡ out.link

-- what was sent over it is what was handed out at the in-end and what waits there
pub record IsDrawnIn (hs : List Held) (x : Inn) : Type 0 where
  pub out : Out
  pub at : nth (outs_of hs x.from) x.slot ≡ Some out
  pub all : out.sent ≡ x.received ++ x.waiting

-- the same of each of these in-ends
abbrev pub AllWiredIn : List Held → List Inn → Type 0
AllWiredIn hs xs = (j : ℕ) (x : Inn) → nth xs j ≡ Some x → IsWiredIn hs x

-- of the one at that place, where there is one
abbrev pub IsDrawnAt : List Held → List Inn → ℕ → Type 0
IsDrawnAt hs xs j = (x : Inn) → nth xs j ≡ Some x → IsDrawnIn hs x

-- of each of them
abbrev pub AllDrawnIn : List Held → List Inn → Type 0
AllDrawnIn hs xs = (j : ℕ) → IsDrawnAt hs xs j

-- a cell whose in-ends alone may have changed: there more may wait
pub record HeldGrew (a b : Held) : Type 0 where
  pub same : b ≡ record a { inns = b.inns }
  pub grew : AllGrew a.inns b.inns
