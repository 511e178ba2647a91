-- What a machine owes so that the stories of its processes merge into one run.
use Rattle.std.specs.Prelude.{ℕ, suc, ◌==◌, ◌&&◌, ◌≡◌, ◌≢◌, Bool, true, false, if◌then◌else◌, List, [], ◌∷◌, ◌++◌, Option}
use Rattle.std.specs.List.{AllByRecursion}
use Rattle.pm_base.specs.declared.stamp.Line.{Line}
use Rattle.pm_history.specs.Merged.{Tagged}
use Rattle.pm_message.specs.declared.Message.{Message}
use Rattle.pm_cell.specs.Machines.{Machine}

-- Inv n w: a legal run of n deliveries leads to the world w. From such a world one delivery changes its receiver alone,
-- takes the first message of its link, and puts what the receiver sends at the ends of its out-links; a Commit changes no
-- link
pub record Laws {W S : Type 0} (core : Machine W S) (Inv : ℕ → W → Type 0) : Type 0 where
  -- a delivery
  pub same_has : (w : W) (to from k : ℕ) → core.has (core.deliver w to from) k ≡ core.has w k
  pub receiver : (w : W) (to from : ℕ) (m : Message) (ms : List Message) → core.has w to ≡ true
      → core.link w to from ≡ m ∷ ms → core.state (core.deliver w to from) to ≡ core.act to (core.state w to) from m
  pub others : (w : W) (to from k : ℕ) → k ≢ to → core.state (core.deliver w to from) k ≡ core.state w k
  pub links : (n : ℕ) (w : W) (to from : ℕ) (m : Message) (ms : List Message) (a b : ℕ) → Inv n w → core.has w to ≡ true
      → core.link w to from ≡ m ∷ ms → core.link (core.deliver w to from) a b
      ≡ (if a == to && b == from then ms else core.link w a b)
      ++ (if b == to then core.sends to (core.state w to) from m a else [])
  pub leads : (n : ℕ) (w : W) (to from : ℕ) (m : Message) (ms : List Message) → Inv n w → core.link w to from ≡ m ∷ ms
      → Inv (suc n) (core.deliver w to from)
  -- a Commit
  pub commit_has : (w : W) (l : Line) (k : ℕ) → core.has (core.commit w l) k ≡ core.has w k
  pub commit_state : (w : W) (l : Line) (k : ℕ) → core.has w k ≡ true
      → core.state (core.commit w l) k ≡ core.commits l k (core.state w k)
  pub commit_link : (w : W) (l : Line) (a b : ℕ) → core.link (core.commit w l) a b ≡ core.link w a b

abbrev pub is_some_first : List Message → Bool
is_some_first [] = false
is_some_first (m ∷ ms) = true

-- the world after these receipts, each a delivery
abbrev pub run : {W S : Type 0} → Machine W S → W → List Tagged → W
run core w [] = w
run core w (e ∷ es) = run core (core.deliver w e.1 e.2) es

-- each of them finds a message
abbrev pub legal : {W S : Type 0} → Machine W S → W → List Tagged → Bool
legal core w [] = true
legal core w (e ∷ es) = is_some_first (core.link w e.1 e.2) && legal core (core.deliver w e.1 e.2) es

-- that the receiver's window lets through
abbrev pub Through : {W S : Type 0} → Machine W S → (ℕ → Option Line) → W → List Tagged → Type 0
Through core windows w [] = Unit {0}
Through core windows w (e ∷ es) =
    ((m : Message) (ms : List Message) → core.link w e.1 e.2 ≡ m ∷ ms
    → core.holds (windows e.1) e.1 (core.state w e.1) m ≡ false)
    × Through core windows (core.deliver w e.1 e.2) es

-- each of their processes is one of the world's
abbrev pub AllThere : {W S : Type 0} → Machine W S → W → List Tagged → Type 0
AllThere core w es = AllByRecursion (λ (e : Tagged). core.has w e.1 ≡ true) es
