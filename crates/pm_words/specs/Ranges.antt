-- What the words' numbers keep to.
use Rattle.std.specs.Prelude.{ℕ, ◌≤◌, IfSome}
use Rattle.pm_base.specs.declared.run.RunSettings.{RunSettings}

-- a number from the least to the most
pub record IsFrom (least most n : ℕ) : Type 0 where
  pub at_least : least ≤ n
  pub at_most : n ≤ most

-- each number of a run is in its option's range
pub record IsInRange (s : RunSettings) : Type 0 where
  pub workers : s.workers ≤ 64
  pub budget : s.budget ≤ 20000000
  pub epoch : IsFrom 1 1000000 s.epoch
  pub window : IfSome s.window (IsFrom 1 1000000000000)
