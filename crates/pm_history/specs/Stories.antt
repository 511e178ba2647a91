-- What a process heard, as contracts see it.
use Rattle.std.specs.Prelude.{ℕ, List}
use Rattle.pm_history.specs.declared.histories.Heard.{Heard}

-- a process, and what it heard in order
pub record Story : Type 0 where
  pub process : ℕ
  pub heard : List Heard
