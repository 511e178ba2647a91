-- What the answer of a turn says.
use Rattle.std.specs.Prelude.{ℕ, Bool, true, false}
use Rattle.pm_workers.specs.declared.station.Turned.{Turned}
use Rattle.pm_workers.specs.declared.station.Turned.TheVariants.{Delivered, Nothing, Memory}

-- how many deliveries the turn made
abbrev pub grown : Turned → ℕ
grown Delivered = 1
grown Nothing = 0
grown Memory = 0

-- the turn met want of memory
abbrev pub is_memory : Turned → Bool
is_memory Delivered = false
is_memory Nothing = false
is_memory Memory = true
