-- What the registered queries keep.
use Rattle.std.specs.Prelude.{ℕ, ◌≡◌, false, not, List, filter}
use Rattle.pm_base.specs.Stamps.{num_eq}
use Rattle.pm_base.specs.declared.stamp.Line.{Line}
use Rattle.pm_base.specs.declared.stamp.Num.{Num}
use Rattle.pm_periods.specs.Rows.{AreDistinct, IsInOrder}
use Rattle.pm_queries.specs.Queries.{add_reg, finish_in, has_reg, not_below, registered_key}
use Rattle.pm_queries.specs.declared.registered.Registered.{Registered}

-- the queries stand in order of (stamp, number), and each number stands once
pub record IsRegister (qs : List Registered) : Type 0 where
  pub order : IsInOrder registered_key qs
  pub once : AreDistinct registered_key qs

-- the queries of other numbers
abbrev pub others : Num → List Registered → List Registered
others n qs = filter (λ (r : Registered). not (num_eq n r.num)) qs

-- a new number, a Finish and the line keep the order and each number once, and a Finish leaves the queries of other
-- numbers as they are
pub record RegisterIsKept (qs : List Registered) : Type 0 where
  pub new : (r : Registered) → has_reg r.num qs ≡ false → IsRegister (add_reg r qs)
  pub finished : (n : Num) (d : ℕ) → IsRegister (finish_in n d qs).queries
  pub trimmed : (l : Line) → IsRegister (not_below l qs)
  pub others_stay : (n : Num) (d : ℕ) → others n (finish_in n d qs).queries ≡ others n qs
