-- The class queries that a communication process has registered, and what it still owes each of them.
use Rattle.std.specs.Prelude.{ℕ, ◌≡◌, ◌==◌, Bool, true, false, not, ◌&&◌, ◌||◌, if◌then◌else◌}
use Rattle.std.specs.Prelude.{List, [], ◌∷◌, ◌++◌, map, filter}
use Rattle.pm_base.specs.Stamps.{is_below, num_eq}
use Rattle.pm_base.specs.declared.stamp.Line.{Line}
use Rattle.pm_base.specs.declared.stamp.Num.{Num}
use Rattle.pm_base.specs.declared.value.Query.TheVariants as query
use Rattle.pm_message.specs.declared.Message.{Message}
use Rattle.pm_message.specs.declared.Message.TheVariants as message
use Rattle.pm_periods.specs.Rows.{key_lt}
use Rattle.pm_periods.specs.declared.rows.RowKey.{RowKey}
use Rattle.pm_ranges.specs.Known.{Known, bound_at}
use Rattle.pm_tables.specs.Tables.{meets_at}
use Rattle.pm_queries.specs.declared.registered.Registered.{Registered}
use Rattle.pm_queries.specs.declared.registered.Sent.{Sent}

-- the number is one of these
abbrev pub has : ℕ → List ℕ → Bool
has d [] = false
has d (x ∷ xs) = d == x || has d xs

-- these numbers but that one
abbrev pub without : ℕ → List ℕ → List ℕ
without d ds = filter (λ e. not (d == e)) ds

-- where a registered query stands: by its stamp, then by its number
abbrev pub registered_key : Registered → RowKey
registered_key r = record { stamp = r.stamp; num = r.num }

-- a query of that number is registered
abbrev pub has_reg : Num → List Registered → Bool
has_reg n [] = false
has_reg n (r ∷ rs) = num_eq n r.num || has_reg n rs

-- the query in its place among those registered
abbrev pub add_reg : Registered → List Registered → List Registered
add_reg r [] = r ∷ []
add_reg r (x ∷ xs) = if key_lt (registered_key r) (registered_key x) then r ∷ (x ∷ xs) else x ∷ add_reg r xs

-- the queries of a class, in their order
abbrev pub class_queries : ℕ → List Registered → List Registered
class_queries k qs = filter (λ (r : Registered). k == r.class) qs

-- the query as it is sent on
abbrev pub ask_of : Registered → Message
ask_of r = message.Ask r.num r.stamp (query.Class r.class r.window)

-- the queries after a Finish, and what is sent then
pub record Ended : Type 0 where
  pub queries : List Registered
  pub sent : List Sent

-- the same with a query before those
abbrev pub behind_reg : Registered → Ended → Ended
behind_reg r e = record e { queries = r ∷ e.queries }

-- Finish to where the query came from, once no port is left that it waits for
abbrev pub finish_if : List ℕ → Registered → List Sent
finish_if [] r = record { to = r.from; message = message.Finish r.num r.stamp } ∷ []
finish_if (d ∷ ds) r = []

-- the port is taken off where the query waits for it; else nothing happens
abbrev pub finish_one : ℕ → Registered → List Registered → Bool → Ended
finish_one d r rs true = record {
  queries = record r { waits = without d r.waits } ∷ rs;
  sent = finish_if (without d r.waits) r;
}
finish_one d r rs false = record { queries = r ∷ rs; sent = [] }

-- the query of that number waits for port d no more
abbrev pub finish_in : Num → ℕ → List Registered → Ended
finish_in n d [] = record { queries = []; sent = [] }
finish_in n d (r ∷ rs) =
    if num_eq n r.num then finish_one d r rs (has d r.waits) else behind_reg r (finish_in n d rs)

-- a query of class k is caught up at port d, where that is known of the class: it came from elsewhere, wasn't sent
-- there, and its window meets the bound at its stamp
abbrev pub catches_by : Known → ℕ → ℕ → Registered → Bool
catches_by known d k r =
    k == r.class && (not (r.from == d) && (not (has d r.sent) && meets_at r.window (bound_at known r.stamp)))

-- such a query is marked as sent there
abbrev pub caught_by : Known → ℕ → ℕ → Registered → Registered
caught_by known d k r = if catches_by known d k r then record r { sent = r.sent ++ d ∷ [] } else r

-- and sent there
abbrev pub asks_at : ℕ → List Registered → List Sent
asks_at d rs = map (λ (r : Registered). record { to = d; message = ask_of r }) rs

-- the queries that are not below the line
abbrev pub not_below : Line → List Registered → List Registered
not_below l rs = filter (λ (r : Registered). not (is_below r.stamp l)) rs

-- more messages were sent: what was there stays, before them
abbrev pub HasGrown : List Sent → List Sent → Type 0
HasGrown old new = (more : List Sent) × (new ≡ old ++ more)
