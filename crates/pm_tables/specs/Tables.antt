-- What is known of each class behind each tree port: a bound for each stamp, by the place of the port and the class.
use Rattle.std.specs.Prelude.{ℕ, zero, suc, ◌≡◌, ◌<◌, ◌==◌, Bool, true, false, not, if◌then◌else◌, pos}
use Rattle.std.specs.Prelude.{List, [], ◌∷◌, length, map, get_or, set, Option, Some, None}
use Rattle.pm_base.specs.Windows.{meets, point_of}
use Rattle.pm_base.specs.declared.layout.ClassRow.{ClassRow}
use Rattle.pm_base.specs.declared.stamp.Interval.{Interval}
use Rattle.pm_base.specs.declared.stamp.Line.{Line}
use Rattle.pm_base.specs.declared.stamp.Stamp.{Stamp}
use Rattle.pm_base.specs.declared.value.Period.{Period}
use Rattle.pm_base.specs.declared.value.Value.{Value}
use Rattle.pm_base.specs.declared.value.Window.{Window}
use Rattle.pm_ranges.specs.Known.{Known, bound_at, grown, nothing_known}
use Rattle.pm_ranges.specs.Known as known
use Rattle.pm_routes.specs.Routings.{place_of}
use Rattle.pm_routes.specs.declared.way.Way.{Way}
use Rattle.pm_routes.specs.declared.way.Way.TheVariants as way

-- what a table has at a place for a class
abbrev pub known_in : ℕ → ℕ → List (List Known) → Known
known_in place k b = get_or (get_or b place []) k nothing_known

-- the table in which that grew by a window over an interval
abbrev pub grow_in : ℕ → ℕ → Interval → Window → List (List Known) → List (List Known)
grow_in place k when w b = set b place (set (get_or b place []) k (grown when w (known_in place k b)))

-- and by the points of these periods, in order
abbrev pub grow_periods_in : ℕ → ℕ → List Period → List (List Known) → List (List Known)
grow_periods_in place k [] b = b
grow_periods_in place k (r ∷ rs) b = grow_periods_in place k rs (grow_in place k r.when (point_of r.value) b)

-- what a table has for a port and a class: at the place of the port among these
abbrev pub known_at : List ℕ → ℕ → ℕ → List (List Known) → Known
known_at ports d k b = get_or (get_or b (place_of ports d) []) k nothing_known

-- the table in which that grew by a window over an interval
abbrev pub grow_at : List ℕ → ℕ → ℕ → Interval → Window → List (List Known) → List (List Known)
grow_at ports d k when w b =
    set b (place_of ports d) (set (get_or b (place_of ports d) []) k (grown when w (known_at ports d k b)))

-- and by the points of these periods, in order
abbrev pub grow_periods : List ℕ → ℕ → ℕ → List Period → List (List Known) → List (List Known)
grow_periods ports d k [] b = b
grow_periods ports d k (r ∷ rs) b = grow_periods ports d k rs (grow_at ports d k r.when (point_of r.value) b)

-- a window meets a bound; where nothing is known, none does
abbrev pub meets_at : Window → Option Window → Bool
meets_at w None = false
meets_at w (Some x) = meets x w

-- what may stand behind the port at that stamp meets the window
abbrev pub may_hold : List ℕ → List (List Known) → ℕ → ℕ → Stamp → Window → Bool
may_hold ports b d k s w = meets_at w (bound_at (known_at ports d k b) s)

-- the table with all bounds trimmed to the line
abbrev pub bounds_trim : Line → List (List Known) → List (List Known)
bounds_trim l b = map (map (known.trimmed l)) b

-- the value that is read where there is no variable
abbrev pub no_value : Value
no_value = record { x = pos 0; y = pos 0 }

-- the variable is behind that port
abbrev pub is_towards : ℕ → Way → Bool
is_towards d way.Here = false
is_towards d (way.Port e) = d == e

-- the variable is behind that port; or, on this side of it, it isn't
abbrev pub stands : Bool → ℕ → Way → Bool
stands true d y = is_towards d y
stands false d y = not (is_towards d y)

-- at all stamps
abbrev pub always : Interval
always = record { from = None; until = None }

-- grown by the first values of the variables, m from i on, whose way passes the test
abbrev pub grown_first : (Way → Bool) → List Way → List Value → ℕ → ℕ → Known → Known
grown_first test ways values i zero b = b
grown_first test ways values i (suc m) b =
    grown_first test ways values (suc i) m
    (if test (get_or ways i way.Here) then grown always (point_of (get_or values i no_value)) b else b)

-- what is known of a class at first: its members' first values, of those whose way passes the test
abbrev pub first_row : (Way → Bool) → List Way → List Value → ClassRow → Known
first_row test ways values k = grown_first test ways values k.first k.count nothing_known

-- what is known of each class behind a port, or on this side of it
abbrev pub first_classes : Bool → List ClassRow → List Way → List Value → ℕ → List Known
first_classes behind classes ways values d = map (first_row (stands behind d) ways values) classes

-- behind each port: the variables whose way it is
abbrev pub first_bound : List ClassRow → List Way → List Value → List ℕ → List (List Known)
first_bound classes ways values ports = map (λ d. map (first_row (is_towards d) ways values) classes) ports

-- on this side of each port: all others
abbrev pub first_told : List ClassRow → List Way → List Value → List ℕ → List (List Known)
first_told classes ways values ports = map (λ d. map (first_row (λ y. not (is_towards d y)) ways values) classes) ports

-- a table with a place for each port and class
pub record TableOk (ports classes : ℕ) (b : List (List Known)) : Type 0 where
  pub by_port : length b ≡ ports
  pub by_class : (i : ℕ) → i < ports → length (get_or b i []) ≡ classes
