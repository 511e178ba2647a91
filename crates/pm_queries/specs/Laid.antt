-- How the registered queries are laid out: those of each class by themselves, in order, and where each number stands.
use Rattle.std.specs.Prelude.{ℕ, suc, ◌≡◌, ◌==◌, Bool, true, false, ◌&&◌, ◌||◌, if◌then◌else◌}
use Rattle.std.specs.Prelude.{List, [], ◌∷◌, filter, Option, Some, None}
use Rattle.std.specs.List.{AllByRecursion}
use Rattle.std.specs.declared.cmp.Ordering.{Ordering}
use Rattle.std.specs.Ordering.{nat_cmp, ordering_then}
use Rattle.pm_base.specs.Stamps.{is_below, num_eq}
use Rattle.pm_base.specs.declared.stamp.Line.{Line}
use Rattle.pm_base.specs.declared.stamp.Num.{Num}
use Rattle.pm_periods.specs.Rows.{AreDistinct, key_lt}
use Rattle.pm_periods.specs.declared.rows.RowKey.{RowKey}
use Rattle.pm_queries.specs.Queries.{add_reg, has, has_reg, registered_key, without}
use Rattle.pm_queries.specs.declared.registered.Registered.{Registered}
use Rattle.pm_queries.specs.declared.registered.Spot.{Spot}

-- the queries, each put in its place among those
abbrev pub add_regs : List Registered → List Registered → List Registered
add_regs [] done = done
add_regs (r ∷ rs) done = add_reg r (add_regs rs done)

-- the queries of all classes, in order of (stamp, number)
abbrev pub merged : List (List Registered) → List Registered
merged [] = []
merged (c ∷ cs) = add_regs c (merged cs)

-- the class and stamp of a query
abbrev pub spot : Registered → Spot
spot r = record { class = r.class; stamp = r.stamp }

-- the class and stamp of the first query of a number
abbrev pub spot_of : Num → List Registered → Option Spot
spot_of n [] = None
spot_of n (r ∷ rs) = if num_eq n r.num then Some (spot r) else spot_of n rs

-- each query stands before those behind it
abbrev pub IsRising : List Registered → Type 0
IsRising [] = Unit {0}
IsRising (r ∷ rs) =
    AllByRecursion (λ (x : Registered). key_lt (registered_key r) (registered_key x) ≡ true) rs × IsRising rs

-- each of these lists holds queries of its own class: the first those of class k, and so on
abbrev pub OwnFrom : ℕ → List (List Registered) → Type 0
OwnFrom k [] = Unit {0}
OwnFrom k (c ∷ cs) = AllByRecursion (λ (r : Registered). r.class ≡ k) c × OwnFrom (suc k) cs

-- in each list the queries rise
abbrev pub AllRise : List (List Registered) → Type 0
AllRise [] = Unit {0}
AllRise (c ∷ cs) = IsRising c × AllRise cs

-- each class has its own queries in order, each number stands once, and the look-up knows where
pub record IsLaid (classes : List (List Registered)) (look : Num → Option Spot) : Type 0 where
  pub own : OwnFrom 0 classes
  pub rising : AllRise classes
  pub distinct : AreDistinct registered_key (merged classes)
  pub known : (n : Num) → look n ≡ spot_of n (merged classes)

-- what comparing two numbers answers
abbrev pub num_cmp : Num → Num → Ordering
num_cmp a b = ordering_then (nat_cmp a.agent b.agent) (nat_cmp a.seq b.seq)

-- how many queries of a rising list don't stand after that key
abbrev pub up_to : RowKey → List Registered → ℕ
up_to k [] = 0
up_to k (r ∷ rs) = if key_lt k (registered_key r) then 0 else suc (up_to k rs)

-- how many stand before it
abbrev pub before : RowKey → List Registered → ℕ
before k [] = 0
before k (r ∷ rs) = if key_lt (registered_key r) k then suc (before k rs) else 0

-- the two stand at one place in one class
pub record IsSame (a b : Registered) : Type 0 where
  pub key : registered_key a ≡ registered_key b
  pub class : a.class ≡ b.class

-- as many queries, at the same places
abbrev pub SameRows : List Registered → List Registered → Type 0
SameRows [] [] = Unit {0}
SameRows [] (y ∷ ys) = ⊥
SameRows (x ∷ xs) [] = ⊥
SameRows (x ∷ xs) (y ∷ ys) = IsSame x y × SameRows xs ys

-- some query of that number is below the line, in one of these lists
abbrev pub drops : Num → Line → List (List Registered) → Bool
drops n l [] = false
drops n l (c ∷ cs) = has_reg n (filter (λ (r : Registered). is_below r.stamp l) c) || drops n l cs

-- the port is taken off where the query waits for it
abbrev pub unwaited : ℕ → Registered → Registered
unwaited d r = if has d r.waits then record r { waits = without d r.waits } else r

-- so of the query of that number, of class k
abbrev pub unwaited_in : ℕ → Num → ℕ → Registered → Registered
unwaited_in k n d r = if k == r.class && num_eq n r.num then unwaited d r else r

-- empty lists were appended
abbrev pub HasRoom : List (List Registered) → List (List Registered) → Type 0
HasRoom [] [] = Unit {0}
HasRoom [] (d ∷ ds) = (d ≡ []) × HasRoom [] ds
HasRoom (c ∷ cs) [] = ⊥
HasRoom (c ∷ cs) (d ∷ ds) = (d ≡ c) × HasRoom cs ds
