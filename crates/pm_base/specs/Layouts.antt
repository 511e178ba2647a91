-- Classes of variables.
use Rattle.std.specs.Prelude.{◌≡◌, ℕ, suc, ◌+◌, ◌==◌, ◌≤◌, ◌<◌, ◌^◌, nat_lt, ℤ, pos}
use Rattle.std.specs.Prelude.{unsigned_abs, if◌then◌else◌, List, [], ◌∷◌, length, slice_index_or}
use Rattle.std.specs.Int.{int_rem_euclid}
use Rattle.pm_base.specs.declared.layout.ClassRow.{ClassRow}
use Rattle.pm_base.specs.declared.layout.Layout.{Layout}

-- these classes follow one another without a gap, from variable n on, and end below 2 ^ 32
abbrev pub Follow : ℕ → List ClassRow → Type 0
Follow n [] = n < 2 ^ 32
Follow n (c ∷ cs) = (c.first ≡ n) × Follow (n + c.count) cs

-- what every layout of a plan is
pub record IsLayout (layout : Layout) : Type 0 where
  pub few : length layout.classes < 2 ^ 32
  pub follow : Follow 0 layout.classes

-- the class of that number; one without members where there is none
abbrev pub class_row : List ClassRow → ℕ → ClassRow
class_row classes class = slice_index_or classes class (record { first = 0; count = 0 })

-- the member that an index names: the Euclidean remainder by the class's count is its place
abbrev pub member_of : ClassRow → ℤ → ℕ
member_of row e = if row.count == 0 then row.first else row.first + unsigned_abs (int_rem_euclid e (pos row.count))

-- how many variables these classes have
abbrev pub var_count : List ClassRow → ℕ
var_count [] = 0
var_count (c ∷ cs) = c.count + var_count cs

-- the variable is one of the class's members
pub record IsMember (row : ClassRow) (var : ℕ) : Type 0 where
  pub first : row.first ≤ var
  pub last : var < row.first + row.count

-- the first class that ends past the variable; how many classes there are where none does
abbrev pub class_of : List ClassRow → ℕ → ℕ
class_of [] var = 0
class_of (c ∷ cs) var = if nat_lt var (c.first + c.count) then 0 else suc (class_of cs var)

-- the variable is a member of the class of this number, and of no other class
pub record IsClassOf (classes : List ClassRow) (var class : ℕ) : Type 0 where
  pub exists : class < length classes
  pub member : IsMember (class_row classes class) var
  pub only : (k : ℕ) → IsMember (class_row classes k) var → k ≡ class
