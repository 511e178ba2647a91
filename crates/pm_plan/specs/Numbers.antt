-- The least number that passes a test, and the numbers of names.
use Rattle.std.specs.Prelude.{ℕ, zero, suc, ◌+◌, Bool, not, if◌then◌else◌, List, [], ◌∷◌, length}
use Rattle.std.specs.Prelude.{take, get_or, Option, Some, None, is_some}
use Rattle.std.specs.Str.{bytes_eq}
use Rattle.pm_base.specs.Names.{is_name}

-- the least of the n numbers from i on that passes
abbrev pub least_from : (ℕ → Bool) → ℕ → ℕ → Option ℕ
least_from passes i zero = None
least_from passes i (suc n) = if passes i then Some i else least_from passes (i + 1) n

-- the least number below n that passes
abbrev pub least : (ℕ → Bool) → ℕ → Option ℕ
least passes n = least_from passes 0 n

-- where a name stands first among these, the first of them counted as i
abbrev pub first_from : ℕ → List (List ℕ) → List ℕ → Option ℕ
first_from i [] name = None
first_from i (n ∷ ns) name = if bytes_eq name n then Some i else first_from (i + 1) ns name

-- the number of a name: where it stands first
unfoldable pub number_of : List (List ℕ) → List ℕ → Option ℕ
number_of names name = first_from 0 names name

-- the name of that number; no bytes where there is none
abbrev pub name_at : List (List ℕ) → ℕ → List ℕ
name_at names i = get_or names i []

-- the least index whose name is no name
unfoldable pub first_wrong : List (List ℕ) → Option ℕ
first_wrong names = least (λ i. not (is_name (name_at names i))) (length names)

-- the least index whose name stands at a lower index
unfoldable pub first_repeat : List (List ℕ) → Option ℕ
first_repeat names = least (λ i. is_some (number_of (take i names) (name_at names i))) (length names)

-- a number that is there, or this one
abbrev pub or_here : Option ℕ → Bool → ℕ → Option ℕ
or_here (Some k) here i = Some k
or_here None here i = if here then Some i else None
