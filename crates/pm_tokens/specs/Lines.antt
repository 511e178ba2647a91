-- The lines of a text, and what a line says.
use Rattle.std.specs.Prelude.{◌≡◌, ◌++◌, ℕ, ◌+◌, ◌-◌, ◌==◌, false, if◌then◌else◌, List}
use Rattle.std.specs.Prelude.{[], ◌∷◌, take, length, slice_index}
use Rattle.std.specs.List.{AllByRecursion}

-- a byte in front of the first line
abbrev pub onto_first : ℕ → List (List ℕ) → List (List ℕ)
onto_first b [] = (b ∷ []) ∷ []
onto_first b (l ∷ ls) = (b ∷ l) ∷ ls

-- the pieces between line feeds
unfoldable pub lines_of : List ℕ → List (List ℕ)
lines_of [] = [] ∷ []
lines_of (b ∷ t) = if b == 10 then [] ∷ lines_of t else onto_first b (lines_of t)

-- lines with a line feed between each and the next
abbrev pub joined : List (List ℕ) → List ℕ
joined [] = []
joined (l ∷ []) = l
joined (l ∷ m ∷ ls) = l ++ (10 ∷ joined (m ∷ ls))

-- the byte is no line feed
abbrev pub IsNoFeed : ℕ → Type 0
IsNoFeed b = (b == 10) ≡ false

-- no byte of it is a line feed
abbrev pub IsOneLine : List ℕ → Type 0
IsOneLine l = AllByRecursion IsNoFeed l

-- how many bytes stand before a line feed
abbrev pub line_len : List ℕ → ℕ
line_len [] = 0
line_len (b ∷ t) = if b == 10 then 0 else line_len t + 1

-- a line without one carriage return at its end
unfoldable pub without_return : List ℕ → List ℕ
without_return l = if slice_index l (length l - 1) == 13 then take (length l - 1) l else l

-- how many bytes stand before a comment
abbrev pub code_len : List ℕ → ℕ
code_len [] = 0
code_len (b ∷ t) = if b == 35 then 0 else code_len t + 1

-- what a line says: all before its comment
unfoldable pub code : List ℕ → List ℕ
code l = let told = without_return l in take (code_len told) told
