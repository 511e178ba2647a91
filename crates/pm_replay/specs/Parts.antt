-- The parts of an input: a scenario, and the lines of a journal behind it.
use Rattle.std.specs.Prelude.{ℕ, suc, ◌==◌, nat_eq, Bool, true, ◌&&◌, if◌then◌else◌, List, [], ◌∷◌, take, drop, codes}
use Rattle.std.specs.List.{starts_with}

-- these bytes begin as each journal line does
abbrev pub begins_line : List ℕ → Bool
begins_line bytes = starts_with nat_eq bytes (codes "#j ")

-- how many bytes stand before the first line that begins so; `starts` tells whether a line starts in front
abbrev pub scenario_len : Bool → List ℕ → ℕ
scenario_len starts [] = 0
scenario_len starts (b ∷ bs) = if starts && begins_line (b ∷ bs) then 0 else suc (scenario_len (b == 10) bs)

-- the scenario: what stands before that line
abbrev pub scenario_part : List ℕ → List ℕ
scenario_part input = take (scenario_len true input) input

-- the journal's text: that line and all behind it; nothing where no line begins so
abbrev pub journal_part : List ℕ → List ℕ
journal_part input = drop (scenario_len true input) input
