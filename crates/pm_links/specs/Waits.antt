-- Lists that are cut before their end.
use Rattle.std.specs.Prelude.{◌≡◌, ℕ, ◌-◌, List, ◌++◌, length, take}

-- the list without its last n items
abbrev pub but_last : {A : Type 0} → ℕ → List A → List A
but_last n xs = take (length xs - n) xs

-- xs ends in ys
abbrev pub EndsIn : {A : Type 0} → List A → List A → Type 0
EndsIn xs ys = xs ≡ but_last (length ys) xs ++ ys
