-- What may stand as a name.
use Rattle.std.specs.Prelude.{ℕ, ◌==◌, ◌&&◌, ◌||◌, List, [], ◌∷◌, Bool, false, nat_le, length}
use Rattle.std.specs.Prelude.{codes}
use Rattle.std.specs.List.{list_all}
use Rattle.std.specs.Str.{bytes_eq}

-- a letter a to z
abbrev pub is_lower : ℕ → Bool
is_lower b = nat_le 97 b && nat_le b 122

-- a letter a to z, a digit or `_`
abbrev pub is_word : ℕ → Bool
is_word b = (is_lower b || (nat_le 48 b && nat_le b 57)) || (b == 95)

-- whether the first byte is a letter a to z
abbrev pub starts_lower : List ℕ → Bool
starts_lower [] = false
starts_lower (b ∷ bs) = is_lower b

-- 1 to 32 bytes: a letter a to z, then letters a to z, digits and `_`
unfoldable pub is_name : List ℕ → Bool
is_name bytes = (nat_le (length bytes) 32 && starts_lower bytes) && list_all is_word bytes

-- the words of the rule language that name no register and no sense
unfoldable pub is_reserved : List ℕ → Bool
is_reserved bytes =
    bytes_eq bytes (codes "reg") || bytes_eq bytes (codes "read") || bytes_eq bytes (codes "scan") ||
    bytes_eq bytes (codes "let") || bytes_eq bytes (codes "if") || bytes_eq bytes (codes "else") ||
    bytes_eq bytes (codes "end") || bytes_eq bytes (codes "set") || bytes_eq bytes (codes "wait") ||
    bytes_eq bytes (codes "now") || bytes_eq bytes (codes "me") || bytes_eq bytes (codes "min") ||
    bytes_eq bytes (codes "max")
