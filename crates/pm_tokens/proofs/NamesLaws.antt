-- Names and other texts of bytes below 128.
use Rattle.std.proofs.Common.{◌≡◌, arith, ℕ, zero, suc, ◌<◌, nat_lt, Bool, true, List, [], ◌∷◌}
use Rattle.std.specs.List.{list_all}
use Rattle.std.specs.Str.{IsAscii, is_utf8}
use Rattle.std.proofs.lemmas.Bool.Decides.{nat_tests}
use Rattle.std.proofs.lemmas.Str.{IsUtf8-from_ascii, is_utf8-from_IsUtf8}
use Rattle.pm_base.specs.Names.{is_name, is_word}

all_low : (p : ℕ → Bool) → ((b : ℕ) → p b ≡ true → b < 128) → (bs : List ℕ) → list_all p bs ≡ true → IsAscii bs
all_low p low [] h i = omega arith
all_low p low (b ∷ bs) h zero = low b (grind (arith, nat_tests))
all_low p low (b ∷ bs) h (suc i) = all_low p low bs (grind (arith, nat_tests)) i

word_low : (b : ℕ) → is_word b ≡ true → b < 128
word_low b e = grind (arith, nat_tests)

-- a name's bytes are below 128
pub name_low : (w : List ℕ) → is_name w ≡ true → IsAscii w
unfolding is_name
name_low w e = all_low is_word word_low w (grind (arith, nat_tests))

abbrev pub is_low : ℕ → Bool
is_low b = nat_lt b 128

low_low : (b : ℕ) → is_low b ≡ true → b < 128
low_low b e = grind (arith, nat_tests)

-- bytes below 128 are text
pub low_utf8 : (bs : List ℕ) → list_all is_low bs ≡ true → is_utf8 bs ≡ true
low_utf8 bs e = is_utf8-from_IsUtf8 bs (IsUtf8-from_ascii bs (all_low is_low low_low bs e))
