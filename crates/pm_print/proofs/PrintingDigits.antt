-- The digits of a number are read back as that number.
use Rattle.std.proofs.Common.{◌≡◌, refl, arith, ℕ, ◌+◌, ◌-◌, ◌*◌, ◌/◌, ◌%◌, ◌^◌, ◌<◌, ◌≤◌, nat_le, List, [], ◌∷◌, ◌++◌, length, true, false, Some, slice_index, take_at}
use Rattle.std.specs.Prelude.{◌==◌}
use Rattle.std.specs.List.{list_all}
use Rattle.std.specs.Fmt.{decimal}
use Rattle.std.proofs.lemmas.Bool.Decides.{nat_tests}
use Rattle.std.proofs.lemmas.Fmt.{decimal_by_steps}
use Rattle.std.proofs.lemmas.List.{length_push}
use Rattle.std.proofs.lemmas.List.Folds.{list_all-append}
use Rattle.pm_base.specs.Names.{is_lower, is_word}
use Rattle.pm_tokens.specs.Lexing.{is_digit, word_len, digits_len, value_after, at_most, digits}

pub value_after-append : (n : ℕ) (xs ys : List ℕ) → value_after n (xs ++ ys) ≡ value_after (value_after n xs) ys
value_after-append n [] ys = refl
value_after-append n (x ∷ xs) ys = value_after-append (n * 10 + (x - 48)) xs ys

-- digits, at least one, that write this number
pub record Writes (n : ℕ) (ds : List ℕ) : Type 0 where
  pub digits : list_all is_digit ds ≡ true
  pub value : value_after 0 ds ≡ n
  pub some : 0 < length ds

digit_of : (d : ℕ) → d < 10 → is_digit (48 + d) ≡ true
digit_of d h = grind (arith, nat_tests)

one_digit : (n : ℕ) → n < 10 → Writes n ((48 + n) ∷ [])
one_digit n h = record { digits = rw (digit_of n h) refl; value = omega arith; some = omega arith }

more_digits : (n : ℕ) (ds : List ℕ) → 10 ≤ n → Writes (n / 10) ds → Writes n (ds ++ ((48 + n % 10) ∷ []))
more_digits n ds h w = record {
  digits = rw (list_all-append is_digit ds ((48 + n % 10) ∷ []), w.digits, digit_of (n % 10) (omega arith)) refl;
  value = let cut = value_after-append 0 ds ((48 + n % 10) ∷ []) in omega (arith, cut, w.value);
  some = let push = length_push ds (48 + n % 10) in omega (arith, push);
}

pub decimal_writes : (n : ℕ) → n < 2 ^ 64 → Writes n (decimal n)
decimal_writes = decimal_by_steps Writes one_digit more_digits

pub digit_word : (b : ℕ) → is_digit b ≡ true → is_word b ≡ true
digit_word b e = grind (arith, nat_tests)

pub digit_not_lower : (b : ℕ) → is_digit b ≡ true → is_lower b ≡ false
digit_not_lower b e = grind (arith, nat_tests)

pub not_word_not_digit : (b : ℕ) → is_word b ≡ false → is_digit b ≡ false
not_word_not_digit b e = grind (arith, nat_tests)

-- no byte of a name stands at the front
pub no_word : (rest : List ℕ) → is_word (slice_index rest 0) ≡ false → word_len rest ≡ 0
no_word [] e = refl
no_word (b ∷ t) e = rw e refl

pub no_digit : (rest : List ℕ) → is_word (slice_index rest 0) ≡ false → digits_len rest ≡ 0
no_digit [] e = refl
no_digit (b ∷ t) e = rw (not_word_not_digit b e) refl

-- a run of bytes of a name, and of digits, ends where none follows
pub word_len-append : (w rest : List ℕ) → list_all is_word w ≡ true → is_word (slice_index rest 0) ≡ false →
    word_len (w ++ rest) ≡ length w
word_len-append [] rest h e = no_word rest e
word_len-append (b ∷ w) rest h e =
    let here : is_word b ≡ true = grind (arith, nat_tests) in
    let more : list_all is_word w ≡ true = grind (arith, nat_tests) in
    rw (here, word_len-append w rest more e) (omega arith)

pub digits_len-append : (ds rest : List ℕ) → list_all is_digit ds ≡ true → is_word (slice_index rest 0) ≡ false →
    digits_len (ds ++ rest) ≡ length ds
digits_len-append [] rest h e = no_digit rest e
digits_len-append (b ∷ ds) rest h e =
    let here : is_digit b ≡ true = grind (arith, nat_tests) in
    let more : list_all is_digit ds ≡ true = grind (arith, nat_tests) in
    rw (here, digits_len-append ds rest more e) (omega arith)

pub digits_words : (ds : List ℕ) → list_all is_digit ds ≡ true → list_all is_word ds ≡ true
digits_words [] h = refl
digits_words (b ∷ ds) h =
    let here : is_digit b ≡ true = grind (arith, nat_tests) in
    let more : list_all is_digit ds ≡ true = grind (arith, nat_tests) in
    rw (digit_word b here, digits_words ds more) refl

le_true : (a b : ℕ) → a ≤ b → nat_le a b ≡ true
le_true a b h = grind (arith, nat_tests)

eq_true : (a b : ℕ) → a ≡ b → (a == b) ≡ true
eq_true a b h = grind (arith, nat_tests)

-- digits that write a number are read as it, where nothing goes on with them
pub digits_read : (most n : ℕ) (ds rest : List ℕ) → Writes n ds → n ≤ most → is_word (slice_index rest 0) ≡ false →
    digits most (ds ++ rest) ≡ Some (n, length ds)
unfolding digits at_most
digits_read most n ds rest w h e = rw (
  digits_len-append ds rest w.digits e,
  word_len-append ds rest (digits_words ds w.digits) e,
  eq_true (length ds) (length ds) refl,
  take_at ds rest (length ds) refl,
  w.value,
  le_true n most h,
) refl
