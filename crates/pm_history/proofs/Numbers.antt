-- A number that is written is read back, and what is read as a number was written.
use Rattle.std.proofs.Common.{rules, ◌≡◌, ◌∙◌, refl, sym, ap, arith, ℕ, ◌+◌, ◌-◌, ◌*◌, ◌^◌, ◌<◌, ◌≤◌, nat_le, Bool, true, false, cond, not, List, [], ◌∷◌, ◌++◌, length, get_or, take, drop, Some, None, slice_index, ◌⊎◌, inl, inr, add-one}
use Rattle.std.specs.Prelude.{◌==◌, option_map}
use Rattle.std.specs.Char.{is_ascii_digit}
use Rattle.std.specs.Fmt.{decimal}
use Rattle.std.specs.Str.{all_ascii_digits}
use Rattle.std.proofs.lemmas.Bool.Decides.{nat_tests}
use Rattle.std.proofs.lemmas.Fmt.{decimal-digits_value, decimal_digit, decimal_nonempty, digits_decimal, digits_value-decimal, first_decimal}
use Rattle.std.proofs.lemmas.Grind.{common_steps}
use Rattle.std.proofs.lemmas.List.{drop_at, drop_more, take_at, take-append-drop}
use Rattle.std.proofs.lemmas.Str.Parse.{IsNumeralModel, numerals_by_fold}
use Rattle.pm_history.specs.Scans.{at_most, digits_len, is_plain, number_at, number_in, value_after}

-- digits, and the number that they write
own : IsNumeralModel (λ ds. all_ascii_digits ds ≡ true) (value_after 0)
own = numerals_by_fold _ (search rules) value_after (search rules)

-- no digit stands at the front
abbrev pub BeginsOtherwise : List ℕ → Type 0
BeginsOtherwise t = is_ascii_digit (slice_index t 0) ≡ false

pub some_same : {A : Type 0} (a b : A) → Some a ≡ Some b → a ≡ b
some_same a b h = cc

pub none_some : {A X : Type 0} (a : A) → None ≡ Some a → X
none_some a h = absurd (cc)

-- ---- the run of digits at the front

run_digits : (t : List ℕ) → all_ascii_digits (take (digits_len t) t) ≡ true
run_digits [] = refl
run_digits (b ∷ t) = by (run_digits t) (is_ascii_digit b) refl
  where
    by : all_ascii_digits (take (digits_len t) t) ≡ true → (d : Bool) → is_ascii_digit b ≡ d
        → all_ascii_digits (take (cond d (digits_len t + 1) 0) (b ∷ t)) ≡ true
    by more true is = rw (add-one, is) more
    by more false is = refl

no_run : (rest : List ℕ) → BeginsOtherwise rest → digits_len rest ≡ 0
no_run [] e = refl
no_run (b ∷ t) e = rw e refl

run_whole : (ds rest : List ℕ) → all_ascii_digits ds ≡ true → BeginsOtherwise rest → digits_len (ds ++ rest) ≡ length ds
run_whole [] rest h e = no_run rest e
run_whole (b ∷ ds) rest h e =
    let here : is_ascii_digit b ≡ true = grind (arith, nat_tests) in
    let more : all_ascii_digits ds ≡ true = grind (arith, nat_tests) in
    rw (here, run_whole ds rest more e) (omega arith)

-- ---- what is read was written

-- the digits are the number's own, and nothing else was read
record Is (most : ℕ) (ds rest : List ℕ) (r : ℕ × List ℕ) : Type 0 where
  written : ds ≡ decimal r.0
  rest_is : rest ≡ r.1
  within : r.0 ≤ most

plain_sound : (most : ℕ) (ds rest : List ℕ) (r : ℕ × List ℕ) → most < 2 ^ 64 → all_ascii_digits ds ≡ true
    → 0 < length ds
    → (get_or ds 0 0 ≡ 48 → length ds ≡ 1) → option_map (λ n. (n, rest)) (at_most most ds) ≡ Some r → Is most ds rest r
unfolding at_most
plain_sound most ds rest r few p some lead = by (nat_le (value_after 0 ds) most) refl
  where
    by : (t : Bool) → nat_le (value_after 0 ds) most ≡ t
        → option_map (λ n. (n, rest)) (cond t (Some (value_after 0 ds)) None) ≡ Some r → Is most ds rest r
    by true is h =
        let low : value_after 0 ds ≤ most = grind (arith, nat_tests) in
        let same : (value_after 0 ds, rest) ≡ r = some_same _ _ h in
        let number : value_after 0 ds ≡ r.0 = ap (λ (x : ℕ × List ℕ). x.0) same in
        record {
          written = sym (decimal-digits_value own ds p some lead (omega arith)) ∙ ap decimal number;
          rest_is = ap (λ (x : ℕ × List ℕ). x.1) same;
          within = omega arith;
        }
    by false is h = none_some r h

in_sound : (most : ℕ) (ds rest : List ℕ) (r : ℕ × List ℕ) → most < 2 ^ 64 → all_ascii_digits ds ≡ true
    → number_in most ds rest ≡ Some r → Is most ds rest r
in_sound most [] rest r few p h = none_some r h
in_sound most (b ∷ []) rest r few p h = plain_sound most (b ∷ []) rest r few p (omega arith) (λ _. refl) h
in_sound most (b ∷ c ∷ ds) rest r few p h = by (b == 48) refl h
  where
    by : (t : Bool) → (b == 48) ≡ t
        → cond (not t) (option_map (λ n. (n, rest)) (at_most most (b ∷ c ∷ ds))) None ≡ Some r → Is most (b ∷ c ∷ ds)
        rest r
    by true is h = none_some r h
    by false is h = plain_sound most (b ∷ c ∷ ds) rest r few p (omega arith)
        (λ zero. absurd (grind (arith, nat_tests, is))) h

-- a number that is read stands at the front
pub record IsNumber (most : ℕ) (text : List ℕ) (r : ℕ × List ℕ) : Type 0 where
  pub cut : text ≡ decimal r.0 ++ r.1
  pub within : r.0 ≤ most

pub number_sound : (most : ℕ) (text : List ℕ) (r : ℕ × List ℕ) → most < 2 ^ 64 → number_at most text ≡ Some r
    → IsNumber most text r
unfolding number_at
number_sound most text r few h =
    let found = in_sound most (take (digits_len text) text) (drop (digits_len text) text) r few (run_digits text) h in
    record {
      cut = sym (take-append-drop (digits_len text) text) ∙ ap (λ ds. ds ++ drop (digits_len text) text) found.written
          ∙ ap (λ u. decimal r.0 ++ u) found.rest_is;
      within = found.within;
    }

-- ---- what is written is read

plain_first : (ds : List ℕ) → 0 < length ds → (length ds ≡ 1) ⊎ (48 < get_or ds 0 0) → is_plain ds ≡ true
plain_first [] some h = absurd (omega arith)
plain_first (b ∷ []) some h = refl
plain_first (b ∷ c ∷ ds) some (inl h) = absurd (omega arith)
plain_first (b ∷ c ∷ ds) some (inr h) = let differs : (b == 48) ≡ false = grind (arith, nat_tests) in rw differs refl

decimal_plain : (n : ℕ) → n < 2 ^ 64 → is_plain (decimal n) ≡ true
decimal_plain n few = plain_first (decimal n) (decimal_nonempty n few) (by (n == 0) refl)
  where
    by : (t : Bool) → (n == 0) ≡ t → (length (decimal n) ≡ 1) ⊎ (48 < get_or (decimal n) 0 0)
    by true is = let none : n < 10 = grind (arith, nat_tests) in inl (ap length (decimal_digit n none))
    by false is = let more : 0 < n = grind (arith, nat_tests) in inr (first_decimal n more few)

pub number_whole : (most n : ℕ) (rest : List ℕ) → most < 2 ^ 64 → n ≤ most → BeginsOtherwise rest
    → number_at most (decimal n ++ rest) ≡ Some (n, rest)
unfolding number_at at_most
number_whole most n rest few low e =
    let small : n < 2 ^ 64 = omega arith in
    let value : value_after 0 (decimal n) ≡ n = digits_value-decimal own n small in
    let within : nat_le n most ≡ true = grind (arith, nat_tests) in
    rw (
      run_whole (decimal n) rest (digits_decimal own n small) e,
      take_at (decimal n) rest (length (decimal n)) refl,
      drop_at (decimal n) rest (length (decimal n)) refl,
      decimal_plain n small,
      value,
      within,
    ) refl

-- digits never make a number less
value_after-le : (n : ℕ) (cs : List ℕ) → n ≤ value_after n cs
value_after-le n [] = omega arith
value_after-le n (c ∷ cs) = omega (arith, value_after-le (n * 10 + (c - 48)) cs)

-- a number that is past the most it may be stays so
pub past : (most n : ℕ) (text : List ℕ) (i d : ℕ) → i < length text → value_after 0 text ≡ value_after n (drop i text)
    → most < n * 10 + (get_or text i d - 48) → at_most most text ≡ None
unfolding at_most
past most n text i d h e big =
    let step : value_after n (drop i text) ≡ value_after (n * 10 + (get_or text i d - 48)) (drop (i + 1) text) =
    rw (drop_more text i d h) in
    let all : most < value_after 0 text =
    omega (arith, e, step, value_after-le (n * 10 + (get_or text i d - 48)) (drop (i + 1) text)) in
    grind (arith, common_steps)
