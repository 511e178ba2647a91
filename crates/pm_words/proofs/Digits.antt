-- Texts of digits, as `parse` reads them.
use Rattle.std.proofs.Common.{◌≡◌, ◌∙◌, ◌&&◌, ◌<◌, ◌≤◌, ◌^◌, ℕ, Bool, cond, true, false, refl, sym, ap, subst, arith, [], ◌∷◌, length, drop, Some, None, Result, Ok, Err, nat_lt, true≢false, lt-ltb, ltb-true}
use Rattle.std.specs.Prelude.{◌==◌, nat_le, slice_index}
use Rattle.std.specs.List.{list_all}
use Rattle.std.specs.Char.{is_ascii_digit, digit_value}
use Rattle.std.specs.Str.Parse.{AllDigits, IsNumeral, ParsesUnsigned, digits_value, without_leading_plus}
use Rattle.std.proofs.lemmas.Bool.{leb-true, eqb-true}
use Rattle.std.proofs.lemmas.Str.{digit_value_digit}
use Rattle.pm_words.specs.Rows.{number_below}
use Rattle.pm_words.specs.Words.{Text, is_digits}

both : (a b : Bool) → (a && b) ≡ true → (a ≡ true) × (b ≡ true)
both true b h = (refl, h)
both false b h = absurd (true≢false (sym h))

abbrev IsDigit : ℕ → Type 0
IsDigit c = (48 ≤ c) × (c ≤ 57)

digit : (c : ℕ) → is_ascii_digit c ≡ true → IsDigit c
digit c h = let p = both (nat_le 48 c) (nat_le c 57) h in (leb-true 48 c p.0, leb-true c 57 p.1)

low : (c : ℕ) → IsDigit c → digit_value c < 10
low c h = omega (arith, digit_value_digit c h, h.1)

all_digits : (ds : Text) → list_all is_ascii_digit ds ≡ true → AllDigits 10 ds
all_digits [] h = tt
all_digits (c ∷ cs) h = let p = both (is_ascii_digit c) (list_all is_ascii_digit cs) h in
    (low c (digit c p.0), all_digits cs p.1)

abbrev without : ℕ → Text → Text
without n ds = drop n ds

no_plus : (ds : Text) → list_all is_ascii_digit ds ≡ true → without_leading_plus ds ≡ ds
no_plus [] h = by (slice_index [] 0 == 43)
  where
    by : (t : Bool) → without (cond t 1 0) [] ≡ []
    by true = refl
    by false = refl
no_plus (c ∷ cs) h = by (c == 43) refl
  where
    by : (t : Bool) → (c == 43) ≡ t → without (cond t 1 0) (c ∷ cs) ≡ c ∷ cs
    by true is =
        let p = both (is_ascii_digit c) (list_all is_ascii_digit cs) h in
        absurd (omega (arith, eqb-true c 43 is, (digit c p.0).0))
    by false is = refl

numeral : (text : Text) → is_digits text ≡ true → IsNumeral 10 text
numeral text h =
    let p = both (list_all is_ascii_digit text) (nat_le 1 (length text) && nat_le (length text) 20) h in
    let q = both (nat_le 1 (length text)) (nat_le (length text) 20) p.1 in
    (leb-true 1 (length text) q.0, all_digits text p.0)

abbrev pub Reads : {E : Type 0} → Text → Result ℕ E → Type 0
Reads text (Ok n) = Some n ≡ number_below text
Reads text (Err e) = None ≡ number_below text

reads : {E : Type 0} (text : Text) (r : Result ℕ E) → is_digits text ≡ true → ParsesUnsigned 64 10 text r → Reads text r
reads text (Ok n) h g =
    let p = both (list_all is_ascii_digit text) (nat_le 1 (length text) && nat_le (length text) 20) h in
    let same = ap (digits_value 10) (no_plus text p.0) in
    let under : nat_lt (digits_value 10 text) 18446744073709551616 ≡ true = ap (λ k. nat_lt k 18446744073709551616)
    (sym same) ∙ lt-ltb _ (2 ^ 64) g.0.1 in
    ap Some (g.1 ∙ same) ∙ sym (ap (λ t. cond t (Some (digits_value 10 text)) None) under)
reads text (Err e) h g = by (nat_lt (digits_value 10 text) 18446744073709551616) refl
  where
    plain : without_leading_plus text ≡ text
    plain = no_plus text (both (list_all is_ascii_digit text) (nat_le 1 (length text) && nat_le (length text) 20) h).0

    by : (t : Bool) → nat_lt (digits_value 10 text) 18446744073709551616 ≡ t → None
        ≡ cond t (Some (digits_value 10 text)) None
    by true is = absurd (g (subst (λ ds. IsNumeral 10 ds × (digits_value 10 ds < 2 ^ 64)) (sym plain)
        (numeral text h, ltb-true _ _ is)))
    by false is = refl

pub read_ok : {E : Type 0} (text : Text) (r : Result ℕ E) (n : ℕ) → r ≡ Ok n → is_digits text ≡ true → ParsesUnsigned 64
    10 text r → Some n ≡ number_below text
read_ok text r n is h g = subst (Reads text) is (reads text r h g)

pub read_err : {E : Type 0} (text : Text) (r : Result ℕ E) (e : E) → r ≡ Err e → is_digits text ≡ true → ParsesUnsigned
    64 10 text r → None ≡ number_below text
read_err text r e is h g = subst (Reads text) is (reads text r h g)
