-- The look of a word, as the parser says it and as we do.
use Rattle.std.proofs.Common.{◌≡◌, ◌∙◌, ◌&&◌, ◌||◌, ℕ, suc, Bool, cond, codes, true, false, not, refl, sym, ap, [], ◌∷◌, take, drop, add-one, arith, Option, Some, None, true≢false}
use Rattle.std.specs.Prelude.{◌==◌, option_and_then, ◌+◌}
use Rattle.std.specs.List.{position_or_len}
use Rattle.std.specs.Str.{bytes_eq}
use Rattle.clap.specs.Lexer.{long_of, long_of_rest, short_of, short_of_rest, strip_byte, has_byte, name_and_value}
use Rattle.pm_words.specs.Words.{Text, cut_at_equals, begins_with_hyphen, long_word}

abbrev is_equals : ℕ → Bool
is_equals x = x == 61

-- the cut, by the place of the first `=`
abbrev cut_by : Bool → ℕ → Text → Text × Option Text
cut_by found at text = (take at text, cond found (Some (drop (at + 1) text)) None)

cut_more : (b : ℕ) (found : Bool) (at : ℕ) (text : Text) → cut_by found (suc at) (b ∷ text)
    ≡ (b ∷ (cut_by found at text).0, (cut_by found at text).1)
cut_more b found at text = ap (λ k. (b ∷ take at text, cond found (Some (drop k (b ∷ text))) None)) (add-one (suc at))
    ∙ sym (ap (λ k. (b ∷ take at text, cond found (Some (drop k text)) None)) (add-one at))

pub cut_same : (text : Text) → cut_at_equals text ≡ name_and_value text
cut_same [] = refl
cut_same (b ∷ rest) = by (b == 61) (cut_same rest)
  where
    by : (t : Bool) → cut_at_equals rest ≡ name_and_value rest
        → cond t ([], Some rest) (b ∷ (cut_at_equals rest).0, (cut_at_equals rest).1)
        ≡ cut_by (t || has_byte 61 rest) (cond (not t) (1 + position_or_len is_equals rest) 0) (b ∷ rest)
    by true same = sym (ap (λ k. ([], Some (drop k (b ∷ rest)))) (add-one 0))
    by false same =
        let one : 1 + position_or_len is_equals rest ≡ suc (position_or_len is_equals rest) = omega arith in
        ap (λ (p : Text × Option Text). (b ∷ p.0, p.1)) same
        ∙ sym (cut_more b (has_byte 61 rest) (position_or_len is_equals rest) rest)
        ∙ sym (ap (λ k. cut_by (has_byte 61 rest) k (b ∷ rest)) one)

-- a word that begins with two hyphens and is not `--`
pub long_same : (word : Text) → bytes_eq word (codes "--") ≡ false → long_word word ≡ long_of word
long_same [] d = refl
long_same (a ∷ []) d = by (a == 45)
  where
    by : (t : Bool) → None ≡ option_and_then long_of_rest (option_and_then (strip_byte 45) (cond t (Some []) None))
    by true = refl
    by false = refl
long_same (a ∷ b ∷ []) d = by (a == 45) d
  where
    second : (u : Bool) → (u && true) ≡ false → cond u (Some (cut_at_equals [])) None ≡ option_and_then long_of_rest
        (cond u (Some []) None)
    second true d = absurd (true≢false d)
    second false d = refl

    by : (t : Bool) → (t && (b == 45 && true)) ≡ false → cond (t && b == 45) (Some (cut_at_equals [])) None
        ≡ option_and_then long_of_rest (option_and_then (strip_byte 45) (cond t (Some (b ∷ [])) None))
    by true d = second (b == 45) d
    by false d = refl
long_same (a ∷ b ∷ c ∷ rest) d = by (a == 45)
  where
    second : (u : Bool) → cond u (Some (cut_at_equals (c ∷ rest))) None ≡ option_and_then long_of_rest
        (cond u (Some (c ∷ rest)) None)
    second true = ap Some (cut_same (c ∷ rest))
    second false = refl

    by : (t : Bool) → cond (t && b == 45) (Some (cut_at_equals (c ∷ rest))) None
        ≡ option_and_then long_of_rest (option_and_then (strip_byte 45) (cond t (Some (b ∷ c ∷ rest)) None))
    by true = second (b == 45)
    by false = refl

-- ---- a word that begins with no hyphen

pub no_dash : (word : Text) → begins_with_hyphen word ≡ false → bytes_eq word (codes "--") ≡ false
no_dash [] h = refl
no_dash (b ∷ rest) h = ap (λ t. t && bytes_eq rest (codes "-")) h

pub no_long : (word : Text) → begins_with_hyphen word ≡ false → long_of word ≡ None
no_long [] h = refl
no_long (b ∷ rest) h = ap (λ t. option_and_then long_of_rest (option_and_then (strip_byte 45)
    (cond t (Some rest) None))) h

pub no_short_word : (word : Text) → begins_with_hyphen word ≡ false → short_of word ≡ None
no_short_word [] h = refl
no_short_word (b ∷ rest) h = ap (λ t. option_and_then short_of_rest (cond t (Some rest) None)) h
