-- Words of bits, seen as which numbers have theirs set.
use Rattle.std.proofs.Common.{◌≡◌, ◌≢◌, ◌==◌, ◌||◌, ◌&&◌, not, inl, inr, ℕ, ◌+◌, ◌-◌, ◌*◌, ◌/◌, ◌%◌, ◌^◌, ◌<◌, ◌≤◌}
use Rattle.std.proofs.Common.{Bool, false, eqb, List, length, get_or, set, arith, ap, ap₂, sym, ◌∙◌, eq-eqb, ne_eqb}
use Rattle.std.proofs.Common.{get_or-set_same, get_or-set_other, w64}
use Rattle.std.proofs.lemmas.Bool.{cases_eq, cases_lt}
use Rattle.std.proofs.lemmas.List.{get_or_past}
use Rattle.std.proofs.lemmas.Nat.{shr-shr}
use Rattle.std.proofs.lemmas.Nat.Bits.{bit_at_set_same, bit_at_set_other, bit_at_clear_same, bit_at_clear_other}
use Rattle.std.proofs.lemmas.Nat.Bits.{bit_at-zero, bit_at_above, bit_at-lt, bit_at-trailing_zeros}
use Rattle.std.specs.Prelude.{bit_and, bit_or}
use Rattle.std.proofs.Math.Nat.{div-le_self}
use Rattle.std.specs.Int.{bit_at, bit_not, trailing_zeros}
use Rattle.pm_clp.specs.Laid.{in_set}

-- the word in which the number has its bit
abbrev pub word_of : List ℕ → ℕ → ℕ
word_of words v = get_or words (v / 64) 0

-- that word, with the number's bit first
abbrev pub from_bit : List ℕ → ℕ → ℕ
from_bit words v = word_of words v / 2 ^ (v % 64)

-- a word with the number's bit set, and with it cleared
abbrev pub with_bit : ℕ → ℕ → ℕ
with_bit v word = bit_or word (1 * 2 ^ (v % 64) % 2 ^ 64)

abbrev pub without_bit : ℕ → ℕ → ℕ
without_bit v word = bit_and word (bit_not w64 (1 * 2 ^ (v % 64) % 2 ^ 64))

-- where another word is replaced, a number's bit is as before
other-word : (words : List ℕ) (at x v : ℕ) → v / 64 ≢ at → in_set (set words at x) v ≡ in_set words v
other-word words at x v apart = ap (λ w. bit_at w (v % 64) == 1) (get_or-set_other words at (v / 64) x 0 apart)

-- where its word is replaced, it is the new one's
this-word : (words : List ℕ) (at x v : ℕ) → at < length words → v / 64 ≡ at
    → in_set (set words at x) v ≡ (bit_at x (v % 64) == 1)
this-word words at x v within here =
    ap (λ k. bit_at (get_or (set words at x) k 0) (v % 64) == 1) here
    ∙ ap (λ w. bit_at w (v % 64) == 1) (get_or-set_same words at x 0 within)

-- where a bit is set
pub word_set : (words : List ℕ) (a v : ℕ) → a / 64 < length words
    → in_set (set words (a / 64) (with_bit a (word_of words a))) v ≡ (a == v || in_set words v)
word_set words a v within =
    let word : ℕ = word_of words a in
    let new : ℕ = with_bit a word in
    let low : a % 64 < 64 = omega arith in
    let or : Bool → Bool = λ b. b || in_set words v in
    elim (cases_eq (v / 64) (a / 64)) [
      | inr apart ↦ other-word words (a / 64) new v apart
          ∙ sym (ap or (ne_eqb a v (λ e. apart (ap (λ x. x / 64) (sym e)))))
      | inl here ↦ this-word words (a / 64) new v within here ∙ elim (cases_eq (v % 64) (a % 64)) [
        | inl same ↦
            let one : bit_at new (v % 64) ≡ 1 = ap (bit_at new) same ∙ bit_at_set_same w64 word (a % 64) low in
            let is : a ≡ v = omega arith in
            eq-eqb _ 1 one ∙ sym (ap or (eq-eqb a v is))
        | inr other ↦
            let old : bit_at new (v % 64) ≡ bit_at word (v % 64) =
            bit_at_set_other w64 word (a % 64) low (v % 64) other in
            let isnt : a ≢ v = λ e. other (ap (λ x. x % 64) (sym e)) in
            ap (λ b. b == 1) (old ∙ ap (λ k. bit_at (get_or words k 0) (v % 64)) (sym here))
            ∙ sym (ap or (ne_eqb a v isnt))
      ]
    ]

-- where a bit is cleared
pub word_cleared : (words : List ℕ) (a v : ℕ) → a / 64 < length words
    → in_set (set words (a / 64) (without_bit a (word_of words a))) v ≡ (not (a == v) && in_set words v)
word_cleared words a v within =
    let word : ℕ = word_of words a in
    let new : ℕ = without_bit a word in
    let low : a % 64 < 64 = omega arith in
    let and : Bool → Bool = λ b. not b && in_set words v in
    elim (cases_eq (v / 64) (a / 64)) [
      | inr apart ↦ other-word words (a / 64) new v apart
          ∙ sym (ap and (ne_eqb a v (λ e. apart (ap (λ x. x / 64) (sym e)))))
      | inl here ↦ this-word words (a / 64) new v within here ∙ elim (cases_eq (v % 64) (a % 64)) [
        | inl same ↦
            let none : bit_at new (v % 64) ≡ 0 = ap (bit_at new) same ∙ bit_at_clear_same w64 word (a % 64) low in
            let is : a ≡ v = omega arith in
            ap (λ b. b == 1) none ∙ sym (ap and (eq-eqb a v is))
        | inr other ↦
            let old : bit_at new (v % 64) ≡ bit_at word (v % 64) =
            bit_at_clear_other w64 word (a % 64) low (v % 64) (omega arith) other in
            let isnt : a ≢ v = λ e. other (ap (λ x. x % 64) (sym e)) in
            ap (λ b. b == 1) (old ∙ ap (λ k. bit_at (get_or words k 0) (v % 64)) (sym here))
            ∙ sym (ap and (ne_eqb a v isnt))
      ]
    ]

-- behind the words no bit is set
pub past_words : (words : List ℕ) (v : ℕ) → length words ≤ v / 64 → in_set words v ≡ false
past_words words v past =
    ap (λ w. bit_at w (v % 64) == 1) (get_or_past words (v / 64) 0 past) ∙ ap (λ b. b == 1) (bit_at-zero (v % 64))

shifted : (n k j : ℕ) → bit_at (n / 2 ^ k) j ≡ bit_at n (k + j)
shifted n k j = ap (λ x. x % 2) (shr-shr n k j)

-- a bit of the word that is shifted tells of the number at that distance
bit_none : (words : List ℕ) (at v : ℕ) → at ≤ v → v < (at / 64 + 1) * 64
    → bit_at (from_bit words at) (v - at) ≡ 0 → in_set words v ≡ false
bit_none words at v from until zero =
    let here : v / 64 ≡ at / 64 = omega arith in
    let place : at % 64 + (v - at) ≡ v % 64 = omega arith in
    ap (λ b. b == 1) (ap₂ (λ k i. bit_at (get_or words k 0) i) here (sym place)
    ∙ sym (shifted (word_of words at) (at % 64) (v - at)) ∙ zero)

-- where it is 0, no number from there on up to the end of the word has its bit set
pub rest_none : (words : List ℕ) (at v : ℕ) → from_bit words at ≡ 0 → at ≤ v → v < (at / 64 + 1) * 64
    → in_set words v ≡ false
rest_none words at v zero from until =
    bit_none words at v from until (ap (λ n. bit_at n (v - at)) zero ∙ bit_at-zero (v - at))

-- else none before its lowest bit
pub lowest_first : (words : List ℕ) (at v : ℕ) → word_of words at < 2 ^ 64 → from_bit words at ≢ 0
    → at ≤ v → v < at + trailing_zeros w64 (from_bit words at) → in_set words v ≡ false
lowest_first words at v fits some from until =
    let word : ℕ = word_of words at in
    let n : ℕ = from_bit words at in
    let below : n < 2 ^ 64 = omega (arith, div-le_self word (2 ^ (at % 64))) in
    let lowest = bit_at-trailing_zeros w64 n (omega (arith, some)) below in
    let t : ℕ = trailing_zeros w64 n in
    let inside : at % 64 + t < 64 = elim (cases_lt (at % 64 + t) 64) [
      | inl is ↦ is
      | inr past ↦ absurd (omega (
        arith,
        sym lowest.1 ∙ shifted word (at % 64) t ∙ bit_at_above word 64 (at % 64 + t) fits past,
      ))
    ] in
    bit_none words at v from (omega arith) (lowest.2 (v - at) (omega arith))
