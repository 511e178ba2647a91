use Rattle.std.proofs.Common.{rules, ◌≡◌, ◌≢◌, ◌<◌, ◌≤◌, ℕ, ◌+◌, ◌/◌, ◌%◌, ◌^◌, List, false}
use Rattle.std.proofs.Common.{ap, sym, ◌∙◌, subst, arith, inl, inr, w64, length, get_or}
use Rattle.std.specs.Int.{trailing_zeros}
use Rattle.std.proofs.lemmas.Bool.{cases_lt, ltb-true}
use Rattle.std.proofs.lemmas.List.{get_or_default}
use Rattle.pm_clp.specs.Laid.{in_set}
use Rattle.pm_clp.proofs.Sets.{lowest_first, rest_none, word_of}
use Rattle.pm_clp.proofs.var_set.VarSet.next.Goals as goal

-- a word that was read from the same words
read : (xs words : List ℕ) (at word : ℕ) → xs ≡ words → at / 64 < length xs → word ≡ get_or xs (at / 64) word
    → word ≡ word_of words at
read xs words at word same within is =
    is ∙ get_or_default xs (at / 64) word 0 within ∙ ap (λ ws. get_or ws (at / 64) 0) same

pub returns-then-bits-ne0-clause-least : goal.returns-then-bits-ne0-clause-least
returns-then-bits-ne0-clause-least c v low high =
    elim (cases_lt v c.loop-at.at) [
      | inl before ↦ subst (λ ws. in_set ws v ≡ false) c.self.view_is (c.loop-at.invariant.none v low before)
      | inr from ↦
          let words : List ℕ = c.self.inside.words.items in
          let word : c.in-Some.word.now ≡ word_of words c.loop-at.at =
          read c.deref.result.now words c.loop-at.at c.in-Some.word.now c.deref.ensures.value
          (ltb-true (c.loop-at.at / 64) (length c.deref.result.now) (sym c.in-Some.ensures.lookup.0))
          c.in-Some.ensures.lookup.1 in
          let place : ℕ → ℕ = λ w. w / 2 ^ (c.loop-at.at % 64) in
          subst (λ ws. in_set ws v ≡ false) c.self.view_is
          (lowest_first words c.loop-at.at v (subst (λ w. w < 2 ^ 64) word (search rules))
          (subst (λ w. place w ≢ 0) word c.if-bits-ne0.true) from
          (subst (λ w. v < c.loop-at.at + trailing_zeros w64 (place w)) word (omega (arith, high, c.min.ensures))))
    ]

pub loop-at-preserved : goal.loop-at-preserved
loop-at-preserved c = record {
  low = omega (arith, c.loop-at.invariant.low);
  none = λ v low high. elim (cases_lt v c.loop-at.at) [
    | inl before ↦ c.loop-at.invariant.none v low before
    | inr from ↦
        let words : List ℕ = c.self.inside.words.items in
        let word : c.in-Some.word.now ≡ word_of words c.loop-at.at =
        read c.deref.result.now words c.loop-at.at c.in-Some.word.now c.deref.ensures.value
        (ltb-true (c.loop-at.at / 64) (length c.deref.result.now) (sym c.in-Some.ensures.lookup.0))
        c.in-Some.ensures.lookup.1 in
        rest_none words c.loop-at.at v (subst (λ w. w / 2 ^ (c.loop-at.at % 64) ≡ 0) word c.if-bits-ne0.false) from high
  ];
}
