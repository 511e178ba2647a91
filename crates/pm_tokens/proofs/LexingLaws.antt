-- Laws of cutting a line into tokens.
use Rattle.std.proofs.Common.{◌≡◌, refl, ap, sym, ◌∙◌, arith, ℕ, zero, suc, ◌+◌, ◌-◌, ◌*◌, ◌≤◌, List, [], ◌∷◌, ◌++◌, drop, length, Option, Some, None, option_map}
use Rattle.std.proofs.Common.{◌<◌, get_or}
use Rattle.std.proofs.lemmas.List.{drop_more}
use Rattle.std.proofs.lemmas.Grind.{common_steps}
use Rattle.pm_tokens.specs.Lexing.{value_after, lex_from, at_most, lex, token, is_blank, behind}
use Rattle.pm_tokens.specs.Tokens.{Tok}
use Rattle.std.proofs.Common.{append_assoc, true, false, slice_index}

-- digits never make a number less
pub value_after-le : (n : ℕ) (cs : List ℕ) → n ≤ value_after n cs
value_after-le n [] = omega arith
value_after-le n (c ∷ cs) = omega (arith, value_after-le (n * 10 + (c - 48)) cs)

-- what is passed over is not read
pub lex_from-drop : (k : ℕ) (t : List ℕ) → lex_from k t ≡ lex_from 0 (drop k t)
lex_from-drop zero t = refl
lex_from-drop (suc k) [] = refl
lex_from-drop (suc k) (b ∷ t) = lex_from-drop k t

-- a number that is past the most it may be stays so
pub past : (most n : ℕ) (text : List ℕ) (i d : ℕ) → i < length text → value_after 0 text ≡ value_after n (drop i text) →
    most < n * 10 + (get_or text i d - 48) → at_most most text ≡ None
unfolding at_most
past most n text i d h e big =
    let step : value_after n (drop i text) ≡ value_after (n * 10 + (get_or text i d - 48)) (drop (i + 1) text) = rw (drop_more text i d h) in
    let all : most < value_after 0 text = omega (arith, e, step, value_after-le (n * 10 + (get_or text i d - 48)) (drop (i + 1) text)) in
    grind (arith, common_steps)

behind-one : (out : List Tok) (k : Tok) (more : Option (List Tok)) → behind out (option_map (λ ts. k ∷ ts) more) ≡ behind (out ++ k ∷ []) more
behind-one out k None = refl
behind-one out k (Some ts) = ap (λ (x : List Tok). Some x) (sym (append_assoc out (k ∷ []) ts))

-- one more token
pub lex-token : (out : List Tok) (rest : List ℕ) (k : Tok) (n : ℕ) → 0 < length rest → is_blank (slice_index rest 0) ≡ false →
    token rest ≡ Some (k, n) → 1 ≤ n → behind out (lex rest) ≡ behind (out ++ k ∷ []) (lex (drop n rest))
unfolding lex
lex-token out [] k n h blank e low = absurd (omega arith)
lex-token out (b ∷ t) k zero h blank e low = absurd (omega arith)
lex-token out (b ∷ t) k (suc n) h blank e low = let less : suc n - 1 ≡ n = omega arith in rw (blank, e, less) (ap (λ (m : Option (List Tok)). behind out (option_map (λ ts. k ∷ ts) m)) (lex_from-drop n t) ∙ behind-one out k (lex_from 0 (drop n t)))

-- one blank less
pub lex-blank : (rest : List ℕ) → 0 < length rest → is_blank (slice_index rest 0) ≡ true → lex rest ≡ lex (drop 1 rest)
unfolding lex
lex-blank [] h blank = absurd (omega arith)
lex-blank (b ∷ t) h blank = rw blank refl
