-- The tokens of a line.
use Rattle.std.proofs.Common.{◌≡◌, refl, arith, ℕ, ◌<◌, ◌≤◌, false, nat_lt, List, [], ◌∷◌, length, Some}
use Rattle.std.proofs.lemmas.Bool.Decides.{nat_tests}
use Rattle.pm_rules.specs.Reading.{Table}
use Rattle.pm_rules.specs.Rules.{after_read, after_tokens, scope_of}
use Rattle.pm_rules.specs.Statements.{statement}
use Rattle.pm_tokens.specs.Tokens.{Tok}
use Rattle.pm_rules.specs.declared.draft.Draft.{Draft}

not_past : (most n : ℕ) → n ≤ most → nat_lt most n ≡ false
not_past most n h = grind (arith, nat_tests)

-- some tokens, but not too many, on a line that isn't too late, are read
pub after_tokens-read : (t : Table) (version n : ℕ) (ks : List Tok) (d : Draft) → 0 < length ks → n ≤ 200 → length ks ≤ 64 →
    after_tokens t version n (Some ks) d ≡ after_read n (statement (scope_of t d) version ks) d
after_tokens-read t version n [] d some early few = absurd (omega arith)
after_tokens-read t version n (k ∷ ks) d some early few = rw (not_past 200 n early, not_past 64 (length (k ∷ ks)) few) refl
