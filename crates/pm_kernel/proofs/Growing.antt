-- Known bytes that lack something of what was to be written.
use Rattle.std.proofs.Common.{◌≡◌, ◌∙◌, ℕ, suc, ◌+◌, ◌<◌, List, [], ◌∷◌, ◌++◌, length, length-append, take, Option, refl, ap, arith}
use Rattle.std.proofs.lemmas.List.{take_at, take-append-le}
use Rattle.std.specs.Io.KnownBytes.{Appends}
use Rattle.pm_io.specs.Causes.{AppendsPart}
use Rattle.pm_io.proofs.Known.{appends-append, appends-none}

take-over : (xs ys zs : List ℕ) (k : ℕ) → k < length ys → take (length xs + k) (xs ++ (ys ++ zs)) ≡ xs ++ take k ys
take-over [] ys zs k lt =
    let e : 0 + k ≡ k = omega arith in
    ap (λ n. take n (ys ++ zs)) e ∙ take-append-le k ys zs (omega (arith, lt))
take-over (x ∷ xs) ys zs k lt =
    let e : length (x ∷ xs) + k ≡ suc (length xs + k) = omega arith in
    ap (λ n. take n (x ∷ (xs ++ (ys ++ zs)))) e ∙ ap (λ v. x ∷ v) (take-over xs ys zs k lt)

-- what lacks a byte of a later part lacks a byte of the whole
pub part-within : (old now new : Option (List ℕ)) (xs ys zs : List ℕ)
    → Appends old now xs → AppendsPart now new ys → AppendsPart old new (xs ++ (ys ++ zs))
part-within old now new xs ys zs a p = (
  length xs + p.0,
  omega (arith, p.1, length-append xs (ys ++ zs), length-append ys zs),
  rw (take-over xs ys zs p.0 p.1) (appends-append old now new xs (take p.0 ys) a p.2),
)
