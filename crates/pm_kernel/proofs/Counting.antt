-- Counts along a list of entries.
use Rattle.std.proofs.Common.{◌≡◌, ◌∙◌, ℕ, ◌+◌, ◌<◌, List, [], ◌∷◌, length, take, get_or, ap, arith, append-nil, length-append, refl, sym}
use Rattle.std.proofs.lemmas.List.{take_more}
use Rattle.std.specs.List.{flat_map}
use Rattle.pm_base.specs.declared.rows.Entry.{Entry}
use Rattle.pm_kernel.specs.Counts.{counted, counted_on, hits_in, writes_in}
use Rattle.pm_kernel.specs.declared.writing.Counts.{Counts}
use Rattle.pm_kernel.proofs.Lists.{counted-more, length-more}

abbrev pub counts_of : ℕ → ℕ → ℕ → Counts
counts_of a b c = record { steps = a; hits = b; writes = c }

pub counts-eq : (a b c u v w : ℕ) → a ≡ u → b ≡ v → c ≡ w → counts_of a b c ≡ counts_of u v w
counts-eq a b c u v w e f g = rw (e, f, g) refl

-- one count: what was counted, and what one entry has
one-more : {B : Type 0} (n : ℕ) (f : Entry → List B) (es : List Entry) (i : ℕ) (x : Entry) → i < length es
    → x ≡ get_or es i x → counted (counted (n + length (flat_map f (take i es))) + length (flat_map f (x ∷ [])))
    ≡ counted (n + length (flat_map f (take (i + 1) es)))
one-more n f es i x lt is =
    let one : length (flat_map f (x ∷ [])) ≡ length (f x) = ap length (append-nil (f x)) in
    let more = length-more f es i x lt is in
    omega (arith, one, more)

pub counts-more : (c : Counts) (es : List Entry) (i : ℕ) (x : Entry) → i < length es → x ≡ get_or es i x
    → counted_on (counted_on c (take i es)) (x ∷ []) ≡ counted_on c (take (i + 1) es)
counts-more c es i x lt is =
    counts-eq _ _ _ _ _ _
    (let more = ap length (take_more es i x lt) in
    let parts = length-append (take i es) (get_or es i x ∷ []) in
    omega (arith, more, parts))
    (one-more c.hits (λ (e : Entry). flat_map (λ a. a) e.answers) es i x lt is)
    (one-more c.writes (λ (e : Entry). e.writes) es i x lt is)
