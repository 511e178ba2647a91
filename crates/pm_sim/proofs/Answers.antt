-- The answer of a query: what it is in a map of values, and the kept hits against it.
use Rattle.pm_tables.specs.Tables.{no_value}
use Rattle.pm_saved.specs.declared.kept.KeptHit.{KeptHit}
use Rattle.pm_saved.specs.Senses.{answer, kept_hit, shown_before}
use Rattle.std.proofs.Common.{◌≡◌, ℕ, zero, suc, ◌+◌, ◌<◌, ◌≤◌, ◌⊎◌, inl, inr, ◌==◌, true, false, List, [], ◌∷◌, ◌++◌, length, get_or, slice_get, refl, arith, ap, sym, ◌∙◌, subst, ap₂, Some, None}
use Rattle.std.proofs.lemmas.Bool.{cases_Bool, cases_eq}
use Rattle.std.proofs.lemmas.Bool.Decides.{nat_tests}
use Rattle.pm_base.specs.Layouts.{class_row}
use Rattle.pm_base.specs.Windows.{inside}
use Rattle.pm_base.specs.declared.layout.ClassRow.{ClassRow}
use Rattle.pm_base.specs.declared.value.Hit.{Hit}
use Rattle.pm_base.specs.declared.value.Query.TheVariants as query
use Rattle.pm_base.specs.declared.value.Value.{Value}
use Rattle.pm_base.specs.declared.value.Window.{Window}
use Rattle.pm_model.proofs.HitLaws.{hits-one, hits-class}
use Rattle.pm_model.specs.Hits.{hits, shown, shown_from, shown_in}
use Rattle.pm_periods.specs.Records.{hit_in}
use Rattle.pm_plan.specs.declared.plan.Plan.{Plan}
use Rattle.pm_sim.specs.Sims.{KeptOk, class_at, vars_of}

-- of the m variables from i on, those with a value in the window
abbrev pub class_hits : (ℕ → Value) → Window → ℕ → ℕ → List Hit
class_hits val w i zero = []
class_hits val w i (suc m) = shown_before i (hit_in (val i) w) (class_hits val w (suc i) m)

pub class_hits_same : (f g : ℕ → Value) (w : Window) (i m : ℕ)
    → ((v : ℕ) → i ≤ v → v < i + m → f v ≡ g v) → class_hits f w i m ≡ class_hits g w i m
class_hits_same f g w i zero h = refl
class_hits_same f g w i (suc m) h =
    ap₂ (λ x hs. shown_before i (hit_in x w) hs)
    (h i (omega arith) (omega arith)) (class_hits_same f g w (suc i) m (λ v lo hi. h v (omega arith) (omega arith)))

get_there : (xs : List Value) (i : ℕ) → i < length xs → slice_get xs i ≡ Some (get_or xs i no_value)
get_there [] i lt = absurd (omega arith)
get_there (x ∷ xs) zero lt = refl
get_there (x ∷ xs) (suc i) lt = get_there xs i (omega arith)

pub one_is : (classes : List ClassRow) (values : List Value) (v : ℕ)
    → v < length values → hits classes values (query.One v) ≡ record { var = v; value = get_or values v no_value } ∷ []
one_is classes values v lt = hits-one classes values v ∙ ap (shown v) (get_there values v lt)

shown_one : (w : Window) (i : ℕ) (v : Value) (hs : List Hit)
    → shown_in w i (Some v) ++ hs ≡ shown_before i (hit_in v w) hs
shown_one w i v hs = elim (cases_Bool (inside v w)) [ inl e ↦ rw e | inr e ↦ rw e ]

shown_all : (values : List Value) (w : Window) (i m : ℕ)
    → i + m ≤ length values → shown_from w values i m ≡ class_hits (λ v. get_or values v no_value) w i m
shown_all values w i zero h = refl
shown_all values w i (suc m) h =
    let next : i + 1 ≡ suc i = omega arith in
    ap₂ (λ o hs. shown_in w i o ++ hs) (get_there values i (omega arith))
    (ap (λ j. shown_from w values j m) next ∙ shown_all values w (suc i) m (omega arith))
    ∙ shown_one w i (get_or values i no_value) (class_hits (λ v. get_or values v no_value) w (suc i) m)

pub class_is : (classes : List ClassRow) (values : List Value) (k : ℕ) (w : Window)
    → (class_row classes k).first + (class_row classes k).count ≤ length values
    → hits classes values (query.Class k w)
    ≡ class_hits (λ v. get_or values v no_value) w (class_row classes k).first (class_row classes k).count
class_is classes values k w h =
    hits-class classes values k w ∙ shown_all values w (class_row classes k).first (class_row classes k).count h

pub kept_none : (p : Plan) (k lo v : ℕ) (hs : List KeptHit) → KeptOk p k lo hs → v < lo → kept_hit v hs ≡ None
kept_none p k lo v [] o lt = refl
kept_none p k lo v (h ∷ hs) o lt =
    let lo' = o.0 in
    let e : (h.var == v) ≡ false = grind (arith, nat_tests, lo') in
    rw e (kept_none p k (suc h.var) v hs o.3 (omega arith))

kept_behind : (h : KeptHit) (hs : List KeptHit) (v : ℕ) → (h.var ≡ v → ⊥) → kept_hit v (h ∷ hs) ≡ kept_hit v hs
kept_behind h hs v ne = (let e : (h.var == v) ≡ false = grind (arith, nat_tests, ne) in rw e)

kept_here : (h : KeptHit) (hs : List KeptHit) (v : ℕ) → h.var ≡ v → kept_hit v (h ∷ hs) ≡ h.hit
kept_here h hs v e = (let f : (h.var == v) ≡ true = grind (arith, nat_tests, e) in rw f)

-- i to i + m are the variables of class k from i on
pub answer_is : (p : Plan) (k : ℕ) (w : Window) (val : ℕ → Value) (i m : ℕ) (hs : List KeptHit)
    → ((v : ℕ) → i ≤ v → v < i + m → (v < vars_of p) × (class_at p v ≡ k))
    → ((v : ℕ) → v < vars_of p → class_at p v ≡ k → v < i + m) → KeptOk p k i hs
    → ((v : ℕ) → v < vars_of p → class_at p v ≡ k → i ≤ v → kept_hit v hs ≡ hit_in (val v) w)
    → class_hits val w i m ≡ answer hs
answer_is p k w val i zero [] at end o hit = refl
answer_is p k w val i zero (h ∷ hs) at end o hit =
    absurd (let lo = o.0 in let hi = end h.var o.1 o.2 in omega (arith, lo, hi))
answer_is p k w val i (suc m) [] at end o hit =
    let here = at i (omega arith) (omega arith) in
    ap (λ x. shown_before i x (class_hits val w (suc i) m)) (sym (hit i here.0 here.1 (omega arith)))
    ∙ answer_is p k w val (suc i) m [] (λ v lo hi. at v (omega arith) (omega arith))
    (λ v lt e. (let x = end v lt e in omega (arith, x))) tt (λ v lt e lo. hit v lt e (omega arith))
answer_is p k w val i (suc m) (h ∷ hs) at end o hit =
    let here = at i (omega arith) (omega arith) in
    let at' : (v : ℕ) → suc i ≤ v → v < suc i + m → (v < vars_of p) × (class_at p v ≡ k) =
    λ v lo hi. at v (omega arith) (omega arith) in
    let end' : (v : ℕ) → v < vars_of p → class_at p v ≡ k → v < suc i + m =
    λ v lt e. (let x = end v lt e in omega (arith, x)) in
    go (cases_eq h.var i) here at' end' (λ ys o' h'. answer_is p k w val (suc i) m ys at' end' o' h')
  where
    go : (h.var ≡ i) ⊎ (h.var ≡ i → ⊥) → (i < vars_of p) × (class_at p i ≡ k)
        → ((v : ℕ) → suc i ≤ v → v < suc i + m → (v < vars_of p) × (class_at p v ≡ k))
        → ((v : ℕ) → v < vars_of p → class_at p v ≡ k → v < suc i + m)
        → ((ys : List KeptHit) → KeptOk p k (suc i) ys → ((v : ℕ) → v < vars_of p
        → class_at p v ≡ k → suc i ≤ v → kept_hit v ys ≡ hit_in (val v) w) → class_hits val w (suc i) m ≡ answer ys)
        → class_hits val w i (suc m) ≡ answer (h ∷ hs)
    go (inr ne) here at' end' again =
        let lo' = o.0 in
        ap (λ x. shown_before i x (class_hits val w (suc i) m)) (sym (hit i here.0 here.1 (omega arith))
        ∙ kept_none p k (suc i) i (h ∷ hs) (omega (arith, lo', ne), o.1, o.2, o.3) (omega arith))
        ∙ again (h ∷ hs) (omega (arith, lo', ne), o.1, o.2, o.3) (λ v lt ec lo. hit v lt ec (omega arith))
    go (inl e) here at' end' again =
        let hh : hit_in (val i) w ≡ h.hit = sym (hit i here.0 here.1 (omega arith)) ∙ kept_here h hs i e in
        let rest = again hs (subst (λ z. KeptOk p k (suc z) hs) e o.3) (λ v lt ec lo.
        sym (kept_behind h hs v (λ f. let x = e in omega (arith, x, f, lo))) ∙ hit v lt ec (omega arith)) in
        ap₂ (λ x ys. shown_before i x ys) hh rest ∙ ap (λ z. shown_before z h.hit (answer hs)) (sym e)
