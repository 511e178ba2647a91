-- How pieces lie: found by halving, and kept rising and upright.
use Rattle.std.proofs.Common.{◌≡◌, inl, inr, refl, ℕ, zero, suc, ◌<◌, ◌≤◌, ◌==◌, Bool, true, false, not, ◌&&◌, ◌||◌, if◌then◌else◌, List, [], ◌∷◌, ◌++◌, map, filter, take, drop, set, length, get_or, Option, Some, None, arith, sym, ◌∙◌, ap, ap₂, subst}
use Rattle.std.specs.Prelude.{slice_get, is_none}
use Rattle.std.specs.List.{AllWithin}
use Rattle.std.proofs.lemmas.Bool.{cases_Bool, cond_both}
use Rattle.std.proofs.lemmas.Bool.Decides.{nat_tests}
use Rattle.pm_base.specs.Stamps.{stamp_lt, is_below, is_after, holds}
use Rattle.pm_base.specs.Windows.{is_inverted}
use Rattle.pm_base.specs.declared.stamp.Interval.{Interval}
use Rattle.pm_base.specs.declared.stamp.Line.{Line}
use Rattle.pm_base.specs.declared.stamp.Line.TheVariants as line
use Rattle.pm_base.specs.declared.stamp.Stamp.{Stamp}
use Rattle.pm_base.specs.declared.value.Window.{Window}
use Rattle.pm_ranges.specs.declared.piece.Piece.{Piece}
use Rattle.pm_ranges.specs.Joins.{joined, lies_in}
use Rattle.pm_ranges.specs.Known.{Known, bound_of, bound_at, ends_covered, grown_pieces, parted, parted_at, raised, raised_rest}
use Rattle.pm_ranges.specs.Laid.{Above, AllUpright, IsLaid, Rising, Upright, before, ends_at, pieces_cover}
use Rattle.pm_ranges.proofs.Parting.{never-itself, raised_one-until, raised_one-window}
use Rattle.pm_ranges.proofs.Windows.{upright-join}

lt-trans : (a b c : Stamp) → stamp_lt a b ≡ true → stamp_lt b c ≡ true → stamp_lt a c ≡ true
lt-trans a b c h k = grind (arith, nat_tests)

after-next : (x : Option Stamp) (e t : Stamp) → is_after x e ≡ true → stamp_lt e t ≡ true → is_after x t ≡ true
after-next None e t h k = refl
after-next (Some d) e t h k = lt-trans d e t h k

-- ---- the place of a stamp

above-at : (e : Stamp) (ps : List Piece) → Above (Some e) ps → (j : ℕ) (d : Piece) → j < length ps
    → stamp_lt e (get_or ps j d).until ≡ true
above-at e [] a j d low = absurd (omega (arith, low))
above-at e (p ∷ ps) a zero d low = a.0
above-at e (p ∷ ps) a (suc j) d low = above-at e ps a.1 j d (omega (arith, low))

pub rising-parted : (ps : List Piece) (s : Stamp) → Rising ps → (i j : ℕ) (d : Piece) → i ≤ j → j < length ps
    → stamp_lt (get_or ps j d).until s ≡ true → stamp_lt (get_or ps i d).until s ≡ true
rising-parted [] s r i j d le low h = absurd (omega (arith, low))
rising-parted (p ∷ ps) s r zero zero d le low h = h
rising-parted (p ∷ ps) s r zero (suc j) d le low h = lt-trans p.until (get_or ps j d).until s (above-at p.until ps r.0 j d (omega (arith, low))) h
rising-parted (p ∷ ps) s r (suc i) zero d le low h = absurd (omega (arith, le))
rising-parted (p ∷ ps) s r (suc i) (suc j) d le low h = rising-parted ps s r.1 i j d (omega (arith, le)) (omega (arith, low)) h

pub point-before : (ps : List Piece) (s : Stamp) (i : ℕ) → i ≤ length ps
    → AllWithin (λ (p : Piece). stamp_lt p.until s ≡ true) ps 0 i
    → AllWithin (λ (p : Piece). stamp_lt p.until s ≡ false) ps i (length ps) → i ≡ before s ps
point-before [] s i le first last = omega (arith, le)
point-before (p ∷ ps) s zero le first last = (let h : stamp_lt p.until s ≡ false = last 0 p (omega arith) (omega arith) in rw h refl)
point-before (p ∷ ps) s (suc i) le first last =
    let h : stamp_lt p.until s ≡ true = first 0 p (omega arith) (omega arith) in
    rw h (ap suc (point-before ps s i (omega (arith, le)) (λ k d lo hi. first (suc k) d (omega (arith, lo)) (omega (arith, hi))) (λ k d lo hi. last (suc k) d (omega (arith, lo)) (omega (arith, hi)))))

-- ---- the pieces that end below a line

below-trans : (a b : Stamp) (l : Line) → stamp_lt a b ≡ true → is_below b l ≡ true → is_below a l ≡ true
below-trans a b (line.At t) h k = lt-trans a b t h k
below-trans a b line.End h k = refl

pub below-parted : (ps : List Piece) (l : Line) → Rising ps → (i j : ℕ) (d : Piece) → i ≤ j → j < length ps
    → is_below (get_or ps j d).until l ≡ true → is_below (get_or ps i d).until l ≡ true
below-parted [] l r i j d le low h = absurd (omega (arith, low))
below-parted (p ∷ ps) l r zero zero d le low h = h
below-parted (p ∷ ps) l r zero (suc j) d le low h =
    below-trans p.until (get_or ps j d).until l (above-at p.until ps r.0 j d (omega (arith, low))) h
below-parted (p ∷ ps) l r (suc i) zero d le low h = absurd (omega (arith, le))
below-parted (p ∷ ps) l r (suc i) (suc j) d le low h =
    below-parted ps l r.1 i j d (omega (arith, le)) (omega (arith, low)) h

-- they stand first
pub rest-stays : (ps : List Piece) (l : Line) (i : ℕ) → i ≤ length ps
    → AllWithin (λ (p : Piece). is_below p.until l ≡ true) ps 0 i
    → AllWithin (λ (p : Piece). is_below p.until l ≡ false) ps i (length ps)
    → drop i ps ≡ filter (λ (p : Piece). not (is_below p.until l)) ps
rest-stays [] l zero le first last = refl
rest-stays [] l (suc i) le first last = absurd (omega (arith, le))
rest-stays (p ∷ ps) l zero le first last =
    let h : is_below p.until l ≡ false = last 0 p (omega arith) (omega arith) in
    rw h (ap (λ z. p ∷ z) (rest-stays ps l zero (omega arith) (λ k d lo hi. absurd (omega (arith, hi)))
    (λ k d lo hi. last (suc k) d (omega arith) (omega (arith, hi)))))
rest-stays (p ∷ ps) l (suc i) le first last =
    let h : is_below p.until l ≡ true = first 0 p (omega arith) (omega arith) in
    rw h (rest-stays ps l i (omega (arith, le)) (λ k d lo hi. first (suc k) d (omega (arith, lo)) (omega (arith, hi)))
    (λ k d lo hi. last (suc k) d (omega (arith, lo)) (omega (arith, hi))))

pub bound-some : (ps : List Piece) (rest : Option Window) (s : Stamp) (q : Piece)
    → slice_get ps (before s ps) ≡ Some q → q.window ≡ bound_of ps rest s
bound-some [] rest s q h = absurd (cc)
bound-some (p ∷ ps) rest s q h = elim (cases_Bool (stamp_lt p.until s)) [
  | inl k ↦ rw k (bound-some ps rest s q (subst (λ b. slice_get (p ∷ ps) (if b then suc (before s ps) else 0) ≡ Some q) k h))
  | inr k ↦ (let g : slice_get (p ∷ ps) 0 ≡ Some q = subst (λ b. slice_get (p ∷ ps) (if b then suc (before s ps) else 0) ≡ Some q) k h in
      let same : p ≡ q = cc in rw k (ap (λ (z : Piece). z.window) (sym same)))
]

pub bound-none : (ps : List Piece) (rest : Option Window) (s : Stamp) → slice_get ps (before s ps) ≡ None
    → rest ≡ bound_of ps rest s
bound-none [] rest s h = refl
bound-none (p ∷ ps) rest s h = elim (cases_Bool (stamp_lt p.until s)) [
  | inl k ↦ rw k (bound-none ps rest s (subst (λ b. slice_get (p ∷ ps) (if b then suc (before s ps) else 0) ≡ None) k h))
  | inr k ↦ absurd (let g : slice_get (p ∷ ps) 0 ≡ None = subst (λ b. slice_get (p ∷ ps) (if b then suc (before s ps) else 0) ≡ None) k h in cc)
]

-- ---- a piece more

same-not : (a b : Stamp) → (a.time == b.time && a.agent == b.agent) ≡ true → stamp_lt b a ≡ false
same-not a b h = grind (arith, nat_tests)

other-lt : (a b : Stamp) → (a.time == b.time && a.agent == b.agent) ≡ false → stamp_lt a b ≡ false → stamp_lt b a ≡ true
other-lt a b h k = grind (arith, nat_tests)

pub parted-there : (e : Stamp) (ps : List Piece) (rest : Option Window) → ends_at e (drop (before e ps) ps) ≡ true
    → ps ≡ parted e ps rest
parted-there e [] rest h = absurd (cc)
parted-there e (p ∷ ps) rest h = elim (cases_Bool (stamp_lt p.until e)) [
  | inl k ↦ rw k (ap (λ z. p ∷ z) (parted-there e ps rest (subst (λ b. ends_at e (drop (if b then suc (before e ps) else 0) (p ∷ ps)) ≡ true) k h)))
  | inr k ↦ (let g : ends_at e (p ∷ ps) ≡ true = subst (λ b. ends_at e (drop (if b then suc (before e ps) else 0) (p ∷ ps)) ≡ true) k h in
      let m = same-not p.until e g in rw (k, m) refl)
]

pub parted-here : (e : Stamp) (ps : List Piece) (rest : Option Window) → ends_at e (drop (before e ps) ps) ≡ false → take (before e ps) ps ++ record { until = e; window = bound_of ps rest e } ∷ drop (before e ps) ps ≡ parted e ps rest
parted-here e [] rest h = refl
parted-here e (p ∷ ps) rest h = elim (cases_Bool (stamp_lt p.until e)) [
  | inl k ↦ rw k (ap (λ z. p ∷ z) (parted-here e ps rest (subst (λ b. ends_at e (drop (if b then suc (before e ps) else 0) (p ∷ ps)) ≡ false) k h)))
  | inr k ↦ (let g : ends_at e (p ∷ ps) ≡ false = subst (λ b. ends_at e (drop (if b then suc (before e ps) else 0) (p ∷ ps)) ≡ false) k h in
      let m = other-lt p.until e g k in rw (k, m) refl)
]

-- ---- joining in place

pub raise-here : {X : Type 0} (f : X → X) (xs : List X) (i : ℕ) (d : X) → i < length xs
    → get_or (map f (take i xs) ++ drop i xs) i d ≡ get_or xs i d
raise-here f [] i d low = absurd (omega (arith, low))
raise-here f (x ∷ xs) zero d low = refl
raise-here f (x ∷ xs) (suc i) d low = raise-here f xs i d (omega (arith, low))

pub raise-step : {X : Type 0} (f : X → X) (xs : List X) (i : ℕ) (d : X) → i < length xs
    → set (map f (take i xs) ++ drop i xs) i (f (get_or xs i d)) ≡ map f (take (suc i) xs) ++ drop (suc i) xs
raise-step f [] i d low = absurd (omega (arith, low))
raise-step f (x ∷ xs) zero d low = refl
raise-step f (x ∷ xs) (suc i) d low = ap (λ z. f x ∷ z) (raise-step f xs i d (omega (arith, low)))

pub upright-at : (ps : List Piece) → AllUpright ps → (i : ℕ) (d : Piece) → i < length ps
    → Upright (get_or ps i d).window
upright-at [] a i d low = absurd (omega (arith, low))
upright-at (p ∷ ps) a zero d low = a.0
upright-at (p ∷ ps) a (suc i) d low = upright-at ps a.1 i d (omega (arith, low))

-- ---- rising

above-parted : (x : Option Stamp) (e : Stamp) (ps : List Piece) (rest : Option Window) → is_after x e ≡ true
    → Above x ps → Above x (parted e ps rest)
above-parted x e [] rest h a = (h, tt)
above-parted x e (p ∷ ps) rest h a =
    cond_both (stamp_lt p.until e) (p ∷ parted e ps rest) (if stamp_lt e p.until then record { until = e; window = p.window } ∷ p ∷ ps else p ∷ ps) (Above x)
    (λ _. (a.0, above-parted x e ps rest h a.1))
    (λ _. cond_both (stamp_lt e p.until) (record { until = e; window = p.window } ∷ p ∷ ps) (p ∷ ps) (Above x) (λ _. (h, a)) (λ _. a))

above-lower : (d e : Stamp) (ps : List Piece) → stamp_lt d e ≡ true → Above (Some e) ps → Above (Some d) ps
above-lower d e [] h a = tt
above-lower d e (p ∷ ps) h a = (lt-trans d e p.until h a.0, above-lower d e ps h a.1)

pub rising-kept : (e : Stamp) (ps : List Piece) (rest : Option Window) → Rising ps → Rising (parted e ps rest)
rising-kept e [] rest r = (tt, tt)
rising-kept e (p ∷ ps) rest r =
    cond_both (stamp_lt p.until e) (p ∷ parted e ps rest) (if stamp_lt e p.until then record { until = e; window = p.window } ∷ p ∷ ps else p ∷ ps) Rising
    (λ k. (above-parted (Some p.until) e ps rest k r.0, rising-kept e ps rest r.1))
    (λ _. cond_both (stamp_lt e p.until) (record { until = e; window = p.window } ∷ p ∷ ps) (p ∷ ps) Rising (λ k. ((k, above-lower e p.until ps k r.0), r)) (λ _. r))

pub rising-at : (o : Option Stamp) (ps : List Piece) (rest : Option Window) → Rising ps → Rising (parted_at o ps rest)
rising-at None ps rest r = r
rising-at (Some e) ps rest r = rising-kept e ps rest r

above-raised : (x : Option Stamp) (when : Interval) (w : Window) (ps : List Piece) → Above x ps
    → Above x (raised when w ps)
above-raised x when w [] a = tt
above-raised x when w (p ∷ ps) a = (subst (λ z. is_after x z ≡ true) (sym (raised_one-until when w p)) a.0, above-raised x when w ps a.1)

rising-raised : (when : Interval) (w : Window) (ps : List Piece) → Rising ps → Rising (raised when w ps)
rising-raised when w [] r = tt
rising-raised when w (p ∷ ps) r = (subst (λ z. Above (Some z) (raised when w ps)) (sym (raised_one-until when w p)) (above-raised (Some p.until) when w ps r.0), rising-raised when w ps r.1)

above-filter : (x : Option Stamp) (q : Piece → Bool) (ps : List Piece) → Above x ps → Above x (filter q ps)
above-filter x q [] a = tt
above-filter x q (p ∷ ps) a = (let again = above-filter x q ps a.1 in cond_both (q p) (p ∷ filter q ps) (filter q ps) (Above x) (λ _. (a.0, again)) (λ _. again))

rising-filter : (q : Piece → Bool) (ps : List Piece) → Rising ps → Rising (filter q ps)
rising-filter q [] r = tt
rising-filter q (p ∷ ps) r = (let again = rising-filter q ps r.1 in cond_both (q p) (p ∷ filter q ps) (filter q ps) Rising (λ _. (above-filter (Some p.until) q ps r.0, again)) (λ _. again))

-- ---- upright

upright-filter : (q : Piece → Bool) (ps : List Piece) → AllUpright ps → AllUpright (filter q ps)
upright-filter q [] a = tt
upright-filter q (p ∷ ps) a = (let again = upright-filter q ps a.1 in cond_both (q p) (p ∷ filter q ps) (filter q ps) AllUpright (λ _. (a.0, again)) (λ _. again))

pub upright-parted : (e : Stamp) (ps : List Piece) (rest : Option Window) → AllUpright ps → Upright rest
    → AllUpright (parted e ps rest)
upright-parted e [] rest a r = (r, tt)
upright-parted e (p ∷ ps) rest a r =
    cond_both (stamp_lt p.until e) (p ∷ parted e ps rest) (if stamp_lt e p.until then record { until = e; window = p.window } ∷ p ∷ ps else p ∷ ps) AllUpright
    (λ _. (a.0, upright-parted e ps rest a.1 r))
    (λ _. cond_both (stamp_lt e p.until) (record { until = e; window = p.window } ∷ p ∷ ps) (p ∷ ps) AllUpright (λ _. (a.0, a)) (λ _. a))

pub upright-parts : (o : Option Stamp) (ps : List Piece) (rest : Option Window) → AllUpright ps → Upright rest
    → AllUpright (parted_at o ps rest)
upright-parts None ps rest a r = a
upright-parts (Some e) ps rest a r = upright-parted e ps rest a r

upright-joined : (w : Window) (o : Option Window) → is_inverted w ≡ false → Upright o → Upright (Some (joined w o))
upright-joined w None h r = h
upright-joined w (Some u) h r = upright-join w u h r

upright-raised : (when : Interval) (w : Window) (ps : List Piece) → is_inverted w ≡ false → AllUpright ps
    → AllUpright (raised when w ps)
upright-raised when w [] h a = tt
upright-raised when w (p ∷ ps) h a = (
  subst Upright (sym (raised_one-window when w p)) (cond_both (holds when p.until) (Some (joined w p.window)) p.window Upright (λ _. upright-joined w p.window h a.0) (λ _. a.0)),
  upright-raised when w ps h a.1,
)

upright-rest : (when : Interval) (w : Window) (rest : Option Window) → is_inverted w ≡ false → Upright rest
    → Upright (raised_rest when w rest)
upright-rest when w rest h r = go when.until
  where
    go : (o : Option Stamp) → Upright (if is_none o then Some (joined w rest) else rest)
    go None = upright-joined w rest h r
    go (Some u) = r

pub laid-trimmed : (l : Line) (ps : List Piece) (rest : Option Window) → IsLaid ps rest
    → IsLaid (filter (λ p. not (is_below p.until l)) ps) rest
laid-trimmed l ps rest i = record {
  rising = rising-filter (λ p. not (is_below p.until l)) ps i.rising;
  upright = upright-filter (λ p. not (is_below p.until l)) ps i.upright;
  behind = i.behind;
}

pub laid-grown : (when : Interval) (w : Window) (ps : List Piece) (rest : Option Window) → is_inverted w ≡ false
    → IsLaid ps rest
    → IsLaid (grown_pieces when w ps rest) (raised_rest when w rest)
laid-grown when w ps rest h i = record {
  rising = rising-raised when w (parted_at when.until (parted_at when.from ps rest) rest) (rising-at when.until (parted_at when.from ps rest) rest (rising-at when.from ps rest i.rising));
  upright = upright-raised when w (parted_at when.until (parted_at when.from ps rest) rest) h (upright-parts when.until (parted_at when.from ps rest) rest (upright-parts when.from ps rest i.upright i.behind) i.behind);
  behind = upright-rest when w rest h i.behind;
}

-- ---- the bound at the end of a piece is its own

covers-in : (b : Known) (when : Interval) (w : Window) (x : Option Stamp) (ps : List Piece) → Rising ps → Above x ps
    → ((t : Stamp) → is_after x t ≡ true → bound_at b t ≡ bound_of ps b.rest t)
    → pieces_cover b.line when w ps ≡ ends_covered b when w ps
covers-in b when w x [] r a agrees = refl
covers-in b when w x (p ∷ ps) r a agrees =
    let own : bound_at b p.until ≡ p.window = agrees p.until a.0 ∙ ap (λ z. if z then bound_of ps b.rest p.until else p.window) (never-itself p.until) in
    let again = covers-in b when w (Some p.until) ps r.1 r.0 (λ t k. agrees t (after-next x p.until t a.0 k) ∙ ap (λ z. if z then bound_of ps b.rest t else p.window) k) in
    ap₂ (λ o z. (is_below p.until b.line || (not (holds when p.until) || lies_in w o)) && z) (sym own) again

no_lowest : (ps : List Piece) → Above None ps
no_lowest [] = tt
no_lowest (p ∷ ps) = (refl, no_lowest ps)

pub covers-same : (b : Known) (when : Interval) (w : Window) → Rising b.pieces
    → pieces_cover b.line when w b.pieces ≡ ends_covered b when w b.pieces
covers-same b when w r = covers-in b when w None b.pieces r (no_lowest b.pieces) (λ t k. refl)

-- the same of pieces that were lent
pub covers-lent : (k b : Known) (when : Interval) (w : Window) (items : List Piece) (cover : Bool) → k ≡ b
    → Rising k.pieces → items ≡ k.pieces → cover ≡ pieces_cover k.line when w items
    → cover ≡ ends_covered b when w b.pieces
covers-lent k b when w items cover same r lent is =
    is ∙ ap (pieces_cover k.line when w) lent ∙ covers-same k when w r ∙ ap (λ (z : Known). ends_covered z when w z.pieces) same

-- where the piece was put into a copy
pub parted-put : (e : Stamp) (ps items : List Piece) (rest o : Option Window) (k : ℕ) → items ≡ ps → k ≡ before e ps
    → o ≡ bound_of ps rest e → ends_at e (drop k ps) ≡ false
    → take k items ++ record { until = e; window = o } ∷ drop k items ≡ parted e ps rest
parted-put e ps items rest o k is at own there =
    ap (λ xs. take k xs ++ record { until = e; window = o } ∷ drop k xs) is
    ∙ ap (λ j. take j ps ++ record { until = e; window = o } ∷ drop j ps) at
    ∙ ap (λ z. take (before e ps) ps ++ record { until = e; window = z } ∷ drop (before e ps) ps) own
    ∙ parted-here e ps rest (subst (λ j. ends_at e (drop j ps) ≡ false) at there)
