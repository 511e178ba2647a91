-- A piece more changes no bound; a joined window changes those of its interval.
use Rattle.std.proofs.Common.{◌≡◌, ◌⊎◌, inl, inr, refl, true, false, not, ◌&&◌, if◌then◌else◌, List, [], ◌∷◌, Option, Some, None, arith, sym, ◌∙◌, ap, ap₂, subst}
use Rattle.std.specs.Prelude.{is_none}
use Rattle.std.proofs.lemmas.Bool.{cases_Bool, cond_both}
use Rattle.std.proofs.lemmas.Bool.Decides.{nat_tests}
use Rattle.pm_base.specs.Stamps.{stamp_lt, is_after, is_until, holds}
use Rattle.pm_base.specs.declared.stamp.Interval.{Interval}
use Rattle.pm_base.specs.declared.stamp.Stamp.{Stamp}
use Rattle.pm_base.specs.declared.value.Window.{Window}
use Rattle.pm_ranges.specs.declared.piece.Piece.{Piece}
use Rattle.pm_ranges.specs.Joins.{joined}
use Rattle.pm_ranges.specs.Known.{bound_of, parted, raised, raised_one, raised_rest}

-- what is before a stamp is before each later one
pub lt-le : (a s t : Stamp) → stamp_lt a s ≡ true → stamp_lt t s ≡ false → stamp_lt a t ≡ true
lt-le a s t h k = grind (arith, nat_tests)

pub le-lt : (a s t : Stamp) → stamp_lt s a ≡ false → stamp_lt s t ≡ true → stamp_lt a t ≡ true
le-lt a s t h k = grind (arith, nat_tests)

pub lt-not : (a b : Stamp) → stamp_lt a b ≡ true → stamp_lt b a ≡ false
lt-not a b h = grind (arith, nat_tests)

pub never-itself : (a : Stamp) → stamp_lt a a ≡ false
never-itself a = grind (arith, nat_tests)

pub le-trans : (a b c : Stamp) → stamp_lt b a ≡ false → stamp_lt c b ≡ false → stamp_lt c a ≡ false
le-trans a b c h k = grind (arith, nat_tests)

pub stamps-same : (a b : Stamp) → stamp_lt a b ≡ false → stamp_lt b a ≡ false → a ≡ b
stamps-same a b h k = grind (arith, nat_tests)

pub parted-same : (e : Stamp) (ps : List Piece) (rest : Option Window) (s : Stamp)
    → bound_of (parted e ps rest) rest s ≡ bound_of ps rest s
parted-same e [] rest s = elim (cases_Bool (stamp_lt e s)) [ inl h ↦ rw h refl | inr h ↦ rw h refl ]
parted-same e (p ∷ ps) rest s = elim (cases_Bool (stamp_lt p.until e)) [
  | inl h ↦ rw h (ap (λ o. if stamp_lt p.until s then o else p.window) (parted-same e ps rest s))
  | inr h ↦ elim (cases_Bool (stamp_lt e p.until)) [
    | inr k ↦ rw (h, k) refl
    | inl k ↦ elim (cases_Bool (stamp_lt e s)) [
      | inl m ↦ rw (h, k, m) refl
      | inr m ↦ (let n : stamp_lt p.until s ≡ false = le-trans s e p.until m (lt-not e p.until k) in rw (h, k, m, n) refl)
    ]
  ]
]

-- the first piece that ends at this stamp or later ends at it
abbrev pub Ends : Stamp → List Piece → Type 0
Ends e [] = ⊥
Ends e (p ∷ ps) = ((stamp_lt p.until e ≡ true) × Ends e ps) ⊎ (p.until ≡ e)

pub parted-ends : (e : Stamp) (ps : List Piece) (rest : Option Window) → Ends e (parted e ps rest)
parted-ends e [] rest = inr refl
parted-ends e (p ∷ ps) rest = elim (cases_Bool (stamp_lt p.until e)) [
  | inl h ↦ subst (λ b. Ends e (if b then p ∷ parted e ps rest else if stamp_lt e p.until then record { until = e; window = p.window } ∷ p ∷ ps else p ∷ ps)) (sym h) (inl (h, parted-ends e ps rest))
  | inr h ↦ subst (λ b. Ends e (if b then p ∷ parted e ps rest else if stamp_lt e p.until then record { until = e; window = p.window } ∷ p ∷ ps else p ∷ ps)) (sym h) (elim (cases_Bool (stamp_lt e p.until)) [
    | inl k ↦ subst (λ b. Ends e (if b then record { until = e; window = p.window } ∷ p ∷ ps else p ∷ ps)) (sym k) (inr refl)
    | inr k ↦ subst (λ b. Ends e (if b then record { until = e; window = p.window } ∷ p ∷ ps else p ∷ ps)) (sym k) (inr (stamps-same p.until e h k))
  ])
]

pub parted-keeps : (f e : Stamp) (ps : List Piece) (rest : Option Window) → Ends f ps → Ends f (parted e ps rest)
parted-keeps f e [] rest h = absurd h
parted-keeps f e (p ∷ ps) rest h = elim (cases_Bool (stamp_lt p.until e)) [
  | inl k ↦ subst (λ b. Ends f (if b then p ∷ parted e ps rest else if stamp_lt e p.until then record { until = e; window = p.window } ∷ p ∷ ps else p ∷ ps)) (sym k)
      (elim h [ inl g ↦ inl (g.0, parted-keeps f e ps rest g.1) | inr g ↦ inr g ])
  | inr k ↦ subst (λ b. Ends f (if b then p ∷ parted e ps rest else if stamp_lt e p.until then record { until = e; window = p.window } ∷ p ∷ ps else p ∷ ps)) (sym k) (elim (cases_Bool (stamp_lt e p.until)) [
    | inl m ↦ subst (λ b. Ends f (if b then record { until = e; window = p.window } ∷ p ∷ ps else p ∷ ps)) (sym m)
        (inl (elim h [ inl g ↦ lt-le e p.until f m (lt-not p.until f g.0) | inr g ↦ subst (λ z. stamp_lt e z ≡ true) g m ], h))
    | inr m ↦ subst (λ b. Ends f (if b then record { until = e; window = p.window } ∷ p ∷ ps else p ∷ ps)) (sym m) h
  ])
]

-- an end of an interval is before the stamp, or stands among the pieces
abbrev pub Ready : Option Stamp → Stamp → List Piece → Type 0
Ready None s ps = Unit {0}
Ready (Some e) s ps = (stamp_lt e s ≡ true) ⊎ Ends e ps

-- it stays so behind a piece that ends before the stamp
pub ready-next : (o : Option Stamp) (s : Stamp) (p : Piece) (ps : List Piece) → stamp_lt p.until s ≡ true
    → Ready o s (p ∷ ps) → Ready o s ps
ready-next None s p ps h r = tt
ready-next (Some e) s p ps h (inl r) = inl r
ready-next (Some e) s p ps h (inr (inl r)) = inr r.1
ready-next (Some e) s p ps h (inr (inr r)) = inl (subst (λ z. stamp_lt z s ≡ true) r h)

-- a stamp and the end of its piece are on one side of it
after-same : (o : Option Stamp) (s : Stamp) (p : Piece) (ps : List Piece) → stamp_lt p.until s ≡ false
    → Ready o s (p ∷ ps) → is_after o p.until ≡ is_after o s
after-same None s p ps h r = refl
after-same (Some e) s p ps h (inl r) = lt-le e s p.until r h ∙ sym r
after-same (Some e) s p ps h (inr (inl r)) = lt-not p.until e r.0 ∙ sym (le-trans s p.until e h (lt-not p.until e r.0))
after-same (Some e) s p ps h (inr (inr r)) = subst (λ z. stamp_lt z p.until ≡ stamp_lt z s) r (never-itself p.until ∙ sym h)

until-same : (o : Option Stamp) (s : Stamp) (p : Piece) (ps : List Piece) → stamp_lt p.until s ≡ false
    → Ready o s (p ∷ ps) → is_until o p.until ≡ is_until o s
until-same None s p ps h r = refl
until-same (Some e) s p ps h r = ap not (after-same (Some e) s p ps h r)

pub raised_one-until : (when : Interval) (w : Window) (p : Piece) → (raised_one when w p).until ≡ p.until
raised_one-until when w p = cond_both (holds when p.until) (record p { window = Some (joined w p.window) }) p (λ (q : Piece). q.until ≡ p.until) (λ _. refl) (λ _. refl)

pub raised_one-window : (when : Interval) (w : Window) (p : Piece)
    → (raised_one when w p).window ≡ (if holds when p.until then Some (joined w p.window) else p.window)
raised_one-window when w p = elim (cases_Bool (holds when p.until)) [ inl h ↦ rw h refl | inr h ↦ rw h refl ]

pub raised-at : (when : Interval) (w : Window) (ps : List Piece) (rest : Option Window) (s : Stamp)
    → Ready when.from s ps → Ready when.until s ps
    → bound_of (raised when w ps) (raised_rest when w rest) s ≡ (if holds when s then Some (joined w (bound_of ps rest s)) else bound_of ps rest s)
raised-at when w [] rest s f u = behind when.from when.until f u
  where
    behind : (from until : Option Stamp) → Ready from s [] → Ready until s []
        → (if is_none until then Some (joined w rest) else rest) ≡ (if is_after from s && is_until until s then Some (joined w rest) else rest)
    behind None None f u = refl
    behind None (Some e) f (inl u) = rw u refl
    behind None (Some e) f (inr u) = absurd u
    behind (Some e) None (inl f) u = rw f refl
    behind (Some e) None (inr f) u = absurd f
    behind (Some d) (Some e) (inl f) (inl u) = rw (f, u) refl
    behind (Some d) (Some e) f (inr u) = absurd u
    behind (Some d) (Some e) (inr f) u = absurd f
raised-at when w (p ∷ ps) rest s f u =
    go (λ h. raised-at when w ps rest s (ready-next when.from s p ps h f) (ready-next when.until s p ps h u)) (raised_one when w p) (raised_one-until when w p) (raised_one-window when w p)
  where
    go : (stamp_lt p.until s ≡ true → bound_of (raised when w ps) (raised_rest when w rest) s ≡ (if holds when s then Some (joined w (bound_of ps rest s)) else bound_of ps rest s))
        → (q : Piece) → q.until ≡ p.until → q.window ≡ (if holds when p.until then Some (joined w p.window) else p.window)
        → (if stamp_lt q.until s then bound_of (raised when w ps) (raised_rest when w rest) s else q.window)
        ≡ (if holds when s then Some (joined w (if stamp_lt p.until s then bound_of ps rest s else p.window)) else (if stamp_lt p.until s then bound_of ps rest s else p.window))
    go again q e is = elim (cases_Bool (stamp_lt p.until s)) [
      | inl h ↦ rw (e, h) (again h)
      | inr h ↦ (let side : holds when p.until ≡ holds when s = ap₂ (λ a b. a && b) (after-same when.from s p ps h f) (until-same when.until s p ps h u) in rw (e, h, is, side) refl)
    ]
