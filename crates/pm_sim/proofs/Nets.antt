-- One step of one CLP keeps what covers the values, where it does so at that CLP.
use Rattle.pm_sim.specs.Bounds.{Item, Net, GrowsFit, Going, Comes, CoveredAt, Step}
use Rattle.pm_sim.specs.Bounds.Item.{Grows, Moves}
use Rattle.pm_ranges.specs.Fits.{Fits}
use Rattle.pm_ranges.specs.Known.{Known}
use Rattle.pm_base.specs.Windows.{inside}
use Rattle.std.proofs.lemmas.Bool.{cases_eq}
use Rattle.std.proofs.Common.{◌≡◌, inl, inr, ℕ, true, List, [], ◌∷◌, ◌++◌, refl, sym, subst}
use Rattle.pm_base.specs.declared.stamp.Stamp.{Stamp}
use Rattle.pm_base.specs.declared.value.Value.{Value}
use Rattle.pm_base.specs.declared.value.Window.{Window}
use Rattle.pm_sim.specs.Sims.{In}

pub grows_append : (s : Stamp) (u : Window) (a b : List Item) → GrowsFit s u a → GrowsFit s u b → GrowsFit s u (a ++ b)
grows_append s u [] b f g = g
grows_append s u (Grows r ∷ a) b f g = (f.0, grows_append s u a b f.1 g)
grows_append s u (Moves v ∷ a) b f g = grows_append s u a b f g

pub grows_left : (s : Stamp) (u : Window) (a b : List Item) → GrowsFit s u (a ++ b) → GrowsFit s u a
grows_left s u [] b f = tt
grows_left s u (Grows r ∷ a) b f = (f.0, grows_left s u a b f.1)
grows_left s u (Moves v ∷ a) b f = grows_left s u a b f

pub grows_right : (s : Stamp) (u : Window) (a b : List Item) → GrowsFit s u (a ++ b) → GrowsFit s u b
grows_right s u [] b f = f
grows_right s u (Grows r ∷ a) b f = grows_right s u a b f.1
grows_right s u (Moves v ∷ a) b f = grows_right s u a b f

pub goes_append : (u : Window) (f : ℕ → Value) (a b : List Item) → Going u f a → Going u f b → Going u f (a ++ b)
goes_append u f [] b g h = h
goes_append u f (Grows r ∷ a) b g h = goes_append u f a b g h
goes_append u f (Moves v ∷ a) b g h = (g.0, goes_append u f a b g.1 h)

pub goes_right : (u : Window) (f : ℕ → Value) (a b : List Item) → Going u f (a ++ b) → Going u f b
goes_right u f [] b g = g
goes_right u f (Grows r ∷ a) b g = goes_right u f a b g
goes_right u f (Moves v ∷ a) b g = goes_right u f a b g.1

pub goes_same : (u : Window) (f g : ℕ → Value) (a : List Item)
    → ((v : ℕ) → In (Moves v) a → g v ≡ f v) → Going u f a → Going u g a
goes_same u f g [] e h = tt
goes_same u f g (Grows r ∷ a) e h = goes_same u f g a (λ v i. e v (inr i)) h
goes_same u f g (Moves v ∷ a) e h =
    (subst (λ z. inside z u ≡ true) (sym (e v (inl refl))) h.0, goes_same u f g a (λ w i. e w (inr i)) h.1)

pub comes_append : (s : Stamp) (u : Window) (f : ℕ → Value) (a b : List Item)
    → Comes s u f a → (GrowsFit s u a → Comes s u f b) → Comes s u f (a ++ b)
comes_append s u f [] b g h = h tt
comes_append s u f (Grows r ∷ a) b g h = λ k. comes_append s u f a b (g k) (λ m. h (k, m))
comes_append s u f (Moves v ∷ a) b g h = (g.0, comes_append s u f a b g.1 h)

pub comes_right : (s : Stamp) (u : Window) (f : ℕ → Value) (a b : List Item)
    → Comes s u f (a ++ b) → GrowsFit s u a → Comes s u f b
comes_right s u f [] b g h = g
comes_right s u f (Grows r ∷ a) b g h = comes_right s u f a b (g h.0) h.1
comes_right s u f (Moves v ∷ a) b g h = comes_right s u f a b g.1 h

pub comes_same : (s : Stamp) (u : Window) (f g : ℕ → Value) (a : List Item)
    → ((v : ℕ) → In (Moves v) a → g v ≡ f v) → Comes s u f a → Comes s u g a
comes_same s u f g [] e h = tt
comes_same s u f g (Grows r ∷ a) e h = λ k. comes_same s u f g a (λ v i. e v (inr i)) (h k)
comes_same s u f g (Moves v ∷ a) e h =
    (subst (λ z. inside z u ≡ true) (sym (e v (inl refl))) h.0, comes_same s u f g a (λ w i. e w (inr i)) h.1)

module _ (port : ℕ → ℕ → Type 0) (self : (d : ℕ) → port d d → ⊥)
    (s : Stamp) (u : Window) (x y : ℕ) (took rest : List Item) (sent : ℕ → List Item) (old new : Net)
    (step : Step port s u x y took rest sent old new) (core : CoveredAt port s u old) where
  bound_of_other : (c d : ℕ) → (c ≡ x → ⊥) → Fits s u (new.bound c d) → Fits s u (old.bound c d)
  bound_of_other c d ne f = subst (λ (z : Known). Fits s u z) (step.bound_else c d ne) f

  not_port : (c : ℕ) → port x c → c ≡ x → ⊥
  not_port c p e = self x (subst (λ z. port x z) e p)

  -- the Grows of the link from d to x, and those taken
  grows_to : (d : ℕ)
      → (d ≡ x → ⊥) → Fits s u (new.bound x d) → GrowsFit s u (new.link d x) → GrowsFit s u (old.link d x)
  grows_to d ne f g = elim (cases_eq d y) [
    | inl e ↦ (let h : GrowsFit s u rest =
        subst (GrowsFit s u) (step.behind) (subst (λ z. GrowsFit s u (new.link z x)) e g) in
        let k : GrowsFit s u took = step.taken (subst (λ z. Fits s u (new.bound x z)) e f) in
        subst (λ z. GrowsFit s u (old.link z x))
        (sym e) (subst (GrowsFit s u) (sym step.head) (grows_append s u took rest k h)))
    | inr n ↦ subst (GrowsFit s u) (step.link_else d x ne (λ p. n p.0)) g
  ]

  heard_new : (d c : ℕ) → port d c → Fits s u (new.bound c d) → GrowsFit s u (new.link d c) → Fits s u (new.told d c)
  heard_new d c p f g = elim (cases_eq d x) [
    | inl e ↦ (let px : port x c = subst (λ z. port z c) e p in
        let gx : GrowsFit s u (old.link x c ++ sent c) =
        subst (GrowsFit s u) (step.link_out c) (subst (λ z. GrowsFit s u (new.link z c)) e g) in
        let fx : Fits s u (old.bound c x) =
        bound_of_other c x (not_port c px) (subst (λ z. Fits s u (new.bound c z)) e f) in
        subst (λ z. Fits s u (new.told z c)) (sym e) (step.heard
        c px fx (grows_left s u (old.link x c) (sent c) gx) (grows_right s u (old.link x c) (sent c) gx)))
    | inr n ↦ subst (λ (z : Known). Fits s u z) (sym (step.told_else d c n)) (elim (cases_eq c x) [
      | inl e ↦ (let p1 : port d x = subst (λ z. port d z) e p in
          let f1 : Fits s u (new.bound x d) = subst (λ z. Fits s u (new.bound z d)) e f in
          let g1 : GrowsFit s u (new.link d x) = subst (λ z. GrowsFit s u (new.link d z)) e g in
          subst (λ z. Fits s u (old.told d z)) (sym e) (core.heard d x p1 (step.bound_up d f1) (grows_to d n f1 g1)))
      | inr m ↦ core.heard d c p (bound_of_other c d m f) (subst (GrowsFit s u) (step.link_else d c n (λ q. m q.1)) g)
    ])
  ]

  here_new : (d c v : ℕ) → port d c → new.at v d ≡ true → Fits s u (new.told d c) → inside (new.val v s) u ≡ true
  here_new d c v p a f = elim (cases_eq d x) [
    | inl e ↦ step.here
        c v (subst (λ z. port z c) e p) (subst (λ z. new.at v z ≡ true) e a) (subst (λ z. Fits s u (new.told z c)) e f)
    | inr n ↦ (let k = step.at_else v d n a in
        subst (λ z. inside z u ≡ true)
        (sym k.1) (core.here d c v p k.0 (subst (λ (z : Known). Fits s u z) (step.told_else d c n) f)))
  ]

  through_new : (d c e : ℕ) → port d c → port d e → (c ≡ e → ⊥) → Fits s u (new.told d c) → Fits s u (new.bound d e)
  through_new d c e p q ne f = elim (cases_eq d x) [
    | inl k ↦ subst (λ z. Fits s u (new.bound z e)) (sym k) (step.through
        c e (subst (λ z. port z c) k p) (subst (λ z. port z e) k q) ne (subst (λ z. Fits s u (new.told z c)) k f))
    | inr n ↦ subst (λ (z : Known). Fits s u z) (sym (step.bound_else d e n))
        (core.through d c e p q ne (subst (λ (z : Known). Fits s u z) (step.told_else d c n) f))
  ]

  same : (d c v : ℕ) → In (Moves v) (old.link d c) → new.val v s ≡ old.val v s
  same d c v i = step.val_moves d c v i

  going_new : (d c : ℕ) → port d c → Fits s u (new.bound d c) → Going u (λ v. new.val v s) (new.link d c)
  going_new d c p f = elim (cases_eq d x) [
    | inl e ↦ (let px : port x c = subst (λ z. port z c) e p in
        let fx : Fits s u (new.bound x c) = subst (λ z. Fits s u (new.bound z c)) e f in
        let old_ = goes_same u
        (λ v. old.val v s) (λ v. new.val v s) (old.link x c) (same x c) (core.going x c px (step.bound_up c fx)) in
        subst (λ z. Going u (λ v. new.val v s) (new.link z c)) (sym e) (subst (Going u (λ v. new.val v s)) (sym
        (step.link_out c)) (goes_append u (λ v. new.val v s) (old.link x c) (sent c) old_ (step.going c px fx))))
    | inr n ↦ (let fo : Fits s u (old.bound d c) = subst (λ (z : Known). Fits s u z) (step.bound_else d c n) f in
        let old_ = goes_same u (λ v. old.val v s) (λ v. new.val v s) (old.link d c) (same d c) (core.going d c p fo) in
        elim (cases_eq d y) [
          | inl e ↦ elim (cases_eq c x) [
            | inl k ↦ (let a : Going u (λ v. new.val v s) (old.link y x) = subst (λ z. Going u
                (λ v. new.val v s) (old.link y z)) k (subst (λ z. Going u (λ v. new.val v s) (old.link z c)) e old_) in
                let b : Going u (λ v. new.val v s) (took ++ rest) = subst (Going u (λ v. new.val v s)) step.head a in
                let g : Going u (λ v. new.val v s) (new.link y x) = subst
                (Going u (λ v. new.val v s)) (sym step.behind) (goes_right u (λ v. new.val v s) took rest b) in
                subst (λ z. Going u (λ v. new.val v s) (new.link z c))
                (sym e) (subst (λ z. Going u (λ v. new.val v s) (new.link y z)) (sym k) g))
            | inr k ↦ subst (Going u (λ v. new.val v s)) (sym (step.link_else d c n (λ q. k q.1))) old_
          ]
          | inr k ↦ subst (Going u (λ v. new.val v s)) (sym (step.link_else d c n (λ q. k q.0))) old_
        ])
  ]

  coming_new : (d c : ℕ) → port d c → Fits s u (new.bound c d) → Comes s u (λ v. new.val v s) (new.link d c)
  coming_new d c p f = elim (cases_eq d x) [
    | inl e ↦ (let px : port x c = subst (λ z. port z c) e p in
        let fx : Fits s u (old.bound c x) =
        bound_of_other c x (not_port c px) (subst (λ z. Fits s u (new.bound c z)) e f) in
        let old_ =
        comes_same s u (λ v. old.val v s) (λ v. new.val v s) (old.link x c) (same x c) (core.coming x c px fx) in
        subst (λ z. Comes s u (λ v. new.val v s) (new.link z c)) (sym e)
        (subst (Comes s u (λ v. new.val v s)) (sym (step.link_out c))
        (comes_append s u (λ v. new.val v s) (old.link x c) (sent c) old_ (λ g. step.coming c px fx g))))
    | inr n ↦ elim (cases_eq c x) [
      | inl k ↦ (let p1 : port d x = subst (λ z. port d z) k p in
          let f1 : Fits s u (new.bound x d) = subst (λ z. Fits s u (new.bound z d)) k f in
          let old_ = comes_same s u (λ v. old.val v s)
          (λ v. new.val v s) (old.link d x) (same d x) (core.coming d x p1 (step.bound_up d f1)) in
          subst (λ z. Comes s u (λ v. new.val v s) (new.link d z)) (sym k) (elim (cases_eq d y) [
            | inl e ↦ (let a : Comes s u (λ v. new.val v s) (took ++ rest) = subst (Comes s u (λ v. new.val v s))
                step.head (subst (λ z. Comes s u (λ v. new.val v s) (old.link z x)) e old_) in
                let b : Comes s u (λ v. new.val v s) rest = comes_right
                s u (λ v. new.val v s) took rest a (step.taken (subst (λ z. Fits s u (new.bound x z)) e f1)) in
                subst (λ z. Comes s u (λ v. new.val v s) (new.link z x))
                (sym e) (subst (Comes s u (λ v. new.val v s)) (sym step.behind) b))
            | inr m ↦ subst (Comes s u (λ v. new.val v s)) (sym (step.link_else d x n (λ q. m q.0))) old_
          ]))
      | inr k ↦ (let old_ = comes_same s u (λ v. old.val v s)
          (λ v. new.val v s) (old.link d c) (same d c) (core.coming d c p (bound_of_other c d k f)) in
          subst (Comes s u (λ v. new.val v s)) (sym (step.link_else d c n (λ q. k q.1))) old_)
    ]
  ]

  pub covered_step : CoveredAt port s u new
  covered_step =
      record { heard = heard_new; here = here_new; through = through_new; going = going_new; coming = coming_new }
