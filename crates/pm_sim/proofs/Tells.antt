-- What telling and growing do to the windows that a bound within in; and each event keeps what covers the values.
use Rattle.pm_sim.specs.Bounds.{grow_all, Item, tells, Net, GrowsFit, Going, Comes, CoveredAt}
use Rattle.pm_sim.specs.Bounds.Item.{Grows, Moves}
use Rattle.pm_ranges.specs.Fits.{Fits}
use Rattle.pm_ranges.specs.Joins.{Row, Small, AllIn}
use Rattle.pm_ranges.specs.Known.{Known, covers, grown, trimmed, grown_pieces, raised_rest}
use Rattle.pm_base.specs.Windows.{inside}
use Rattle.pm_sim.proofs.Ranges.{grow_fits, grow_back, grow_line, trim_fits, fits_trim}
use Rattle.std.proofs.lemmas.Bool.{cases_Bool, cond_both, cases_eq}
use Rattle.std.proofs.Common.{◌≡◌, ◌⊎◌, inl, inr, ℕ, true, cond, List, [], ◌∷◌, ◌++◌, refl, sym, ◌∙◌, subst}
use Rattle.pm_base.specs.declared.stamp.Line.{Line}
use Rattle.pm_base.specs.declared.stamp.Stamp.{Stamp}
use Rattle.pm_base.specs.declared.value.Value.{Value}
use Rattle.pm_base.specs.declared.value.Window.{Window}
use Rattle.pm_periods.specs.Records.{record_value}
use Rattle.pm_sim.specs.Sims.{In, NotPast, told}
use Rattle.pm_sim.proofs.Nets.{goes_same, comes_same, covered_step}

np_grow : (r : Row) (b : Known) (s : Stamp) → NotPast b.line s → NotPast (grown r.when r.window b).line s
np_grow r b s np = subst (λ z. NotPast z s) (sym (grow_line r b)) np

pub grow_all_fits : (rs : List Row) (b : Known) (s : Stamp) (u : Window)
    → NotPast b.line s → Fits s u (grow_all rs b) → Fits s u b × AllIn rs s u
grow_all_fits [] b s u np f = (f, tt)
grow_all_fits (r ∷ rs) b s u np f =
    let again = grow_all_fits rs (grown r.when r.window b) s u (np_grow r b s np) f in
    let one = grow_fits r b s u np again.0 in
    (one.0, (one.1, again.1))

pub grow_all_back : (rs : List Row) (b : Known) (s : Stamp) (u : Window)
    → NotPast b.line s → Fits s u b → AllIn rs s u → Fits s u (grow_all rs b)
grow_all_back [] b s u np f g = f
grow_all_back (r ∷ rs) b s u np f g =
    grow_all_back rs (grown r.when r.window b) s u (np_grow r b s np) (grow_back r b s u np f g.0) g.1

pub grow_all_line : (rs : List Row) (b : Known) → (grow_all rs b).line ≡ b.line
grow_all_line [] b = refl
grow_all_line (r ∷ rs) b = grow_all_line rs (grown r.when r.window b) ∙ grow_line r b

-- where the old rows fit and what is sent fits, what is then told fits
pub tells_back : (rs : List Row) (b : Known) (s : Stamp) (u : Window)
    → NotPast b.line s → Fits s u b → GrowsFit s u (tells rs b) → Fits s u (grow_all rs b)
tells_back [] b s u np f g = f
tells_back (r ∷ rs) b s u np f g = elim (cases_Bool (covers b r.when r.window)) [
  | inl c ↦ (let h : GrowsFit s u (tells rs (grown r.when r.window b)) = subst (λ z.
      GrowsFit s u (cond z (tells rs (grown r.when r.window b)) (Grows r ∷ tells rs (grown r.when r.window b)))) c g in
      let k : Fits s u (grown r.when r.window b) = subst (λ z. Fits s u (cond z b (record b {
        pieces = grown_pieces r.when r.window b.pieces b.rest;
        rest = raised_rest r.when r.window b.rest;
      }))) (sym c) f in
      tells_back rs (grown r.when r.window b) s u (np_grow r b s np) k h)
  | inr c ↦ (let h : GrowsFit s u (Grows r ∷ tells rs (grown r.when r.window b)) = subst (λ z.
      GrowsFit s u (cond z (tells rs (grown r.when r.window b)) (Grows r ∷ tells rs (grown r.when r.window b)))) c g in
      tells_back rs (grown r.when r.window b) s u (np_grow r b s np) (grow_back r b s u np f h.0) h.1)
]

abbrev pub NoMoves : List Item → Type 0
NoMoves [] = Unit {0}
NoMoves (Grows r ∷ m) = NoMoves m
NoMoves (Moves v ∷ m) = ⊥

pub tells_no_moves : (rs : List Row) (b : Known) → NoMoves (tells rs b)
tells_no_moves [] b = tt
tells_no_moves (r ∷ rs) b = (let again = tells_no_moves rs (grown r.when r.window b) in
    cond_both (covers b r.when r.window) (tells rs (grown r.when r.window b))
    (Grows r ∷ tells rs (grown r.when r.window b)) NoMoves (λ _. again) (λ _. again))

pub goes_none : (u : Window) (f : ℕ → Value) (m : List Item) → NoMoves m → Going u f m
goes_none u f [] h = tt
goes_none u f (Grows r ∷ m) h = goes_none u f m h
goes_none u f (Moves v ∷ m) h = absurd h

pub comes_none : (s : Stamp) (u : Window) (f : ℕ → Value) (m : List Item) → NoMoves m → Comes s u f m
comes_none s u f [] h = tt
comes_none s u f (Grows r ∷ m) h = λ _. comes_none s u f m h
comes_none s u f (Moves v ∷ m) h = absurd h

-- where nothing but CLP x and its links changes
pub record Frame (x y : ℕ) (took rest : List Item) (sent : ℕ → List Item) (old new : Net) : Type 0 where
  pub told_else : (d c : ℕ) → (d ≡ x → ⊥) → new.told d c ≡ old.told d c
  pub bound_else : (d c : ℕ) → (d ≡ x → ⊥) → new.bound d c ≡ old.bound d c
  pub not_self : y ≡ x → ⊥
  pub head : old.link y x ≡ took ++ rest
  pub behind : new.link y x ≡ rest
  pub link_else : (d c : ℕ) → (d ≡ x → ⊥) → ((d ≡ y) × (c ≡ x) → ⊥) → new.link d c ≡ old.link d c
  pub link_out : (c : ℕ) → new.link x c ≡ old.link x c ++ sent c

module _ (port : ℕ → ℕ → Type 0) (self : (d : ℕ) → port d d → ⊥)
    (s : Stamp) (u : Window) (x y : ℕ) (took rest : List Item) (sent : ℕ → List Item) (old new : Net)
    (frame : Frame x y took rest sent old new) (core : CoveredAt port s u old) where
  move_fits : (b c : Known) → c ≡ b → Fits s u b → Fits s u c
  move_fits b c e f = subst (λ (z : Known). Fits s u z) (sym e) f

  -- rows are told at every port; the value of v may change, and is then among them
  pub value_step : (v : ℕ) (rows : List Row)
      → took ≡ [] → ((c : ℕ) → port x c → sent c ≡ tells rows (old.told x c))
      → ((c : ℕ) → port x c → new.told x c ≡ grow_all rows (old.told x c))
      → ((c : ℕ) → new.bound x c ≡ old.bound x c) → ((c : ℕ) → port x c → NotPast (old.told x c).line s)
      → ((w d : ℕ) → new.at w d ≡ old.at w d)
      → ((d : ℕ) → old.at v d ≡ true → d ≡ x) → ((d c : ℕ) → In (Moves v) (old.link d c) → ⊥)
      → ((w : ℕ) → (w ≡ v → ⊥) → new.val w s ≡ old.val w s)
      → (new.val v s ≡ old.val v s) ⊎ (AllIn rows s u → inside (new.val v s) u ≡ true)
      → CoveredAt port s u new
  value_step v rows pt out told bound line at only still others record_value =
      covered_step port self s u x y took rest sent old new (record {
        told_else = frame.told_else;
        bound_else = frame.bound_else;
        not_self = frame.not_self;
        head = frame.head;
        behind = frame.behind;
        link_else = frame.link_else;
        link_out = frame.link_out;
        at_else =
            λ w d n a.
            (let b = sym (at w d) ∙ a in (b, others w (λ e. n (only d (subst (λ z. old.at z d ≡ true) e b)))));
        val_moves = λ d c w i. others w (λ e. still d c (subst (λ z. In (Moves z) (old.link d c)) e i));
        bound_up = λ c f. move_fits (new.bound x c) (old.bound x c) (sym (bound c)) f;
        taken = λ f. subst (GrowsFit s u) (sym pt) tt;
        heard = λ c p f g h. move_fits (grow_all rows (old.told x c)) (new.told x c) (told c p)
            (tells_back rows (old.told x c) s u (line c p) (core.heard x c p f g) (subst (GrowsFit s u) (out c p) h));
        here = λ c w p a f. (let b = sym (at w x) ∙ a in let g = parts c p f in elim (cases_eq w v) [
          | inl e ↦ subst (λ z. inside (new.val z s) u ≡ true) (sym e) (elim record_value [
            | inl k ↦
                subst (λ z. inside z u ≡ true) (sym k) (core.here x c v p (subst (λ z. old.at z x ≡ true) e b) g.0)
            | inr k ↦ k g.1
          ])
          | inr n ↦ subst (λ z. inside z u ≡ true) (sym (others w n)) (core.here x c w p b g.0)
        ]);
        through =
            λ c e p q n f.
            move_fits (old.bound x e) (new.bound x e) (bound e) (core.through x c e p q n (parts c p f).0);
        going = λ c p f. goes_none u (λ w. new.val w s) (sent c) (quiet c p);
        coming = λ c p f g. comes_none s u (λ w. new.val w s) (sent c) (quiet c p);
      }) core
    where
      parts : (c : ℕ) → port x c → Fits s u (new.told x c) → Fits s u (old.told x c) × AllIn rows s u
      parts c p f = grow_all_fits rows
          (old.told x c) s u (line c p) (move_fits (new.told x c) (grow_all rows (old.told x c)) (sym (told c p)) f)

      quiet : (c : ℕ) → port x c → NoMoves (sent c)
      quiet c p = subst NoMoves (sym (out c p)) (tells_no_moves rows (old.told x c))

  -- nothing of the class
  pub plain_step : took ≡ [] → ((c : ℕ) → port x c → sent c ≡ [])
      → ((c : ℕ) → port x c → new.told x c ≡ old.told x c) → ((c : ℕ) → new.bound x c ≡ old.bound x c)
      → ((v d : ℕ) → new.at v d ≡ old.at v d) → ((v : ℕ) → new.val v s ≡ old.val v s)
      → CoveredAt port s u new
  plain_step pt ps told bound at val = covered_step port self s u x y took rest sent old new (record {
    told_else = frame.told_else;
    bound_else = frame.bound_else;
    not_self = frame.not_self;
    head = frame.head;
    behind = frame.behind;
    link_else = frame.link_else;
    link_out = frame.link_out;
    at_else = λ w d n a. (sym (at w d) ∙ a, val w);
    val_moves = λ d c w i. val w;
    bound_up = λ c f. move_fits (new.bound x c) (old.bound x c) (sym (bound c)) f;
    taken = λ f. subst (GrowsFit s u) (sym pt) tt;
    heard = λ c p f g h. move_fits (old.told x c) (new.told x c) (told c p) (core.heard x c p f g);
    here = λ c w p a f. subst (λ z. inside z u ≡ true) (sym (val w))
        (core.here x c w p (sym (at w x) ∙ a) (move_fits (new.told x c) (old.told x c) (sym (told c p)) f));
    through = λ c e p q n f. move_fits (old.bound x e) (new.bound x e)
        (bound e) (core.through x c e p q n (move_fits (new.told x c) (old.told x c) (sym (told c p)) f));
    going = λ c p f. subst (Going u (λ w. new.val w s)) (sym (ps c p)) tt;
    coming = λ c p f g. subst (Comes s u (λ w. new.val w s)) (sym (ps c p)) tt;
  }) core

  -- a Grow of y: the bound of y grows, and it is told at the other ports
  pub grow_step : (r : Row)
      → took ≡ Grows r ∷ [] → ((c : ℕ) → (c ≡ y → ⊥) → port x c → sent c ≡ tells (r ∷ []) (old.told x c)) → sent y ≡ []
      → ((c : ℕ) → (c ≡ y → ⊥) → port x c → new.told x c ≡ grow_all (r ∷ []) (old.told x c))
      → new.told x y ≡ old.told x y
      → new.bound x y ≡ grown r.when r.window (old.bound x y) → ((c : ℕ) → (c ≡ y → ⊥) → new.bound x c ≡ old.bound x c)
      → ((c : ℕ) → port x c → NotPast (old.told x c).line s) → NotPast (old.bound x y).line s
      → ((v d : ℕ) → new.at v d ≡ old.at v d) → ((v : ℕ) → new.val v s ≡ old.val v s) → CoveredAt port s u new
  grow_step r et out py told told_y bound_y bound line line_y at val =
      covered_step port self s u x y took rest sent old new (record {
        told_else = frame.told_else;
        bound_else = frame.bound_else;
        not_self = frame.not_self;
        head = frame.head;
        behind = frame.behind;
        link_else = frame.link_else;
        link_out = frame.link_out;
        at_else = λ v d n a. (sym (at v d) ∙ a, val v);
        val_moves = λ d c v i. val v;
        bound_up = λ c f. elim (cases_eq c y) [
          | inl e ↦
              subst (λ z. Fits s u (old.bound x z)) (sym e) (grown_y (subst (λ z. Fits s u (new.bound x z)) e f)).0
          | inr n ↦ move_fits (new.bound x c) (old.bound x c) (sym (bound c n)) f
        ];
        taken = λ f. subst (GrowsFit s u) (sym et) ((grown_y f).1, tt);
        heard = λ c p f g h. elim (cases_eq c y) [
          | inl e ↦ subst (λ z. Fits s u (new.told x z)) (sym e) (move_fits
              (old.told x y) (new.told x y) told_y (subst (λ z. Fits s u (old.told x z)) e (core.heard x c p f g)))
          | inr n ↦ move_fits (grow_all (r ∷ []) (old.told x c)) (new.told x c) (told c n p) (tells_back
              (r ∷ []) (old.told x c) s u (line c p) (core.heard x c p f g) (subst (GrowsFit s u) (out c n p) h))
        ];
        here = λ c v p a f.
            subst (λ z. inside z u ≡ true) (sym (val v)) (core.here x c v p (sym (at v x) ∙ a) (told_up c p f));
        through = λ c e p q n f. elim (cases_eq e y) [
          | inl k ↦ (let nc : c ≡ y → ⊥ = λ j. n (j ∙ sym k) in
              let g = grow_all_fits (r ∷ []) (old.told x c)
              s u (line c p) (move_fits (new.told x c) (grow_all (r ∷ []) (old.told x c)) (sym (told c nc p)) f) in
              let b = subst (λ z. Fits s u (old.bound x z)) k (core.through x c e p q n g.0) in
              subst (λ z. Fits s u (new.bound x z)) (sym k) (move_fits (grown r.when r.window (old.bound x y))
              (new.bound x y) bound_y (grow_back r (old.bound x y) s u line_y b g.1.0)))
          | inr k ↦ move_fits (old.bound x e) (new.bound x e) (bound e k) (core.through x c e p q n (told_up c p f))
        ];
        going = λ c p f. goes_none u (λ v. new.val v s) (sent c) (quiet c p);
        coming = λ c p f g. comes_none s u (λ v. new.val v s) (sent c) (quiet c p);
      }) core
    where
      grown_y : Fits s u (new.bound x y) → Fits s u (old.bound x y) × Small s u r
      grown_y f = grow_fits r
          (old.bound x y) s u line_y (move_fits (new.bound x y) (grown r.when r.window (old.bound x y)) (sym bound_y) f)

      told_up : (c : ℕ) → port x c → Fits s u (new.told x c) → Fits s u (old.told x c)
      told_up c p f = elim (cases_eq c y) [
        | inl e ↦ subst (λ z. Fits s u (old.told x z))
            (sym e) (move_fits (new.told x y) (old.told x y) (sym told_y) (subst (λ z. Fits s u (new.told x z)) e f))
        | inr n ↦ (grow_all_fits (r ∷ []) (old.told x c)
            s u (line c p) (move_fits (new.told x c) (grow_all (r ∷ []) (old.told x c)) (sym (told c n p)) f)).0
      ]

      quiet : (c : ℕ) → port x c → NoMoves (sent c)
      quiet c p = elim (cases_eq c y) [
        | inl e ↦ subst (λ z. NoMoves (sent z)) (sym e) (subst NoMoves (sym py) tt)
        | inr n ↦ subst NoMoves (sym (out c n p)) (tells_no_moves (r ∷ []) (old.told x c))
      ]

  -- the record of v leaves for q, with rows that hold its value and nothing else
  pub leave_step : (v q : ℕ) (rows : List Row)
      → took ≡ [] → port x q → sent q ≡ Moves v ∷ []
      → ((c : ℕ) → port x c → (c ≡ q → ⊥) → sent c ≡ []) → ((c : ℕ) → port x c → new.told x c ≡ old.told x c)
      → new.bound x q ≡ grow_all rows (old.bound x q)
      → ((c : ℕ) → (c ≡ q → ⊥) → new.bound x c ≡ old.bound x c) → NotPast (old.bound x q).line s
      → old.at v x ≡ true → ((w d : ℕ) → new.at w d ≡ true → old.at w d ≡ true) → ((w : ℕ) → new.val w s ≡ old.val w s)
      → (AllIn rows s u → inside (new.val v s) u ≡ true) → (inside (new.val v s) u ≡ true → AllIn rows s u)
      → CoveredAt port s u new
  leave_step v q rows pt pxq out ps told bound_q bound line av at val rows_in in_rows =
      covered_step port self s u x y took rest sent old new (record {
        told_else = frame.told_else;
        bound_else = frame.bound_else;
        not_self = frame.not_self;
        head = frame.head;
        behind = frame.behind;
        link_else = frame.link_else;
        link_out = frame.link_out;
        at_else = λ w d n a. (at w d a, val w);
        val_moves = λ d c w i. val w;
        bound_up = λ c f. elim (cases_eq c q) [
          | inl e ↦
              subst (λ z. Fits s u (old.bound x z)) (sym e) (grown_q (subst (λ z. Fits s u (new.bound x z)) e f)).0
          | inr n ↦ move_fits (new.bound x c) (old.bound x c) (sym (bound c n)) f
        ];
        taken = λ f. subst (GrowsFit s u) (sym pt) tt;
        heard = λ c p f g h. move_fits (old.told x c) (new.told x c) (told c p) (core.heard x c p f g);
        here = λ c w p a f. subst (λ z. inside z u ≡ true)
            (sym (val w)) (core.here x c w p (at w x a) (move_fits (new.told x c) (old.told x c) (sym (told c p)) f));
        through =
            λ c e p r n f. (let g = move_fits (new.told x c) (old.told x c) (sym (told c p)) f in elim (cases_eq e q) [
              | inl k ↦ (let b = subst (λ z. Fits s u (old.bound x z)) k (core.through x c e p r n g) in
                  let i = core.here x c v p av g in
                  subst (λ z. Fits s u (new.bound x z))
                  (sym k) (move_fits (grow_all rows (old.bound x q)) (new.bound x q) bound_q (grow_all_back
                  rows (old.bound x q) s u line b (in_rows (subst (λ z. inside z u ≡ true) (sym (val v)) i)))))
              | inr k ↦ move_fits (old.bound x e) (new.bound x e) (bound e k) (core.through x c e p r n g)
            ]);
        going = λ c p f. elim (cases_eq c q) [
          | inl e ↦ (let i = rows_in (grown_q (subst (λ z. Fits s u (new.bound x z)) e f)).1 in
              subst
              (λ z. Going u (λ w. new.val w s) (sent z)) (sym e) (subst (Going u (λ w. new.val w s)) (sym out) (i, tt)))
          | inr n ↦ subst (Going u (λ w. new.val w s)) (sym (ps c p n)) tt
        ];
        coming = λ c p f g. elim (cases_eq c q) [
          | inl e ↦ (let i = core.here x c v p av (core.heard x c p f g) in
              subst (λ z. Comes s u (λ w. new.val w s) (sent z)) (sym e)
              (subst (Comes s u (λ w. new.val w s)) (sym out) (subst (λ z. inside z u ≡ true) (sym (val v)) i, tt)))
          | inr n ↦ subst (Comes s u (λ w. new.val w s)) (sym (ps c p n)) tt
        ];
      }) core
    where
      grown_q : Fits s u (new.bound x q) → Fits s u (old.bound x q) × AllIn rows s u
      grown_q f = grow_all_fits
          rows (old.bound x q) s u line (move_fits (new.bound x q) (grow_all rows (old.bound x q)) (sym bound_q) f)

  -- the record of v comes to x from y
  pub arrive_step : (v : ℕ) (rows : List Row)
      → took ≡ Moves v ∷ [] → port x y → port y x → ((c : ℕ) → port x c → sent c ≡ [])
      → new.told x y ≡ grow_all rows (old.told x y)
      → ((c : ℕ) → (c ≡ y → ⊥) → new.told x c ≡ old.told x c) → ((c : ℕ) → new.bound x c ≡ old.bound x c)
      → NotPast (old.told x y).line s
      → ((w : ℕ) → new.at w x ≡ true → (w ≡ v) ⊎ (old.at w x ≡ true))
      → ((w d : ℕ) → (d ≡ x → ⊥) → new.at w d ≡ true → old.at w d ≡ true) → ((w : ℕ) → new.val w s ≡ old.val w s)
      → (AllIn rows s u → inside (old.val v s) u ≡ true) → (inside (old.val v s) u ≡ true → AllIn rows s u)
      → CoveredAt port s u new
  arrive_step v rows et pxy pyx ps told_y told bound line at at_else val rows_in in_rows =
      covered_step port self s u x y took rest sent old new (record {
        told_else = frame.told_else;
        bound_else = frame.bound_else;
        not_self = frame.not_self;
        head = frame.head;
        behind = frame.behind;
        link_else = frame.link_else;
        link_out = frame.link_out;
        at_else = λ w d n a. (at_else w d n a, val w);
        val_moves = λ d c w i. val w;
        bound_up = λ c f. move_fits (new.bound x c) (old.bound x c) (sym (bound c)) f;
        taken = λ f. subst (GrowsFit s u) (sym et) tt;
        heard = λ c p f g h. elim (cases_eq c y) [
          | inl e ↦ (let t : Fits s u (old.told x y) = subst (λ z. Fits s u (old.told x z)) e (core.heard x c p f g) in
              let i : Going u (λ w. old.val w s) (Moves v ∷ [] ++ rest) =
              subst (λ z. Going u (λ w. old.val w s) (z ++ rest)) et (subst (Going u (λ w. old.val w s))
              frame.head (core.going y x pyx (subst (λ z. Fits s u (old.bound z x)) e f))) in
              subst (λ z. Fits s u (new.told x z)) (sym e) (move_fits (grow_all rows (old.told x y))
              (new.told x y) told_y (grow_all_back rows (old.told x y) s u line t (in_rows i.0))))
          | inr n ↦ move_fits (old.told x c) (new.told x c) (told c n) (core.heard x c p f g)
        ];
        here = λ c w p a f. subst (λ z. inside z u ≡ true) (sym (val w)) (elim (at w a) [
          | inl e ↦ subst (λ z. inside (old.val z s) u ≡ true) (sym e) (arrives c p f)
          | inr b ↦ core.here x c w p b (told_up c f)
        ]);
        through =
            λ c e p q n f. move_fits (old.bound x e) (new.bound x e) (bound e) (core.through x c e p q n (told_up c f));
        going = λ c p f. subst (Going u (λ w. new.val w s)) (sym (ps c p)) tt;
        coming = λ c p f g. subst (Comes s u (λ w. new.val w s)) (sym (ps c p)) tt;
      }) core
    where
      told_up : (c : ℕ) → Fits s u (new.told x c) → Fits s u (old.told x c)
      told_up c f = elim (cases_eq c y) [
        | inl e ↦ subst (λ z. Fits s u (old.told x z)) (sym e) (grow_all_fits rows (old.told x y) s u line (move_fits
            (new.told x y) (grow_all rows (old.told x y)) (sym told_y) (subst (λ z. Fits s u (new.told x z)) e f))).0
        | inr n ↦ move_fits (new.told x c) (old.told x c) (sym (told c n)) f
      ]

      arrives : (c : ℕ) → port x c → Fits s u (new.told x c) → inside (old.val v s) u ≡ true
      arrives c p f = elim (cases_eq c y) [
        | inl e ↦ rows_in (grow_all_fits rows (old.told x y) s u line (move_fits
            (new.told x y) (grow_all rows (old.told x y)) (sym told_y) (subst (λ z. Fits s u (new.told x z)) e f))).1
        | inr n ↦ (let b = core.through x c y p pxy n (move_fits (new.told x c) (old.told x c) (sym (told c n)) f) in
            let i : Comes s u (λ w. old.val w s) (Moves v ∷ [] ++ rest) =
            subst (λ z. Comes s u (λ w. old.val w s) (z ++ rest))
            et (subst (Comes s u (λ w. old.val w s)) frame.head (core.coming y x pyx b)) in
            i.0)
      ]

-- Commit: bounds and told are trimmed, what a record's value is at a stamp not below the line stays
module _ (port : ℕ → ℕ → Type 0) (both : (d c : ℕ) → port d c → port c d)
    (l : Line) (s : Stamp) (low : NotPast l s) (u : Window) (old new : Net) (core : CoveredAt port s u old)
    (told : (d c : ℕ) → port d c → new.told d c ≡ trimmed l (old.told d c))
    (bound : (d c : ℕ) → port d c → new.bound d c ≡ trimmed l (old.bound d c))
    (link : (d c : ℕ) → new.link d c ≡ old.link d c)
    (at : (v d : ℕ) → new.at v d ≡ old.at v d) (val : (v : ℕ) → new.val v s ≡ old.val v s) where
  told_old : (d c : ℕ) → port d c → Fits s u (new.told d c) → Fits s u (old.told d c)
  told_old d c p f = trim_fits l (old.told d c) s u low (subst (λ (z : Known). Fits s u z) (told d c p) f)

  told_new : (d c : ℕ) → port d c → Fits s u (old.told d c) → Fits s u (new.told d c)
  told_new d c p f = subst (λ (z : Known). Fits s u z) (sym (told d c p)) (fits_trim l (old.told d c) s u low f)

  bound_old : (d c : ℕ) → port d c → Fits s u (new.bound d c) → Fits s u (old.bound d c)
  bound_old d c p f = trim_fits l (old.bound d c) s u low (subst (λ (z : Known). Fits s u z) (bound d c p) f)

  bound_new : (d c : ℕ) → port d c → Fits s u (old.bound d c) → Fits s u (new.bound d c)
  bound_new d c p f = subst (λ (z : Known). Fits s u z) (sym (bound d c p)) (fits_trim l (old.bound d c) s u low f)

  pub commit_step : CoveredAt port s u new
  commit_step = record {
    heard = λ d c p f g.
        told_new d c p (core.heard d c p (bound_old c d (both d c p) f) (subst (GrowsFit s u) (link d c) g));
    here = λ d c v p a f.
        subst (λ z. inside z u ≡ true) (sym (val v)) (core.here d c v p (sym (at v d) ∙ a) (told_old d c p f));
    through = λ d c e p q n f. bound_new d e q (core.through d c e p q n (told_old d c p f));
    going = λ d c p f. subst (Going u (λ v. new.val v s)) (sym (link d c)) (goes_same
        u (λ v. old.val v s) (λ v. new.val v s) (old.link d c) (λ v i. val v) (core.going d c p (bound_old d c p f)));
    coming = λ d c p f. subst (Comes s u (λ v. new.val v s)) (sym (link d c)) (comes_same s u (λ v. old.val v s)
        (λ v. new.val v s) (old.link d c) (λ v i. val v) (core.coming d c p (bound_old c d (both d c p) f)));
  }
